use mathlib.Core.Path.{refl, sym, ◌∙◌}
use lib.Dec.{eqb}
use borrow.Author.Tests.{ne_eqb}
use Rattle.std.proofs.lemmas.Result.{err_from_is_err_and}
use Rattle.loader.proofs.Begin.{read_told}
use Rattle.execute.proofs.Fits.{mapped}
use Rattle.engine.proofs.Judged.{unread-so, refused-7, refused-12, refused-9, refused-10, refused-11, passed-so, prepared-so, narrow-so, one-short}
use Rattle.engine.proofs.judge.judge.Goals as goal
use Rattle.engine.proofs.judge.judge.Goals.{then-ins-ne16-via-then-ins-ne16, then-ins-ne16-via-else-ins-ne16+then-outs-ne16}

pub returns-in_err-program : goal.returns-in_err-program
returns-in_err-program c = let p = err_from_is_err_and c.from_residual.result c.from_residual.ensures.1 in rw (p.1, p.2) (unread-so _ _ _ _ _ _ _ c.in_err-program.ensures)

pub returns-then-map-image : goal.returns-then-map-image
returns-then-map-image c = refused-7 _ _ _ _ _ _ _ c.in_ok-program.ensures c.if-map-image.true

pub map_fits-requires : goal.map_fits-requires
map_fits-requires c = record { told = read_told _ _ c.in_ok-program.ensures; image_in_bounds = c.if-map-image.false }

pub returns-then-not-map_fits : goal.returns-then-not-map_fits
returns-then-not-map_fits c = refused-12 _ _ _ _ _ _ _ c.in_ok-program.ensures c.if-map-image.false (sym c.map_fits.ensures ∙ c.if-not-map_fits.true)

pub returns-then-not-store_fits : goal.returns-then-not-store_fits
returns-then-not-store_fits c = refused-9 _ _ _ _ _ _ _ c.in_ok-program.ensures c.if-map-image.false (sym c.map_fits.ensures ∙ c.if-not-map_fits.false) (sym c.store_fits.ensures ∙ c.if-not-store_fits.true)

pub returns-then-ins-ne16 : goal.returns-then-ins-ne16
returns-then-ins-ne16 c =
    refused-10 _ _ _ _ _ _ _ c.in_ok-program.ensures c.if-map-image.false (sym c.map_fits.ensures ∙ c.if-not-map_fits.false) (sym c.store_fits.ensures ∙ c.if-not-store_fits.false)
    (elim c.then-ins-ne16.branch [
      | then-ins-ne16-via-then-ins-ne16 w ↦ rw (ne_eqb _ _ w.if-ins-ne16.true) refl
      | then-ins-ne16-via-else-ins-ne16+then-outs-ne16 w ↦ one-short (eqb c.args.ins 16) _ (ne_eqb _ _ w.if-outs-ne16.true)
    ])

pub table_of-table-requires : goal.table_of-table-requires
table_of-table-requires c = narrow-so _ (read_told _ _ c.in_ok-program.ensures) (sym c.store_fits.ensures ∙ c.if-not-store_fits.false)

pub is_machine-requires : goal.is_machine-requires
is_machine-requires c =
    mapped _ _ _ c.args.w (prepared-so _ _ c.args.machine c.args.w c.args.outs c.args.ins _ c.in_ok-program.ensures c.if-map-image.false (sym c.map_fits.ensures ∙ c.if-not-map_fits.false) (sym c.store_fits.ensures ∙ c.if-not-store_fits.false) c.if-ins-ne16.false c.if-outs-ne16.false _ c.table_of-table.ensures)

pub returns-then-not-is_machine : goal.returns-then-not-is_machine
returns-then-not-is_machine c = refused-11 _ _ _ _ _ _ _ c.in_ok-program.ensures c.if-map-image.false (sym c.map_fits.ensures ∙ c.if-not-map_fits.false) (sym c.store_fits.ensures ∙ c.if-not-store_fits.false) c.if-ins-ne16.false c.if-outs-ne16.false _ c.table_of-table.ensures (sym c.is_machine.ensures ∙ c.if-not-is_machine.true)

pub returns : goal.returns
returns c = passed-so _ _ _ _ _ _ _ c.in_ok-program.ensures c.if-map-image.false (sym c.map_fits.ensures ∙ c.if-not-map_fits.false) (sym c.store_fits.ensures ∙ c.if-not-store_fits.false) c.if-ins-ne16.false c.if-outs-ne16.false _ c.table_of-table.ensures (sym c.is_machine.ensures ∙ c.if-not-is_machine.false)
