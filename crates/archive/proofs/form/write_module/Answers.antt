use Rattle.std.proofs.Common.{◌≡◌, ◌∷◌, ◌++◌, [], ◌∙◌, ap, sym, subst, arith, ℕ, ◌+◌, ◌-◌, ◌*◌, ◌/◌, ◌%◌, List}
use Rattle.mcode.specs.Word.{slice}
use Rattle.mcode.specs.Archive.{given, module_form}
use Rattle.archive.specs.Form.{content, Room}
use Rattle.archive.proofs.Pieces.{name-is, form-is}
use Rattle.archive.proofs.form.write_module.Goals.{After-given-4}
use Rattle.archive.proofs.form.write_module.Goals as goal

-- the pieces are the form
pieces : (c : After-given-4)
    → c.bit_map.result ∷ (c.given.result.now ++ (c.given-2.result.now ++ (c.given-3.result.now ++ (c.to_be_bytes-length.result ++ (c.given-4.result.now ++ (slice c.args.p.image.now c.args.p.m.code (c.args.p.m.code + c.args.p.m.length - c.args.p.m.code) ++ []))))))
    ≡ module_form (content c.args.p)
pieces c =
    let p = c.args.p in
    let m = p.m in
    let f = c.fields_of-f.result in
    let s : m.size / 256 % 256 ≡ m.size / 256 = omega arith in
    let l : m.length / 256 % 256 ≡ m.length / 256 = omega arith in
    let r : m.table + 4 * m.procs - m.table ≡ 4 * m.procs = omega arith in
    let n : m.code + m.length - m.code ≡ m.length = omega arith in
    form-is p.image.now p.begin m f c.fields_of-f.ensures p.in_range p.lies _ _ _ _ _ _ _ c.bit_map.ensures
    (c.given.ensures ∙ ap (λ (x : List ℕ). given f.sized x) (rw s at c.to_be_bytes-size.ensures))
    c.given-2.ensures
    (c.given-3.ensures ∙ name-is p.image.now p.begin m f c.fields_of-f.ensures c.name.result c.name.ensures _ _ c.unwrap_or-name.ensures)
    (rw l at c.to_be_bytes-length.ensures)
    (rw r at c.given-4.ensures)
    (ap (λ (k : ℕ). slice p.image.now m.code k) n)

pub put_all-requires : goal.put_all-requires
put_all-requires c = subst (λ (x : List ℕ). Room x c.args.out.now) (sym (pieces (goal.at.put_all-requires c).After-given-4)) c.requires

pub returns : goal.returns
returns c = (c.put_all.ensures.0, rw (pieces (goal.at.returns c).After-given-4) at c.put_all.ensures.1)
