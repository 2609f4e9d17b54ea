use Rattle.std.proofs.Common.{◌≡◌, refl, ◌∙◌, [], ◌∷◌, ◌+◌, ◌≤◌, length, rules, arith}
use Rattle.mcode.specs.Word.{tabulate}
use Rattle.mcode.specs.Archive.{contents_of, modules_form}
use Rattle.archive.specs.Form.{Put}
use Rattle.archive.proofs.Puts.{put-none, put-length}
use Rattle.archive.proofs.Modules.{placed-is, room_next, put-content, form-length-is, form-put}
use Rattle.archive.proofs.form.write_form.Goals as goal

pub put-requires : goal.put-requires
put-requires c = rw (c.new-out.ensures.untouched.0, c.new-out.ensures.untouched.1) (omega (arith, c.requires, form-length-is c.args.image.bytes.now c.args.image.program.now))

pub loop-k-init : goal.loop-k-init
unfolding tabulate
loop-k-init c = record { same = refl; done = put-none _ _ }

pub write_module-requires : goal.write_module-requires
write_module-requires c =
    let i = c.args.image in
    let l = c.loop-k in
    let P : Put (i.program.now.count ∷ []) 0 c.args.output.now c.put.new.self.at c.put.new.self.output.now = rw (c.new-out.ensures.untouched.0, c.new-out.ensures.untouched.1) at c.put.ensures.1 in
    let r : c.put.new.self.at + length (modules_form (contents_of i.bytes.now i.program.now)) ≤ length c.put.new.self.output.now = omega (arith, c.requires, form-length-is i.bytes.now i.program.now, P.next-is, put-length _ _ _ _ _ P) in
    room_next i.bytes.now i.program.now i.told l.k c.loop-k-test.true _ (placed-is i.bytes.now i.program.now l.k c.module.result c.module.ensures) _ _ _ _ l.invariant.done r

pub loop-k-preserved : goal.loop-k-preserved
loop-k-preserved c =
    let i = c.args.image in
    let l = c.loop-k in
    record {
      same = c.write_module.ensures.0 ∙ l.invariant.same;
      done = put-content i.bytes.now i.program.now i.told l.k c.loop-k-test.true _ (placed-is i.bytes.now i.program.now l.k c.module.result c.module.ensures)
          _ _ _ _ l.invariant.done _ _ c.write_module.ensures.1;
    }

pub returns : goal.returns
returns c =
    let i = c.args.image in
    let l = c.loop-k in
    let P : Put (i.program.now.count ∷ []) 0 c.args.output.now c.put.new.self.at c.put.new.self.output.now = rw (c.new-out.ensures.untouched.0, c.new-out.ensures.untouched.1) at c.put.ensures.1 in
    let k : l.k ≡ i.program.now.count = omega (arith, l.auto.k-end, c.loop-k-test.false) in
    let e = form-put i.bytes.now i.program.now c.args.output.now c.requires _ _ P _ _ (rw k at l.invariant.done) in
    rw (← e) (search rules)
