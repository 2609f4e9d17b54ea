use Rattle.std.proofs.Common.{◌≡◌, ◌+◌, ◌*◌}
use Rattle.mcode.specs.Word.{pick}
use Rattle.archive.proofs.Needed.{length-form}
use Rattle.archive.proofs.fields.module_length.Goals.{then-f, else-f, then-f-2, else-f-2, then-f-3, else-f-3}
use Rattle.archive.proofs.fields.module_length.Goals as goal

pub returns : goal.returns
returns c =
    let p = c.args.p in
    let f = c.fields_of-f.result in
    let s : c.if-f.sized ≡ pick f.sized 2 0 = elim c.if-f.branch [ then-f w ↦ rw w.if-f.true w.sized-is | else-f w ↦ rw w.if-f.false w.sized-is ] in
    let l : c.if-f-2.listing ≡ pick f.listing (1 + 4 * p.m.procs) 0 = elim c.if-f-2.branch [ then-f-2 w ↦ rw w.if-f-2.true w.listing-is | else-f-2 w ↦ rw w.if-f-2.false w.listing-is ] in
    let n : c.if-f-3.named ≡ pick f.named 8 0 = elim c.if-f-3.branch [ then-f-3 w ↦ rw w.if-f-3.true w.named-is | else-f-3 w ↦ rw w.if-f-3.false w.named-is ] in
    length-form p.image.now p.begin p.m p.lies f c.fields_of-f.ensures _ _ _ s l n
