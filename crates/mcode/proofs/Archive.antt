-- The statements of A.11. Assumes nothing.
use mathlib.Core.Path.{refl, sym, ap, ◌∙◌}
use lib.Dec.{leb}
use Rattle.mcode.specs.Run.{Verdict}
use Rattle.mcode.specs.Word.{pick}
use Rattle.mcode.specs.Run.{verdict}
use Rattle.mcode.specs.Demands.{LoadDetermined}
use Rattle.mcode.specs.Archive.{contents, form, withheld, deliver}
use Rattle.mcode.specs.ArchiveDemands.{FormRead, AnySpelling, FormShort, FormAgain, FormSame, SameLoaded, FormLoads, FormAccepted, ArchiveDetermined}
use Rattle.mcode.proofs.Determined.{load-determined}
use Rattle.mcode.proofs.Load.{passed}
use Rattle.mcode.proofs.FormRead.{spelling-read, spelling-contents, form-parsed, form-contents}
use Rattle.mcode.proofs.FormOf.{form-short, writable}
use Rattle.mcode.proofs.SameModules.{loads-same, loads-again}

pub form-read : FormRead
unfolding FormRead
form-read image r = (form-parsed (contents image) (writable image r), form-contents (contents image) (writable image r))

pub any-spelling : AnySpelling
unfolding AnySpelling
any-spelling image r bits E l =
    let W = writable image r in
    (spelling-read bits (contents image) W.some W.few l W.sound E, spelling-contents bits (contents image) W.some W.few l W.sound E)

pub form-is-short : FormShort
unfolding FormShort
form-is-short = form-short

pub form-again : FormAgain
unfolding FormAgain FormRead
form-again image r = ap form (form-read image r).1

pub form-same : FormSame
unfolding FormSame FormRead
form-same image image' r r' = (ap form, λ e. sym (form-read image r).1 ∙ ap contents e ∙ (form-read image' r').1)

pub same-loaded : SameLoaded
unfolding SameLoaded
same-loaded image before map L image' r' e = loads-same image image' (passed image before map (verdict 0) L refl).parsed r' e before map L

pub form-loads : FormLoads
unfolding FormLoads SameLoaded FormRead
form-loads image before map L =
    let (q, e) = form-read image (passed image before map (verdict 0) L refl).parsed in
    same-loaded image before map L (form (contents image)) q e

pub form-accepted : FormAccepted
unfolding FormAccepted FormRead
form-accepted image before map L =
    let r = (passed image before map (verdict 0) L refl).parsed in
    let (q, e) = form-read image r in
    loads-again image (form (contents image)) r q e before map L

pub archive-determined : ArchiveDetermined
unfolding ArchiveDetermined LoadDetermined
archive-determined image before output a b x y (v, L, e) (w, M, f) =
    let (p, q) = load-determined image before v w a b L M in
    (q, e ∙ ap (λ (u : Verdict). pick (leb 1 u.number) (withheld u.number output) (deliver (form (contents image)) output)) p ∙ sym f)
