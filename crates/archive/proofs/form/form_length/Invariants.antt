use Rattle.std.proofs.Common.{◌≡◌, ◌+◌, length}
use Rattle.mcode.specs.Word.{tabulate}
use Rattle.mcode.specs.Archive.{content_of, modules_form}
use Rattle.archive.proofs.form.form_length.Given as goal

abbrev pub invariant-loop-k : goal.invariant-loop-k
invariant-loop-k l = l.sum ≡ 1 + length (modules_form (tabulate l.k (content_of l.image.bytes.now l.image.program.now)))
