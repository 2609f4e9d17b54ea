use Rattle.std.proofs.Common.{◌≡◌}
use Rattle.mcode.specs.Word.{tabulate}
use Rattle.mcode.specs.Archive.{content_of, modules_form}
use Rattle.archive.specs.Form.{Put}
use Rattle.archive.proofs.form.write_form.Given as goal

abbrev pub invariant-loop-k : goal.invariant-loop-k
invariant-loop-k l = record {
  same : l.out.output.ghost_name ≡ l.initial.out.output.ghost_name;
  done : Put (modules_form (tabulate l.k (content_of l.image.bytes.now l.image.program.now))) l.initial.out.at l.initial.out.output.now l.out.at l.out.output.now;
}
