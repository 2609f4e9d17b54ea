use Rattle.std.proofs.Common.{◌≡◌, take}
use Rattle.archive.specs.Form.{joined, Put}
use Rattle.archive.proofs.writer.Writer.put_all.Given as goal

abbrev pub invariant-loop-piece : goal.invariant-loop-piece
invariant-loop-piece l = record {
  same : l.self.output.ghost_name ≡ l.initial.self.output.ghost_name;
  done : Put (joined (take l.piece-index l.pieces)) l.initial.self.at l.initial.self.output.now l.self.at l.self.output.now;
}
