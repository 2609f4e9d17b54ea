use Rattle.std.proofs.Common.{refl, ◌∙◌}
use Rattle.std.proofs.lemmas.List.{take_all}
use Rattle.archive.proofs.Puts.{put-none, piece-room, piece-put}
use Rattle.archive.proofs.writer.Writer.put_all.Goals as goal

pub loop-piece-init : goal.loop-piece-init
loop-piece-init c = record { same = refl; done = put-none _ _ }

pub put-requires : goal.put-requires
put-requires c = let w = c.args.self.now in piece-room c.args.pieces.now c.loop-piece.piece-index _ c.loop-piece-test.true w.at w.output.now _ _ c.loop-piece.invariant.done c.requires

pub loop-piece-preserved : goal.loop-piece-preserved
loop-piece-preserved c = record {
  same = c.put.ensures.0 ∙ c.loop-piece.invariant.same;
  done = piece-put c.args.pieces.now c.loop-piece.piece-index _ c.loop-piece-test.true _ _ _ _ c.loop-piece.invariant.done _ _ c.put.ensures.1;
}

pub returns : goal.returns
returns c = (c.loop-piece.invariant.same, rw (take_all c.loop-piece.piece-index c.args.pieces.now c.loop-piece-test.false) at c.loop-piece.invariant.done)
