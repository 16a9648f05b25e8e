use Rattle.buffer.proofs.Writes.{Writing}
use Rattle.buffer.proofs.Buffer.write_pieces.Given as goal

abbrev pub invariant-loop-written : goal.invariant-loop-written
invariant-loop-written g l =
    record {
      -- what is written, and then what is left, is what there was to write
      writing : Writing l.initial.self.items (g.P.Pieces.left l.initial.pieces) l.self.items (g.P.Pieces.left l.pieces);
    }

abbrev pub decreases-loop-written : goal.decreases-loop-written
decreases-loop-written g l = g.P.Pieces.size l.pieces
