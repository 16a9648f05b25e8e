use Rattle.buffer.proofs.Writes.{refused_next}
use Rattle.buffer.proofs.Buffer.write_pieces.Goals as goal

pub returns-in-Err : goal.returns-in-Err
returns-in-Err g c =
    refused_next _ _ _ _ _ _ _ _ _ _ _ c.in-Err.refusal c.loop-written.invariant.writing c.in-Some.ensures c.in-Err.is c.len-before.ensures.is c.truncate.ensures
