use Rattle.std.proofs.Common.{arith}
use Rattle.std.proofs.lemmas.Grind.{common_steps}
use Rattle.flow.proofs.Pieces.{piece_read}
use Rattle.flow.proofs.cursor.Cursor.read_piece.Goals as goal

pub returns-clause-text : goal.returns-clause-text
returns-clause-text c = piece_read _ _ _ _ c.push_piece.result c.in_ok-width.width _ _ c.rest.ensures (grind (arith, common_steps)) c.skip.ensures.place c.push_piece.ensures.text
