use Rattle.std.proofs.lemmas.Result.{on_ok_weaker}
use Rattle.flow.proofs.Reading.{as_value}
use Rattle.flow.proofs.cursor.Cursor.read_leaf.Goals as goal

pub returns-in-34-clause-reads : goal.returns-in-34-clause-reads
returns-in-34-clause-reads c = on_ok_weaker c.read_scalar.result (as_value _ _ _ _) c.read_scalar.ensures.reads
