use Rattle.linker.proofs.Examples.{worked_examples}
use Rattle.linker.proofs.law.examples.Goals as goal

pub returns : goal.returns
returns c = worked_examples
