use Rattle.linker.proofs.NamesReach.{names_marked}
use Rattle.linker.proofs.law.prototypes.Goals as goal

pub returns : goal.returns
returns c = names_marked
