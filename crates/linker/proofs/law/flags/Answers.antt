use Rattle.linker.proofs.ChainsReach.{chains_marked}
use Rattle.linker.proofs.Links.{link_tells}
use Rattle.linker.proofs.law.flags.Goals as goal

pub returns : goal.returns
returns c = chains_marked link_tells
