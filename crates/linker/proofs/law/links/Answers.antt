use Rattle.linker.proofs.Links.{link_tells}
use Rattle.linker.proofs.law.links.Goals as goal

pub returns : goal.returns
returns c = link_tells
