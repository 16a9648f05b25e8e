use Rattle.linker.proofs.OneMore.{one_more_changes_little}
use Rattle.linker.proofs.law.one_more.Goals as goal

pub returns : goal.returns
returns g c = one_more_changes_little
