use Rattle.tree.proofs.Chains.{first_answered}
use Rattle.tree.proofs.tree.Tree.first_child.Goals as goal

pub returns : goal.returns
returns c =
    let e = c.in_ok-end.ensures in (e.0, first_answered _ _ _ _ _ c.args.self.now.formed e.0 e.1 c.then_some.ensures)
