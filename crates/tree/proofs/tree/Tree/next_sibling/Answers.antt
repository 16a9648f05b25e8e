use Rattle.tree.proofs.Chains.{next_answered}
use Rattle.tree.proofs.tree.Tree.next_sibling.Goals as goal

pub returns : goal.returns
returns c =
    let e = c.in_ok-end.ensures in
    let n = c.in_ok-next.ensures in
    (e.0, n.0, next_answered _ _ _ _ _ _ _ c.args.self.now.formed e.0 e.1 n.1 c.then_some.ensures)
