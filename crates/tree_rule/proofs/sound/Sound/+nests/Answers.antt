use Rattle.std.proofs.Common.{◌≡◌, ◌-◌, arith}
use Rattle.std.proofs.lemmas.Bool.{false≢true}
use Rattle.tree_rule.specs.Nodes.{from, children}
use Rattle.tree_rule.proofs.Walks.{children_within}
use Rattle.tree_rule.proofs.Nesting.{nests_none, nests_children, nests_node}
use Rattle.tree_rule.proofs.sound.Sound.+nests.Goals as goal

pub returns-in_default : goal.returns-in_default
returns-in_default t c = (λ e. absurd (false≢true e), λ h. absurd (nests_none _ _ _ (omega arith) h))

pub loop-child-init : goal.loop-child-init
loop-child-init t c =
    let it = c.into_iter-child-iterator.result in
    let ns = c.args.self.now.nodes.now in
    let left : from it.nodes.now it.end it.next ≡ children ns c.args.i = cc in
    let e : c.in-Some.below ≡ c.args.deep - 1 = omega arith in
    rw (left, e) (
      children_within ns c.args.i (λ k h. (c.args.self.now.right k h).ends) c.requires,
      nests_children _ _ _ (omega arith),
      nests_node _ _ _ (omega arith),
    )

pub nests-requires : goal.nests-requires
nests-requires t c =
    let left = rw c.in-Some-child.ensures.steps at c.loop-child.invariant.0 in (omega arith, left.0)
