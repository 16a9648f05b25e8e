use Rattle.std.proofs.Common.{◌<◌, length}
use Rattle.std.specs.List.{AllByRecursion}
use Rattle.tree_rule.specs.Nodes.{from}
use Rattle.tree_rule.specs.Rule.{Nests}
use Rattle.tree_rule.proofs.sound.Sound.+nests.Given as goal

abbrev pub decreases-nests : goal.decreases-nests
decreases-nests l = l.deep

-- the node nests so deep exactly if the children that are left nest one less deep
abbrev pub invariant-loop-child : goal.invariant-loop-child
invariant-loop-child l =
    let left = from l.child-iterator.nodes.now l.child-iterator.end l.child-iterator.next in
    AllByRecursion (λ k. k < length l.self.nodes.now) left
    × (Nests l.deep l.self.nodes.now l.i → AllByRecursion (Nests l.below l.self.nodes.now) left)
    × (AllByRecursion (Nests l.below l.self.nodes.now) left → Nests l.deep l.self.nodes.now l.i)
