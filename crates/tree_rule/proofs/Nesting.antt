-- Laws of how deep nodes nest.
use Rattle.std.proofs.Common.{◌≡◌, ℕ, zero, suc, ◌-◌, ◌<◌, List, sub-one, arith}
use Rattle.std.specs.List.{AllByRecursion}
use Rattle.tree_rule.specs.declared.node.RawNode.{RawNode}
use Rattle.tree_rule.specs.Nodes.{children}
use Rattle.tree_rule.specs.Rule.{Nests}

pub nests_none : (deep : ℕ) (ns : List RawNode) (i : ℕ) → deep ≡ 0 → Nests deep ns i → ⊥
unfolding Nests
nests_none zero ns i z h = h
nests_none (suc deep) ns i z h = omega arith

pub nests_children : (deep : ℕ) (ns : List RawNode) (i : ℕ) → 0 < deep → Nests deep ns i → AllByRecursion (Nests (deep - 1) ns) (children ns i)
unfolding Nests
nests_children zero ns i z h = absurd h
nests_children (suc deep) ns i z h = rw sub-one h

pub nests_node : (deep : ℕ) (ns : List RawNode) (i : ℕ) → 0 < deep → AllByRecursion (Nests (deep - 1) ns) (children ns i) → Nests deep ns i
unfolding Nests
nests_node zero ns i z h = absurd (omega arith)
nests_node (suc deep) ns i z h = rw sub-one at h
