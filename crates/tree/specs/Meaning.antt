-- What well-formed arrays mean.
use Rattle.std.specs.Prelude.{◌≡◌, ℕ, ◌<◌, List, length}
use Rattle.tree_rule.specs.declared.node.RawNode.{RawNode}
use Rattle.tree.specs.Limits.{Within, Written}
use Rattle.tree_rule.specs.Nodes.{at, children}
use Rattle.tree.specs.Questions.{held}
use Rattle.tree.specs.Values.{Value, Stands, One, Whole, parts}

-- each node stands for one value, whose parts are the nodes that it holds, and whose children are the node's
pub record Means (ns : List RawNode) (text : List ℕ) : Type 0 where
  pub one : (i : ℕ) → i < length ns → One ns text i
  pub whole : (i : ℕ) (v : Value) → i < length ns → Stands ns text i v → Whole ns text i (at ns i).end (parts v)
  pub holds : (i : ℕ) (v : Value) → i < length ns → Stands ns text i v → children ns i ≡ held v

-- the rule refuses no value within the limits
abbrev pub Complete : Type 0
Complete = (v : Value) → Within v → Written v
