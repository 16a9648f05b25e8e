-- Well-formed arrays mean one value.
use Rattle.std.proofs.Common.{ℕ, List}
use Rattle.tree_rule.specs.declared.node.RawNode.{RawNode}
use Rattle.tree.specs.Meaning.{Means}
use Rattle.tree_rule.specs.Rule.{Formed}
use Rattle.tree.proofs.Chains.{held_children}
use Rattle.tree.proofs.Parts.{parts_whole}
use Rattle.tree.proofs.Values.{stands_for_one}
use Rattle.tree_rule.proofs.Walks.{forward}

pub formed_means : (ns : List RawNode) (text : List ℕ) → Formed ns text → Means ns text
formed_means ns text ok = record {
  one = λ i h. stands_for_one ns text i ok h;
  whole = λ i v h s. parts_whole ns text i v ok h s;
  holds = λ i v h s. held_children ns text i v (forward ns i (λ k l. (ok.nodes k l).ends) h) (ok.nodes i h).leaf s;
}
