-- What a check answers: a tree, or why there is none.
use Rattle.std.specs.Prelude.{◌≡◌, ℕ, List, Result, MatchResult}
use Rattle.tree_rule.specs.declared.node.RawNode.{RawNode}
use Rattle.tree_rule.specs.declared.refusal.Refusal.{Refusal}
use Rattle.tree.specs.declared.tree.Tree.{Tree}
use Rattle.tree_rule.specs.Refusals.{Refuses}
use Rattle.tree_rule.specs.Rule.{Formed}

-- these nodes and this text as a tree exactly if the rule holds of them, and the refusal exactly if it does not
abbrev pub Checked : List RawNode → List ℕ → Result Tree Refusal → Type 0
Checked ns text r =
    MatchResult r (λ t. (t.nodes.now ≡ ns) × (t.text.now ≡ text) × Formed ns text)
    (λ e. Refuses ns text e × (Formed ns text → ⊥))
