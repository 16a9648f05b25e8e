-- What is refused is no tree.
use Rattle.std.proofs.Common.{ℕ, List}
use Rattle.tree_rule.specs.declared.node.RawNode.{RawNode}
use Rattle.tree_rule.specs.declared.refusal.Fault.{Fault}
use Rattle.tree_rule.specs.declared.refusal.Fault.TheVariants.{UnknownKind, BadBoolean, BadEnd, LeafHolds, OutsideText, NotUtf8}
use Rattle.tree_rule.specs.declared.refusal.Refusal.{Refusal}
use Rattle.tree_rule.specs.declared.refusal.Refusal.TheVariants.{NodeCount, TextLength, Root, Node, Overrun, Unpaired, TooDeep, EqualKeys}
use Rattle.tree_rule.specs.Refusals.{Breaks, Refuses}
use Rattle.tree_rule.specs.Rule.{Formed, Right}

broken_not_right : (ns : List RawNode) (text : List ℕ) (i : ℕ) (f : Fault) → Breaks ns text i f → Right ns text i → ⊥
broken_not_right ns text i UnknownKind b r = b r.known
broken_not_right ns text i BadBoolean b r = b.1 r.truth
broken_not_right ns text i BadEnd b r = b.2 r.ends
broken_not_right ns text i LeafHolds b r = b.3 r.leaf
broken_not_right ns text i OutsideText b r = b.4 r.lies
broken_not_right ns text i NotUtf8 b r = b.5 r.spelled

pub refused_not_formed : (ns : List RawNode) (text : List ℕ) (e : Refusal) → Refuses ns text e → Formed ns text → ⊥
refused_not_formed ns text NodeCount h ok = h ok.counted
refused_not_formed ns text TextLength h ok = h.1 ok.short
refused_not_formed ns text Root h ok = h.2 ok.rooted
refused_not_formed ns text (Node i f) h ok = broken_not_right ns text i f h.1.broken (ok.nodes i h.1.within)
refused_not_formed ns text (Overrun i) h ok = h.2.broken (ok.filled i h.2.within)
refused_not_formed ns text (Unpaired i) h ok = h.2.broken.1 (ok.paired i h.2.within)
refused_not_formed ns text TooDeep h ok = h.3 ok.shallow
refused_not_formed ns text (EqualKeys i) h ok = h.4.broken (ok.distinct i h.4.within)
