-- What each refusal says: which clause is broken, by which node, and that all before it is right.
use Rattle.std.specs.Prelude.{ℕ, ◌<◌, List, length}
use Rattle.tree_rule.specs.declared.node.RawNode.{RawNode}
use Rattle.tree_rule.specs.declared.refusal.Fault.{Fault}
use Rattle.tree_rule.specs.declared.refusal.Fault.TheVariants.{UnknownKind, BadBoolean, BadEnd, LeafHolds, OutsideText, NotUtf8}
use Rattle.tree_rule.specs.declared.refusal.Refusal.{Refusal}
use Rattle.tree_rule.specs.declared.refusal.Refusal.TheVariants.{NodeCount, TextLength, Root, Node, Overrun, Unpaired, TooDeep, EqualKeys}
use Rattle.tree_rule.specs.Nodes.{at}
use Rattle.tree_rule.specs.Rule.{Counted, Short, Rooted, Known, Truth, Ends, Leaf, Lies, Spelled, Right, Filled, Paired, Nests, Distinct}

-- which of a node's own numbers is the first that is wrong
abbrev pub Breaks : List RawNode → List ℕ → ℕ → Fault → Type 0
Breaks ns text i UnknownKind = Known (at ns i) → ⊥
Breaks ns text i BadBoolean = Known (at ns i) × (Truth (at ns i) → ⊥)
Breaks ns text i BadEnd = Known (at ns i) × Truth (at ns i) × (Ends (at ns i) i (length ns) → ⊥)
Breaks ns text i LeafHolds =
    Known (at ns i) × Truth (at ns i) × Ends (at ns i) i (length ns) × (Leaf (at ns i) i → ⊥)
Breaks ns text i OutsideText =
    Known (at ns i) × Truth (at ns i) × Ends (at ns i) i (length ns) × Leaf (at ns i) i × (Lies (at ns i) text → ⊥)
Breaks ns text i NotUtf8 =
    Known (at ns i) × Truth (at ns i) × Ends (at ns i) i (length ns) × Leaf (at ns i) i × Lies (at ns i) text
    × (Spelled (at ns i) text → ⊥)

-- P holds of each node
abbrev pub Each : List RawNode → (ℕ → Type 0) → Type 0
Each ns P = (i : ℕ) → i < length ns → P i

-- the array is as long as it may be, and so is the text
pub record Sized (ns : List RawNode) (text : List ℕ) : Type 0 where
  pub counted : Counted ns
  pub short : Short text
  pub rooted : Rooted ns

-- node i is the first of which P does not hold, by the reason B
pub record First (ns : List RawNode) (P : ℕ → Type 0) (i : ℕ) (B : Type 0) : Type 0 where
  pub within : i < length ns
  pub broken : B
  pub before : (j : ℕ) → j < i → P j

-- a node's children fill it, and a map's are key and value in turn
pub record Holds (ns : List RawNode) (i : ℕ) : Type 0 where
  pub filled : Filled ns i
  pub paired : Paired ns i

abbrev pub Refuses : List RawNode → List ℕ → Refusal → Type 0
Refuses ns text NodeCount = Counted ns → ⊥
Refuses ns text TextLength = Counted ns × (Short text → ⊥)
Refuses ns text Root = Counted ns × Short text × (Rooted ns → ⊥)
Refuses ns text (Node i fault) = Sized ns text × First ns (Right ns text) i (Breaks ns text i fault)
Refuses ns text (Overrun i) = Sized ns text × Each ns (Right ns text) × First ns (Holds ns) i (Filled ns i → ⊥)
Refuses ns text (Unpaired i) =
    Sized ns text × Each ns (Right ns text) × First ns (Holds ns) i (Filled ns i × (Paired ns i → ⊥))
Refuses ns text TooDeep = Sized ns text × Each ns (Right ns text) × Each ns (Holds ns) × (Nests 64 ns 0 → ⊥)
Refuses ns text (EqualKeys i) =
    Sized ns text × Each ns (Right ns text) × Each ns (Holds ns) × Nests 64 ns 0
    × First ns (Distinct ns text) i (Distinct ns text i → ⊥)
