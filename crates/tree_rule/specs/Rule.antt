-- The rule of a well-formed tree, clause by clause.
use Rattle.std.specs.Prelude.{◌≡◌, ℕ, zero, suc, ◌+◌, ◌<◌, ◌≤◌, ◌⊎◌, List, [], ◌∷◌, length, pos, Option, MatchOption, IsUtf8}
use Rattle.std.specs.Borrow.{Bor}
use Rattle.std.specs.List.{AllByRecursion}
use Rattle.tree_rule.specs.declared.node.RawNode.{RawNode}
use Rattle.tree_rule.specs.Nodes.{at, children, keys, bytes}

-- 1 to 65,536 nodes
abbrev pub Counted : List RawNode → Type 0
Counted ns = (1 ≤ length ns) × (length ns ≤ 65536)

-- at most 1,048,576 bytes of text
abbrev pub Short : List ℕ → Type 0
Short text = length text ≤ 1048576

-- node 0 ends behind the last node
abbrev pub Rooted : List RawNode → Type 0
Rooted ns = (at ns 0).end ≡ length ns

-- the kind is one of the six
abbrev pub Known : RawNode → Type 0
Known n = n.kind ≤ 5

-- a boolean is 0 or 1
abbrev pub Truth : RawNode → Type 0
Truth n = n.kind ≡ 1 → (n.number ≡ pos 0) ⊎ (n.number ≡ pos 1)

-- node i ends behind itself, and not behind the last of so many nodes
abbrev pub Ends : RawNode → ℕ → ℕ → Type 0
Ends n i count = (i < n.end) × (n.end ≤ count)

-- only lists and maps hold nodes
abbrev pub Leaf : RawNode → ℕ → Type 0
Leaf n i = n.kind < 4 → n.end ≡ i + 1

-- a string lies in the text
abbrev pub Lies : RawNode → List ℕ → Type 0
Lies n text = n.kind ≡ 3 → n.place + n.length ≤ length text

-- the bytes of a node, exactly if it is a string that lies in the text
abbrev pub Read : RawNode → List ℕ → Option (Bor (List ℕ)) → Type 0
Read n text o =
    MatchOption o (n.kind ≡ 3 → Lies n text → ⊥) (λ bs. (n.kind ≡ 3) × Lies n text × (bs.now ≡ bytes n text))

-- a string is UTF-8
abbrev pub Spelled : RawNode → List ℕ → Type 0
Spelled n text = n.kind ≡ 3 → IsUtf8 (bytes n text)

-- what a node's own numbers have to be
pub record Right (ns : List RawNode) (text : List ℕ) (i : ℕ) : Type 0 where
  pub known : Known (at ns i)
  pub truth : Truth (at ns i)
  pub ends : Ends (at ns i) i (length ns)
  pub leaf : Leaf (at ns i) i
  pub lies : Lies (at ns i) text
  pub spelled : Spelled (at ns i) text

-- every node ends behind itself, and not behind the last
abbrev pub Ended : List RawNode → Type 0
Ended ns = (i : ℕ) → i < length ns → Ends (at ns i) i (length ns)

-- the children fill their parent exactly: none ends behind it
abbrev pub Filled : List RawNode → ℕ → Type 0
Filled ns i = AllByRecursion (λ k. (at ns k).end ≤ (at ns i).end) (children ns i)

abbrev pub InTurn : List ℕ → Type 0
InTurn [] = Unit {0}
InTurn (k ∷ []) = ⊥
InTurn (k ∷ v ∷ rest) = InTurn rest

-- a map's children are key and value in turn
abbrev pub Paired : List RawNode → ℕ → Type 0
Paired ns i = (at ns i).kind ≡ 5 → InTurn (children ns i)

-- a node with all that it holds nests at most so deep
unfoldable pub Nests : ℕ → List RawNode → ℕ → Type 0
Nests zero ns i = ⊥
Nests (suc deep) ns i = AllByRecursion (Nests deep ns) (children ns i)

-- two keys that may not stand in one map
abbrev pub Equal : List RawNode → List ℕ → ℕ → ℕ → Type 0
Equal ns text k l =
    (((at ns k).kind ≡ 3) × ((at ns l).kind ≡ 3) × (bytes (at ns k) text ≡ bytes (at ns l) text))
    ⊎ (((at ns k).kind ≡ 2) × ((at ns l).kind ≡ 2) × ((at ns k).number ≡ (at ns l).number))

-- no two of the list are related
abbrev pub Apart : {X : Type 0} → (X → X → Type 0) → List X → Type 0
Apart R [] = Unit {0}
Apart R (k ∷ ks) = AllByRecursion (λ l. R k l → ⊥) ks × Apart R ks

-- no map has two equal string keys or two equal integer keys
abbrev pub Distinct : List RawNode → List ℕ → ℕ → Type 0
Distinct ns text i = (at ns i).kind ≡ 5 → Apart (Equal ns text) (keys ns i)

pub record Formed (ns : List RawNode) (text : List ℕ) : Type 0 where
  pub counted : Counted ns
  pub short : Short text
  pub rooted : Rooted ns
  pub nodes : (i : ℕ) → i < length ns → Right ns text i
  pub filled : (i : ℕ) → i < length ns → Filled ns i
  pub paired : (i : ℕ) → i < length ns → Paired ns i
  pub shallow : Nests 64 ns 0
  pub distinct : (i : ℕ) → i < length ns → Distinct ns text i
