-- The tree as a value, and what it is for a node to stand for a value.
use Rattle.std.specs.Prelude.{◌≡◌, ℕ, zero, suc, ◌+◌, ◌-◌, ◌<◌, Bool, cond, List, [], ◌∷◌, ◌++◌, ℤ, pos}
use Rattle.std.specs.List.{AllByRecursion}
use Rattle.tree_rule.specs.declared.node.RawNode.{RawNode}
use Rattle.tree_rule.specs.Nodes.{at, bytes}

-- each part of a value has the number of its node
mutual
  pub data Value : Type 0 where
    other : ℕ → Value
    boolean : ℕ → Bool → Value
    integer : ℕ → ℤ → Value
    string : ℕ → List ℕ → Value
    list : ℕ → Items → Value
    map : ℕ → Entries → Value
    deriving Discrete as value_discrete

  pub data Items : Type 0 where
    no_item : Items
    item : Value → Items → Items

  pub data Entries : Type 0 where
    no_entry : Entries
    entry : Value → Value → Entries → Entries

-- Stands: node i stands for a value; Row: the nodes from c to e stand for items; Pairs: they stand for entries
abbrev mutual
  pub Stands : List RawNode → List ℕ → ℕ → Value → Type 0
  Stands ns text i (other n) = (n ≡ i) × ((at ns i).kind ≡ 0)
  Stands ns text i (boolean n b) = (n ≡ i) × ((at ns i).kind ≡ 1) × ((at ns i).number ≡ cond b (pos 1) (pos 0))
  Stands ns text i (integer n z) = (n ≡ i) × ((at ns i).kind ≡ 2) × ((at ns i).number ≡ z)
  Stands ns text i (string n bs) = (n ≡ i) × ((at ns i).kind ≡ 3) × (bytes (at ns i) text ≡ bs)
  Stands ns text i (list n vs) = (n ≡ i) × ((at ns i).kind ≡ 4) × Row ns text (i + 1) (at ns i).end vs
  Stands ns text i (map n es) = (n ≡ i) × ((at ns i).kind ≡ 5) × Pairs ns text (i + 1) (at ns i).end es

  pub Row : List RawNode → List ℕ → ℕ → ℕ → Items → Type 0
  Row ns text c e no_item = c ≡ e
  Row ns text c e (item v vs) = (c < e) × Stands ns text c v × Row ns text (at ns c).end e vs

  pub Pairs : List RawNode → List ℕ → ℕ → ℕ → Entries → Type 0
  Pairs ns text c e no_entry = c ≡ e
  Pairs ns text c e (entry k v es) =
      (c < e) × Stands ns text c k × ((at ns c).end < e) × Stands ns text (at ns c).end v
      × Pairs ns text (at ns (at ns c).end).end e es

-- the number of the node that a value comes from
abbrev pub number : Value → ℕ
number (other n) = n
number (boolean n b) = n
number (integer n z) = n
number (string n bs) = n
number (list n vs) = n
number (map n es) = n

-- a value and all that it holds, in the order in which they are written
abbrev mutual
  pub parts : Value → List Value
  parts (other n) = other n ∷ []
  parts (boolean n b) = boolean n b ∷ []
  parts (integer n z) = integer n z ∷ []
  parts (string n bs) = string n bs ∷ []
  parts (list n vs) = list n vs ∷ item_parts vs
  parts (map n es) = map n es ∷ entry_parts es

  pub item_parts : Items → List Value
  item_parts no_item = []
  item_parts (item v vs) = parts v ++ item_parts vs

  pub entry_parts : Entries → List Value
  entry_parts no_entry = []
  entry_parts (entry k v es) = parts k ++ (parts v ++ entry_parts es)

-- the numbers from i on, n of them
abbrev pub counting : ℕ → ℕ → List ℕ
counting zero i = []
counting (suc n) i = i ∷ counting n (suc i)

-- node i stands for one value and no other
pub record One (ns : List RawNode) (text : List ℕ) (i : ℕ) : Type 0 where
  pub value : Value
  pub stands : Stands ns text i value
  pub alone : (v : Value) → Stands ns text i v → v ≡ value

abbrev pub numbers : List Value → List ℕ
numbers [] = []
numbers (v ∷ vs) = number v ∷ numbers vs

-- the parts of a value are the nodes from i to e, each once and in order, and each node stands for its part
pub record Whole (ns : List RawNode) (text : List ℕ) (i e : ℕ) (vs : List Value) : Type 0 where
  pub numbered : numbers vs ≡ counting (e - i) i
  pub standing : AllByRecursion (λ v. Stands ns text (number v) v) vs
