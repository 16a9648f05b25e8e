-- The values that fit into arrays.
use Rattle.std.specs.Prelude.{◌≡◌, ℕ, suc, ◌+◌, ◌-◌, ◌^◌, ◌<◌, ◌≤◌, List, [], ◌∷◌, ◌++◌, length, ℤ, IsUtf8, FitsSigned, ◌≢◌}
use Rattle.std.specs.Int.{w64}
use Rattle.std.specs.List.{AllByRecursion}
use Rattle.tree_rule.specs.declared.node.RawNode.{RawNode}
use Rattle.tree_rule.specs.Rule.{Apart, Formed}
use Rattle.tree.specs.Values.{Value, Items, Entries, other, boolean, integer, string, list, map, no_item, item, no_entry, entry, Stands}

-- how many nodes a value takes
abbrev mutual
  pub size : Value → ℕ
  size (other n) = 1
  size (boolean n b) = 1
  size (integer n z) = 1
  size (string n bs) = 1
  size (list n vs) = suc (items_size vs)
  size (map n es) = suc (entries_size es)

  pub items_size : Items → ℕ
  items_size no_item = 0
  items_size (item v vs) = size v + items_size vs

  pub entries_size : Entries → ℕ
  entries_size no_entry = 0
  entries_size (entry k v es) = size k + (size v + entries_size es)

-- the bytes of its strings, one after another
abbrev mutual
  pub spelling : Value → List ℕ
  spelling (other n) = []
  spelling (boolean n b) = []
  spelling (integer n z) = []
  spelling (string n bs) = bs
  spelling (list n vs) = items_spelling vs
  spelling (map n es) = entries_spelling es

  pub items_spelling : Items → List ℕ
  items_spelling no_item = []
  items_spelling (item v vs) = spelling v ++ items_spelling vs

  pub entries_spelling : Entries → List ℕ
  entries_spelling no_entry = []
  entries_spelling (entry k v es) = spelling k ++ (spelling v ++ entries_spelling es)

-- the parts are numbered from i on, in the order in which they are written
abbrev mutual
  pub Numbered : ℕ → Value → Type 0
  Numbered i (other n) = n ≡ i
  Numbered i (boolean n b) = n ≡ i
  Numbered i (integer n z) = n ≡ i
  Numbered i (string n bs) = n ≡ i
  Numbered i (list n vs) = (n ≡ i) × ItemsNumbered (i + 1) vs
  Numbered i (map n es) = (n ≡ i) × EntriesNumbered (i + 1) es

  pub ItemsNumbered : ℕ → Items → Type 0
  ItemsNumbered c no_item = Unit {0}
  ItemsNumbered c (item v vs) = Numbered c v × ItemsNumbered (c + size v) vs

  pub EntriesNumbered : ℕ → Entries → Type 0
  EntriesNumbered c no_entry = Unit {0}
  EntriesNumbered c (entry k v es) =
      Numbered c k × Numbered (c + size k) v × EntriesNumbered (c + size k + size v) es

-- it nests at most so deep
abbrev mutual
  pub Deep : ℕ → Value → Type 0
  Deep d (other n) = 1 ≤ d
  Deep d (boolean n b) = 1 ≤ d
  Deep d (integer n z) = 1 ≤ d
  Deep d (string n bs) = 1 ≤ d
  Deep d (list n vs) = (1 ≤ d) × ItemsDeep (d - 1) vs
  Deep d (map n es) = (1 ≤ d) × EntriesDeep (d - 1) es

  pub ItemsDeep : ℕ → Items → Type 0
  ItemsDeep d no_item = Unit {0}
  ItemsDeep d (item v vs) = Deep d v × ItemsDeep d vs

  pub EntriesDeep : ℕ → Entries → Type 0
  EntriesDeep d no_entry = Unit {0}
  EntriesDeep d (entry k v es) = Deep d k × Deep d v × EntriesDeep d es

abbrev pub map_keys : Entries → List Value
map_keys no_entry = []
map_keys (entry k v es) = k ∷ map_keys es

-- what a key is compared by
pub data Key : Type 0 where
  by_text : List ℕ → Key
  by_number : ℤ → Key
  by_nothing : Key

abbrev pub key_of : Value → Key
key_of (other n) = by_nothing
key_of (boolean n b) = by_nothing
key_of (integer n z) = by_number z
key_of (string n bs) = by_text bs
key_of (list n vs) = by_nothing
key_of (map n es) = by_nothing

-- two equal strings or two equal integers
abbrev pub SameKey : Value → Value → Type 0
SameKey k l = (key_of k ≡ key_of l) × (key_of k ≢ by_nothing)

-- strings are UTF-8, integers have 64 bits, and no map has two equal string keys or two equal integer keys
abbrev mutual
  pub Fair : Value → Type 0
  Fair (other n) = Unit {0}
  Fair (boolean n b) = Unit {0}
  Fair (integer n z) = FitsSigned w64 z
  Fair (string n bs) = IsUtf8 bs
  Fair (list n vs) = ItemsFair vs
  Fair (map n es) = Apart SameKey (map_keys es) × EntriesFair es

  pub ItemsFair : Items → Type 0
  ItemsFair no_item = Unit {0}
  ItemsFair (item v vs) = Fair v × ItemsFair vs

  pub EntriesFair : Entries → Type 0
  EntriesFair no_entry = Unit {0}
  EntriesFair (entry k v es) = Fair k × Fair v × EntriesFair es

-- a value within the limits
pub record Within (v : Value) : Type 0 where
  pub numbered : Numbered 0 v
  pub few : size v ≤ 65536
  pub short : length (spelling v) ≤ 1048576
  pub deep : Deep 64 v
  pub fair : Fair v

-- the numbers of a node fit their places
pub record Stored (n : RawNode) : Type 0 where
  pub kind : n.kind < 2 ^ 32
  pub end : n.end < 2 ^ 32
  pub place : n.place < 2 ^ 32
  pub length : n.length < 2 ^ 32
  pub number : FitsSigned w64 n.number

-- some well-formed arrays stand for the value
pub record Written (v : Value) : Type 0 where
  pub nodes : List RawNode
  pub text : List ℕ
  pub formed : Formed nodes text
  pub stands : Stands nodes text 0 v
  pub stored : AllByRecursion Stored nodes
