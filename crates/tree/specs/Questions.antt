-- What a value answers, and what it is for a tree to answer from the value of a node.
use Rattle.std.specs.Prelude.{◌≡◌, ℕ, ◌<◌, ◌≤◌, Bool, false, cond, ◌==◌, ◌&&◌, List, [], ◌∷◌, ◌++◌, length, ℤ, Some, None, Ok, Err, Option, Result}
use Rattle.std.specs.Borrow.{Bor}
use Rattle.std.specs.Str.{bytes_eq}
use Rattle.tree_rule.specs.declared.node.RawNode.{RawNode}
use Rattle.tree_rule.specs.declared.node.Kind.{Kind}
use Rattle.tree_rule.specs.declared.node.Kind.TheVariants as kind
use Rattle.tree.specs.declared.unanswered.Unanswered.{Unanswered}
use Rattle.tree.specs.declared.unanswered.Unanswered.TheVariants.{NoSuchNode, OtherKind}
use Rattle.tree_rule.specs.Nodes.{at, bytes}
use Rattle.tree_rule.specs.Kinds.{number_of}
use Rattle.tree.specs.Values.{Value, Items, Entries, other, boolean, integer, string, list, map, no_item, item, no_entry, entry, Stands, number}

abbrev pub kind_in : Value → Kind
kind_in (other n) = kind.Other
kind_in (boolean n b) = kind.Boolean
kind_in (integer n z) = kind.Integer
kind_in (string n bs) = kind.String
kind_in (list n vs) = kind.List
kind_in (map n es) = kind.Map

abbrev pub boolean_in : Value → Option Bool
boolean_in (other n) = None
boolean_in (boolean n b) = Some b
boolean_in (integer n z) = None
boolean_in (string n bs) = None
boolean_in (list n vs) = None
boolean_in (map n es) = None

abbrev pub integer_in : Value → Option ℤ
integer_in (other n) = None
integer_in (boolean n b) = None
integer_in (integer n z) = Some z
integer_in (string n bs) = None
integer_in (list n vs) = None
integer_in (map n es) = None

abbrev pub string_in : Value → Option (List ℕ)
string_in (other n) = None
string_in (boolean n b) = None
string_in (integer n z) = None
string_in (string n bs) = Some bs
string_in (list n vs) = None
string_in (map n es) = None

abbrev pub item_numbers : Items → List ℕ
item_numbers no_item = []
item_numbers (item v vs) = number v ∷ item_numbers vs

abbrev pub entry_numbers : Entries → List ℕ
entry_numbers no_entry = []
entry_numbers (entry k v es) = number k ∷ number v ∷ entry_numbers es

-- the children of a value: a list's items; a map's keys and values in turn
abbrev pub held : Value → List ℕ
held (other n) = []
held (boolean n b) = []
held (integer n z) = []
held (string n bs) = []
held (list n vs) = item_numbers vs
held (map n es) = entry_numbers es

abbrev pub front : List ℕ → Option ℕ
front [] = None
front (k ∷ ks) = Some k

abbrev pub is_text : List ℕ → Value → Bool
is_text name (other n) = false
is_text name (boolean n b) = false
is_text name (integer n z) = false
is_text name (string n bs) = bytes_eq bs name
is_text name (list n vs) = false
is_text name (map n es) = false

-- the value behind the first key that is this string
abbrev pub find : List ℕ → Entries → Option ℕ
find name no_entry = None
find name (entry k v es) = cond (is_text name k) (Some (number v)) (find name es)

-- node i is this string
abbrev pub is_named : List RawNode → List ℕ → List ℕ → ℕ → Bool
is_named ns text name i = (at ns i).kind == 3 && bytes_eq (bytes (at ns i) text) name

abbrev pub under : List ℕ → Value → Option (Option ℕ)
under name (other n) = None
under name (boolean n b) = None
under name (integer n z) = None
under name (string n bs) = None
under name (list n vs) = None
under name (map n es) = Some (find name es)

-- a question that values of some kinds answer, asked of node i
abbrev pub Answered : {A : Type 0} → List RawNode → List ℕ → ℕ → (Value → Option A) → Result A Unanswered → Type 0
Answered ns text i ask (Ok a) = (i < length ns) × ((v : Value) → Stands ns text i v → ask v ≡ Some a)
Answered ns text i ask (Err NoSuchNode) = length ns ≤ i
Answered ns text i ask (Err OtherKind) = (i < length ns) × ((v : Value) → Stands ns text i v → ask v ≡ None)

-- the node of a number, exactly if there is one
abbrev pub Found : List RawNode → ℕ → Result RawNode Unanswered → Type 0
Found ns i (Ok n) = (i < length ns) × (n ≡ at ns i)
Found ns i (Err NoSuchNode) = length ns ≤ i
Found ns i (Err OtherKind) = ⊥

-- the node of a number, exactly if there is one and it is of this kind
abbrev pub FoundAs : List RawNode → ℕ → Kind → Result RawNode Unanswered → Type 0
FoundAs ns i kind (Ok n) = (i < length ns) × (n ≡ at ns i) × (n.kind ≡ number_of kind)
FoundAs ns i kind (Err NoSuchNode) = length ns ≤ i
FoundAs ns i kind (Err OtherKind) = (i < length ns) × ((at ns i).kind ≡ number_of kind → ⊥)

-- the bytes of a string, asked of node i
abbrev pub Spelled : List RawNode → List ℕ → ℕ → Result (Bor (List ℕ)) Unanswered → Type 0
Spelled ns text i (Ok bs) = (i < length ns) × ((v : Value) → Stands ns text i v → string_in v ≡ Some bs.now)
Spelled ns text i (Err NoSuchNode) = length ns ≤ i
Spelled ns text i (Err OtherKind) = (i < length ns) × ((v : Value) → Stands ns text i v → string_in v ≡ None)

-- which child of a parent follows this one
abbrev pub Followed : List RawNode → List ℕ → ℕ → ℕ → Result (Option ℕ) Unanswered → Type 0
Followed ns text parent child (Ok next) =
    (parent < length ns) × (child < length ns)
    × ((v : Value) (before after : List ℕ) → Stands ns text parent v → held v ≡ before ++ child ∷ after → next ≡ front after)
Followed ns text parent child (Err NoSuchNode) = (parent < length ns → child < length ns → ⊥)
Followed ns text parent child (Err OtherKind) = ⊥

-- the end of a node, exactly if there is one
abbrev pub EndOf : List RawNode → ℕ → Result ℕ Unanswered → Type 0
EndOf ns i (Ok e) = (i < length ns) × (e ≡ (at ns i).end)
EndOf ns i (Err NoSuchNode) = length ns ≤ i
EndOf ns i (Err OtherKind) = ⊥
