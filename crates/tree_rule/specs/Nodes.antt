-- What the numbers of an array of nodes say: who is whose child, and what a node's text is.
use Rattle.std.specs.Prelude.{ℕ, zero, suc, ◌+◌, ◌<◌, cond, List, [], ◌∷◌, take, drop, ℤ, pos, nat_lt, slice_index_or}
use Rattle.tree_rule.specs.declared.node.RawNode.{RawNode}

abbrev pub raw : ℕ → ℕ → ℕ → ℕ → ℤ → RawNode
raw k e p l z = record { kind = k; end = e; place = p; length = l; number = z }

abbrev pub none : RawNode
none = raw 0 0 0 0 (pos 0)

abbrev pub at : List RawNode → ℕ → RawNode
at ns i = slice_index_or ns i none

-- the nodes from c on, each where the one before ends, as long as they lie below e; no more than the first number says
unfoldable pub walk : ℕ → List RawNode → ℕ → ℕ → List ℕ
walk zero ns e c = []
walk (suc most) ns e c = cond (nat_lt c e) (c ∷ walk most ns e (at ns c).end) []

abbrev pub from : List RawNode → ℕ → ℕ → List ℕ
from ns e c = walk e ns e c

-- each node below e ends behind itself
abbrev pub Forward : List RawNode → ℕ → Type 0
Forward ns e = (k : ℕ) → k < e → k < (at ns k).end

-- the children of a node: the first follows it, and each other one follows all that the one before holds
abbrev pub children : List RawNode → ℕ → List ℕ
children ns i = from ns (at ns i).end (i + 1)

-- the keys among a map's children, which are key and value in turn
abbrev pub keys_of : List ℕ → List ℕ
keys_of [] = []
keys_of (k ∷ []) = k ∷ []
keys_of (k ∷ v ∷ rest) = k ∷ keys_of rest

abbrev pub keys : List RawNode → ℕ → List ℕ
keys ns i = keys_of (children ns i)

-- a map's children as key and value
abbrev pub entries_of : List ℕ → List (ℕ × ℕ)
entries_of [] = []
entries_of (k ∷ []) = []
entries_of (k ∷ v ∷ rest) = (k, v) ∷ entries_of rest

-- the bytes of a string
abbrev pub bytes : RawNode → List ℕ → List ℕ
bytes n text = take n.length (drop n.place text)
