-- The flow form: which bytes are a document, and the nodes and the text of it.
-- In each relation: the number of the next node, how long the text is so far, the bytes, what follows, the nodes, what is added to the text.
use Rattle.std.specs.Prelude.{◌≡◌, ℕ, ◌+◌, Bool, true, false, ◌&&◌, List, [], ◌∷◌, ◌++◌, length, ℤ, pos}
use Rattle.tree_rule.specs.declared.node.RawNode.{RawNode}
use Rattle.tree_rule.specs.Nodes.{raw}
use Rattle.flow.specs.Scalars.{is_blank, Integer, Inside, Word}

-- the bytes around a list, and around a map
abbrev pub opening : Bool → ℕ
opening false = 91
opening true = 123

abbrev pub closing : Bool → ℕ
closing false = 93
closing true = 125

abbrev pub kind_of : Bool → ℕ
kind_of false = 4
kind_of true = 5

-- an integer or a string: what may be a key
pub data Key : ℕ → ℕ → List ℕ → List ℕ → List RawNode → List ℕ → Type 0 where
  integer : {n t : ℕ} {bytes rest : List ℕ} {z : ℤ} → Integer bytes rest z →
      Key n t bytes rest (raw 2 (n + 1) 0 0 z ∷ []) []
  string : {n t : ℕ} {bytes rest text : List ℕ} → Inside bytes rest text →
      Key n t (34 ∷ bytes) rest (raw 3 (n + 1) t (length text) (pos 0) ∷ []) text

mutual
  pub data Value : ℕ → ℕ → List ℕ → List ℕ → List RawNode → List ℕ → Type 0 where
    key : {n t : ℕ} {bytes rest : List ℕ} {ns : List RawNode} {text : List ℕ} → Key n t bytes rest ns text → Value n t bytes rest ns text
    word : {n t k : ℕ} {bytes rest : List ℕ} {z : ℤ} → Word bytes rest k z → Value n t bytes rest (raw k (n + 1) 0 0 z ∷ []) []
    -- a list, or a map
    group : {n t : ℕ} {bytes rest : List ℕ} {ns : List RawNode} {text : List ℕ} (m : Bool) → Items m (n + 1) t bytes rest ns text →
        Value n t (opening m ∷ bytes) rest (raw (kind_of m) (n + 1 + length ns) 0 0 (pos 0) ∷ ns) text
    blank : {n t b : ℕ} {bytes rest : List ℕ} {ns : List RawNode} {text : List ℕ} → is_blank b ≡ true →
        Value n t bytes rest ns text → Value n t (b ∷ bytes) rest ns text

  -- what a list holds, with its closing bracket; what a map holds
  pub data Items : Bool → ℕ → ℕ → List ℕ → List ℕ → List RawNode → List ℕ → Type 0 where
    none : {n t : ℕ} {rest : List ℕ} (m : Bool) → Items m n t (closing m ∷ rest) rest [] []
    first : {n t : ℕ} {bytes mid rest : List ℕ} {ns ms : List RawNode} {text more : List ℕ} (m : Bool) →
        Item m n t bytes mid ns text → More m (n + length ns) (t + length text) mid rest ms more →
        Items m n t bytes rest (ns ++ ms) (text ++ more)
    blank_items : {n t b : ℕ} {bytes rest : List ℕ} {ns : List RawNode} {text : List ℕ} (m : Bool) → is_blank b ≡ true →
        Items m n t bytes rest ns text → Items m n t (b ∷ bytes) rest ns text

  -- what follows an item
  pub data More : Bool → ℕ → ℕ → List ℕ → List ℕ → List RawNode → List ℕ → Type 0 where
    last : {n t : ℕ} {rest : List ℕ} (m : Bool) → More m n t (closing m ∷ rest) rest [] []
    comma : {n t : ℕ} {bytes mid rest : List ℕ} {ns ms : List RawNode} {text more : List ℕ} (m : Bool) →
        Item m n t bytes mid ns text → More m (n + length ns) (t + length text) mid rest ms more →
        More m n t (44 ∷ bytes) rest (ns ++ ms) (text ++ more)
    blank_more : {n t b : ℕ} {bytes rest : List ℕ} {ns : List RawNode} {text : List ℕ} (m : Bool) → is_blank b ≡ true →
        More m n t bytes rest ns text → More m n t (b ∷ bytes) rest ns text

  -- a value of a list, or a key and its value
  pub data Item : Bool → ℕ → ℕ → List ℕ → List ℕ → List RawNode → List ℕ → Type 0 where
    value : {n t : ℕ} {bytes rest : List ℕ} {ns : List RawNode} {text : List ℕ} → Value n t bytes rest ns text → Item false n t bytes rest ns text
    entry : {n t : ℕ} {bytes mid rest : List ℕ} {ns ms : List RawNode} {text more : List ℕ} →
        Key n t bytes mid ns text → Bound (n + length ns) (t + length text) mid rest ms more →
        Item true n t bytes rest (ns ++ ms) (text ++ more)
    blank_item : {n t b : ℕ} {bytes rest : List ℕ} {ns : List RawNode} {text : List ℕ} → is_blank b ≡ true →
        Item true n t bytes rest ns text → Item true n t (b ∷ bytes) rest ns text

  -- a colon and a value, as they follow a key
  pub data Bound : ℕ → ℕ → List ℕ → List ℕ → List RawNode → List ℕ → Type 0 where
    colon : {n t : ℕ} {bytes rest : List ℕ} {ns : List RawNode} {text : List ℕ} → Value n t bytes rest ns text →
        Bound n t (58 ∷ bytes) rest ns text
    blank_bound : {n t b : ℕ} {bytes rest : List ℕ} {ns : List RawNode} {text : List ℕ} → is_blank b ≡ true →
        Bound n t bytes rest ns text → Bound n t (b ∷ bytes) rest ns text

abbrev pub is_blanks : List ℕ → Bool
is_blanks [] = true
is_blanks (b ∷ bs) = is_blank b && is_blanks bs

-- a document: one value, with nothing but blanks around it
pub record Document (bytes : List ℕ) (ns : List RawNode) (text : List ℕ) : Type 0 where
  pub rest : List ℕ
  pub value : Value 0 0 bytes rest ns text
  pub blanks : is_blanks rest ≡ true
