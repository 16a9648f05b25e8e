-- Places in a document.
use Rattle.std.specs.Prelude.{◌≡◌, ℕ, ◌+◌, ◌<◌, ◌≤◌, ◌⊎◌, List, [], ◌++◌, length, drop, Some, None, Ok, Err, Option, Result, ◌≢◌, slice_index}
use Rattle.tree_rule.specs.declared.node.RawNode.{RawNode}
use Rattle.std.specs.Int.{IsInRange}
use Rattle.flow.specs.Scalars.{piece, Wordless}
use Rattle.flow.specs.declared.misread.Misread.{Misread}
use Rattle.flow.specs.declared.misread.Reason.{Reason}
use Rattle.flow.specs.declared.misread.Reason.TheVariants.{NoValue, NoKey, NoColon, NoComma, Trailing, Unfinished, OpenString, BadEscape, Control, BadNumber, TooDeep, TooManyNodes, TooMuchText, NoMemory}

-- no string, integer, list or map begins with this byte
abbrev pub Startless : ℕ → Type 0
Startless b = (b ≢ 34) × (b ≢ 45) × (IsInRange 48 57 b → ⊥) × (b ≢ 91) × (b ≢ 123)

-- what each reason says of the bytes at its place
abbrev pub Complaint : Reason → List ℕ → Type 0
Complaint NoValue bs = Wordless bs × Startless (slice_index bs 0)
Complaint NoKey bs = (slice_index bs 0 ≢ 34) × (slice_index bs 0 ≢ 45) × (IsInRange 48 57 (slice_index bs 0) → ⊥)
Complaint NoColon bs = slice_index bs 0 ≡ 58 → ⊥
Complaint NoComma bs = slice_index bs 0 ≡ 44 → ⊥
Complaint Trailing bs = 0 < length bs
Complaint Unfinished bs = bs ≡ []
Complaint OpenString bs = bs ≡ []
Complaint BadEscape bs = piece bs ≡ None
Complaint Control bs = piece bs ≡ None
Complaint BadNumber bs = (slice_index bs 0 ≡ 45) ⊎ IsInRange 48 57 (slice_index bs 0)
Complaint TooDeep bs = Unit {0}
Complaint TooManyNodes bs = Unit {0}
Complaint TooMuchText bs = Unit {0}
Complaint NoMemory bs = Unit {0}

-- what is told is told of a place within the document, and is so there
abbrev pub Told : List ℕ → Misread → Type 0
Told input m = (m.place ≤ length input) × Complaint m.reason (drop m.place input)

-- there was no room for what was read
abbrev pub NoRoom : Reason → Type 0
NoRoom e = ((e ≡ TooMuchText) ⊎ (e ≡ TooManyNodes)) ⊎ (e ≡ NoMemory)

-- a piece of a string was read and added to the text, or there is none, or there was no room for it
abbrev pub Wrote : Option (List ℕ × ℕ) → Result ℕ Reason → List ℕ → List ℕ → Type 0
Wrote p (Ok w) before after = (ts : List ℕ) × (p ≡ Some (ts, w)) × (after ≡ before ++ ts)
Wrote p (Err e) before after = ((p ≡ None) × ((e ≡ BadEscape) ⊎ (e ≡ Control))) ⊎ NoRoom e

-- from this place of the input to that one stands what K says, and its nodes and text were added
pub record Read (K : ℕ → ℕ → List ℕ → List ℕ → List RawNode → List ℕ → Type 0) (input : List ℕ) (place end : ℕ)
    (ns ms : List RawNode) (text texts : List ℕ) : Type 0 where
  pub added : List RawNode
  pub more : List ℕ
  pub is : K (length ns) (length text) (drop place input) (drop end input) added more
  pub pushed : ms ≡ ns ++ added
  pub written : texts ≡ text ++ more

-- from this place of the input to that one stands a piece of a string, and its bytes were added
pub record ReadPiece (input : List ℕ) (place end : ℕ) (text texts : List ℕ) : Type 0 where
  pub these : List ℕ
  pub width : ℕ
  pub is : piece (drop place input) ≡ Some (these, width)
  pub there : end ≡ place + width
  pub written : texts ≡ text ++ these
