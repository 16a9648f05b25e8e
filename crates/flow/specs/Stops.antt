-- Where the reader stops, by nesting: what may be told of a value, of what a list or map holds, of what follows an item, and of an item, by what stands before it.
-- In each relation: the input, what is told, how many more lists and maps may open, and the place from which is read.
use Rattle.std.specs.Prelude.{◌≡◌, ◌≢◌, ℕ, ◌+◌, ◌<◌, ◌⊎◌, Bool, true, false, List, length, drop, Some, slice_index}
use Rattle.tree_rule.specs.declared.node.RawNode.{RawNode}
use Rattle.flow.specs.declared.misread.Misread.{Misread}
use Rattle.flow.specs.declared.misread.Reason.{Reason}
use Rattle.flow.specs.declared.misread.Reason.TheVariants.{NoValue, NoKey, NoColon, NoComma, Unfinished, OpenString, BadEscape, Control, BadNumber, TooDeep}
use Rattle.flow.specs.Flow.{closing, opening, Item, Key}
use Rattle.flow.specs.Places.{NoRoom}
use Rattle.flow.specs.Scalars.{piece}
use Rattle.flow.specs.Steps.{past_blanks, Behind}

-- from this place of the input to that one stands what K says
pub record Spans (K : ℕ → ℕ → List ℕ → List ℕ → List RawNode → List ℕ → Type 0) (input : List ℕ) (place end : ℕ) : Type 0 where
  pub node : ℕ
  pub before : ℕ
  pub nodes : List RawNode
  pub text : List ℕ
  pub is : K node before (drop place input) (drop end input) nodes text

-- only blanks are left here
abbrev pub Lacks : List ℕ → ℕ → Misread → Type 0
Lacks input place m = (past_blanks input place ≡ length input) × (m.reason ≡ Unfinished) × (m.place ≡ length input)

-- a byte stands behind the blanks here, and is refused
abbrev pub Here : List ℕ → ℕ → Misread → Type 0
Here input place m = (past_blanks input place < length input) × (m.place ≡ past_blanks input place)

-- from this place of the input to that one stand bytes of a string and escapes, and no closing quote
pub data Within (input : List ℕ) (place : ℕ) : ℕ → Type 0 where
  begins : Within input place place
  goes_on : {end width : ℕ} {these : List ℕ} → Within input place end → (slice_index input end ≢ 34) → piece (drop end input) ≡ Some (these, width) →
      Within input place (end + width)

-- why a byte of a string or an escape is refused
abbrev pub PieceReason : Reason → Type 0
PieceReason e = ((e ≡ BadEscape) ⊎ (e ≡ Control)) ⊎ NoRoom e

-- the inside of a string, from this place on, is refused at a byte or an escape, or has no end
abbrev pub StopsInside : List ℕ → ℕ → Misread → Type 0
StopsInside input place m = Within input place m.place × (((m.reason ≡ OpenString) × (m.place ≡ length input)) ⊎ PieceReason m.reason)

-- why a word, an integer or a string is refused at its place
abbrev pub LeafReason : Reason → Type 0
LeafReason e = ((e ≡ NoValue) ⊎ ((e ≡ NoKey) ⊎ (e ≡ BadNumber))) ⊎ NoRoom e

-- what holds no other value is refused at its place, or is a string and is refused within
abbrev pub StopsLeaf : List ℕ → ℕ → Misread → Type 0
StopsLeaf input place m = ((m.place ≡ place) × LeafReason m.reason) ⊎ ((slice_index input place ≡ 34) × StopsInside input (place + 1) m)

-- no colon follows
abbrev pub StopsColon : List ℕ → ℕ → Misread → Type 0
StopsColon input place m = Lacks input place m ⊎ ((m.reason ≡ NoColon) × Here input place m × (slice_index input (past_blanks input place) ≢ 58))

-- neither a comma nor the end of the list or map follows
abbrev pub StopsNext : Bool → List ℕ → ℕ → Misread → Type 0
StopsNext g input place m =
    Lacks input place m
    ⊎ ((m.reason ≡ NoComma) × Here input place m × (slice_index input (past_blanks input place) ≢ 44) × (slice_index input (past_blanks input place) ≢ closing g))

-- a list or map does not open here
abbrev pub StopsOpening : ℕ → ℕ → Misread → Type 0
StopsOpening d place m = (m.place ≡ place) × (((m.reason ≡ TooDeep) × (d ≡ 0)) ⊎ NoRoom m.reason)

mutual
  pub data StopsValue (input : List ℕ) (m : Misread) : ℕ → ℕ → Type 0 where
    no_value : {d place : ℕ} → Lacks input place m → StopsValue input m d place
    leaf : {d place : ℕ} → (past_blanks input place < length input) → StopsLeaf input (past_blanks input place) m →
        (slice_index input (past_blanks input place) ≢ 91) × (slice_index input (past_blanks input place) ≢ 123) → StopsValue input m d place
    unopened : {d place end : ℕ} (g : Bool) → Behind (opening g) input place end → StopsOpening d (past_blanks input place) m → StopsValue input m d place
    opened : {d place end : ℕ} (g : Bool) → Behind (opening g) input place end → StopsItems input m g d end → StopsValue input m (d + 1) place

  pub data StopsItems (input : List ℕ) (m : Misread) : Bool → ℕ → ℕ → Type 0 where
    no_end : {g : Bool} {d place : ℕ} → Lacks input place m → StopsItems input m g d place
    first_item : {g : Bool} {d place : ℕ} → (slice_index input (past_blanks input place) ≢ closing g) → StopsItem input m g d (past_blanks input place) →
        StopsItems input m g d place
    more : {g : Bool} {d place end : ℕ} → (slice_index input (past_blanks input place) ≢ closing g) → Spans (Item g) input (past_blanks input place) end →
        StopsMore input m g d end → StopsItems input m g d place

  pub data StopsMore (input : List ℕ) (m : Misread) : Bool → ℕ → ℕ → Type 0 where
    no_next : {g : Bool} {d place : ℕ} → StopsNext g input place m → StopsMore input m g d place
    next_item : {g : Bool} {d place from : ℕ} → Behind 44 input place from → StopsItem input m g d from → StopsMore input m g d place
    further : {g : Bool} {d place from end : ℕ} → Behind 44 input place from → Spans (Item g) input from end → StopsMore input m g d end →
        StopsMore input m g d place

  pub data StopsItem (input : List ℕ) (m : Misread) : Bool → ℕ → ℕ → Type 0 where
    item_value : {d place : ℕ} → StopsValue input m d place → StopsItem input m false d place
    no_key : {d place : ℕ} → Lacks input place m → StopsItem input m true d place
    refused_key : {d place : ℕ} → (past_blanks input place < length input) → StopsLeaf input (past_blanks input place) m → StopsItem input m true d place
    no_colon : {d place end : ℕ} → Spans Key input (past_blanks input place) end → StopsColon input end m → StopsItem input m true d place
    key_value : {d place end from : ℕ} → Spans Key input (past_blanks input place) end → Behind 58 input end from → StopsValue input m d from →
        StopsItem input m true d place
