-- Where reading stops, from one cursor to another.
use Rattle.std.proofs.Common.{◌≡◌, ◌≢◌, ℕ, ◌+◌, ◌<◌, ◌⊎◌, Bool, true, false, cond, List, length, drop, Some, sym, refl, ap, ◌∙◌, subst, slice_index}
use Rattle.tree_rule.specs.declared.node.RawNode.{RawNode}
use Rattle.flow.specs.declared.arrays.Arrays.{Arrays}
use Rattle.flow.specs.declared.cursor.Cursor.{Cursor}
use Rattle.flow.specs.declared.misread.Misread.{Misread}
use Rattle.flow.specs.declared.misread.Reason.TheVariants.{TooDeep}
use Rattle.flow.specs.Flow.{Item, Key, closing, opening}
use Rattle.flow.specs.Places.{NoRoom, ReadPiece}
use Rattle.flow.specs.Reads.{Reads}
use Rattle.flow.specs.Scalars.{piece}
use Rattle.flow.specs.Steps.{past_blanks, Behind, IsEnd}
use Rattle.flow.specs.Stops.{Spans, StopsColon, StopsItem, StopsItems, StopsLeaf, StopsMore, StopsNext, StopsValue, Within, first_item, further, goes_on, key_value, leaf, more, next_item, no_colon, no_next, opened, refused_key, unopened}

-- what was read, by a cursor with the same input
pub spans_at : (K : ℕ → ℕ → List ℕ → List ℕ → List RawNode → List ℕ → Type 0) (c d e : Cursor) (a b : Arrays) (place : ℕ) → d.input ≡ c.input → d.place ≡ place →
    Reads K d e a b → Spans K c.input.now place e.place
spans_at K c d e a b place same there r = record {
  node = length a.nodes.items;
  before = length a.text.items;
  nodes = r.read.added;
  text = r.read.more;
  is = subst (λ x. K (length a.nodes.items) (length a.text.items) (drop place x.now) (drop e.place x.now) r.read.added r.read.more) same
      (subst (λ (p : ℕ). K (length a.nodes.items) (length a.text.items) (drop p d.input.now) (drop e.place d.input.now) r.read.added r.read.more) there r.read.is);
}

-- the byte behind the blanks
byte_at : (c d : Cursor) (b : ℕ) → d.input ≡ c.input → d.place ≡ past_blanks c.input.now c.place → slice_index d.input.now d.place ≡ b →
    slice_index c.input.now (past_blanks c.input.now c.place) ≡ b
byte_at c d b same there h = subst (λ p. slice_index c.input.now p ≡ b) there (subst (λ x. slice_index x.now d.place ≡ b) same h)

bound_at : (c d : Cursor) → d.input ≡ c.input → d.place ≡ past_blanks c.input.now c.place → d.place < length d.input.now → past_blanks c.input.now c.place < length c.input.now
bound_at c d same there within = subst (λ p. p < length c.input.now) there (subst (λ x. d.place < length x.now) same within)

behind_opening : (b : ℕ) (c d : Cursor) → d.input ≡ c.input → d.place ≡ past_blanks c.input.now c.place → slice_index d.input.now d.place ≡ b →
    d.place < length d.input.now → Behind b c.input.now c.place (d.place + 1)
behind_opening b c d same there h within = (
  bound_at c d same there within,
  byte_at c d b same there h,
  ap (λ n. n + 1) there,
)

leaf_stops : (c d : Cursor) (m : Misread) → d.input ≡ c.input → d.place ≡ past_blanks c.input.now c.place → StopsLeaf d.input.now d.place m →
    StopsLeaf c.input.now (past_blanks c.input.now c.place) m
leaf_stops c d m same there s = subst (λ p. StopsLeaf c.input.now p m) there (subst (λ x. StopsLeaf x.now d.place m) same s)

-- a value that holds no other
pub leaf_at : (c d : Cursor) (n b : ℕ) → d.input ≡ c.input → d.place ≡ past_blanks c.input.now c.place → (d.place < length d.input.now) × (slice_index d.input.now d.place ≡ b) →
    (b ≢ 91) × (b ≢ 123) → (m : Misread) → StopsLeaf d.input.now d.place m → StopsValue c.input.now m n c.place
leaf_at c d n b same there here not m s =
    let at = byte_at c d b same there here.1 in
    leaf (bound_at c d same there here.0) (leaf_stops c d m same there s) ((λ e. not.0 (sym at ∙ e)), (λ e. not.1 (sym at ∙ e)))

-- a list or map that does not open
pub unopened_at : (g : Bool) (c d : Cursor) (n : ℕ) (m : Misread) → d.input ≡ c.input → d.place ≡ past_blanks c.input.now c.place →
    slice_index d.input.now d.place ≡ opening g → d.place < length d.input.now → m.place ≡ d.place → ((m.reason ≡ TooDeep) × (n ≡ 0)) ⊎ NoRoom m.reason →
    StopsValue c.input.now m n c.place
unopened_at g c d n m same there here within place why = unopened g (behind_opening (opening g) c d same there here within) (place ∙ there, why)

-- what a list or map holds
pub opened_at : (g : Bool) (c d s : Cursor) (n inner : ℕ) → d.input ≡ c.input → d.place ≡ past_blanks c.input.now c.place →
    slice_index d.input.now d.place ≡ opening g → d.place < length d.input.now → s.input ≡ d.input → s.place ≡ d.place + 1 → n ≡ inner + 1 →
    (m : Misread) → StopsItems s.input.now m g inner s.place → StopsValue c.input.now m n c.place
opened_at g c d s n inner same there here within on behind deeper m stops =
    subst (λ (k : ℕ). StopsValue c.input.now m k c.place) (sym deeper)
    (opened g (behind_opening (opening g) c d same there here within)
    (subst (λ (p : ℕ). StopsItems c.input.now m g inner p) behind (subst (λ x. StopsItems x.now m g inner s.place) (on ∙ same) stops)))

-- the first item
pub first_item_at : (g : Bool) (c d : Cursor) (n : ℕ) (b : Bool) → d.input ≡ c.input → b ≡ false → IsEnd b (closing g) c.input.now c.place d.place →
    (m : Misread) → StopsItem d.input.now m g n d.place → StopsItems c.input.now m g n c.place
first_item_at g c d n b same f i m s =
    let at : IsEnd false (closing g) c.input.now c.place d.place = subst (λ x. IsEnd x (closing g) c.input.now c.place d.place) f i in
    first_item (λ e. at.2 (ap (slice_index c.input.now) at.0 ∙ e))
    (subst (λ (p : ℕ). StopsItem c.input.now m g n p) at.0 (subst (λ x. StopsItem x.now m g n d.place) same s))

-- where reading stops behind what was read of a list or map, it stops in the list or map
abbrev pub StopsBehind : List ℕ → Bool → ℕ → ℕ → ℕ → Type 0
StopsBehind input g n place here = (m : Misread) → StopsMore input m g n here → StopsItems input m g n place

pub behind_first : (g : Bool) (c d e : Cursor) (y z : Arrays) (n : ℕ) (b : Bool) → d.input ≡ c.input → b ≡ false → IsEnd b (closing g) c.input.now c.place d.place →
    Reads (Item g) d e y z → StopsBehind c.input.now g n c.place e.place
behind_first g c d e y z n b same f i r m s =
    let at : IsEnd false (closing g) c.input.now c.place d.place = subst (λ x. IsEnd x (closing g) c.input.now c.place d.place) f i in
    more (λ e. at.2 (ap (slice_index c.input.now) at.0 ∙ e)) (spans_at (Item g) c d e y z (past_blanks c.input.now c.place) same at.0 r) s

comma_at : (g : Bool) (c l d : Cursor) (b : Bool) → l.input ≡ c.input → b ≡ true → Behind (cond b 44 (closing g)) l.input.now l.place d.place →
    Behind 44 c.input.now l.place d.place
comma_at g c l d b same t k =
    subst (λ x. Behind 44 x.now l.place d.place) same (subst (λ x. Behind (cond x 44 (closing g)) l.input.now l.place d.place) t k)

pub behind_next : (g : Bool) (c l d e : Cursor) (y z : Arrays) (n : ℕ) (b : Bool) → l.input ≡ c.input → d.input ≡ l.input → b ≡ true →
    Behind (cond b 44 (closing g)) l.input.now l.place d.place → Reads (Item g) d e y z → StopsBehind c.input.now g n c.place l.place →
    StopsBehind c.input.now g n c.place e.place
behind_next g c l d e y z n b same on t k r before m s =
    before m (further (comma_at g c l d b same t k) (spans_at (Item g) c d e y z d.place (on ∙ same) refl r) s)

-- neither a comma nor the end
pub next_at : (g : Bool) (c l : Cursor) (n : ℕ) → l.input ≡ c.input → StopsBehind c.input.now g n c.place l.place → (m : Misread) →
    StopsNext g l.input.now l.place m → StopsItems c.input.now m g n c.place
next_at g c l n same before m s = before m (no_next (subst (λ x. StopsNext g x.now l.place m) same s))

-- an item behind a comma
pub next_item_at : (g : Bool) (c l d : Cursor) (n : ℕ) (b : Bool) → l.input ≡ c.input → d.input ≡ l.input → b ≡ true →
    Behind (cond b 44 (closing g)) l.input.now l.place d.place → StopsBehind c.input.now g n c.place l.place → (m : Misread) →
    StopsItem d.input.now m g n d.place → StopsItems c.input.now m g n c.place
next_item_at g c l d n b same on t k before m s =
    before m (next_item (comma_at g c l d b same t k) (subst (λ x. StopsItem x.now m g n d.place) (on ∙ same) s))

-- a key
pub key_at : (c d : Cursor) (n : ℕ) → d.input ≡ c.input → d.place ≡ past_blanks c.input.now c.place → d.place < length d.input.now → (m : Misread) →
    StopsLeaf d.input.now d.place m → StopsItem c.input.now m true n c.place
key_at c d n same there within m s = refused_key (bound_at c d same there within) (leaf_stops c d m same there s)

-- the colon behind a key
pub colon_at : (c d e : Cursor) (a b : Arrays) (n : ℕ) → d.input ≡ c.input → d.place ≡ past_blanks c.input.now c.place → e.input ≡ d.input → Reads Key d e a b →
    (m : Misread) → StopsColon e.input.now e.place m → StopsItem c.input.now m true n c.place
colon_at c d e a b n same there on k m s =
    no_colon (spans_at Key c d e a b (past_blanks c.input.now c.place) same there k) (subst (λ x. StopsColon x.now e.place m) (on ∙ same) s)

-- the value behind a colon
pub key_value_at : (c d e f : Cursor) (a b : Arrays) (n : ℕ) → d.input ≡ c.input → d.place ≡ past_blanks c.input.now c.place → e.input ≡ d.input →
    f.input ≡ e.input → Reads Key d e a b → Behind 58 e.input.now e.place f.place → (m : Misread) → StopsValue f.input.now m n f.place →
    StopsItem c.input.now m true n c.place
key_value_at c d e f a b n same there on further_on k colon m s =
    key_value (spans_at Key c d e a b (past_blanks c.input.now c.place) same there k) (subst (λ x. Behind 58 x.now e.place f.place) (on ∙ same) colon)
    (subst (λ x. StopsValue x.now m n f.place) (further_on ∙ on ∙ same) s)

-- a byte of a string or an escape more
pub within_more : (input here : List ℕ) (from place end : ℕ) (text texts : List ℕ) → here ≡ input → Within input from place →
    (slice_index here place ≢ 34) → ReadPiece here place end text texts → Within input from end
within_more input here from place end text texts same w not r =
    subst (λ (n : ℕ). Within input from n) (sym r.there)
    (goes_on w (subst (λ (bs : List ℕ). slice_index bs place ≢ 34) same not) (subst (λ (bs : List ℕ). piece (drop place bs) ≡ Some (r.these, r.width)) same r.is))
