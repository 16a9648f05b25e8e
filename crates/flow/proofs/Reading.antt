-- What is read from one cursor to another.
use Rattle.std.proofs.Common.{◌≡◌, ℕ, ◌+◌, ◌<◌, Bool, true, false, cond, List, [], ◌∷◌, ◌++◌, length, get_or, pos, sym, refl, ap, ◌∙◌, subst, arith}
use Rattle.tree_rule.specs.declared.node.RawNode.{RawNode}
use Rattle.tree_rule.specs.Nodes.{raw}
use Rattle.flow.specs.declared.arrays.Arrays.{Arrays}
use Rattle.flow.specs.declared.cursor.Cursor.{Cursor}
use Rattle.flow.specs.Flow.{Key, Value, Items, Item, closing, opening, kind_of, key, value}
use Rattle.flow.specs.Places.{Read}
use Rattle.flow.specs.Reads.{Reads, ReadsGroup}
use Rattle.flow.specs.Steps.{ending_here, past_blanks, Behind, IsEnd}
use Rattle.flow.proofs.Groups.{Begun, begun, goes_on, ended, empty, item_allows_blanks, value_allows_blanks, read_past, entry_read, group_read}

-- by a cursor with the same input
pub read_at : (K : ℕ → ℕ → List ℕ → List ℕ → List RawNode → List ℕ → Type 0) (c d e : Cursor) (a b : Arrays) → d.input ≡ c.input → Reads K d e a b →
    Read K c.input.now d.place e.place a.nodes.items b.nodes.items a.text.items b.text.items
read_at K c d e a b same r = subst (λ x. Read K x.now d.place e.place a.nodes.items b.nodes.items a.text.items b.text.items) same r.read

pub behind_at : (b : ℕ) (c d : Cursor) (end : ℕ) → d.input ≡ c.input → Behind b d.input.now d.place end → Behind b c.input.now d.place end
behind_at b c d end same m = subst (λ x. Behind b x.now d.place end) same m

pub as_value : (c d : Cursor) (a b : Arrays) → Reads Key c d a b → Reads Value c d a b
as_value c d a b r = record {
  onward = r.onward;
  read = record { added = r.read.added; more = r.read.more; is = key r.read.is; pushed = r.read.pushed; written = r.read.written };
}

pub as_item : (c d : Cursor) (a b : Arrays) → Reads Value c d a b → Reads (Item false) c d a b
as_item c d a b r = record {
  onward = r.onward;
  read = record { added = r.read.added; more = r.read.more; is = value r.read.is; pushed = r.read.pushed; written = r.read.written };
}

-- blanks, and then a value
pub value_past : (c d e : Cursor) (a b : Arrays) → d.input ≡ c.input → d.place ≡ past_blanks c.input.now c.place → Reads Value d e a b → Reads Value c e a b
value_past c d e a b same there r = record {
  onward = omega (arith, there, r.onward);
  read = read_past Value value_allows_blanks c.input.now c.place d.place e.place a.nodes.items b.nodes.items a.text.items b.text.items there (read_at Value c d e a b same r);
}

-- blanks, and then a key, a colon and a value
pub entry_past : (c d e f g : Cursor) (a b z : Arrays) → d.input ≡ c.input → d.place ≡ past_blanks c.input.now c.place → e.input ≡ d.input → f.input ≡ e.input →
    Reads Key d e a b → Behind 58 e.input.now e.place f.place → Reads Value f g b z → Reads (Item true) c g a z
entry_past c d e f g a b z same there s t k m v = record {
  onward = omega (arith, there, k.onward, v.onward, m.2);
  read = read_past (Item true) (item_allows_blanks true) c.input.now c.place d.place g.place a.nodes.items z.nodes.items a.text.items z.text.items there
      (entry_read c.input.now d.place e.place f.place g.place a.nodes.items b.nodes.items z.nodes.items a.text.items b.text.items z.text.items
      (read_at Key c d e a b same k) (behind_at 58 c e f.place (s ∙ same) m) (read_at Value c f g b z (t ∙ s ∙ same) v));
}

-- a list or map from its opening bracket to its end
pub group_at : (m : Bool) (c s e : Cursor) (a b w : Arrays) (node : ℕ) → s.input ≡ c.input → s.place ≡ c.place + 1 →
    get_or c.input.now c.place 0 ≡ opening m → c.place < length c.input.now → node ≡ length a.nodes.items →
    b.nodes.items ≡ a.nodes.items ++ raw (kind_of m) (length a.nodes.items + 1) 0 0 (pos 0) ∷ [] → b.text ≡ a.text → ReadsGroup m node s e b w → Reads Value c e a w
group_at m c s e a b w node same behind bracket h number opened kept r = record {
  onward = omega (arith, behind, r.onward);
  read = group_read m c.input.now c.place e.place node a.nodes.items b.nodes.items r.held w.nodes.items a.text.items b.text.items w.text.items w.text.items
      h bracket number opened (ap (λ v. v.items) kept)
      (subst (λ (n : ℕ). Read (Items m) c.input.now n e.place b.nodes.items r.held b.text.items w.text.items) behind
      (subst (λ x. Read (Items m) x.now s.place e.place b.nodes.items r.held b.text.items w.text.items) same r.read))
      r.ended refl;
}

-- the end of an empty list or map
pub empty_at : (m : Bool) (node : ℕ) (c d : Cursor) (a z : Arrays) (b : Bool) → b ≡ true → IsEnd b (closing m) c.input.now c.place d.place →
    z.nodes.items ≡ cond b (ending_here node a.nodes.items) a.nodes.items → z.text ≡ a.text → ReadsGroup m node c d a z
empty_at m node c d a z b e i closed kept =
    let k : Behind (closing m) c.input.now c.place d.place = subst (λ x. IsEnd x (closing m) c.input.now c.place d.place) e i in
    record {
      onward = omega (arith, k.2);
      held = a.nodes.items;
      read = subst (λ v. Read (Items m) c.input.now c.place d.place a.nodes.items a.nodes.items a.text.items v.items) (sym kept) (empty m c.input.now c.place d.place a.nodes.items a.text.items k);
      ended = subst (λ x. z.nodes.items ≡ cond x (ending_here node a.nodes.items) a.nodes.items) e closed;
    }

-- by arrays with the same nodes and text before
pub from_same : (K : ℕ → ℕ → List ℕ → List ℕ → List RawNode → List ℕ → Type 0) (c d : Cursor) (a b z : Arrays) → b.nodes.items ≡ a.nodes.items → b.text ≡ a.text →
    Reads K c d b z → Reads K c d a z
from_same K c d a b z e f r = record {
  onward = r.onward;
  read = subst (λ (ns : List RawNode). Read K c.input.now c.place d.place ns z.nodes.items a.text.items z.text.items) e
      (subst (λ v. Read K c.input.now c.place d.place b.nodes.items z.nodes.items v.items z.text.items) f r.read);
}

-- the first item
pub begun_at : (m : Bool) (node : ℕ) (c d e : Cursor) (a y z : Arrays) (b : Bool) → d.input ≡ c.input → b ≡ false → IsEnd b (closing m) c.input.now c.place d.place →
    y.nodes.items ≡ cond b (ending_here node a.nodes.items) a.nodes.items → y.text ≡ a.text →
    Reads (Item m) d e y z → Begun m c.input.now c.place e.place a.nodes.items z.nodes.items a.text.items z.text.items
begun_at m node c d e a y z b same f i nodes kept read =
    let there : d.place ≡ past_blanks c.input.now c.place = (subst (λ x. IsEnd x (closing m) c.input.now c.place d.place) f i).0 in
    let r : Reads (Item m) d e a z = from_same (Item m) d e a y z (subst (λ x. y.nodes.items ≡ cond x (ending_here node a.nodes.items) a.nodes.items) f nodes) kept read in
    begun m c.input.now c.place e.place a.nodes.items z.nodes.items a.text.items z.text.items (omega (arith, there, r.onward))
    (read_past (Item m) (item_allows_blanks m) c.input.now c.place d.place e.place a.nodes.items z.nodes.items a.text.items z.text.items there (read_at (Item m) c d e a z same r))

-- a comma and one item more
pub goes_on_at : (m : Bool) (node : ℕ) (c l d e : Cursor) (a b y z : Arrays) (more : Bool) → l.input ≡ c.input → d.input ≡ l.input → more ≡ true →
    Begun m c.input.now c.place l.place a.nodes.items b.nodes.items a.text.items b.text.items → Behind (cond more 44 (closing m)) l.input.now l.place d.place →
    y.nodes.items ≡ cond more b.nodes.items (ending_here node b.nodes.items) → y.text ≡ b.text →
    Reads (Item m) d e y z → Begun m c.input.now c.place e.place a.nodes.items z.nodes.items a.text.items z.text.items
goes_on_at m node c l d e a b y z more same on t g k nodes kept read =
    let r : Reads (Item m) d e b z = from_same (Item m) d e b y z (subst (λ x. y.nodes.items ≡ cond x b.nodes.items (ending_here node b.nodes.items)) t nodes) kept read in
    goes_on m c.input.now c.place l.place d.place e.place a.nodes.items b.nodes.items z.nodes.items a.text.items b.text.items z.text.items g
    (behind_at 44 c l d.place same (subst (λ x. Behind (cond x 44 (closing m)) l.input.now l.place d.place) t k)) r.onward (read_at (Item m) c d e b z (on ∙ same) r)

-- the end behind an item
pub ended_at : (m : Bool) (node : ℕ) (c l d : Cursor) (a b z : Arrays) (more : Bool) → l.input ≡ c.input → more ≡ false →
    Begun m c.input.now c.place l.place a.nodes.items b.nodes.items a.text.items b.text.items → Behind (cond more 44 (closing m)) l.input.now l.place d.place →
    z.nodes.items ≡ cond more b.nodes.items (ending_here node b.nodes.items) → z.text ≡ b.text → ReadsGroup m node c d a z
ended_at m node c l d a b z more same f g k closed kept =
    let j = behind_at (closing m) c l d.place same (subst (λ x. Behind (cond x 44 (closing m)) l.input.now l.place d.place) f k) in
    record {
      onward = omega (arith, g.onward, j.2);
      held = b.nodes.items;
      read = subst (λ v. Read (Items m) c.input.now c.place d.place a.nodes.items b.nodes.items a.text.items v.items) (sym kept)
          (ended m c.input.now c.place l.place d.place a.nodes.items b.nodes.items a.text.items b.text.items g j);
      ended = subst (λ x. z.nodes.items ≡ cond x b.nodes.items (ending_here node b.nodes.items)) f closed;
    }
