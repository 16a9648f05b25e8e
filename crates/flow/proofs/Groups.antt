-- What is read in the middle of a list or map.
use Rattle.std.proofs.Common.{◌≡◌, ℕ, ◌+◌, ◌<◌, Bool, true, false, List, [], ◌∷◌, ◌++◌, length, get_or, drop, pos, sym, refl, ap, ◌∙◌, subst, append_assoc, arith, length-append}
use Rattle.std.specs.List.{prefix_len}
use Rattle.std.proofs.lemmas.List.{append-nil, drop-drop, drop_more, get_or_at, set_at}
use Rattle.tree_rule.specs.declared.node.RawNode.{RawNode}
use Rattle.tree_rule.specs.Nodes.{raw, at, none}
use Rattle.flow.specs.Scalars.{is_blank}
use Rattle.flow.specs.Flow.{Key, Value, Items, More, Item, Bound, closing, opening, kind_of, blank, blank_items, blank_more, blank_item, blank_bound, group, first, comma, last, value, entry, colon}
use Rattle.flow.specs.Flow.{none as no_items}
use Rattle.flow.specs.Places.{Read}
use Rattle.flow.specs.Steps.{ending_here, past_blanks, Behind}
use Rattle.flow.proofs.Blanks.{behind_blanks}

-- what stands behind the blanks here
pub past : (input : List ℕ) (place : ℕ) → drop (prefix_len is_blank (drop place input)) (drop place input) ≡ drop (past_blanks input place) input
past input place = drop-drop (prefix_len is_blank (drop place input)) place input

-- blanks, a byte and the rest
pub mark : (b : ℕ) (input : List ℕ) (place end : ℕ) → Behind b input place end → drop (past_blanks input place) input ≡ b ∷ drop end input
mark b input place end m =
    drop_more input (past_blanks input place) 0 m.0 ∙ ap (λ x. x ∷ drop (past_blanks input place + 1) input) m.1 ∙ ap (λ n. b ∷ drop n input) (sym m.2)

-- what a relation lets stand behind blanks, it lets stand before them too
abbrev pub AllowsBlanks : (ℕ → ℕ → List ℕ → List ℕ → List RawNode → List ℕ → Type 0) → Type 0
AllowsBlanks K = (n t b : ℕ) (bs rest : List ℕ) (ns : List RawNode) (text : List ℕ) → is_blank b ≡ true → K n t bs rest ns text → K n t (b ∷ bs) rest ns text

pub value_allows_blanks : AllowsBlanks Value
value_allows_blanks n t b bs rest ns text e v = blank e v

pub items_allow_blanks : (m : Bool) → AllowsBlanks (Items m)
items_allow_blanks m n t b bs rest ns text e v = blank_items m e v

pub more_allows_blanks : (m : Bool) → AllowsBlanks (More m)
more_allows_blanks m n t b bs rest ns text e v = blank_more m e v

pub item_allows_blanks : (m : Bool) → AllowsBlanks (Item m)
item_allows_blanks true n t b bs rest ns text e v = blank_item e v
item_allows_blanks false n t b bs rest ns text e (value v) = value (blank e v)

pub bound_allows_blanks : AllowsBlanks Bound
bound_allows_blanks n t b bs rest ns text e v = blank_bound e v

pub before_blanks : (K : ℕ → ℕ → List ℕ → List ℕ → List RawNode → List ℕ → Type 0) → AllowsBlanks K → (input : List ℕ) (place : ℕ) (n t : ℕ) (rest : List ℕ) (ns : List RawNode) (text : List ℕ) →
    K n t (drop (past_blanks input place) input) rest ns text → K n t (drop place input) rest ns text
before_blanks K p input place n t rest ns text k =
    behind_blanks (λ bs. K n t bs rest ns text) (λ b bs e. p n t b bs rest ns text e) (drop place input)
    (subst (λ (bs : List ℕ). K n t bs rest ns text) (sym (past input place)) k)

-- the same of what was read
pub read_past : (K : ℕ → ℕ → List ℕ → List ℕ → List RawNode → List ℕ → Type 0) → AllowsBlanks K → (input : List ℕ) (place past end : ℕ) (ns ms : List RawNode) (text texts : List ℕ) →
    past ≡ past_blanks input place → Read K input past end ns ms text texts → Read K input place end ns ms text texts
read_past K p input place past end ns ms text texts e r = record {
  added = r.added;
  more = r.more;
  is = before_blanks K p input place (length ns) (length text) (drop end input) r.added r.more
      (subst (λ (n : ℕ). K (length ns) (length text) (drop n input) (drop end input) r.added r.more) e r.is);
  pushed = r.pushed;
  written = r.written;
}

-- what was read of a list or map: whatever may follow it makes the whole
pub record Begun (m : Bool) (input : List ℕ) (place end : ℕ) (ns ms : List RawNode) (text texts : List ℕ) : Type 0 where
  pub onward : place < end
  pub added : List RawNode
  pub more : List ℕ
  pub is : (rest : List ℕ) (os : List RawNode) (us : List ℕ) → More m (length ms) (length texts) (drop end input) rest os us →
      Items m (length ns) (length text) (drop place input) rest (added ++ os) (more ++ us)
  pub pushed : ms ≡ ns ++ added
  pub written : texts ≡ text ++ more

-- what follows an item, by the nodes and the text with that item's
follows : (m : Bool) (ns ms : List RawNode) (ts us : List ℕ) (bs rest : List ℕ) (ls : List RawNode) (vs : List ℕ) (xs : List RawNode) (ys : List ℕ) →
    xs ≡ ns ++ ms → ys ≡ ts ++ us → More m (length xs) (length ys) bs rest ls vs → More m (length ns + length ms) (length ts + length us) bs rest ls vs
follows m ns ms ts us bs rest ls vs xs ys e f r =
    subst (λ (n : ℕ). More m n (length ts + length us) bs rest ls vs) (ap length e ∙ length-append ns ms)
    (subst (λ (t : ℕ). More m (length xs) t bs rest ls vs) (ap length f ∙ length-append ts us) r)

-- the first item
pub begun : (m : Bool) (input : List ℕ) (place end : ℕ) (ns ms : List RawNode) (text texts : List ℕ) → place < end → Read (Item m) input place end ns ms text texts →
    Begun m input place end ns ms text texts
begun m input place end ns ms text texts h r = record {
  onward = h;
  added = r.added;
  more = r.more;
  is = λ rest os us k. first m r.is (follows m ns r.added text r.more (drop end input) rest os us ms texts r.pushed r.written k);
  pushed = r.pushed;
  written = r.written;
}

-- a comma and one item more
pub goes_on : (m : Bool) (input : List ℕ) (place end from to : ℕ) (ns ms os : List RawNode) (text mid texts : List ℕ) → Begun m input place end ns ms text mid →
    Behind 44 input end from → from < to → Read (Item m) input from to ms os mid texts → Begun m input place to ns os text texts
goes_on m input place end from to ns ms os text mid texts b c h r = record {
  onward = omega (arith, b.onward, c.2, h);
  added = b.added ++ r.added;
  more = b.more ++ r.more;
  is = λ rest ls us k.
      subst (λ (xs : List RawNode). Items m (length ns) (length text) (drop place input) rest xs ((b.more ++ r.more) ++ us)) (sym (append_assoc b.added r.added ls))
      (subst (λ (xs : List ℕ). Items m (length ns) (length text) (drop place input) rest (b.added ++ (r.added ++ ls)) xs) (sym (append_assoc b.more r.more us))
      (b.is rest (r.added ++ ls) (r.more ++ us)
      (before_blanks (More m) (more_allows_blanks m) input end (length ms) (length mid) rest (r.added ++ ls) (r.more ++ us)
      (subst (λ (bs : List ℕ). More m (length ms) (length mid) bs rest (r.added ++ ls) (r.more ++ us)) (sym (mark 44 input end from c))
      (comma m r.is (follows m ms r.added mid r.more (drop to input) rest ls us os texts r.pushed r.written k))))));
  pushed = r.pushed ∙ ap (λ xs. xs ++ r.added) b.pushed ∙ append_assoc ns b.added r.added;
  written = r.written ∙ ap (λ xs. xs ++ r.more) b.written ∙ append_assoc text b.more r.more;
}

-- the end behind an item
pub ended : (m : Bool) (input : List ℕ) (place end to : ℕ) (ns ms : List RawNode) (text texts : List ℕ) → Begun m input place end ns ms text texts →
    Behind (closing m) input end to → Read (Items m) input place to ns ms text texts
ended m input place end to ns ms text texts b c = record {
  added = b.added;
  more = b.more;
  is =
      subst (λ (xs : List RawNode). Items m (length ns) (length text) (drop place input) (drop to input) xs b.more) (append-nil b.added)
      (subst (λ (xs : List ℕ). Items m (length ns) (length text) (drop place input) (drop to input) (b.added ++ []) xs) (append-nil b.more)
      (b.is (drop to input) [] []
      (before_blanks (More m) (more_allows_blanks m) input end (length ms) (length texts) (drop to input) [] []
      (subst (λ (bs : List ℕ). More m (length ms) (length texts) bs (drop to input) [] []) (sym (mark (closing m) input end to c)) (last m)))));
  pushed = b.pushed;
  written = b.written;
}

-- the end of an empty list or map
pub empty : (m : Bool) (input : List ℕ) (place to : ℕ) (ns : List RawNode) (text : List ℕ) → Behind (closing m) input place to →
    Read (Items m) input place to ns ns text text
empty m input place to ns text c = record {
  added = [];
  more = [];
  is = before_blanks (Items m) (items_allow_blanks m) input place (length ns) (length text) (drop to input) [] []
      (subst (λ (bs : List ℕ). Items m (length ns) (length text) bs (drop to input) [] []) (sym (mark (closing m) input place to c)) (no_items m));
  pushed = sym (append-nil ns);
  written = sym (append-nil text);
}

-- a key, a colon and a value
pub entry_read : (input : List ℕ) (place end from to : ℕ) (ns ms os : List RawNode) (text mid texts : List ℕ) → Read Key input place end ns ms text mid →
    Behind 58 input end from → Read Value input from to ms os mid texts → Read (Item true) input place to ns os text texts
entry_read input place end from to ns ms os text mid texts k c v = record {
  added = k.added ++ v.added;
  more = k.more ++ v.more;
  is = entry k.is
      (subst (λ (n : ℕ). Bound n (length text + length k.more) (drop end input) (drop to input) v.added v.more) (ap length k.pushed ∙ length-append ns k.added)
      (subst (λ (t : ℕ). Bound (length ms) t (drop end input) (drop to input) v.added v.more) (ap length k.written ∙ length-append text k.more)
      (before_blanks Bound bound_allows_blanks input end (length ms) (length mid) (drop to input) v.added v.more
      (subst (λ (bs : List ℕ). Bound (length ms) (length mid) bs (drop to input) v.added v.more) (sym (mark 58 input end from c)) (colon v.is)))));
  pushed = v.pushed ∙ ap (λ xs. xs ++ v.added) k.pushed ∙ append_assoc ns k.added v.added;
  written = v.written ∙ ap (λ xs. xs ++ v.more) k.written ∙ append_assoc text k.more v.more;
}

group_ends : (k : ℕ) (ns ms : List RawNode) →
    ending_here (length ns) ((ns ++ raw k (length ns + 1) 0 0 (pos 0) ∷ []) ++ ms) ≡ ns ++ raw k (length ns + 1 + length ms) 0 0 (pos 0) ∷ ms
group_ends k ns ms =
    let x = raw k (length ns + 1) 0 0 (pos 0) in
    let here : at (ns ++ x ∷ ms) (length ns) ≡ x = get_or_at ns x ms none (length ns) refl in
    let long : length (ns ++ x ∷ ms) ≡ length ns + 1 + length ms = omega (arith, length-append ns (x ∷ ms)) in
    ap (ending_here (length ns)) (append_assoc ns (x ∷ []) ms)
    ∙ set_at ns x ms (raw (at (ns ++ x ∷ ms) (length ns)).kind (length (ns ++ x ∷ ms)) (at (ns ++ x ∷ ms) (length ns)).place (at (ns ++ x ∷ ms) (length ns)).length (at (ns ++ x ∷ ms) (length ns)).number) (length ns) refl
    ∙ ap (λ (y : RawNode). ns ++ raw y.kind (length (ns ++ x ∷ ms)) y.place y.length y.number ∷ ms) here
    ∙ ap (λ e. ns ++ raw k e 0 0 (pos 0) ∷ ms) long

-- a list or map, from its opening bracket to its end
pub group_read : (m : Bool) (input : List ℕ) (place end node : ℕ) (ns ms os after : List RawNode) (text mid texts kept_text : List ℕ) →
    place < length input → get_or input place 0 ≡ opening m → node ≡ length ns → ms ≡ ns ++ raw (kind_of m) (length ns + 1) 0 0 (pos 0) ∷ [] → mid ≡ text →
    Read (Items m) input (place + 1) end ms os mid texts → after ≡ ending_here node os → kept_text ≡ texts → Read Value input place end ns after text kept_text
group_read m input place end node ns ms os after text mid texts kept_text h e number opened same r closed kept = record {
  added = raw (kind_of m) (length ns + 1 + length r.added) 0 0 (pos 0) ∷ r.added;
  more = r.more;
  is = subst (λ (bs : List ℕ). Value (length ns) (length text) bs (drop end input) (raw (kind_of m) (length ns + 1 + length r.added) 0 0 (pos 0) ∷ r.added) r.more)
      (ap (λ b. b ∷ drop (place + 1) input) (sym e) ∙ sym (drop_more input place 0 h))
      (group m
      (subst (λ (n : ℕ). Items m n (length text) (drop (place + 1) input) (drop end input) r.added r.more) (ap length opened ∙ length-append ns (raw (kind_of m) (length ns + 1) 0 0 (pos 0) ∷ []))
      (subst (λ (t : ℕ). Items m (length ms) t (drop (place + 1) input) (drop end input) r.added r.more) (ap length same) r.is)));
  pushed = closed
      ∙ ap (λ n. ending_here n os) number
      ∙ ap (ending_here (length ns)) (r.pushed ∙ ap (λ xs. xs ++ r.added) opened)
      ∙ group_ends (kind_of m) ns r.added;
  written = kept ∙ r.written ∙ ap (λ xs. xs ++ r.more) same;
}
