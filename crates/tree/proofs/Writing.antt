-- Every value within the limits is stood for by some well-formed arrays.
use Rattle.std.proofs.Common.{◌≡◌, ℕ, ◌+◌, ◌-◌, ◌<◌, ◌≤◌, Bool, true, false, cond, ◌⊎◌, List, [], ◌∷◌, length, take, drop, ℤ, pos, IsUtf8, sym, refl, ap, ◌∙◌, subst, inl, inr, append-nil, arith, w64, SFits}
use mir.Facts.{sfits_lit}
use Rattle.std.proofs.ByRecursion.{All-from_get_or}
use Rattle.std.specs.List.{AllByRecursion}
use Rattle.std.proofs.lemmas.Bool.{cases_lt}
use Rattle.tree_rule.specs.declared.node.RawNode.{RawNode}
use Rattle.tree_rule.specs.Nodes.{at, none, raw, bytes, children, keys_of, Forward}
use Rattle.tree_rule.specs.Rule.{Right, Filled, Paired, Distinct, InTurn, Nests, Apart, Equal, Leaf, Known, Truth, Ends, Lies, Spelled}
use Rattle.tree.specs.Values.{Value, Items, Entries, other, boolean, integer, string, list, map, no_item, item, no_entry, entry, Stands, Row, Pairs, number, numbers}
use Rattle.tree.specs.Questions.{held, item_numbers, entry_numbers}
use Rattle.tree.specs.Limits.{size, items_size, entries_size, spelling, Fair, ItemsFair, EntriesFair, Deep, ItemsDeep, EntriesDeep, map_keys, SameKey, key_of, by_text, by_number, Within, Written, Stored}
use Rattle.tree.proofs.Laying.{width, nodes_of, Laid, LaidItems, LaidEntries, nodes_size, laid_out}
use Rattle.tree.proofs.Chains.{held_children, stands_number}
use Rattle.tree_rule.proofs.Nesting.{nests_node}

size_pos : (v : Value) → 1 ≤ size v
size_pos (other n) = omega arith
size_pos (boolean n b) = omega arith
size_pos (integer n z) = omega arith
size_pos (string n bs) = omega arith
size_pos (list n vs) = omega arith
size_pos (map n es) = omega arith

end_of : {k e p l : ℕ} {z : ℤ} (ns : List RawNode) (i : ℕ) → at ns i ≡ raw k e p l z → (at ns i).end ≡ e
end_of ns i q = ap (λ (n : RawNode). n.end) q

kind_of : {k e p l : ℕ} {z : ℤ} (ns : List RawNode) (i : ℕ) → at ns i ≡ raw k e p l z → (at ns i).kind ≡ k
kind_of ns i q = ap (λ (n : RawNode). n.kind) q

number_of_lem : {k e p l : ℕ} {z : ℤ} (ns : List RawNode) (i : ℕ) → at ns i ≡ raw k e p l z → (at ns i).number ≡ z
number_of_lem ns i q = ap (λ (n : RawNode). n.number) q

laid_end : (ns : List RawNode) (text : List ℕ) (i t : ℕ) (v : Value) → Laid ns text i t v → (at ns i).end ≡ i + size v
laid_end ns text i t (other n) l = end_of ns i l.1
laid_end ns text i t (boolean n b) l = end_of ns i l.1
laid_end ns text i t (integer n z) l = end_of ns i l.1
laid_end ns text i t (string n bs) l = end_of ns i l.1
laid_end ns text i t (list n vs) l = let e = end_of ns i l.1 in omega arith
laid_end ns text i t (map n es) l = let e = end_of ns i l.1 in omega arith

mutual
  laid_stands : (ns : List RawNode) (text : List ℕ) (i t : ℕ) (v : Value) → Laid ns text i t v → Stands ns text i v
  laid_stands ns text i t (other n) l = (l.0, kind_of ns i l.1)
  laid_stands ns text i t (boolean n b) l = (l.0, kind_of ns i l.1, number_of_lem ns i l.1)
  laid_stands ns text i t (integer n z) l = (l.0, kind_of ns i l.1, number_of_lem ns i l.1)
  laid_stands ns text i t (string n bs) l =
      (l.0, kind_of ns i l.1, ap (λ (n : RawNode). bytes n text) l.1 ∙ l.2)
  laid_stands ns text i t (list n vs) l =
      let e = end_of ns i l.1 in
      (l.0, kind_of ns i l.1, items_stand ns text (i + 1) t (at ns i).end vs l.2 e)
  laid_stands ns text i t (map n es) l =
      let e = end_of ns i l.1 in
      (l.0, kind_of ns i l.1, entries_stand ns text (i + 1) t (at ns i).end es l.2 e)

  items_stand : (ns : List RawNode) (text : List ℕ) (c t e : ℕ) (vs : Items) → LaidItems ns text c t vs → e ≡ c + items_size vs →
      Row ns text c e vs
  items_stand ns text c t e no_item l p = omega arith
  items_stand ns text c t e (item v vs) l p =
      let s = size_pos v in
      let q = laid_end ns text c t v l.0 in (
        omega arith,
        laid_stands ns text c t v l.0,
        subst (λ (x : ℕ). Row ns text x e vs) (sym q) (items_stand ns text (c + size v) (t + width v) e vs l.1 (omega arith)),
      )

  entries_stand : (ns : List RawNode) (text : List ℕ) (c t e : ℕ) (es : Entries) → LaidEntries ns text c t es → e ≡ c + entries_size es →
      Pairs ns text c e es
  entries_stand ns text c t e no_entry l p = omega arith
  entries_stand ns text c t e (entry k v es) l p =
      let s = size_pos k in
      let u = size_pos v in
      let q = laid_end ns text c t k l.0 in
      let r = laid_end ns text (c + size k) (t + width k) v l.1 in
      let m : (at ns (at ns c).end).end ≡ c + size k + size v = ap (λ (x : ℕ). (at ns x).end) q ∙ r in (
        omega arith,
        laid_stands ns text c t k l.0,
        omega arith,
        subst (λ (x : ℕ). Stands ns text x v) (sym q) (laid_stands ns text (c + size k) (t + width k) v l.1),
        subst (λ (x : ℕ). Pairs ns text x e es) (sym m)
            (entries_stand ns text (c + size k + size v) (t + width k + width v) e es l.2 (omega arith)),
      )

laid_number : (ns : List RawNode) (text : List ℕ) (i t : ℕ) (v : Value) → Laid ns text i t v → number v ≡ i
laid_number ns text i t v l = stands_number ns text i v (laid_stands ns text i t v l)

-- what follows for a node from its part being laid out and fair
abbrev Step : List RawNode → List ℕ → ℕ → (ℕ → Type 0) → Type 0
Step ns text n P = (i t : ℕ) (v : Value) → Laid ns text i t v → Fair v → i + size v ≤ n → P i

here_or : (i k : ℕ) → i ≤ k → (k ≡ i) ⊎ (i + 1 ≤ k)
here_or i k h = go (cases_lt i k) where
  go : (i < k) ⊎ (k ≤ i) → (k ≡ i) ⊎ (i + 1 ≤ k)
  go (inl l) = inr (omega arith)
  go (inr l) = inl (omega arith)

above : (P : ℕ → Type 0) (i k : ℕ) → (k ≡ i) ⊎ (i + 1 ≤ k) → P i → (i + 1 ≤ k → P k) → P k
above P i k (inl e) here next = subst P (sym e) here
above P i k (inr l) here next = next l

below : (P : ℕ → Type 0) (m k : ℕ) → (k < m) ⊎ (m ≤ k) → (k < m → P k) → (m ≤ k → P k) → P k
below P m k (inl l) left right = left l
below P m k (inr l) left right = right l

-- so it follows for every node of the value
mutual
  each_node : (ns : List RawNode) (text : List ℕ) (n : ℕ) (P : ℕ → Type 0) → Step ns text n P → (i t : ℕ) (v : Value) →
      Laid ns text i t v → Fair v → i + size v ≤ n → (k : ℕ) → i ≤ k → k < i + size v → P k
  each_node ns text n P st i t (other m) l f b k h u = above P i k (here_or i k h) (st i t (other m) l f b) (λ x. absurd (omega arith))
  each_node ns text n P st i t (boolean m y) l f b k h u = above P i k (here_or i k h) (st i t (boolean m y) l f b) (λ x. absurd (omega arith))
  each_node ns text n P st i t (integer m z) l f b k h u = above P i k (here_or i k h) (st i t (integer m z) l f b) (λ x. absurd (omega arith))
  each_node ns text n P st i t (string m bs) l f b k h u = above P i k (here_or i k h) (st i t (string m bs) l f b) (λ x. absurd (omega arith))
  each_node ns text n P st i t (list m vs) l f b k h u =
      above P i k (here_or i k h) (st i t (list m vs) l f b)
      (λ x. each_item ns text n P st (i + 1) t vs l.2 f (omega arith) k x (omega arith))
  each_node ns text n P st i t (map m es) l f b k h u =
      above P i k (here_or i k h) (st i t (map m es) l f b)
      (λ x. each_entry ns text n P st (i + 1) t es l.2 f.1 (omega arith) k x (omega arith))

  each_item : (ns : List RawNode) (text : List ℕ) (n : ℕ) (P : ℕ → Type 0) → Step ns text n P → (c t : ℕ) (vs : Items) →
      LaidItems ns text c t vs → ItemsFair vs → c + items_size vs ≤ n → (k : ℕ) → c ≤ k → k < c + items_size vs → P k
  each_item ns text n P st c t no_item l f b k h u = absurd (omega arith)
  each_item ns text n P st c t (item v vs) l f b k h u =
      below P (c + size v) k (cases_lt k (c + size v))
      (λ x. each_node ns text n P st c t v l.0 f.0 (omega arith) k h x)
      (λ x. each_item ns text n P st (c + size v) (t + width v) vs l.1 f.1 (omega arith) k x (omega arith))

  each_entry : (ns : List RawNode) (text : List ℕ) (n : ℕ) (P : ℕ → Type 0) → Step ns text n P → (c t : ℕ) (es : Entries) →
      LaidEntries ns text c t es → EntriesFair es → c + entries_size es ≤ n → (k : ℕ) → c ≤ k → k < c + entries_size es → P k
  each_entry ns text n P st c t no_entry l f b k h u = absurd (omega arith)
  each_entry ns text n P st c t (entry x v es) l f b k h u =
      below P (c + size x) k (cases_lt k (c + size x))
      (λ m. each_node ns text n P st c t x l.0 f.0 (omega arith) k h m)
      (λ m. below P (c + size x + size v) k (cases_lt k (c + size x + size v))
      (λ o. each_node ns text n P st (c + size x) (t + width x) v l.1 f.1 (omega arith) k m o)
      (λ o. each_entry ns text n P st (c + size x + size v) (t + width x + width v) es l.2 f.2 (omega arith) k o (omega arith)))

right_raw : (ns : List RawNode) (text : List ℕ) (i k e p l : ℕ) (z : ℤ) → at ns i ≡ raw k e p l z → k ≤ 5 →
    (k ≡ 1 → (z ≡ pos 0) ⊎ (z ≡ pos 1)) → (i < e) × (e ≤ length ns) → (k < 4 → e ≡ i + 1) → (k ≡ 3 → p + l ≤ length text) →
    (k ≡ 3 → IsUtf8 (take l (drop p text))) → Right ns text i
right_raw ns text i k e p l z q known truth ends leaf lies spelled = record {
  known = subst Known (sym q) known;
  truth = subst Truth (sym q) truth;
  ends = subst (λ (n : RawNode). Ends n i (length ns)) (sym q) ends;
  leaf = subst (λ (n : RawNode). Leaf n i) (sym q) leaf;
  lies = subst (λ (n : RawNode). Lies n text) (sym q) lies;
  spelled = subst (λ (n : RawNode). Spelled n text) (sym q) spelled;
}

zero_or_one : (b : Bool) → (cond b (pos 1) (pos 0) ≡ pos 0) ⊎ (cond b (pos 1) (pos 0) ≡ pos 1)
zero_or_one true = inr refl
zero_or_one false = inl refl

right_step : (ns : List RawNode) (text : List ℕ) → Step ns text (length ns) (Right ns text)
right_step ns text i t (other n) l f b =
    right_raw ns text i 0 (i + 1) 0 0 (pos 0) l.1 (omega arith) (λ x. absurd (omega arith)) (omega arith, omega arith) (λ _. refl)
    (λ x. absurd (omega arith)) (λ x. absurd (omega arith))
right_step ns text i t (boolean n y) l f b =
    right_raw ns text i 1 (i + 1) 0 0 _ l.1 (omega arith) (λ _. zero_or_one y) (omega arith, omega arith) (λ _. refl)
    (λ x. absurd (omega arith)) (λ x. absurd (omega arith))
right_step ns text i t (integer n z) l f b =
    right_raw ns text i 2 (i + 1) 0 0 z l.1 (omega arith) (λ x. absurd (omega arith)) (omega arith, omega arith) (λ _. refl)
    (λ x. absurd (omega arith)) (λ x. absurd (omega arith))
right_step ns text i t (string n bs) l f b =
    right_raw ns text i 3 (i + 1) t (length bs) (pos 0) l.1 (omega arith) (λ x. absurd (omega arith)) (omega arith, omega arith) (λ _. refl)
    (λ _. l.3) (λ _. subst IsUtf8 (sym l.2) f)
right_step ns text i t (list n vs) l f b =
    right_raw ns text i 4 (i + 1 + items_size vs) 0 0 (pos 0) l.1 (omega arith) (λ x. absurd (omega arith)) (omega arith, omega arith)
    (λ x. absurd (omega arith)) (λ x. absurd (omega arith)) (λ x. absurd (omega arith))
right_step ns text i t (map n es) l f b =
    right_raw ns text i 5 (i + 1 + entries_size es) 0 0 (pos 0) l.1 (omega arith) (λ x. absurd (omega arith)) (omega arith, omega arith)
    (λ x. absurd (omega arith)) (λ x. absurd (omega arith)) (λ x. absurd (omega arith))

-- the nodes from c on end by e
items_fill : (ns : List RawNode) (text : List ℕ) (c t e : ℕ) (vs : Items) → LaidItems ns text c t vs → e ≡ c + items_size vs →
    AllByRecursion (λ k. (at ns k).end ≤ e) (item_numbers vs)
items_fill ns text c t e no_item l p = tt
items_fill ns text c t e (item v vs) l p =
    let q = laid_end ns text c t v l.0 in
    let here : (at ns c).end ≤ e = omega arith in (
      subst (λ (k : ℕ). (at ns k).end ≤ e) (sym (laid_number ns text c t v l.0)) here,
      items_fill ns text (c + size v) (t + width v) e vs l.1 (omega arith),
    )

entries_fill : (ns : List RawNode) (text : List ℕ) (c t e : ℕ) (es : Entries) → LaidEntries ns text c t es → e ≡ c + entries_size es →
    AllByRecursion (λ k. (at ns k).end ≤ e) (entry_numbers es)
entries_fill ns text c t e no_entry l p = tt
entries_fill ns text c t e (entry k v es) l p =
    let q = laid_end ns text c t k l.0 in
    let r = laid_end ns text (c + size k) (t + width k) v l.1 in
    let key : (at ns c).end ≤ e = omega arith in
    let val : (at ns (c + size k)).end ≤ e = omega arith in (
      subst (λ (x : ℕ). (at ns x).end ≤ e) (sym (laid_number ns text c t k l.0)) key,
      (
        subst (λ (x : ℕ). (at ns x).end ≤ e) (sym (laid_number ns text (c + size k) (t + width k) v l.1)) val,
        entries_fill ns text (c + size k + size v) (t + width k + width v) e es l.2 (omega arith),
      ),
    )

held_fill : (ns : List RawNode) (text : List ℕ) (i t : ℕ) (v : Value) → Laid ns text i t v → AllByRecursion (λ k. (at ns k).end ≤ (at ns i).end) (held v)
held_fill ns text i t (other n) l = tt
held_fill ns text i t (boolean n b) l = tt
held_fill ns text i t (integer n z) l = tt
held_fill ns text i t (string n bs) l = tt
held_fill ns text i t (list n vs) l = items_fill ns text (i + 1) t (at ns i).end vs l.2 (end_of ns i l.1)
held_fill ns text i t (map n es) l = entries_fill ns text (i + 1) t (at ns i).end es l.2 (end_of ns i l.1)

laid_children : (ns : List RawNode) (text : List ℕ) (i t : ℕ) (v : Value) → Forward ns (length ns) → Laid ns text i t v → Fair v →
    i + size v ≤ length ns → children ns i ≡ held v
laid_children ns text i t v fw l f b =
    let e = laid_end ns text i t v l in
    held_children ns text i v (λ k m. fw k (omega arith)) (right_step ns text i t v l f b).leaf (laid_stands ns text i t v l)

filled_step : (ns : List RawNode) (text : List ℕ) → Forward ns (length ns) → Step ns text (length ns) (Filled ns)
filled_step ns text fw i t v l f b =
    subst (AllByRecursion (λ k. (at ns k).end ≤ (at ns i).end)) (sym (laid_children ns text i t v fw l f b)) (held_fill ns text i t v l)

entries_turn : (es : Entries) → InTurn (entry_numbers es)
entries_turn no_entry = tt
entries_turn (entry k v es) = entries_turn es

held_turn : (ns : List RawNode) (text : List ℕ) (i t : ℕ) (v : Value) → Laid ns text i t v → (at ns i).kind ≡ 5 → InTurn (held v)
held_turn ns text i t (other n) l p = tt
held_turn ns text i t (boolean n b) l p = tt
held_turn ns text i t (integer n z) l p = tt
held_turn ns text i t (string n bs) l p = tt
held_turn ns text i t (list n vs) l p = let q = kind_of ns i l.1 in absurd (omega arith)
held_turn ns text i t (map n es) l p = entries_turn es

paired_step : (ns : List RawNode) (text : List ℕ) → Forward ns (length ns) → Step ns text (length ns) (Paired ns)
paired_step ns text fw i t v l f b p =
    subst InTurn (sym (laid_children ns text i t v fw l f b)) (held_turn ns text i t v l p)

-- equal nodes are equal keys
text_key : (ns : List RawNode) (text : List ℕ) (i : ℕ) (v : Value) → Stands ns text i v → (at ns i).kind ≡ 3 → key_of v ≡ by_text (bytes (at ns i) text)
text_key ns text i (other n) s p = absurd (omega (arith, s.1))
text_key ns text i (boolean n b) s p = absurd (omega (arith, s.1))
text_key ns text i (integer n z) s p = absurd (omega (arith, s.1))
text_key ns text i (string n bs) s p = ap by_text (sym s.2)
text_key ns text i (list n vs) s p = absurd (omega (arith, s.1))
text_key ns text i (map n es) s p = absurd (omega (arith, s.1))

number_key : (ns : List RawNode) (text : List ℕ) (i : ℕ) (v : Value) → Stands ns text i v → (at ns i).kind ≡ 2 → key_of v ≡ by_number (at ns i).number
number_key ns text i (other n) s p = absurd (omega (arith, s.1))
number_key ns text i (boolean n b) s p = absurd (omega (arith, s.1))
number_key ns text i (integer n z) s p = ap by_number (sym s.2)
number_key ns text i (string n bs) s p = absurd (omega (arith, s.1))
number_key ns text i (list n vs) s p = absurd (omega (arith, s.1))
number_key ns text i (map n es) s p = absurd (omega (arith, s.1))

equal_same : (ns : List RawNode) (text : List ℕ) (i j : ℕ) (k l : Value) → Stands ns text i k → Stands ns text j l → Equal ns text i j → SameKey k l
equal_same ns text i j k l s u (inl e) =
    let p = text_key ns text i k s e.0 in
    let q = text_key ns text j l u e.1 in
    (p ∙ ap by_text e.2 ∙ sym q, λ n. let z : ◌≡◌ {A = ℕ} 0 1 = cc in omega arith)
equal_same ns text i j k l s u (inr e) =
    let p = number_key ns text i k s e.0 in
    let q = number_key ns text j l u e.1 in
    (p ∙ ap by_number e.2 ∙ sym q, λ n. let z : ◌≡◌ {A = ℕ} 0 1 = cc in omega arith)

unlike_nodes : (ns : List RawNode) (text : List ℕ) (k : Value) (ks : List Value) → Stands ns text (number k) k →
    AllByRecursion (λ l. Stands ns text (number l) l) ks → AllByRecursion (λ l. SameKey k l → ⊥) ks →
    AllByRecursion (λ j. Equal ns text (number k) j → ⊥) (numbers ks)
unlike_nodes ns text k [] s ss a = tt
unlike_nodes ns text k (l ∷ ls) s ss a =
    (λ e. a.0 (equal_same ns text (number k) (number l) k l s ss.0 e), unlike_nodes ns text k ls s ss.1 a.1)

apart_nodes : (ns : List RawNode) (text : List ℕ) (ks : List Value) → AllByRecursion (λ k. Stands ns text (number k) k) ks → Apart SameKey ks →
    Apart (Equal ns text) (numbers ks)
apart_nodes ns text [] ss a = tt
apart_nodes ns text (k ∷ ks) ss a = (unlike_nodes ns text k ks ss.0 ss.1 a.0, apart_nodes ns text ks ss.1 a.1)

keys_numbers : (es : Entries) → keys_of (entry_numbers es) ≡ numbers (map_keys es)
keys_numbers no_entry = refl
keys_numbers (entry k v es) = ap (λ (ks : List ℕ). number k ∷ ks) (keys_numbers es)

keys_stand : (ns : List RawNode) (text : List ℕ) (c t : ℕ) (es : Entries) → LaidEntries ns text c t es →
    AllByRecursion (λ k. Stands ns text (number k) k) (map_keys es)
keys_stand ns text c t no_entry l = tt
keys_stand ns text c t (entry k v es) l = (
  subst (λ (x : ℕ). Stands ns text x k) (sym (laid_number ns text c t k l.0)) (laid_stands ns text c t k l.0),
  keys_stand ns text (c + size k + size v) (t + width k + width v) es l.2,
)

held_apart : (ns : List RawNode) (text : List ℕ) (i t : ℕ) (v : Value) → Laid ns text i t v → Fair v → (at ns i).kind ≡ 5 →
    Apart (Equal ns text) (keys_of (held v))
held_apart ns text i t (other n) l f p = tt
held_apart ns text i t (boolean n b) l f p = tt
held_apart ns text i t (integer n z) l f p = tt
held_apart ns text i t (string n bs) l f p = tt
held_apart ns text i t (list n vs) l f p = let q = kind_of ns i l.1 in absurd (omega arith)
held_apart ns text i t (map n es) l f p =
    subst (Apart (Equal ns text)) (sym (keys_numbers es)) (apart_nodes ns text (map_keys es) (keys_stand ns text (i + 1) t es l.2) f.0)

distinct_step : (ns : List RawNode) (text : List ℕ) → Forward ns (length ns) → Step ns text (length ns) (Distinct ns text)
distinct_step ns text fw i t v l f b p =
    subst (λ (ks : List ℕ). Apart (Equal ns text) (keys_of ks)) (sym (laid_children ns text i t v fw l f b)) (held_apart ns text i t v l f p)

forward_step : (ns : List RawNode) (text : List ℕ) (n : ℕ) → Step ns text n (λ k. k < (at ns k).end)
forward_step ns text n i t v l f b =
    let e = laid_end ns text i t v l in let s = size_pos v in omega arith

mutual
  nests_laid : (ns : List RawNode) (text : List ℕ) (d i t : ℕ) (v : Value) → Forward ns (length ns) → Laid ns text i t v → Fair v →
      i + size v ≤ length ns → Deep d v → Nests d ns i
  nests_laid ns text d i t (other n) fw l f b h =
      nests_node d ns i h (subst (AllByRecursion (Nests (d - 1) ns)) (sym (laid_children ns text i t (other n) fw l f b)) tt)
  nests_laid ns text d i t (boolean n y) fw l f b h =
      nests_node d ns i h (subst (AllByRecursion (Nests (d - 1) ns)) (sym (laid_children ns text i t (boolean n y) fw l f b)) tt)
  nests_laid ns text d i t (integer n z) fw l f b h =
      nests_node d ns i h (subst (AllByRecursion (Nests (d - 1) ns)) (sym (laid_children ns text i t (integer n z) fw l f b)) tt)
  nests_laid ns text d i t (string n bs) fw l f b h =
      nests_node d ns i h (subst (AllByRecursion (Nests (d - 1) ns)) (sym (laid_children ns text i t (string n bs) fw l f b)) tt)
  nests_laid ns text d i t (list n vs) fw l f b h =
      nests_node d ns i h.0 (subst (AllByRecursion (Nests (d - 1) ns)) (sym (laid_children ns text i t (list n vs) fw l f b))
      (items_nest ns text (d - 1) (i + 1) t vs fw l.2 f (omega arith) h.1))
  nests_laid ns text d i t (map n es) fw l f b h =
      nests_node d ns i h.0 (subst (AllByRecursion (Nests (d - 1) ns)) (sym (laid_children ns text i t (map n es) fw l f b))
      (entries_nest ns text (d - 1) (i + 1) t es fw l.2 f.1 (omega arith) h.1))

  items_nest : (ns : List RawNode) (text : List ℕ) (d c t : ℕ) (vs : Items) → Forward ns (length ns) → LaidItems ns text c t vs → ItemsFair vs →
      c + items_size vs ≤ length ns → ItemsDeep d vs → AllByRecursion (Nests d ns) (item_numbers vs)
  items_nest ns text d c t no_item fw l f b h = tt
  items_nest ns text d c t (item v vs) fw l f b h = (
    subst (Nests d ns) (sym (laid_number ns text c t v l.0)) (nests_laid ns text d c t v fw l.0 f.0 (omega arith) h.0),
    items_nest ns text d (c + size v) (t + width v) vs fw l.1 f.1 (omega arith) h.1,
  )

  entries_nest : (ns : List RawNode) (text : List ℕ) (d c t : ℕ) (es : Entries) → Forward ns (length ns) → LaidEntries ns text c t es →
      EntriesFair es → c + entries_size es ≤ length ns → EntriesDeep d es → AllByRecursion (Nests d ns) (entry_numbers es)
  entries_nest ns text d c t no_entry fw l f b h = tt
  entries_nest ns text d c t (entry k v es) fw l f b h = (
    subst (Nests d ns) (sym (laid_number ns text c t k l.0)) (nests_laid ns text d c t k fw l.0 f.0 (omega arith) h.0),
    (
      subst (Nests d ns) (sym (laid_number ns text (c + size k) (t + width k) v l.1))
          (nests_laid ns text d (c + size k) (t + width k) v fw l.1 f.1 (omega arith) h.1),
      entries_nest ns text d (c + size k + size v) (t + width k + width v) es fw l.2 f.2 (omega arith) h.2,
    ),
  )

stored_raw : (n : RawNode) (k e p l : ℕ) (z : ℤ) → n ≡ raw k e p l z → k ≤ 5 → e ≤ 65536 → p ≤ 1048576 → l ≤ 1048576 → SFits w64 z → Stored n
stored_raw n k e p l z q a b d g h = subst Stored (sym q) (record {
  kind = omega arith;
  end = omega arith;
  place = omega arith;
  length = omega arith;
  number = h;
})

truth_fits : (b : Bool) → SFits w64 (cond b (pos 1) (pos 0))
truth_fits true = sfits_lit tt
truth_fits false = sfits_lit tt

stored_step : (ns : List RawNode) (text : List ℕ) → length ns ≤ 65536 → length text ≤ 1048576 →
    Step ns text (length ns) (λ k. Stored (at ns k))
stored_step ns text c s i t (other n) l f b =
    stored_raw _ 0 (i + 1) 0 0 (pos 0) l.1 (omega arith) (omega arith) (omega arith) (omega arith) (sfits_lit tt)
stored_step ns text c s i t (boolean n y) l f b =
    stored_raw _ 1 (i + 1) 0 0 _ l.1 (omega arith) (omega arith) (omega arith) (omega arith) (truth_fits y)
stored_step ns text c s i t (integer n z) l f b =
    stored_raw _ 2 (i + 1) 0 0 z l.1 (omega arith) (omega arith) (omega arith) (omega arith) f
stored_step ns text c s i t (string n bs) l f b =
    let h = l.3 in
    stored_raw _ 3 (i + 1) t (length bs) (pos 0) l.1 (omega arith) (omega arith) (omega arith) (omega arith) (sfits_lit tt)
stored_step ns text c s i t (list n vs) l f b =
    stored_raw _ 4 (i + 1 + items_size vs) 0 0 (pos 0) l.1 (omega arith) (omega arith) (omega arith) (omega arith) (sfits_lit tt)
stored_step ns text c s i t (map n es) l f b =
    stored_raw _ 5 (i + 1 + entries_size es) 0 0 (pos 0) l.1 (omega arith) (omega arith) (omega arith) (omega arith) (sfits_lit tt)

pub written : (v : Value) → Within v → Written v
written v w =
    let ns = nodes_of 0 0 v in
    let text = spelling v in
    let n = nodes_size 0 0 v in
    let some = size_pos v in
    let few = w.few in
    let short = w.short in
    let l : Laid ns text 0 0 v = laid_out ns text 0 0 v [] [] w.numbered (omega arith) (sym (append-nil ns)) (sym (append-nil text)) in
    let all : 0 + size v ≤ length ns = omega arith in
    let each : (P : ℕ → Type 0) → Step ns text (length ns) P → (k : ℕ) → k < length ns → P k =
    λ P st k h. each_node ns text (length ns) P st 0 0 v l w.fair all k (omega arith) (omega arith) in
    let fw : Forward ns (length ns) = each (λ k. k < (at ns k).end) (forward_step ns text (length ns)) in
    let root = laid_end ns text 0 0 v l in
    record {
      nodes = ns;
      text = text;
      formed = record {
        counted = (omega arith, omega arith);
        short = short;
        rooted = omega arith;
        nodes = each (Right ns text) (right_step ns text);
        filled = each (Filled ns) (filled_step ns text fw);
        paired = each (Paired ns) (paired_step ns text fw);
        shallow = nests_laid ns text 64 0 0 v fw l w.fair all w.deep;
        distinct = each (Distinct ns text) (distinct_step ns text fw);
      };
      stands = laid_stands ns text 0 0 v l;
      stored = All-from_get_or Stored ns none (each (λ k. Stored (at ns k)) (stored_step ns text (omega arith) short));
    }
