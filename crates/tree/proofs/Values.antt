-- Well-formed arrays stand for exactly one value.
use Rattle.std.proofs.Common.{◌≡◌, ℕ, zero, suc, ◌+◌, ◌-◌, ◌*◌, ◌<◌, ◌≤◌, Bool, true, false, cond, eqb, ltb, ◌⊎◌, List, length, ℤ, pos, negsuc, sym, refl, ap, ◌∙◌, subst, inl, inr, arith}
use Rattle.std.specs.List.{AllByRecursion}
use Rattle.std.proofs.lemmas.Bool.{cond-true, cond-false, lt-ltb, le-ltb, cases_lt}
use Rattle.tree_rule.specs.declared.node.RawNode.{RawNode}
use Rattle.tree_rule.specs.Nodes.{at, bytes, from, Forward}
use Rattle.tree_rule.specs.Rule.{Formed, InTurn, Truth}
use Rattle.tree.specs.Values.{Value, Items, Entries, other, boolean, integer, string, list, map, no_item, item, no_entry, entry, Stands, Row, Pairs, One}
use Rattle.tree_rule.proofs.Walks.{all_here}
use Rattle.tree_rule.proofs.Turns.{pair_here}

abbrev truth : ℤ → Bool
truth (pos n) = ltb 0 n
truth (negsuc n) = false

-- the value of a kind, from what each kind would give
abbrev pick : ℕ → Value → Value → Value → Value → Value → Value → Value
pick k o b i s l m =
    cond (eqb k 1) b (cond (eqb k 2) i (cond (eqb k 3) s (cond (eqb k 4) l (cond (eqb k 5) m o))))

-- the value that node i stands for; the number bounds the steps
unfoldable mutual
  read : ℕ → List RawNode → List ℕ → ℕ → Value
  read zero ns text i = other i
  read (suc f) ns text i =
      pick (at ns i).kind (other i) (boolean i (truth (at ns i).number)) (integer i (at ns i).number)
      (string i (bytes (at ns i) text)) (list i (read_items f ns text (at ns i).end (i + 1)))
      (map i (read_entries f ns text (at ns i).end (i + 1)))

  read_items : ℕ → List RawNode → List ℕ → ℕ → ℕ → Items
  read_items zero ns text e c = no_item
  read_items (suc f) ns text e c =
      cond (ltb c e) (item (read f ns text c) (read_items f ns text e (at ns c).end)) no_item

  read_entries : ℕ → List RawNode → List ℕ → ℕ → ℕ → Entries
  read_entries zero ns text e c = no_entry
  read_entries (suc f) ns text e c =
      cond (ltb c e) (entry (read f ns text c) (read f ns text (at ns c).end) (read_entries f ns text e (at ns (at ns c).end).end)) no_entry

-- one of the six kinds
data Six (k : ℕ) : Type 0 where
  is_other : k ≡ 0 → Six k
  is_boolean : k ≡ 1 → Six k
  is_integer : k ≡ 2 → Six k
  is_string : k ≡ 3 → Six k
  is_list : k ≡ 4 → Six k
  is_map : k ≡ 5 → Six k

six : (k : ℕ) → k ≤ 5 → Six k
six zero h = is_other refl
six (suc zero) h = is_boolean refl
six (suc (suc zero)) h = is_integer refl
six (suc (suc (suc zero))) h = is_string refl
six (suc (suc (suc (suc zero)))) h = is_list refl
six (suc (suc (suc (suc (suc zero))))) h = is_map refl
six (suc (suc (suc (suc (suc (suc k)))))) h = absurd (omega arith)

true_number : (z : ℤ) → (z ≡ pos 0) ⊎ (z ≡ pos 1) → z ≡ cond (truth z) (pos 1) (pos 0)
true_number z (inl p) = let P : ℤ → Type 0 = λ y. y ≡ cond (truth y) (pos 1) (pos 0) in subst P (sym p) refl
true_number z (inr p) = let P : ℤ → Type 0 = λ y. y ≡ cond (truth y) (pos 1) (pos 0) in subst P (sym p) refl

abbrev chosen : ℕ → List RawNode → List ℕ → ℕ → ℕ → Value
chosen f ns text i k =
    pick k (other i) (boolean i (truth (at ns i).number)) (integer i (at ns i).number)
    (string i (bytes (at ns i) text)) (list i (read_items f ns text (at ns i).end (i + 1)))
    (map i (read_entries f ns text (at ns i).end (i + 1)))

stands_as : (f : ℕ) (ns : List RawNode) (text : List ℕ) (i k : ℕ) → (at ns i).kind ≡ k →
    Stands ns text i (chosen f ns text i k) → Stands ns text i (read (suc f) ns text i)
unfolding read
stands_as f ns text i k p h = let P : ℕ → Type 0 = λ j. Stands ns text i (chosen f ns text i j) in subst P (sym p) h

stands_by_kind : (f : ℕ) (ns : List RawNode) (text : List ℕ) (i : ℕ) → Six (at ns i).kind → Truth (at ns i) →
    ((at ns i).kind ≡ 4 → Row ns text (i + 1) (at ns i).end (read_items f ns text (at ns i).end (i + 1))) →
    ((at ns i).kind ≡ 5 → Pairs ns text (i + 1) (at ns i).end (read_entries f ns text (at ns i).end (i + 1))) →
    Stands ns text i (read (suc f) ns text i)
stands_by_kind f ns text i (is_other p) t r m = stands_as f ns text i 0 p (refl, p)
stands_by_kind f ns text i (is_boolean p) t r m = stands_as f ns text i 1 p (refl, p, true_number _ (t p))
stands_by_kind f ns text i (is_integer p) t r m = stands_as f ns text i 2 p (refl, p, refl)
stands_by_kind f ns text i (is_string p) t r m = stands_as f ns text i 3 p (refl, p, refl)
stands_by_kind f ns text i (is_list p) t r m = stands_as f ns text i 4 p (refl, p, r p)
stands_by_kind f ns text i (is_map p) t r m = stands_as f ns text i 5 p (refl, p, m p)

row_step : (f : ℕ) (ns : List RawNode) (text : List ℕ) (e c : ℕ) → c ≤ e → (c < e) ⊎ (e ≤ c) →
    (c < e → Stands ns text c (read f ns text c) × Row ns text (at ns c).end e (read_items f ns text e (at ns c).end)) →
    Row ns text c e (read_items (suc f) ns text e c)
unfolding read
row_step f ns text e c h (inl l) next =
    let q = cond-true (ltb c e) (item (read f ns text c) (read_items f ns text e (at ns c).end)) no_item (lt-ltb c e l) in
    let P : Items → Type 0 = Row ns text c e in
    subst P (sym q) (l, (next l).0, (next l).1)
row_step f ns text e c h (inr l) next =
    let q = cond-false (ltb c e) (item (read f ns text c) (read_items f ns text e (at ns c).end)) no_item (le-ltb c e l) in
    let P : Items → Type 0 = Row ns text c e in
    subst P (sym q) (omega arith)

pairs_step : (f : ℕ) (ns : List RawNode) (text : List ℕ) (e c : ℕ) → c ≤ e → (c < e) ⊎ (e ≤ c) →
    (c < e → Stands ns text c (read f ns text c) × ((at ns c).end < e) × Stands ns text (at ns c).end (read f ns text (at ns c).end)
    × Pairs ns text (at ns (at ns c).end).end e (read_entries f ns text e (at ns (at ns c).end).end)) →
    Pairs ns text c e (read_entries (suc f) ns text e c)
unfolding read
pairs_step f ns text e c h (inl l) next =
    let q = cond-true (ltb c e) (entry (read f ns text c) (read f ns text (at ns c).end) (read_entries f ns text e (at ns (at ns c).end).end)) no_entry (lt-ltb c e l) in
    let P : Entries → Type 0 = Pairs ns text c e in
    let n = next l in
    subst P (sym q) (l, n.0, n.1, n.2, n.3)
pairs_step f ns text e c h (inr l) next =
    let q = cond-false (ltb c e) (entry (read f ns text c) (read f ns text (at ns c).end) (read_entries f ns text e (at ns (at ns c).end).end)) no_entry (le-ltb c e l) in
    let P : Entries → Type 0 = Pairs ns text c e in
    subst P (sym q) (omega arith)

-- a node's children end by its end
abbrev Fill : List RawNode → ℕ → ℕ → Type 0
Fill ns e c = AllByRecursion (λ k. (at ns k).end ≤ e) (from ns e c)

mutual
  stands_read : (f : ℕ) (ns : List RawNode) (text : List ℕ) (i : ℕ) → Formed ns text → i < length ns →
      2 * ((at ns i).end - i) ≤ f → Stands ns text i (read f ns text i)
  stands_read zero ns text i ok h z = absurd (omega (arith, (ok.nodes i h).ends))
  stands_read (suc f) ns text i ok h z =
      let r = ok.nodes i h in
      let below : (at ns i).end ≤ length ns = r.ends.1 in
      let first : i + 1 ≤ (at ns i).end = omega (arith, r.ends.0) in
      stands_by_kind f ns text i (six _ r.known) r.truth
      (λ _. row_read f ns text (at ns i).end (i + 1) ok first below (ok.filled i h) (omega arith))
      (λ p. pairs_read f ns text (at ns i).end (i + 1) ok first below (ok.filled i h) (ok.paired i h p) (omega arith))

  row_read : (f : ℕ) (ns : List RawNode) (text : List ℕ) (e c : ℕ) → Formed ns text → c ≤ e → e ≤ length ns → Fill ns e c →
      2 * (e - c) + 1 ≤ f → Row ns text c e (read_items f ns text e c)
  row_read zero ns text e c ok h b a z = absurd (omega arith)
  row_read (suc f) ns text e c ok h b a z =
      row_step f ns text e c h (cases_lt c e)
      (λ l.
      let fw : Forward ns e = λ k m. (ok.nodes k (omega arith)).ends.0 in
      let q = all_here (λ k. (at ns k).end ≤ e) ns e c fw l a in
      let up : c < (at ns c).end = fw c l in
      let within : c < length ns = omega arith in
      let by : (at ns c).end ≤ e = q.0 in
      (stands_read f ns text c ok within (omega arith), row_read f ns text e (at ns c).end ok by b q.1 (omega arith)))

  pairs_read : (f : ℕ) (ns : List RawNode) (text : List ℕ) (e c : ℕ) → Formed ns text → c ≤ e → e ≤ length ns → Fill ns e c →
      InTurn (from ns e c) → 2 * (e - c) + 1 ≤ f → Pairs ns text c e (read_entries f ns text e c)
  pairs_read zero ns text e c ok h b a t z = absurd (omega arith)
  pairs_read (suc f) ns text e c ok h b a t z =
      pairs_step f ns text e c h (cases_lt c e)
      (λ l.
      let fw : Forward ns e = λ k m. (ok.nodes k (omega arith)).ends.0 in
      let p = pair_here ns e c fw l t in
      let valued : (at ns c).end < e = p.valued in
      let q = all_here (λ k. (at ns k).end ≤ e) ns e c fw l a in
      let q2 = all_here (λ k. (at ns k).end ≤ e) ns e (at ns c).end fw valued q.1 in
      let up : c < (at ns c).end = fw c l in
      let up2 : (at ns c).end < (at ns (at ns c).end).end = fw (at ns c).end valued in
      let by : (at ns (at ns c).end).end ≤ e = q2.0 in
      let in1 : c < length ns = omega arith in
      let in2 : (at ns c).end < length ns = omega arith in (
        stands_read f ns text c ok in1 (omega arith),
        valued,
        stands_read f ns text (at ns c).end ok in2 (omega arith),
        pairs_read f ns text e (at ns (at ns c).end).end ok by b q2.1 p.turn (omega arith),
      ))

read_as : (f : ℕ) (ns : List RawNode) (text : List ℕ) (i k : ℕ) → (at ns i).kind ≡ k → read (suc f) ns text i ≡ chosen f ns text i k
unfolding read
read_as f ns text i k p = ap (chosen f ns text i) p

truth_of : (b : Bool) (z : ℤ) → z ≡ cond b (pos 1) (pos 0) → b ≡ truth z
truth_of true z p = sym (ap truth p)
truth_of false z p = sym (ap truth p)

items_here : (f : ℕ) (ns : List RawNode) (text : List ℕ) (e c : ℕ) → c < e →
    read_items (suc f) ns text e c ≡ item (read f ns text c) (read_items f ns text e (at ns c).end)
unfolding read
items_here f ns text e c l = cond-true (ltb c e) _ _ (lt-ltb c e l)

items_past : (f : ℕ) (ns : List RawNode) (text : List ℕ) (e c : ℕ) → e ≤ c → read_items f ns text e c ≡ no_item
unfolding read
items_past zero ns text e c l = refl
items_past (suc f) ns text e c l = cond-false (ltb c e) _ _ (le-ltb c e l)

entries_here : (f : ℕ) (ns : List RawNode) (text : List ℕ) (e c : ℕ) → c < e →
    read_entries (suc f) ns text e c
    ≡ entry (read f ns text c) (read f ns text (at ns c).end) (read_entries f ns text e (at ns (at ns c).end).end)
unfolding read
entries_here f ns text e c l = cond-true (ltb c e) _ _ (lt-ltb c e l)

entries_past : (f : ℕ) (ns : List RawNode) (text : List ℕ) (e c : ℕ) → e ≤ c → read_entries f ns text e c ≡ no_entry
unfolding read
entries_past zero ns text e c l = refl
entries_past (suc f) ns text e c l = cond-false (ltb c e) _ _ (le-ltb c e l)

mutual
  one_value : (f : ℕ) (ns : List RawNode) (text : List ℕ) (i : ℕ) (v : Value) → Formed ns text → i < length ns →
      2 * ((at ns i).end - i) ≤ f → Stands ns text i v → v ≡ read f ns text i
  one_value zero ns text i v ok h z s = absurd (omega (arith, (ok.nodes i h).ends))
  one_value (suc f) ns text i (other n) ok h z s = ap other s.0 ∙ sym (read_as f ns text i 0 s.1)
  one_value (suc f) ns text i (boolean n b) ok h z s =
      let p = s.0 in let q = truth_of b _ s.2 in let r = read_as f ns text i 1 s.1 in cc
  one_value (suc f) ns text i (integer n y) ok h z s =
      let p = s.0 in let q = s.2 in let r = read_as f ns text i 2 s.1 in cc
  one_value (suc f) ns text i (string n bs) ok h z s =
      let p = s.0 in let q = s.2 in let r = read_as f ns text i 3 s.1 in cc
  one_value (suc f) ns text i (list n vs) ok h z s =
      let p = s.0 in
      let ends = (ok.nodes i h).ends in
      let q = one_row f ns text (at ns i).end (i + 1) vs ok ends.1 (ok.filled i h) (omega arith) s.2 in
      let r = read_as f ns text i 4 s.1 in cc
  one_value (suc f) ns text i (map n es) ok h z s =
      let p = s.0 in
      let ends = (ok.nodes i h).ends in
      let q = one_pairs f ns text (at ns i).end (i + 1) es ok ends.1 (ok.filled i h) (omega arith) s.2 in
      let r = read_as f ns text i 5 s.1 in cc

  one_row : (f : ℕ) (ns : List RawNode) (text : List ℕ) (e c : ℕ) (vs : Items) → Formed ns text → e ≤ length ns → Fill ns e c →
      2 * (e - c) + 1 ≤ f → Row ns text c e vs → vs ≡ read_items f ns text e c
  one_row f ns text e c no_item ok b a z s = sym (items_past f ns text e c (omega arith))
  one_row zero ns text e c (item v vs) ok b a z s = absurd (omega arith)
  one_row (suc f) ns text e c (item v vs) ok b a z s =
      let l = s.0 in
      let fw : Forward ns e = λ k m. (ok.nodes k (omega arith)).ends.0 in
      let q = all_here (λ k. (at ns k).end ≤ e) ns e c fw l a in
      let up : c < (at ns c).end = fw c l in
      let by : (at ns c).end ≤ e = q.0 in
      let x = one_value f ns text c v ok (omega arith) (omega arith) s.1 in
      let y = one_row f ns text e (at ns c).end vs ok b q.1 (omega arith) s.2 in
      let r = items_here f ns text e c l in cc

  one_pairs : (f : ℕ) (ns : List RawNode) (text : List ℕ) (e c : ℕ) (es : Entries) → Formed ns text → e ≤ length ns → Fill ns e c →
      2 * (e - c) + 1 ≤ f → Pairs ns text c e es → es ≡ read_entries f ns text e c
  one_pairs f ns text e c no_entry ok b a z s = sym (entries_past f ns text e c (omega arith))
  one_pairs zero ns text e c (entry k v es) ok b a z s = absurd (omega arith)
  one_pairs (suc f) ns text e c (entry k v es) ok b a z s =
      let l = s.0 in
      let valued = s.2 in
      let fw : Forward ns e = λ k m. (ok.nodes k (omega arith)).ends.0 in
      let q = all_here (λ k. (at ns k).end ≤ e) ns e c fw l a in
      let q2 = all_here (λ k. (at ns k).end ≤ e) ns e (at ns c).end fw valued q.1 in
      let up : c < (at ns c).end = fw c l in
      let up2 : (at ns c).end < (at ns (at ns c).end).end = fw (at ns c).end valued in
      let by : (at ns (at ns c).end).end ≤ e = q2.0 in
      let x = one_value f ns text c k ok (omega arith) (omega arith) s.1 in
      let w = one_value f ns text (at ns c).end v ok (omega arith) (omega arith) s.3 in
      let y = one_pairs f ns text e (at ns (at ns c).end).end es ok b q2.1 (omega arith) s.4 in
      let r = entries_here f ns text e c l in cc

pub stands_for_one : (ns : List RawNode) (text : List ℕ) (i : ℕ) → Formed ns text → i < length ns → One ns text i
stands_for_one ns text i ok h =
    record {
      value = read (2 * ((at ns i).end - i)) ns text i;
      stands = stands_read _ ns text i ok h (omega arith);
      alone = λ v s. one_value _ ns text i v ok h (omega arith) s;
    }
