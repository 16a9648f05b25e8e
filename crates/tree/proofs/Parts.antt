-- The parts of the value that a node stands for are the nodes that it holds.
use Rattle.std.proofs.Common.{◌≡◌, ℕ, zero, suc, ◌+◌, ◌-◌, ◌<◌, ◌≤◌, List, [], ◌∷◌, ◌++◌, length, sym, refl, ap, ◌∙◌, subst, arith}
use Rattle.std.proofs.ByRecursion.{All-append}
use Rattle.tree_rule.specs.declared.node.RawNode.{RawNode}
use Rattle.tree_rule.specs.Nodes.{at}
use Rattle.tree_rule.specs.Rule.{Formed}
use Rattle.tree.specs.Values.{Value, Items, Entries, other, boolean, integer, string, list, map, no_item, item, no_entry, entry, Stands, Row, Pairs, number, numbers, parts, item_parts, entry_parts, counting, Whole}

numbers_append : (vs ws : List Value) → numbers (vs ++ ws) ≡ numbers vs ++ numbers ws
numbers_append [] ws = refl
numbers_append (v ∷ vs) ws = ap (λ (ks : List ℕ). number v ∷ ks) (numbers_append vs ws)

counting_append : (m n i : ℕ) → counting m i ++ counting n (i + m) ≡ counting (m + n) i
counting_append zero n i = let e : i + 0 ≡ i = omega arith in let f : 0 + n ≡ n = omega arith in rw (e, f)
counting_append (suc m) n i =
    let e : i + suc m ≡ suc i + m = omega arith in
    let f : suc m + n ≡ suc (m + n) = omega arith in
    rw (e, f) (ap (λ (ks : List ℕ). i ∷ ks) (counting_append m n (suc i)))

-- the numbers from i to e, and then those from e to z
counting_on : (i e z : ℕ) → i ≤ e → e ≤ z → counting (e - i) i ++ counting (z - e) e ≡ counting (z - i) i
counting_on i e z h k =
    let p : e ≡ i + (e - i) = omega arith in
    let q : (e - i) + (z - e) ≡ z - i = omega arith in
    ap (λ (x : ℕ). counting (e - i) i ++ counting (z - e) x) p ∙ counting_append (e - i) (z - e) i ∙ ap (λ (x : ℕ). counting x i) q

counting_first : (i e : ℕ) → i < e → i ∷ counting (e - (i + 1)) (i + 1) ≡ counting (e - i) i
counting_first i e h =
    let p : e - i ≡ suc (e - (i + 1)) = omega arith in
    let q : i + 1 ≡ suc i = omega arith in
    sym (ap (λ (x : ℕ). counting x i) p ∙ ap (λ (x : ℕ). i ∷ counting (e - (i + 1)) x) (sym q))

whole_leaf : (ns : List RawNode) (text : List ℕ) (i : ℕ) (v : Value) → (at ns i).end ≡ i + 1 → number v ≡ i → Stands ns text i v →
    Whole ns text i (at ns i).end (v ∷ [])
whole_leaf ns text i v e p s =
    let one : (at ns i).end - i ≡ 1 = omega arith in
    let P : ℕ → Type 0 = λ k. Stands ns text k v in
    record {
      numbered = ap (λ (k : ℕ). k ∷ []) p ∙ sym (ap (λ (m : ℕ). counting m i) one);
      standing = (subst P (sym p) s, tt);
    }

whole_above : (ns : List RawNode) (text : List ℕ) (i e : ℕ) (v : Value) (vs : List Value) → i < e → number v ≡ i → Stands ns text i v →
    Whole ns text (i + 1) e vs → Whole ns text i e (v ∷ vs)
whole_above ns text i e v vs l p s w =
    let P : ℕ → Type 0 = λ k. Stands ns text k v in
    let q = w.numbered in
    record {
      numbered = ap (λ (k : ℕ). k ∷ numbers vs) p ∙ ap (λ (ks : List ℕ). i ∷ ks) q ∙ counting_first i e l;
      standing = (subst P (sym p) s, w.standing);
    }

whole_none : (ns : List RawNode) (text : List ℕ) (c e : ℕ) → c ≡ e → Whole ns text c e []
whole_none ns text c e p =
    let z : e - c ≡ 0 = omega arith in record { numbered = sym (ap (λ (m : ℕ). counting m c) z); standing = tt }

whole_both : (ns : List RawNode) (text : List ℕ) (c m e : ℕ) (vs ws : List Value) → c ≤ m → m ≤ e →
    Whole ns text c m vs → Whole ns text m e ws → Whole ns text c e (vs ++ ws)
whole_both ns text c m e vs ws h k v w =
    let p = v.numbered in
    let q = w.numbered in
    record {
      numbered = numbers_append vs ws ∙ ap (λ (ks : List ℕ). ks ++ numbers ws) p ∙ ap (λ (ks : List ℕ). counting (m - c) c ++ ks) q ∙ counting_on c m e h k;
      standing = All-append (λ x. Stands ns text (number x) x) vs ws v.standing w.standing;
    }

row_le : (ns : List RawNode) (text : List ℕ) (c e : ℕ) (vs : Items) → Row ns text c e vs → c ≤ e
row_le ns text c e no_item s = omega arith
row_le ns text c e (item v vs) s = omega (arith, s.0)

pairs_le : (ns : List RawNode) (text : List ℕ) (c e : ℕ) (es : Entries) → Pairs ns text c e es → c ≤ e
pairs_le ns text c e no_entry s = omega arith
pairs_le ns text c e (entry k v es) s = omega (arith, s.0)

mutual
  pub parts_whole : (ns : List RawNode) (text : List ℕ) (i : ℕ) (v : Value) → Formed ns text → i < length ns → Stands ns text i v →
      Whole ns text i (at ns i).end (parts v)
  parts_whole ns text i (other n) ok h s =
      whole_leaf ns text i (other n) ((ok.nodes i h).leaf (omega (arith, s.1))) s.0 s
  parts_whole ns text i (boolean n b) ok h s =
      whole_leaf ns text i (boolean n b) ((ok.nodes i h).leaf (omega (arith, s.1))) s.0 s
  parts_whole ns text i (integer n z) ok h s =
      whole_leaf ns text i (integer n z) ((ok.nodes i h).leaf (omega (arith, s.1))) s.0 s
  parts_whole ns text i (string n bs) ok h s =
      whole_leaf ns text i (string n bs) ((ok.nodes i h).leaf (omega (arith, s.1))) s.0 s
  parts_whole ns text i (list n vs) ok h s =
      let ends = (ok.nodes i h).ends in
      whole_above ns text i (at ns i).end (list n vs) (item_parts vs) ends.0 s.0 s
      (items_whole ns text (i + 1) (at ns i).end vs ok ends.1 s.2)
  parts_whole ns text i (map n es) ok h s =
      let ends = (ok.nodes i h).ends in
      whole_above ns text i (at ns i).end (map n es) (entry_parts es) ends.0 s.0 s
      (entries_whole ns text (i + 1) (at ns i).end es ok ends.1 s.2)

  items_whole : (ns : List RawNode) (text : List ℕ) (c e : ℕ) (vs : Items) → Formed ns text → e ≤ length ns → Row ns text c e vs →
      Whole ns text c e (item_parts vs)
  items_whole ns text c e no_item ok b s = whole_none ns text c e s
  items_whole ns text c e (item v vs) ok b s =
      let l = s.0 in
      let within : c < length ns = omega arith in
      let up = (ok.nodes c within).ends.0 in
      whole_both ns text c (at ns c).end e (parts v) (item_parts vs) (omega arith) (row_le ns text _ e vs s.2)
      (parts_whole ns text c v ok within s.1) (items_whole ns text (at ns c).end e vs ok b s.2)

  entries_whole : (ns : List RawNode) (text : List ℕ) (c e : ℕ) (es : Entries) → Formed ns text → e ≤ length ns → Pairs ns text c e es →
      Whole ns text c e (entry_parts es)
  entries_whole ns text c e no_entry ok b s = whole_none ns text c e s
  entries_whole ns text c e (entry k v es) ok b s =
      let l = s.0 in
      let valued = s.2 in
      let m = (at ns c).end in
      let in1 : c < length ns = omega arith in
      let in2 : m < length ns = omega arith in
      let up = (ok.nodes c in1).ends.0 in
      let up2 = (ok.nodes m in2).ends.0 in
      let le = pairs_le ns text _ e es s.4 in
      whole_both ns text c m e (parts k) (parts v ++ entry_parts es) (omega arith) (omega arith)
      (parts_whole ns text c k ok in1 s.1)
      (whole_both ns text m (at ns m).end e (parts v) (entry_parts es) (omega arith) le
      (parts_whole ns text m v ok in2 s.3) (entries_whole ns text (at ns m).end e es ok b s.4))
