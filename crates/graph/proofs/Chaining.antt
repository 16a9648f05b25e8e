-- Laws of the chains of pairs: one pair more, and what a pair of a chain says.
use Rattle.std.proofs.Common.{◌≡◌, ℕ, zero, suc, ◌+◌, ◌<◌, Bool, true, false, cond, ◌&&◌, eqb, ltb, List, [], ◌∷◌, ◌++◌, get_or, set, Some, None, Option, sym, refl, ap, ◌∙◌, ⊎_elim, add-one, arith}
use Rattle.std.proofs.lemmas.List.{length-set, length_push, get_or_push, get_or_append_left, get_or-set_same, get_or-set_other, get_or_read_under}
use Rattle.std.proofs.lemmas.Bool.{cond-true, cond-false, cases_eq, cases_lt, eq-eqb, ne_eqb, eqb-true, ltb-true, lt-ltb, and_parts, and_from}
use Rattle.graph.specs.Chains.{in_range, goes_from, last_from, Chained}

last_on : (n : ℕ) (E : ℕ → Option (ℕ × ℕ)) (j i : ℕ) → last_from n E (j + 1) i ≡ cond (goes_from (in_range n (E j)) i) (Some j) (last_from n E j i)
last_on n E j i = ap (λ (x : ℕ). last_from n E x i) (add-one j)

pub last_here : (n : ℕ) (E : ℕ → Option (ℕ × ℕ)) (j i : ℕ) → goes_from (in_range n (E j)) i ≡ true → last_from n E (j + 1) i ≡ Some j
last_here n E j i h = last_on n E j i ∙ cond-true (goes_from (in_range n (E j)) i) (Some j) (last_from n E j i) h

pub last_before : (n : ℕ) (E : ℕ → Option (ℕ × ℕ)) (j i : ℕ) → goes_from (in_range n (E j)) i ≡ false → last_from n E (j + 1) i ≡ last_from n E j i
last_before n E j i h = last_on n E j i ∙ cond-false (goes_from (in_range n (E j)) i) (Some j) (last_from n E j i) h

-- the pairs that were chained before, and the one that is added
nexts_more : (n : ℕ) (E : ℕ → Option (ℕ × ℕ)) (j : ℕ) (heads nexts : List (Option ℕ)) (x : Option ℕ) → Chained n E j heads nexts →
    ((i : ℕ) → goes_from (in_range n (E j)) i ≡ true → x ≡ last_from n E j i) →
    (k i : ℕ) → k < j + 1 → goes_from (in_range n (E k)) i ≡ true → get_or (nexts ++ x ∷ []) k None ≡ last_from n E k i
nexts_more n E j heads nexts x c here k i h goes = ⊎_elim
    (λ l. get_or_append_left nexts (x ∷ []) None k (omega (arith, c.nexts_long)) ∙ c.next k i l goes)
    (λ l.
    let e : k ≡ j = omega arith in
    get_or_push nexts x None k (c.nexts_long ∙ sym e)
    ∙ here i (ap (λ (y : ℕ). goes_from (in_range n (E y)) i) (sym e) ∙ goes)
    ∙ ap (λ (y : ℕ). last_from n E y i) (sym e))
    (cases_lt k j)

pub chained_past_none : (n : ℕ) (E : ℕ → Option (ℕ × ℕ)) (j : ℕ) (heads nexts : List (Option ℕ)) → Chained n E j heads nexts →
    in_range n (E j) ≡ None → Chained n E (j + 1) heads (nexts ++ None ∷ [])
chained_past_none n E j heads nexts c e =
    let idle : (i : ℕ) → goes_from (in_range n (E j)) i ≡ false = λ i. ap (λ (o : Option (ℕ × ℕ)). goes_from o i) e in
    record {
      heads_long = c.heads_long;
      nexts_long = length_push nexts None ∙ ap (λ (x : ℕ). x + 1) c.nexts_long;
      head = λ i h. c.head i h ∙ sym (last_before n E j i (idle i));
      next = nexts_more n E j heads nexts None c
          (λ i t. let z : true ≡ false = sym t ∙ idle i in let y : ◌≡◌ {A = ℕ} 0 1 = cc in absurd (omega arith));
    }

pub chained_past_some : (n : ℕ) (E : ℕ → Option (ℕ × ℕ)) (j : ℕ) (heads nexts : List (Option ℕ)) (a b : ℕ) → Chained n E j heads nexts →
    in_range n (E j) ≡ Some (a, b) → a < n → Chained n E (j + 1) (set heads a (Some j)) (nexts ++ get_or heads a None ∷ [])
chained_past_some n E j heads nexts a b c e inside =
    let goes : (i : ℕ) → goes_from (in_range n (E j)) i ≡ eqb a i = λ i. ap (λ (o : Option (ℕ × ℕ)). goes_from o i) e in
    record {
      heads_long = length-set heads a (Some j) ∙ c.heads_long;
      nexts_long = length_push nexts (get_or heads a None) ∙ ap (λ (x : ℕ). x + 1) c.nexts_long;
      head = λ i h. ⊎_elim
          (λ same.
          ap (λ (x : ℕ). get_or (set heads a (Some j)) x None) same
          ∙ get_or-set_same heads a (Some j) None (omega (arith, c.heads_long))
          ∙ sym (last_here n E j i (goes i ∙ eq-eqb a i (sym same))))
          (λ other. get_or-set_other heads a i (Some j) None other ∙ c.head i h
          ∙ sym (last_before n E j i (goes i ∙ ne_eqb a i (λ s. other (sym s)))))
          (cases_eq i a);
      next = nexts_more n E j heads nexts (get_or heads a None) c
          (λ i t. c.head a inside ∙ ap (λ (x : ℕ). last_from n E j x) (eqb-true a i (sym (goes i) ∙ t)));
    }

-- a pair that counts is the pair that was asked for, and both of its places are there
pub in_range_is : (n : ℕ) (o : Option (ℕ × ℕ)) (a b : ℕ) → in_range n o ≡ Some (a, b) → (a < n) × (b < n) × (o ≡ Some (a, b))
in_range_is n None a b e = let z : ◌≡◌ {A = ℕ} 0 1 = cc in absurd (omega arith)
in_range_is n (Some p) a b e = go (ltb p.0 n && ltb p.1 n) refl e where
  go : (t : Bool) → (ltb p.0 n && ltb p.1 n) ≡ t → cond t (Some p) None ≡ Some (a, b) → (a < n) × (b < n) × (Some p ≡ Some (a, b))
  go true t e =
      let q : p ≡ (a, b) = cc in
      let l = and_parts (ltb p.0 n) (ltb p.1 n) t in
      let x : p.0 ≡ a = ap (λ (r : ℕ × ℕ). r.0) q in
      let y : p.1 ≡ b = ap (λ (r : ℕ × ℕ). r.1) q in
      (omega (arith, ltb-true p.0 n l.0, x), omega (arith, ltb-true p.1 n l.1, y), e)
  go false t e = let z : ◌≡◌ {A = ℕ} 0 1 = cc in absurd (omega arith)

pub in_range_from : (n : ℕ) (o : Option (ℕ × ℕ)) (a b : ℕ) → o ≡ Some (a, b) → a < n → b < n → in_range n o ≡ Some (a, b)
in_range_from n o a b e h k =
    ap (in_range n) e ∙ cond-true (ltb a n && ltb b n) (Some (a, b)) None (and_from (ltb a n) (ltb b n) (lt-ltb a n h) (lt-ltb b n k))

pub goes_from_lem : (o : Option (ℕ × ℕ)) (i b : ℕ) → o ≡ Some (i, b) → goes_from o i ≡ true
goes_from_lem o i b e = ap (λ (x : Option (ℕ × ℕ)). goes_from x i) e ∙ eq-eqb i i refl

-- the last pair below j is one, and none lies behind it
pub last_is : (n : ℕ) (E : ℕ → Option (ℕ × ℕ)) (j i l : ℕ) → last_from n E j i ≡ Some l →
    (l < j) × (goes_from (in_range n (E l)) i ≡ true) × ((k : ℕ) → l < k → k < j → goes_from (in_range n (E k)) i ≡ false)
last_is n E zero i l e = let z : ◌≡◌ {A = ℕ} 0 1 = cc in absurd (omega arith)
last_is n E (suc j) i l e = go (goes_from (in_range n (E j)) i) refl e (last_is n E j i l) where
  go : (t : Bool) → goes_from (in_range n (E j)) i ≡ t → cond t (Some j) (last_from n E j i) ≡ Some l →
      (last_from n E j i ≡ Some l → (l < j) × (goes_from (in_range n (E l)) i ≡ true) × ((k : ℕ) → l < k → k < j → goes_from (in_range n (E k)) i ≡ false)) →
      (l < suc j) × (goes_from (in_range n (E l)) i ≡ true) × ((k : ℕ) → l < k → k < suc j → goes_from (in_range n (E k)) i ≡ false)
  go true t e ih =
      let same : j ≡ l = cc in
      (omega arith, ap (λ (x : ℕ). goes_from (in_range n (E x)) i) (sym same) ∙ t, λ k a b. absurd (omega arith))
  go false t e ih =
      let r = ih e in (
        omega (arith, r.0),
        r.1,
        λ k a b. ⊎_elim
            (λ h. r.2 k a h)
            (λ h. let s : k ≡ j = omega arith in ap (λ (x : ℕ). goes_from (in_range n (E x)) i) s ∙ t)
            (cases_lt k j),
      )

-- what is read of the chains in the code
pub head_read : (n : ℕ) (E : ℕ → Option (ℕ × ℕ)) (j : ℕ) (heads nexts : List (Option ℕ)) (i : ℕ) (x : Option ℕ) → Chained n E j heads nexts →
    i < n → x ≡ get_or heads i x → x ≡ get_or heads i None
head_read n E j heads nexts i x c h read = get_or_read_under heads i n x None read h (sym c.heads_long)

pub next_read : (n : ℕ) (E : ℕ → Option (ℕ × ℕ)) (j : ℕ) (heads nexts : List (Option ℕ)) (k : ℕ) (x : Option ℕ) → Chained n E j heads nexts →
    k < j → x ≡ get_or nexts k x → x ≡ get_or nexts k None
next_read n E j heads nexts k x c h read = get_or_read_under nexts k j x None read h (sym c.nexts_long)

-- what is pushed for a pair that counts as none
pub add_none : (n : ℕ) (E : ℕ → Option (ℕ × ℕ)) (j : ℕ) (heads nexts nexts' : List (Option ℕ)) → Chained n E j heads nexts →
    None ≡ in_range n (E j) → nexts' ≡ nexts ++ None ∷ [] → Chained n E (j + 1) heads nexts'
add_none n E j heads nexts nexts' c e pushed = rw pushed (chained_past_none n E j heads nexts c (sym e))

-- what is pushed for a pair that counts: the head of its place, as it was
pub add_some : (n : ℕ) (E : ℕ → Option (ℕ × ℕ)) (j : ℕ) (heads nexts nexts' : List (Option ℕ)) (a b : ℕ) (x y before : Option ℕ) → Chained n E j heads nexts →
    Some (a, b) ≡ in_range n (E j) → x ≡ get_or heads a x → before ≡ x → y ≡ Some j → nexts' ≡ nexts ++ before ∷ [] → Chained n E (j + 1) (set heads a y) nexts'
add_some n E j heads nexts nexts' a b x y before c e read was is pushed =
    let inside : a < n = (in_range_is n (E j) a b (sym e)).0 in
    let filled : nexts' ≡ nexts ++ get_or heads a None ∷ [] =
    pushed ∙ ap (λ (o : Option ℕ). nexts ++ o ∷ []) (was ∙ head_read n E j heads nexts a x c inside read) in
    rw (is, filled) (chained_past_some n E j heads nexts a b c (sym e) inside)
