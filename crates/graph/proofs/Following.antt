-- Laws of the pairs that are found by following the chain of one place.
use Rattle.std.proofs.Common.{◌≡◌, ℕ, zero, suc, ◌<◌, ◌≤◌, Bool, true, false, cond, ◌&&◌, ltb, is_some, ◌⊎◌, List, [], ◌∷◌, ◌++◌, length, get_or, set, Some, None, Option, sym, refl, ap, ◌∙◌, subst, inl, inr, ⊎_elim, arith}
use Rattle.std.proofs.lemmas.Bool.{cond-true, cases_eq, eqb-true, eq-eqb, ltb-true, lt-ltb, and_parts, and_from}
use Rattle.std.specs.List.{Contains}
use Rattle.std.proofs.lemmas.List.Elements.{Contains-append_right, Contains-get_or}
use Rattle.graph.specs.Chains.{in_range, goes_from, last_from, Chained, origin, target, targets, chain_targets, counts}
use Rattle.graph.specs.Reached.{Marked, Step}
use Rattle.graph.specs.Spreading.{Grown}
use Rattle.graph.proofs.Lining.{marked_set}
use Rattle.graph.proofs.Spreads.{grown_same, grown_more}
use Rattle.graph.proofs.Chaining.{goes_from_lem, head_read, in_range_from, in_range_is, last_is, next_read}

goes_from_origin : (o : Option (ℕ × ℕ)) (i : ℕ) → goes_from o i ≡ true → origin o ≡ i
goes_from_origin None i h = cc
goes_from_origin (Some p) i h = eqb-true p.0 i h

goes_from_its_origin : (o : Option (ℕ × ℕ)) → is_some o ≡ true → goes_from o (origin o) ≡ true
goes_from_its_origin None h = cc
goes_from_its_origin (Some p) h = goes_from_lem (Some p) p.0 p.1 refl

goes_from_some : (o : Option (ℕ × ℕ)) (i : ℕ) → goes_from o i ≡ true → is_some o ≡ true
goes_from_some None i h = cc
goes_from_some (Some p) i h = refl

target_is : (n : ℕ) (o : Option (ℕ × ℕ)) (i a b : ℕ) → goes_from (in_range n o) i ≡ true → Some (a, b) ≡ o → target (in_range n o) ≡ b
target_is n None i a b h e = cc
target_is n (Some p) i a b h e = go (ltb p.0 n && ltb p.1 n) h where
  go : (t : Bool) → goes_from (cond t (Some p) None) i ≡ true → target (cond t (Some p) None) ≡ b
  go true h = let q : ◌≡◌ {A = ℕ × ℕ} (a, b) p = cc in sym (ap (λ (x : ℕ × ℕ). x.1) q)
  go false h = cc

goes_from_target : (o : Option (ℕ × ℕ)) (i : ℕ) → goes_from o i ≡ true → o ≡ Some (i, target o)
goes_from_target None i h = cc
goes_from_target (Some p) i h = ap (λ (x : ℕ). Some (x, p.1)) (eqb-true p.0 i h)

-- the pair that a chain begins with
pub counted : (n m : ℕ) (E : ℕ → Option (ℕ × ℕ)) (o : Option ℕ) (j : ℕ) → counts n m E o ≡ true → o ≡ Some j →
    (j < m) × (goes_from (in_range n (E j)) (origin (in_range n (E j))) ≡ true)
counted n m E o j h is =
    let parts = and_parts (ltb j m) (is_some (in_range n (E j))) (sym (ap (counts n m E) is) ∙ h) in
    (ltb-true j m parts.0, goes_from_its_origin (in_range n (E j)) parts.1)

-- there is such a pair
pub counted_is : (n m : ℕ) (E : ℕ → Option (ℕ × ℕ)) (o : Option ℕ) (j : ℕ) → counts n m E o ≡ true → o ≡ Some j → None ≡ E j → ⊥
counted_is n m E o j h is none =
    let goes = (counted n m E o j h is).1 in
    let not' : goes_from (in_range n (E j)) (origin (in_range n (E j))) ≡ false = ap (λ (x : Option (ℕ × ℕ)). goes_from (in_range n x) (origin (in_range n x))) (sym none) in
    cc

pub last_counts : (n m : ℕ) (E : ℕ → Option (ℕ × ℕ)) (j i : ℕ) (o : Option ℕ) → j ≤ m → o ≡ last_from n E j i → counts n m E o ≡ true
last_counts n m E j i None h e = refl
last_counts n m E j i (Some l) h e =
    let last = last_is n E j i l (sym e) in
    and_from (ltb l m) (is_some (in_range n (E l))) (lt-ltb l m (omega (arith, last.0))) (goes_from_some (in_range n (E l)) i last.1)

-- the chain of a place leads to what the pairs from it go to
pub chain_is : (n : ℕ) (E : ℕ → Option (ℕ × ℕ)) (j i : ℕ) (o : Option ℕ) → o ≡ last_from n E j i → chain_targets n E o ≡ targets n E j i
chain_is n E zero i o e = ap (chain_targets n E) e
chain_is n E (suc j) i o e = go (goes_from (in_range n (E j)) i) refl e (chain_is n E j i o) where
  go : (t : Bool) → goes_from (in_range n (E j)) i ≡ t → o ≡ cond t (Some j) (last_from n E j i) →
      (o ≡ last_from n E j i → chain_targets n E o ≡ targets n E j i) →
      chain_targets n E o ≡ cond t (target (in_range n (E j)) ∷ targets n E j i) (targets n E j i)
  go true t e ih =
      ap (chain_targets n E) e
      ∙ ap (λ (k : ℕ). targets n E (suc j) k) (goes_from_origin (in_range n (E j)) i t)
      ∙ cond-true (goes_from (in_range n (E j)) i) (target (in_range n (E j)) ∷ targets n E j i) (targets n E j i) t
  go false t e ih = ih e

-- what is read at the start of the chain of a place
pub first_read : (n : ℕ) (E : ℕ → Option (ℕ × ℕ)) (m : ℕ) (heads nexts : List (Option ℕ)) (i : ℕ) (x : Option ℕ) → Chained n E m heads nexts →
    i < n → x ≡ get_or heads i x → (chain_targets n E x ≡ targets n E m i) × (counts n m E x ≡ true)
first_read n E m heads nexts i x c h read =
    let e = head_read n E m heads nexts i x c h read ∙ c.head i h in
    (chain_is n E m i x e, last_counts n m E m i x (omega arith) e)

-- what is read of a pair on a chain, and behind it
pub step_read : (n : ℕ) (E : ℕ → Option (ℕ × ℕ)) (m : ℕ) (heads nexts : List (Option ℕ)) (o : Option ℕ) (j a b : ℕ) (x : Option ℕ) → Chained n E m heads nexts →
    counts n m E o ≡ true → o ≡ Some j → Some (a, b) ≡ E j → x ≡ get_or nexts j x →
    (chain_targets n E o ≡ b ∷ chain_targets n E x) × (counts n m E x ≡ true)
step_read n E m heads nexts o j a b x c h is asked read =
    let here = counted n m E o j h is in
    let i = origin (in_range n (E j)) in
    let e = next_read n E m heads nexts j x c here.0 read ∙ c.next j i here.0 here.1 in (
      ap (chain_targets n E) is
          ∙ cond-true (goes_from (in_range n (E j)) i) (target (in_range n (E j)) ∷ targets n E j i) (targets n E j i) here.1
          ∙ ap (λ (k : ℕ). k ∷ targets n E j i) (target_is n (E j) i a b here.1 asked)
          ∙ ap (λ (ks : List ℕ). b ∷ ks) (sym (chain_is n E j i x e)),
      last_counts n m E j i x (omega arith) e,
    )

-- a place that stands in a list: at its head, or behind it
contains_split : (x : ℕ) (xs : List ℕ) (k : ℕ) → Contains (x ∷ xs) k → (x ≡ k) ⊎ Contains xs k
contains_split x xs k (zero, l, e) = inl e
contains_split x xs k (suc p, l, e) = inr (p, omega (arith, l), e)

-- the pairs from a place go to its targets, and no others do
targets_steps : (n m : ℕ) (E : ℕ → Option (ℕ × ℕ)) (j i k : ℕ) → j ≤ m → Contains (targets n E j i) k → Step n m E i k
targets_steps n m E zero i k h q = absurd (omega (arith, q.1))
targets_steps n m E (suc j) i k h q = go (goes_from (in_range n (E j)) i) refl q (targets_steps n m E j i k (omega arith)) where
  go : (t : Bool) → goes_from (in_range n (E j)) i ≡ t → Contains (cond t (target (in_range n (E j)) ∷ targets n E j i) (targets n E j i)) k →
      (Contains (targets n E j i) k → Step n m E i k) → Step n m E i k
  go true t q ih = ⊎_elim
      (λ here.
      let is = in_range_is n (E j) i (target (in_range n (E j))) (goes_from_target (in_range n (E j)) i t) in
      subst (Step n m E i) here (record { number = j; counted = omega arith; joins = is.2; from_inside = is.0; to_inside = is.1 }))
      ih
      (contains_split (target (in_range n (E j))) (targets n E j i) k q)
  go false t q ih = ih q

steps_targets : (n m : ℕ) (E : ℕ → Option (ℕ × ℕ)) (j i k : ℕ) → (s : Step n m E i k) → s.number < j → Contains (targets n E j i) k
steps_targets n m E zero i k s h = absurd (omega arith)
steps_targets n m E (suc j) i k s h = ⊎_elim
    (λ (same : s.number ≡ j).
    let is : in_range n (E j) ≡ Some (i, k) = ap (λ (x : ℕ). in_range n (E x)) (sym same) ∙ in_range_from n (E s.number) i k s.joins s.from_inside s.to_inside in
    rw (is, eq-eqb i i refl) (Contains-get_or (k ∷ targets n E j i) 0 0 (omega arith)))
    (λ other. go (goes_from (in_range n (E j)) i) (steps_targets n m E j i k s (omega arith)))
    (cases_eq s.number j) where
      go : (t : Bool) → Contains (targets n E j i) k → Contains (cond t (target (in_range n (E j)) ∷ targets n E j i) (targets n E j i)) k
      go true q = Contains-append_right (target (in_range n (E j)) ∷ []) (targets n E j i) k q
      go false q = q

-- some of the pairs from i have been followed, and the targets of the others are left
pub record Followed (n m : ℕ) (E : ℕ → Option (ℕ × ℕ)) (i : ℕ) (marks₀ : List Bool) (queue₀ : List ℕ) (marks : List Bool) (queue left : List ℕ) : Type 0 where
  pub grows : Grown n m E marks₀ queue₀ marks queue
  pub steps : (k : ℕ) → Contains left k → Step n m E i k
  pub leads : (k : ℕ) → Step n m E i k → Marked marks k ⊎ Contains left k

pub followed_none : (n m : ℕ) (E : ℕ → Option (ℕ × ℕ)) (i : ℕ) (marks : List Bool) (queue left : List ℕ) → left ≡ targets n E m i →
    Followed n m E i marks queue marks queue left
followed_none n m E i marks queue left e = record {
  grows = grown_same n m E marks queue;
  steps = λ k q. targets_steps n m E m i k (omega arith) (subst (λ (xs : List ℕ). Contains xs k) e q);
  leads = λ k s. inr (subst (λ (xs : List ℕ). Contains xs k) (sym e) (steps_targets n m E m i k s s.counted));
}

followed_step : (n m : ℕ) (E : ℕ → Option (ℕ × ℕ)) (i : ℕ) (marks₀ : List Bool) (queue₀ : List ℕ) (marks : List Bool) (queue left : List ℕ) (k : ℕ) (left' : List ℕ) →
    Followed n m E i marks₀ queue₀ marks queue left → left ≡ k ∷ left' → Step n m E i k
followed_step n m E i marks₀ queue₀ marks queue left k left' f e = f.steps k (subst (λ (xs : List ℕ). Contains xs k) (sym e) (Contains-get_or (k ∷ left') 0 0 (omega arith)))

-- the next of them is there
pub followed_inside : (n m : ℕ) (E : ℕ → Option (ℕ × ℕ)) (i : ℕ) (marks₀ : List Bool) (queue₀ : List ℕ) (marks : List Bool) (queue left : List ℕ) (k : ℕ) (left' : List ℕ) →
    length marks₀ ≡ n → Followed n m E i marks₀ queue₀ marks queue left → left ≡ k ∷ left' → k < length marks
followed_inside n m E i marks₀ queue₀ marks queue left k left' long f e =
    let step = followed_step n m E i marks₀ queue₀ marks queue left k left' f e in
    omega (arith, step.to_inside, f.grows.long)

pub followed_more : (n m : ℕ) (E : ℕ → Option (ℕ × ℕ)) (i : ℕ) (marks₀ : List Bool) (queue₀ : List ℕ) (marks : List Bool) (queue left : List ℕ) (k : ℕ) (left' : List ℕ) (marks' : List Bool) (queue' : List ℕ) →
    Followed n m E i marks₀ queue₀ marks queue left → left ≡ k ∷ left' → Marked marks₀ i → length marks₀ ≡ n →
    marks' ≡ set marks k true → queue' ≡ cond (get_or marks k false) queue (queue ++ k ∷ []) →
    Followed n m E i marks₀ queue₀ marks' queue' left'
followed_more n m E i marks₀ queue₀ marks queue left k left' marks' queue' f is from long e x =
    let inside = followed_inside n m E i marks₀ queue₀ marks queue left k left' long f is in
    let step = followed_step n m E i marks₀ queue₀ marks queue left k left' f is in
    let grown = grown_more n m E marks₀ queue₀ marks queue i k marks' queue' f.grows step from inside e x in
    record {
      grows = grown.0;
      steps = λ j q. f.steps j (subst (λ (xs : List ℕ). Contains xs j) (sym is) (Contains-append_right (k ∷ []) left' j q));
      leads = λ j s. ⊎_elim
          (λ marked. inl (subst (λ (b : List Bool). Marked b j) (sym e) (marked_set marks k j marked)))
          (λ q. ⊎_elim
          (λ here. inl (subst (Marked marks') here grown.1))
          (λ there. inr there)
          (contains_split k left' j (subst (λ (xs : List ℕ). Contains xs j) is q)))
          (f.leads j s);
    }
