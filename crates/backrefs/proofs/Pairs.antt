-- Laws of the escapes of a pattern.
use Rattle.std.proofs.Common.{◌≡◌, ℕ, pred, ◌-◌, ◌<◌, ◌≤◌, Bool, true, false, cond, eqb, List, [], ◌∷◌, ◌++◌, length, get_or, take, drop, sym, refl, ap, ◌∙◌, arith}
use Rattle.std.specs.List.{flat_map}
use Rattle.std.proofs.lemmas.List.{take_all}
use Rattle.std.proofs.lemmas.Bool.{cond-true, cond-false, eq-eqb, ne_eqb, eqb-true}
use Rattle.tokens.specs.Cut.{Honest}
use Rattle.backrefs.specs.Backrefs.{escaped, single, spelled_pair, escaped_or, first_pair, pairs}
use Rattle.tokens.proofs.Cut.{cut_nil, cut_cons, cut_joined}

honest_pair : Honest first_pair spelled_pair
unfolding first_pair
honest_pair b [] = go (eqb b 92) where
  go : (t : Bool) → spelled_pair (cond t (single b) (single b)) ++ drop (pred (length (spelled_pair (cond t (single b) (single b))))) [] ≡ b ∷ []
  go true = refl
  go false = refl
honest_pair b (c ∷ bs) = go (eqb b 92) refl where
  go : (t : Bool) → eqb b 92 ≡ t → spelled_pair (cond t (escaped c) (single b)) ++ drop (pred (length (spelled_pair (cond t (escaped c) (single b))))) (c ∷ bs) ≡ b ∷ c ∷ bs
  go true e = ap (λ (x : ℕ). x ∷ c ∷ bs) (sym (eqb-true b 92 e))
  go false e = refl

pub pairs_joined : (bs : List ℕ) → flat_map spelled_pair (pairs bs) ≡ bs
pairs_joined = cut_joined first_pair spelled_pair honest_pair

pub no_pairs : (xs : List ℕ) → length xs < 1 → pairs xs ≡ []
no_pairs [] h = cut_nil first_pair spelled_pair
no_pairs (x ∷ xs) h = absurd (omega arith)

pub escaped_first : (xs : List ℕ) → 2 ≤ length xs → get_or xs 0 0 ≡ 92 →
    pairs xs ≡ escaped (get_or xs 1 0) ∷ pairs (take (length xs - 2) (drop 2 xs))
unfolding first_pair
escaped_first [] h e = absurd (omega arith)
escaped_first (b ∷ []) h e = absurd (omega arith)
escaped_first (b ∷ c ∷ bs) h e =
    cut_cons first_pair spelled_pair b (c ∷ bs) ∙ ap (λ p. p ∷ pairs (drop (pred (length (spelled_pair p))) (c ∷ bs))) (cond-true (eqb b 92) _ (single b) (eq-eqb b 92 e))
    ∙ ap (λ cs. escaped c ∷ pairs cs) (sym (take_all (length (b ∷ c ∷ bs) - 2) bs (omega arith)))

pub single_first : (xs : List ℕ) → 1 ≤ length xs → (get_or xs 0 0 ≡ 92 → length xs < 2) →
    pairs xs ≡ single (get_or xs 0 0) ∷ pairs (take (length xs - 1) (drop 1 xs))
unfolding first_pair
single_first [] h n = absurd (omega arith)
single_first (b ∷ bs) h n =
    cut_cons first_pair spelled_pair b bs ∙ ap (λ p. p ∷ pairs (drop (pred (length (spelled_pair p))) bs)) (is bs n)
    ∙ ap (λ cs. single b ∷ pairs cs) (sym (take_all (length (b ∷ bs) - 1) bs (omega arith))) where
      is : (cs : List ℕ) → (b ≡ 92 → length (b ∷ cs) < 2) → cond (eqb b 92) (escaped_or cs b) (single b) ≡ single b
      is [] m = elim (eqb b 92) as (λ t. cond t (single b) (single b) ≡ single b) [ true ↦ refl | false ↦ refl ]
      is (c ∷ cs) m = cond-false (eqb b 92) _ _ (ne_eqb b 92 (λ e. let few = m e in omega arith))
