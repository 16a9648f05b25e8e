-- The n-th copy of an offer: there is one if there are more than n copies, and only one.
use Rattle.std.proofs.Common.{◌≡◌, ℕ, zero, suc, ◌<◌, ◌≤◌, ◌⊎◌, List, [], ◌∷◌, take, sym, refl, ap, ◌∙◌, subst, inl, inr, arith}
use Rattle.std.proofs.lemmas.Bool.{cases_lt}
use Rattle.grammar.specs.Places.{At}
use Rattle.grammar.proofs.Places.{at_same}
use Rattle.linker.specs.Histories.{Offer, same?, counted, copies, Twins, SameOffers}

-- an offer is a copy of itself, and no other is
counted_itself : (o p : Offer) (n : ℕ) → p ≡ o → counted (same? o p) n ≡ suc n
counted_itself o p n e = go (same? o p)
  where
    go : (d : Dec (o ≡ p)) → counted d n ≡ suc n
    go (yes q) = refl
    go (no h) = absurd (h (sym e))

counted_least : (o p : Offer) (n : ℕ) → n ≤ counted (same? o p) n
counted_least o p n = go (same? o p)
  where
    go : (d : Dec (o ≡ p)) → n ≤ counted d n
    go (yes q) = omega arith
    go (no h) = omega arith

counted_more : (o p : Offer) (m n : ℕ) → m < n → counted (same? o p) m < counted (same? o p) n
counted_more o p m n l = go (same? o p)
  where
    go : (d : Dec (o ≡ p)) → counted d m < counted d n
    go (yes q) = omega arith
    go (no h) = l

-- copies before a copy are fewer than those up to a later place
copies_before : (o : Offer) (xs : List Offer) (i k : ℕ) → At xs i o → i < k → copies o (take i xs) < copies o (take k xs)
copies_before o [] i k a l = absurd a
copies_before o (x ∷ xs) i zero a l = absurd (omega arith)
copies_before o (x ∷ xs) zero (suc k) a l = let e = counted_itself o x (copies o (take k xs)) a in omega arith
copies_before o (x ∷ xs) (suc i) (suc k) a l = counted_more o x (copies o (take i xs)) (copies o (take k xs)) (copies_before o xs i k a (omega arith))

copies_within : (o : Offer) (xs : List Offer) (i : ℕ) → At xs i o → copies o (take i xs) < copies o xs
copies_within o [] i a = absurd a
copies_within o (x ∷ xs) zero a = let e = counted_itself o x (copies o xs) a in omega arith
copies_within o (x ∷ xs) (suc i) a = counted_more o x (copies o (take i xs)) (copies o xs) (copies_within o xs i a)

-- the n-th copy
nth_copy : (o : Offer) (xs : List Offer) (n : ℕ) → n < copies o xs → (i : ℕ) × At xs i o × (copies o (take i xs) ≡ n)
nth_copy o [] n l = absurd (omega arith)
nth_copy o (x ∷ xs) n l = go (same? o x) n l (λ m h. nth_copy o xs m h)
  where
    go : (d : Dec (o ≡ x)) (m : ℕ) → m < counted d (copies o xs) → ((m : ℕ) → m < copies o xs → (i : ℕ) × At xs i o × (copies o (take i xs) ≡ m)) →
        (i : ℕ) × At (x ∷ xs) i o × (copies o (take i (x ∷ xs)) ≡ m)
    go (yes p) zero h rest = (0, sym p, refl)
    go (yes p) (suc m) h rest = let q = rest m (omega arith) in (suc q.0, q.1, counted_itself o x _ (sym p) ∙ ap suc q.2)
    go (no p) m h rest = let q = rest m h in (suc q.0, q.1, other (same? o x) q.2)
      where
        other : {k : ℕ} → (d : Dec (o ≡ x)) → k ≡ m → counted d k ≡ m
        other (yes r) e = absurd (p r)
        other (no r) e = e

-- one place only has as many copies before
copy_alone : (o : Offer) (xs : List Offer) (i k : ℕ) → At xs i o → At xs k o → copies o (take i xs) ≡ copies o (take k xs) → i ≡ k
copy_alone o xs i k a b e = go (cases_lt i k) (cases_lt k i)
  where
    go : (i < k) ⊎ (k ≤ i) → (k < i) ⊎ (i ≤ k) → i ≡ k
    go (inl l) q = let h = copies_before o xs i k a l in absurd (omega arith)
    go (inr l) (inl m) = let h = copies_before o xs k i b m in absurd (omega arith)
    go (inr l) (inr m) = omega arith

pub twins_turned : {xs ys : List Offer} {i j : ℕ} → Twins xs ys i j → Twins ys xs j i
twins_turned t = record { offer = t.offer; left = t.right; right = t.left; as_many = sym t.as_many }

-- every offer has a twin where the offers are the same
pub twin_there : (xs ys : List Offer) → SameOffers xs ys → (i : ℕ) (o : Offer) → At xs i o → (j : ℕ) × Twins xs ys i j
twin_there xs ys same i o a =
    let l = copies_within o xs i a in
    let e = same o in
    let q = nth_copy o ys (copies o (take i xs)) (omega arith) in
    (q.0, record { offer = o; left = a; right = q.1; as_many = sym q.2 })

pub twin_alone : (xs ys : List Offer) (i j k : ℕ) → Twins xs ys i j → Twins xs ys i k → j ≡ k
twin_alone xs ys i j k s t =
    let e : s.offer ≡ t.offer = at_same xs i s.offer t.offer s.left t.left in
    let r : At ys k s.offer = subst (λ o. At ys k o) (sym e) t.right in
    let c : copies s.offer (take i xs) ≡ copies s.offer (take k ys) = subst (λ o. copies o (take i xs) ≡ copies o (take k ys)) (sym e) t.as_many in
    copy_alone s.offer ys j k s.right r (sym s.as_many ∙ c)
