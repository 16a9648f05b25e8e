-- What an integer's bytes parse to is what the flow form says.
use Rattle.std.proofs.Common.{◌≡◌, ℕ, ◌+◌, ◌<◌, ◌≤◌, true, List, ◌∷◌, ◌++◌, length, get_or, take, drop, [], ℤ, pos, neg_ℤ, IfSome, Ok, Err, Result, sym, refl, ap, ◌∙◌, subst, ⊎_elim, arith, to_z-of_z, w64, SFits, to_z, of_z, zero, suc, ◌^◌, lit<, rules}
use Rattle.std.specs.Result.{result_ok}
use Rattle.std.specs.Str.Parse.{ParsesSigned}
use Rattle.std.specs.Str.{all_ascii_digits}
use Rattle.std.proofs.lemmas.List.{drop-drop, take-append-drop}
use Rattle.std.proofs.lemmas.Str.Parse.{IsNumeralModel, numerals_by_fold, parse_signed_minus, parse_signed_plain}
use Rattle.std.proofs.lemmas.Result.{OkIff-at_ok}
use Rattle.std.proofs.lemmas.Bool.{cases_eq}
use Rattle.flow.specs.Scalars.{decimal, Integer, plain, minus}

small : (n : ℕ) → n ≤ 2 ^ 63 → SFits w64 (neg_ℤ (pos n))
small zero h = record { sfits = lit< tt }
small (suc n) h = record { sfits = omega (arith, h) }

-- an integer is what its bits say
pub number_kept : {bs rest : List ℕ} {z : ℤ} → Integer bs rest z → to_z w64 (of_z w64 z) ≡ z
number_kept (plain d h) = to_z-of_z {w = w64} record { sfits = h }
number_kept (minus {n = n} d h) = to_z-of_z {w = w64} (small n h)

own : IsNumeralModel (λ ds. all_ascii_digits ds ≡ true) (decimal 0)
own = numerals_by_fold _ (search rules) decimal (search rules)

as_plain : {E : Type 0} (bs rest : List ℕ) (r : Result ℤ E) (z : ℤ) → ParsesSigned w64 10 bs r → r ≡ Ok z →
    (get_or bs 0 0 ≡ 43 → ⊥) → (get_or bs 0 0 ≡ 45 → ⊥) → Integer (bs ++ rest) rest z
as_plain bs rest r z p e n m =
    let q = OkIff-at_ok r _ _ z (parse_signed_plain own w64 bs r p n m) e in
    subst (λ (y : ℤ). Integer (bs ++ rest) rest y) (sym q.1)
    (plain record { digits = bs; whole = refl; all = q.0.0; some = q.0.1; number = refl } q.0.2)

as_minus : {E : Type 0} (bs rest : List ℕ) (r : Result ℤ E) (z : ℤ) → ParsesSigned w64 10 bs r → r ≡ Ok z → get_or bs 0 0 ≡ 45 →
    Integer (bs ++ rest) rest z
as_minus [] rest r z p e m = absurd (omega (arith, m))
as_minus (b ∷ bs) rest r z p e m =
    let q = OkIff-at_ok r _ _ z (parse_signed_minus own w64 (b ∷ bs) r p m) e in
    subst (λ (y : ℤ). Integer (b ∷ (bs ++ rest)) rest y) (sym q.1)
    (subst (λ (d : ℕ). Integer (d ∷ (bs ++ rest)) rest (neg_ℤ (pos (decimal 0 bs)))) (sym m)
    (minus record { digits = bs; whole = refl; all = q.0.0; some = q.0.1; number = refl } q.0.2))

pub integer_read : {E : Type 0} (bs rest : List ℕ) (r : Result ℤ E) (z : ℤ) → ParsesSigned w64 10 bs r → r ≡ Ok z →
    (get_or bs 0 0 ≡ 43 → ⊥) → Integer (bs ++ rest) rest z
integer_read bs rest r z p e n =
    ⊎_elim (λ m. as_minus bs rest r z p e m) (λ m. as_plain bs rest r z p e n m) (cases_eq (get_or bs 0 0) 45)

long : {E : Type 0} (bs : List ℕ) (r : Result ℤ E) (z : ℤ) → ParsesSigned w64 10 bs r → r ≡ Ok z → (get_or bs 0 0 ≡ 43 → ⊥) → 0 < length bs
long [] r z p e n = absurd (omega (arith, (OkIff-at_ok r _ _ z (parse_signed_plain own w64 [] r p n (λ m. omega (arith, m))) e).0.1))
long (b ∷ bs) r z p e n = omega arith

pub parsed : {E : Type 0} (bs : List ℕ) (r : Result ℤ E) → ParsesSigned w64 10 bs r → (get_or bs 0 0 ≡ 43 → ⊥) →
    IfSome (result_ok r) (λ z. (0 < length bs) × ((rest : List ℕ) → Integer (bs ++ rest) rest z))
parsed {E = E} bs (Ok z) p n = (long {E = E} bs (Ok z) z p refl n, λ rest. integer_read {E = E} bs rest (Ok z) z p refl n)
parsed bs (Err e) p n = tt

-- the integer that stands at a place
pub integer_here : (input bs : List ℕ) (place end w : ℕ) (z : ℤ) → bs ≡ drop place input → end ≡ place + w → Integer (take w bs ++ drop w bs) (drop w bs) z →
    Integer (drop place input) (drop end input) (to_z w64 (of_z w64 z))
integer_here input bs place end w z same there i =
    subst (λ (y : ℤ). Integer (drop place input) (drop end input) y) (sym (number_kept i))
    (subst (λ (xs : List ℕ). Integer (drop place input) xs z) (ap (drop w) same ∙ drop-drop w place input ∙ ap (λ n. drop n input) (sym there))
    (subst (λ (xs : List ℕ). Integer xs (drop w bs) z) (take-append-drop w bs ∙ same) i))

pub wide : (w : ℕ) (bs : List ℕ) → 0 < length (take w bs) → 0 < w
wide zero bs h = h
wide (suc w) bs h = omega arith
