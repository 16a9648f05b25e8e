use Rattle.std.proofs.Common.{◌≡◌, ℕ, zero, suc, ◌<◌, Some, ap, subst, arith}
use Rattle.std.proofs.Math.Nat.{zero-lt-suc}
use Rattle.std.specs.Coded.{le_prop}
use Rattle.std.specs.Int.NonZero.{non_zero_u8_get}
use Rattle.std.specs.declared.num.NonZeroU8.{NonZeroU8}
use Rattle.judging.specs.Records.{fault_of}
use Rattle.judging.proofs.recorded.RecordedFault.told.Goals as goal

abbrev made : (n : ℕ) → 0 < n → NonZeroU8
made n ok = record { value = n; ok = ok }

-- there is one fault of each number
fault_is : (x : NonZeroU8) (n : ℕ) → non_zero_u8_get x ≡ n → Some (record { number = x }) ≡ fault_of n
fault_is x zero e = absurd (omega (arith, x.ok, e))
fault_is x (suc n) e = ap (λ (y : NonZeroU8). Some (record { number = y })) (same x.value (suc n) x.ok (zero-lt-suc n) e) where
  same : (m n : ℕ) (p : 0 < m) (q : 0 < n) → m ≡ n → made m p ≡ made n q
  same m n p q e = subst (λ (k : ℕ). (r : 0 < k) → made m p ≡ made k r) e (λ r. ap (made m) (le_prop p r)) q

pub returns-in-Some : goal.returns-in-Some
returns-in-Some c = fault_is c.in-Some.number c.args.verdict c.in-Some.ensures
