-- The captures whose text is consumed, in order.
use Rattle.std.proofs.Common.{ℕ, ◌+◌, ◌≤◌, Bool, true, false, cond, List, [], ◌∷◌, ◌++◌, arith}
use Rattle.groups.specs.declared.captures.Group.TheVariants.{Capturing, Lookaround, Other}
use Rattle.groups.specs.Captures.{Mark, group, token, marks, closing, in_lookaround, valid_numbers, consuming_captures, Rising}

-- the numbers that are valid from here on are greater than those of the groups so far
rising_valid : (groups : List Bool) (n k : ℕ) (ms : List Mark) → k ≤ n → Rising (k ∷ valid_numbers groups n ms)
rising_valid groups n k [] h = tt
rising_valid groups n k (group Capturing bs ∷ ms) h =
    go (in_lookaround groups) (rising_valid (false ∷ groups) (n + 1) k ms (omega arith)) (rising_valid (false ∷ groups) (n + 1) (n + 1) ms (omega arith)) where
      go : (t : Bool) → Rising (k ∷ valid_numbers (false ∷ groups) (n + 1) ms) → Rising ((n + 1) ∷ valid_numbers (false ∷ groups) (n + 1) ms) →
          Rising (k ∷ (cond t [] ((n + 1) ∷ []) ++ valid_numbers (false ∷ groups) (n + 1) ms))
      go true past on = past
      go false past on = (omega arith, on)
rising_valid groups n k (group Lookaround bs ∷ ms) h = rising_valid (true ∷ groups) n k ms h
rising_valid groups n k (group Other bs ∷ ms) h = rising_valid (false ∷ groups) n k ms h
rising_valid groups n k (token t ∷ ms) h = rising_valid (closing t groups) n k ms h

pub captures_rise : (bs : List ℕ) → Rising (consuming_captures bs)
captures_rise bs = rising_valid [] 0 0 (marks bs) (omega arith)
