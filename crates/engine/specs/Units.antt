-- The units of a text, as the engines read it: its tokens, but comments are not known.
use Rattle.std.specs.Prelude.{◌≡◌, ℕ, ◌<◌, cond, List, [], ◌∷◌, length, take, Some, None, Option, ◌==◌}
use Rattle.tokens.specs.Classes.{opened}
use Rattle.tokens.specs.Cut.{cut}
use Rattle.tokens.specs.Reads.{meant, Told}
use Rattle.tokens.specs.Tokens.{Token, final, class, plain, spelled, escaping, class_length}
use Rattle.tokens.specs.declared.parser.Token.{Token as Read}

-- the unit at the front of a text: an escape, a final backslash, a class, any other byte
unfoldable pub first_unit : List ℕ → Token
first_unit [] = final
first_unit (b ∷ bs) = cond (b == 92) (escaping bs) (cond (b == 91) (class (b ∷ take (class_length opened bs) bs)) (plain b))

abbrev pub units : List ℕ → List Token
units = cut first_unit spelled

-- What one read of a unit gives and leaves.
pub record TakenUnit (t : Read) (before after : List ℕ) : Type 0 where
  pub heads : units before ≡ meant t ∷ units after
  pub shorter : length after < length before
  pub told : Told t

abbrev pub NextUnit : Option Read → List ℕ → List ℕ → Type 0
NextUnit None before after = (before ≡ []) × (after ≡ [])
NextUnit (Some t) before after = TakenUnit t before after
