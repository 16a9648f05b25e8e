-- What one read of a mark gives and leaves.
use Rattle.std.specs.Prelude.{◌≡◌, ℕ, ◌<◌, List, [], ◌∷◌, length, Some, None, Option}
use Rattle.groups.specs.declared.captures.Mark.{Mark as Read}
use Rattle.groups.specs.declared.captures.Mark.TheVariants.{Opens, Token as Tokened}
use Rattle.groups.specs.Captures.{Mark, group, token, marks}
use Rattle.tokens.specs.Reads.{meant}

-- the mark that a value of the code stands for, where `bs` opens the group
abbrev pub meant_mark : List ℕ → Read → Mark
meant_mark bs (Opens g) = group g bs
meant_mark bs (Tokened t) = token (meant t)

pub record TakenMark (m : Read) (before after : List ℕ) : Type 0 where
  pub text : List ℕ
  pub heads : marks before ≡ meant_mark text m ∷ marks after
  pub shorter : length after < length before

abbrev pub NextMark : Option Read → List ℕ → List ℕ → Type 0
NextMark None before after = (before ≡ []) × (after ≡ [])
NextMark (Some m) before after = TakenMark m before after
