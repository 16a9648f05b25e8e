-- What one read of a token gives and leaves.
use Rattle.std.specs.Prelude.{◌≡◌, ℕ, ◌<◌, List, [], ◌∷◌, ◌++◌, length, Some, None, Option}
use Rattle.tokens.specs.declared.parser.Token.{Token as Read}
use Rattle.tokens.specs.declared.parser.Token.TheVariants.{Escape, FinalBackslash, Class, Comment, Plain}
use Rattle.tokens.specs.Tokens.{Token, escape, final, class, comment, plain, spelled, tokens, has_newline}

-- the token that a value of the code stands for
abbrev pub meant : Read → Token
meant (Escape b) = escape b
meant FinalBackslash = final
meant (Class text newline) = class text.now
meant (Comment text) = comment text.now
meant (Plain b) = plain b

-- what the code says of a class is so
abbrev pub Told : Read → Type 0
Told (Escape b) = Unit {0}
Told FinalBackslash = Unit {0}
Told (Class text newline) = newline ≡ has_newline text.now
Told (Comment text) = Unit {0}
Told (Plain b) = Unit {0}

pub record Taken (t : Read) (before after : List ℕ) : Type 0 where
  -- the token is the first of the text, and the rest are those of what is left
  pub heads : tokens before ≡ meant t ∷ tokens after
  pub spells : before ≡ spelled (meant t) ++ after
  pub shorter : length after < length before
  pub told : Told t

abbrev pub Next : Option Read → List ℕ → List ℕ → Type 0
Next None before after = (before ≡ []) × (after ≡ [])
Next (Some t) before after = Taken t before after
