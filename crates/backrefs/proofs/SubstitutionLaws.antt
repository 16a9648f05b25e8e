-- A pattern that a substitution leaves as it is.
use Rattle.std.proofs.Common.{◌≡◌, ℕ, false, List, [], ◌∷◌, Option, refl, ◌∙◌}
use Rattle.std.specs.List.{AllByRecursion}
use Rattle.std.proofs.lemmas.Bool.{cond-false, or_parts}
use Rattle.backrefs.specs.Backrefs.{Pair, escaped, single, spelled_pair, pairs, digit, any_backref, has_backref, put, substituted}
use Rattle.tokens.proofs.CutEach.{joined_same}
use Rattle.backrefs.proofs.Pairs.{pairs_joined}

none_put : (part : ℕ → Option (List ℕ)) (ps : List Pair) → any_backref ps ≡ false → AllByRecursion (λ p. put part p ≡ spelled_pair p) ps
none_put part [] e = tt
none_put part (escaped b ∷ ps) e =
    let both = or_parts (digit b) (any_backref ps) e in
    (cond-false (digit b) _ _ both.0, none_put part ps both.1)
none_put part (single b ∷ ps) e = (refl, none_put part ps e)

pub substitution_unchanged : (part : ℕ → Option (List ℕ)) (bs : List ℕ) → has_backref bs ≡ false → substituted part bs ≡ bs
substitution_unchanged part bs e = joined_same (put part) spelled_pair (pairs bs) (none_put part (pairs bs) e) ∙ pairs_joined bs
