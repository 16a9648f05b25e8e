-- What stands at the front of a text, case by case.
use Rattle.std.proofs.Common.{◌≡◌, ℕ, true, false, eqb, List, [], ◌∷◌, take, Some, None, Option, refl}
use Rattle.std.proofs.lemmas.Bool.{cond_both, eqb-true}
use Rattle.tokens.specs.declared.posix.PosixClass.{PosixClass}
use Rattle.tokens.specs.Posix.{Member, escaped, bracket, single, bracket_at, bracket_or, escaped_or, first_member}
use Rattle.tokens.specs.Classes.{opened}
use Rattle.tokens.specs.Tokens.{Token, escape, final, class, comment, plain, first, escaping, opens_comment, class_length, comment_length}

pub token_cases : (P : Token → Type 0) (b : ℕ) (bs : List ℕ) →
    ((c : ℕ) (cs : List ℕ) → b ≡ 92 → bs ≡ c ∷ cs → P (escape c)) → P final →
    (b ≡ 91 → P (class (b ∷ take (class_length opened bs) bs))) →
    (opens_comment (b ∷ bs) ≡ true → P (comment (take (comment_length false (b ∷ bs)) (b ∷ bs)))) → P (plain b) → P (first (b ∷ bs))
unfolding first
token_cases P b bs at_escape at_final at_class at_comment at_plain =
    cond_both (eqb b 92) _ _ P (λ e. escaped bs refl (eqb-true b 92 e))
    (λ _. cond_both (eqb b 91) _ _ P (λ e. at_class (eqb-true b 91 e)) (λ _. cond_both (opens_comment (b ∷ bs)) _ _ P at_comment (λ _. at_plain))) where
      escaped : (ys : List ℕ) → bs ≡ ys → b ≡ 92 → P (escaping ys)
      escaped [] e is = at_final
      escaped (c ∷ cs) e is = at_escape c cs is e

pub member_cases : (P : Member → Type 0) (b : ℕ) (bs : List ℕ) →
    ((c : ℕ) (cs : List ℕ) → b ≡ 92 → bs ≡ c ∷ cs → P (escaped c)) →
    ((p : PosixClass) → bracket_at (b ∷ bs) ≡ Some p → P (bracket p)) → P (single b) → P (first_member (b ∷ bs))
unfolding first_member
member_cases P b bs at_escaped at_bracket at_single =
    cond_both (eqb b 92) _ _ P (λ e. behind_backslash bs refl (eqb-true b 92 e))
    (λ _. cond_both (eqb b 91) _ _ P (λ _. behind_bracket (bracket_at (b ∷ bs)) refl) (λ _. at_single)) where
      behind_backslash : (ys : List ℕ) → bs ≡ ys → b ≡ 92 → P (escaped_or ys b)
      behind_backslash [] e is = at_single
      behind_backslash (c ∷ cs) e is = at_escaped c cs is e

      behind_bracket : (o : Option PosixClass) → bracket_at (b ∷ bs) ≡ o → P (bracket_or o b)
      behind_bracket None e = at_single
      behind_bracket (Some p) e = at_bracket p e
