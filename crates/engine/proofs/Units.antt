-- Laws of the units of a text.
use Rattle.std.proofs.Common.{◌≡◌, ℕ, pred, Bool, true, false, cond, ◌&&◌, eqb, List, [], ◌∷◌, ◌++◌, length, take, drop, Some, None, Option, sym, refl, ap, ◌∙◌, subst, arith, length-drop}
use Rattle.std.specs.List.{flat_map}
use Rattle.std.proofs.lemmas.Bool.{cond-false, ne_eqb, eqb-true, and_parts}
use borrow.Author.Tests.{clash}
use Rattle.tokens.specs.declared.parser.Token.{Token as Read}
use Rattle.tokens.specs.declared.parser.Token.TheVariants.{Plain}
use Rattle.tokens.specs.Classes.{opened}
use Rattle.tokens.specs.Cut.{past_front, Honest}
use Rattle.tokens.specs.Reads.{meant, Taken, Told, Next}
use Rattle.tokens.specs.Tokens.{Token, class, comment, plain, spelled, first, escaping, opens_comment, class_length, comment_length}
use Rattle.tokens.proofs.Cut.{cut_nil, cut_cons, cut_joined}
use Rattle.tokens.proofs.Tokens.{honest_first, taken_first}
use Rattle.engine.specs.Units.{first_unit, units, TakenUnit, NextUnit}

pub no_units : (bs : List ℕ) → bs ≡ [] → units bs ≡ []
no_units bs e = ap units e ∙ cut_nil first_unit spelled

taken : (t : Read) (b : ℕ) (bs after : List ℕ) → first_unit (b ∷ bs) ≡ meant t → after ≡ drop (pred (length (spelled (meant t)))) bs → Told t →
    TakenUnit t (b ∷ bs) after
taken t b bs after is left said =
    let past : past_front first_unit spelled b bs ≡ after = ap (λ (u : Token). drop (pred (length (spelled u))) bs) is ∙ sym left in
    record {
      heads = cut_cons first_unit spelled b bs ∙ ap (λ (u : Token). u ∷ units (past_front first_unit spelled b bs)) is ∙ ap (λ (xs : List ℕ). meant t ∷ units xs) past;
      shorter = omega (arith, simp length-drop at (ap length left));
      told = said;
    }

-- `(?#` begins with a `(`
comment_begins : (b : ℕ) (bs : List ℕ) → opens_comment (b ∷ bs) ≡ true → b ≡ 40
comment_begins b [] e = absurd (clash e)
comment_begins b (c ∷ []) e = absurd (clash e)
comment_begins b (c ∷ d ∷ bs) e = eqb-true b 40 (and_parts (eqb b 40) (eqb c 63 && eqb d 35) e).0

opening_unit : (b : ℕ) (bs : List ℕ) → opens_comment (b ∷ bs) ≡ true → first_unit (b ∷ bs) ≡ plain b
unfolding first_unit
opening_unit b bs e =
    let is = comment_begins b bs e in
    cond-false (eqb b 92) _ _ (ne_eqb b 92 (λ h. omega arith)) ∙ cond-false (eqb b 91) _ (plain b) (ne_eqb b 91 (λ h. omega arith))

pub taken_opening : (xs ys : List ℕ) → opens_comment xs ≡ true → ys ≡ drop 1 xs → TakenUnit (Plain 40) xs ys
taken_opening [] ys e q = absurd (clash e)
taken_opening (x ∷ xs) ys e q = taken (Plain 40) x xs ys (opening_unit x xs e ∙ ap plain (comment_begins x xs e)) q tt

-- where no comment begins, the token at the front is the unit
same_first : (b : ℕ) (bs : List ℕ) → opens_comment (b ∷ bs) ≡ false → first (b ∷ bs) ≡ first_unit (b ∷ bs)
unfolding first first_unit
same_first b bs e =
    ap (λ (t : Token). cond (eqb b 92) (escaping bs) (cond (eqb b 91) (class (b ∷ take (class_length opened bs) bs)) t))
    (cond-false (opens_comment (b ∷ bs)) (comment (take (comment_length false (b ∷ bs)) (b ∷ bs))) (plain b) e)

pub taken_token : (t : Read) (xs ys : List ℕ) → opens_comment xs ≡ false → Taken t xs ys → TakenUnit t xs ys
taken_token t [] ys e w = absurd (omega (arith, w.shorter))
taken_token t (x ∷ xs) ys e w =
    let is = taken_first t x xs ys w in
    taken t x xs ys (sym (same_first x xs e) ∙ is.0) (is.1 ∙ ap (λ (u : Token). drop (pred (length (spelled u))) xs) is.0) w.told

pub next_token : (r : Option Read) (xs ys : List ℕ) → opens_comment xs ≡ false → Next r xs ys → NextUnit r xs ys
next_token None xs ys e w = w
next_token (Some t) xs ys e w = taken_token t xs ys e w

honest_unit : Honest first_unit spelled
honest_unit b bs = go (opens_comment (b ∷ bs)) refl where
  Stands : Token → Type 0
  Stands u = spelled u ++ drop (pred (length (spelled u))) bs ≡ b ∷ bs

  go : (t : Bool) → opens_comment (b ∷ bs) ≡ t → Stands (first_unit (b ∷ bs))
  go true e = subst Stands (sym (opening_unit b bs e)) refl
  go false e = subst Stands (same_first b bs e) (honest_first b bs)

-- the units joined are the text
pub units_joined : (bs : List ℕ) → flat_map spelled (units bs) ≡ bs
units_joined = cut_joined first_unit spelled honest_unit
