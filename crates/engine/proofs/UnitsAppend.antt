-- Text that leaves nothing open, put before another: the units are those of both.
use Rattle.std.proofs.Common.{◌≡◌, ℕ, zero, suc, pred, ◌≤◌, Bool, true, false, cond, eqb, List, [], ◌∷◌, ◌++◌, length, take, drop, Some, None, Option, sym, refl, ap, ◌∙◌, arith, length-drop, length-take}
use Rattle.std.proofs.lemmas.List.{take_all, drop_all, take-append-le, drop-append-le}
use Rattle.std.proofs.lemmas.Option.{none-some}
use borrow.Author.Tests.{clash}
use Rattle.tokens.specs.declared.class.ClassWalker.{ClassWalker}
use Rattle.tokens.specs.Classes.{opened, stepped, closes}
use Rattle.tokens.specs.Cut.{past_front}
use Rattle.tokens.specs.Tokens.{Token, class, plain, spelled, escaping, class_length, closed_in}
use Rattle.tokens.proofs.Classes.{closed_taken}
use Rattle.tokens.proofs.Cut.{cut_nil, cut_cons}
use Rattle.engine.specs.declared.bracket.BracketFault.{BracketFault}
use Rattle.engine.specs.declared.bracket.BracketFault.TheVariants.{UnclosedClass, FinalBackslash}
use Rattle.engine.specs.Brackets.{leaves, last_leaves, fault_from, fault_in}
use Rattle.engine.specs.Units.{first_unit, units}
use Rattle.engine.proofs.BracketLaws.{fault_append, fine_parts}

-- a class that is closed ends where it did, whatever follows
length_closed : (w : ClassWalker) (bs ys : List ℕ) → closed_in w bs ≡ true → (class_length w (bs ++ ys) ≡ class_length w bs) × (class_length w bs ≤ length bs)
length_closed w [] ys e = absurd (clash e)
length_closed w (b ∷ bs) ys e = go (closes w b) (length_closed (stepped w b) bs ys) e where
  go : (t : Bool) → (closed_in (stepped w b) bs ≡ true → (class_length (stepped w b) (bs ++ ys) ≡ class_length (stepped w b) bs) × (class_length (stepped w b) bs ≤ length bs)) →
      cond t true (closed_in (stepped w b) bs) ≡ true →
      (cond t 1 (suc (class_length (stepped w b) (bs ++ ys))) ≡ cond t 1 (suc (class_length (stepped w b) bs))) × (cond t 1 (suc (class_length (stepped w b) bs)) ≤ suc (length bs))
  go true rest e = (refl, omega arith)
  go false rest e = (ap suc (rest e).0, omega (arith, (rest e).1))

-- one that is not closed takes all
length_left_open : (w : ClassWalker) (bs : List ℕ) → closed_in w bs ≡ false → class_length w bs ≡ length bs
length_left_open w [] e = refl
length_left_open w (b ∷ bs) e = go (closes w b) (length_left_open (stepped w b) bs) e where
  go : (t : Bool) → (closed_in (stepped w b) bs ≡ false → class_length (stepped w b) bs ≡ length bs) → cond t true (closed_in (stepped w b) bs) ≡ false →
      cond t 1 (suc (class_length (stepped w b) bs)) ≡ suc (length bs)
  go true rest e = absurd (clash (sym e))
  go false rest e = ap suc (rest e)

-- a unit that leaves no fault ends the same, whatever follows
abbrev Settled : ℕ → List ℕ → List ℕ → Token → Token → Type 0
Settled b bs ys t t' = (t' ≡ t) × (pred (length (spelled t)) ≤ length bs)

abbrev Ended : List ℕ → Token → Type 0
Ended bs t = drop (pred (length (spelled t))) bs ≡ []

abbrev Unit : ℕ → List ℕ → List ℕ → Token → Token → Type 0
Unit b bs ys t t' = (leaves t ≡ None → Settled b bs ys t t') × ((f : BracketFault) → leaves t ≡ Some f → Ended bs t)

escape_unit : (b : ℕ) (bs ys : List ℕ) → Unit b bs ys (escaping bs) (escaping (bs ++ ys))
escape_unit b [] ys = ((λ e. absurd (none-some FinalBackslash (sym e))), λ f e. refl)
escape_unit b (c ∷ bs) ys = ((λ e. (refl, omega arith)), λ f e. absurd (none-some f e))

class_unit : (b : ℕ) (bs ys : List ℕ) → Unit b bs ys (class (b ∷ take (class_length opened bs) bs)) (class (b ∷ take (class_length opened (bs ++ ys)) (bs ++ ys)))
class_unit b bs ys = go (closed_in opened bs) refl where
  is : (t : Bool) → closed_in opened bs ≡ t → leaves (class (b ∷ take (class_length opened bs) bs)) ≡ cond t None (Some UnclosedClass)
  is t e = ap (λ (s : Bool). cond s None (Some UnclosedClass)) (closed_taken opened bs ∙ e)

  go : (t : Bool) → closed_in opened bs ≡ t → Unit b bs ys (class (b ∷ take (class_length opened bs) bs)) (class (b ∷ take (class_length opened (bs ++ ys)) (bs ++ ys)))
  go true e =
      let w = length_closed opened bs ys e in (
        (λ _. (
          ap (λ (n : ℕ). class (b ∷ take n (bs ++ ys))) w.0 ∙ ap (λ (xs : List ℕ). class (b ∷ xs)) (take-append-le (class_length opened bs) bs ys w.1),
          simp length-take (omega (arith, w.1)),
        )),
        λ f l. absurd (none-some f (sym (is true e) ∙ l)),
      )
  go false e = (
    (λ l. absurd (none-some UnclosedClass (sym l ∙ is false e))),
    λ f l. ap (λ (n : ℕ). drop (length (take n bs)) bs) (length_left_open opened bs e)
        ∙ ap (λ (xs : List ℕ). drop (length xs) bs) (take_all (length bs) bs (omega arith)) ∙ drop_all (length bs) bs (omega arith),
  )

first_unit_lem : (b : ℕ) (bs ys : List ℕ) → Unit b bs ys (first_unit (b ∷ bs)) (first_unit (b ∷ bs ++ ys))
unfolding first_unit
first_unit_lem b bs ys = go (eqb b 92) (eqb b 91) where
  shape : Bool → Bool → List ℕ → Token
  shape s t xs = cond s (escaping xs) (cond t (class (b ∷ take (class_length opened xs) xs)) (plain b))

  go : (s t : Bool) → Unit b bs ys (shape s t bs) (shape s t (bs ++ ys))
  go true t = escape_unit b bs ys
  go false true = class_unit b bs ys
  go false false = ((λ e. (refl, omega arith)), λ f e. absurd (none-some f e))

pub units_append : (n : ℕ) (xs ys : List ℕ) → length xs ≤ n → last_leaves None (units xs) ≡ None → units (xs ++ ys) ≡ units xs ++ units ys
units_append n [] ys h e = ap (λ (us : List Token). us ++ units ys) (sym (cut_nil first_unit spelled))
units_append zero (b ∷ bs) ys h e = absurd (omega arith)
units_append (suc n) (b ∷ bs) ys h e =
    go (leaves (first_unit (b ∷ bs))) refl (λ k. units_append n (past_front first_unit spelled b bs) ys (simp length-drop (omega arith)) k) where
      t : Token
      t = first_unit (b ∷ bs)

      past : List ℕ
      past = past_front first_unit spelled b bs

      cut_is : units (b ∷ bs) ≡ t ∷ units past
      cut_is = cut_cons first_unit spelled b bs

      left : last_leaves (leaves t) (units past) ≡ None
      left = sym (ap (last_leaves None) cut_is) ∙ e

      go : (r : Option BracketFault) → leaves t ≡ r → (last_leaves None (units past) ≡ None → units (past ++ ys) ≡ units past ++ units ys) → units (b ∷ bs ++ ys) ≡ units (b ∷ bs) ++ units ys
      go None l rest =
          let w = (first_unit_lem b bs ys).0 l in
          cut_cons first_unit spelled b (bs ++ ys)
          ∙ ap (λ (u : Token). u ∷ units (drop (pred (length (spelled u))) (bs ++ ys))) w.0
          ∙ ap (λ (zs : List ℕ). t ∷ units zs) (drop-append-le (pred (length (spelled t))) bs ys w.1)
          ∙ ap (λ (us : List Token). t ∷ us) (rest (ap (λ (f : Option BracketFault). last_leaves f (units past)) (sym l) ∙ left))
          ∙ ap (λ (us : List Token). us ++ units ys) (sym cut_is)
      go (Some f) l rest =
          let none : units past ≡ [] = ap units ((first_unit_lem b bs ys).1 f l) ∙ cut_nil first_unit spelled in
          absurd (none-some f (sym left ∙ ap (last_leaves (leaves t)) none ∙ l))

-- text that is fine can be put before any text
pub fine_before : (xs ys : List ℕ) → fault_in (units xs) ≡ None → fault_in (units (xs ++ ys)) ≡ fault_in (units ys)
fine_before xs ys fine =
    let w = fine_parts (units xs) fine in
    ap fault_in (units_append (length xs) xs ys (omega arith) w.2)
    ∙ fault_append (units xs) (units ys) 0 None w.0
    ∙ ap (λ (k : ℕ). fault_from k (last_leaves None (units xs)) (units ys)) (omega (arith, w.1))
    ∙ ap (λ (f : Option BracketFault). fault_from 0 f (units ys)) w.2
