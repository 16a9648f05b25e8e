-- A grammar has one context of a name: byte order is strict, so no name comes twice.
use Rattle.std.proofs.Common.{◌≡◌, ℕ, zero, suc, ◌<◌, Bool, true, false, cond, ◌&&◌, eqb, ltb, ◌⊎◌, List, [], ◌∷◌, sym, refl, ap, ◌∙◌, subst, inl, inr, arith}
use borrow.Author.Tests.{clash}
use Rattle.std.proofs.lemmas.Bool.{and_parts, ltb-true, eqb-true, eq-eqb, lt-ltb, le-ltb, cond-true, cond-false}
use Rattle.grammar.specs.Names.{Text, before}
use Rattle.grammar.specs.Places.{At}
use Rattle.grammar.specs.Grammars.{Context, Grammar, ContextOf, precedes, ordered}
use Rattle.grammar.proofs.Places.{at_same}

-- a longer name stands before another by its first byte, or by the rest if the first bytes are equal
by_first : (a b : ℕ) (xs ys : Text) → before (a ∷ xs) (b ∷ ys) ≡ true → (a < b) ⊎ ((a ≡ b) × (before xs ys ≡ true))
by_first a b xs ys e = go (ltb a b) refl e
  where
    go : (t : Bool) → ltb a b ≡ t → cond t true (eqb a b && before xs ys) ≡ true → (a < b) ⊎ ((a ≡ b) × (before xs ys ≡ true))
    go true u f = inl (ltb-true a b u)
    go false u f = let p = and_parts (eqb a b) (before xs ys) f in inr (eqb-true a b p.0, p.1)

by_less : (a b : ℕ) (xs ys : Text) → a < b → before (a ∷ xs) (b ∷ ys) ≡ true
by_less a b xs ys h = cond-true (ltb a b) true (eqb a b && before xs ys) (lt-ltb a b h)

by_rest : (a b : ℕ) (xs ys : Text) → a ≡ b → before xs ys ≡ true → before (a ∷ xs) (b ∷ ys) ≡ true
by_rest a b xs ys same rest =
    cond-false (ltb a b) true (eqb a b && before xs ys) (le-ltb a b (omega arith)) ∙ ap (λ t. t && before xs ys) (eq-eqb a b same) ∙ rest

pub before_irreflexive : (xs : Text) → ¬ (before xs xs ≡ true)
before_irreflexive [] e = clash e
before_irreflexive (a ∷ xs) e = go (by_first a a xs xs e) (before_irreflexive xs)
  where
    go : (a < a) ⊎ ((a ≡ a) × (before xs xs ≡ true)) → ¬ (before xs xs ≡ true) → ⊥
    go (inl h) rest = omega arith
    go (inr p) rest = rest p.1

pub before_trans : (xs ys zs : Text) → before xs ys ≡ true → before ys zs ≡ true → before xs zs ≡ true
before_trans [] [] zs p q = absurd (clash p)
before_trans [] (b ∷ ys) [] p q = absurd (clash q)
before_trans [] (b ∷ ys) (c ∷ zs) p q = refl
before_trans (a ∷ xs) [] zs p q = absurd (clash p)
before_trans (a ∷ xs) (b ∷ ys) [] p q = absurd (clash q)
before_trans (a ∷ xs) (b ∷ ys) (c ∷ zs) p q = go (by_first a b xs ys p) (by_first b c ys zs q) (before_trans xs ys zs)
  where
    go : (a < b) ⊎ ((a ≡ b) × (before xs ys ≡ true)) → (b < c) ⊎ ((b ≡ c) × (before ys zs ≡ true)) →
        (before xs ys ≡ true → before ys zs ≡ true → before xs zs ≡ true) → before (a ∷ xs) (c ∷ zs) ≡ true
    go (inl h) (inl k) rest = by_less a c xs zs (omega arith)
    go (inl h) (inr k) rest = let e = k.0 in by_less a c xs zs (omega arith)
    go (inr h) (inl k) rest = let e = h.0 in by_less a c xs zs (omega arith)
    go (inr h) (inr k) rest = by_rest a c xs zs (h.0 ∙ k.0) (rest h.1 k.1)

-- the first of contexts in order stands before each other
pub first_before : (c : Context) (cs : List Context) → ordered (c ∷ cs) ≡ true → (k : ℕ) (d : Context) → At cs k d → before c.name d.name ≡ true
first_before c [] o k d a = absurd a
first_before c (e ∷ cs) o zero d a = subst (λ (x : Context). before c.name x.name ≡ true) a (and_parts (before c.name e.name) (ordered (e ∷ cs)) o).0
first_before c (e ∷ cs) o (suc k) d a =
    let p = and_parts (before c.name e.name) (ordered (e ∷ cs)) o in
    before_trans c.name e.name d.name p.0 (first_before e cs p.1 k d a)

-- contexts in order: a name stands at one place
pub one_place : (cs : List Context) → ordered cs ≡ true → (k l : ℕ) (c d : Context) → At cs k c → At cs l d → c.name ≡ d.name → k ≡ l
one_place [] o k l c d a b e = absurd a
one_place (x ∷ cs) o zero zero c d a b e = refl
one_place (x ∷ cs) o zero (suc l) c d a b e =
    absurd (before_irreflexive d.name (subst (λ n. before n d.name ≡ true) (ap (λ (y : Context). y.name) a ∙ e) (first_before x cs o l d b)))
one_place (x ∷ cs) o (suc k) zero c d a b e =
    absurd (before_irreflexive c.name (subst (λ n. before n c.name ≡ true) (ap (λ (y : Context). y.name) b ∙ sym e) (first_before x cs o k c a)))
one_place (x ∷ cs) o (suc k) (suc l) c d a b e = ap suc (one_place cs (and_parts (precedes x cs) (ordered cs) o).1 k l c d a b e)

-- a grammar has one context of a name
pub one_context : (g : Grammar) (n : Text) (c d : Context) → ContextOf g n c → ContextOf g n d → c ≡ d
one_context g n c d p q =
    let e = one_place g.contexts g.in_order p.there.place q.there.place c d p.there.there q.there.there (p.is ∙ sym q.is) in
    at_same g.contexts q.there.place c d (subst (λ k. At g.contexts k c) e p.there.there) q.there.there
