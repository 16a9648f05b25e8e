-- The tests of scopes, names and contexts decide what they are about.
use Rattle.std.proofs.Common.{◌≡◌, ℕ, zero, suc, Bool, true, false, cond, ◌&&◌, List, [], ◌∷◌, Decides, sym, refl, ap, ◌∙◌}
use mathlib.Core.List.{cons≢nil, head-eq_of_cons-eq, tail-eq_of_cons-eq}
use borrow.Author.Tests.{clash}
use Rattle.std.specs.Str.{bytes_eq}
use Rattle.std.proofs.lemmas.Bool.{and_parts, and_from}
use Rattle.std.proofs.lemmas.Slice.Eq.{bytes_eq-Decides}
use Rattle.grammar.specs.Names.{Text}
use Rattle.grammar.specs.Places.{At, In}
use Rattle.grammar.specs.Grammars.{Scope, Context, Grammar}
use Rattle.linker.specs.Links.{OfScope, OfName, Has}
use Rattle.linker.specs.Linking.{same_scope, is_of_scope, is_of_name, has_named}

pub scope_decides : (a b : Scope) → Decides (same_scope a b) (a ≡ b)
scope_decides [] [] = (λ e. refl, λ e. refl)
scope_decides [] (y ∷ ys) = (λ e. absurd (clash e), λ e. absurd (cons≢nil (sym e)))
scope_decides (x ∷ xs) [] = (λ e. absurd (clash e), λ e. absurd (cons≢nil e))
scope_decides (x ∷ xs) (y ∷ ys) = step (scope_decides xs ys)
  where
    step : Decides (same_scope xs ys) (xs ≡ ys) → Decides (bytes_eq x y && same_scope xs ys) (Path Scope (x ∷ xs) (y ∷ ys))
    step d = (
      λ e. let p = and_parts (bytes_eq x y) (same_scope xs ys) e in λ i. (bytes_eq-Decides x y).0 p.0 i ∷ d.0 p.1 i,
      λ e. and_from _ _ ((bytes_eq-Decides x y).1 (head-eq_of_cons-eq e)) (d.1 (tail-eq_of_cons-eq e)),
    )

pub of_scope : (s : Scope) (g : Grammar) → Decides (is_of_scope s g) (OfScope s g)
of_scope s g = scope_decides g.scope s

pub of_name : (n : Text) (g : Grammar) → Decides (is_of_name n g) (OfName n g)
of_name n g = bytes_eq-Decides g.name n

-- a context of that name stands in the list
abbrev pub Among : List Context → Text → Type 0
Among cs n = (c : Context) × In cs c × (c.name ≡ n)

pub named_decides : (cs : List Context) (n : Text) → Decides (has_named cs n) (Among cs n)
named_decides [] n = (λ e. absurd (clash e), λ a. absurd a.1.there)
named_decides (c ∷ cs) n = step (bytes_eq c.name n) (bytes_eq-Decides c.name n) (named_decides cs n)
  where
    step : (b : Bool) → Decides b (c.name ≡ n) → Decides (has_named cs n) (Among cs n) → Decides (cond b true (has_named cs n)) (Among (c ∷ cs) n)
    step true d rest = (λ e. (c, record { place = 0; there = refl }, d.0 refl), λ a. refl)
    step false d rest = (λ e. let a = rest.0 e in (a.0, record { place = suc a.1.place; there = a.1.there }, a.2), λ a. rest.1 (later a.0 a.1.place a.1.there a.2))
      where
        later : (x : Context) (k : ℕ) → At (c ∷ cs) k x → x.name ≡ n → Among cs n
        later x zero t e = absurd (clash (d.1 (ap (λ y. y.name) t ∙ e)))
        later x (suc k) t e = (x, record { place = k; there = t }, e)

pub has_decides : (g : Grammar) (n : Text) → Decides (has_named g.contexts n) (Has g n)
has_decides g n = (
  λ e. let a = (named_decides g.contexts n).0 e in record { context = a.0; held = record { there = a.1; is = a.2 } },
  λ h. (named_decides g.contexts n).1 (h.context, h.held.there, h.held.is),
)
