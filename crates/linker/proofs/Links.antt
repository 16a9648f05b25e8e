-- `link` tells where references lead, and a reference leads to one place only.
use Rattle.std.proofs.Common.{◌≡◌, ℕ, zero, suc, ◌<◌, ◌≤◌, Bool, true, false, cond, ◌⊎◌, List, [], ◌∷◌, Some, None, Decides, Option, sym, refl, ◌∙◌, subst, inl, inr, arith}
use borrow.Author.Tests.{clash}
use Rattle.std.proofs.lemmas.Bool.{cases_lt}
use Rattle.grammar.specs.Names.{Text, main}
use Rattle.grammar.specs.Places.{At, element_at}
use Rattle.grammar.specs.Grammars.{Reference, named, inline, by_scope, file, Grammar}
use Rattle.grammar.proofs.Places.{at_same}
use Rattle.linker.specs.Links.{LastOf, OfScope, OfName, Has, Found, Missing, plain_text, asked, within, Abroad, found, fallback, AtHome, Leads, Nowhere}
use Rattle.linker.specs.Linking.{is_of_scope, is_of_name, or_here, last_of, has_named, in_last, find, with_plain_text_fallback, home, link, LinkTellsWhereReferencesLead}
use Rattle.linker.proofs.Tests.{of_scope, of_name, has_decides}

-- ── the last grammar that passes ──

module _ (P : Grammar → Type 0) where
  -- there is one last grammar
  pub last_alone : (gs : List Grammar) (j k : ℕ) (g h : Grammar) → LastOf P gs j g → LastOf P gs k h → j ≡ k
  last_alone gs j k g h a b = go (cases_lt j k) (cases_lt k j)
    where
      go : (j < k) ⊎ (k ≤ j) → (k < j) ⊎ (j ≤ k) → j ≡ k
      go (inl l) q = absurd (a.no_later k h l b.there b.passes)
      go (inr l) (inl m) = absurd (b.no_later j g m a.there a.passes)
      go (inr l) (inr m) = omega arith

  pub last_same : (gs : List Grammar) (j k : ℕ) (g h : Grammar) → LastOf P gs j g → LastOf P gs k h → g ≡ h
  last_same gs j k g h a b = at_same gs k g h (subst (λ i. At gs i g) (last_alone gs j k g h a b) a.there) b.there

  abbrev pub LastTells : List Grammar → Option (ℕ × Grammar) → Type 0
  LastTells gs None = (k : ℕ) (h : Grammar) → At gs k h → ¬ P h
  LastTells gs (Some q) = LastOf P gs q.0 q.1

  module _ (p : Grammar → Bool) (decides : (g : Grammar) → Decides (p g) (P g)) where
    last_step : (g : Grammar) (gs : List Grammar) (b : Bool) → Decides b (P g) → (o : Option (ℕ × Grammar)) → LastTells gs o → LastTells (g ∷ gs) (or_here b g o)
    last_step g gs b d (Some q) t = record { there = t.there; passes = t.passes; no_later = beyond }
      where
        beyond : (k : ℕ) (h : Grammar) → suc q.0 < k → At (g ∷ gs) k h → ¬ P h
        beyond zero h l a = absurd (omega arith)
        beyond (suc k) h l a = t.no_later k h (omega arith) a
    last_step g gs true d None t = record { there = refl; passes = d.0 refl; no_later = beyond }
      where
        beyond : (k : ℕ) (h : Grammar) → 0 < k → At (g ∷ gs) k h → ¬ P h
        beyond zero h l a = absurd (omega arith)
        beyond (suc k) h l a = t k h a
    last_step g gs false d None t = nowhere
      where
        nowhere : (k : ℕ) (h : Grammar) → At (g ∷ gs) k h → ¬ P h
        nowhere zero h a = λ q. clash (d.1 (subst P (sym a) q))
        nowhere (suc k) h a = t k h a

    pub last_is : (gs : List Grammar) → LastTells gs (last_of p gs)
    last_is [] = λ k h a. absurd a
    last_is (g ∷ gs) = last_step g gs (p g) (decides g) (last_of p gs) (last_is gs)

    -- ── a context of that grammar ──

    abbrev pub FindTells : List Grammar → Text → Option (ℕ × Text) → Type 0
    FindTells gs n None = Missing P gs n
    FindTells gs n (Some t) = (t.1 ≡ n) × Found P gs n t.0

    in_last_lem : (gs : List Grammar) (n : Text) (o : Option (ℕ × Grammar)) → LastTells gs o → FindTells gs n (in_last o n)
    in_last_lem gs n None t = λ j f. t j f.grammar f.last.there f.last.passes
    in_last_lem gs n (Some q) t = go (has_named q.1.contexts n) (has_decides q.1 n)
      where
        go : (b : Bool) → Decides b (Has q.1 n) → FindTells gs n (cond b (Some (q.0, n)) None)
        go true d = (refl, record { grammar = q.1; last = t; has = d.0 refl })
        go false d = λ j f. clash (d.1 (subst (λ g. Has g n) (last_same gs j q.0 f.grammar q.1 f.last t) f.has))

    pub find_is : (gs : List Grammar) (n : Text) → FindTells gs n (find p gs n)
    find_is gs n = in_last_lem gs n (last_of p gs) (last_is gs)

  pub found_alone : (gs : List Grammar) (n : Text) (j k : ℕ) → Found P gs n j → Found P gs n k → j ≡ k
  found_alone gs n j k a b = last_alone gs j k a.grammar b.grammar a.last b.last

-- ── references ──

abbrev pub LinkTells : List Grammar → ℕ → Reference → Option (ℕ × Text) → Type 0
LinkTells gs i r None = Nowhere gs i r
LinkTells gs i r (Some t) = Leads gs i r t.0 t.1

abbrev AbroadTells : (Grammar → Type 0) → List Grammar → Text → Bool → Option (ℕ × Text) → Type 0
AbroadTells P gs n embed None = (j : ℕ) (m : Text) → ¬ Abroad P gs n embed j m
AbroadTells P gs n embed (Some t) = Abroad P gs n embed t.0 t.1

module _ (P : Grammar → Type 0) (p : Grammar → Bool) (decides : (g : Grammar) → Decides (p g) (P g)) where
  falls : (gs : List Grammar) (n : Text) (embed : Bool) → Missing P gs n →
      (o : Option (ℕ × Text)) → FindTells (OfName plain_text) (is_of_name plain_text) (of_name plain_text) gs main o → AbroadTells P gs n embed (cond embed o None)
  falls gs n true m (Some t) f = fallback refl m f.0 f.1
  falls gs n true m None f = none
    where
      none : (j : ℕ) (k : Text) → ¬ Abroad P gs n true j k
      none j k (found e g) = m j g
      none j k (fallback e h q g) = f j g
  falls gs n false m o f = none
    where
      none : (j : ℕ) (k : Text) → ¬ Abroad P gs n false j k
      none j k (found e g) = m j g
      none j k (fallback e h q g) = clash e

  abroad_is : (gs : List Grammar) (n : Text) (embed : Bool) → AbroadTells P gs n embed (with_plain_text_fallback embed gs (find p gs n))
  abroad_is gs n embed = go (find p gs n) (find_is P p decides gs n)
    where
      go : (o : Option (ℕ × Text)) → FindTells P p decides gs n o → AbroadTells P gs n embed (with_plain_text_fallback embed gs o)
      go (Some t) f = found f.0 f.1
      go None f = falls gs n embed f (find (is_of_name plain_text) gs main) (find_is (OfName plain_text) (is_of_name plain_text) (of_name plain_text) gs main)

  pub abroad_alone : (gs : List Grammar) (n : Text) (embed : Bool) (j k : ℕ) (a b : Text) → Abroad P gs n embed j a → Abroad P gs n embed k b → (j ≡ k) × (a ≡ b)
  abroad_alone gs n embed j k a b (found e f) (found e' f') = (found_alone P gs n j k f f', e ∙ sym e')
  abroad_alone gs n embed j k a b (found e f) (fallback t m e' f') = absurd (m j f)
  abroad_alone gs n embed j k a b (fallback t m e f) (found e' f') = absurd (m k f')
  abroad_alone gs n embed j k a b (fallback t m e f) (fallback t' m' e' f') = (found_alone (OfName plain_text) gs main j k f f', e ∙ sym e')

abbrev GrammarTells : List Grammar → ℕ → Option Grammar → Type 0
GrammarTells gs i None = (g : Grammar) → ¬ At gs i g
GrammarTells gs i (Some g) = At gs i g

grammar_is : (gs : List Grammar) (i : ℕ) → GrammarTells gs i (element_at gs i)
grammar_is [] i = λ g a. a
grammar_is (g ∷ gs) zero = refl
grammar_is (g ∷ gs) (suc i) = go (element_at gs i) (grammar_is gs i)
  where
    go : (o : Option Grammar) → GrammarTells gs i o → GrammarTells (g ∷ gs) (suc i) o
    go None t = t
    go (Some h) t = t

abbrev HomeTells : List Grammar → ℕ → Text → Option (ℕ × Text) → Type 0
HomeTells gs i name None = (j : ℕ) (n : Text) → ¬ AtHome gs i name j n
HomeTells gs i name (Some t) = AtHome gs i name t.0 t.1

home_is : (gs : List Grammar) (i : ℕ) (name : Text) → HomeTells gs i name (home i (element_at gs i) (within name))
home_is gs i name = go (element_at gs i) (grammar_is gs i)
  where
    at : (g : Grammar) → At gs i g → (b : Bool) → Decides b (Has g (within name)) → HomeTells gs i name (cond b (Some (i, within name)) None)
    at g t true d = record { grammar = g; there = t; same = refl; is = refl; has = d.0 refl }
    at g t false d = λ j n h. clash (d.1 (subst (λ m. Has g m) h.is (subst (λ x. Has x n) (at_same gs i h.grammar g h.there t) h.has)))

    go : (o : Option Grammar) → GrammarTells gs i o → HomeTells gs i name (home i o (within name))
    go None t = λ j n h. t h.grammar h.there
    go (Some g) t = at g t (has_named g.contexts (within name)) (has_decides g (within name))

pub link_is : (gs : List Grammar) (i : ℕ) (r : Reference) → LinkTells gs i r (link gs i r)
link_is gs i (named name) = go (home i (element_at gs i) (within name)) (home_is gs i name)
  where
    go : (o : Option (ℕ × Text)) → HomeTells gs i name o → LinkTells gs i (named name) o
    go None t = t
    go (Some x) t = t
link_is gs i (inline name) = go (home i (element_at gs i) (within name)) (home_is gs i name)
  where
    go : (o : Option (ℕ × Text)) → HomeTells gs i name o → LinkTells gs i (inline name) o
    go None t = t
    go (Some x) t = t
link_is gs i (by_scope s sub embed) = go (with_plain_text_fallback embed gs (find (is_of_scope s) gs (asked sub))) (abroad_is (OfScope s) (is_of_scope s) (of_scope s) gs (asked sub) embed)
  where
    go : (o : Option (ℕ × Text)) → AbroadTells (OfScope s) gs (asked sub) embed o → LinkTells gs i (by_scope s sub embed) o
    go None t = t
    go (Some x) t = t
link_is gs i (file name sub embed) = go (with_plain_text_fallback embed gs (find (is_of_name name) gs (asked sub))) (abroad_is (OfName name) (is_of_name name) (of_name name) gs (asked sub) embed)
  where
    go : (o : Option (ℕ × Text)) → AbroadTells (OfName name) gs (asked sub) embed o → LinkTells gs i (file name sub embed) o
    go None t = t
    go (Some x) t = t

-- a reference leads to one context at most
pub leads_alone : (gs : List Grammar) (i : ℕ) (r : Reference) (j k : ℕ) (m n : Text) → Leads gs i r j m → Leads gs i r k n → (j ≡ k) × (m ≡ n)
leads_alone gs i (named name) j k m n a b = (a.same ∙ sym b.same, a.is ∙ sym b.is)
leads_alone gs i (inline name) j k m n a b = (a.same ∙ sym b.same, a.is ∙ sym b.is)
leads_alone gs i (by_scope s sub embed) j k m n a b = abroad_alone (OfScope s) (is_of_scope s) (of_scope s) gs (asked sub) embed j k m n a b
leads_alone gs i (file name sub embed) j k m n a b = abroad_alone (OfName name) (is_of_name name) (of_name name) gs (asked sub) embed j k m n a b

pub link_tells : LinkTellsWhereReferencesLead
link_tells gs i r j n = (λ e. subst (LinkTells gs i r) e (link_is gs i r), λ l. go (link gs i r) (link_is gs i r) l)
  where
    go : (o : Option (ℕ × Text)) → LinkTells gs i r o → Leads gs i r j n → o ≡ Some (j, n)
    go None t l = absurd (t j n l)
    go (Some q) t l = let e = leads_alone gs i r q.0 j q.1 n t l in λ x. Some (e.0 x, e.1 x)
