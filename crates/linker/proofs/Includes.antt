-- Includes of the grammars, and which contexts pop by a backreference.
use Rattle.std.proofs.Common.{◌≡◌, ℕ, zero, suc, ◌+◌, Bool, true, false, cond, ◌||◌, ◌⊎◌, List, [], ◌∷◌, length, sym, refl, ap, ◌∙◌, subst, inl, inr, arith}
use borrow.Author.Tests.{clash}
use Rattle.std.proofs.lemmas.Bool.{or_cases, or_left, or_right}
use Rattle.grammar.specs.Names.{Text}
use Rattle.grammar.specs.Places.{At, In}
use Rattle.grammar.specs.Grammars.{Reference, Operation, push, set, pop, none, Match, Pattern, include, match, Context, Grammar, ContextOf}
use Rattle.grammar.proofs.Places.{in_left, in_right, at_either}
use Rattle.linker.specs.Graphs.{Site, includes_of, includes_in, includes, is_pop, pops_by_backref}
use Rattle.linker.specs.Flags.{PopsByBackref}

-- ── patterns told apart ──

abbrev IsInclude : Pattern → Type 0
IsInclude (include r) = Unit {0}
IsInclude (match m) = ⊥

abbrev included : Reference → Pattern → Reference
included d (include r) = r
included d (match m) = d

abbrev matched : Match → Pattern → Match
matched d (include r) = d
matched d (match m) = m

-- ── the includes of a context ──

of_there : (s : Site) (ps : List Pattern) (e : ℕ) (t : Site) (r : Reference) → At (includes_of s ps) e (t, r) → (s ≡ t) × In ps (include r)
of_there s [] e t r a = absurd a
of_there s (include q ∷ ps) zero t r a =
    (ap (λ (x : Site × Reference). x.0) a, record { place = 0; there = ap (λ (x : Site × Reference). include x.1) a })
of_there s (include q ∷ ps) (suc e) t r a =
    let p = of_there s ps e t r a in
    (p.0, record { place = suc p.1.place; there = p.1.there })
of_there s (match m ∷ ps) e t r a =
    let p = of_there s ps e t r a in
    (p.0, record { place = suc p.1.place; there = p.1.there })

of_found : (s : Site) (ps : List Pattern) (k : ℕ) (r : Reference) → At ps k (include r) → In (includes_of s ps) (s, r)
of_found s [] k r a = absurd a
of_found s (include q ∷ ps) zero r a = record { place = 0; there = ap (λ (x : Pattern). (s, included q x)) a }
of_found s (include q ∷ ps) (suc k) r a =
    let p = of_found s ps k r a in
    record { place = suc p.place; there = p.there }
of_found s (match m ∷ ps) zero r a = absurd (subst IsInclude (sym a) tt)
of_found s (match m ∷ ps) (suc k) r a = of_found s ps k r a

-- ── the includes of the contexts of a grammar ──

-- a context named n includes by r
record IncludesIn (cs : List Context) (n : Text) (r : Reference) : Type 0 where
  context : Context
  there : In cs context
  is : context.name ≡ n
  by_reference : In context.patterns (include r)

in_there : (i : ℕ) (cs : List Context) (e j : ℕ) (n : Text) (r : Reference) → At (includes_in i cs) e ((j, n), r) → (i ≡ j) × IncludesIn cs n r
in_there i [] e j n r a = absurd a
in_there i (c ∷ cs) e j n r a =
    go (at_either (includes_of (i, c.name) c.patterns) (includes_in i cs) e ((j, n), r) a) (λ f. in_there i cs f j n r)
  where
    go : At (includes_of (i, c.name) c.patterns) e ((j, n), r) ⊎ ((f : ℕ) × (e ≡ length (includes_of (i, c.name) c.patterns) + f) × At (includes_in i cs) f ((j, n), r)) →
        ((f : ℕ) → At (includes_in i cs) f ((j, n), r) → (i ≡ j) × IncludesIn cs n r) → (i ≡ j) × IncludesIn (c ∷ cs) n r
    go (inl b) rest =
        let p = of_there (i, c.name) c.patterns e (j, n) r b in
        (ap (λ (s : Site). s.0) p.0, record { context = c; there = record { place = 0; there = refl }; is = ap (λ (s : Site). s.1) p.0; by_reference = p.1 })
    go (inr b) rest =
        let p = rest b.0 b.2 in
        (p.0, record { context = p.1.context; there = record { place = suc p.1.there.place; there = p.1.there.there }; is = p.1.is; by_reference = p.1.by_reference })

in_found : (i : ℕ) (cs : List Context) (k : ℕ) (c : Context) (n : Text) (r : Reference) → At cs k c → c.name ≡ n → In c.patterns (include r) → In (includes_in i cs) ((i, n), r)
in_found i [] k c n r a e f = absurd a
in_found i (d ∷ cs) zero c n r a e f =
    let g = subst (λ (x : Context). In x.patterns (include r)) (sym a) f in
    let same : d.name ≡ n = ap (λ (x : Context). x.name) a ∙ e in
    let h = of_found (i, d.name) d.patterns g.place r g.there in
    in_left (includes_of (i, d.name) d.patterns) (includes_in i cs)
    (subst (λ (x : Text). In (includes_of (i, d.name) d.patterns) ((i, x), r)) same h)
in_found i (d ∷ cs) (suc k) c n r a e f = in_right (includes_of (i, d.name) d.patterns) (includes_in i cs) (in_found i cs k c n r a e f)

-- ── the includes of the grammars ──

-- the context named n of the grammar at l includes by r
pub record IncludesAt (gs : List Grammar) (l : ℕ) (n : Text) (r : Reference) : Type 0 where
  pub grammar : Grammar
  pub there : At gs l grammar
  pub context : Context
  pub held : ContextOf grammar n context
  pub by_reference : In context.patterns (include r)

pub includes_there : (i : ℕ) (gs : List Grammar) (e j : ℕ) (n : Text) (r : Reference) → At (includes i gs) e ((j, n), r) → (l : ℕ) × (j ≡ i + l) × IncludesAt gs l n r
includes_there i [] e j n r a = absurd a
includes_there i (g ∷ gs) e j n r a =
    go (at_either (includes_in i g.contexts) (includes (suc i) gs) e ((j, n), r) a) (λ f. includes_there (suc i) gs f j n r)
  where
    go : At (includes_in i g.contexts) e ((j, n), r) ⊎ ((f : ℕ) × (e ≡ length (includes_in i g.contexts) + f) × At (includes (suc i) gs) f ((j, n), r)) →
        ((f : ℕ) → At (includes (suc i) gs) f ((j, n), r) → (l : ℕ) × (j ≡ suc i + l) × IncludesAt gs l n r) →
        (l : ℕ) × (j ≡ i + l) × IncludesAt (g ∷ gs) l n r
    go (inl b) rest =
        let p = in_there i g.contexts e j n r b in
        let same = p.0 in
        (0, omega arith, record { grammar = g; there = refl; context = p.1.context; held = record { there = p.1.there; is = p.1.is }; by_reference = p.1.by_reference })
    go (inr b) rest =
        let p = rest b.0 b.2 in
        let same = p.1 in
        let h = p.2 in
        (suc p.0, omega arith, record { grammar = h.grammar; there = h.there; context = h.context; held = h.held; by_reference = h.by_reference })

pub includes_found : (i : ℕ) (gs : List Grammar) (l : ℕ) (n : Text) (r : Reference) → IncludesAt gs l n r → In (includes i gs) ((i + l, n), r)
includes_found i [] l n r h = absurd h.there
includes_found i (g ∷ gs) zero n r h =
    let e : i ≡ i + 0 = omega arith in
    let held = subst (λ (x : Grammar). ContextOf x n h.context) (sym h.there) h.held in
    let b = in_found i g.contexts held.there.place h.context n r held.there.there held.is h.by_reference in
    in_left (includes_in i g.contexts) (includes (suc i) gs) (subst (λ (x : ℕ). In (includes_in i g.contexts) ((x, n), r)) e b)
includes_found i (g ∷ gs) (suc l) n r h =
    let e : suc i + l ≡ i + suc l = omega arith in
    let b = includes_found (suc i) gs l n r (record { grammar = h.grammar; there = h.there; context = h.context; held = h.held; by_reference = h.by_reference }) in
    in_right (includes_in i g.contexts) (includes (suc i) gs) (subst (λ (x : ℕ). In (includes (suc i) gs) ((x, n), r)) e b)

-- ── contexts that pop by a backreference ──

is_pop_lem : (o : Operation) → is_pop o ≡ true → o ≡ pop
is_pop_lem (push rs) e = absurd (clash e)
is_pop_lem (set rs) e = absurd (clash e)
is_pop_lem pop e = refl
is_pop_lem none e = absurd (clash e)

-- one of the patterns pops and has a backreference
record PopsIn (ps : List Pattern) : Type 0 where
  pattern : Match
  there : In ps (match pattern)
  pops : pattern.operation ≡ pop
  refers : pattern.has_captures ≡ true

pops_later : (p : Pattern) (ps : List Pattern) → PopsIn ps → PopsIn (p ∷ ps)
pops_later p ps h = record { pattern = h.pattern; there = record { place = suc h.there.place; there = h.there.there }; pops = h.pops; refers = h.refers }

pops_there : (ps : List Pattern) → pops_by_backref ps ≡ true → PopsIn ps
pops_there [] e = absurd (clash e)
pops_there (include r ∷ ps) e = pops_later (include r) ps (pops_there ps e)
pops_there (match m ∷ ps) e = go (is_pop m.operation) refl e (pops_there ps)
  where
    here : is_pop m.operation ≡ true → (m.has_captures ≡ true) ⊎ (pops_by_backref ps ≡ true) → (pops_by_backref ps ≡ true → PopsIn ps) → PopsIn (match m ∷ ps)
    here u (inl f) rest = record { pattern = m; there = record { place = 0; there = refl }; pops = is_pop_lem m.operation u; refers = f }
    here u (inr f) rest = pops_later (match m) ps (rest f)

    go : (t : Bool) → is_pop m.operation ≡ t → cond t (m.has_captures || pops_by_backref ps) (pops_by_backref ps) ≡ true →
        (pops_by_backref ps ≡ true → PopsIn ps) → PopsIn (match m ∷ ps)
    go true u f rest = here u (or_cases m.has_captures (pops_by_backref ps) f) rest
    go false u f rest = pops_later (match m) ps (rest f)

pops_found : (ps : List Pattern) (k : ℕ) (m : Match) → At ps k (match m) → m.operation ≡ pop → m.has_captures ≡ true → pops_by_backref ps ≡ true
pops_found [] k m a p h = absurd a
pops_found (include r ∷ ps) zero m a p h = absurd (subst IsInclude a tt)
pops_found (include r ∷ ps) (suc k) m a p h = pops_found ps k m a p h
pops_found (match x ∷ ps) zero m a p h =
    let e : x ≡ m = ap (matched x) a in
    ap (λ t. cond t (x.has_captures || pops_by_backref ps) (pops_by_backref ps)) (ap (λ (y : Match). is_pop y.operation) e ∙ ap is_pop p)
    ∙ or_left x.has_captures (pops_by_backref ps) (ap (λ (y : Match). y.has_captures) e ∙ h)
pops_found (match x ∷ ps) (suc k) m a p h = go (is_pop x.operation) (pops_found ps k m a p h)
  where
    go : (t : Bool) → pops_by_backref ps ≡ true → cond t (x.has_captures || pops_by_backref ps) (pops_by_backref ps) ≡ true
    go true f = or_right x.has_captures (pops_by_backref ps) f
    go false f = f

pub told_pops : (c : Context) → pops_by_backref c.patterns ≡ true → PopsByBackref c
told_pops c e =
    let h = pops_there c.patterns e in
    record { pattern = h.pattern; there = h.there; pops = h.pops; refers = h.refers }

pub pops_told : (c : Context) → PopsByBackref c → pops_by_backref c.patterns ≡ true
pops_told c h = pops_found c.patterns h.there.place h.pattern h.there.there h.pops h.refers
