-- Sites: each context of the grammars stands at one place among them, and so does its mark.
use Rattle.std.proofs.Common.{◌≡◌, ℕ, zero, suc, ◌+◌, Bool, true, false, cond, eqb, ◌⊎◌, List, [], ◌∷◌, ◌++◌, length, get_or, Some, Option, sym, refl, ap, ◌∙◌, subst, inl, inr, arith}
use borrow.Author.Tests.{clash}
use Rattle.std.proofs.lemmas.Slice.Eq.{bytes_eq-Decides}
use Rattle.std.proofs.lemmas.Bool.{eqb-true, eq-eqb}
use Rattle.std.specs.Str.{bytes_eq}
use Rattle.grammar.specs.Names.{Text}
use Rattle.grammar.specs.Places.{At, In}
use Rattle.grammar.specs.Grammars.{Context, Grammar, ContextOf}
use Rattle.grammar.proofs.Places.{in_left, in_right, at_either}
use Rattle.grammar.proofs.ContextNames.{one_place}
use Rattle.linker.specs.Graphs.{later, Site, sites_in, sites, number_of_site, pops_by_backref, backref_marks_in, backref_marks}
use Rattle.linker.proofs.Elements.{none_some, some_same, later_some}

-- the grammar at l has a context named n
pub record SiteOf (gs : List Grammar) (l : ℕ) (n : Text) : Type 0 where
  pub grammar : Grammar
  pub there : At gs l grammar
  pub context : Context
  pub held : ContextOf grammar n context

-- ── where sites stand ──

sites_in_there : (i : ℕ) (cs : List Context) (k j : ℕ) (n : Text) → At (sites_in i cs) k (j, n) → (i ≡ j) × ((c : Context) × At cs k c × (c.name ≡ n))
sites_in_there i [] k j n a = absurd a
sites_in_there i (c ∷ cs) zero j n a = (ap (λ (s : Site). s.0) a, (c, refl, ap (λ (s : Site). s.1) a))
sites_in_there i (c ∷ cs) (suc k) j n a = sites_in_there i cs k j n a

sites_in_found : (i : ℕ) (cs : List Context) (k : ℕ) (c : Context) (n : Text) → At cs k c → c.name ≡ n → At (sites_in i cs) k (i, n)
sites_in_found i [] k c n a e = absurd a
sites_in_found i (d ∷ cs) zero c n a e = ap (λ (x : Text). (i, x)) (ap (λ (x : Context). x.name) a ∙ e)
sites_in_found i (d ∷ cs) (suc k) c n a e = sites_in_found i cs k c n a e

-- the site of a context, with the place of its grammar counted from the first
pub sites_there : (i : ℕ) (gs : List Grammar) (k j : ℕ) (n : Text) → At (sites i gs) k (j, n) → (l : ℕ) × (j ≡ i + l) × SiteOf gs l n
sites_there i [] k j n a = absurd a
sites_there i (g ∷ gs) k j n a = go (at_either (sites_in i g.contexts) (sites (suc i) gs) k (j, n) a) (λ f. sites_there (suc i) gs f j n)
  where
    go : At (sites_in i g.contexts) k (j, n) ⊎ ((f : ℕ) × (k ≡ length (sites_in i g.contexts) + f) × At (sites (suc i) gs) f (j, n)) →
        ((f : ℕ) → At (sites (suc i) gs) f (j, n) → (l : ℕ) × (j ≡ suc i + l) × SiteOf gs l n) →
        (l : ℕ) × (j ≡ i + l) × SiteOf (g ∷ gs) l n
    go (inl b) rest =
        let p = sites_in_there i g.contexts k j n b in
        let same = p.0 in
        (0, omega arith, record { grammar = g; there = refl; context = p.1.0; held = record { there = record { place = k; there = p.1.1 }; is = p.1.2 } })
    go (inr b) rest =
        let p = rest b.0 b.2 in
        let same = p.1 in
        (suc p.0, omega arith, record { grammar = p.2.grammar; there = p.2.there; context = p.2.context; held = p.2.held })

pub sites_found : (i : ℕ) (gs : List Grammar) (l : ℕ) (n : Text) → SiteOf gs l n → In (sites i gs) (i + l, n)
sites_found i [] l n s = absurd s.there
sites_found i (g ∷ gs) zero n s =
    let e : i ≡ i + 0 = omega arith in
    let h = subst (λ (x : Grammar). ContextOf x n s.context) (sym s.there) s.held in
    let b : In (sites_in i g.contexts) (i, n) = record { place = h.there.place; there = sites_in_found i g.contexts h.there.place s.context n h.there.there h.is } in
    in_left (sites_in i g.contexts) (sites (suc i) gs) (subst (λ (x : ℕ). In (sites_in i g.contexts) (x, n)) e b)
sites_found i (g ∷ gs) (suc l) n s =
    let e : suc i + l ≡ i + suc l = omega arith in
    let b = sites_found (suc i) gs l n (record { grammar = s.grammar; there = s.there; context = s.context; held = s.held }) in
    in_right (sites_in i g.contexts) (sites (suc i) gs) (subst (λ (x : ℕ). In (sites (suc i) gs) (x, n)) e b)

-- ── a site stands at one place ──

pub sites_once : (i : ℕ) (gs : List Grammar) (k l j : ℕ) (n : Text) → At (sites i gs) k (j, n) → At (sites i gs) l (j, n) → k ≡ l
sites_once i [] k l j n a b = absurd a
sites_once i (g ∷ gs) k l j n a b =
    go (at_either (sites_in i g.contexts) (sites (suc i) gs) k (j, n) a) (at_either (sites_in i g.contexts) (sites (suc i) gs) l (j, n) b)
    (λ x y. sites_once (suc i) gs x y j n)
  where
    go : At (sites_in i g.contexts) k (j, n) ⊎ ((f : ℕ) × (k ≡ length (sites_in i g.contexts) + f) × At (sites (suc i) gs) f (j, n)) →
        At (sites_in i g.contexts) l (j, n) ⊎ ((f : ℕ) × (l ≡ length (sites_in i g.contexts) + f) × At (sites (suc i) gs) f (j, n)) →
        ((x y : ℕ) → At (sites (suc i) gs) x (j, n) → At (sites (suc i) gs) y (j, n) → x ≡ y) → k ≡ l
    go (inl p) (inl q) rest =
        let c = sites_in_there i g.contexts k j n p in
        let d = sites_in_there i g.contexts l j n q in
        one_place g.contexts g.in_order k l c.1.0 d.1.0 c.1.1 d.1.1 (c.1.2 ∙ sym d.1.2)
    go (inl p) (inr q) rest =
        let here = (sites_in_there i g.contexts k j n p).0 in
        let other = (sites_there (suc i) gs q.0 j n q.2).1 in
        absurd (omega arith)
    go (inr p) (inl q) rest =
        let here = (sites_in_there i g.contexts l j n q).0 in
        let other = (sites_there (suc i) gs p.0 j n p.2).1 in
        absurd (omega arith)
    go (inr p) (inr q) rest = p.1 ∙ ap (λ (x : ℕ). length (sites_in i g.contexts) + x) (rest p.0 q.0 p.2 q.2) ∙ sym q.1

-- ── the number of a site ──

-- the two tests of `number_of_site` in one
abbrev tells : Bool → Bool → Option ℕ → Option ℕ
tells a b rest = cond a (cond b (Some 0) (later rest)) (later rest)

pub site_there : (s : Site) (ts : List Site) (k : ℕ) → number_of_site s ts ≡ Some k → At ts k s
site_there s [] k e = absurd (none_some e)
site_there s (t ∷ ts) k e = go (eqb t.0 s.0) (bytes_eq t.1 s.1) refl refl k e (site_there s ts)
  where
    after : (k : ℕ) → later (number_of_site s ts) ≡ Some k → ((l : ℕ) → number_of_site s ts ≡ Some l → At ts l s) → At (t ∷ ts) k s
    after zero f rest = let z = (later_some (number_of_site s ts) zero f).1 in absurd (omega arith)
    after (suc k) f rest =
        let l = later_some (number_of_site s ts) (suc k) f in
        let z = l.1 in
        let same : l.0 ≡ k = omega arith in
        rest k (l.2 ∙ ap Some same)

    go : (a b : Bool) → eqb t.0 s.0 ≡ a → bytes_eq t.1 s.1 ≡ b → (k : ℕ) → tells a b (number_of_site s ts) ≡ Some k →
        ((l : ℕ) → number_of_site s ts ≡ Some l → At ts l s) → At (t ∷ ts) k s
    go true true u v zero f rest = λ i. (eqb-true t.0 s.0 u i, (bytes_eq-Decides t.1 s.1).0 v i)
    go true true u v (suc k) f rest = let z = some_same 0 (suc k) f in absurd (omega arith)
    go true false u v k f rest = after k f rest
    go false b u v k f rest = after k f rest

-- a site that is there has a number
site_found : (s : Site) (ts : List Site) (k : ℕ) → At ts k s → (l : ℕ) × (number_of_site s ts ≡ Some l)
site_found s [] k a = absurd a
site_found s (t ∷ ts) k a = go (eqb t.0 s.0) (bytes_eq t.1 s.1) refl refl k a (site_found s ts)
  where
    go : (a b : Bool) → eqb t.0 s.0 ≡ a → bytes_eq t.1 s.1 ≡ b → (k : ℕ) → At (t ∷ ts) k s →
        ((l : ℕ) → At ts l s → (m : ℕ) × (number_of_site s ts ≡ Some m)) → (m : ℕ) × (tells a b (number_of_site s ts) ≡ Some m)
    go true true u v k f rest = (0, refl)
    go true false u v zero f rest = absurd (clash (sym v ∙ (bytes_eq-Decides t.1 s.1).1 (ap (λ (x : Site). x.1) f)))
    go true false u v (suc k) f rest = let m = rest k f in (suc m.0, ap later m.1)
    go false b u v zero f rest = absurd (clash (sym u ∙ eq-eqb t.0 s.0 (ap (λ (x : Site). x.0) f)))
    go false b u v (suc k) f rest = let m = rest k f in (suc m.0, ap later m.1)

-- the site at k has number k
pub site_number : (i : ℕ) (gs : List Grammar) (k j : ℕ) (n : Text) → At (sites i gs) k (j, n) → number_of_site (j, n) (sites i gs) ≡ Some k
site_number i gs k j n a =
    let f = site_found (j, n) (sites i gs) k a in
    f.1 ∙ ap Some (sites_once i gs f.0 k j n (site_there (j, n) (sites i gs) f.0 f.1) a)

-- ── the mark of a site ──

-- among joined lists: the mark is that of the context at this place, or stands in the second list
mark_joined : (i : ℕ) (cs : List Context) (ts : List Site) (marks : List Bool) (k : ℕ) (s : Site) → At (sites_in i cs ++ ts) k s →
    ((c : Context) × At cs k c × (◌≡◌ {A = Site} (i, c.name) s) × (get_or (backref_marks_in cs ++ marks) k false ≡ pops_by_backref c.patterns))
    ⊎ ((l : ℕ) × At ts l s × (get_or (backref_marks_in cs ++ marks) k false ≡ get_or marks l false))
mark_joined i [] ts marks k s a = inr (k, a, refl)
mark_joined i (c ∷ cs) ts marks zero s a = inl (c, refl, a, refl)
mark_joined i (c ∷ cs) ts marks (suc k) s a = mark_joined i cs ts marks k s a

-- the site's context is told by its mark
pub record MarkedSite (gs : List Grammar) (l : ℕ) (n : Text) (mark : Bool) : Type 0 where
  pub site : SiteOf gs l n
  pub marks : mark ≡ pops_by_backref site.context.patterns

pub mark_there : (i : ℕ) (gs : List Grammar) (k j : ℕ) (n : Text) → At (sites i gs) k (j, n) →
    (l : ℕ) × (j ≡ i + l) × MarkedSite gs l n (get_or (backref_marks gs) k false)
mark_there i [] k j n a = absurd a
mark_there i (g ∷ gs) k j n a = go (mark_joined i g.contexts (sites (suc i) gs) (backref_marks gs) k (j, n) a) (λ f. mark_there (suc i) gs f j n)
  where
    go : ((c : Context) × At g.contexts k c × (◌≡◌ {A = Site} (i, c.name) (j, n)) × (get_or (backref_marks (g ∷ gs)) k false ≡ pops_by_backref c.patterns))
        ⊎ ((l : ℕ) × At (sites (suc i) gs) l (j, n) × (get_or (backref_marks (g ∷ gs)) k false ≡ get_or (backref_marks gs) l false)) →
        ((f : ℕ) → At (sites (suc i) gs) f (j, n) → (l : ℕ) × (j ≡ suc i + l) × MarkedSite gs l n (get_or (backref_marks gs) f false)) →
        (l : ℕ) × (j ≡ i + l) × MarkedSite (g ∷ gs) l n (get_or (backref_marks (g ∷ gs)) k false)
    go (inl p) rest =
        let same = ap (λ (s : Site). s.0) p.2 in
        let held : ContextOf g n p.0 = record { there = record { place = k; there = p.1 }; is = ap (λ (s : Site). s.1) p.2 } in
        (0, omega arith, record { site = record { grammar = g; there = refl; context = p.0; held = held }; marks = p.3 })
    go (inr p) rest =
        let q = rest p.0 p.1 in
        let same = q.1 in
        let s = q.2.site in
        (suc q.0, omega arith, record { site = record { grammar = s.grammar; there = s.there; context = s.context; held = s.held }; marks = p.2 ∙ q.2.marks })
