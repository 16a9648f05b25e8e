-- What is marked against the linked includes is what a chain leads from.
use Rattle.std.proofs.Common.{◌≡◌, ℕ, ◌+◌, Bool, false, List, length, get_or, Some, None, Option, sym, refl, ap, ◌∙◌, subst, arith}
use Rattle.grammar.specs.Names.{Text}
use Rattle.grammar.specs.Places.{At, In, element_at}
use Rattle.grammar.specs.Grammars.{Reference, named, inline, by_scope, file, Context, Grammar, ContextOf}
use Rattle.grammar.proofs.Places.{at_same, at_below}
use Rattle.grammar.proofs.ContextNames.{one_context}
use Rattle.graph.specs.Reached.{Marked, Step}
use Rattle.graph.specs.Laws.{Path, here, on, Reaches}
use Rattle.graph.proofs.Lawful.{laws_of_marking}
use Rattle.linker.specs.Links.{Abroad, found, fallback, AtHome, Leads, OfScope, OfName, asked}
use Rattle.linker.specs.Linking.{link, LinkTellsWhereReferencesLead}
use Rattle.linker.specs.Flags.{PopsByBackref, Chain, ends, over}
use Rattle.linker.specs.Graphs.{joining, Site, sites, number_of_site, includes, number_of_link, linked_pair, include_pair, pops_by_backref, backref_marks, MarksWhatAChainLeadsFrom}
use Rattle.linker.proofs.Elements.{none_some, element_there, element_found, joining_some}
use Rattle.linker.proofs.Sites.{SiteOf, MarkedSite, sites_found, site_there, site_number, mark_there}
use Rattle.linker.proofs.Includes.{IncludesAt, includes_there, includes_found, told_pops, pops_told}

-- ── where a reference leads there is a context ──

at_home : (gs : List Grammar) (i : ℕ) (name : Text) (j : ℕ) (n : Text) → AtHome gs i name j n → SiteOf gs j n
at_home gs i name j n h = record {
  grammar = h.grammar;
  there = subst (λ (x : ℕ). At gs x h.grammar) (sym h.same) h.there;
  context = h.has.context;
  held = h.has.held;
}

abroad : (P : Grammar → Type 0) (gs : List Grammar) (sub : Text) (embed : Bool) (j : ℕ) (n : Text) → Abroad P gs sub embed j n → SiteOf gs j n
abroad P gs sub embed j n (found e f) =
    subst (SiteOf gs j) (sym e) (record { grammar = f.grammar; there = f.last.there; context = f.has.context; held = f.has.held })
abroad P gs sub embed j n (fallback b m e f) =
    subst (SiteOf gs j) (sym e) (record { grammar = f.grammar; there = f.last.there; context = f.has.context; held = f.has.held })

pub leads_site : (gs : List Grammar) (i : ℕ) (r : Reference) (j : ℕ) (n : Text) → Leads gs i r j n → SiteOf gs j n
leads_site gs i (named name) j n h = at_home gs i name j n h
leads_site gs i (inline name) j n h = at_home gs i name j n h
leads_site gs i (by_scope s sub embed) j n h = abroad (OfScope s) gs (asked sub) embed j n h
leads_site gs i (file name sub embed) j n h = abroad (OfName name) gs (asked sub) embed j n h

-- ── the places of the set: counted from 0 ──

-- the site at k
pub site_at : (gs : List Grammar) (k i : ℕ) (n : Text) → At (sites 0 gs) k (i, n) → (s : SiteOf gs i n) × (get_or (backref_marks gs) k false ≡ pops_by_backref s.context.patterns)
site_at gs k i n a =
    let p = mark_there 0 gs k i n a in
    let same = p.1 in
    let e : p.0 ≡ i = omega arith in
    let m = subst (λ (x : ℕ). MarkedSite gs x n (get_or (backref_marks gs) k false)) e p.2 in
    (m.site, m.marks)

-- the place of a site
pub place_of : (gs : List Grammar) (j : ℕ) (n : Text) → SiteOf gs j n → In (sites 0 gs) (j, n)
place_of gs j n s =
    let e : 0 + j ≡ j = omega arith in
    subst (λ (x : ℕ). In (sites 0 gs) (x, n)) e (sites_found 0 gs j n s)

-- ── one pair ──

number_link : (o : Option Site) (ts : List Site) (b : ℕ) → number_of_link o ts ≡ Some b → (t : Site) × (o ≡ Some t) × (number_of_site t ts ≡ Some b)
number_link None ts b e = absurd (none_some e)
number_link (Some t) ts b e = (t, refl, e)

-- what the pair of an include joins
record Joined (gs : List Grammar) (o : Option (Site × Reference)) (a b : ℕ) : Type 0 where
  from : Site
  reference : Reference
  to : Site
  told : o ≡ Some (from, reference)
  from_number : number_of_site from (sites 0 gs) ≡ Some a
  linked : link gs from.0 reference ≡ Some to
  to_number : number_of_site to (sites 0 gs) ≡ Some b

linked_pair_lem : (gs : List Grammar) (o : Option (Site × Reference)) (a b : ℕ) → linked_pair gs o ≡ Some (a, b) → Joined gs o a b
linked_pair_lem gs None a b e = absurd (none_some e)
linked_pair_lem gs (Some p) a b e =
    let j = joining_some (number_of_site p.0 (sites 0 gs)) (number_of_link (link gs p.0.0 p.1) (sites 0 gs)) a b e in
    let t = number_link (link gs p.0.0 p.1) (sites 0 gs) b j.1 in
    record { from = p.0; reference = p.1; to = t.0; told = refl; from_number = j.0; linked = t.1; to_number = t.2 }

module _ (tells : LinkTellsWhereReferencesLead) (gs : List Grammar) where
  abbrev StepsByInclude : ℕ → ℕ → Type 0
  StepsByInclude = Step (length (sites 0 gs)) (length (includes 0 gs)) (include_pair gs)

  abbrev PathByIncludes : ℕ → ℕ → Type 0
  PathByIncludes = Path (length (sites 0 gs)) (length (includes 0 gs)) (include_pair gs)

  abbrev ReachesByIncludes : ℕ → Type 0
  ReachesByIncludes = Reaches (length (sites 0 gs)) (length (includes 0 gs)) (include_pair gs) (backref_marks gs)

  -- the context named n of the grammar at i includes by a reference that leads to the site at b
  record Onto (i : ℕ) (n : Text) (b : ℕ) : Type 0 where
    reference : Reference
    to_grammar : ℕ
    to_name : Text
    includes_by : IncludesAt gs i n reference
    leads : Leads gs i reference to_grammar to_name
    to_there : At (sites 0 gs) b (to_grammar, to_name)

  step_onto : (k b : ℕ) → StepsByInclude k b → (i : ℕ) (n : Text) → At (sites 0 gs) k (i, n) → Onto i n b
  step_onto k b s i n a =
      let j = linked_pair_lem gs (element_at (includes 0 gs) s.number) k b s.joins in
      let f = j.from in
      let r = j.reference in
      let t = j.to in
      let same : f ≡ (i, n) = at_same (sites 0 gs) k f (i, n) (site_there f (sites 0 gs) k j.from_number) a in
      let at : At (includes 0 gs) s.number (f, r) = element_there (includes 0 gs) s.number (f, r) j.told in
      let p = includes_there 0 gs s.number i n r (subst (λ (x : Site). At (includes 0 gs) s.number (x, r)) same at) in
      let q = p.1 in
      let e : p.0 ≡ i = omega arith in
      record {
        reference = r;
        to_grammar = t.0;
        to_name = t.1;
        includes_by = subst (λ (x : ℕ). IncludesAt gs x n r) e p.2;
        leads = (tells gs i r t.0 t.1).0 (subst (λ (x : Site). link gs x.0 r ≡ Some t) same j.linked);
        to_there = site_there t (sites 0 gs) b j.to_number;
      }

  onto_step : (k b i : ℕ) (n : Text) (r : Reference) (j : ℕ) (m : Text) → At (sites 0 gs) k (i, n) → IncludesAt gs i n r → Leads gs i r j m → At (sites 0 gs) b (j, m) → StepsByInclude k b
  onto_step k b i n r j m from h l to =
      let p = includes_found 0 gs i n r h in
      let e : 0 + i ≡ i = omega arith in
      let there : At (includes 0 gs) p.place ((i, n), r) = subst (λ (x : ℕ). At (includes 0 gs) p.place ((x, n), r)) e p.there in
      record {
        number = p.place;
        counted = at_below (includes 0 gs) p.place ((i, n), r) there;
        joins = ap (linked_pair gs) (element_found (includes 0 gs) p.place ((i, n), r) there)
            ∙ ap (λ (x : Option ℕ). joining x (number_of_link (link gs i r) (sites 0 gs))) (site_number 0 gs k i n from)
            ∙ ap (λ (x : Option Site). joining (Some k) (number_of_link x (sites 0 gs))) ((tells gs i r j m).1 l)
            ∙ ap (joining (Some k)) (site_number 0 gs b j m to);
        from_inside = at_below (sites 0 gs) k (i, n) from;
        to_inside = at_below (sites 0 gs) b (j, m) to;
      }

  -- ── paths and chains ──

  marked_ends : (k i : ℕ) (n : Text) → At (sites 0 gs) k (i, n) → Marked (backref_marks gs) k → Chain gs i n
  marked_ends k i n a m =
      let p = site_at gs k i n a in
      let s = p.0 in
      ends s.grammar s.context s.there s.held (told_pops s.context (sym p.1 ∙ m))

  ends_marked : (k i : ℕ) (n : Text) → At (sites 0 gs) k (i, n) → (g : Grammar) (c : Context) → At gs i g → ContextOf g n c → PopsByBackref c → Marked (backref_marks gs) k
  ends_marked k i n a g c there held pops =
      let p = site_at gs k i n a in
      let s = p.0 in
      let same_grammar = at_same gs i g s.grammar there s.there in
      let same-context = one_context s.grammar n c s.context (subst (λ (x : Grammar). ContextOf x n c) same_grammar held) s.held in
      p.1 ∙ pops_told s.context (subst PopsByBackref same-context pops)

  path_chain : (k b : ℕ) → PathByIncludes k b → Marked (backref_marks gs) b → (i : ℕ) (n : Text) → At (sites 0 gs) k (i, n) → Chain gs i n
  path_chain k b here m i n a = marked_ends k i n a m
  path_chain k b (on {j = x} s p) m i n a =
      let o = step_onto k x s i n a in
      let h = o.includes_by in
      over h.grammar h.context o.reference o.to_grammar o.to_name h.there h.held h.by_reference o.leads
      (path_chain x b p m o.to_grammar o.to_name o.to_there)

  chain_reaches : (i : ℕ) (n : Text) → Chain gs i n → (k : ℕ) → At (sites 0 gs) k (i, n) → ReachesByIncludes k
  chain_reaches i n (ends g c there held pops) k a = record { place = k; marked = ends_marked k i n a g c there held pops; path = here }
  chain_reaches i n (over g c r j m there held incl l rest) k a =
      let t = place_of gs j m (leads_site gs i r j m l) in
      let f = chain_reaches j m rest t.place t.there in
      let h : IncludesAt gs i n r = record { grammar = g; there = there; context = c; held = held; by_reference = incl } in
      record { place = f.place; marked = f.marked; path = on (onto_step k t.place i n r j m a h l t.there) f.path }

pub chains_marked : LinkTellsWhereReferencesLead → MarksWhatAChainLeadsFrom
chains_marked tells gs end m k i n a =
    let law = laws_of_marking.reverse (length (sites 0 gs)) (length (includes 0 gs)) (include_pair gs) (backref_marks gs) end m k in
    (λ h. let f = law.0 h in path_chain tells gs k f.place f.path f.marked i n a, λ c. law.1 (chain_reaches tells gs i n c k a))
