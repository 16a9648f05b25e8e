-- What is marked on the graph of names is what is reached from the prototype.
use Rattle.std.proofs.Common.{◌≡◌, ℕ, zero, suc, ◌+◌, Bool, true, false, cond, ◌⊎◌, List, [], ◌∷◌, length, Some, None, Option, sym, refl, ap, ◌∙◌, subst, inl, inr, arith}
use borrow.Author.Tests.{clash}
use Rattle.std.proofs.lemmas.Slice.Eq.{bytes_eq-Decides}
use Rattle.std.specs.Str.{bytes_eq}
use Rattle.grammar.specs.Names.{Text, prototype}
use Rattle.grammar.specs.Places.{At, In, element_at}
use Rattle.grammar.specs.Grammars.{Context, Grammar, ContextOf, ordered}
use Rattle.grammar.proofs.Places.{at_same, at_below, in_left, in_right, at_either}
use Rattle.grammar.proofs.ContextNames.{one_place}
use Rattle.graph.specs.Reached.{Marked, Step, Reached, given, by}
use Rattle.linker.specs.Graphs.{later, joining, number_of, names_from, name_pairs, named_pair, name_pair, prototype_marks, MarksWhatThePrototypeReaches}
use Rattle.linker.specs.Prototypes.{followed, FromPrototype, itself, onward}
use Rattle.linker.proofs.Elements.{none_some, some_same, element_there, element_found, later_some, joining_some}

-- ── the number of a context ──

-- some context of that name stands at its number
pub number_there : (n : Text) (cs : List Context) (k : ℕ) → number_of n cs ≡ Some k → (c : Context) × At cs k c × (c.name ≡ n)
number_there n [] k e = absurd (none_some e)
number_there n (c ∷ cs) k e = go (bytes_eq c.name n) refl k e (number_there n cs)
  where
    go : (t : Bool) → bytes_eq c.name n ≡ t → (k : ℕ) → cond t (Some 0) (later (number_of n cs)) ≡ Some k →
        ((l : ℕ) → number_of n cs ≡ Some l → (d : Context) × At cs l d × (d.name ≡ n)) → (d : Context) × At (c ∷ cs) k d × (d.name ≡ n)
    go true u zero f rest = (c, refl, (bytes_eq-Decides c.name n).0 u)
    go true u (suc k) f rest = let z = some_same 0 (suc k) f in absurd (omega arith)
    go false u zero f rest = let l = later_some (number_of n cs) zero f in let z = l.1 in absurd (omega arith)
    go false u (suc k) f rest =
        let l = later_some (number_of n cs) (suc k) f in
        let z = l.1 in
        let same : l.0 ≡ k = omega arith in
        rest k (l.2 ∙ ap Some same)

-- a name that is there has a number
number_found : (n : Text) (cs : List Context) (k : ℕ) (c : Context) → At cs k c → c.name ≡ n → (l : ℕ) × (number_of n cs ≡ Some l)
number_found n [] k c a e = absurd a
number_found n (d ∷ cs) k c a e = go (bytes_eq d.name n) refl k a (λ l b. number_found n cs l c b e)
  where
    go : (t : Bool) → bytes_eq d.name n ≡ t → (k : ℕ) → At (d ∷ cs) k c →
        ((l : ℕ) → At cs l c → (m : ℕ) × (number_of n cs ≡ Some m)) → (m : ℕ) × (cond t (Some 0) (later (number_of n cs)) ≡ Some m)
    go true u k b rest = (0, refl)
    go false u zero b rest = absurd (clash (sym u ∙ (bytes_eq-Decides d.name n).1 (ap (λ (x : Context). x.name) b ∙ e)))
    go false u (suc k) b rest = let m = rest k b in (suc m.0, ap later m.1)

-- contexts in order: the context at k has number k
pub number_of_lem : (n : Text) (cs : List Context) (k : ℕ) (c : Context) → ordered cs ≡ true → At cs k c → c.name ≡ n → number_of n cs ≡ Some k
number_of_lem n cs k c o a e =
    let f = number_found n cs k c a e in
    let d = number_there n cs f.0 f.1 in
    f.1 ∙ ap Some (one_place cs o f.0 k d.0 c d.1 a (d.2 ∙ sym e))

-- ── the pairs ──

names_there : (k : ℕ) (ns : List Text) (e j : ℕ) (n : Text) → At (names_from k ns) e (j, n) → (k ≡ j) × At ns e n
names_there k [] e j n a = absurd a
names_there k (m ∷ ns) zero j n a = (ap (λ (p : ℕ × Text). p.0) a, ap (λ (p : ℕ × Text). p.1) a)
names_there k (m ∷ ns) (suc e) j n a = names_there k ns e j n a

names_found : (k : ℕ) (ns : List Text) (e : ℕ) (n : Text) → At ns e n → At (names_from k ns) e (k, n)
names_found k [] e n a = absurd a
names_found k (m ∷ ns) zero n a = ap (λ (x : Text). (k, x)) a
names_found k (m ∷ ns) (suc e) n a = names_found k ns e n a

-- the name leads on from the context at l
record LeadsOn (cs : List Context) (l : ℕ) (n : Text) : Type 0 where
  from : Context
  there : At cs l from
  leads : In (followed from) n

pairs_there : (i : ℕ) (cs : List Context) (e j : ℕ) (n : Text) → At (name_pairs i cs) e (j, n) → (l : ℕ) × (j ≡ i + l) × LeadsOn cs l n
pairs_there i [] e j n a = absurd a
pairs_there i (c ∷ cs) e j n a = go (at_either (names_from i (followed c)) (name_pairs (suc i) cs) e (j, n) a) (λ f. pairs_there (suc i) cs f j n)
  where
    go : At (names_from i (followed c)) e (j, n) ⊎ ((f : ℕ) × (e ≡ length (names_from i (followed c)) + f) × At (name_pairs (suc i) cs) f (j, n)) →
        ((f : ℕ) → At (name_pairs (suc i) cs) f (j, n) → (l : ℕ) × (j ≡ suc i + l) × LeadsOn cs l n) →
        (l : ℕ) × (j ≡ i + l) × LeadsOn (c ∷ cs) l n
    go (inl b) rest =
        let p = names_there i (followed c) e j n b in
        let same = p.0 in
        (0, omega arith, record { from = c; there = refl; leads = record { place = e; there = p.1 } })
    go (inr b) rest =
        let p = rest b.0 b.2 in
        let same = p.1 in
        (suc p.0, omega arith, record { from = p.2.from; there = p.2.there; leads = p.2.leads })

pairs_found : (i : ℕ) (cs : List Context) (l : ℕ) (c : Context) (n : Text) → At cs l c → In (followed c) n → In (name_pairs i cs) (i + l, n)
pairs_found i [] l c n a f = absurd a
pairs_found i (d ∷ cs) zero c n a f =
    let e : i ≡ i + 0 = omega arith in
    let g = subst (λ (x : Context). In (followed x) n) (sym a) f in
    let h : In (names_from i (followed d)) (i, n) = record { place = g.place; there = names_found i (followed d) g.place n g.there } in
    in_left (names_from i (followed d)) (name_pairs (suc i) cs) (subst (λ (x : ℕ). In (names_from i (followed d)) (x, n)) e h)
pairs_found i (d ∷ cs) (suc l) c n a f =
    let e : suc i + l ≡ i + suc l = omega arith in
    in_right (names_from i (followed d)) (name_pairs (suc i) cs) (subst (λ (x : ℕ). In (name_pairs (suc i) cs) (x, n)) e (pairs_found (suc i) cs l c n a f))

named_pair_lem : (cs : List Context) (o : Option (ℕ × Text)) (a b : ℕ) → named_pair cs o ≡ Some (a, b) → (n : Text) × (o ≡ Some (a, n)) × (number_of n cs ≡ Some b)
named_pair_lem cs None a b e = absurd (none_some e)
named_pair_lem cs (Some p) a b e =
    let j = joining_some (Some p.0) (number_of p.1 cs) a b e in
    (p.1, ap (λ (x : ℕ). Some (x, p.1)) (some_same p.0 a j.0), j.1)

-- ── the marks at the start ──

start_there : (cs : List Context) (k : ℕ) → Marked (prototype_marks cs) k → (c : Context) × At cs k c × (c.name ≡ prototype)
start_there [] k m = absurd (clash m)
start_there (c ∷ cs) zero m = (c, refl, (bytes_eq-Decides c.name prototype).0 m)
start_there (c ∷ cs) (suc k) m = start_there cs k m

start_found : (cs : List Context) (k : ℕ) (c : Context) → At cs k c → c.name ≡ prototype → Marked (prototype_marks cs) k
start_found [] k c a e = absurd a
start_found (d ∷ cs) zero c a e = (bytes_eq-Decides d.name prototype).1 (ap (λ (x : Context). x.name) a ∙ e)
start_found (d ∷ cs) (suc k) c a e = start_found cs k c a e

-- ── what is reached ──

context_at : (g : Grammar) (k : ℕ) (c : Context) → At g.contexts k c → ContextOf g c.name c
context_at g k c a = record { there = record { place = k; there = a }; is = refl }

module _ (g : Grammar) where
  abbrev cs : List Context
  cs = g.contexts

  abbrev StepsByName : ℕ → ℕ → Type 0
  StepsByName = Step (length cs) (length (name_pairs 0 cs)) (name_pair g)

  abbrev ReachedByNames : ℕ → Type 0
  ReachedByNames = Reached (length cs) (length (name_pairs 0 cs)) (name_pair g) (prototype_marks cs)

  -- a step goes from a context to one whose name leads on from it
  step_leads : (i k : ℕ) → StepsByName i k → (c : Context) → At cs k c → LeadsOn cs i c.name
  step_leads i k s c a =
      let p = named_pair_lem cs (element_at (name_pairs 0 cs) s.number) i k s.joins in
      let q = pairs_there 0 cs s.number i p.0 (element_there (name_pairs 0 cs) s.number (i, p.0) p.1) in
      let d = number_there p.0 cs k p.2 in
      let same = q.1 in
      let place : q.0 ≡ i = omega arith in
      let name : p.0 ≡ c.name = sym d.2 ∙ ap (λ (x : Context). x.name) (at_same cs k d.0 c d.1 a) in
      subst (λ (x : Text). LeadsOn cs i x) name (subst (λ (x : ℕ). LeadsOn cs x p.0) place q.2)

  leads_step : (i k : ℕ) (b c : Context) → At cs i b → In (followed b) c.name → At cs k c → StepsByName i k
  leads_step i k b c from f to =
      let p = pairs_found 0 cs i b c.name from f in
      let e : 0 + i ≡ i = omega arith in
      let there : At (name_pairs 0 cs) p.place (i, c.name) = subst (λ (x : ℕ). At (name_pairs 0 cs) p.place (x, c.name)) e p.there in
      record {
        number = p.place;
        counted = at_below (name_pairs 0 cs) p.place (i, c.name) there;
        joins = ap (named_pair cs) (element_found (name_pairs 0 cs) p.place (i, c.name) there) ∙ ap (joining (Some i)) (number_of_lem c.name cs k c g.in_order to refl);
        from_inside = at_below cs i b from;
        to_inside = at_below cs k c to;
      }

  reached_from_prototype : (k : ℕ) → ReachedByNames k → (c : Context) → At cs k c → FromPrototype g c.name
  reached_from_prototype k (given m) c a =
      let d = start_there cs k m in
      let e : prototype ≡ c.name = sym d.2 ∙ ap (λ (x : Context). x.name) (at_same cs k d.0 c d.1 a) in
      subst (FromPrototype g) e (itself (record { there = record { place = k; there = d.1 }; is = d.2 }))
  reached_from_prototype k (by {i = i} s r) c a =
      let l = step_leads i k s c a in
      onward (reached_from_prototype i r l.from l.there) (context_at g i l.from l.there) l.leads (context_at g k c a)

  from_prototype_reached : (n : Text) → FromPrototype g n → (k : ℕ) (c : Context) → At cs k c → c.name ≡ n → ReachedByNames k
  from_prototype_reached n (itself h) k c a e = given (start_found cs k c a e)
  from_prototype_reached n (onward {m = m} {c = b} f from l to) k c a e =
      let r = from_prototype_reached m f from.there.place b from.there.there from.is in
      by (leads_step from.there.place k b c from.there.there (subst (λ (x : Text). In (followed b) x) (sym e) l) a) r

pub names_marked : MarksWhatThePrototypeReaches
names_marked g end m k c a =
    (λ h. reached_from_prototype g k (m.sound k h) c a, λ f. m.whole k (from_prototype_reached g c.name f k c a refl))
