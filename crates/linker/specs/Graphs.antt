-- The two graphs that the marking routine runs on: names that lead on from a prototype, and linked includes.
use Rattle.std.specs.Prelude.{ℕ, suc, Bool, true, false, cond, ◌||◌, ◌↔◌, List, [], ◌∷◌, ◌++◌, length, Some, None, Option, ◌==◌}
use Rattle.std.specs.Str.{bytes_eq}
use Rattle.grammar.specs.Names.{Text, prototype}
use Rattle.grammar.specs.Places.{At, element_at}
use Rattle.grammar.specs.Grammars.{Reference, Operation, push, set, pop, none, Pattern, include, match, Context, Grammar}
use Rattle.graph.specs.Reached.{Marked, Marking}
use Rattle.graph.specs.Laws.{reversed}
use Rattle.linker.specs.Linking.{link}
use Rattle.linker.specs.Prototypes.{followed, FromPrototype}
use Rattle.linker.specs.Flags.{Chain}

abbrev pub later : Option ℕ → Option ℕ
later None = None
later (Some k) = Some (suc k)

abbrev pub joining : Option ℕ → Option ℕ → Option (ℕ × ℕ)
joining None to = None
joining (Some a) None = None
joining (Some a) (Some b) = Some (a, b)

-- ── names that lead on from a prototype: the places are the grammar's contexts in their order ──

-- the number of the context of that name
abbrev pub number_of : Text → List Context → Option ℕ
number_of n [] = None
number_of n (c ∷ cs) = cond (bytes_eq c.name n) (Some 0) (later (number_of n cs))

-- one pair for each name that leads on: the context's number and the name
abbrev pub names_from : ℕ → List Text → List (ℕ × Text)
names_from k [] = []
names_from k (n ∷ ns) = (k, n) ∷ names_from k ns

abbrev pub name_pairs : ℕ → List Context → List (ℕ × Text)
name_pairs k [] = []
name_pairs k (c ∷ cs) = names_from k (followed c) ++ name_pairs (suc k) cs

abbrev pub named_pair : List Context → Option (ℕ × Text) → Option (ℕ × ℕ)
named_pair cs None = None
named_pair cs (Some p) = joining (Some p.0) (number_of p.1 cs)

abbrev pub name_pair : Grammar → ℕ → Option (ℕ × ℕ)
name_pair g k = named_pair g.contexts (element_at (name_pairs 0 g.contexts) k)

-- marked at the start: the context `prototype`
abbrev pub prototype_marks : List Context → List Bool
prototype_marks [] = []
prototype_marks (c ∷ cs) = bytes_eq c.name prototype ∷ prototype_marks cs

-- what the routine marks on this graph is what is reached from the prototype
abbrev pub MarksWhatThePrototypeReaches : Type 0
MarksWhatThePrototypeReaches = (g : Grammar) (end : List Bool) →
    Marking (length g.contexts) (length (name_pairs 0 g.contexts)) (name_pair g) (prototype_marks g.contexts) end →
    (k : ℕ) (c : Context) → At g.contexts k c → Marked end k ↔ FromPrototype g c.name

-- ── linked includes: the places are all contexts, grammar by grammar ──

-- a context by its grammar's place and its name
abbrev pub Site : Type 0
Site = ℕ × Text

abbrev pub sites_in : ℕ → List Context → List Site
sites_in i [] = []
sites_in i (c ∷ cs) = (i, c.name) ∷ sites_in i cs

-- the contexts of the grammars, the first of which has place i
abbrev pub sites : ℕ → List Grammar → List Site
sites i [] = []
sites i (g ∷ gs) = sites_in i g.contexts ++ sites (suc i) gs

abbrev pub number_of_site : Site → List Site → Option ℕ
number_of_site s [] = None
number_of_site s (t ∷ ts) = cond (t.0 == s.0) (cond (bytes_eq t.1 s.1) (Some 0) (later (number_of_site s ts))) (later (number_of_site s ts))

abbrev pub includes_of : Site → List Pattern → List (Site × Reference)
includes_of s [] = []
includes_of s (include r ∷ ps) = (s, r) ∷ includes_of s ps
includes_of s (match m ∷ ps) = includes_of s ps

abbrev pub includes_in : ℕ → List Context → List (Site × Reference)
includes_in i [] = []
includes_in i (c ∷ cs) = includes_of (i, c.name) c.patterns ++ includes_in i cs

-- one pair for each include
abbrev pub includes : ℕ → List Grammar → List (Site × Reference)
includes i [] = []
includes i (g ∷ gs) = includes_in i g.contexts ++ includes (suc i) gs

abbrev pub number_of_link : Option Site → List Site → Option ℕ
number_of_link None ts = None
number_of_link (Some s) ts = number_of_site s ts

abbrev pub linked_pair : List Grammar → Option (Site × Reference) → Option (ℕ × ℕ)
linked_pair gs None = None
linked_pair gs (Some p) = joining (number_of_site p.0 (sites 0 gs)) (number_of_link (link gs p.0.0 p.1) (sites 0 gs))

-- from the including context to the one that the include leads to
abbrev pub include_pair : List Grammar → ℕ → Option (ℕ × ℕ)
include_pair gs k = linked_pair gs (element_at (includes 0 gs) k)

abbrev pub is_pop : Operation → Bool
is_pop (push rs) = false
is_pop (set rs) = false
is_pop pop = true
is_pop none = false

abbrev pub pops_by_backref : List Pattern → Bool
pops_by_backref [] = false
pops_by_backref (include r ∷ ps) = pops_by_backref ps
pops_by_backref (match m ∷ ps) = cond (is_pop m.operation) (m.has_captures || pops_by_backref ps) (pops_by_backref ps)

abbrev pub backref_marks_in : List Context → List Bool
backref_marks_in [] = []
backref_marks_in (c ∷ cs) = pops_by_backref c.patterns ∷ backref_marks_in cs

-- marked at the start: the contexts that pop by a backreference
abbrev pub backref_marks : List Grammar → List Bool
backref_marks [] = []
backref_marks (g ∷ gs) = backref_marks_in g.contexts ++ backref_marks gs

-- what the routine marks against the includes is what a chain leads from
abbrev pub MarksWhatAChainLeadsFrom : Type 0
MarksWhatAChainLeadsFrom = (gs : List Grammar) (end : List Bool) →
    Marking (length (sites 0 gs)) (length (includes 0 gs)) (reversed (include_pair gs)) (backref_marks gs) end →
    (k i : ℕ) (n : Text) → At (sites 0 gs) k (i, n) → Marked end k ↔ Chain gs i n
