-- Links computed: `link` answers where a reference leads.
use Rattle.std.specs.Prelude.{◌≡◌, ℕ, suc, Bool, true, false, cond, ◌&&◌, ◌↔◌, List, [], ◌∷◌, Some, None, Option}
use Rattle.std.specs.Str.{bytes_eq}
use Rattle.grammar.specs.Names.{Text, main}
use Rattle.grammar.specs.Places.{element_at}
use Rattle.grammar.specs.Grammars.{Scope, Reference, named, inline, by_scope, file, Context, Grammar}
use Rattle.linker.specs.Links.{plain_text, asked, within, Leads}

abbrev pub same_scope : Scope → Scope → Bool
same_scope [] [] = true
same_scope [] (b ∷ bs) = false
same_scope (a ∷ xs) [] = false
same_scope (a ∷ xs) (b ∷ bs) = bytes_eq a b && same_scope xs bs

abbrev pub is_of_scope : Scope → Grammar → Bool
is_of_scope s g = same_scope g.scope s

abbrev pub is_of_name : Text → Grammar → Bool
is_of_name n g = bytes_eq g.name n

abbrev pub or_here : Bool → Grammar → Option (ℕ × Grammar) → Option (ℕ × Grammar)
or_here here g (Some p) = Some (suc p.0, p.1)
or_here true g None = Some (0, g)
or_here false g None = None

-- the last grammar that passes, with its place
abbrev pub last_of : (Grammar → Bool) → List Grammar → Option (ℕ × Grammar)
last_of p [] = None
last_of p (g ∷ gs) = or_here (p g) g (last_of p gs)

abbrev pub has_named : List Context → Text → Bool
has_named [] n = false
has_named (c ∷ cs) n = cond (bytes_eq c.name n) true (has_named cs n)

-- the context named n of the grammar at j, if it is there
abbrev pub context_in : ℕ → Grammar → Text → Option (ℕ × Text)
context_in j g n = cond (has_named g.contexts n) (Some (j, n)) None

abbrev pub in_last : Option (ℕ × Grammar) → Text → Option (ℕ × Text)
in_last None n = None
in_last (Some p) n = context_in p.0 p.1 n

abbrev pub find : (Grammar → Bool) → List Grammar → Text → Option (ℕ × Text)
find p gs n = in_last (last_of p gs) n

abbrev pub or_else : Option (ℕ × Text) → Option (ℕ × Text) → Option (ℕ × Text)
or_else (Some t) other = Some t
or_else None other = other

abbrev pub with_plain_text_fallback : Bool → List Grammar → Option (ℕ × Text) → Option (ℕ × Text)
with_plain_text_fallback embed gs t = or_else t (cond embed (find (is_of_name plain_text) gs main) None)

abbrev pub home : ℕ → Option Grammar → Text → Option (ℕ × Text)
home i None n = None
home i (Some g) n = context_in i g n

-- the grammar's place and the context's name, or nowhere
abbrev pub link : List Grammar → ℕ → Reference → Option (ℕ × Text)
link gs i (named name) = home i (element_at gs i) (within name)
link gs i (inline name) = home i (element_at gs i) (within name)
link gs i (by_scope s sub embed) = with_plain_text_fallback embed gs (find (is_of_scope s) gs (asked sub))
link gs i (file name sub embed) = with_plain_text_fallback embed gs (find (is_of_name name) gs (asked sub))

abbrev pub Linker : Type 0
Linker = List Grammar → ℕ → Reference → Option (ℕ × Text)

-- it answers the grammar's place and the context's name that a reference leads to, and so none exactly if that leads nowhere
abbrev pub Tells : Linker → Type 0
Tells l = (gs : List Grammar) (i : ℕ) (r : Reference) (j : ℕ) (n : Text) → (l gs i r ≡ Some (j, n)) ↔ Leads gs i r j n

abbrev pub LinkTellsWhereReferencesLead : Type 0
LinkTellsWhereReferencesLead = Tells link
