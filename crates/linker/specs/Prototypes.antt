-- Which contexts have the prototype of their grammar.
use Rattle.std.specs.Prelude.{◌≡◌, ℕ, true, List, [], ◌∷◌, ◌++◌}
use Rattle.grammar.specs.Names.{Text, prototype}
use Rattle.grammar.specs.Places.{At, In}
use Rattle.grammar.specs.Grammars.{Reference, named, inline, by_scope, file, Pattern, include, match, operands, Context, Grammar, ContextOf}

-- the names that references of push and set give, as they are written
abbrev pub pushed_names : List Reference → List Text
pushed_names [] = []
pushed_names (named n ∷ rs) = n ∷ pushed_names rs
pushed_names (inline n ∷ rs) = n ∷ pushed_names rs
pushed_names (by_scope s sub embed ∷ rs) = pushed_names rs
pushed_names (file n sub embed ∷ rs) = pushed_names rs

-- the name that an include gives, as it is written; an inline one is not followed
abbrev pub included_name : Reference → List Text
included_name (named n) = n ∷ []
included_name (inline n) = []
included_name (by_scope s sub embed) = []
included_name (file n sub embed) = []

abbrev pub followed_in : Pattern → List Text
followed_in (include r) = included_name r
followed_in (match m) = pushed_names (operands m.operation)

abbrev pub followed_of : List Pattern → List Text
followed_of [] = []
followed_of (p ∷ ps) = followed_in p ++ followed_of ps

-- the names that lead on from a context that is reached from the prototype
abbrev pub followed : Context → List Text
followed c = followed_of c.patterns

-- the context named n is the prototype, or is reached from it by names as written
pub data FromPrototype (g : Grammar) : Text → Type 0 where
  itself : {c : Context} → ContextOf g prototype c → FromPrototype g prototype
  onward : {m n : Text} {c d : Context} → FromPrototype g m → ContextOf g m c → In (followed c) n → ContextOf g n d → FromPrototype g n

-- the context named n of the grammar at i has the prototype, which is that of its own grammar: the grammar has one, the context's setting allows it, and it is not reached from it
pub record HasPrototype (gs : List Grammar) (i : ℕ) (n : Text) : Type 0 where
  pub grammar : Grammar
  pub there : At gs i grammar
  pub context : Context
  pub held : ContextOf grammar n context
  pub prototype_there : Context
  pub is_prototype : ContextOf grammar prototype prototype_there
  pub allowed : context.meta_include_prototype ≡ true
  pub not_reached : ¬ FromPrototype grammar n
