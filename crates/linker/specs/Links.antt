-- Where references lead, over the grammars in the order of adding.
use Rattle.std.specs.Prelude.{◌≡◌, ℕ, ◌<◌, Bool, true, cond, List, Some, None, codes, Option}
use Rattle.std.specs.Str.{bytes_eq}
use Rattle.grammar.specs.Names.{Text, main}
use Rattle.grammar.specs.Places.{At}
use Rattle.grammar.specs.Grammars.{Scope, Reference, named, inline, by_scope, file, Context, Grammar, ContextOf}

-- it is the grammar added last of those that pass: no later one passes
pub record LastOf (P : Grammar → Type 0) (gs : List Grammar) (j : ℕ) (g : Grammar) : Type 0 where
  pub there : At gs j g
  pub passes : P g
  pub no_later : (k : ℕ) (h : Grammar) → j < k → At gs k h → ¬ P h

abbrev pub OfScope : Scope → Grammar → Type 0
OfScope s g = g.scope ≡ s

abbrev pub OfName : Text → Grammar → Type 0
OfName n g = g.name ≡ n

-- the grammar has a context of that name
pub record Has (g : Grammar) (n : Text) : Type 0 where
  pub context : Context
  pub held : ContextOf g n context

-- the last grammar that passes is the one at j, and has a context named n: it decides alone
pub record Found (P : Grammar → Type 0) (gs : List Grammar) (n : Text) (j : ℕ) : Type 0 where
  pub grammar : Grammar
  pub last : LastOf P gs j grammar
  pub has : Has grammar n

-- there is no such grammar, or the last of them lacks the context
abbrev pub Missing : (Grammar → Type 0) → List Grammar → Text → Type 0
Missing P gs n = (j : ℕ) → ¬ Found P gs n j

abbrev pub plain_text : Text
plain_text = codes "Plain Text"

-- a reference that names no context asks for `main`
abbrev pub asked : Option Text → Text
asked None = main
asked (Some n) = n

-- within a grammar `$top_level_main` is another name of `main`
abbrev pub within : Text → Text
within n = cond (bytes_eq n (codes "$top_level_main")) main n

-- a reference by scope or file leads to the context named n of the grammar at j: as found, or from `embed` by falling back
pub data Abroad (P : Grammar → Type 0) (gs : List Grammar) (sub : Text) (embed : Bool) (j : ℕ) (n : Text) : Type 0 where
  found : n ≡ sub → Found P gs sub j → Abroad P gs sub embed j n
  fallback : embed ≡ true → Missing P gs sub → n ≡ main → Found (OfName plain_text) gs main j → Abroad P gs sub embed j n

-- a reference of the grammar at i leads, within that grammar, to its context named n
pub record AtHome (gs : List Grammar) (i : ℕ) (name : Text) (j : ℕ) (n : Text) : Type 0 where
  pub grammar : Grammar
  pub there : At gs i grammar
  pub same : j ≡ i
  pub is : n ≡ within name
  pub has : Has grammar n

-- a reference of the grammar at i leads to the context named n of the grammar at j
abbrev pub Leads : List Grammar → ℕ → Reference → ℕ → Text → Type 0
Leads gs i (named name) j n = AtHome gs i name j n
Leads gs i (inline name) j n = AtHome gs i name j n
Leads gs i (by_scope s sub embed) j n = Abroad (OfScope s) gs (asked sub) embed j n
Leads gs i (file name sub embed) j n = Abroad (OfName name) gs (asked sub) embed j n

abbrev pub Nowhere : List Grammar → ℕ → Reference → Type 0
Nowhere gs i r = (j : ℕ) (n : Text) → ¬ Leads gs i r j n
