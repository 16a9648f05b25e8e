-- Which contexts are flagged as using backreferences.
use Rattle.std.specs.Prelude.{◌≡◌, ℕ, true, ◌⊎◌, List}
use Rattle.grammar.specs.Names.{Text}
use Rattle.grammar.specs.Places.{At, In}
use Rattle.grammar.specs.Grammars.{Reference, pop, Match, include, match, Context, Grammar, ContextOf}
use Rattle.linker.specs.Links.{Leads}

-- some pattern of the context pops and has a backreference
pub record PopsByBackref (c : Context) : Type 0 where
  pub pattern : Match
  pub there : In c.patterns (match pattern)
  pub pops : pattern.operation ≡ pop
  pub refers : pattern.has_captures ≡ true

-- a chain of linked includes, perhaps empty, from the context named n of the grammar at i to one that pops by a backreference
pub data Chain (gs : List Grammar) : ℕ → Text → Type 0 where
  ends : {i : ℕ} {n : Text} (g : Grammar) (c : Context) → At gs i g → ContextOf g n c → PopsByBackref c → Chain gs i n
  over : {i : ℕ} {n : Text} (g : Grammar) (c : Context) (r : Reference) (j : ℕ) (m : Text) →
      At gs i g → ContextOf g n c → In c.patterns (include r) → Leads gs i r j m → Chain gs j m → Chain gs i n

-- the chain goes over a link of which D holds: it is told the grammar's place, the reference, and where that leads
abbrev pub GoesOver : {gs : List Grammar} {i : ℕ} {n : Text} → (ℕ → Reference → ℕ → Text → Type 0) → Chain gs i n → Type 0
GoesOver D (ends g c a b p) = ⊥
GoesOver {i = i} D (over g c r j m a b k l rest) = D i r j m ⊎ GoesOver D rest
