-- Offers, what one offer means, and histories: calls that offer trees one after another to one set.
use Rattle.std.specs.Prelude.{◌≡◌, ℕ, suc, Bool, List, [], ◌∷◌, ◌++◌, take, Option}
use Rattle.std.proofs.Common.{ap}
use mathlib.Core.List.{List-discrete}
use Rattle.std.proofs.Math.Decide.{ℕ_discrete}
use Rattle.std.proofs.Math.IntN.{ℤ_discrete}
use Rattle.std.specs.List.{AllByRecursion}
use Rattle.tree.specs.Values.{Value, value_discrete}
use Rattle.grammar.specs.declared.refusal.Refusal.{Refusal}
use Rattle.grammar.specs.declared.refusal.Refusal.TheVariants.{FallbackNotUtf8, WrongKind, MissingKey, TooManyAtoms, ReservedName, TooLong, MainMissing, EngineFault}
use Rattle.grammar.specs.Names.{Text}
use Rattle.grammar.specs.Places.{At}
use Rattle.grammar.specs.Grammars.{Grammar}
use Rattle.linker.specs.Equality.{bool_discrete, option_discrete}

-- a tree, whether lines end with a newline, and the name for a grammar that gives none
pub record Offer : Type 0 where
  pub tree : Value
  pub newlines : Bool
  pub fallback : Option Text

abbrev pub same_parts : {o p : Offer} → Dec (o.tree ≡ p.tree) → Dec (o.newlines ≡ p.newlines) → Dec (o.fallback ≡ p.fallback) → Dec (o ≡ p)
same_parts (yes t) (yes l) (yes f) = yes (λ i. record { tree = t i; newlines = l i; fallback = f i })
same_parts (yes t) (yes l) (no h) = no (λ e. h (ap (λ x. x.fallback) e))
same_parts (yes t) (no h) f = no (λ e. h (ap (λ x. x.newlines) e))
same_parts (no h) l f = no (λ e. h (ap (λ x. x.tree) e))

-- equality of offers is decided
abbrev pub same? : (o p : Offer) → Dec (o ≡ p)
same? o p = same_parts
    (value_discrete ℕ_discrete bool_discrete ℤ_discrete (List-discrete ℕ_discrete) o.tree p.tree)
    (bool_discrete o.newlines p.newlines)
    (option_discrete (List-discrete ℕ_discrete) o.fallback p.fallback)

-- what one offer means, whatever set it is made to
pub data Outcome (F : Type 0) : Type 0 where
  grammar : Grammar → Outcome F
  refusal : Refusal F → Outcome F

-- a verdict on each text, fine or a fault
abbrev pub Verdicts : Type 0 → Type 0
Verdicts F = Text → Option F

-- what offers mean, given an engine's verdicts
abbrev pub Meaning : Type 0 → Type 0
Meaning F = Verdicts F → Offer → Outcome F

-- what a call answers: room is the one thing that looks at the set
pub data Answer (F : Type 0) : Type 0 where
  accepted : Grammar → Answer F
  refused : Refusal F → Answer F
  no_room : Answer F

pub record Call (F : Type 0) : Type 0 where
  pub offer : Offer
  pub answer : Answer F

-- room is asked for behind the walk and before the engine
abbrev pub AsksForRoom : {F : Type 0} → Outcome F → Type 0
AsksForRoom (grammar g) = Unit {0}
AsksForRoom (refusal FallbackNotUtf8) = ⊥
AsksForRoom (refusal (WrongKind i)) = ⊥
AsksForRoom (refusal (MissingKey k i)) = ⊥
AsksForRoom (refusal (TooManyAtoms i)) = ⊥
AsksForRoom (refusal (ReservedName i)) = ⊥
AsksForRoom (refusal (TooLong i)) = ⊥
AsksForRoom (refusal MainMissing) = ⊥
AsksForRoom (refusal (EngineFault f i)) = Unit {0}

-- the answer is the one that the offer's meaning gives, or there was no room
abbrev pub Answers : {F : Type 0} → Outcome F → Answer F → Type 0
Answers outcome (accepted g) = outcome ≡ grammar g
Answers outcome (refused r) = outcome ≡ refusal r
Answers outcome no_room = AsksForRoom outcome

-- each call of a history answers what its offer means
abbrev pub History : {F : Type 0} → Meaning F → Verdicts F → List (Call F) → Type 0
History meaning verdict calls = AllByRecursion (λ c. Answers (meaning verdict c.offer) c.answer) calls

abbrev pub HadRoom : {F : Type 0} → Answer F → Type 0
HadRoom (accepted g) = Unit {0}
HadRoom (refused r) = Unit {0}
HadRoom no_room = ⊥

-- no call is refused for room
abbrev pub RoomThroughout : {F : Type 0} → List (Call F) → Type 0
RoomThroughout calls = AllByRecursion (λ c. HadRoom c.answer) calls

abbrev pub offers : {F : Type 0} → List (Call F) → List Offer
offers [] = []
offers (c ∷ cs) = c.offer ∷ offers cs

-- an accepted grammar with the offer that it came from
pub record Taken : Type 0 where
  pub offer : Offer
  pub grammar : Grammar

abbrev pub taken_by : {F : Type 0} → Offer → Answer F → List Taken
taken_by o (accepted g) = record { offer = o; grammar = g } ∷ []
taken_by o (refused r) = []
taken_by o no_room = []

-- the accepted grammars in the order of adding
abbrev pub taken : {F : Type 0} → List (Call F) → List Taken
taken [] = []
taken (c ∷ cs) = taken_by c.offer c.answer ++ taken cs

abbrev pub offers_of : List Taken → List Offer
offers_of [] = []
offers_of (t ∷ ts) = t.offer ∷ offers_of ts

abbrev pub grammars_of : List Taken → List Grammar
grammars_of [] = []
grammars_of (t ∷ ts) = t.grammar ∷ grammars_of ts

abbrev pub grammars : {F : Type 0} → List (Call F) → List Grammar
grammars calls = grammars_of (taken calls)

abbrev pub counted : {A : Type 0} → Dec A → ℕ → ℕ
counted (yes a) n = suc n
counted (no h) n = n

-- how many copies of an offer there are
abbrev pub copies : Offer → List Offer → ℕ
copies o [] = 0
copies o (p ∷ ps) = counted (same? o p) (copies o ps)

-- the n-th copy of an offer stands for its n-th copy: the same offer, with as many copies before
pub record Twins (xs ys : List Offer) (i j : ℕ) : Type 0 where
  pub offer : Offer
  pub left : At xs i offer
  pub right : At ys j offer
  pub as_many : copies offer (take i xs) ≡ copies offer (take j ys)

-- every offer has as many copies in both
abbrev pub SameOffers : List Offer → List Offer → Type 0
SameOffers xs ys = (o : Offer) → copies o xs ≡ copies o ys
