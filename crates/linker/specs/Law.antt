-- The law of histories: what the order of adding decides, and what it does not.
use Rattle.std.specs.Prelude.{◌≡◌, ℕ, suc, ◌<◌, true, cond, ◌⊎◌, ◌↔◌, List, ◌∷◌, ◌++◌, length, nat_lt}
use Rattle.grammar.specs.Names.{Text}
use Rattle.grammar.specs.Places.{At}
use Rattle.grammar.specs.Grammars.{Reference, named, inline, by_scope, file, Context, Grammar, ContextOf, references}
use Rattle.linker.specs.Links.{Leads, Missing, OfScope, OfName, asked, plain_text}
use Rattle.linker.specs.Prototypes.{HasPrototype}
use Rattle.linker.specs.Flags.{Chain, GoesOver}
use Rattle.linker.specs.Graphs.{MarksWhatThePrototypeReaches, MarksWhatAChainLeadsFrom}
use Rattle.linker.specs.Linking.{LinkTellsWhereReferencesLead}
use Rattle.linker.specs.Histories.{Meaning, Verdicts, accepted, Call, History, RoomThroughout, offers, Taken, taken, offers_of, grammars, Twins, SameOffers}

-- of equal scope or of equal name
abbrev pub Rivals : Grammar → Grammar → Type 0
Rivals g h = (g.scope ≡ h.scope) ⊎ (g.name ≡ h.name)

-- accepted grammars that are rivals stand in one order in both
abbrev pub OneOrder : List Taken → List Taken → Type 0
OneOrder ts us = (i i' j j' : ℕ) (t t' : Taken) → Twins (offers_of ts) (offers_of us) i j → Twins (offers_of ts) (offers_of us) i' j' →
    At ts i t → At ts i' t' → Rivals t.grammar t'.grammar → i < i' → j < j'

-- both offer the same trees, refuse none for room, and keep rivals in one order
pub record Comparable {F : Type 0} (h k : List (Call F)) : Type 0 where
  pub same_offers : SameOffers (offers h) (offers k)
  pub room_left : RoomThroughout h
  pub room_right : RoomThroughout k
  pub one_order : OneOrder (taken h) (taken k)

-- the grammar at i of the first history and the one at j of the second come from the same copy of an offer
abbrev pub Correspond : {F : Type 0} → List (Call F) → List (Call F) → ℕ → ℕ → Type 0
Correspond h k i j = Twins (offers_of (taken h)) (offers_of (taken k)) i j

-- ── what agrees; S says which grammars correspond ──

-- each offer is accepted in both, as the same grammar, or refused in both by the same refusal
pub record SameAnswers {F : Type 0} (h k : List (Call F)) : Type 0 where
  pub there : (i : ℕ) (c : Call F) → At h i c → (j : ℕ) × Twins (offers h) (offers k) i j × At k j c
  pub back : (j : ℕ) (c : Call F) → At k j c → (i : ℕ) × Twins (offers h) (offers k) i j × At h i c

-- the reference leads to the same context of corresponding grammars, or nowhere in both
pub record SameLink (S : ℕ → ℕ → Type 0) (gs hs : List Grammar) (i j : ℕ) (r : Reference) : Type 0 where
  pub there : (i' : ℕ) (n : Text) → Leads gs i r i' n → (j' : ℕ) × S i' j' × Leads hs j r j' n
  pub back : (j' : ℕ) (n : Text) → Leads hs j r j' n → (i' : ℕ) × S i' j' × Leads gs i r i' n

-- r is the k-th reference of the context named n of the grammar at i
pub record ReferenceAt (gs : List Grammar) (i : ℕ) (n : Text) (k : ℕ) (r : Reference) : Type 0 where
  pub grammar : Grammar
  pub there : At gs i grammar
  pub context : Context
  pub held : ContextOf grammar n context
  pub is : At (references context) k r

-- links in the first and in the second history differ
abbrev pub Differs : (ℕ → ℕ → Type 0) → List Grammar → List Grammar → ℕ → Reference → Type 0
Differs S gs hs i r = (j : ℕ) × S i j × ¬ SameLink S gs hs i j r

abbrev pub DiffersFrom : (ℕ → ℕ → Type 0) → List Grammar → List Grammar → ℕ → Reference → Type 0
DiffersFrom S gs hs j r = (i : ℕ) × S i j × ¬ SameLink S gs hs i j r

-- every grammar of the first corresponds to one of the second, and back, but for those at the places X; what corresponds is the same grammar
pub record Paired (S : ℕ → ℕ → Type 0) (X : ℕ → Type 0) (gs hs : List Grammar) : Type 0 where
  pub each_there : (i : ℕ) (g : Grammar) → At gs i g → (j : ℕ) × S i j
  pub each_back : (j : ℕ) (g : Grammar) → At hs j g → ((i : ℕ) × S i j) ⊎ X j
  pub no_counterpart : (i j : ℕ) → X j → ¬ S i j
  pub same_grammar : (i j : ℕ) (g : Grammar) → S i j → At gs i g ↔ At hs j g

-- of corresponding grammars all agrees, but for links of the references that are excused and for flags of which a chain goes over a link that differs
pub record Agree (S : ℕ → ℕ → Type 0) (Excused : Reference → Type 0) (gs hs : List Grammar) : Type 0 where
  pub references_agree : (i j : ℕ) (n : Text) (k : ℕ) (r : Reference) → S i j → ReferenceAt gs i n k r ↔ ReferenceAt hs j n k r
  pub links : (i j : ℕ) (n : Text) (k : ℕ) (r : Reference) → S i j → ReferenceAt gs i n k r → ¬ Excused r → SameLink S gs hs i j r
  pub prototypes : (i j : ℕ) (n : Text) → S i j → HasPrototype gs i n ↔ HasPrototype hs j n
  pub flags_there : (i j : ℕ) (n : Text) → S i j → (chain : Chain gs i n) → Chain hs j n ⊎ GoesOver (λ a r b m. Differs S gs hs a r) chain
  pub flags_back : (i j : ℕ) (n : Text) → S i j → (chain : Chain hs j n) → Chain gs i n ⊎ GoesOver (λ a r b m. DiffersFrom S gs hs a r) chain

-- with no exception: every link is the same, and so is every flag
pub record AgreeWholly (S : ℕ → ℕ → Type 0) (gs hs : List Grammar) : Type 0 where
  pub paired : Paired S (λ j. ⊥) gs hs
  pub agree : Agree S (λ r. ⊥) gs hs
  pub flags : (i j : ℕ) (n : Text) → S i j → Chain gs i n ↔ Chain hs j n

-- ── one tree more ──

-- the history has a call, anywhere, that offers a tree and accepts it
pub record OneMore {F : Type 0} (k : List (Call F)) : Type 0 where
  pub before : List (Call F)
  pub more : Call F
  pub after : List (Call F)
  pub grammar : Grammar
  pub is : k ≡ before ++ more ∷ after
  pub taken_in : more.answer ≡ accepted grammar

-- the history without it
abbrev pub set_aside : {F : Type 0} {k : List (Call F)} → OneMore k → List (Call F)
set_aside m = m.before ++ m.after

-- where the grammar of place j stands when one more stands at place p
abbrev pub moved : ℕ → ℕ → ℕ
moved p j = cond (nat_lt j p) j (suc j)

-- copies are counted with the one more set aside
abbrev pub CorrespondBeside : {F : Type 0} → (h k : List (Call F)) → OneMore k → ℕ → ℕ → Type 0
CorrespondBeside h k m i j = (l : ℕ) × Correspond h (set_aside m) i l × (j ≡ moved (length (taken m.before)) l)

-- the reference is by the scope of that grammar, or by a file of its name
abbrev pub ByItsScopeOrName : Grammar → Reference → Type 0
ByItsScopeOrName x (named n) = ⊥
ByItsScopeOrName x (inline n) = ⊥
ByItsScopeOrName x (by_scope s sub embed) = x.scope ≡ s
ByItsScopeOrName x (file n sub embed) = x.name ≡ n

-- from `embed`, by scope or file, and there is no such grammar or the last lacks the context
abbrev pub IsFallback : List Grammar → Reference → Type 0
IsFallback gs (named n) = ⊥
IsFallback gs (inline n) = ⊥
IsFallback gs (by_scope s sub embed) = (embed ≡ true) × Missing (OfScope s) gs (asked sub)
IsFallback gs (file n sub embed) = (embed ≡ true) × Missing (OfName n) gs (asked sub)

-- what one grammar more may change: references by its scope or its name, and fallbacks if it is named Plain Text
abbrev pub MayMove : List Grammar → Grammar → Reference → Type 0
MayMove gs x r = ByItsScopeOrName x r ⊎ ((x.name ≡ plain_text) × IsFallback gs r)

-- ── the law ──

-- two engines of one meaning
abbrev pub SameVerdicts : {F : Type 0} → Verdicts F → Verdicts F → Type 0
SameVerdicts v w = (t : Text) → v t ≡ w t

-- any two orders agree
abbrev pub OrdersAgree : Type 0 → Type 0
OrdersAgree F = (meaning : Meaning F) (v w : Verdicts F) (h k : List (Call F)) → SameVerdicts v w → History meaning v h → History meaning w k → Comparable h k →
    SameAnswers h k × AgreeWholly (Correspond h k) (grammars h) (grammars k)

-- one tree more changes only what is named
pub record ChangesLittle {F : Type 0} (h k : List (Call F)) (m : OneMore k) : Type 0 where
  pub answers : SameAnswers h (set_aside m)
  pub paired : Paired (CorrespondBeside h k m) (λ j. j ≡ length (taken m.before)) (grammars h) (grammars k)
  pub agree : Agree (CorrespondBeside h k m) (MayMove (grammars h) m.grammar) (grammars h) (grammars k)

abbrev pub OneMoreChangesLittle : Type 0 → Type 0
OneMoreChangesLittle F = (meaning : Meaning F) (v w : Verdicts F) (h k : List (Call F)) → SameVerdicts v w → History meaning v h → History meaning w k →
    (m : OneMore k) → Comparable h (set_aside m) → ChangesLittle h k m

-- the law, whole
pub record LawOfHistories (F : Type 0) : Type 0 where
  pub orders : OrdersAgree F
  pub one_more : OneMoreChangesLittle F
  pub linked : LinkTellsWhereReferencesLead
  pub prototypes : MarksWhatThePrototypeReaches
  pub flags : MarksWhatAChainLeadsFrom
