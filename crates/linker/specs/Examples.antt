-- Worked examples: small grammars at which the definitions and the hypotheses of the law hold, and at which other linkers go wrong.
use Rattle.std.specs.Prelude.{◌≡◌, ℕ, suc, Bool, true, false, cond, ◌&&◌, List, [], ◌∷◌, Some, None, codes, Option, refl}
use Rattle.std.specs.Str.{bytes_eq}
use Rattle.tree.specs.Values.{other, number}
use Rattle.grammar.specs.declared.refusal.Refusal.TheVariants.{WrongKind, EngineFault}
use Rattle.grammar.specs.Names.{Text, main, prototype}
use Rattle.grammar.specs.Places.{At, In, element_at}
use Rattle.grammar.specs.Grammars.{Scope, Reference, named, inline, by_scope, file, Operation, push, pop, none, Match, Pattern, include, match, Context, Grammar, ContextOf, ordered, references}
use Rattle.linker.specs.Links.{Leads, Nowhere, plain_text, asked}
use Rattle.linker.specs.Linking.{is_of_scope, is_of_name, has_named, in_last, find, with_plain_text_fallback, link, Linker, Tells}
use Rattle.linker.specs.Prototypes.{FromPrototype, HasPrototype}
use Rattle.linker.specs.Flags.{Chain, GoesOver}
use Rattle.linker.specs.Histories.{Offer, Outcome, grammar, refusal, Verdicts, Meaning, Answer, accepted, refused, Call, History, grammars}
use Rattle.linker.specs.Law.{Rivals, Comparable, Correspond, AgreeWholly, ReferenceAt, IsFallback, MayMove, OneMore, set_aside}

-- ── parts of grammars ──

abbrev pub text_x : Text
text_x = codes "x"

abbrev pub text_y : Text
text_y = codes "y"

abbrev pub text_z : Text
text_z = codes "z"

-- a context with no scopes, which lets the prototype in
abbrev pub context_of : Text → List Pattern → Context
context_of n ps = record { name = n; meta_scope = []; meta_content_scope = []; meta_include_prototype = true; clear_scopes = None; patterns = ps }

-- one that does not
abbrev pub without_prototype : Text → Context
without_prototype n = record { name = n; meta_scope = []; meta_content_scope = []; meta_include_prototype = false; clear_scopes = None; patterns = [] }

abbrev pub match_of : Bool → Operation → Match
match_of backref o = record { has_captures = backref; regex = codes "a"; scope = []; captures = None; operation = o; with_prototype = None }

abbrev pub pops_by_backreference : Pattern
pops_by_backreference = match (match_of true pop)

abbrev pub grammar_of : Text → Scope → (cs : List Context) → ordered cs ≡ true → Grammar
grammar_of n s cs e = record { name = n; scope = s; hidden = false; contexts = cs; in_order = e }

-- ── grammars for histories ──

abbrev pub shared_scope : Scope
shared_scope = codes "source" ∷ codes "shared" ∷ []

-- no grammar has this scope
abbrev pub absent_scope : Scope
absent_scope = codes "source" ∷ codes "absent" ∷ []

abbrev pub plain : Grammar
plain = grammar_of plain_text (codes "text" ∷ codes "plain" ∷ []) (context_of main [] ∷ []) refl

-- two grammars of one scope: the early one has `x`, and `main` of the late one pops by a backreference
abbrev pub early : Grammar
early = grammar_of (codes "Early") shared_scope (context_of main [] ∷ context_of text_x [] ∷ []) refl

abbrev pub late : Grammar
late = grammar_of (codes "Late") shared_scope (context_of main (pops_by_backreference ∷ []) ∷ []) refl

abbrev pub into_shared : Reference
into_shared = by_scope shared_scope None false

abbrev pub x_of_shared : Reference
x_of_shared = by_scope shared_scope (Some text_x) false

abbrev pub embed_absent : Reference
embed_absent = by_scope absent_scope None true

-- the same, but not from `embed`
abbrev pub include_absent : Reference
include_absent = by_scope absent_scope None false

-- includes `main` of the shared scope, and embeds a scope that is not there
abbrev pub host : Grammar
host = grammar_of (codes "Host") (codes "text" ∷ codes "host" ∷ []) (context_of main (include into_shared ∷ match (match_of false (push (embed_absent ∷ []))) ∷ []) ∷ []) refl

-- the engine finds fault with it
abbrev pub broken : Grammar
broken = grammar_of (codes "Broken") (codes "text" ∷ codes "broken" ∷ []) (context_of main [] ∷ []) refl

-- another of that name
abbrev pub plain_again : Grammar
plain_again = grammar_of plain_text (codes "text" ∷ codes "again" ∷ []) (context_of main [] ∷ []) refl

-- ── what offers mean: the node's number says which grammar, and the engine judges the name ──

abbrev pub known : List Grammar
known = plain ∷ early ∷ late ∷ host ∷ broken ∷ plain_again ∷ []

abbrev pub judged : ℕ → Grammar → Option ℕ → Outcome ℕ
judged k g None = grammar g
judged k g (Some f) = refusal (EngineFault f k)

abbrev pub looked : Verdicts ℕ → ℕ → Option Grammar → Outcome ℕ
looked v k None = refusal (WrongKind k)
looked v k (Some g) = judged k g (v g.name)

abbrev pub meaning : Meaning ℕ
meaning v o = looked v (number o.tree) (element_at known (number o.tree))

abbrev pub verdict : Verdicts ℕ
verdict t = cond (bytes_eq t (codes "Broken")) (Some 7) None

abbrev pub offer_of : ℕ → Offer
offer_of k = record { tree = other k; newlines = true; fallback = None }

abbrev pub call_of : ℕ → Answer ℕ → Call ℕ
call_of k a = record { offer = offer_of k; answer = a }

abbrev pub plain_call : Call ℕ
plain_call = call_of 0 (accepted plain)

abbrev pub early_call : Call ℕ
early_call = call_of 1 (accepted early)

abbrev pub late_call : Call ℕ
late_call = call_of 2 (accepted late)

abbrev pub host_call : Call ℕ
host_call = call_of 3 (accepted host)

abbrev pub broken_call : Call ℕ
broken_call = call_of 4 (refused (EngineFault 7 4))

abbrev pub plain_again_call : Call ℕ
plain_again_call = call_of 5 (accepted plain_again)

abbrev pub unknown_call : Call ℕ
unknown_call = call_of 9 (refused (WrongKind 9))

-- ── histories ──

abbrev pub first : List (Call ℕ)
first = plain_call ∷ early_call ∷ broken_call ∷ late_call ∷ host_call ∷ unknown_call ∷ []

-- the host and the refused ones move, and the early one stays before the late one
abbrev pub second : List (Call ℕ)
second = unknown_call ∷ host_call ∷ plain_call ∷ early_call ∷ late_call ∷ broken_call ∷ []

-- the early and the late one have changed places
abbrev pub swapped : List (Call ℕ)
swapped = plain_call ∷ late_call ∷ broken_call ∷ early_call ∷ host_call ∷ unknown_call ∷ []

-- the second history with one tree more in its middle
abbrev pub third : List (Call ℕ)
third = unknown_call ∷ host_call ∷ plain_call ∷ plain_again_call ∷ early_call ∷ late_call ∷ broken_call ∷ []

abbrev pub one_more : OneMore third
one_more = record {
  before = unknown_call ∷ host_call ∷ plain_call ∷ [];
  more = plain_again_call;
  after = early_call ∷ late_call ∷ broken_call ∷ [];
  grammar = plain_again;
  is = refl;
  taken_in = refl;
}

-- one tree offered twice: its copies correspond in their order
abbrev pub repeated : List (Call ℕ)
repeated = early_call ∷ late_call ∷ early_call ∷ plain_call ∷ []

abbrev pub repeated_moved : List (Call ℕ)
repeated_moved = plain_call ∷ early_call ∷ late_call ∷ early_call ∷ []

-- ── other linkers ──

abbrev pub links_nothing : Linker
links_nothing gs i r = None

-- the last grammar that passes and has the context
abbrev pub find_holder : (Grammar → Bool) → List Grammar → Text → Option (ℕ × Text)
find_holder p gs n = find (λ g. p g && has_named g.contexts n) gs n

-- it tries earlier grammars where the last lacks the context
abbrev pub tries_earlier : Linker
tries_earlier gs i (named n) = link gs i (named n)
tries_earlier gs i (inline n) = link gs i (inline n)
tries_earlier gs i (by_scope s sub embed) = with_plain_text_fallback embed gs (find_holder (is_of_scope s) gs (asked sub))
tries_earlier gs i (file n sub embed) = with_plain_text_fallback embed gs (find_holder (is_of_name n) gs (asked sub))

abbrev pub behind : Option (ℕ × Grammar) → Option (ℕ × Grammar)
behind None = None
behind (Some p) = Some (suc p.0, p.1)

abbrev pub first_of : (Grammar → Bool) → List Grammar → Option (ℕ × Grammar)
first_of p [] = None
first_of p (g ∷ gs) = cond (p g) (Some (0, g)) (behind (first_of p gs))

-- the earliest grammar decides
abbrev pub takes_earliest : Linker
takes_earliest gs i (named n) = link gs i (named n)
takes_earliest gs i (inline n) = link gs i (inline n)
takes_earliest gs i (by_scope s sub embed) = with_plain_text_fallback embed gs (in_last (first_of (is_of_scope s) gs) (asked sub))
takes_earliest gs i (file n sub embed) = with_plain_text_fallback embed gs (in_last (first_of (is_of_name n) gs) (asked sub))

-- what a linker reaches from a prototype that follows references to where they lead
pub data LinkedFromPrototype (gs : List Grammar) : ℕ → Text → Type 0 where
  starts : {i : ℕ} (g : Grammar) (c : Context) → At gs i g → ContextOf g prototype c → LinkedFromPrototype gs i prototype
  follows : {i j : ℕ} {m n : Text} (g : Grammar) (c : Context) (r : Reference) →
      LinkedFromPrototype gs i m → At gs i g → ContextOf g m c → In (references c) r → Leads gs i r j n → LinkedFromPrototype gs j n

-- ── grammars for prototypes and flags ──

abbrev pub own_scope : Scope
own_scope = codes "source" ∷ codes "own" ∷ []

abbrev pub x_of_own : Reference
x_of_own = by_scope own_scope (Some text_x) false

abbrev pub top_level_main : Reference
top_level_main = named (codes "$top_level_main")

-- its prototype includes `x` by its own scope, `main` by the other name, and `y` by name; `z` does not let it in
abbrev pub prototyped : Grammar
prototyped = grammar_of (codes "Prototyped") own_scope
    (context_of main [] ∷ context_of prototype (include x_of_own ∷ include top_level_main ∷ include (named text_y) ∷ []) ∷ context_of text_x [] ∷ context_of text_y [] ∷ without_prototype text_z ∷ [])
    refl

-- a includes b, b includes c, and c pops by a backreference; d only matches, and e pops without one
abbrev pub chained : Grammar
chained = grammar_of (codes "Chained") (codes "source" ∷ codes "chained" ∷ [])
    (context_of (codes "a") (include (named (codes "b")) ∷ []) ∷ context_of (codes "b") (include (named (codes "c")) ∷ [])
    ∷ context_of (codes "c") (pops_by_backreference ∷ []) ∷ context_of (codes "d") (match (match_of false none) ∷ []) ∷ context_of (codes "e") (match (match_of false pop) ∷ [])
    ∷ context_of main [] ∷ [])
    refl

-- how many links a chain goes over
abbrev pub links_over : {gs : List Grammar} {i : ℕ} {n : Text} → Chain gs i n → ℕ
links_over (Chain.ends g c a b p) = 0
links_over (Chain.over g c r j m a b k l rest) = suc (links_over rest)

-- ── the examples ──

pub record WorkedExamples : Type 0 where
  -- two orders that the law speaks of: the early and the late grammar are rivals and keep their order, the host moves
  pub first_is_a_history : History meaning verdict first
  pub second_is_a_history : History meaning verdict second
  pub orders_differ : ¬ (first ≡ second)
  pub orders_are_comparable : Comparable first second
  pub early_and_late_are_rivals : Rivals early late
  pub places_in_first : grammars first ≡ plain ∷ early ∷ late ∷ host ∷ []
  pub places_in_second : grammars second ≡ host ∷ plain ∷ early ∷ late ∷ []
  -- one tree more
  pub third_is_a_history : History meaning verdict third
  pub comparable_without_the_one_more : Comparable first (set_aside one_more)
  pub one_more_moves_the_fallback : Leads (grammars third) 0 embed_absent 2 main
  pub the_fallback_may_move : MayMove (grammars first) plain_again embed_absent
  pub the_include_may_not : ¬ MayMove (grammars first) plain_again into_shared
  -- copies of one tree
  pub repeated_is_a_history : History meaning verdict repeated
  pub repeated_moved_is_a_history : History meaning verdict repeated_moved
  pub copies_are_comparable : Comparable repeated repeated_moved
  pub first_copy_is_the_first : Correspond repeated repeated_moved 0 1
  pub first_copy_is_not_the_second : ¬ Correspond repeated repeated_moved 0 3
  -- the order of rivals does decide
  pub swapped_is_a_history : History meaning verdict swapped
  pub swapped_is_not_comparable : ¬ Comparable first swapped
  pub swapped_does_not_agree : ¬ AgreeWholly (Correspond first swapped) (grammars first) (grammars swapped)
  -- the references of the host in the first history, and its flag
  pub host_refers_by_scope : ReferenceAt (grammars first) 3 main 0 into_shared
  pub scope_leads_to_the_late_one : Leads (grammars first) 3 into_shared 2 main
  pub host_embeds : ReferenceAt (grammars first) 3 main 1 embed_absent
  pub embed_is_a_fallback : IsFallback (grammars first) embed_absent
  pub embed_falls_back_to_plain_text : Leads (grammars first) 3 embed_absent 0 main
  pub only_embed_falls_back : Nowhere (grammars first) 3 include_absent
  pub host_is_flagged_over_the_link : (c : Chain (grammars first) 3 main) × (links_over c ≡ 1) × GoesOver (λ i r j n. (i ≡ 3) × (r ≡ into_shared) × (j ≡ 2) × (n ≡ main)) c
  -- a linker that links nothing is not what the definitions say
  pub linking_nothing_is_wrong : ¬ Tells links_nothing
  -- nor is one that tries an earlier grammar: the last one of the scope lacks `x`
  pub earlier_has_x : Leads (early ∷ []) 0 x_of_shared 0 text_x
  pub last_lacks_x : Nowhere (early ∷ late ∷ []) 0 x_of_shared
  pub trying_earlier_is_wrong : ¬ Tells tries_earlier
  -- the later of two grammars of one scope decides
  pub later_decides : Leads (early ∷ late ∷ []) 0 into_shared 1 main
  pub earlier_does_not : ¬ Leads (early ∷ late ∷ []) 0 into_shared 0 main
  pub taking_the_earliest_is_wrong : ¬ Tells takes_earliest
  -- references of a prototype are followed by names as written: by links they would reach `x` and `main`
  pub links_reach_x : LinkedFromPrototype (prototyped ∷ []) 0 text_x
  pub x_is_not_reached : ¬ FromPrototype prototyped text_x
  pub x_has_the_prototype : HasPrototype (prototyped ∷ []) 0 text_x
  pub links_reach_main : LinkedFromPrototype (prototyped ∷ []) 0 main
  pub main_is_not_reached : ¬ FromPrototype prototyped main
  pub main_has_the_prototype : HasPrototype (prototyped ∷ []) 0 main
  pub y_is_reached : FromPrototype prototyped text_y
  pub y_lacks_the_prototype : ¬ HasPrototype (prototyped ∷ []) 0 text_y
  pub z_is_not_reached : ¬ FromPrototype prototyped text_z
  pub z_lacks_the_prototype : ¬ HasPrototype (prototyped ∷ []) 0 text_z
  -- flags go back along includes
  pub a_is_flagged : Chain (chained ∷ []) 0 (codes "a")
  pub b_is_flagged : Chain (chained ∷ []) 0 (codes "b")
  pub c_is_flagged : Chain (chained ∷ []) 0 (codes "c")
  pub d_is_not_flagged : ¬ Chain (chained ∷ []) 0 (codes "d")
  pub e_is_not_flagged : ¬ Chain (chained ∷ []) 0 (codes "e")
