-- The worked examples hold.
use Rattle.std.proofs.Common.{◌≡◌, ℕ, zero, suc, ◌+◌, ◌<◌, Bool, true, false, cond, not, ◌&&◌, ◌||◌, eqb, List, [], ◌∷◌, length, codes, sym, refl, ap, ◌∙◌, subst, subst₂, inl, inr, arith}
use mathlib.Core.Bool.{false≢true}
use Rattle.std.specs.Str.{bytes_eq}
use Rattle.std.proofs.lemmas.Bool.{both_ways, not-true, and_parts, and_from, ne_eqb, eqb-false}
use Rattle.std.proofs.lemmas.Slice.Eq.{bytes_eq-Decides}
use Rattle.tree.specs.Values.{number}
use Rattle.grammar.specs.Names.{Text, main, prototype}
use Rattle.grammar.specs.Places.{At, In}
use Rattle.grammar.specs.Grammars.{Scope, Reference, named, push, pop, Match, Pattern, include, match, Context, Grammar, ContextOf, references}
use Rattle.grammar.proofs.Places.{at_same, at_below}
use Rattle.linker.specs.Equality.{Filled}
use Rattle.linker.specs.Links.{OfScope, OfName, Has, Found, Missing, plain_text, within, found, fallback, Leads, Nowhere}
use Rattle.linker.specs.Linking.{same_scope, is_of_scope, is_of_name, Tells}
use Rattle.linker.specs.Prototypes.{followed, FromPrototype, itself, onward, HasPrototype}
use Rattle.linker.specs.Flags.{PopsByBackref, Chain, ends, over}
use Rattle.linker.specs.Graphs.{is_pop}
use Rattle.linker.specs.Histories.{Offer, same?, Call, offers, Taken, taken, offers_of, grammars, counted, copies, Twins, SameOffers}
use Rattle.linker.specs.Law.{Rivals, OneOrder, Comparable, Correspond, ReferenceAt, AgreeWholly, MayMove}
use Rattle.linker.specs.Examples.{text_x, text_y, text_z, context_of, match_of, pops_by_backreference, shared_scope, absent_scope, plain, early, late, into_shared, x_of_shared, embed_absent, include_absent, host, plain_again, offer_of, plain_call, first, second, swapped, third, repeated, repeated_moved, links_nothing, tries_earlier, takes_earliest, LinkedFromPrototype, starts, follows, own_scope, x_of_own, top_level_main, prototyped, chained, WorkedExamples}

-- ── tests that compute ──

abbrev every : {A : Type 0} → (A → Bool) → List A → Bool
every q [] = true
every q (x ∷ xs) = q x && every q xs

at_every : {A : Type 0} (q : A → Bool) (xs : List A) (k : ℕ) (x : A) → every q xs ≡ true → At xs k x → q x ≡ true
at_every q [] k x e a = absurd a
at_every q (y ∷ ys) zero x e a = ap q (sym a) ∙ (and_parts (q y) (every q ys) e).0
at_every q (y ∷ ys) (suc k) x e a = at_every q ys k x (and_parts (q y) (every q ys) e).1 a

implied : (x y : Bool) → x ≡ true → (not x || y) ≡ true → y ≡ true
implied true y p e = e
implied false y p e = absurd (false≢true p)

same_text : (a b : Text) → a ≡ b → bytes_eq a b ≡ true
same_text a b e = (bytes_eq-Decides a b).1 e

same_scope_lem : (s : Scope) → same_scope s s ≡ true
same_scope_lem [] = refl
same_scope_lem (a ∷ s) = and_from (bytes_eq a a) (same_scope s s) (same_text a a refl) (same_scope_lem s)

of_scope : (s : Scope) (g : Grammar) → OfScope s g → is_of_scope s g ≡ true
of_scope s g e = subst (λ (t : Scope). same_scope g.scope t ≡ true) e (same_scope_lem g.scope)

-- ── where references lead ──

abbrev has_none_after : (Grammar → Bool) → ℕ → List Grammar → Bool
has_none_after p j [] = true
has_none_after p zero (g ∷ gs) = every (λ h. not (p h)) gs
has_none_after p (suc j) (g ∷ gs) = has_none_after p j gs

none_after : (p : Grammar → Bool) (gs : List Grammar) (j k : ℕ) (h : Grammar) → has_none_after p j gs ≡ true → j < k → At gs k h → p h ≡ false
none_after p [] j k h e l a = absurd a
none_after p (g ∷ gs) zero zero h e l a = absurd (omega arith)
none_after p (g ∷ gs) zero (suc k) h e l a = not-true (p h) (at_every (λ x. not (p x)) gs k h e a)
none_after p (g ∷ gs) (suc j) zero h e l a = absurd (omega arith)
none_after p (g ∷ gs) (suc j) (suc k) h e l a = none_after p gs j k h e (omega arith) a

found_by_scope : (s : Scope) (gs : List Grammar) (n : Text) (j : ℕ) (g : Grammar) → At gs j g → OfScope s g → has_none_after (is_of_scope s) j gs ≡ true → Has g n →
    Found (OfScope s) gs n j
found_by_scope s gs n j g a p e h = record {
  grammar = g;
  last = record { there = a; passes = p; no_later = λ k x l b q. both_ways (is_of_scope s x) (none_after (is_of_scope s) gs j k x e l b) (of_scope s x q) };
  has = h;
}

found_by_name : (m : Text) (gs : List Grammar) (n : Text) (j : ℕ) (g : Grammar) → At gs j g → OfName m g → has_none_after (is_of_name m) j gs ≡ true → Has g n →
    Found (OfName m) gs n j
found_by_name m gs n j g a p e h = record {
  grammar = g;
  last = record { there = a; passes = p; no_later = λ k x l b q. both_ways (is_of_name m x) (none_after (is_of_name m) gs j k x e l b) (same_text x.name m q) };
  has = h;
}

no_such_scope : (s : Scope) (gs : List Grammar) (n : Text) → every (λ g. not (is_of_scope s g)) gs ≡ true → Missing (OfScope s) gs n
no_such_scope s gs n e j f =
    both_ways (is_of_scope s f.grammar) (not-true _ (at_every (λ g. not (is_of_scope s g)) gs j f.grammar e f.last.there)) (of_scope s f.grammar f.last.passes)

lacks : (g : Grammar) (n : Text) → every (λ c. not (bytes_eq c.name n)) g.contexts ≡ true → ¬ Has g n
lacks g n e h =
    let c : Context = h.context in
    both_ways (bytes_eq c.name n) (not-true _ (at_every (λ d. not (bytes_eq d.name n)) g.contexts h.held.there.place c e h.held.there.there))
    (same_text c.name n h.held.is)

-- the k-th context is the one of its name
held : (g : Grammar) (k : ℕ) (c : Context) → At g.contexts k c → ContextOf g c.name c
held g k c a = record { there = record { place = k; there = a }; is = refl }

has_at : (g : Grammar) (k : ℕ) (c : Context) → At g.contexts k c → Has g c.name
has_at g k c a = record { context = c; held = held g k c a }

-- ── two grammars of one scope ──

abbrev both : List Grammar
both = early ∷ late ∷ []

found_late : Found (OfScope shared_scope) both main 1
found_late = found_by_scope shared_scope both main 1 late refl refl refl (has_at late 0 (context_of main (pops_by_backreference ∷ [])) refl)

earlier_has_x : Leads (early ∷ []) 0 x_of_shared 0 text_x
earlier_has_x = found refl (found_by_scope shared_scope (early ∷ []) text_x 0 early refl refl refl (has_at early 1 (context_of text_x []) refl))

not_found_x : (j : ℕ) → ¬ Found (OfScope shared_scope) both text_x j
not_found_x zero f = f.last.no_later 1 late (omega arith) refl refl
not_found_x (suc zero) f = lacks late text_x refl (subst (λ g. Has g text_x) (sym f.last.there) f.has)
not_found_x (suc (suc j)) f = f.last.there

last_lacks_x : Nowhere both 0 x_of_shared
last_lacks_x j n (found e f) = not_found_x j f
last_lacks_x j n (fallback e m h f) = false≢true e

earlier_does_not : ¬ Leads both 0 into_shared 0 main
earlier_does_not (found e f) = f.last.no_later 1 late (omega arith) refl refl
earlier_does_not (fallback e m h f) = false≢true e

linking_nothing_is_wrong : ¬ Tells links_nothing
linking_nothing_is_wrong t = subst Filled (sym ((t (early ∷ []) 0 x_of_shared 0 text_x).1 earlier_has_x)) tt

trying_earlier_is_wrong : ¬ Tells tries_earlier
trying_earlier_is_wrong t = last_lacks_x 0 text_x ((t both 0 x_of_shared 0 text_x).0 refl)

taking_the_earliest_is_wrong : ¬ Tells takes_earliest
taking_the_earliest_is_wrong t = earlier_does_not ((t both 0 into_shared 0 main).0 refl)

-- ── what the prototype reaches ──

-- contexts whose names pass lead on only to names that pass
abbrev closed_by : (Text → Bool) → List Context → Bool
closed_by p cs = every (λ c. not (p c.name) || every p (followed c)) cs

reaches_only : (p : Text → Bool) (g : Grammar) {n : Text} → p prototype ≡ true → closed_by p g.contexts ≡ true → FromPrototype g n → p n ≡ true
reaches_only p g b e (itself h) = b
reaches_only p g b e (onward {n = n} {c = c} f h k d) =
    let q = at_every (λ x. not (p x.name) || every p (followed x)) g.contexts h.there.place c e h.there.there in
    at_every p (followed c) k.place n (implied (p c.name) (every p (followed c)) (ap p h.is ∙ reaches_only p g b e f) q) k.there

abbrev reachable : Text → Bool
reachable n = bytes_eq n prototype || (bytes_eq n (codes "$top_level_main") || bytes_eq n text_y)

unreached : (n : Text) → reachable n ≡ false → ¬ FromPrototype prototyped n
unreached n e f = both_ways (reachable n) e (reaches_only reachable prototyped refl refl f)

abbrev prototype_context : Context
prototype_context = context_of prototype (include x_of_own ∷ include top_level_main ∷ include (named text_y) ∷ [])

prototype_held : ContextOf prototyped prototype prototype_context
prototype_held = held prototyped 1 prototype_context refl

has_prototype : (k : ℕ) (n : Text) → At prototyped.contexts k (context_of n []) → reachable n ≡ false → HasPrototype (prototyped ∷ []) 0 n
has_prototype k n a e = record {
  grammar = prototyped;
  there = refl;
  context = context_of n [];
  held = held prototyped k (context_of n []) a;
  prototype_there = prototype_context;
  is_prototype = prototype_held;
  allowed = refl;
  not_reached = unreached n e;
}

y_is_reached : FromPrototype prototyped text_y
y_is_reached = onward (itself prototype_held) prototype_held (record { place = 1; there = refl }) (held prototyped 3 (context_of text_y []) refl)

y_lacks_the_prototype : ¬ HasPrototype (prototyped ∷ []) 0 text_y
y_lacks_the_prototype h = h.not_reached (subst (λ g. FromPrototype g text_y) h.there y_is_reached)

-- contexts of that name do not let the prototype in
abbrev denied_at : Text → List Context → Bool
denied_at n cs = every (λ c. not (bytes_eq c.name n) || not c.meta_include_prototype) cs

z_lacks_the_prototype : ¬ HasPrototype (prototyped ∷ []) 0 text_z
z_lacks_the_prototype h =
    let c : Context = h.context in
    let denied : denied_at text_z h.grammar.contexts ≡ true = subst (λ (g : Grammar). denied_at text_z g.contexts ≡ true) h.there refl in
    both_ways c.meta_include_prototype
    (not-true _
    (implied (bytes_eq c.name text_z) (not c.meta_include_prototype) (same_text c.name text_z h.held.is)
    (at_every (λ d. not (bytes_eq d.name text_z) || not d.meta_include_prototype) h.grammar.contexts h.held.there.place c denied h.held.there.there)))
    h.allowed

linked_itself : LinkedFromPrototype (prototyped ∷ []) 0 prototype
linked_itself = starts prototyped prototype_context refl prototype_held

links_reach_x : LinkedFromPrototype (prototyped ∷ []) 0 text_x
links_reach_x = follows prototyped prototype_context x_of_own linked_itself refl prototype_held (record { place = 0; there = refl })
    (found refl (found_by_scope own_scope (prototyped ∷ []) text_x 0 prototyped refl refl refl (has_at prototyped 2 (context_of text_x []) refl)))

links_reach_main : LinkedFromPrototype (prototyped ∷ []) 0 main
links_reach_main = follows prototyped prototype_context top_level_main linked_itself refl prototype_held (record { place = 1; there = refl })
    (record { grammar = prototyped; there = refl; same = refl; is = refl; has = has_at prototyped 0 (context_of main []) refl })

-- ── flags ──

abbrev still : Pattern → Bool
still (include r) = false
still (match m) = not (is_pop m.operation && m.has_captures)

-- contexts of that name have only patterns that are still
abbrev still_at : Text → List Context → Bool
still_at n cs = every (λ c. not (bytes_eq c.name n) || every still c.patterns) cs

its_patterns_still : (n : Text) (g : Grammar) (c : Context) → still_at n g.contexts ≡ true → ContextOf g n c → every still c.patterns ≡ true
its_patterns_still n g c e h =
    implied (bytes_eq c.name n) (every still c.patterns) (same_text c.name n h.is)
    (at_every (λ d. not (bytes_eq d.name n) || every still d.patterns) g.contexts h.there.place c e h.there.there)

no_pop : (c : Context) → every still c.patterns ≡ true → ¬ PopsByBackref c
no_pop c e p =
    let m : Match = p.pattern in
    both_ways (is_pop m.operation && m.has_captures) (not-true _ (at_every still c.patterns p.there.place (match m) e p.there.there))
    (and_from (is_pop m.operation) m.has_captures (ap is_pop p.pops) p.refers)

no_include : (c : Context) (r : Reference) → every still c.patterns ≡ true → ¬ In c.patterns (include r)
no_include c r e k = false≢true (at_every still c.patterns k.place (include r) e k.there)

no_chain : (gs : List Grammar) (x : Grammar) {i : ℕ} {n : Text} → At gs i x → still_at n x.contexts ≡ true → ¬ Chain gs i n
no_chain gs x {i} {n} a e (ends g c b h p) = no_pop c (its_patterns_still n g c (subst (λ (y : Grammar). still_at n y.contexts ≡ true) (at_same gs i x g a b) e) h) p
no_chain gs x {i} {n} a e (over g c r j m b h k l rest) =
    no_include c r (its_patterns_still n g c (subst (λ (y : Grammar). still_at n y.contexts ≡ true) (at_same gs i x g a b) e) h) k

abbrev popping : Text → Context
popping n = context_of n (pops_by_backreference ∷ [])

pops : (n : Text) → PopsByBackref (popping n)
pops n = record { pattern = match_of true pop; there = record { place = 0; there = refl }; pops = refl; refers = refl }

abbrev including : Text → Text → Context
including n m = context_of n (include (named m) ∷ [])

-- one include more, within the grammar
further : (k : ℕ) (n m : Text) → At chained.contexts k (including n m) → m ≡ within m → Has chained m → Chain (chained ∷ []) 0 m → Chain (chained ∷ []) 0 n
further k n m a e h rest = over chained (including n m) (named m) 0 m refl (held chained k (including n m) a) (record { place = 0; there = refl })
    (record { grammar = chained; there = refl; same = refl; is = e; has = h }) rest

c_is_flagged : Chain (chained ∷ []) 0 (codes "c")
c_is_flagged = ends chained (popping (codes "c")) refl (held chained 2 (popping (codes "c")) refl) (pops (codes "c"))

b_is_flagged : Chain (chained ∷ []) 0 (codes "b")
b_is_flagged = further 1 (codes "b") (codes "c") refl refl (has_at chained 2 (popping (codes "c")) refl) c_is_flagged

a_is_flagged : Chain (chained ∷ []) 0 (codes "a")
a_is_flagged = further 0 (codes "a") (codes "b") refl refl (has_at chained 1 (including (codes "b") (codes "c")) refl) b_is_flagged

-- ── the first history ──

abbrev gs : List Grammar
gs = grammars first

abbrev host_main : Context
host_main = context_of main (include into_shared ∷ match (match_of false (push (embed_absent ∷ []))) ∷ [])

host_held : ContextOf host main host_main
host_held = held host 0 host_main refl

refers : (k : ℕ) (r : Reference) → At (references host_main) k r → ReferenceAt gs 3 main k r
refers k r a = record { grammar = host; there = refl; context = host_main; held = host_held; is = a }

scope_leads_to_the_late_one : Leads gs 3 into_shared 2 main
scope_leads_to_the_late_one = found refl (found_by_scope shared_scope gs main 2 late refl refl refl (has_at late 0 (popping main) refl))

absent_is_missing : Missing (OfScope absent_scope) gs main
absent_is_missing = no_such_scope absent_scope gs main refl

embed_falls_back_to_plain_text : Leads gs 3 embed_absent 0 main
embed_falls_back_to_plain_text = fallback refl absent_is_missing refl (found_by_name plain_text gs main 0 plain refl refl refl (has_at plain 0 (context_of main []) refl))

only_embed_falls_back : Nowhere gs 3 include_absent
only_embed_falls_back j n (found e f) = absent_is_missing j f
only_embed_falls_back j n (fallback e m h f) = false≢true e

abbrev host_chain : Chain gs 3 main
host_chain = over host host_main into_shared 2 main refl host_held (record { place = 0; there = refl }) scope_leads_to_the_late_one
    (ends late (popping main) refl (held late 0 (popping main) refl) (pops main))

-- ── two orders ──

counted_adds : {A : Type 0} (d : Dec A) (n : ℕ) → counted d n ≡ counted d 0 + n
counted_adds (yes a) n = omega arith
counted_adds (no h) n = omega arith

-- the orders of the first and of the second history
six : {A B C D E G : Type 0} (a : Dec A) (b : Dec B) (c : Dec C) (d : Dec D) (e : Dec E) (g : Dec G) →
    counted a (counted b (counted e (counted c (counted d (counted g 0))))) ≡ counted g (counted d (counted a (counted b (counted c (counted e 0)))))
six a b c d e g = omega (arith, counted_adds)

copies_other : (o p : Offer) (ps : List Offer) → ¬ (o ≡ p) → copies o (p ∷ ps) ≡ copies o ps
copies_other o p ps h = go (same? o p)
  where
    go : (d : Dec (o ≡ p)) → counted d (copies o ps) ≡ copies o ps
    go (yes e) = absurd (h e)
    go (no m) = refl

same_offers : SameOffers (offers first) (offers second)
same_offers o = six (same? o (offer_of 0)) (same? o (offer_of 1)) (same? o (offer_of 2)) (same? o (offer_of 3)) (same? o (offer_of 4)) (same? o (offer_of 9))

node : Offer → ℕ
node o = number o.tree

-- where an accepted offer of the first history stands in the second
abbrev place : ℕ → ℕ
place m = cond (eqb m 3) 0 (suc m)

place_in_first : (i : ℕ) (o : Offer) → At (offers_of (taken first)) i o → i ≡ node o
unfolding node
place_in_first zero o a = ap node a
place_in_first (suc zero) o a = ap node a
place_in_first (suc (suc zero)) o a = ap node a
place_in_first (suc (suc (suc zero))) o a = ap node a
place_in_first (suc (suc (suc (suc i)))) o a = absurd a

place_in_second : (j : ℕ) (o : Offer) → At (offers_of (taken second)) j o → j ≡ place (node o)
unfolding node
place_in_second zero o a = ap (λ x. place (node x)) a
place_in_second (suc zero) o a = ap (λ x. place (node x)) a
place_in_second (suc (suc zero)) o a = ap (λ x. place (node x)) a
place_in_second (suc (suc (suc zero))) o a = ap (λ x. place (node x)) a
place_in_second (suc (suc (suc (suc j)))) o a = absurd a

twin_places : (i j : ℕ) → Twins (offers_of (taken first)) (offers_of (taken second)) i j → j ≡ place i
twin_places i j w = place_in_second j w.offer w.right ∙ ap place (sym (place_in_first i w.offer w.left))

apart : (g h : Grammar) → same_scope g.scope h.scope ≡ false → bytes_eq g.name h.name ≡ false → ¬ Rivals g h
apart g h s n (inl e) = both_ways (same_scope g.scope h.scope) s (subst (λ (t : Scope). same_scope g.scope t ≡ true) e (same_scope_lem g.scope))
apart g h s n (inr e) = both_ways (bytes_eq g.name h.name) n (same_text g.name h.name e)

-- rivals stay rivals under other names for them
renamed : (g h : Grammar) {g' h' : Grammar} → g ≡ g' → h ≡ h' → Rivals g' h' → Rivals g h
renamed g h p q r = subst₂ Rivals (sym p) (sym q) r

host_has_no_rival : (i : ℕ) (t t' : Taken) → i < 3 → At (taken first) i t → At (taken first) 3 t' → ¬ Rivals t.grammar t'.grammar
host_has_no_rival zero t t' l a b r = apart plain host refl refl (renamed plain host (ap (λ x. x.grammar) a) (ap (λ x. x.grammar) b) r)
host_has_no_rival (suc zero) t t' l a b r = apart early host refl refl (renamed early host (ap (λ x. x.grammar) a) (ap (λ x. x.grammar) b) r)
host_has_no_rival (suc (suc zero)) t t' l a b r = apart late host refl refl (renamed late host (ap (λ x. x.grammar) a) (ap (λ x. x.grammar) b) r)
host_has_no_rival (suc (suc (suc i))) t t' l a b r = absurd (omega arith)

-- places below the host's, in order
in_order : (i i' : ℕ) → ¬ (i ≡ 3) → ¬ (i' ≡ 3) → i < i' → place i < place i'
in_order i i' n m l = rw (ne_eqb i 3 n, ne_eqb i' 3 m) (omega arith)

-- rivals keep their order if the fourth of four has none
placed : (ts : List Taken) → length ts ≡ 4 →
    ((i : ℕ) (t t' : Taken) → i < 3 → At ts i t → At ts 3 t' → ¬ Rivals t.grammar t'.grammar) →
    (i i' : ℕ) (t t' : Taken) → At ts i t → At ts i' t' → Rivals t.grammar t'.grammar → i < i' → place i < place i'
placed ts e alone i zero t t' a b r l = absurd (omega arith)
placed ts e alone i (suc zero) t t' a b r l = in_order i 1 (omega arith) (omega arith) l
placed ts e alone i (suc (suc zero)) t t' a b r l = in_order i 2 (omega arith) (omega arith) l
placed ts e alone i (suc (suc (suc zero))) t t' a b r l = absurd (alone i t t' l a b r)
placed ts e alone i (suc (suc (suc (suc j)))) t t' a b r l = absurd (omega (arith, at_below ts (suc (suc (suc (suc j)))) t' b))

one_order : OneOrder (taken first) (taken second)
one_order i i' j j' t t' w w' a a' r l = subst₂ ◌<◌ (sym (twin_places i j w)) (sym (twin_places i' j' w')) (placed (taken first) refl host_has_no_rival i i' t t' a a' r l)

orders_are_comparable : Comparable first second
orders_are_comparable = record {
  same_offers = same_offers;
  room_left = (tt, (tt, (tt, (tt, (tt, (tt, tt))))));
  room_right = (tt, (tt, (tt, (tt, (tt, (tt, tt))))));
  one_order = one_order;
}

orders_differ : ¬ (first ≡ second)
unfolding node
orders_differ e = ends_meet (ap (λ (c : Call ℕ). node c.offer) (subst (λ (h : List (Call ℕ)). At h 0 plain_call) e refl))
  where
    ends_meet : ◌≡◌ {A = ℕ} 9 0 → ⊥
    ends_meet h = omega arith

-- ── rivals that change places ──

other_offer : (k m : ℕ) → eqb k m ≡ false → ¬ (offer_of k ≡ offer_of m)
unfolding node
other_offer k m h e = eqb-false k m h (ap node e)

abbrev numbered : List ℕ → List Offer
numbered [] = []
numbered (m ∷ ms) = offer_of m ∷ numbered ms

no_copy : (k : ℕ) (ms : List ℕ) → every (λ m. not (eqb k m)) ms ≡ true → copies (offer_of k) (numbered ms) ≡ 0
no_copy k [] e = refl
no_copy k (m ∷ ms) e =
    copies_other (offer_of k) (offer_of m) (numbered ms) (other_offer k m (not-true (eqb k m) (and_parts (not (eqb k m)) _ e).0)) ∙ no_copy k ms (and_parts (not (eqb k m)) _ e).1

early_twins : Correspond first swapped 1 2
early_twins = record { offer = offer_of 1; left = refl; right = refl; as_many = no_copy 1 (0 ∷ []) refl ∙ sym (no_copy 1 (0 ∷ 2 ∷ []) refl) }

late_twins : Correspond first swapped 2 1
late_twins = record { offer = offer_of 2; left = refl; right = refl; as_many = no_copy 2 (0 ∷ 1 ∷ []) refl ∙ sym (no_copy 2 (0 ∷ []) refl) }

host_twins : Correspond first swapped 3 3
host_twins = record { offer = offer_of 3; left = refl; right = refl; as_many = no_copy 3 (0 ∷ 1 ∷ 2 ∷ []) refl ∙ sym (no_copy 3 (0 ∷ 2 ∷ 1 ∷ []) refl) }

swapped_is_not_comparable : ¬ Comparable first swapped
swapped_is_not_comparable c =
    let wrong : 2 < 1 = c.one_order 1 2 2 1 (record { offer = offer_of 1; grammar = early }) (record { offer = offer_of 2; grammar = late }) early_twins late_twins refl refl (inl refl) (omega arith) in
    omega arith

late_in_swapped : (j : ℕ) → At (offers_of (taken swapped)) j (offer_of 2) → j ≡ 1
late_in_swapped zero a = absurd (other_offer 0 2 refl a)
late_in_swapped (suc zero) a = refl
late_in_swapped (suc (suc zero)) a = absurd (other_offer 1 2 refl a)
late_in_swapped (suc (suc (suc zero))) a = absurd (other_offer 3 2 refl a)
late_in_swapped (suc (suc (suc (suc j)))) a = absurd a

not_to_late : ¬ Leads (grammars swapped) 3 into_shared 1 main
not_to_late (found e f) = f.last.no_later 2 early (omega arith) refl refl
not_to_late (fallback e m h f) = false≢true e

swapped_does_not_agree : ¬ AgreeWholly (Correspond first swapped) (grammars first) (grammars swapped)
swapped_does_not_agree h =
    let l = (h.agree.links 3 3 main 0 into_shared host_twins (refers 0 into_shared refl) (λ x. x)).there 2 main scope_leads_to_the_late_one in
    let at-late = late_in_swapped l.0 (subst (At (offers_of (taken swapped)) l.0) (sym l.1.left) l.1.right) in
    not_to_late (subst (λ (j : ℕ). Leads (grammars swapped) 3 into_shared j main) at-late l.2)

-- ── one tree more ──

one_more_moves_the_fallback : Leads (grammars third) 0 embed_absent 2 main
one_more_moves_the_fallback = fallback refl (no_such_scope absent_scope (grammars third) main refl) refl
    (found_by_name plain_text (grammars third) main 2 plain_again refl refl refl (has_at plain_again 0 (context_of main []) refl))

the_include_may_not : ¬ MayMove gs plain_again into_shared
the_include_may_not (inl e) = false≢true (of_scope shared_scope plain_again e)
the_include_may_not (inr e) = false≢true e.1.0

-- ── copies of one tree ──

copies_same : (o : Offer) (ps : List Offer) → copies o (o ∷ ps) ≡ suc (copies o ps)
copies_same o ps = go (same? o o)
  where
    go : (d : Dec (o ≡ o)) → counted d (copies o ps) ≡ suc (copies o ps)
    go (yes e) = refl
    go (no h) = absurd (h refl)

-- the orders of the two
four : {A B C : Type 0} (a : Dec A) (b : Dec B) (c : Dec C) →
    counted b (counted c (counted b (counted a 0))) ≡ counted a (counted b (counted c (counted b 0)))
four a b c = omega (arith, counted_adds)

abbrev left : List Offer
left = offers_of (taken repeated)

abbrev right : List Offer
right = offers_of (taken repeated_moved)

-- the offer of a twin, by its number
both_there : (k m : ℕ) (o : Offer) → offer_of k ≡ o → offer_of m ≡ o → eqb k m ≡ false → ⊥
both_there k m o p q e = other_offer k m e (p ∙ sym q)

one_copy : (k : ℕ) (ms : List ℕ) → every (λ m. not (eqb k m)) ms ≡ true → copies (offer_of k) (numbered (k ∷ ms)) ≡ 1
one_copy k ms e = copies_same (offer_of k) (numbered ms) ∙ ap suc (no_copy k ms e)

first_not_second : ¬ Twins left right 0 3
first_not_second w = absurd (omega (arith, counts))
  where
    counts : ◌≡◌ {A = ℕ} 0 1
    counts = subst (λ (o : Offer). 0 ≡ copies o (numbered (0 ∷ 1 ∷ 2 ∷ []))) (sym w.left) w.as_many
        ∙ copies_other (offer_of 1) (offer_of 0) (numbered (1 ∷ 2 ∷ [])) (other_offer 1 0 refl) ∙ one_copy 1 (2 ∷ []) refl

second_not_first : ¬ Twins left right 2 1
second_not_first w = absurd (omega (arith, counts))
  where
    counts : ◌≡◌ {A = ℕ} 1 0
    counts = sym (one_copy 1 (2 ∷ []) refl)
        ∙ subst (λ (o : Offer). copies o (numbered (1 ∷ 2 ∷ [])) ≡ copies o (numbered (0 ∷ []))) (sym w.left) w.as_many ∙ no_copy 1 (0 ∷ []) refl

copy_places : (i j : ℕ) → Twins left right i j → j ≡ place i
copy_places zero zero w = absurd (both_there 1 0 w.offer w.left w.right refl)
copy_places zero (suc zero) w = refl
copy_places zero (suc (suc zero)) w = absurd (both_there 1 2 w.offer w.left w.right refl)
copy_places zero (suc (suc (suc zero))) w = absurd (first_not_second w)
copy_places zero (suc (suc (suc (suc j)))) w = absurd w.right
copy_places (suc zero) zero w = absurd (both_there 2 0 w.offer w.left w.right refl)
copy_places (suc zero) (suc zero) w = absurd (both_there 2 1 w.offer w.left w.right refl)
copy_places (suc zero) (suc (suc zero)) w = refl
copy_places (suc zero) (suc (suc (suc zero))) w = absurd (both_there 2 1 w.offer w.left w.right refl)
copy_places (suc zero) (suc (suc (suc (suc j)))) w = absurd w.right
copy_places (suc (suc zero)) zero w = absurd (both_there 1 0 w.offer w.left w.right refl)
copy_places (suc (suc zero)) (suc zero) w = absurd (second_not_first w)
copy_places (suc (suc zero)) (suc (suc zero)) w = absurd (both_there 1 2 w.offer w.left w.right refl)
copy_places (suc (suc zero)) (suc (suc (suc zero))) w = refl
copy_places (suc (suc zero)) (suc (suc (suc (suc j)))) w = absurd w.right
copy_places (suc (suc (suc zero))) zero w = refl
copy_places (suc (suc (suc zero))) (suc zero) w = absurd (both_there 0 1 w.offer w.left w.right refl)
copy_places (suc (suc (suc zero))) (suc (suc zero)) w = absurd (both_there 0 2 w.offer w.left w.right refl)
copy_places (suc (suc (suc zero))) (suc (suc (suc zero))) w = absurd (both_there 0 1 w.offer w.left w.right refl)
copy_places (suc (suc (suc zero))) (suc (suc (suc (suc j)))) w = absurd w.right
copy_places (suc (suc (suc (suc i)))) j w = absurd w.left

plain_has_no_rival : (i : ℕ) (t t' : Taken) → i < 3 → At (taken repeated) i t → At (taken repeated) 3 t' → ¬ Rivals t.grammar t'.grammar
plain_has_no_rival zero t t' l a b r = apart early plain refl refl (renamed early plain (ap (λ x. x.grammar) a) (ap (λ x. x.grammar) b) r)
plain_has_no_rival (suc zero) t t' l a b r = apart late plain refl refl (renamed late plain (ap (λ x. x.grammar) a) (ap (λ x. x.grammar) b) r)
plain_has_no_rival (suc (suc zero)) t t' l a b r = apart early plain refl refl (renamed early plain (ap (λ x. x.grammar) a) (ap (λ x. x.grammar) b) r)
plain_has_no_rival (suc (suc (suc i))) t t' l a b r = absurd (omega arith)

copies_are_comparable : Comparable repeated repeated_moved
copies_are_comparable = record {
  same_offers = λ o. four (same? o (offer_of 0)) (same? o (offer_of 1)) (same? o (offer_of 2));
  room_left = (tt, (tt, (tt, (tt, tt))));
  room_right = (tt, (tt, (tt, (tt, tt))));
  one_order = λ i i' j j' t t' w w' a a' r l. subst₂ ◌<◌ (sym (copy_places i j w)) (sym (copy_places i' j' w')) (placed (taken repeated) refl plain_has_no_rival i i' t t' a a' r l);
}

-- ── all of them ──

pub worked_examples : WorkedExamples
worked_examples = record {
  first_is_a_history = (refl, (refl, (refl, (refl, (refl, (refl, tt))))));
  second_is_a_history = (refl, (refl, (refl, (refl, (refl, (refl, tt))))));
  orders_differ = orders_differ;
  orders_are_comparable = orders_are_comparable;
  early_and_late_are_rivals = inl refl;
  places_in_first = refl;
  places_in_second = refl;
  third_is_a_history = (refl, (refl, (refl, (refl, (refl, (refl, (refl, tt)))))));
  comparable_without_the_one_more = orders_are_comparable;
  one_more_moves_the_fallback = one_more_moves_the_fallback;
  the_fallback_may_move = inr (refl, (refl, absent_is_missing));
  the_include_may_not = the_include_may_not;
  repeated_is_a_history = (refl, (refl, (refl, (refl, tt))));
  repeated_moved_is_a_history = (refl, (refl, (refl, (refl, tt))));
  copies_are_comparable = copies_are_comparable;
  first_copy_is_the_first = record { offer = offer_of 1; left = refl; right = refl; as_many = sym (no_copy 1 (0 ∷ []) refl) };
  first_copy_is_not_the_second = first_not_second;
  swapped_is_a_history = (refl, (refl, (refl, (refl, (refl, (refl, tt))))));
  swapped_is_not_comparable = swapped_is_not_comparable;
  swapped_does_not_agree = swapped_does_not_agree;
  host_refers_by_scope = refers 0 into_shared refl;
  scope_leads_to_the_late_one = scope_leads_to_the_late_one;
  host_embeds = refers 1 embed_absent refl;
  embed_is_a_fallback = (refl, absent_is_missing);
  embed_falls_back_to_plain_text = embed_falls_back_to_plain_text;
  only_embed_falls_back = only_embed_falls_back;
  host_is_flagged_over_the_link = (host_chain, refl, inl (refl, refl, refl, refl));
  linking_nothing_is_wrong = linking_nothing_is_wrong;
  earlier_has_x = earlier_has_x;
  last_lacks_x = last_lacks_x;
  trying_earlier_is_wrong = trying_earlier_is_wrong;
  later_decides = found refl found_late;
  earlier_does_not = earlier_does_not;
  taking_the_earliest_is_wrong = taking_the_earliest_is_wrong;
  links_reach_x = links_reach_x;
  x_is_not_reached = unreached text_x refl;
  x_has_the_prototype = has_prototype 2 text_x refl refl;
  links_reach_main = links_reach_main;
  main_is_not_reached = unreached main refl;
  main_has_the_prototype = has_prototype 0 main refl refl;
  y_is_reached = y_is_reached;
  y_lacks_the_prototype = y_lacks_the_prototype;
  z_is_not_reached = unreached text_z refl;
  z_lacks_the_prototype = z_lacks_the_prototype;
  a_is_flagged = a_is_flagged;
  b_is_flagged = b_is_flagged;
  c_is_flagged = c_is_flagged;
  d_is_not_flagged = no_chain (chained ∷ []) chained refl refl;
  e_is_not_flagged = no_chain (chained ∷ []) chained refl refl;
}
