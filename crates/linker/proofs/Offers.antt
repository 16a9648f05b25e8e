-- What a history answers follows from what its offers mean.
use Rattle.std.proofs.Common.{◌≡◌, ℕ, zero, suc, List, [], ◌∷◌, ◌++◌, sym, refl, ap, ◌∙◌, subst}
use mathlib.Core.Path.{fun_ext}
use Rattle.std.specs.List.{AllByRecursion}
use Rattle.grammar.specs.declared.refusal.Refusal.{Refusal}
use Rattle.grammar.specs.Places.{At}
use Rattle.grammar.specs.Grammars.{Grammar}
use Rattle.grammar.proofs.Places.{at_same}
use Rattle.linker.specs.Histories.{Offer, same?, Outcome, grammar, refusal, Verdicts, Meaning, Answer, accepted, refused, no_room, Call, Answers, History, HadRoom, RoomThroughout, offers, Taken, taken_by, taken, offers_of, grammars_of, counted, copies, SameOffers}
use Rattle.linker.specs.Law.{SameVerdicts, SameAnswers}
use Rattle.linker.proofs.Copies.{twins_turned, twin_there}

-- ── places of offers, calls and grammars ──

module _ {F : Type 0} where
  pub offer_at : (h : List (Call F)) (i : ℕ) (c : Call F) → At h i c → At (offers h) i c.offer
  offer_at [] i c a = a
  offer_at (d ∷ h) zero c a = ap (λ x. x.offer) a
  offer_at (d ∷ h) (suc i) c a = offer_at h i c a

  pub call_at : (h : List (Call F)) (i : ℕ) (o : Offer) → At (offers h) i o → (c : Call F) × At h i c × (c.offer ≡ o)
  call_at [] i o a = absurd a
  call_at (d ∷ h) zero o a = (d, refl, a)
  call_at (d ∷ h) (suc i) o a = call_at h i o a

  pub all_at : (P : Call F → Type 0) (h : List (Call F)) → AllByRecursion P h → (i : ℕ) (c : Call F) → At h i c → P c
  all_at P [] p i c a = absurd a
  all_at P (d ∷ h) p zero c a = subst P a p.0
  all_at P (d ∷ h) p (suc i) c a = all_at P h p.1 i c a

pub taken_offer : (ts : List Taken) (i : ℕ) (t : Taken) → At ts i t → At (offers_of ts) i t.offer
taken_offer [] i t a = a
taken_offer (u ∷ ts) zero t a = ap (λ x. x.offer) a
taken_offer (u ∷ ts) (suc i) t a = taken_offer ts i t a

pub taken_grammar : (ts : List Taken) (i : ℕ) (t : Taken) → At ts i t → At (grammars_of ts) i t.grammar
taken_grammar [] i t a = a
taken_grammar (u ∷ ts) zero t a = ap (λ x. x.grammar) a
taken_grammar (u ∷ ts) (suc i) t a = taken_grammar ts i t a

pub by_offer : (ts : List Taken) (i : ℕ) (o : Offer) → At (offers_of ts) i o → (t : Taken) × At ts i t × (t.offer ≡ o)
by_offer [] i o a = absurd a
by_offer (u ∷ ts) zero o a = (u, refl, a)
by_offer (u ∷ ts) (suc i) o a = by_offer ts i o a

pub by_grammar : (ts : List Taken) (i : ℕ) (g : Grammar) → At (grammars_of ts) i g → (t : Taken) × At ts i t × (t.grammar ≡ g)
by_grammar [] i g a = absurd a
by_grammar (u ∷ ts) zero g a = (u, refl, a)
by_grammar (u ∷ ts) (suc i) g a = by_grammar ts i g a

-- ── an answer is determined by what the offer means ──

grammar_of_lem : {F : Type 0} → Grammar → Outcome F → Grammar
grammar_of_lem d (grammar g) = g
grammar_of_lem d (refusal r) = d

refusal_of : {F : Type 0} → Refusal F → Outcome F → Refusal F
refusal_of d (grammar g) = d
refusal_of d (refusal r) = r

IsGrammar : {F : Type 0} → Outcome F → Type 0
IsGrammar (grammar g) = Unit {0}
IsGrammar (refusal r) = ⊥

module _ {F : Type 0} where
  pub grammar_once : (out : Outcome F) (g h : Grammar) → out ≡ grammar g → out ≡ grammar h → g ≡ h
  unfolding grammar_of_lem
  grammar_once out g h a b = ap (grammar_of_lem g) (sym a ∙ b)

  refusal_once : (out : Outcome F) (r s : Refusal F) → out ≡ refusal r → out ≡ refusal s → r ≡ s
  unfolding refusal_of
  refusal_once out r s a b = ap (refusal_of r) (sym a ∙ b)

  pub not_both : (out : Outcome F) (g : Grammar) (r : Refusal F) → out ≡ grammar g → out ≡ refusal r → ⊥
  unfolding IsGrammar
  not_both out g r a b = subst IsGrammar (sym a ∙ b) tt

  answer_once : (out : Outcome F) (a b : Answer F) → Answers out a → HadRoom a → Answers out b → HadRoom b → a ≡ b
  answer_once out (accepted g) (accepted h) p q p' q' = ap accepted (grammar_once out g h p p')
  answer_once out (accepted g) (refused r) p q p' q' = absurd (not_both out g r p p')
  answer_once out (accepted g) no_room p q p' q' = absurd q'
  answer_once out (refused r) (accepted g) p q p' q' = absurd (not_both out g r p' p)
  answer_once out (refused r) (refused s) p q p' q' = ap refused (refusal_once out r s p p')
  answer_once out (refused r) no_room p q p' q' = absurd q'
  answer_once out no_room b p q p' q' = absurd q

module _ {F : Type 0} (meaning : Meaning F) (v : Verdicts F) where
  -- each accepted grammar is what its offer means
  taken_step : (o : Offer) (a : Answer F) (ts : List Taken) → Answers (meaning v o) a → ((i : ℕ) (t : Taken) → At ts i t → meaning v t.offer ≡ grammar t.grammar) →
      (i : ℕ) (t : Taken) → At (taken_by o a ++ ts) i t → meaning v t.offer ≡ grammar t.grammar
  taken_step o (accepted g) ts p rest zero t e = subst (λ u. meaning v u.offer ≡ grammar u.grammar) e p
  taken_step o (accepted g) ts p rest (suc i) t e = rest i t e
  taken_step o (refused r) ts p rest i t e = rest i t e
  taken_step o no_room ts p rest i t e = rest i t e

  pub taken_meant : (h : List (Call F)) → History meaning v h → (i : ℕ) (t : Taken) → At (taken h) i t → meaning v t.offer ≡ grammar t.grammar
  taken_meant [] p i t a = absurd a
  taken_meant (c ∷ h) p i t a = taken_step c.offer c.answer (taken h) p.0 (taken_meant h p.1) i t a

  -- copies of an offer are all accepted or all refused
  abbrev kept : Outcome F → ℕ → ℕ
  kept (grammar g) n = n
  kept (refusal r) n = 0

  copies_step : (o p : Offer) (a : Answer F) (ts : List Taken) (n : ℕ) → Answers (meaning v p) a → HadRoom a → copies o (offers_of ts) ≡ kept (meaning v o) n →
      copies o (offers_of (taken_by p a ++ ts)) ≡ kept (meaning v o) (counted (same? o p) n)
  copies_step o p (accepted g) ts n w q e = go (same? o p)
    where
      go : (d : Dec (o ≡ p)) → counted d (copies o (offers_of ts)) ≡ kept (meaning v o) (counted d n)
      go (yes x) = let m : meaning v o ≡ grammar g = subst (λ y. meaning v y ≡ grammar g) (sym x) w in
          ap suc (subst (λ y. copies o (offers_of ts) ≡ kept y n) m e) ∙ subst (λ y. suc n ≡ kept y (suc n)) (sym m) refl
      go (no x) = e
  copies_step o p (refused r) ts n w q e = go (same? o p)
    where
      go : (d : Dec (o ≡ p)) → copies o (offers_of ts) ≡ kept (meaning v o) (counted d n)
      go (yes x) = let m : meaning v o ≡ refusal r = subst (λ y. meaning v y ≡ refusal r) (sym x) w in
          subst (λ y. copies o (offers_of ts) ≡ kept y n) m e ∙ subst (λ y. 0 ≡ kept y (suc n)) (sym m) refl
      go (no x) = e
  copies_step o p no_room ts n w q e = absurd q

  kept_nothing : (out : Outcome F) → 0 ≡ kept out 0
  kept_nothing (grammar g) = refl
  kept_nothing (refusal r) = refl

  pub copies_taken : (o : Offer) (h : List (Call F)) → History meaning v h → RoomThroughout h → copies o (offers_of (taken h)) ≡ kept (meaning v o) (copies o (offers h))
  copies_taken o [] p q = kept_nothing (meaning v o)
  copies_taken o (c ∷ h) p q = copies_step o c.offer c.answer (taken h) (copies o (offers h)) p.0 q.0 (copies_taken o h p.1 q.1)

-- ── two histories over engines of one meaning ──

pub same_history : {F : Type 0} (meaning : Meaning F) (v w : Verdicts F) → SameVerdicts v w → (k : List (Call F)) → History meaning w k → History meaning v k
same_history meaning v w e k p = subst (λ u. History meaning u k) (sym (fun_ext e)) p

module _ {F : Type 0} (meaning : Meaning F) (v : Verdicts F) (h k : List (Call F)) (p : History meaning v h) (q : History meaning v k)
    (same : SameOffers (offers h) (offers k)) (room : RoomThroughout h) (room' : RoomThroughout k) where
  pub same_taken : SameOffers (offers_of (taken h)) (offers_of (taken k))
  same_taken o = copies_taken meaning v o h p room ∙ ap (kept meaning v (meaning v o)) (same o) ∙ sym (copies_taken meaning v o k q room')

  -- calls with one offer are one call
  same_call : (i j : ℕ) (c d : Call F) → At h i c → At k j d → c.offer ≡ d.offer → c ≡ d
  same_call i j c d a b e =
      let P : Call F → Type 0 = λ x. Answers (meaning v x.offer) x.answer in
      let t : c.answer ≡ d.answer = answer_once (meaning v c.offer) c.answer d.answer
      (all_at P h p i c a) (all_at (λ x. HadRoom x.answer) h room i c a)
      (subst (λ o. Answers (meaning v o) d.answer) (sym e) (all_at P k q j d b)) (all_at (λ x. HadRoom x.answer) k room' j d b) in
      λ x. record { offer = e x; answer = t x }

  pub same_answers : SameAnswers h k
  same_answers = record {
    there = λ i c a.
        let t = twin_there (offers h) (offers k) same i c.offer (offer_at h i c a) in
        let e = at_same (offers h) i t.1.offer c.offer t.1.left (offer_at h i c a) in
        let d = call_at k t.0 t.1.offer t.1.right in
        (t.0, t.1, subst (λ x. At k t.0 x) (sym (same_call i t.0 c d.0 a d.1 (sym e ∙ sym d.2))) d.1);
    back = λ j c a.
        let t = twin_there (offers k) (offers h) (λ o. sym (same o)) j c.offer (offer_at k j c a) in
        let e = at_same (offers k) j t.1.offer c.offer t.1.left (offer_at k j c a) in
        let d = call_at h t.0 t.1.offer t.1.right in
        (t.0, twins_turned t.1, subst (λ x. At h t.0 x) (same_call t.0 j d.0 c d.1 a (d.2 ∙ e)) d.1);
  }
