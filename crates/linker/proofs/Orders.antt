-- Two orders of adding agree.
use Rattle.std.proofs.Common.{◌≡◌, ℕ, List, sym, ◌∙◌, subst, inl, ⊎_elim}
use Rattle.grammar.specs.Places.{At}
use Rattle.grammar.specs.Grammars.{Reference, named, inline, by_scope, file, Grammar}
use Rattle.grammar.proofs.Places.{at_same}
use Rattle.linker.specs.Histories.{grammar, Meaning, Verdicts, Call, History, taken, offers_of, grammars, SameOffers}
use Rattle.linker.specs.Law.{Rivals, Comparable, Correspond, AgreeWholly, OrdersAgree}
use Rattle.linker.proofs.Agreement.{Matched, Unmoved, same_link, flags_there, flags_back, agree, goes_over_none}
use Rattle.linker.proofs.Copies.{twins_turned, twin_there, twin_alone}
use Rattle.linker.proofs.Offers.{taken_offer, taken_grammar, by_offer, by_grammar, grammar_once, taken_meant, same_history, same_taken, same_answers}

module _ {F : Type 0} (meaning : Meaning F) (v : Verdicts F) where
  -- corresponding places have the same grammar
  same_there : (h k : List (Call F)) → History meaning v h → History meaning v k → (i j : ℕ) (g : Grammar) → Correspond h k i j → At (grammars h) i g → At (grammars k) j g
  same_there h k p q i j g s a =
      let t = by_grammar (taken h) i g a in
      let u = by_offer (taken k) j s.offer s.right in
      let e = at_same (offers_of (taken h)) i t.0.offer s.offer (taken_offer (taken h) i t.0 t.1) s.left in
      let m = taken_meant meaning v h p i t.0 t.1 in
      let n = subst (λ o. meaning v o ≡ grammar u.0.grammar) (u.2 ∙ sym e) (taken_meant meaning v k q j u.0 u.1) in
      subst (λ x. At (grammars k) j x) (sym (grammar_once (meaning v t.0.offer) t.0.grammar u.0.grammar m n) ∙ t.2) (taken_grammar (taken k) j u.0 u.1)

  module _ (h k : List (Call F)) (p : History meaning v h) (q : History meaning v k) (c : Comparable h k) where
    pub matched : Matched (Correspond h k) (λ j. ⊥) (grammars h) (grammars k)
    matched = record {
      paired = record {
        each_there = λ i g a.
            let t = by_grammar (taken h) i g a in
            twin_there (offers_of (taken h)) (offers_of (taken k)) same i t.0.offer (taken_offer (taken h) i t.0 t.1);
        each_back = λ j g a.
            let t = by_grammar (taken k) j g a in
            let s = twin_there (offers_of (taken k)) (offers_of (taken h)) (λ o. sym (same o)) j t.0.offer (taken_offer (taken k) j t.0 t.1) in
            inl (s.0, twins_turned s.1);
        no_counterpart = λ i j x s. x;
        same_grammar = λ i j g s. (same_there h k p q i j g s, same_there k h q p j i g (twins_turned s));
      };
      once_there = λ i j l s t. twin_alone (offers_of (taken h)) (offers_of (taken k)) i j l s t;
      once_back = λ i l j s t. twin_alone (offers_of (taken k)) (offers_of (taken h)) j i l (twins_turned s) (twins_turned t);
      one_order = λ i i' j j' g g' s s' a a' r l.
          let t = by_grammar (taken h) i g a in
          let t' = by_grammar (taken h) i' g' a' in
          c.one_order i i' j j' t.0 t'.0 s s' t.1 t'.1 (subst (λ x. Rivals x t'.0.grammar) (sym t.2) (subst (λ x. Rivals g x) (sym t'.2) r)) l;
    }
      where
        same : SameOffers (offers_of (taken h)) (offers_of (taken k))
        same = same_taken meaning v h k p q c.same_offers c.room_left c.room_right

    unmoved : (r : Reference) → Unmoved (Correspond h k) (λ j. ⊥) (grammars h) (grammars k) matched r
    unmoved (named n) = tt
    unmoved (inline n) = tt
    unmoved (by_scope s sub embed) = (λ j g x. absurd x, λ t m j g x. absurd x)
    unmoved (file n sub embed) = (λ j g x. absurd x, λ t m j g x. absurd x)

    pub agree_wholly : AgreeWholly (Correspond h k) (grammars h) (grammars k)
    agree_wholly = record {
      paired = matched.paired;
      agree = agree (Correspond h k) (λ j. ⊥) (grammars h) (grammars k) matched (λ r. ⊥) (λ r x. unmoved r);
      flags = λ i j n s. (
        λ chain. ⊎_elim (λ x. x) (λ x. absurd (goes_over_none _ (λ a r b m d. d.2 (same_link (Correspond h k) (λ j. ⊥) (grammars h) (grammars k) matched a d.0 r d.1 (unmoved r))) chain x))
            (flags_there (Correspond h k) (λ j. ⊥) (grammars h) (grammars k) matched i j n s chain),
        λ chain. ⊎_elim (λ x. x) (λ x. absurd (goes_over_none _ (λ a r b m d. d.2 (same_link (Correspond h k) (λ j. ⊥) (grammars h) (grammars k) matched d.0 a r d.1 (unmoved r))) chain x))
            (flags_back (Correspond h k) (λ j. ⊥) (grammars h) (grammars k) matched i j n s chain),
      );
    }

pub orders_agree : {F : Type 0} → OrdersAgree F
orders_agree meaning v w h k e p q c =
    let q' = same_history meaning v w e k q in
    (same_answers meaning v h k p q' c.same_offers c.room_left c.room_right, agree_wholly meaning v h k p q' c)
