-- One tree more changes only what the law names.
use Rattle.std.proofs.Common.{◌≡◌, ℕ, zero, suc, ◌+◌, ◌<◌, ◌≤◌, ltb, ◌⊎◌, List, [], ◌∷◌, ◌++◌, length, sym, refl, ap, ◌∙◌, subst, inl, inr, ⊎_elim, append_assoc, arith, le-ltb, lt-ltb}
use Rattle.std.specs.List.{AllByRecursion}
use Rattle.std.proofs.lemmas.Bool.{cases_lt, cond-true, cond-false}
use Rattle.grammar.specs.Places.{At}
use Rattle.grammar.specs.Grammars.{Reference, named, inline, by_scope, file, Grammar}
use Rattle.grammar.proofs.Places.{at_below, at_left, at_right, at_either}
use Rattle.linker.specs.Histories.{Offer, Meaning, Verdicts, Answer, accepted, Call, Answers, History, Taken, taken_by, taken, grammars_of, grammars}
use Rattle.linker.specs.Law.{Correspond, Paired, Agree, OneMore, set_aside, moved, CorrespondBeside, MayMove, OneMoreChangesLittle}
use Rattle.linker.proofs.Agreement.{Matched, Unmoved, agree}
use Rattle.linker.proofs.Offers.{same_history, same_answers}
use Rattle.linker.proofs.Orders.{matched}

-- ── places beside one more ──

moved_below : (p l : ℕ) → l < p → moved p l ≡ l
moved_below p l h = cond-true (ltb l p) l (suc l) (lt-ltb l p h)

moved_above : (p l : ℕ) → p ≤ l → moved p l ≡ suc l
moved_above p l h = cond-false (ltb l p) l (suc l) (le-ltb l p h)

-- where a place is moved to
data Moves (p l : ℕ) : Type 0 where
  stays : l < p → moved p l ≡ l → Moves p l
  goes : p ≤ l → moved p l ≡ suc l → Moves p l

moves : (p l : ℕ) → Moves p l
moves p l = ⊎_elim (λ h. stays h (moved_below p l h)) (λ h. goes h (moved_above p l h)) (cases_lt l p)

moved_apart : (p l : ℕ) → ¬ (moved p l ≡ p)
moved_apart p l e = go (moves p l)
  where
    go : Moves p l → ⊥
    go (stays h m) = omega arith
    go (goes h m) = omega arith

moved_once : (p l k : ℕ) → moved p l ≡ moved p k → l ≡ k
moved_once p l k e = go (moves p l) (moves p k)
  where
    go : Moves p l → Moves p k → l ≡ k
    go (stays h m) (stays h' m') = omega arith
    go (stays h m) (goes h' m') = omega arith
    go (goes h m) (stays h' m') = omega arith
    go (goes h m) (goes h' m') = omega arith

moved_order : (p l k : ℕ) → l < k → moved p l < moved p k
moved_order p l k e = go (moves p l) (moves p k)
  where
    go : Moves p l → Moves p k → moved p l < moved p k
    go (stays h m) (stays h' m') = omega arith
    go (stays h m) (goes h' m') = omega arith
    go (goes h m) (stays h' m') = omega arith
    go (goes h m) (goes h' m') = omega arith

module _ {A : Type 0} (xs ys : List A) (x : A) where
  put_in : (l : ℕ) (t : A) → At (xs ++ ys) l t → At (xs ++ x ∷ ys) (moved (length xs) l) t
  put_in l t a = go (at_either xs ys l t a)
    where
      go : At xs l t ⊎ ((m : ℕ) × (l ≡ length xs + m) × At ys m t) → At (xs ++ x ∷ ys) (moved (length xs) l) t
      go (inl b) = subst (λ i. At (xs ++ x ∷ ys) i t) (sym (moved_below (length xs) l (at_below xs l t b))) (at_left xs (x ∷ ys) l t b)
      go (inr b) =
          let e = b.1 in
          let f : moved (length xs) l ≡ suc l = moved_above (length xs) l (omega arith) in
          let d : length xs + suc b.0 ≡ moved (length xs) l = omega arith in
          subst (λ i. At (xs ++ x ∷ ys) i t) d (at_right xs (x ∷ ys) (suc b.0) t b.2)

  -- what stands there is the one more, or stood there before
  taken_out : (j : ℕ) (t : A) → At (xs ++ x ∷ ys) j t → ((j ≡ length xs) × (x ≡ t)) ⊎ ((l : ℕ) × (j ≡ moved (length xs) l) × At (xs ++ ys) l t)
  taken_out j t a = ⊎_elim first (λ b. second b.0 b.1 b.2) (at_either xs (x ∷ ys) j t a)
    where
      first : At xs j t → ((j ≡ length xs) × (x ≡ t)) ⊎ ((l : ℕ) × (j ≡ moved (length xs) l) × At (xs ++ ys) l t)
      first b = inr (j, sym (moved_below (length xs) j (at_below xs j t b)), at_left xs ys j t b)

      second : (m : ℕ) → j ≡ length xs + m → At (x ∷ ys) m t → ((j ≡ length xs) × (x ≡ t)) ⊎ ((l : ℕ) × (j ≡ moved (length xs) l) × At (xs ++ ys) l t)
      second zero e b = inl (omega arith, b)
      second (suc m) e b =
          let f : moved (length xs) (length xs + m) ≡ suc (length xs + m) = moved_above (length xs) (length xs + m) (omega arith) in
          inr (length xs + m, omega arith, at_right xs ys m t b)

  put_back : (l : ℕ) (t : A) → At (xs ++ x ∷ ys) (moved (length xs) l) t → At (xs ++ ys) l t
  put_back l t a = ⊎_elim (λ b. absurd (moved_apart (length xs) l b.0)) (λ b. subst (λ i. At (xs ++ ys) i t) (sym (moved_once (length xs) l b.0 b.1)) b.2) (taken_out (moved (length xs) l) t a)

  there_it_is : (j : ℕ) (t : A) → j ≡ length xs → At (xs ++ x ∷ ys) j t → x ≡ t
  there_it_is j t e a = ⊎_elim (λ b. b.1) (λ b. absurd (moved_apart (length xs) b.0 (sym b.1 ∙ e))) (taken_out j t a)

-- ── the grammars of a history with one more ──

taken_joined : {F : Type 0} (a b : List (Call F)) → taken (a ++ b) ≡ taken a ++ taken b
taken_joined [] b = refl
taken_joined (c ∷ a) b = ap (λ ts. taken_by c.offer c.answer ++ ts) (taken_joined a b) ∙ sym (append_assoc (taken_by c.offer c.answer) (taken a) (taken b))

grammars_joined : (ts us : List Taken) → grammars_of (ts ++ us) ≡ grammars_of ts ++ grammars_of us
grammars_joined [] us = refl
grammars_joined (t ∷ ts) us = ap (λ gs. t.grammar ∷ gs) (grammars_joined ts us)

as_many_grammars : (ts : List Taken) → length (grammars_of ts) ≡ length ts
as_many_grammars [] = refl
as_many_grammars (t ∷ ts) = ap suc (as_many_grammars ts)

all_but : {A : Type 0} (P : A → Type 0) (xs : List A) (x : A) (ys : List A) → AllByRecursion P (xs ++ x ∷ ys) → AllByRecursion P (xs ++ ys)
all_but P [] x ys p = p.1
all_but P (y ∷ xs) x ys p = (p.0, all_but P xs x ys p.1)

-- ── the pairing beside one more ──

module _ (S : ℕ → ℕ → Type 0) (gs xs ys : List Grammar) (x : Grammar) (p : ℕ) (long : length xs ≡ p) (M : Matched S (λ j. ⊥) gs (xs ++ ys)) where
  abbrev Beside : ℕ → ℕ → Type 0
  Beside i j = (l : ℕ) × S i l × (j ≡ moved p l)

  in_its_place : (l : ℕ) (g : Grammar) → At (xs ++ ys) l g → At (xs ++ x ∷ ys) (moved p l) g
  in_its_place l g a = subst (λ q. At (xs ++ x ∷ ys) (moved q l) g) long (put_in xs ys x l g a)

  back_again : (l : ℕ) (g : Grammar) → At (xs ++ x ∷ ys) (moved p l) g → At (xs ++ ys) l g
  back_again l g a = put_back xs ys x l g (subst (λ q. At (xs ++ x ∷ ys) (moved q l) g) (sym long) a)

  beside_back : (j : ℕ) (g : Grammar) → At (xs ++ x ∷ ys) j g → ((i : ℕ) × Beside i j) ⊎ (j ≡ p)
  beside_back j g a = go (taken_out xs ys x j g a)
    where
      go : ((j ≡ length xs) × (x ≡ g)) ⊎ ((l : ℕ) × (j ≡ moved (length xs) l) × At (xs ++ ys) l g) → ((i : ℕ) × Beside i j) ⊎ (j ≡ p)
      go (inl b) = inr (b.0 ∙ long)
      go (inr b) = ⊎_elim (λ s. inl (s.0, (b.0, s.1, subst (λ q. j ≡ moved q b.0) long b.1))) (λ n. absurd n) (M.paired.each_back b.0 g b.2)

  pub beside : Matched Beside (λ j. j ≡ p) gs (xs ++ x ∷ ys)
  beside = record {
    paired = record {
      each_there = λ i g a. let t = M.paired.each_there i g a in (moved p t.0, (t.0, t.1, refl));
      each_back = beside_back;
      no_counterpart = λ i j e s. moved_apart p s.0 (sym s.2 ∙ e);
      same_grammar = λ i j g s. (
        λ a. subst (λ k. At (xs ++ x ∷ ys) k g) (sym s.2) (in_its_place s.0 g ((M.paired.same_grammar i s.0 g s.1).0 a)),
        λ a. (M.paired.same_grammar i s.0 g s.1).1 (back_again s.0 g (subst (λ k. At (xs ++ x ∷ ys) k g) s.2 a)),
      );
    };
    once_there = λ i j k s t. s.2 ∙ ap (moved p) (M.once_there i s.0 t.0 s.1 t.1) ∙ sym t.2;
    once_back = λ i k j s t. M.once_back i k s.0 s.1 (subst (λ l. S k l) (sym (moved_once p s.0 t.0 (sym s.2 ∙ t.2))) t.1);
    one_order = λ i i' j j' g g' s s' a a' r l.
        subst (λ b. j < b) (sym s'.2) (subst (λ b. b < moved p s'.0) (sym s.2) (moved_order p s.0 s'.0 (M.one_order i i' s.0 s'.0 g g' s.1 s'.1 a a' r l)));
  }

  -- the one more stands where nothing corresponds
  it_is : (j : ℕ) (h : Grammar) → j ≡ p → At (xs ++ x ∷ ys) j h → x ≡ h
  it_is j h e a = there_it_is xs ys x j h (e ∙ sym long) a

  unmoved : (r : Reference) → ¬ MayMove gs x r → Unmoved Beside (λ j. j ≡ p) gs (xs ++ x ∷ ys) beside r
  unmoved (named n) h = tt
  unmoved (inline n) h = tt
  unmoved (by_scope s sub embed) h =
      (λ j g e a q. h (inl (ap (λ y. y.scope) (it_is j g e a) ∙ q)), λ t m j g e a q. h (inr (ap (λ y. y.name) (it_is j g e a) ∙ q, (t, m))))
  unmoved (file n sub embed) h =
      (λ j g e a q. h (inl (ap (λ y. y.name) (it_is j g e a) ∙ q)), λ t m j g e a q. h (inr (ap (λ y. y.name) (it_is j g e a) ∙ q, (t, m))))

  pub agree_beside : (hs : List Grammar) → hs ≡ xs ++ x ∷ ys →
      Paired Beside (λ j. j ≡ p) gs hs × Agree Beside (MayMove gs x) gs hs
  agree_beside hs e = subst (λ ks. Paired Beside (λ j. j ≡ p) gs ks × Agree Beside (MayMove gs x) gs ks) (sym e)
      (beside.paired, agree Beside (λ j. j ≡ p) gs (xs ++ x ∷ ys) beside (MayMove gs x) unmoved)

module _ {F : Type 0} (k : List (Call F)) (m : OneMore k) where
  one_taken : (o : Offer) (a : Answer F) (g : Grammar) → a ≡ accepted g → grammars_of (taken_by o a) ≡ g ∷ []
  one_taken o a g e = ap (λ b. grammars_of (taken_by o b)) e

  -- the grammars before, the one more, the grammars after
  grammars_with : grammars k ≡ grammars_of (taken m.before) ++ m.grammar ∷ grammars_of (taken m.after)
  grammars_with =
      ap grammars m.is
      ∙ ap grammars_of (taken_joined m.before (m.more ∷ m.after))
      ∙ grammars_joined (taken m.before) (taken_by m.more.offer m.more.answer ++ taken m.after)
      ∙ ap (λ gs. grammars_of (taken m.before) ++ gs)
      (grammars_joined (taken_by m.more.offer m.more.answer) (taken m.after)
      ∙ ap (λ gs. gs ++ grammars_of (taken m.after)) (one_taken m.more.offer m.more.answer m.grammar m.taken_in))

  grammars_aside : grammars (set_aside m) ≡ grammars_of (taken m.before) ++ grammars_of (taken m.after)
  grammars_aside = ap grammars_of (taken_joined m.before m.after) ∙ grammars_joined (taken m.before) (taken m.after)

  history_aside : (meaning : Meaning F) (v : Verdicts F) → History meaning v k → History meaning v (set_aside m)
  history_aside meaning v p = all_but (λ c. Answers (meaning v c.offer) c.answer) m.before m.more m.after (subst (History meaning v) m.is p)

pub one_more_changes_little : {F : Type 0} → OneMoreChangesLittle F
one_more_changes_little meaning v w h k e p q m c = record {
  answers = same_answers meaning v h (set_aside m) p aside c.same_offers c.room_left c.room_right;
  paired = both.0;
  agree = both.1;
}
  where
    aside : History meaning v (set_aside m)
    aside = history_aside k m meaning v (same_history meaning v w e k q)

    both : Paired (CorrespondBeside h k m) (λ j. j ≡ length (taken m.before)) (grammars h) (grammars k)
        × Agree (CorrespondBeside h k m) (MayMove (grammars h) m.grammar) (grammars h) (grammars k)
    both = agree_beside (Correspond h (set_aside m)) (grammars h) (grammars_of (taken m.before)) (grammars_of (taken m.after)) m.grammar
        (length (taken m.before)) (as_many_grammars (taken m.before))
        (subst (Matched (Correspond h (set_aside m)) (λ j. ⊥) (grammars h)) (grammars_aside k m) (matched meaning v h (set_aside m) p aside c))
        (grammars k) (grammars_with k m)
