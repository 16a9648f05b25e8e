-- Laws of marked places that wait in a list: one place more in the list of marks, one place more that is marked.
use Rattle.std.proofs.Common.{◌≡◌, ℕ, ◌+◌, ◌<◌, Bool, true, false, cond, not, ◌⊎◌, List, [], ◌∷◌, ◌++◌, length, get_or, take, set, count_by, sym, refl, ap, ◌∙◌, subst, inl, inr, ⊎_elim, arith}
use borrow.Author.Tests.{clash}
use Rattle.std.proofs.lemmas.List.{length_push, length-take-le, take_more, get_or_past, get_or_push, get_or_append_left, get_or-set_same, get_or-set_other}
use Rattle.std.specs.List.{Contains}
use Rattle.std.proofs.lemmas.List.Elements.{All-push, All-weaker, Contains-append_left, Contains-push}
use Rattle.std.proofs.lemmas.List.Sums.{sum_by_push, sum_by-set}
use Rattle.std.proofs.lemmas.Bool.{cases_eq, cases_lt}
use Rattle.graph.specs.Reached.{Marked}
use Rattle.graph.specs.Spreading.{Lined}

pub marked_inside : (marks : List Bool) (k : ℕ) → Marked marks k → k < length marks
marked_inside marks k h = ⊎_elim (λ l. l) (λ l. absurd (clash (sym (get_or_past marks k false l) ∙ h))) (cases_lt k (length marks))

pub marked_set_same : (marks : List Bool) (k : ℕ) → k < length marks → Marked (set marks k true) k
marked_set_same marks k h = get_or-set_same marks k true false h

-- a place that is marked stays marked as another one is
pub marked_set : (marks : List Bool) (k j : ℕ) → Marked marks j → Marked (set marks k true) j
marked_set marks k j h = ⊎_elim
    (λ e. ap (λ (x : ℕ). get_or (set marks k true) x false) e
    ∙ marked_set_same marks k (let l : j < length marks = marked_inside marks j h in omega (arith, e)))
    (λ ne. get_or-set_other marks k j true false ne ∙ h)
    (cases_eq j k)

-- a mark more is on the place that was marked just now
pub marked_unset : (marks : List Bool) (k j : ℕ) → Marked (set marks k true) j → (j ≡ k) ⊎ Marked marks j
marked_unset marks k j h = ⊎_elim
    (λ e. inl e)
    (λ ne. inr (sym (get_or-set_other marks k j true false ne) ∙ h))
    (cases_eq j k)

-- marks behind the end of a list of marks
marked_push : (marks : List Bool) (b : Bool) (k : ℕ) → Marked marks k → Marked (marks ++ b ∷ []) k
marked_push marks b k h = get_or_append_left marks (b ∷ []) false k (marked_inside marks k h) ∙ h

marked_unpush : (marks : List Bool) (b : Bool) (k : ℕ) → Marked (marks ++ b ∷ []) k → ((k ≡ length marks) × (b ≡ true)) ⊎ Marked marks k
marked_unpush marks b k h = ⊎_elim
    (λ l. inr (sym (get_or_append_left marks (b ∷ []) false k l) ∙ h))
    (λ l.
    let i : k < length (marks ++ b ∷ []) = marked_inside (marks ++ b ∷ []) k h in
    let e : length marks ≡ k = omega (arith, length_push marks b) in
    inl (sym e, sym (get_or_push marks b false k e) ∙ h))
    (cases_lt k (length marks))

pub lined_past_marked : (marks : List Bool) (queue : List ℕ) → Lined marks queue → Lined (marks ++ true ∷ []) (queue ++ length marks ∷ [])
lined_past_marked marks queue l = record {
  counted = let e = sum_by_push (λ (x : Bool). cond (not x) 1 0) marks true in
      omega (arith, e, length_push queue (length marks), length_push marks true, l.counted);
  marked = All-push (Marked (marks ++ true ∷ [])) queue (length marks)
      (All-weaker (Marked marks) (Marked (marks ++ true ∷ [])) (marked_push marks true) queue l.marked)
      (get_or_push marks true false (length marks) refl);
  waits = λ k h. ⊎_elim
      (λ e. subst (Contains (queue ++ length marks ∷ [])) (sym e.0) (Contains-push queue (length marks)))
      (λ old. Contains-append_left queue (length marks ∷ []) k (l.waits k old))
      (marked_unpush marks true k h);
}

pub lined_past_unmarked : (marks : List Bool) (queue : List ℕ) → Lined marks queue → Lined (marks ++ false ∷ []) queue
lined_past_unmarked marks queue l = record {
  counted = let e = sum_by_push (λ (x : Bool). cond (not x) 1 0) marks false in
      omega (arith, e, length_push marks false, l.counted);
  marked = All-weaker (Marked marks) (Marked (marks ++ false ∷ [])) (marked_push marks false) queue l.marked;
  waits = λ k h. ⊎_elim
      (λ e. absurd (clash e.1))
      (λ old. l.waits k old)
      (marked_unpush marks false k h);
}

pub unmarked_set : (marks : List Bool) (k : ℕ) (b : Bool) → b ≡ true → k < length marks → false ≡ get_or marks k false →
    count_by not (set marks k b) + 1 ≡ count_by not marks
unmarked_set marks k b is h un =
    let e = sum_by-set (λ (x : Bool). cond (not x) 1 0) marks k true false h in
    let f : ◌≡◌ {A = ℕ} (cond (not (get_or marks k false)) 1 0) 1 = ap (λ (x : Bool). let n : ℕ = cond (not x) 1 0 in n) (sym un) in
    rw is (omega (arith, e, f))

-- the marks up to a place, and those up to the next
pub lined_more_marked : (marks : List Bool) (i : ℕ) (queue : List ℕ) {queue' : List ℕ} → i < length marks → get_or marks i false ≡ true →
    queue' ≡ queue ++ i ∷ [] → Lined (take i marks) queue → Lined (take (i + 1) marks) queue'
lined_more_marked marks i queue {queue' = queue'} h yes' e l =
    let t : take (i + 1) marks ≡ take i marks ++ true ∷ [] = take_more marks i false h ∙ ap (λ (b : Bool). take i marks ++ b ∷ []) yes' in
    let u : length (take i marks) ≡ i = length-take-le i marks (omega arith) in
    let v : queue' ≡ queue ++ length (take i marks) ∷ [] = e ∙ ap (λ (x : ℕ). queue ++ x ∷ []) (sym u) in
    rw (t, v) (lined_past_marked (take i marks) queue l)

pub lined_more_unmarked : (marks : List Bool) (i : ℕ) (queue : List ℕ) {queue' : List ℕ} → i < length marks → get_or marks i false ≡ false →
    queue' ≡ queue → Lined (take i marks) queue → Lined (take (i + 1) marks) queue'
lined_more_unmarked marks i queue h un e l =
    let t : take (i + 1) marks ≡ take i marks ++ false ∷ [] = take_more marks i false h ∙ ap (λ (b : Bool). take i marks ++ b ∷ []) un in
    rw (t, e) (lined_past_unmarked (take i marks) queue l)
