-- Laws of marks that spread: one pair after another, one place after another.
use Rattle.std.proofs.Common.{◌≡◌, ℕ, ◌+◌, ◌<◌, ◌≤◌, Bool, true, false, cond, List, [], ◌∷◌, ◌++◌, length, get_or, set, take, Option, sym, refl, ap, ◌∙◌, subst, inl, inr, ⊎_elim, arith}
use Rattle.std.proofs.lemmas.List.{append-nil, append_assoc, length-set, length_push, set-get_or, take-append-le, take_all}
use Rattle.std.proofs.lemmas.Bool.{cases_Bool, cond-true, cond-false}
use Rattle.std.specs.List.{All, Contains}
use Rattle.std.proofs.lemmas.List.Elements.{All-contains, All-more, All-nil, All-weaker, Contains-append_left, Contains-append_right, Contains-push}
use Rattle.graph.specs.Reached.{Marked, Step, Reached, given, by, Marking}
use Rattle.graph.specs.Spreading.{Lined, Grown, Spread, Spreading}
use Rattle.graph.proofs.Lining.{marked_set_same, marked_set, marked_unset, unmarked_set}

-- what is reached from reached places is reached
pub reached_from_reached : (n m : ℕ) (E : ℕ → Option (ℕ × ℕ)) (a b : List Bool) → ((k : ℕ) → Marked b k → Reached n m E a k) →
    (k : ℕ) → Reached n m E b k → Reached n m E a k
reached_from_reached n m E a b all k (given h) = all k h
reached_from_reached n m E a b all k (by {i = i} s r) = by s (reached_from_reached n m E a b all i r)

pub grown_same : (n m : ℕ) (E : ℕ → Option (ℕ × ℕ)) (marks : List Bool) (queue : List ℕ) → Grown n m E marks queue marks queue
grown_same n m E marks queue = record {
  long = refl;
  counted = refl;
  marks_kept = λ k h. h;
  sound = λ k h. given h;
  joined = [];
  queue_kept = sym (append-nil queue);
  waits = λ k h. inl h;
}

-- the place that a pair from a marked place goes to is marked, and joins the queue if it was not marked
pub grown_more : (n m : ℕ) (E : ℕ → Option (ℕ × ℕ)) (marks₀ : List Bool) (queue₀ : List ℕ) (marks : List Bool) (queue : List ℕ) (i k : ℕ) (marks' : List Bool) (queue' : List ℕ) →
    Grown n m E marks₀ queue₀ marks queue → Step n m E i k → Marked marks₀ i → k < length marks →
    marks' ≡ set marks k true → queue' ≡ cond (get_or marks k false) queue (queue ++ k ∷ []) →
    Grown n m E marks₀ queue₀ marks' queue' × Marked marks' k
grown_more n m E marks₀ queue₀ marks queue i k marks' queue' g s from inside e f = ⊎_elim
    (λ old.
    let a : marks' ≡ marks = e ∙ ap (λ (b : Bool). set marks k b) (sym old) ∙ set-get_or marks k false in
    let b : queue' ≡ queue = f ∙ cond-true (get_or marks k false) queue (queue ++ k ∷ []) old in
    rw (a, b) (g, old))
    (λ new.
    let b : queue' ≡ queue ++ k ∷ [] = f ∙ cond-false (get_or marks k false) queue (queue ++ k ∷ []) new in
    rw (e, b) (
      record {
        long = length-set marks k true ∙ g.long;
        counted = omega (arith, length_push queue k, unmarked_set marks k true refl inside (sym new), g.counted);
        marks_kept = λ j h. marked_set marks k j (g.marks_kept j h);
        sound = λ j h. ⊎_elim (λ same. subst (Reached n m E marks₀) (sym same) (by s (given from))) (g.sound j) (marked_unset marks k j h);
        joined = g.joined ++ k ∷ [];
        queue_kept = ap (λ (xs : List ℕ). xs ++ k ∷ []) g.queue_kept ∙ append_assoc queue₀ g.joined (k ∷ []);
        waits = λ j h. ⊎_elim
            (λ same. inr (subst (Contains (g.joined ++ k ∷ [])) (sym same) (Contains-push g.joined k)))
            (λ old. ⊎_elim (λ first. inl first) (λ q. inr (Contains-append_left g.joined (k ∷ []) j q)) (g.waits j old))
            (marked_unset marks k j h);
      },
      marked_set_same marks k inside,
    ))
    (cases_Bool (get_or marks k false))

-- at the start the marked places stand in the queue, and none has spread
pub spreading_begins : (n m : ℕ) (E : ℕ → Option (ℕ × ℕ)) (marks : List Bool) (queue : List ℕ) (next : ℕ) → length marks ≡ n → Lined marks queue → next ≡ 0 →
    Spreading n m E marks marks queue next
spreading_begins n m E marks queue next long l none =
    rw none (record { long = long; lined = l; kept = λ k h. h; sound = λ k h. given h; spread = All-nil (Spread n m E marks) })

-- what has joined the queue stands in it with the places that stood there
lined_grown : (n m : ℕ) (E : ℕ → Option (ℕ × ℕ)) (marks : List Bool) (queue : List ℕ) (marks' : List Bool) (queue' : List ℕ) →
    Lined marks queue → Grown n m E marks queue marks' queue' → All (Marked marks') queue' → Lined marks' queue'
lined_grown n m E marks queue marks' queue' l g all = record {
  counted = omega (arith, g.counted, g.long, l.counted);
  marked = all;
  waits = λ k h. subst (λ (xs : List ℕ). Contains xs k) (sym g.queue_kept)
      (⊎_elim
      (λ old. Contains-append_left queue g.joined k (l.waits k old))
      (λ new. Contains-append_right queue g.joined k new)
      (g.waits k h));
}

-- the next place of the queue has spread its mark
pub spreading_more : (n m : ℕ) (E : ℕ → Option (ℕ × ℕ)) (start marks : List Bool) (queue : List ℕ) (next i : ℕ) (marks' : List Bool) (queue' : List ℕ) (next' : ℕ) →
    Spreading n m E start marks queue next → (next < length queue) × (get_or queue next 0 ≡ i) → next' ≡ next + 1 →
    Grown n m E marks queue marks' queue' → All (Marked marks') queue' → Spread n m E marks' i → Spreading n m E start marks' queue' next'
spreading_more n m E start marks queue next i marks' queue' next' s first is g all leads =
    let front : take next' queue' ≡ take (next + 1) queue =
    ap (λ (xs : List ℕ). take next' xs) g.queue_kept ∙ ap (λ (x : ℕ). take x (queue ++ g.joined)) is
    ∙ take-append-le (next + 1) queue g.joined (let l : next + 1 ≤ length queue = omega (arith, first.0) in l) in
    record {
      long = g.long ∙ s.long;
      lined = lined_grown n m E marks queue marks' queue' s.lined g all;
      kept = λ k h. g.marks_kept k (s.kept k h);
      sound = λ k h. reached_from_reached n m E start marks s.sound k (g.sound k h);
      spread = rw front (All-more (Spread n m E marks') queue next 0 first.0
          (All-weaker (Spread n m E marks) (Spread n m E marks') (λ j before. λ k step. g.marks_kept k (before k step)) (take next queue) s.spread)
          (subst (Spread n m E marks') (sym first.1) leads));
    }

-- once all of the queue has spread, no reached place is left unmarked
pub spread_whole : (n m : ℕ) (E : ℕ → Option (ℕ × ℕ)) (start marks : List Bool) (queue : List ℕ) → ((k : ℕ) → Marked start k → Marked marks k) → Lined marks queue →
    All (Spread n m E marks) queue → (k : ℕ) → Reached n m E start k → Marked marks k
spread_whole n m E start marks queue kept l all k (given h) = kept k h
spread_whole n m E start marks queue kept l all k (by {i = i} t r) =
    All-contains (Spread n m E marks) queue i all (l.waits i (spread_whole n m E start marks queue kept l all i r)) k t

pub spreading_ends : (n m : ℕ) (E : ℕ → Option (ℕ × ℕ)) (start marks : List Bool) (queue : List ℕ) (next : ℕ) → length start ≡ n →
    Spreading n m E start marks queue next → next ≡ length queue → Marking n m E start marks
spreading_ends n m E start marks queue next long s end =
    let all : All (Spread n m E marks) queue = subst (All (Spread n m E marks)) (take_all next queue (omega (arith, end))) s.spread in
    record { long = s.long ∙ sym long; sound = s.sound; whole = spread_whole n m E start marks queue s.kept s.lined all }
