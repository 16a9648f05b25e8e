-- The laws of marking.
use Rattle.std.proofs.Common.{◌≡◌, ℕ, Bool, false, List, length, get_or, Some, None, Option, sym, ap, ◌∙◌, ⊎_elim, arith}
use borrow.Author.Tests.{clash}
use Rattle.std.proofs.lemmas.List.{ext_get_or}
use Rattle.std.proofs.lemmas.Bool.{cases_Bool}
use Rattle.graph.specs.Reached.{Marked, Step, Reached, given, by}
use Rattle.graph.specs.Laws.{Within, turned, reversed, Path, here, on, From, Reaches, MoreMarksMarkMore, MorePairsMarkMore, MarkingTwiceChangesNothing, OrderOfPairsDoesNotMatter, MarkedAreThoseWithAPathFromAStart, ReversedMarkedAreThoseWithAPathToAStart, Laws}
use Rattle.graph.proofs.Spreads.{reached_from_reached}

-- marks that are marked in one another are the same
same_from_within : (a b : List Bool) → length a ≡ length b → Within a b → Within b a → a ≡ b
same_from_within a b long to back = ext_get_or false a b long (λ i _. go i) where
  go : (i : ℕ) → get_or a i false ≡ get_or b i false
  go i = ⊎_elim
      (λ yes'. yes' ∙ sym (to i yes'))
      (λ un. ⊎_elim (λ other. absurd (clash (sym un ∙ back i other))) (λ other. un ∙ sym other) (cases_Bool (get_or b i false)))
      (cases_Bool (get_or a i false))

reached_more_pairs : (n m m' : ℕ) (E E' : ℕ → Option (ℕ × ℕ)) (start : List Bool) → ((i k : ℕ) → Step n m E i k → Step n m' E' i k) →
    (k : ℕ) → Reached n m E start k → Reached n m' E' start k
reached_more_pairs n m m' E E' start all k (given h) = given h
reached_more_pairs n m m' E E' start all k (by {i = i} s r) = by (all i k s) (reached_more_pairs n m m' E E' start all i r)

more_marks_mark_more : MoreMarksMarkMore
more_marks_mark_more n m E start more end end' all a b k h =
    b.whole k (reached_from_reached n m E more start (λ j i. given (all j i)) k (a.sound k h))

more_pairs_mark_more : MorePairsMarkMore
more_pairs_mark_more n m m' E E' start end end' all a b k h =
    b.whole k (reached_more_pairs n m m' E E' start all k (a.sound k h))

marking_twice_changes_nothing : MarkingTwiceChangesNothing
marking_twice_changes_nothing n m E start end again a b =
    same_from_within again end b.long
    (λ k h. a.whole k (reached_from_reached n m E start end a.sound k (b.sound k h)))
    (λ k h. b.whole k (given h))

order_of_pairs_does_not_matter : OrderOfPairsDoesNotMatter
order_of_pairs_does_not_matter n m E E' start end end' r a b =
    same_from_within end' end (b.long ∙ sym a.long)
    (more_pairs_mark_more n m m E' E start end' end forth b a)
    (more_pairs_mark_more n m m E E' start end end' backward a b) where
      forth : (i k : ℕ) → Step n m E' i k → Step n m E i k
      forth i k s = record {
        number = r.to s.number;
        counted = r.to_below s.number s.counted;
        joins = sym (r.same s.number s.counted) ∙ s.joins;
        from_inside = s.from_inside;
        to_inside = s.to_inside;
      }

      backward : (i k : ℕ) → Step n m E i k → Step n m E' i k
      backward i k s = record {
        number = r.back s.number;
        counted = r.back_below s.number s.counted;
        joins = r.same (r.back s.number) (r.back_below s.number s.counted) ∙ ap E (r.to_back s.number s.counted) ∙ s.joins;
        from_inside = s.from_inside;
        to_inside = s.to_inside;
      }

path_more : (n m : ℕ) (E : ℕ → Option (ℕ × ℕ)) (i j k : ℕ) → Path n m E i j → Step n m E j k → Path n m E i k
path_more n m E i j k here s = on s here
path_more n m E i j k (on {j = x} t p) s = on t (path_more n m E x j k p s)

-- what is reached from the start of a path is reached at its end
reached_along : (n m : ℕ) (E : ℕ → Option (ℕ × ℕ)) (start : List Bool) (i k : ℕ) → Path n m E i k → Reached n m E start i → Reached n m E start k
reached_along n m E start i k here r = r
reached_along n m E start i k (on {j = j} s p) r = reached_along n m E start j k p (by s r)

reached_from : (n m : ℕ) (E : ℕ → Option (ℕ × ℕ)) (start : List Bool) (k : ℕ) → Reached n m E start k → From n m E start k
reached_from n m E start k (given h) = record { place = k; marked = h; path = here }
reached_from n m E start k (by {i = i} s r) =
    let f = reached_from n m E start i r in
    record { place = f.place; marked = f.marked; path = path_more n m E f.place i k f.path s }

marked_are_those_with_a_path_from_a_start : MarkedAreThoseWithAPathFromAStart
marked_are_those_with_a_path_from_a_start n m E start end a k = (
  λ h. reached_from n m E start k (a.sound k h),
  λ f. a.whole k (reached_along n m E start f.place k f.path (given f.marked)),
)

turned_some : (o : Option (ℕ × ℕ)) (a b : ℕ) → turned o ≡ Some (a, b) → o ≡ Some (b, a)
turned_some None a b e = let z : ◌≡◌ {A = ℕ} 0 1 = cc in absurd (omega arith)
turned_some (Some p) a b e =
    let q : ◌≡◌ {A = ℕ × ℕ} (p.1, p.0) (a, b) = cc in
    ap (λ (x : ℕ × ℕ). Some (x.1, x.0)) q

step_turned : (n m : ℕ) (E : ℕ → Option (ℕ × ℕ)) (i k : ℕ) → Step n m (reversed E) i k → Step n m E k i
step_turned n m E i k s = record {
  number = s.number;
  counted = s.counted;
  joins = turned_some (E s.number) i k s.joins;
  from_inside = s.to_inside;
  to_inside = s.from_inside;
}

step_turns : (n m : ℕ) (E : ℕ → Option (ℕ × ℕ)) (i k : ℕ) → Step n m E i k → Step n m (reversed E) k i
step_turns n m E i k s = record {
  number = s.number;
  counted = s.counted;
  joins = ap turned s.joins;
  from_inside = s.to_inside;
  to_inside = s.from_inside;
}

reversed_reaches : (n m : ℕ) (E : ℕ → Option (ℕ × ℕ)) (start : List Bool) (k : ℕ) → Reached n m (reversed E) start k → Reaches n m E start k
reversed_reaches n m E start k (given h) = record { place = k; marked = h; path = here }
reversed_reaches n m E start k (by {i = i} s r) =
    let f = reversed_reaches n m E start i r in
    record { place = f.place; marked = f.marked; path = on (step_turned n m E i k s) f.path }

reaches_reversed : (n m : ℕ) (E : ℕ → Option (ℕ × ℕ)) (start : List Bool) (k i : ℕ) → Path n m E k i → Marked start i → Reached n m (reversed E) start k
reaches_reversed n m E start k i here h = given h
reaches_reversed n m E start k i (on {j = j} s p) h = by (step_turns n m E k j s) (reaches_reversed n m E start j i p h)

reversed_marked_are_those_with_a_path_to_a_start : ReversedMarkedAreThoseWithAPathToAStart
reversed_marked_are_those_with_a_path_to_a_start n m E start end a k = (
  λ h. reversed_reaches n m E start k (a.sound k h),
  λ f. a.whole k (reaches_reversed n m E start k f.place f.path f.marked),
)

pub laws_of_marking : Laws
laws_of_marking = record {
  more_marks = more_marks_mark_more;
  more_pairs = more_pairs_mark_more;
  twice = marking_twice_changes_nothing;
  order = order_of_pairs_does_not_matter;
  paths = marked_are_those_with_a_path_from_a_start;
  reverse = reversed_marked_are_those_with_a_path_to_a_start;
}
