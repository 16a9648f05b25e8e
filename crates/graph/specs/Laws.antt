-- Laws of marking. They speak of any markings, made by whatever code.
use Rattle.std.specs.Prelude.{◌≡◌, ℕ, ◌<◌, Bool, List, Some, None, Option}
use Rattle.graph.specs.Reached.{Marked, Step, Marking}

-- whatever the first marks, the second marks too
abbrev pub Within : List Bool → List Bool → Type 0
Within marks others = (k : ℕ) → Marked marks k → Marked others k

-- the same pairs under other numbers
pub record Reordered (m : ℕ) (E E' : ℕ → Option (ℕ × ℕ)) : Type 0 where
  pub to : ℕ → ℕ
  pub back : ℕ → ℕ
  pub to_below : (j : ℕ) → j < m → to j < m
  pub back_below : (j : ℕ) → j < m → back j < m
  pub back_to : (j : ℕ) → j < m → back (to j) ≡ j
  pub to_back : (j : ℕ) → j < m → to (back j) ≡ j
  pub same : (j : ℕ) → j < m → E' j ≡ E (to j)

abbrev pub turned : Option (ℕ × ℕ) → Option (ℕ × ℕ)
turned None = None
turned (Some p) = Some (p.1, p.0)

-- every pair goes the other way
abbrev pub reversed : (ℕ → Option (ℕ × ℕ)) → ℕ → Option (ℕ × ℕ)
reversed E j = turned (E j)

-- pairs lead from i to k, one after another, or i is k
pub data Path (n m : ℕ) (E : ℕ → Option (ℕ × ℕ)) : ℕ → ℕ → Type 0 where
  here : {k : ℕ} → Path n m E k k
  on : {i j k : ℕ} → Step n m E i j → Path n m E j k → Path n m E i k

-- a path leads to k from a marked place
pub record From (n m : ℕ) (E : ℕ → Option (ℕ × ℕ)) (marks : List Bool) (k : ℕ) : Type 0 where
  pub place : ℕ
  pub marked : Marked marks place
  pub path : Path n m E place k

-- a path leads from k to a marked place
pub record Reaches (n m : ℕ) (E : ℕ → Option (ℕ × ℕ)) (marks : List Bool) (k : ℕ) : Type 0 where
  pub place : ℕ
  pub marked : Marked marks place
  pub path : Path n m E k place

abbrev pub MoreMarksMarkMore : Type 0
MoreMarksMarkMore = (n m : ℕ) (E : ℕ → Option (ℕ × ℕ)) (start more end end' : List Bool) → Within start more →
    Marking n m E start end → Marking n m E more end' → Within end end'

abbrev pub MorePairsMarkMore : Type 0
MorePairsMarkMore = (n m m' : ℕ) (E E' : ℕ → Option (ℕ × ℕ)) (start end end' : List Bool) →
    ((i k : ℕ) → Step n m E i k → Step n m' E' i k) →
    Marking n m E start end → Marking n m' E' start end' → Within end end'

abbrev pub MarkingTwiceChangesNothing : Type 0
MarkingTwiceChangesNothing = (n m : ℕ) (E : ℕ → Option (ℕ × ℕ)) (start end again : List Bool) →
    Marking n m E start end → Marking n m E end again → again ≡ end

abbrev pub OrderOfPairsDoesNotMatter : Type 0
OrderOfPairsDoesNotMatter = (n m : ℕ) (E E' : ℕ → Option (ℕ × ℕ)) (start end end' : List Bool) → Reordered m E E' →
    Marking n m E start end → Marking n m E' start end' → end' ≡ end

abbrev pub MarkedAreThoseWithAPathFromAStart : Type 0
MarkedAreThoseWithAPathFromAStart = (n m : ℕ) (E : ℕ → Option (ℕ × ℕ)) (start end : List Bool) → Marking n m E start end →
    (k : ℕ) → (Marked end k → From n m E start k) × (From n m E start k → Marked end k)

-- with all pairs reversed, those are marked that reach a place marked at the start
abbrev pub ReversedMarkedAreThoseWithAPathToAStart : Type 0
ReversedMarkedAreThoseWithAPathToAStart = (n m : ℕ) (E : ℕ → Option (ℕ × ℕ)) (start end : List Bool) → Marking n m (reversed E) start end →
    (k : ℕ) → (Marked end k → Reaches n m E start k) × (Reaches n m E start k → Marked end k)

pub record Laws : Type 0 where
  pub more_marks : MoreMarksMarkMore
  pub more_pairs : MorePairsMarkMore
  pub twice : MarkingTwiceChangesNothing
  pub order : OrderOfPairsDoesNotMatter
  pub paths : MarkedAreThoseWithAPathFromAStart
  pub reverse : ReversedMarkedAreThoseWithAPathToAStart
