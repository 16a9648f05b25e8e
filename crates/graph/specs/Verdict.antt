-- When marking is refused, and as what.
use Rattle.std.specs.Prelude.{ℕ, List, codes, cond, ◌&&◌, Ok, Err, Result, ◌==◌, nat_le}
use Rattle.graph.specs.declared.marking.Refusal.{Refusal}
use Rattle.graph.specs.declared.marking.Refusal.TheVariants.{WrongLength, SmallWorkspace}

-- the length of the slice is tested first
abbrev pub verdict : ℕ → ℕ → ℕ → ℕ → ℕ → Result (Unit {0}) Refusal
verdict marks places pairs room_places room_pairs =
    cond (marks == places) (cond (nat_le places room_places && nat_le pairs room_pairs) (Ok tt) (Err SmallWorkspace)) (Err WrongLength)

abbrev pub refusal_text : Refusal → List ℕ
refusal_text WrongLength = codes "there is not one mark for each place"
refusal_text SmallWorkspace = codes "the graph is too large for the workspace"
