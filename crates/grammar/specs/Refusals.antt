-- The numbers of the refusals that an offer's own tree brings. Two more look at the set: 1, it is not lawful, and 9, it has no room.
use Rattle.std.specs.Prelude.{ℕ}
use Rattle.grammar.specs.declared.refusal.Refusal.{Refusal}
use Rattle.grammar.specs.declared.refusal.Refusal.TheVariants.{FallbackNotUtf8, WrongKind, MissingKey, TooManyAtoms, ReservedName, TooLong, MainMissing, EngineFault}

abbrev pub refusal_number : {F : Type 0} → Refusal F → ℕ
refusal_number FallbackNotUtf8 = 2
refusal_number (WrongKind i) = 3
refusal_number (MissingKey k i) = 4
refusal_number (TooManyAtoms i) = 5
refusal_number (ReservedName i) = 6
refusal_number (TooLong i) = 7
refusal_number MainMissing = 8
refusal_number (EngineFault f i) = 10
