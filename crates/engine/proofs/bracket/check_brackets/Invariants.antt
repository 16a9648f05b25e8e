use Rattle.std.proofs.Common.{◌≡◌, ◌+◌, ◌≤◌, length}
use Rattle.engine.specs.Brackets.{fault_from, fault_in}
use Rattle.engine.specs.Units.{units}
use Rattle.engine.proofs.bracket.check_brackets.Given as goal

-- no more groups are open than bytes are read, and the units that are left decide
abbrev pub invariant-loop-unit : goal.invariant-loop-unit
invariant-loop-unit l = (l.open.depth + length l.unit-iterator.parser.rest.now ≤ length l.text)
    × (fault_from l.open.depth l.open.ending (units l.unit-iterator.parser.rest.now) ≡ fault_in (units l.text))
