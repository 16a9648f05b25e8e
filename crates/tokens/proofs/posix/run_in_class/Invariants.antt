use Rattle.std.proofs.Common.{◌≡◌, ◌+◌, ◌≤◌, ◌++◌, take, drop, Some}
use Rattle.tokens.specs.Posix.{left_from}
use Rattle.tokens.proofs.posix.run_in_class.Given as goal

-- what stands before stays, and the walk goes on behind it
abbrev pub invariant-loop-before : goal.invariant-loop-before
invariant-loop-before l =
    record {
      fresh : l.before ≡ 0 → l.walker ≡ l.fn.walker;
      shallow : l.walker.depth ≤ l.fn.walker.depth + l.before;
      stays : left_from (Some l.fn.walker) l.text ≡ take l.before l.text ++ left_from (Some l.walker) (drop l.before l.text);
    }
