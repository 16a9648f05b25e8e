use Rattle.std.proofs.Common.{rules, ap, length}
use Rattle.backrefs.proofs.Pairs.{single_first}
use Rattle.backrefs.proofs.backrefs.PairsIterator.next.Goals as goal
use Rattle.backrefs.proofs.backrefs.PairsIterator.next.Goals.{then-this-lt2, else-this-lt2+in_default-1}

pub returns-in-len1-up-clause-steps : goal.returns-in-len1-up-clause-steps
returns-in-len1-up-clause-steps c =
    elim c.in-len1-up-1.branch [
      | then-this-lt2 w ↦ single_first c.args.self.now.0.now (search rules) (search rules)
      | else-this-lt2+in_default-1 w ↦ single_first c.args.self.now.0.now (search rules) (search rules)
    ]

pub returns-in-len1-up-clause-goes : goal.returns-in-len1-up-clause-goes
returns-in-len1-up-clause-goes c = let taken = ap length (returns-in-len1-up-clause-steps c) in search rules
