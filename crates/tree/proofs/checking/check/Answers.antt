use Rattle.tree.proofs.Meaning.{formed_means}
use Rattle.tree.proofs.Writing.{written}
use Rattle.tree.proofs.checking.check.Goals as goal

pub returns-in_err-judge-clause-complete : goal.returns-in_err-judge-clause-complete
returns-in_err-judge-clause-complete c = written

pub returns-clause-meaning : goal.returns-clause-meaning
returns-clause-meaning c = formed_means _ _ c.in_ok-judge.ensures

pub returns-clause-complete : goal.returns-clause-complete
returns-clause-complete c = written
