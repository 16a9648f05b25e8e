use Rattle.backrefs.proofs.SubstitutionLaws.{substitution_unchanged}
use Rattle.backrefs.proofs.backrefs.substitute_backrefs_in_regex.Goals as goal

pub returns-clause-unchanged : goal.returns-clause-unchanged
returns-clause-unchanged g c = substitution_unchanged (g.S.Substituter.part c.args.substituter.now) c.args.regex.now
