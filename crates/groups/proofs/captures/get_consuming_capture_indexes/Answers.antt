use Rattle.std.proofs.Common.{◌∷◌, [], ap, subst, ◌∙◌}
use Rattle.buffer.specs.Appends.{Appended}
use Rattle.groups.specs.Captures.{marks, numbers_from}
use Rattle.groups.proofs.CaptureLaws.{captures_rise}
use Rattle.groups.proofs.Marks.{numbers_valid}
use Rattle.groups.proofs.captures.get_consuming_capture_indexes.Goals as goal

pub returns-clause-numbers : goal.returns-clause-numbers
returns-clause-numbers c =
    subst (λ ns. Appended c.args.out.now.items (0 ∷ ns) c.write_pieces.result c.write_pieces.new.self.items)
    (ap (λ bs. numbers_from 0 0 (marks bs)) c.new.ensures ∙ numbers_valid [] 0 (marks c.args.regex.now)) c.write_pieces.ensures

pub returns-clause-rising : goal.returns-clause-rising
returns-clause-rising c = captures_rise c.args.regex.now
