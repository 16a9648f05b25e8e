use Rattle.std.proofs.Common.{◌≡◌, ap, arith, Some}
use Rattle.std.proofs.lemmas.Grind.{common_steps}
use Rattle.std.proofs.lemmas.Option.{MatchOption-at_some}
use Rattle.flow.proofs.Pushed.{later}
use Rattle.flow.proofs.Words.{word_here}
use Rattle.flow.proofs.cursor.Cursor.read_word.Goals as goal

pub returns-clause-reads : goal.returns-clause-reads
returns-clause-reads c =
    let is : c.word.result ≡ Some (c.in_ok-content.content, c.in_ok-content.width) = grind (arith, common_steps) in
    record {
      onward = later _ _ _ c.skip.ensures.place (MatchOption-at_some _ _ _ is c.word.ensures.range).0;
      read = word_here c.args.self.now.input.now c.rest.result.now c.args.self.now.place c.skip.new.self.place c.in_ok-content.width _ _ _ _ c.in_ok-content.content
          c.rest.ensures c.skip.ensures.place (MatchOption-at_some _ _ _ is c.word.ensures.is) c.in_ok-push.ensures.nodes (ap (λ v. v.items) c.push.ensures.text);
    }
