use Rattle.std.proofs.Common.{◌≡◌, ap, arith, Some}
use Rattle.std.proofs.lemmas.Grind.{common_steps}
use Rattle.std.proofs.lemmas.Option.{MatchOption-at_some}
use Rattle.flow.specs.Flow.{Key, integer}
use Rattle.flow.proofs.Numbers.{integer_here, wide}
use Rattle.flow.proofs.Pushed.{later, read_leaf}
use Rattle.flow.proofs.cursor.Cursor.read_integer.Goals as goal

pub returns-clause-reads : goal.returns-clause-reads
returns-clause-reads c =
    let found : c.integer.result ≡ Some c.in_ok-number.number = grind (arith, common_steps) in
    let is = MatchOption-at_some _ _ _ found (c.integer.ensures c.integer_width-width.ensures.no_plus) in
    record {
      onward = later _ _ _ c.skip.ensures.place (wide _ _ is.0);
      read = read_leaf Key c.args.self.now.input.now c.args.self.now.place c.skip.new.self.place _ _ _ _ _
          (integer (integer_here c.args.self.now.input.now c.rest-rest.result.now c.args.self.now.place c.skip.new.self.place c.integer_width-width.result
          c.in_ok-number.number c.rest-rest.ensures c.skip.ensures.place (is.1 _))) c.in_ok-push.ensures.nodes (ap (λ v. v.items) c.push.ensures.text);
    }
