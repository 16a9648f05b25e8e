use Rattle.std.proofs.Common.{ap, arith, length, length-append}
use Rattle.std.proofs.lemmas.Result.{on_ok_weaker}
use Rattle.flow.proofs.Pieces.{string_here}
use Rattle.flow.proofs.cursor.Cursor.read_string.Goals as goal

pub returns-clause-reads : goal.returns-clause-reads
returns-clause-reads c quote =
    let t = c.in_ok-read_bytes.ensures.text in
    on_ok_weaker c.push.result
    (λ pushed. record {
      onward = omega (arith, c.in_ok-read_bytes.ensures.onward, c.skip.ensures.place);
      read = string_here c.args.self.now.input.now c.skip.new.self.input.now c.args.self.now.place c.skip.new.self.place c.read_bytes.new.self.place _ _ _ _ _ _ _ _ t.0
          (ap (λ b. b.now) c.skip.ensures.input) (omega arith) quote c.skip.ensures.place
          (omega (arith, c.len-start.ensures, c.args.arrays.now.text.ok.0))
          (omega (arith, c.len-start.ensures, c.len.ensures, c.args.arrays.now.text.ok.0, c.read_bytes.new.arrays.text.ok.0, ap length t.2, length-append c.args.arrays.now.text.items t.0))
          t.1 t.2 (ap (λ v. v.items) c.read_bytes.ensures.nodes) (ap (λ v. v.items) c.push.ensures.text) pushed;
    }) c.push.ensures.nodes
