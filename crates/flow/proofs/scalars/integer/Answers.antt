use Rattle.std.proofs.Common.{◌≡◌, List, ℕ, subst, arith, w64}
use Rattle.std.specs.Str.Parse.{ParsesSigned}
use Rattle.std.proofs.lemmas.Grind.{common_steps}
use Rattle.flow.proofs.Numbers.{parsed}
use Rattle.flow.proofs.scalars.integer.Goals as goal

pub returns : goal.returns
returns c no_plus =
    let same : c.in_ok-ok.field-0.now ≡ c.args.bytes.now = grind (arith, common_steps) in
    rw c.ok-2.ensures.value (parsed c.args.bytes.now c.parse.result (subst (λ (bs : List ℕ). ParsesSigned w64 10 bs c.parse.result) same c.parse.ensures.value.0) no_plus)
