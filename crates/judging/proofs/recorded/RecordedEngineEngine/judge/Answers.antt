use Rattle.std.proofs.Common.{◌≡◌, ℕ, None, Some, Option, sym, ap, ◌∙◌, rules}
use Rattle.std.specs.Option.{MatchOption, option_copied}
use Rattle.judging.specs.declared.recorded.Entry.{Entry}
use Rattle.judging.specs.Records.{fault_of}
use Rattle.judging.proofs.RecordLaws.{found_first, said}
use Rattle.judging.proofs.recorded.RecordedEngineEngine.judge.Goals as goal

step : (o : Option Entry) (v : ℕ) → MatchOption o (v ≡ 255) (λ e. v ≡ e.verdict) → fault_of v ≡ said o
step None v m = ap fault_of m
step (Some e) v m = ap fault_of m

pub returns-clause-answer : goal.returns-clause-answer
returns-clause-answer c =
    c.told.ensures ∙ step (option_copied c.entry_of-found.result) c.map_or.result (search rules) ∙ ap said c.entry_of-found.ensures ∙ sym (found_first c.args.self.now.whole.now c.args.self.now.entries.now c.args.text.now)
