-- Laws of what a frontier is lent: it stays the same from one step to the next.
use Rattle.std.proofs.Common.{refl, ◌∙◌}
use Rattle.graph.specs.Lent.{SameLent}
use Rattle.graph.specs.declared.frontier.Frontier.{Frontier}

pub lent_same : (a : Frontier) → SameLent a a
lent_same a = record { marks = refl; queue = refl; room = refl }

pub lent_on : (a b c : Frontier) → SameLent a b → SameLent b c → SameLent a c
lent_on a b c s t = record { marks = t.marks ∙ s.marks; queue = t.queue ∙ s.queue; room = t.room ∙ s.room }
