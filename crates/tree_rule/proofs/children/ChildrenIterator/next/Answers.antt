use Rattle.std.proofs.Common.{ap, length, arith}
use Rattle.tree_rule.proofs.Walks.{from_here, from_past}
use Rattle.tree_rule.proofs.children.ChildrenIterator.next.Goals as goal

pub returns-then-self-clause-steps : goal.returns-then-self-clause-steps
returns-then-self-clause-steps c =
    let e = from_past c.args.self.now.nodes.now c.args.self.now.end c.args.self.now.next c.if-self.true in (e, e)

pub returns-clause-steps : goal.returns-clause-steps
returns-clause-steps c =
    from_here c.args.self.now.nodes.now c.args.self.now.end c.args.self.now.next c.args.self.now.forward c.if-self.false

pub returns-clause-goes : goal.returns-clause-goes
returns-clause-goes c =
    let e = ap length (from_here c.args.self.now.nodes.now c.args.self.now.end c.args.self.now.next c.args.self.now.forward c.if-self.false) in
    record { on = λ _. (tt, tt, omega arith); keeps = tt; rests = λ _. tt }
