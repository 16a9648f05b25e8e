use Rattle.std.proofs.Common.{◌≡◌, ◌+◌, ◌<◌, length, ap, arith, append-nil, length-append}
use Rattle.tree_rule.specs.Nodes.{at, from, children}
use Rattle.tree_rule.proofs.Turns.{entries_within, keys_entries, keys_length, keys_within}
use Rattle.tree_rule.proofs.Walks.{children_within, from_length}
use Rattle.tree_rule.proofs.whole.Whole.collect_keys.Goals as goal

pub loop-key-init : goal.loop-key-init
loop-key-init c =
    let it = c.into_iter-key-iterator.result.children in
    let ns = c.args.self.now.sound.nodes.now in
    let left : from it.nodes.now it.end it.next ≡ children ns c.args.map = cc in
    let all = children_within ns c.args.map (λ k h. (c.args.self.now.sound.right k h).ends) c.requires.in_bounds in
    rw (left, c.clear.ensures.items) (
      entries_within (λ k. k < length ns) _ all,
      keys_entries _ ((c.args.self.now.holds c.args.map c.requires.in_bounds).paired c.requires.is_map),
    )

pub overflow_cast-key : goal.overflow_cast-key
overflow_cast-key c =
    let left = rw c.in-Some.ensures.steps at c.loop-key.invariant.0 in
    let sized = c.args.self.now.sound.sized.counted in
    record { fits = omega (arith, left.0) }

pub push_reserved-requires : goal.push_reserved-requires
push_reserved-requires c =
    let ns = c.args.self.now.sound.nodes.now in
    let all = rw c.in-Some.ensures.steps at c.loop-key.invariant.1 in
    omega (
      arith,
      simp length-append at (ap length all),
      keys_length (children ns c.args.map),
      from_length ns (at ns c.args.map).end (c.args.map + 1),
      (c.args.self.now.sound.right c.args.map c.requires.in_bounds).ends,
      c.args.self.now.sound.sized.counted,
    )

pub returns-clause-within : goal.returns-clause-within
returns-clause-within c =
    let ns = c.args.self.now.sound.nodes.now in
    let all = children_within ns c.args.map (λ k h. (c.args.self.now.sound.right k h).ends) c.requires.in_bounds in
    let done = rw (c.in-None.ensures.steps.0, append-nil) at c.loop-key.invariant.1 in
    rw done (keys_within (λ k. k < length ns) (children ns c.args.map) all)
