use Rattle.std.proofs.Common.{◌∙◌}
use Rattle.std.proofs.lemmas.Result.{err_from_is_err_and, on_ok_weaker, IfErr-weaker}
use Rattle.flow.proofs.Reading.{as_item, begun_at, empty_at, ended_at, entry_past, goes_on_at, group_at, value_past}
use Rattle.flow.proofs.Stopping.{behind_first, behind_next, colon_at, first_item_at, key_at, key_value_at, leaf_at, next_at, next_item_at, opened_at, unopened_at}
use Rattle.flow.specs.Content.{is_map}
use Rattle.flow.specs.Stops.{item_value, no_end, no_key, no_value}
use Rattle.flow.proofs.cursor.Cursor.+value.Goals as goal

pub read_value-returns-in_default-clause-reads : goal.read_value-returns-in_default-clause-reads
read_value-returns-in_default-clause-reads t c =
    on_ok_weaker c.read_leaf.result (value_past _ _ _ _ _ c.next_token.ensures.input c.next_token.ensures.place) c.read_leaf.ensures.reads

pub read_value-returns-clause-reads : goal.read_value-returns-clause-reads
read_value-returns-clause-reads t c =
    let here = c.in_ok-byte.ensures.byte in
    on_ok_weaker c.read_items.result
    (λ r. value_past _ _ _ _ _ c.next_token.ensures.input c.next_token.ensures.place
    (group_at (is_map c.in-Some.group) c.next_token.new.self _ _ _ _ _ _ c.skip.ensures.input c.skip.ensures.place (here.1 ∙ c.in-Some.ensures) here.0
    (c.len-node.ensures ∙ c.args.arrays.now.nodes.ok.0) c.in_ok-inside.ensures.nodes c.open_group.ensures.text r)) c.read_items.ensures.reads

pub read_entry-returns-clause-reads : goal.read_entry-returns-clause-reads
read_entry-returns-clause-reads t c =
    on_ok_weaker c.read_value.result
    (entry_past _ _ _ _ _ _ _ _ c.next_token.ensures.input c.next_token.ensures.place c.read_scalar.ensures.input c.read_colon.ensures.input
    c.in_ok-read_scalar.ensures.reads c.in_ok-read_colon.ensures.is) c.read_value.ensures.reads

pub read_item-returns-in-List-clause-reads : goal.read_item-returns-in-List-clause-reads
read_item-returns-in-List-clause-reads t c = rw c.in-List.is (on_ok_weaker c.read_value.result (as_item _ _ _ _) c.read_value.ensures.reads)

pub read_items-returns-then-branch-clause-reads : goal.read_items-returns-then-branch-clause-reads
read_items-returns-then-branch-clause-reads t c =
    empty_at (is_map c.args.group) c.args.node _ _ _ _ _ c.if-branch.true c.in_ok-read_closing.ensures.is c.in_ok-read_closing.ensures.nodes c.read_closing.ensures.text

pub read_items-loop-self-init : goal.read_items-loop-self-init
read_items-loop-self-init t c = record {
  input = c.read_item.ensures.input ∙ c.read_closing.ensures.input;
  begun = begun_at (is_map c.args.group) c.args.node c.args.self.now c.read_closing.new.self _ c.args.arrays.now _ _ _ c.read_closing.ensures.input c.if-branch.false c.in_ok-read_closing.ensures.is
      c.in_ok-read_closing.ensures.nodes c.read_closing.ensures.text c.in_ok-read_item.ensures.reads;
  stops = behind_first (is_map c.args.group) c.args.self.now c.read_closing.new.self _ _ _ _ _ c.read_closing.ensures.input c.if-branch.false c.in_ok-read_closing.ensures.is
      c.in_ok-read_item.ensures.reads;
}

pub read_items-loop-self-preserved : goal.read_items-loop-self-preserved
read_items-loop-self-preserved t c = record {
  input = c.read_item-in-loop-self.ensures.input ∙ c.read_next.ensures.input ∙ c.loop-self.invariant.input;
  begun = goes_on_at (is_map c.args.group) c.args.node c.args.self.now c.loop-self.self c.read_next.new.self _ c.args.arrays.now c.loop-self.arrays _ _ _ c.loop-self.invariant.input c.read_next.ensures.input c.if-branch-2.true c.loop-self.invariant.begun
      c.in_ok-read_next.ensures.is c.in_ok-read_next.ensures.nodes c.read_next.ensures.text c.in_ok-read_item-2.ensures.reads;
  stops = behind_next (is_map c.args.group) c.args.self.now c.loop-self.self c.read_next.new.self _ _ _ _ _ c.loop-self.invariant.input c.read_next.ensures.input c.if-branch-2.true
      c.in_ok-read_next.ensures.is c.in_ok-read_item-2.ensures.reads c.loop-self.invariant.stops;
}

pub read_items-returns-clause-reads : goal.read_items-returns-clause-reads
read_items-returns-clause-reads t c =
    ended_at (is_map c.args.group) c.args.node c.args.self.now c.loop-self.self c.read_next.new.self c.args.arrays.now c.loop-self.arrays _ _ c.loop-self.invariant.input c.if-branch-2.false c.loop-self.invariant.begun
    c.in_ok-read_next.ensures.is c.in_ok-read_next.ensures.nodes c.read_next.ensures.text

pub read_value-returns-in_err-byte-clause-stops : goal.read_value-returns-in_err-byte-clause-stops
read_value-returns-in_err-byte-clause-stops t c =
    let p = err_from_is_err_and c.from_residual.result c.from_residual.ensures.1 in rw (p.1, p.2) (no_value c.in_err-byte.ensures.stops)

pub read_value-returns-in_default-clause-stops : goal.read_value-returns-in_default-clause-stops
read_value-returns-in_default-clause-stops t c =
    IfErr-weaker c.read_leaf.result _ _
    (leaf_at c.args.self.now c.next_token.new.self _ _ c.next_token.ensures.input c.next_token.ensures.place c.in_ok-byte.ensures.byte c.in_default.ensures)
    c.read_leaf.ensures.stops

pub read_value-returns-in_err-inside-clause-stops : goal.read_value-returns-in_err-inside-clause-stops
read_value-returns-in_err-inside-clause-stops t c =
    let here = c.in_ok-byte.ensures.byte in
    let p = err_from_is_err_and c.from_residual-in_err-inside.result c.from_residual-in_err-inside.ensures.1 in
    rw (p.1, p.2)
    (unopened_at (is_map c.in-Some.group) c.args.self.now c.next_token.new.self _ _ c.next_token.ensures.input c.next_token.ensures.place (here.1 ∙ c.in-Some.ensures) here.0
    c.in_err-inside.ensures.place c.in_err-inside.ensures.refused)

pub read_value-returns-clause-stops : goal.read_value-returns-clause-stops
read_value-returns-clause-stops t c =
    let here = c.in_ok-byte.ensures.byte in
    IfErr-weaker c.read_items.result _ _
    (opened_at (is_map c.in-Some.group) c.args.self.now c.next_token.new.self c.skip.new.self _ _ c.next_token.ensures.input c.next_token.ensures.place
    (here.1 ∙ c.in-Some.ensures) here.0 c.skip.ensures.input c.skip.ensures.place c.in_ok-inside.ensures.refused) c.read_items.ensures.stops

pub read_entry-returns-in_err-next_token-clause-stops : goal.read_entry-returns-in_err-next_token-clause-stops
read_entry-returns-in_err-next_token-clause-stops t c =
    let p = err_from_is_err_and c.from_residual.result c.from_residual.ensures.1 in rw (p.1, p.2) (no_key c.in_err-next_token.ensures.stops)

pub read_entry-returns-in_err-read_scalar-clause-stops : goal.read_entry-returns-in_err-read_scalar-clause-stops
read_entry-returns-in_err-read_scalar-clause-stops t c =
    let p = err_from_is_err_and c.from_residual-in_err-read_scalar.result c.from_residual-in_err-read_scalar.ensures.1 in
    rw (p.1, p.2) (key_at c.args.self.now c.next_token.new.self _ c.next_token.ensures.input c.next_token.ensures.place c.in_ok-next_token.ensures.byte.0 _
    c.in_err-read_scalar.ensures.stops)

pub read_entry-returns-in_err-read_colon-clause-stops : goal.read_entry-returns-in_err-read_colon-clause-stops
read_entry-returns-in_err-read_colon-clause-stops t c =
    let p = err_from_is_err_and c.from_residual-in_err-read_colon.result c.from_residual-in_err-read_colon.ensures.1 in
    rw (p.1, p.2)
    (colon_at c.args.self.now c.next_token.new.self c.read_scalar.new.self _ _ _ c.next_token.ensures.input c.next_token.ensures.place c.read_scalar.ensures.input
    c.in_ok-read_scalar.ensures.reads _ c.in_err-read_colon.ensures.stops)

pub read_entry-returns-clause-stops : goal.read_entry-returns-clause-stops
read_entry-returns-clause-stops t c =
    IfErr-weaker c.read_value.result _ _
    (key_value_at c.args.self.now c.next_token.new.self c.read_scalar.new.self c.read_colon.new.self _ _ _ c.next_token.ensures.input c.next_token.ensures.place
    c.read_scalar.ensures.input c.read_colon.ensures.input c.in_ok-read_scalar.ensures.reads c.in_ok-read_colon.ensures.is) c.read_value.ensures.stops

pub read_item-returns-in-List-clause-stops : goal.read_item-returns-in-List-clause-stops
read_item-returns-in-List-clause-stops t c = rw c.in-List.is (IfErr-weaker c.read_value.result _ _ (λ m s. item_value s) c.read_value.ensures.stops)

pub read_items-returns-in_err-read_closing-clause-stops : goal.read_items-returns-in_err-read_closing-clause-stops
read_items-returns-in_err-read_closing-clause-stops t c =
    let p = err_from_is_err_and c.from_residual.result c.from_residual.ensures.1 in rw (p.1, p.2) (no_end c.in_err-read_closing.ensures.stops)

pub read_items-returns-in_err-read_item-clause-stops : goal.read_items-returns-in_err-read_item-clause-stops
read_items-returns-in_err-read_item-clause-stops t c =
    let p = err_from_is_err_and c.from_residual-in_err-read_item.result c.from_residual-in_err-read_item.ensures.1 in
    rw (p.1, p.2)
    (first_item_at (is_map c.args.group) c.args.self.now c.read_closing.new.self _ _ c.read_closing.ensures.input c.if-branch.false c.in_ok-read_closing.ensures.is _
    c.in_err-read_item.ensures.stops)

pub read_items-returns-in_err-read_next-clause-stops : goal.read_items-returns-in_err-read_next-clause-stops
read_items-returns-in_err-read_next-clause-stops t c =
    let p = err_from_is_err_and c.from_residual-in_err-read_next.result c.from_residual-in_err-read_next.ensures.1 in
    rw (p.1, p.2)
    (next_at (is_map c.args.group) c.args.self.now c.loop-self.self _ c.loop-self.invariant.input c.loop-self.invariant.stops _ c.in_err-read_next.ensures.stops)

pub read_items-returns-in_err-read_item-2-clause-stops : goal.read_items-returns-in_err-read_item-2-clause-stops
read_items-returns-in_err-read_item-2-clause-stops t c =
    let p = err_from_is_err_and c.from_residual-in_err-read_item-2.result c.from_residual-in_err-read_item-2.ensures.1 in
    rw (p.1, p.2)
    (next_item_at (is_map c.args.group) c.args.self.now c.loop-self.self c.read_next.new.self _ _ c.loop-self.invariant.input c.read_next.ensures.input c.if-branch-2.true
    c.in_ok-read_next.ensures.is c.loop-self.invariant.stops _ c.in_err-read_item-2.ensures.stops)
