use Rattle.std.proofs.Common.{ap, sym, ◌∙◌, arith}
use Rattle.fr_frame.specs.Common.{held_items, with_items}
use Rattle.fr_frame.proofs.DrainLaws.{frees_on, holds_on, filled_on, filled_past, none_to_come}
use Rattle.fr_frame.proofs.draining.put_items.Goals as goal

pub loop-slot-preserved : goal.loop-slot-preserved
loop-slot-preserved c =
    let n = c.args.list.0 in
    let start = c.args.entries.now in
    let was = c.loop-slot.invariant in record {
      freed = frees_on n c.loop-slot.at c.in-Some.slot.0 start c.loop-slot.entries c.put_item.new.entries was.freed c.put_item.ensures.freed;
      held = holds_on n c.loop-slot.at c.in-Some.slot.0 start c.loop-slot.entries c.put_item.new.entries was.held c.put_item.ensures.freed;
      children = filled_on start c.loop-slot.entries n c.loop-slot.at c.loop-slot.children c.put_item.new.children c.in-Some.slot c.next.new.self (omega arith) was.held c.put_item.ensures.put
          ∙ ap (with_items (held_items start) n 0 c.loop-slot.at c.loop-slot.children) (sym c.in-Some.ensures.steps) ∙ was.children;
    }

pub returns-then-at-len-clause-children : goal.returns-then-at-len-clause-children
returns-then-at-len-clause-children c =
    sym (filled_past (held_items c.args.entries.now) c.args.list.0 0 c.loop-slot.at c.loop-slot.children c.loop-slot.slots (omega arith))
    ∙ c.loop-slot.invariant.children

pub returns-clause-children : goal.returns-clause-children
returns-clause-children c =
    let held = held_items c.args.entries.now in
    sym (none_to_come held c.args.list.0 0 c.loop-slot.at c.loop-slot.children)
    ∙ ap (with_items held c.args.list.0 0 c.loop-slot.at c.loop-slot.children) (sym c.in_default.ensures.steps.0)
    ∙ c.loop-slot.invariant.children
