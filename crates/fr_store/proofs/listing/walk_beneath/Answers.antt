use Rattle.std.proofs.Common.{◌∙◌, ◌++◌, ℕ, List, sym, ap, subst, arith}
use Rattle.fr_store.specs.Common.{heap_of, kid_on_top, IsWalk}
use Rattle.fr_store.proofs.BeneathSteps.{IsQueueBeneath, slots_below, steps_begin, steps_end, steps_few, steps_on}
use Rattle.fr_store.proofs.listing.walk_beneath.Goals as goal

pub loop-head-init : goal.loop-head-init
loop-head-init c =
    subst (λ (l : List ℕ). IsQueueBeneath c.args.slots.now c.args.stack.now l 0)
    (sym (c.in_ok-add_children.ensures.added
    ∙ ap (λ (l : List ℕ). l ++ slots_below (heap_of c.args.slots.now) c.in-Some.top.0) c.new-queue.ensures.items))
    (steps_begin c.requires.is_open.is_open c.in-Some.top.0 c.in-Some.ensures.last)

pub loop-head-smaller : goal.loop-head-smaller
loop-head-smaller c =
    omega (arith, steps_few c.requires.is_open.is_open c.loop-head.invariant, c.loop-head-test.true, c.len.ensures)

pub loop-head-preserved : goal.loop-head-preserved
loop-head-preserved c =
    steps_on c.requires.is_open.is_open c.loop-head.invariant (omega (arith, c.loop-head-test.true, c.len.ensures)) c.index.result.now
    c.index.ensures c.add_children-in-loop-head.new.queue.items c.in_ok-add_children-2.ensures.added

pub returns : goal.returns
returns c = record {
  walk =
      subst (IsWalk (kid_on_top c.args.slots.now c.args.stack.now)) (sym c.reverse.ensures.items)
      (steps_end c.requires.is_open.is_open c.loop-head.invariant (omega (arith, c.loop-head-test.false, c.len.ensures)));
}
