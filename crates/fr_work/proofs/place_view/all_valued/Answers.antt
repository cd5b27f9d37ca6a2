use Rattle.std.proofs.Common.{ap, is_some, sym, ◌∙◌, arith}
use Rattle.std.proofs.lemmas.List.{drop_all}
use Rattle.fr_frame.specs.Heap.{heap_of}
use Rattle.fr_work.specs.PlaceViews.{all_valued}
use Rattle.fr_work.proofs.ViewLaws.{later_valued, none_valued}
use Rattle.fr_work.proofs.place_view.all_valued.Goals as goal

pub loop-i-preserved : goal.loop-i-preserved
loop-i-preserved c =
    c.loop-i.invariant
    ∙ later_valued (heap_of c.args.slots.now) c.args.children.now c.loop-i.i (omega (arith, c.len-i-end.ensures.count))
    (sym (ap is_some c.in-Some.ensures))

pub returns-in-None : goal.returns-in-None
returns-in-None c =
    sym (c.loop-i.invariant
    ∙ none_valued (heap_of c.args.slots.now) c.args.children.now c.loop-i.i (omega (arith, c.len-i-end.ensures.count))
    (sym (ap is_some c.in-None.ensures)))

pub returns : goal.returns
returns c =
    sym (c.loop-i.invariant ∙ ap (all_valued (heap_of c.args.slots.now))
    (drop_all c.loop-i.i c.args.children.now (omega (arith, c.len-i-end.ensures.count))))
