use Rattle.std.proofs.Common.{◌≡◌, None, Some, option_map, ap, sym, ◌∙◌}
use Rattle.fr_shape.specs.View.{view}
use Rattle.fr_partial.specs.ReadAs.{tokenless}
use Rattle.fr_partial.proofs.CopyLaws.{IsCopied, copied_next, held_here, is_copied, is_held, next_light}
use Rattle.fr_partial.proofs.reading_as.copies_of.Goals as goal

pub returns-in-None-clause-tokenless : goal.returns-in-None-clause-tokenless
returns-in-None-clause-tokenless c =
    let none : None ≡ tokenless (view c.in-Some.value.now) = ap (option_map view) (sym c.in-None.is) ∙ c.in_ok-copy.ensures in
    sym
    (c.loop-i.invariant.held
    ∙ held_here c.args.seen.now.children c.loop-i.i (view c.in-Some.value.now) c.in-Some.ensures.child (is_held (view c.in-Some.value.now) none))

pub loop-i-preserved : goal.loop-i-preserved
loop-i-preserved c =
    let values = c.args.seen.now.children in
    let v = view c.in-Some.value.now in
    let some : Some (view c.in-Some-2.copy) ≡ tokenless v = ap (option_map view) (sym c.in-Some-2.is) ∙ c.in_ok-copy.ensures in
    let copied : IsCopied v (view c.in-Some-2.copy) = is_copied v (view c.in-Some-2.copy) some in
    record {
      copied =
          copied_next values c.loop-i.i v c.in-Some.ensures.child c.loop-i.copies c.push.new.self c.in-Some-2.copy
          c.in_ok-push-in-Some-2.ensures.ok c.loop-i.invariant.copied copied.same;
      held = c.loop-i.invariant.held ∙ next_light values c.loop-i.i v c.in-Some.ensures.child copied.light;
    }
