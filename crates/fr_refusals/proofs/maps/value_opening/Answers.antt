use Rattle.std.proofs.Common.{◌-◌, suc, sym, subst, ap, ◌∙◌, arith}
use Rattle.fr_frame.specs.declared.places.EntriesKind.{EntriesKind}
use Rattle.fr_frame.specs.declared.places.Tracker.{Tracker}
use Rattle.fr_frame.specs.Bodies.{own_tree}
use Rattle.fr_frame.specs.Heap.{as_tracker, body_of}
use Rattle.fr_refusals.specs.Openings.{HasItems}
use Rattle.fr_refusals.proofs.BegunLooks.{begun_items}
use Rattle.fr_refusals.proofs.LastIsThere.{ends_some}
use Rattle.fr_refusals.proofs.maps.value_opening.Goals as goal

pub returns-in-Map-clause-items : goal.returns-in-Map-clause-items
returns-in-Map-clause-items c =
    let some = ends_some c.in-Begun.children (sym c.if-lacks_last.ensures) in
    subst (λ (made : Tracker). HasItems (as_tracker made) (suc (c.len-count.result - 1)) (own_tree (body_of c.args.partial.now)))
    (c.in-Entries.is ∙ ap (λ (kind : EntriesKind). Tracker.Entries kind) c.in-Map.is)
    (begun_items _ c.in-Begun.made c.in-Begun.children _ c.in-Begun.is (omega (arith, some, c.len-count.ensures.count)))
