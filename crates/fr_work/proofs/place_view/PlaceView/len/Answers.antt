use Rattle.std.proofs.Common.{ap, length, ◌∙◌}
use Rattle.fr_frame.specs.Heap.{body_of, heap_of}
use Rattle.fr_work.specs.PlaceViews.{Initialized}
use Rattle.fr_work.proofs.ViewLaws.{seen_count}
use Rattle.fr_work.proofs.place_view.PlaceView.len.Goals as goal

pub returns-in-Begun : goal.returns-in-Begun
returns-in-Begun c = record {
  count =
      c.len.ensures.count
      ∙ seen_count c.self.inside.shape.0 (heap_of c.self.inside.slots.now) (body_of c.self.inside.partial.now) _ _
      (ap body_of c.in-Begun.is) c.self.invariant
      ∙ ap (λ (seen : Initialized). length seen.children) c.self.view_is;
}
