use Rattle.std.proofs.Common.{ap, slice_get, ◌∙◌}
use Rattle.fr_frame.specs.Heap.{body_of, heap_of}
use Rattle.fr_work.specs.PlaceViews.{Initialized}
use Rattle.fr_work.proofs.ViewLaws.{seen_nth}
use Rattle.fr_work.proofs.place_view.PlaceView.get.Goals as goal

pub returns-in-Begun : goal.returns-in-Begun
returns-in-Begun c = record {
  child =
      c.nth_value.ensures
      ∙ seen_nth c.self.inside.shape.0 (heap_of c.self.inside.slots.now) (body_of c.self.inside.partial.now) _ _ c.args.i
      (ap body_of c.in-Begun.is) c.self.invariant
      ∙ ap (λ (seen : Initialized). slice_get seen.children c.args.i) c.self.view_is;
}
