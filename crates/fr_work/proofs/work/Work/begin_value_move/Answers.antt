use Rattle.std.proofs.Common.{ℕ, suc, refl, sym, ◌∙◌, ap}
use Rattle.fr_work.specs.Common.{Call, Way, as_tracker, at_shape, cursor_tree, shape_at, unless_refused, value_refusal}
use Rattle.fr_model.specs.Entering.{Way as Onward, enters}
use Rattle.fr_work.proofs.DecidingLaws.{cannot, goes_unless}
use Rattle.fr_work.proofs.NewItemLaws.{last_is}
use Rattle.fr_work.proofs.SeenLaws.{items_seen, value_seen}
use Rattle.fr_work.proofs.work.Work.begin_value_move.Goals as goal

pub returns-in-Ok : goal.returns-in-Ok
returns-in-Ok c = record {
  decides =
      let at = c.place.ensures.seen in
      let site = c.args.self.now in
      let may = c.in-Ok.ensures.refused ∙ value_seen at _ c.place.ensures.last in
      let has = items_seen at (as_tracker c.in-Ok.opening.tracker) (suc c.in-Ok.opening.count) c.in-Ok.ensures.items in
      goes_unless site Call.BeginValue (Way.Value c.in-Ok.opening) refl (λ hooks. ap
      (λ (n : ℕ). unless_refused (at_shape (shape_at site) (value_refusal (cursor_tree site.state)))
      (enters site.shapes (shape_at site) site.state (Onward.Value n)))
      (last_is (as_tracker c.in-Ok.opening.tracker) c.in-Ok.opening.count (cursor_tree site.state) has))
      may (has, c.in-Ok.ensures.map, sym may);
}

pub returns-in-Err : goal.returns-in-Err
returns-in-Err c = record {
  decides =
      let at = c.place.ensures.seen in
      cannot at Call.BeginValue _ c.in-Err.operation (λ hooks. refl)
      (c.in-Err.ensures.refused ∙ value_seen at _ c.place.ensures.last);
}
