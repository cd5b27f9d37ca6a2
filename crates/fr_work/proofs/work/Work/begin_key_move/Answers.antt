use Rattle.std.proofs.Common.{refl, sym, ◌∙◌}
use Rattle.fr_work.specs.Common.{Call, Way, as_tracker}
use Rattle.fr_work.proofs.DecidingLaws.{cannot, goes_unless}
use Rattle.fr_work.proofs.SeenLaws.{items_seen, key_seen}
use Rattle.fr_work.proofs.work.Work.begin_key_move.Goals as goal

pub returns-in-Ok : goal.returns-in-Ok
returns-in-Ok c = record {
  decides =
      let at = c.place.ensures.seen in
      let may = c.in-Ok.ensures.refused ∙ key_seen at _ c.place.ensures.last in
      goes_unless c.args.self.now Call.BeginKey (Way.Key c.in-Ok.opening) refl (λ hooks. refl) may
      (items_seen at (as_tracker c.in-Ok.opening.tracker) c.in-Ok.opening.count c.in-Ok.ensures.items, c.in-Ok.ensures.map, sym may);
}

pub returns-in-Err : goal.returns-in-Err
returns-in-Err c = record {
  decides =
      let at = c.place.ensures.seen in
      cannot at Call.BeginKey _ c.in-Err.operation (λ hooks. refl) (c.in-Err.ensures.refused ∙ key_seen at _ c.place.ensures.last);
}
