use Rattle.std.proofs.Common.{inl, refl, sym, ◌∙◌}
use Rattle.fr_work.specs.Common.{Call, Way, as_tracker}
use Rattle.fr_work.proofs.DecidingLaws.{cannot, goes_unless}
use Rattle.fr_work.proofs.NewItemLaws.{grows}
use Rattle.fr_work.proofs.SeenLaws.{item_seen, items_seen}
use Rattle.fr_work.proofs.work.Work.begin_list_item_move.Goals as goal

pub returns-in-Ok : goal.returns-in-Ok
returns-in-Ok c = record {
  decides =
      let at = c.place.ensures.seen in
      let may = c.in-Ok.ensures.refused ∙ item_seen at in
      let has = items_seen at (as_tracker c.in-Ok.opening.tracker) c.in-Ok.opening.count c.in-Ok.ensures.items in
      goes_unless c.args.self.now Call.BeginListItem (Way.Item c.in-Ok.opening) refl (λ hooks. refl) may
      (has, grows _ _ _ _ has (sym may), inl (sym may));
}

pub returns-in-Err : goal.returns-in-Err
returns-in-Err c = record {
  decides =
      let at = c.place.ensures.seen in
      cannot at Call.BeginListItem _ c.in-Err.operation (λ hooks. refl) (c.in-Err.ensures.refused ∙ item_seen at);
}
