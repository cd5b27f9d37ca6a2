use Rattle.std.proofs.Common.{refl, sym, ap, ◌∙◌}
use Rattle.fr_work.specs.Common.{Call, at_shape, shape_at}
use Rattle.fr_work.proofs.BeginLaws.{goes_to_child}
use Rattle.fr_work.proofs.DecidingLaws.{admitted, cannot}
use Rattle.fr_work.proofs.SeenLaws.{refusal_seen}
use Rattle.fr_work.proofs.work.Work.begin_nth_field_move.Goals as goal

pub returns-in-Ok : goal.returns-in-Ok
returns-in-Ok c = record {
  decides =
      let at = c.place.ensures.seen in
      let may = c.in-Ok.ensures.refused ∙ refusal_seen at c.args.idx in
      goes_to_child at (Call.BeginNthField c.args.idx) c.args.idx c.in-Ok.opening refl c.in-Ok.ensures.opening (sym may)
      (λ hooks. admitted (ap (at_shape (shape_at c.args.self.now)) may)) c.child_way.result c.child_way.ensures.way;
}

pub returns-in-Err : goal.returns-in-Err
returns-in-Err c = record {
  decides =
      let at = c.place.ensures.seen in
      cannot at (Call.BeginNthField c.args.idx) _ c.in-Err.operation (λ hooks. refl)
      (c.in-Err.ensures.refused ∙ refusal_seen at c.args.idx);
}
