use Rattle.std.proofs.Common.{sym}
use Rattle.fr_work.proofs.EmptySlices.{no_slice_put, no_slice_wanted, shared_refused}
use Rattle.fr_work.proofs.work.Work.set_empty_shared_slice_move.Goals as goal

pub returns-in-Some : goal.returns-in-Some
returns-in-Some c = record {
  decides =
      let at = c.place.ensures.seen in
      shared_refused c.args.self.now c.place.result.0.now c.place.result.1 at.table_is at.shape_is c.in-Some.operation
      (sym c.in-Some.ensures.refused);
}

pub returns-in-Ok : goal.returns-in-Ok
returns-in-Ok c = record {
  decides =
      let at = c.place.ensures.seen in
      no_slice_put c.args.self.now c.place.result.0.now c.place.result.1 at.table_is at.shape_is (sym c.in_default.ensures.refused)
      c.in-Ok.value c.in-Ok.ensures;
}

pub returns-in-Err : goal.returns-in-Err
returns-in-Err c = record {
  decides =
      let at = c.place.ensures.seen in
      no_slice_wanted c.args.self.now c.place.result.0.now c.place.result.1 at.table_is at.shape_is (sym c.in_default.ensures.refused);
}
