use Rattle.std.proofs.Common.{refl, sym, ◌∙◌}
use Rattle.fr_work.specs.Common.{Call, Way}
use Rattle.fr_work.proofs.DecidingLaws.{cannot, goes_unless}
use Rattle.fr_work.proofs.EntryRefusals.{entry_seen}
use Rattle.fr_work.proofs.work.Work.begin_object_entry_move.Goals as goal

pub returns-in-None : goal.returns-in-None
returns-in-None c = record {
  decides =
      let may = c.in-None.ensures.refused ∙ entry_seen c.place.ensures.seen in
      goes_unless c.args.self.now (Call.BeginObjectEntry c.args.key.now) (Way.Entry c.args.key) refl (λ hooks. refl) may (sym may);
}

pub returns-in-Some : goal.returns-in-Some
returns-in-Some c = record {
  decides =
      let at = c.place.ensures.seen in
      cannot at (Call.BeginObjectEntry c.args.key.now) _ c.in-Some.operation (λ hooks. refl) (c.in-Some.ensures.refused ∙ entry_seen at);
}
