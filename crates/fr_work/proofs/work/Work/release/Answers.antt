use Rattle.std.proofs.Common.{ℕ, sym}
use Rattle.fr_work.specs.Common.{Room_same, RoseBy_same}
use Rattle.fr_moves.specs.WorkLaws.{held_seen}
use Rattle.fr_work.proofs.work.Work.release.Goals as goal

pub release-requires : goal.release-requires
release-requires c = record {
  room = Room_same _ _ c.args.ledger.now (λ (t : ℕ). sym (held_seen c.self.invariant c.self.view_is t)) c.requires.room;
}

pub returns-clause-released : goal.returns-clause-released
returns-clause-released c =
    RoseBy_same _ _ c.args.ledger.now c.release.new.ledger (held_seen c.self.invariant c.self.view_is) c.release.ensures.released
