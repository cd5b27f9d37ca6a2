use Rattle.std.proofs.Common.{sym}
use Rattle.fr_store.proofs.StoredMarks.{kept_less, marked_in_use}
use Rattle.fr_store.proofs.store.FrameStore.take.Goals as goal

pub returns-clause-kept : goal.returns-clause-kept
returns-clause-kept c =
    kept_less c.args.self.now c.args.slots.now c.mark.new.slots c.in_ok-child.child.0 c.requires.kept
    (marked_in_use c.args.slots.now c.in_ok-child.child.0 (sym c.if-not-is_stored.ensures.stored)) c.remove.new.self
    c.mark.ensures.marked c.remove.ensures.rest
