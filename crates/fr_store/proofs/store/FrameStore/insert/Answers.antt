use Rattle.std.proofs.Common.{ℕ, List, sym, subst}
use Rattle.fr_store.specs.Common.{IsKept}
use Rattle.fr_store.proofs.StoredMarks.{kept_more}
use Rattle.fr_store.proofs.store.FrameStore.insert.Goals as goal

pub returns-clause-kept : goal.returns-clause-kept
returns-clause-kept c =
    subst (λ (l : List ℕ). IsKept l c.mark.new.slots) (sym c.in_ok-append.ensures.appended)
    (kept_more c.args.self.now c.args.slots.now c.mark.new.slots c.args.place.0 c.requires.kept c.requires.in_use
    c.mark.ensures.marked)
