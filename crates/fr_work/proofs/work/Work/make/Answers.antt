use Rattle.std.proofs.Common.{◌≡◌, ℕ, ◌+◌, refl, sym, ◌∙◌, ap}
use Rattle.fr_work.specs.Common.{Conserved_same, Parts, Room_conserved, Room_same, carried, held_at, held_in}
use Rattle.fr_moves.specs.RemovedLaws.{kept_through}
use Rattle.fr_moves.specs.RemovedLaws.{all_released}
use Rattle.fr_moves.specs.WorkLaws.{held_seen}
use Rattle.fr_work.proofs.work.Work.make.Given.{Over}
use Rattle.fr_work.proofs.work.Work.make.Goals as goal
use Rattle.fr_work.proofs.work.Work.make.Goals.{After-deref_mut}

-- what is held as the move begins
held : (g : Over) (c : After-deref_mut g) → (t : ℕ)
    → held_in c.deref_mut.result.now.frames t + carried c.args.decided t ≡ held_at c.args.self t + carried c.args.decided t
held g c t =
    ap (λ (p : Parts). held_in p.frames t + carried c.args.decided t) c.deref_mut.ensures.value
    ∙ ap (λ (n : ℕ). n + carried c.args.decided t) (held_seen c.self.invariant c.self.view_is t)

pub make-requires-clause-room : goal.make-requires-clause-room
make-requires-clause-room g c =
    Room_same _ _ c.args.ledger.now (λ t. sym (held g (goal.at.make-requires-clause-room g c).After-deref_mut t)) c.requires.room

pub release-path-requires : goal.release-path-requires
release-path-requires g c = record {
  room =
      Room_conserved _ _ _ _ c.make.ensures.tokens
      (Room_same _ _ c.args.ledger.now (λ t. sym (held g (goal.at.release-path-requires g c).After-deref_mut t)) c.requires.room);
}

pub returns-in-Ok-clause-tokens : goal.returns-in-Ok-clause-tokens
returns-in-Ok-clause-tokens g c =
    Conserved_same _ _ _ _ _ _ (held g (goal.at.returns-in-Ok-clause-tokens g c).After-deref_mut)
    (held_seen c.in-Ok.ensures.sound refl) c.make.ensures.tokens

pub returns-in-Err-clause-tokens : goal.returns-in-Err-clause-tokens
returns-in-Err-clause-tokens g c =
    Conserved_same _ _ _ _ _ _ (held g (goal.at.returns-in-Err-clause-tokens g c).After-deref_mut) (λ t. refl)
    (kept_through _ _ _ _ _ _ c.make.ensures.tokens (all_released _ _ _ c.release-path.ensures.released))
