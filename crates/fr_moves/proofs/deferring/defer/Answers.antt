use Rattle.std.proofs.Common.{◌≡◌, ℕ, ◌-◌, length, Ok, refl, sym, ap, ◌∙◌, arith}
use Rattle.fr_moves.specs.Common.{State, deferred, no_hooks, one_more_call, site}
use Rattle.fr_shape.specs.HookLaws.{no_hooks_are_lawful}
use Rattle.fr_refusals.specs.declared.mode.Mode.{Mode}
use Rattle.fr_moves.specs.StateLaws.{sound_so, well_after}
use Rattle.fr_moves.specs.WorkLaws.{open_count}
use Rattle.fr_moves.proofs.deferring.defer.Goals as goal
use Rattle.fr_moves.proofs.deferring.defer.Goals.{After-saturating_add-parts}

abbrev next : State → State
next state = record state { mode = deferred (length state.cursor); calls = one_more_call state.calls }

state_is : (c : After-saturating_add-parts)
    → record (site c.args.parts.now).state { mode = deferred (c.len-start.result - 1); calls = c.saturating_add-parts.result }
    ≡ next (site c.args.parts.now).state
state_is c =
    let state : State = (site c.args.parts.now).state in
    let deep : c.len-start.result - 1 ≡ length state.cursor
    = omega (arith, open_count c.requires.sound refl, c.len-start.ensures.count) in
    ap (λ (n : ℕ). record state { mode = deferred n; calls = c.saturating_add-parts.result }) deep
    ∙ ap (λ (n : ℕ). record state { mode = deferred (length state.cursor); calls = n }) c.saturating_add-parts.ensures

pub returns-clause-sound : goal.returns-clause-sound
returns-clause-sound c =
    let parts = c.args.parts.now in
    let meant = c.requires.meant in
    let work = c.requires.sound.at_work in
    sound_so c.requires.sound parts.frames.slots parts.frames.stack parts.frames.store (Mode.Deferred (c.len-start.result - 1))
    parts.path c.saturating_add-parts.result (next (site parts).state) work.ready.shown work.kept tt
    (state_is (goal.at.returns-clause-sound c).After-saturating_add-parts)
    (well_after c.requires.sound c.law_well.ensures.in_order c.law_well.ensures.rests c.law_well.ensures.conversions no_hooks
    no_hooks_are_lawful (next (site parts).state) meant.0 meant.1.fitting (meant.1.means no_hooks)) c.requires.sound.path

pub returns-clause-moved : goal.returns-clause-moved
returns-clause-moved c = (
  ap (λ (s : State). Ok s) (sym (state_is (goal.at.returns-clause-moved c).After-saturating_add-parts)),
  refl,
  refl,
  refl,
)
