use Rattle.std.proofs.Common.{ℕ, Ok, Err, sym, refl, ◌∙◌, ap, subst, inr}
use Rattle.fr_work.specs.Common.{Conserved_same, IsSound, ReflectErrorKind, Room_conserved, Room_same, RoseBy_same, Site, Val, fits, occurs, site, view}
use Rattle.fr_work.proofs.BuildLaws.{broken_so, broken_then, built_not, built_so, due_now, kept_then, fits_so, needed_none, refused_first, IsDue}
use Rattle.fr_moves.specs.RemovedLaws.{kept_through}
use Rattle.fr_moves.specs.RemovedLaws.{all_released}
use Rattle.fr_moves.specs.WorkLaws.{held_seen}
use Rattle.fr_work.proofs.work.Work.take_root.Given.{Over}
use Rattle.fr_work.proofs.work.Work.take_root.Goals as goal
use Rattle.fr_work.proofs.work.Work.take_root.Goals.{After-into_inner-plan}

-- what was taken out of the box may be built
due : (g : Over) (c : After-into_inner-plan g) → IsDue c.into_inner-plan.result c.args.self
due g c =
    due_now (subst IsSound (sym c.into_inner-plan.ensures) c.self.invariant)
    (ap site c.into_inner-plan.ensures ∙ c.self.view_is) c.requires.admitted

pub take_root-requires-clause-strict : goal.take_root-requires-clause-strict
take_root-requires-clause-strict g c = (due g (goal.at.take_root-requires-clause-strict g c).After-into_inner-plan).mode

pub take_root-requires-clause-at_root : goal.take_root-requires-clause-at_root
take_root-requires-clause-at_root g c = (due g (goal.at.take_root-requires-clause-at_root g c).After-into_inner-plan).at_root

pub take_root-requires-clause-room : goal.take_root-requires-clause-room
take_root-requires-clause-room g c =
    let at = due g (goal.at.take_root-requires-clause-room g c).After-into_inner-plan in
    Room_same _ _ c.args.ledger.now (λ (t : ℕ). sym (held_seen at.sound at.is t)) c.requires.room

pub keep_root-requires-clause-room : goal.keep_root-requires-clause-room
keep_root-requires-clause-room g c =
    let at = due g (goal.at.keep_root-requires-clause-room g c).After-into_inner-plan in
    Room_conserved _ _ _ _ c.in-Ok.ensures.conserved
    (Room_same _ _ c.args.ledger.now (λ (t : ℕ). sym (held_seen at.sound at.is t)) c.requires.room)

pub returns-in-Ok-keep_root-clause-built : goal.returns-in-Ok-keep_root-clause-built
returns-in-Ok-keep_root-clause-built g c =
    let at = due g (goal.at.returns-in-Ok-keep_root-clause-built g c).After-into_inner-plan in
    let kept = kept_then _ (view c.in-Ok.value) c.in-Ok-keep_root.value c.in-Ok-keep_root.ensures.kept in
    (built_so at (g.H.Hooks.means c.args.hooks.now) c.in-Ok.ensures.value kept.0 ∙ ap (λ (v : Val). Ok v) (sym kept.1), ap (λ (s : Site). s.state.calls) at.is)

pub returns-in-Ok-keep_root-clause-fits : goal.returns-in-Ok-keep_root-clause-fits
returns-in-Ok-keep_root-clause-fits g c =
    let kept = kept_then _ (view c.in-Ok.value) c.in-Ok-keep_root.value c.in-Ok-keep_root.ensures.kept in
    ap (fits c.args.self.shapes c.args.self.root) kept.1
    ∙ fits_so (due g (goal.at.returns-in-Ok-keep_root-clause-fits g c).After-into_inner-plan) (g.H.Hooks.means c.args.hooks.now)
    c.in-Ok.ensures.value c.law_completes.ensures.fits (c.law_hooks.ensures.lawful c.args.hooks.now)

pub returns-in-Ok-keep_root-clause-tokens : goal.returns-in-Ok-keep_root-clause-tokens
returns-in-Ok-keep_root-clause-tokens g c =
    let at = due g (goal.at.returns-in-Ok-keep_root-clause-tokens g c).After-into_inner-plan in
    let kept = kept_then _ (view c.in-Ok.value) c.in-Ok-keep_root.value c.in-Ok-keep_root.ensures.kept in
    rw c.in-Ok-keep_root.ensures.unreleased
    (Conserved_same _ _ _ _ _ _ (held_seen at.sound at.is) (λ t. ap (λ (v : Val). occurs v t) (sym kept.1)) c.in-Ok.ensures.conserved)

pub returns-clause-built : goal.returns-clause-built
returns-clause-built g c =
    let broken = broken_then _ (view c.in-Ok.value) c.in-Err-keep_root.kind c.in-Err-keep_root.ensures.kept in
    inr
    (broken_so (due g (goal.at.returns-clause-built g c).After-into_inner-plan) (g.H.Hooks.means c.args.hooks.now)
    c.in-Ok.ensures.value broken.0 ∙ ap (λ (kind : ReflectErrorKind). Err kind) (sym broken.1))

pub returns-clause-tokens : goal.returns-clause-tokens
returns-clause-tokens g c =
    let at = due g (goal.at.returns-clause-tokens g c).After-into_inner-plan in
    kept_through _ _ _ _ _ _ (Conserved_same _ _ _ _ _ _ (held_seen at.sound at.is) (λ t. refl) c.in-Ok.ensures.conserved)
    (all_released _ _ _ c.in-Err-keep_root.ensures.released)

pub returns-in-Err-clause-built : goal.returns-in-Err-clause-built
returns-in-Err-clause-built g c =
    built_not (due g (goal.at.returns-in-Err-clause-built g c).After-into_inner-plan) (g.H.Hooks.means c.args.hooks.now)
    c.in-Err.ensures.why

pub returns-in-Err-clause-tokens : goal.returns-in-Err-clause-tokens
returns-in-Err-clause-tokens g c =
    let at = due g (goal.at.returns-in-Err-clause-tokens g c).After-into_inner-plan in
    all_released _ _ _ (RoseBy_same _ _ _ _ (held_seen at.sound at.is) c.in-Err.ensures.released)

pub returns-in-Err-clause-refused : goal.returns-in-Err-clause-refused
returns-in-Err-clause-refused g c refused passes unbroken wanted =
    refused_first (due g (goal.at.returns-in-Err-clause-refused g c).After-into_inner-plan) (g.H.Hooks.means c.args.hooks.now)
    c.in-Err.ensures.why wanted passes refused unbroken

pub returns-in-Err-clause-memory : goal.returns-in-Err-clause-memory
returns-in-Err-clause-memory g c none passes wanted =
    needed_none (due g (goal.at.returns-in-Err-clause-memory g c).After-into_inner-plan) (g.H.Hooks.means c.args.hooks.now)
    c.in-Err.ensures.why wanted passes none
