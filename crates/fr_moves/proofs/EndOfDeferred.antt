-- The end of deferred mode: what it means, and what it is refused for.
use Rattle.std.proofs.Common.{◌≡◌, ℕ, List, [], Some, Ok, Err, sym, ◌∙◌, ap, subst}
use Rattle.fr_moves.specs.Common.{Frames, IsAtWork, IsKept, IsMeant, IsOpen, IsSound, LookupPathsAgree, Meanings, Move, NothingStored, Parts, Plan, ReflectErrorKind, Slot, State, IsSuited, meant_by, one_more_call, plan_in, site, strict, top_place, whole_tree}
use Rattle.fr_shape.specs.Hooks.{IsLawful}
use Rattle.fr_model.specs.Finish.{finished, finish_cause}
use Rattle.fr_model.specs.Laws.{StepKeepsConversions, StepKeepsOrder, StepKeepsRest}
use Rattle.fr_model.specs.PathLaws.{FinishingKeepsThePath}
use Rattle.fr_model.specs.Step.{finishes}
use Rattle.fr_store.specs.Turns.{root_shape, IsFinished, IsHeldUp}
use Rattle.fr_refusals.specs.declared.mode.Mode.{Mode}
use Rattle.fr_moves.specs.Underway.{state_of}
use Rattle.fr_moves.specs.StateLaws.{kept_none, sound_so, state_is, state_then, well_after}
use Rattle.fr_moves.specs.PlaceLaws.{root_is}

module _ (paths : LookupPathsAgree) {plan : Plan} {frames : Frames} (at_work : IsAtWork plan frames) where
  root_of : root_shape plan ≡ frames.root.0
  root_of = root_is paths at_work.ready.checked at_work.ready.inside at_work.ready.planned

  pub suits_root : IsSuited frames.table.now (root_shape plan) (whole_tree frames)
  suits_root = subst (λ (s : ℕ). IsSuited frames.table.now s (whole_tree frames)) (sym root_of) at_work.ready.suits

module _ (paths : LookupPathsAgree) (means : Meanings) (parts : Parts) {plan : Plan} (at_work : IsAtWork plan parts.frames) where
  -- what it is refused for
  pub held_up : (kind : ReflectErrorKind) → IsHeldUp means parts.frames.table.now plan parts.frames.slots parts.frames.stack kind
      → meant_by means (site parts) Move.Finish ≡ Err kind
  held_up kind held =
      let cursor = top_place parts.frames in
      let is = root_of paths at_work in
      ap (finishes means parts.frames.table.now parts.frames.root.0 (site parts).state)
      (ap (λ (s : ℕ). finished means parts.frames.table.now s cursor (whole_tree parts.frames)) (sym is) ∙ held.unfinished)
      ∙ ap (λ (k : ReflectErrorKind). Err k)
      (ap (λ (s : ℕ). finish_cause means parts.frames.table.now s cursor (whole_tree parts.frames)) (sym is) ∙ sym held.cause)

  module _ {after : List Slot} {next : List ℕ}
      (done : IsFinished means parts.frames.table.now plan parts.frames.slots parts.frames.stack after next) where
    -- the tree that it makes
    finished_so : finished means parts.frames.table.now parts.frames.root.0 (top_place parts.frames) (whole_tree parts.frames)
        ≡ Some done.tree
    finished_so =
        ap (λ (s : ℕ). finished means parts.frames.table.now s (top_place parts.frames) (whole_tree parts.frames))
        (sym (root_of paths at_work)) ∙ done.meant

    -- the state with it
    pub ends : meant_by means (site parts) Move.Finish
        ≡ Ok (record (state_then parts (top_place parts.frames) done.tree) { mode = strict })
    ends = ap (finishes means parts.frames.table.now parts.frames.root.0 (site parts).state) finished_so

    pub ended_is : {calls : ℕ} → calls ≡ one_more_call parts.calls
        → state_of after next strict calls ≡ record (state_then parts (top_place parts.frames) done.tree) { mode = strict }
    ended_is {calls} more = state_is strict calls (one_more_call parts.calls) done.stands more

    -- it is sound then
    pub sound_ended : StepKeepsOrder → StepKeepsRest → StepKeepsConversions → FinishingKeepsThePath → IsLawful means → IsSound parts → IsMeant (site parts) Move.Finish
        → plan ≡ plan_in parts.plan → {store : List ℕ} → store ≡ [] → NothingStored after → {calls : ℕ}
        → calls ≡ one_more_call parts.calls
        → IsSound (record parts {
          frames = record parts.frames { slots = after; stack = next; store = store; mode = Mode.Strict };
          calls = calls;
        })
    sound_ended keeps_order keeps_rest keeps_conversions keeps_path lawful sound meant same {store} empty none {calls} more =
        let state : State = record (state_then parts (top_place parts.frames) done.tree) { mode = strict } in
        let steps = meant.1.means means ∙ ends in
        sound_so sound after next store Mode.Strict parts.path calls state
        (subst (λ (p : Plan). IsOpen p after next) same done.stands.open_still)
        (subst (λ (listed : List ℕ). IsKept listed after) (sym empty) (kept_none after none)) empty (ended_is more)
        (well_after sound keeps_order keeps_rest keeps_conversions means lawful state meant.0 meant.1.fitting steps) (sound.path ∙ sym
        (keeps_path means parts.frames.table.now parts.frames.root.0 (top_place parts.frames) (whole_tree parts.frames) done.tree
        finished_so))
