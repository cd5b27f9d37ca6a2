-- What several calls of a builder owe that are made one after another, up to the first that is refused.
use Rattle.std.specs.Prelude.{◌≡◌, ◌⊎◌, ◌+◌, ◌∷◌, ◌++◌, ℕ, List, Result, Ok, Err}
use Rattle.fr_shape.specs.Hooks.{Meanings}
use Rattle.fr_shape.specs.Released.{Conserved, RoseBy}
use Rattle.fr_shape.specs.declared.error.ReflectErrorKind.{ReflectErrorKind}
use Rattle.fr_model.specs.Commands.{Call}
use Rattle.fr_model.specs.Paths.{path_of}
use Rattle.fr_model.specs.Scripts.{brought}
use Rattle.fr_model.specs.Step.{step}
use Rattle.fr_model.specs.Sequences.{AllLeadTo, removed_by_all}
use Rattle.fr_model.specs.Tree.{State}
use Rattle.fr_partial.specs.Builder.{Builder, holds, left}
use Rattle.fr_work.specs.declared.reflect_error.ReflectError.{ReflectError}

-- One of the calls is refused, and those before it are admitted: the error has the kind that is meant and the path of the place before that
-- call. Or there was no memory for that call, or for the value that it brings or a later one brings.
pub record StopsAtOne {H : Type 0} (hooks : Meanings) (before : Builder H) (calls : List Call) (error : ReflectError) : Type 0 where
  pub made : List Call
  pub stopped : Call
  pub unmade : List Call
  pub in_order : calls ≡ made ++ stopped ∷ unmade
  pub at : State
  pub led : AllLeadTo hooks before.shapes before.root before.state made at
  pub refused : (error.kind ≡ ReflectErrorKind.OutOfMemory) ⊎ (step hooks before.shapes before.root at stopped ≡ Err error.kind)
  pub path : error.path ≡ path_of at

-- The calls are all admitted, and the builder stands for the last state, over the same table, root, hooks and plan; or it stopped at one of them.
abbrev pub AreSteps : {H : Type 0} → Meanings → Builder H → List Call → Result (Builder H) ReflectError → Type 0
AreSteps hooks before calls (Ok after) =
    AllLeadTo hooks before.shapes before.root before.state calls after.state
    × (after.shapes ≡ before.shapes) × (after.root ≡ before.root) × (after.hooks ≡ before.hooks) × (after.plan ≡ before.plan)
AreSteps hooks before calls (Err error) = StopsAtOne hooks before calls error

-- how often the calls drop a token, all together: as often as each removes it; where they stopped, as often as the builder held it before
-- them and they bring it
abbrev pub dropped_by_calls : {H : Type 0} → Meanings → Builder H → List Call → Result (Builder H) ReflectError → ℕ → ℕ
dropped_by_calls hooks before calls (Ok after) t = removed_by_all hooks before.shapes before.root before.state calls t
dropped_by_calls hooks before calls (Err error) t = holds before t + brought calls t

-- What several calls owe, which are made one after another.
pub record AreCalls {H : Type 0} (hooks : Meanings) (before : Builder H) (calls : List Call) (result : Result (Builder H) ReflectError) (old new : List ℕ) : Type 0 where
  -- Each did what it means, up to the first that is refused. Or memory ran out.
  pub steps : AreSteps hooks before calls result
  -- What the builder held and the calls bring is held still, or was released: no token is lost or made.
  pub tokens : Conserved (λ t. holds before t + brought calls t) old (left result) new
  -- Released was just what the calls drop.
  pub removed : RoseBy (dropped_by_calls hooks before calls result) old new
