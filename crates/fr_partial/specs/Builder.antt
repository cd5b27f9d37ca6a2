-- What contracts see of a builder, and what its calls owe.
use Rattle.std.specs.Prelude.{◌≡◌, ◌≢◌, ◌⊎◌, ℕ, ◌+◌, List, Result, Ok, Err, IsErr, IfErr, IfOk, Bool, true, false, refl}
use Rattle.std.specs.Coded.{Coded, code_by, coded×}
use Rattle.fr_shape.specs.Fits.{fits}
use Rattle.fr_shape.specs.Hooks.{Meanings}
use Rattle.fr_shape.specs.Look.{Table}
use Rattle.fr_shape.specs.Released.{Conserved, RoseBy}
use Rattle.fr_shape.specs.Val.{Val}
use Rattle.fr_shape.specs.declared.error.Invariant.{Invariant}
use Rattle.fr_shape.specs.declared.error.ReflectErrorKind.{ReflectErrorKind}
use Rattle.fr_model.specs.Commands.{Call}
use Rattle.fr_model.specs.Paths.{path_of}
use Rattle.fr_model.specs.Removed.{removed, removed_at_build}
use Rattle.fr_model.specs.Scripts.{brings}
use Rattle.fr_model.specs.Step.{step, build, violates}
use Rattle.fr_model.specs.Tree.{State, cursor_shape, tree_occurs}
use Rattle.fr_plan.specs.TypePlan.{Plan}
use Rattle.fr_work.specs.Building.{left_built}
use Rattle.fr_work.specs.BuiltValue.{BuiltValue}
use Rattle.fr_moves.specs.CompletedPlaces.{completes_late, PassesValidators}
use Rattle.fr_work.specs.Making.{IsNotOutOfMemory}
use Rattle.fr_work.specs.ParseHooks.{parses_by_hook}
use Rattle.fr_moves.specs.Sites.{Site, site_code}
use Rattle.fr_work.specs.declared.reflect_error.ReflectError.{ReflectError}

-- the table that its shapes come from, the hooks, the root's shape, the plan by which it is built, and the state
pub record Builder (H : Type 0) : Type 0 where
  pub shapes : Table
  pub hooks : H
  pub root : ℕ
  pub plan : Plan
  pub state : State

-- what it works with
abbrev pub site_of : {H : Type 0} → Builder H → Site
site_of builder = record { shapes = builder.shapes; root = builder.root; plan = builder.plan; state = builder.state }

abbrev pub builder_code : {H : Type 0} → Coded H → Coded (Builder H)
builder_code {H} hooks_code =
    code_by (H × Site) (coded× hooks_code site_code) (λ b. (b.hooks, site_of b))
    (λ p. record { shapes = p.1.shapes; hooks = p.0; root = p.1.root; plan = p.1.plan; state = p.1.state }) (λ b. refl)

-- the shape of the place at which it works
abbrev pub here : {H : Type 0} → Builder H → ℕ
here builder = cursor_shape builder.shapes builder.root builder.state

-- how often it holds a token
abbrev pub holds : {H : Type 0} → Builder H → ℕ → ℕ
holds builder t = tree_occurs builder.state.tree t

-- Steps

-- what a call means, as the hooks mean: the state after it, or why it is refused
abbrev pub meaning : {H : Type 0} → Meanings → Builder H → Call → Result State ReflectErrorKind
meaning hooks builder call = step hooks builder.shapes builder.root builder.state call

-- What is meant came about: where it is a state, the builder stands for it, over the same table, root, hooks and plan;
-- where it is a refusal, that is the error's kind; or memory ran out.
abbrev pub IsStepTo : {H : Type 0} → Builder H → (meant : Result State ReflectErrorKind) → Result (Builder H) ReflectError → Type 0
IsStepTo before meant (Ok after) =
    (meant ≡ Ok after.state) × (after.shapes ≡ before.shapes) × (after.root ≡ before.root) × (after.hooks ≡ before.hooks)
    × (after.plan ≡ before.plan)
IsStepTo before meant (Err error) = (error.kind ≡ ReflectErrorKind.OutOfMemory) ⊎ (meant ≡ Err error.kind)

-- the call did exactly what it means, or was out of memory
abbrev pub IsStep : {H : Type 0} → Meanings → Builder H → Call → Result (Builder H) ReflectError → Type 0
IsStep hooks before call result = IsStepTo before (meaning hooks before call) result

-- the builder that a call answers beside a truth value
abbrev pub builder_then : {H : Type 0} → Result (Builder H × Bool) ReflectError → Result (Builder H) ReflectError
builder_then (Ok both) = Ok both.0
builder_then (Err error) = Err error

-- what `build` means, as the hooks mean: the value, or why it is refused
abbrev pub meaning_of_build : {H : Type 0} → Meanings → Builder H → Result Val ReflectErrorKind
meaning_of_build hooks builder = build hooks builder.shapes builder.root builder.state

-- `build` did exactly what it means, its value made by as many calls as the builder had, or was out of memory
abbrev pub IsBuilt : {H : Type 0} → Meanings → Builder H → Result BuiltValue ReflectError → Type 0
IsBuilt hooks before (Ok built) = (meaning_of_build hooks before ≡ Ok built.value) × (built.calls ≡ before.state.calls)
IsBuilt hooks before (Err error) = (error.kind ≡ ReflectErrorKind.OutOfMemory) ⊎ (meaning_of_build hooks before ≡ Err error.kind)

-- whatever its kind, the error names the path of the place at which the builder worked before the call
abbrev pub TellsPlaceBefore : {H A : Type 0} → Builder H → Result A ReflectError → Type 0
TellsPlaceBefore before result = IfErr result (λ error. error.path ≡ path_of before.state)

-- Memory

-- a call that means a refusal other than that a value fails a validator, or isn't converted, is refused so, and not out of memory
abbrev pub RefusesBeforeMemory : {H : Type 0} → Meanings → Builder H → Call → Result (Builder H) ReflectError → Type 0
RefusesBeforeMemory hooks before call result =
    IsErr (meaning hooks before call) → PassesValidators (meaning hooks before call) → IsNotOutOfMemory result

-- a `build` that means a refusal other than that a value fails a validator or breaks an invariant is refused so, and not out of memory
abbrev pub BuildRefusesBeforeMemory : {H : Type 0} → Meanings → Builder H → Result BuiltValue ReflectError → Type 0
BuildRefusesBeforeMemory hooks before result =
    IsErr (meaning_of_build hooks before) → PassesValidators (meaning_of_build hooks before)
    → meaning_of_build hooks before ≢ Err (violates Invariant.TypeInvariant) → IsNotOutOfMemory result

-- Tokens

-- how often a token is held after a call: not at all where it was refused
abbrev pub left : {H : Type 0} → Result (Builder H) ReflectError → ℕ → ℕ
left (Ok after) t = holds after t
left (Err error) t = 0

-- how often a refused call drops a token: as often as it removes it; out of memory, as often as the builder held it and
-- the call brought it
abbrev pub dropped_refused : {H : Type 0} → Meanings → Builder H → Call → ReflectErrorKind → ℕ → ℕ
dropped_refused hooks before call ReflectErrorKind.OutOfMemory t = holds before t + brings call t
dropped_refused hooks before call kind t = removed hooks before.shapes before.root before.state call t

-- how often a token is dropped by a call: as often as the call removes it
abbrev pub dropped : {H : Type 0} → Meanings → Builder H → Call → Result (Builder H) ReflectError → ℕ → ℕ
dropped hooks before call (Ok after) t = removed hooks before.shapes before.root before.state call t
dropped hooks before call (Err error) t = dropped_refused hooks before call error.kind t

-- the ledger's count of each token rises by exactly what the call removes of it
abbrev pub RisesByRemoved : {H : Type 0} → Meanings → Builder H → Call → Result (Builder H) ReflectError → (old new : List ℕ) → Type 0
RisesByRemoved hooks before call result old new = RoseBy (dropped hooks before call result) old new

-- how often a refused `build` drops a token: as often as it removes it; out of memory, as often as the builder held it
abbrev pub dropped_unbuilt : {H : Type 0} → Meanings → Builder H → ReflectErrorKind → ℕ → ℕ
dropped_unbuilt hooks before ReflectErrorKind.OutOfMemory t = holds before t
dropped_unbuilt hooks before kind t = removed_at_build hooks before.shapes before.root before.state t

-- how often a token is dropped by `build`: as often as it removes it
abbrev pub dropped_at_build : {H : Type 0} → Meanings → Builder H → Result BuiltValue ReflectError → ℕ → ℕ
dropped_at_build hooks before (Ok built) t = removed_at_build hooks before.shapes before.root before.state t
dropped_at_build hooks before (Err error) t = dropped_unbuilt hooks before error.kind t

-- the ledger's count of each token rises by exactly what `build` removes of it
abbrev pub RisesByRemovedAtBuild : {H : Type 0} → Meanings → Builder H → Result BuiltValue ReflectError → (old new : List ℕ) → Type 0
RisesByRemovedAtBuild hooks before result old new = RoseBy (dropped_at_build hooks before result) old new

-- What one call of a builder owes.
pub record IsCall {H : Type 0} (hooks : Meanings) (before : Builder H) (call : Call) (result : Result (Builder H) ReflectError) (old new : List ℕ) : Type 0 where
  -- It did what it means: the builder stands for the state that is meant, or the error's kind is the refusal that is meant. Or it was out
  -- of memory.
  pub step : IsStep hooks before call result
  -- The error names the place at which the builder worked before the call.
  pub path : TellsPlaceBefore before result
  -- What the builder held and the call brought is held still, or was released: no token is lost or made.
  pub tokens : Conserved (λ t. holds before t + brings call t) old (left result) new
  -- Released was just what the call drops.
  pub removed : RisesByRemoved hooks before call result old new
  -- A call that means a refusal is refused so, and never out of memory, unless it completes what was left beneath a place, or says which
  -- validator a value fails, or asks a hook that parses or one that refuses to convert.
  pub refused :
      completes_late before.state call ≡ false → parses_by_hook before.shapes (here before) call ≡ false
      → RefusesBeforeMemory hooks before call result

-- What `build` owes.
pub record IsBuild {H : Type 0} (hooks : Meanings) (before : Builder H) (result : Result BuiltValue ReflectError) (old new : List ℕ) : Type 0 where
  -- It did what it means: the value is the one that is meant, made by so many calls, or the error's kind is the refusal that is meant. Or it
  -- was out of memory.
  pub built : IsBuilt hooks before result
  -- The error names the place at which the builder worked.
  pub path : TellsPlaceBefore before result
  -- The value fits the root's shape.
  pub fitting : IfOk result (λ built. fits before.shapes before.root built.value ≡ true)
  -- What the builder held stands in the value, or was released.
  pub tokens : Conserved (holds before) old (left_built result) new
  -- Released was just what `build` drops.
  pub removed : RisesByRemovedAtBuild hooks before result old new
  -- One that means a refusal is refused so, and never out of memory, unless it says which validator a value fails, or that the value, once
  -- it is made, breaks an invariant.
  pub refused : BuildRefusesBeforeMemory hooks before result
