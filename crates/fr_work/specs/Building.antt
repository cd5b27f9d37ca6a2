-- The end of a builder: when there is something to be built, and what comes of it.
use Rattle.std.specs.Prelude.{◌≡◌, ◌⊎◌, ℕ, Bool, true, false, Option, Some, None, Result, Ok, Err, if◌then◌else◌}
use Rattle.fr_shape.specs.declared.error.Invariant.{Invariant}
use Rattle.fr_shape.specs.declared.error.ReflectErrorKind.{ReflectErrorKind}
use Rattle.fr_shape.specs.Hooks.{Meanings}
use Rattle.fr_shape.specs.Tokens.{occurs}
use Rattle.fr_shape.specs.Val.{Val}
use Rattle.fr_shape.specs.View.{view}
use Rattle.fr_shape.specs.declared.value.Value.{Value}
use Rattle.fr_model.specs.Places.{is_root}
use Rattle.fr_model.specs.Step.{build, violates}
use Rattle.fr_model.specs.Tree.{Mode, strict, deferred, State}
use Rattle.fr_work.specs.declared.reflect_error.ReflectError.{ReflectError}
use Rattle.fr_work.specs.BuiltValue.{BuiltValue}
use Rattle.fr_moves.specs.Sites.{Site}

abbrev pub build_refusal_in : Mode → (at_root : Option Invariant) → Option Invariant
build_refusal_in (deferred start) at_root = Some Invariant.BuildDeferred
build_refusal_in strict at_root = at_root

-- why there is nothing to be built yet, if so: deferred mode isn't over, or the builder isn't at the root
abbrev pub build_refusal : State → Option Invariant
build_refusal state = build_refusal_in state.mode (if is_root state.cursor then None else Some Invariant.BuildOpenFrames)

-- what `build` means there
abbrev pub meant_by_build : Meanings → Site → Result Val ReflectErrorKind
meant_by_build hooks site = build hooks site.shapes site.root site.state

-- the value is there still if it keeps its invariants, and else it is refused for that
abbrev pub IsKeptIf : (keeps : Bool) → Val → Result Value ReflectErrorKind → Type 0
IsKeptIf true v (Ok kept) = view kept ≡ v
IsKeptIf false v (Err kind) = kind ≡ violates Invariant.TypeInvariant
IsKeptIf _ v result = ⊥

-- what is meant was built, by as many calls as there were, or it was refused so; or memory ran out
abbrev pub IsBuiltSo : Meanings → Site → Result BuiltValue ReflectError → Type 0
IsBuiltSo hooks before (Ok built) =
    (meant_by_build hooks before ≡ Ok built.value) × (built.calls ≡ before.state.calls)
IsBuiltSo hooks before (Err error) = (error.kind ≡ ReflectErrorKind.OutOfMemory) ⊎ (meant_by_build hooks before ≡ Err error.kind)

-- how often a token stands in what `build` returns
abbrev pub left_built : Result BuiltValue ReflectError → ℕ → ℕ
left_built (Ok built) t = occurs built.value t
left_built (Err error) t = 0
