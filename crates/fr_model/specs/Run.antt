-- The run of a whole script: the plan of its root, its steps in order, and then `build`.
use Rattle.std.specs.Prelude.{◌+◌, ◌∷◌, if◌then◌else◌}
use Rattle.fr_model.specs.Common.{ℕ, List, [], Option, Some, None, Result, Ok, Err, option_or, ReflectErrorKind, is_sized, Meanings, Table, def_of, first_refusal, Val, PathStep}
use Rattle.fr_shape.specs.declared.error.AllocError.{AllocError}
use Rattle.fr_shape.specs.declared.error.PlanFault.{PlanFault}
use Rattle.fr_model.specs.Basis.{Call, path_of, State, initial}
use Rattle.fr_model.specs.Step.{step, build}

-- the number of the refused command, counted from 0, or the script's length where `build` is refused; why; and the
-- path of the place at which the builder worked before
pub record Refusal : Type 0 where
  pub number : ℕ
  pub kind : ReflectErrorKind
  pub path : List PathStep

abbrev pub refused_at : ℕ → State → ReflectErrorKind → Refusal
refused_at n state kind = record { number = n; kind = kind; path = path_of state }

abbrev pub numbered : ℕ → State → Result Val ReflectErrorKind → Result Val Refusal
numbered n state (Ok v) = Ok v
numbered n state (Err kind) = Err (refused_at n state kind)

abbrev pub and_then : ℕ → State → Result State ReflectErrorKind → (State → Result Val Refusal) → Result Val Refusal
and_then n state (Ok next) rest = rest next
and_then n state (Err kind) rest = Err (refused_at n state kind)

-- the commands from number n on, from a state
abbrev pub run_from : Meanings → Table → ℕ → ℕ → State → List Call → Result Val Refusal
run_from hooks table root n state [] = numbered n state (build hooks table root state)
run_from hooks table root n state (command ∷ commands) =
    and_then n state (step hooks table root state command) (λ next. run_from hooks table root (n + 1) next commands)

-- a shape whose size isn't known is no root
abbrev pub unsized_refusal : Table → ℕ → Option AllocError
unsized_refusal table root =
    if is_sized (def_of table root) then None
    else Some (record { shape = record { 0 = root }; operation = PlanFault.NotSized })

-- why there is no builder for a root, if so: the first shape in build order that can't be planned, and then that the
-- root is unsized
abbrev pub alloc_refusal : Table → (root : ℕ) → Option AllocError
alloc_refusal table root = option_or (first_refusal table root) (unsized_refusal table root)

-- at the root, before the first command
abbrev pub refused_alloc : AllocError → Refusal
refused_alloc error = record { number = 0; kind = ReflectErrorKind.Alloc error; path = [] }

abbrev pub unless_alloc : Option AllocError → Result Val Refusal → Result Val Refusal
unless_alloc (Some error) run = Err (refused_alloc error)
unless_alloc None run = run

-- the whole script
abbrev pub full_run : Meanings → Table → ℕ → List Call → Result Val Refusal
full_run hooks table root script = unless_alloc (alloc_refusal table root) (run_from hooks table root 0 (initial table root) script)
