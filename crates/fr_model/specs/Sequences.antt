-- Commands one after another: where they lead, and what they drop all together.
use Rattle.std.specs.Prelude.{◌≡◌, ◌+◌, ◌∷◌}
use Rattle.fr_model.specs.Common.{ℕ, List, [], Result, Ok, Err, ReflectErrorKind, Meanings, Table}
use Rattle.fr_model.specs.Basis.{Call, State}
use Rattle.fr_model.specs.Removed.{removed}
use Rattle.fr_model.specs.Step.{step}

-- a command that comes out so is admitted, and this holds of the state after it
abbrev pub IsAdmittedThen : (outcome : Result State ReflectErrorKind) → (Then : State → Type 0) → Type 0
IsAdmittedThen (Ok next) Then = Then next
IsAdmittedThen (Err kind) Then = ⊥

-- the commands are all admitted, and lead to the last state
abbrev pub AllLeadTo : Meanings → Table → (root : ℕ) → State → List Call → (last : State) → Type 0
AllLeadTo hooks table root state [] last = state ≡ last
AllLeadTo hooks table root state (command ∷ commands) last =
    IsAdmittedThen (step hooks table root state command) (λ next. AllLeadTo hooks table root next commands last)

-- how often commands drop a token, all together: after a refusal nothing is left to be dropped
abbrev pub dropped_then : (outcome : Result State ReflectErrorKind) → (later : State → ℕ) → ℕ
dropped_then (Ok next) later = later next
dropped_then (Err kind) later = 0

abbrev pub removed_by_all : Meanings → Table → (root : ℕ) → State → List Call → ℕ → ℕ
removed_by_all hooks table root state [] t = 0
removed_by_all hooks table root state (command ∷ commands) t =
    removed hooks table root state command t
    + dropped_then (step hooks table root state command) (λ next. removed_by_all hooks table root next commands t)
