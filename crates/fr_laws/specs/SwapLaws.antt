-- Excursions into different children of a place may be swapped; and a child that is left may be entered again.
use Rattle.std.specs.Prelude.{◌≡◌, ◌≢◌, ◌∷◌, ◌++◌}
use Rattle.fr_model.specs.Common.{ℕ, List, [], Some, Result, Ok, Err, Def, ReflectErrorKind, Meanings, Table, def_of, Val}
use Rattle.fr_model.specs.Basis.{Call, field_found, Place, Tracker, as_fields, as_elements, as_content, as_items, as_entries, Tree, hole, entered, whole, begun, selected, deferred, State, initial, cursor_shape, cursor_tree, one_more_call, without_source, IsInOrder}
use Rattle.fr_model.specs.Removed.{removed}
use Rattle.fr_model.specs.Run.{full_run, Refusal}
use Rattle.fr_model.specs.Sequences.{AllLeadTo, IsAdmittedThen, removed_by_all}
use Rattle.fr_model.specs.Step.{step}

-- The place

abbrev pub IsStructOrArray : Def → Type 0
IsStructOrArray (Def.Struct struct) = Unit {0}
IsStructOrArray (Def.Array item n) = Unit {0}
IsStructOrArray _ = ⊥

-- what is begun so is a struct or a variant that is selected, or an array
abbrev pub IsBegunInParts : Tracker → Type 0
IsBegunInParts (as_fields selected) = Unit {0}
IsBegunInParts as_elements = Unit {0}
IsBegunInParts (as_content kind) = ⊥
IsBegunInParts (as_items kind) = ⊥
IsBegunInParts (as_entries kind) = ⊥

-- At a place of this definition stands a struct, an array or a selected variant: one that is begun, or a struct or an array that is entered
-- or whole. An enum that isn't begun has no variant selected. What is begun as a conversion is none of these.
abbrev pub IsInParts : Def → Tree → Type 0
IsInParts def hole = ⊥
IsInParts def entered = IsStructOrArray def
IsInParts def (whole v) = IsStructOrArray def
IsInParts def (begun tracker children) = IsBegunInParts tracker

-- At the cursor's place stands a struct, an array or a selected variant.
abbrev pub StandsInParts : Table → (root : ℕ) → State → Type 0
StandsInParts table root state = IsInParts (def_of table (cursor_shape table root state)) (cursor_tree state)

-- The cursor is at a struct, an array or a selected variant: where one stands, or where one will, for a struct or an array that is begun as
-- a conversion starts anew as a field or an element of it is entered.
abbrev pub IsAtParts : Table → (root : ℕ) → State → Type 0
IsAtParts table root state =
    IsInParts (def_of table (cursor_shape table root state)) (without_source (def_of table (cursor_shape table root state)) (cursor_tree state))

-- Excursions

-- the command is a begin_field or a begin_nth_field, and enters child i of what stands at a place of shape s
abbrev pub EntersChild : Table → (s i : ℕ) → Tree → Call → Type 0
EntersChild table s i tree (Call.BeginField name) = field_found name (def_of table s) (selected tree) ≡ Some i
EntersChild table s i tree (Call.BeginNthField number) = number ≡ i
EntersChild table s i tree _ = ⊥

-- the command neither begins nor ends deferred mode
abbrev pub IsNoModeCall : Call → Type 0
IsNoModeCall Call.BeginDeferred = ⊥
IsNoModeCall Call.FinishDeferred = ⊥
IsNoModeCall _ = Unit {0}

-- the commands are no mode calls, are all admitted, and lead to the last state, in which the cursor is at the place for the first time
abbrev pub ComesBackTo : Place → Meanings → Table → (root : ℕ) → State → List Call → (last : State) → Type 0
ComesBackTo place hooks table root state [] last = (state.cursor ≡ place) × (state ≡ last)
ComesBackTo place hooks table root state (command ∷ commands) last =
    (state.cursor ≢ place) × IsNoModeCall command × IsAdmittedThen (step hooks table root state command)
    (λ next. ComesBackTo place hooks table root next commands last)

-- The commands are an excursion into child i from a state, and lead to the last one: they are no mode calls and all admitted, the first
-- enters child i of the cursor's place, and after the last the cursor is at that place again for the first time.
abbrev pub IsExcursion : Meanings → Table → (root i : ℕ) → State → List Call → (last : State) → Type 0
IsExcursion hooks table root i state [] last = ⊥
IsExcursion hooks table root i state (command ∷ commands) last =
    EntersChild table (cursor_shape table root state) i (cursor_tree state) command
    × IsAdmittedThen (step hooks table root state command)
    (λ next. ComesBackTo state.cursor hooks table root next commands last)

-- The first part

-- child j is another one than child i
abbrev pub IsAnother : (i j : ℕ) → Type 0
IsAnother i j = i ≢ j

-- The other excursion may come first, and the one then; both orders end in the same state, and drop each token as often.
pub record Swaps (hooks : Meanings) (table : Table) (root i j : ℕ) (state : State) (one other : List Call) (last : State) : Type 0 where
  pub after_other : State
  pub other_first : IsExcursion hooks table root j state other after_other
  pub one_then : IsExcursion hooks table root i after_other one last
  pub same_removed : (t : ℕ) → removed_by_all hooks table root state (one ++ other) t
      ≡ removed_by_all hooks table root state (other ++ one) t

-- In a deferred state whose cursor is at a struct, an array or a selected variant: an excursion into child i, and then one into child
-- j, another, may be swapped. This is so over every table and whatever the hooks mean.
abbrev pub ExcursionsSwap : Type 0
ExcursionsSwap =
    (hooks : Meanings) (table : Table) (root start i j : ℕ) (state after_one last : State) (one other : List Call)
    → state.mode ≡ deferred start → IsAtParts table root state → IsAnother i j
    → IsExcursion hooks table root i state one after_one → IsExcursion hooks table root j after_one other last
    → Swaps hooks table root i j state one other last

-- Scripts

-- so scripts in which two such excursions are swapped give the same value, or the same refusal
abbrev pub SwappedScriptsAgree : Type 0
SwappedScriptsAgree =
    (hooks : Meanings) (table : Table) (root start i j : ℕ) (state after_one last : State) (before one other after : List Call)
    → AllLeadTo hooks table root (initial table root) before state → state.mode ≡ deferred start → IsAtParts table root state → IsAnother i j
    → IsExcursion hooks table root i state one after_one → IsExcursion hooks table root j after_one other last
    → full_run hooks table root (before ++ one ++ other ++ after) ≡ full_run hooks table root (before ++ other ++ one ++ after)

-- two outcomes are the same value, or both are refusals
abbrev pub AreSameOrRefused : Result Val Refusal → Result Val Refusal → Type 0
AreSameOrRefused (Ok v) (Ok w) = v ≡ w
AreSameOrRefused (Ok v) (Err refusal) = ⊥
AreSameOrRefused (Err refusal) (Ok w) = ⊥
AreSameOrRefused (Err one) (Err other) = Unit {0}

-- where a command that comes out so is admitted, this holds of the state after it
abbrev pub IfAdmittedThen : (outcome : Result State ReflectErrorKind) → (Then : State → Type 0) → Type 0
IfAdmittedThen (Ok next) Then = Then next
IfAdmittedThen (Err kind) Then = Unit {0}

-- the commands are no mode calls, and lead back to the place for the first time, unless one of them is refused
abbrev pub MayComeBackTo : Place → Meanings → Table → (root : ℕ) → State → List Call → Type 0
MayComeBackTo place hooks table root state [] = state.cursor ≡ place
MayComeBackTo place hooks table root state (command ∷ commands) =
    (state.cursor ≢ place) × IsNoModeCall command × IfAdmittedThen (step hooks table root state command)
    (λ next. MayComeBackTo place hooks table root next commands)

-- the commands are an excursion into child i from a state, unless one of them is refused
abbrev pub MayBeExcursion : Meanings → Table → (root i : ℕ) → State → List Call → Type 0
MayBeExcursion hooks table root i state [] = ⊥
MayBeExcursion hooks table root i state (command ∷ commands) =
    EntersChild table (cursor_shape table root state) i (cursor_tree state) command
    × IfAdmittedThen (step hooks table root state command) (λ next. MayComeBackTo state.cursor hooks table root next commands)

-- and scripts in which two are swapped that are such excursions from the place, unless one of their commands is refused, give the same
-- value, or both are refused
abbrev pub TriedScriptsAgree : Type 0
TriedScriptsAgree =
    (hooks : Meanings) (table : Table) (root start i j : ℕ) (state : State) (before one other after : List Call)
    → AllLeadTo hooks table root (initial table root) before state → state.mode ≡ deferred start → IsAtParts table root state → IsAnother i j
    → MayBeExcursion hooks table root i state one → MayBeExcursion hooks table root j state other
    → AreSameOrRefused (full_run hooks table root (before ++ one ++ other ++ after))
    (full_run hooks table root (before ++ other ++ one ++ after))

-- The second part

-- the command is admitted, and leads back to the state before, in which only more calls are counted; neither it nor the `end` before it
-- drops anything
pub record ComesToTheSame (hooks : Meanings) (table : Table) (root : ℕ) (state above : State) (command : Call) : Type 0 where
  pub same : step hooks table root above command ≡ Ok (record state { calls = one_more_call (one_more_call state.calls) })
  pub end_removes : (t : ℕ) → removed hooks table root state Call.End t ≡ 0
  pub begin_removes : (t : ℕ) → removed hooks table root above command t ≡ 0

-- In deferred mode, in a state that is in order: an admitted `end` that goes up from child i to a struct, an array or a selected variant,
-- and then the command that enters child i again, come to the same. (An `end` that goes up from a source comes to a conversion, which would
-- start anew.)
abbrev pub EnteringAgainKeeps : Type 0
EnteringAgainKeeps =
    (hooks : Meanings) (table : Table) (root start i : ℕ) (state above : State) (command : Call) → IsInOrder table root state
    → state.mode ≡ deferred start → step hooks table root state Call.End ≡ Ok above → state.cursor ≡ above.cursor ++ i ∷ []
    → StandsInParts table root above → EntersChild table (cursor_shape table root above) i (cursor_tree above) command
    → ComesToTheSame hooks table root state above command
