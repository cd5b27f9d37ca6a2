-- What becomes of a place that is completed.
use Rattle.std.specs.Prelude.{◌≡◌, ◌⊎◌, ◌&&◌, ◌||◌, not, ℕ, Bool, true, false, List, [], ◌∷◌, ◌++◌, Some, None, IsSome, Result, IfErr}
use Rattle.fr_shape.specs.declared.error.ReflectErrorKind.{ReflectErrorKind}
use Rattle.fr_shape.specs.Hooks.{Meanings}
use Rattle.fr_shape.specs.Look.{Table}
use Rattle.fr_shape.specs.Val.{Val}
use Rattle.fr_path.specs.declared.path_steps.PathStep.{PathStep}
use Rattle.fr_model.specs.Commands.{Call}
use Rattle.fr_model.specs.Complete.{complete}
use Rattle.fr_model.specs.Contents.{is_deferred}
use Rattle.fr_model.specs.Items.{is_open_slice}
use Rattle.fr_model.specs.Places.{Column, strict_column, deferred_column, Place}
use Rattle.fr_model.specs.Step.{cause, cause_by, is_dynamic_part, is_set_item}
use Rattle.fr_model.specs.Tree.{Tree, Mode, strict, State, cursor_tree}
use Rattle.fr_plan.specs.TypePlan.{Plan}
use Rattle.fr_frame.specs.Bodies.{takes_memory, value_of}
use Rattle.fr_frame.specs.Completing.{IsOfValidator}
use Rattle.fr_moves.specs.declared.moves.Rules.{Rules}
use Rattle.fr_frame.specs.declared.places.Taker.{Taker}
use Rattle.fr_moves.specs.declared.parts.Frames.{Frames}
use Rattle.fr_moves.specs.WithoutMemory.{takes_no_memory}
use Rattle.fr_refusals.specs.Modes.{is_below_start, IsBelowStart}
use Rattle.fr_moves.specs.Underway.{top_place, top_shape, top_tree, whole_tree, Became, Changed}
use Rattle.fr_store.specs.StackMoves.{AtTop, place_then, tree_then, MayHandOver}

abbrev pub column_by : Rules → Column
column_by Rules.Strict = strict_column
column_by Rules.Deferred = deferred_column

-- the rules of strict mode serve in that mode, and those of the end of deferred mode in that mode, below the place at which it began
abbrev pub RulesServe : Rules → Mode → (cursor : Place) → Type 0
RulesServe Rules.Strict mode cursor = mode ≡ strict
RulesServe Rules.Deferred mode cursor = IsBelowStart mode cursor

-- the value of the place on top may go there
abbrev pub MayReceive : Taker → Frames → Type 0
MayReceive taker frames = MayHandOver taker frames.slots frames.stack

-- where its fields pass their validators, to complete a place at which this stands, and to hand its value over, takes no memory
abbrev pub needs_none_by : Rules → Tree → Bool
needs_none_by Rules.Strict tree = takes_no_memory tree
needs_none_by Rules.Deferred tree = false

-- What stood on top makes a value by these rules, and what stands there then holds it, with nothing beneath it in a slot. No other place
-- changed, and where none was needed to complete it, to hand the value over takes no memory.
pub record HoldsItsValue (rules : Rules) (means : Meanings) (plan : Plan) (before after : Frames) : Type 0 where
  pub value : Val
  pub meant : complete (column_by rules) means before.table.now (top_shape before) (top_tree before) ≡ Some value
  pub now : Tree
  pub changed : Changed plan (λ old. now) before after
  pub held : AtTop after.slots after.stack (λ at. value_of at.body ≡ Some value)
  pub unboxed : needs_none_by rules (top_tree before) ≡ true → AtTop after.slots after.stack (λ at. takes_memory at.body ≡ false)

-- a value was handed over: the builder works there then, with this tree
abbrev pub Handed : Taker → Plan → Val → (before after : Frames) → Type 0
Handed taker plan v before after =
    Became plan (place_then taker (top_place before)) (tree_then taker (top_place before) v (whole_tree before)) before after

-- the value of the place on top was, where it holds one
abbrev pub IsHandedOver : Taker → Plan → (before after : Frames) → Type 0
IsHandedOver taker plan before after =
    AtTop before.slots before.stack (λ at. (v : Val) → value_of at.body ≡ Some v → Handed taker plan v before after)

-- the path of the place at which the builder works then
abbrev pub IsPathThen : Taker → (old new : List PathStep) → Type 0
IsPathThen Taker.Above old new = (before : List PathStep) (last : PathStep) → old ≡ before ++ last ∷ [] → new ≡ before
IsPathThen Taker.Set old new = (before : List PathStep) (last : PathStep) → old ≡ before ++ last ∷ [] → new ≡ before
IsPathThen Taker.Itself old new = new ≡ old

-- what stood on top makes a value by these rules, which was handed over
pub record IsCompleted (rules : Rules) (taker : Taker) (means : Meanings) (plan : Plan) (before after : Frames) : Type 0 where
  pub value : Val
  pub meant : complete (column_by rules) means before.table.now (top_shape before) (top_tree before) ≡ Some value
  pub handed : Handed taker plan value before after

-- what stands at a place of shape s makes no value in deferred mode, and this is the cause: the first place that fails
pub record IsHeldUpAt (means : Meanings) (table : Table) (s : ℕ) (t : Tree) (kind : ReflectErrorKind) : Type 0 where
  pub incomplete : complete deferred_column means table s t ≡ None
  pub cause_is : (path : List PathStep) → kind ≡ cause_by deferred_column means table s path t

-- As the place at the cursor is left, all that was left beneath it is completed: in deferred mode, below the place at which that began,
-- it is an item of a set, or a part of a dynamic value, and no pointer to a slice that is open.
abbrev pub completes_beneath : State → Bool
completes_beneath state =
    is_below_start state.mode state.cursor && (is_set_item state || is_dynamic_part state)
    && not (is_open_slice (cursor_tree state))

-- As the call is made, what was left beneath a place is completed: `end` does so at such a place, and `finish_deferred` in deferred mode.
abbrev pub completes_late : State → Call → Bool
completes_late state Call.End = completes_beneath state
completes_late state Call.FinishDeferred = is_deferred state.mode
completes_late state _ = false

-- the refusal is that a source isn't converted
abbrev pub IsOfConversion : ReflectErrorKind → Type 0
IsOfConversion (ReflectErrorKind.CustomDeserializationError message source target) = Unit {0}
IsOfConversion (ReflectErrorKind.TryFromError source target fault) = Unit {0}
IsOfConversion _ = ⊥

-- the refusal is that a value isn't taken: it fails a validator, or is a source's and isn't converted
abbrev pub IsOfUntaken : ReflectErrorKind → Type 0
IsOfUntaken kind = IsOfValidator kind ⊎ IsOfConversion kind

-- what is meant isn't that a value fails a validator, which takes memory to say, nor that a source isn't converted, which may take some to
-- find out
abbrev pub PassesValidators : {A : Type 0} → (meant : Result A ReflectErrorKind) → Type 0
PassesValidators meant = IfErr meant (λ kind. IsOfUntaken kind → ⊥)

-- what stands at a place of shape s makes no value, and this is the cause
pub record IsLacking (means : Meanings) (table : Table) (s : ℕ) (t : Tree) (kind : ReflectErrorKind) : Type 0 where
  pub incomplete : complete strict_column means table s t ≡ None
  pub lacks : kind ≡ cause means table s t

-- there was no memory: for a template that it takes or the pointer to its content, or to say why a value fails
pub record NeedsMemory (means : Meanings) (table : Table) (s : ℕ) (t : Tree) (kind : ReflectErrorKind) : Type 0 where
  pub memory : kind ≡ ReflectErrorKind.OutOfMemory
  pub needed :
      (IsSome (complete strict_column means table s t) × (takes_no_memory t ≡ false))
      ⊎ ((complete strict_column means table s t ≡ None) × IsOfValidator (cause means table s t))

abbrev pub WhyNot : Meanings → Table → ℕ → Tree → ReflectErrorKind → Type 0
WhyNot means table s t kind = IsLacking means table s t kind ⊎ NeedsMemory means table s t kind

-- it makes none by these rules, and this is the cause; or there was no memory, which in deferred mode may be wanting before the first place
-- that fails is met
abbrev pub IsUncompleted : Rules → Meanings → Table → ℕ → Tree → ReflectErrorKind → Type 0
IsUncompleted Rules.Strict means table s t kind = WhyNot means table s t kind
IsUncompleted Rules.Deferred means table s t kind = (kind ≡ ReflectErrorKind.OutOfMemory) ⊎ IsHeldUpAt means table s t kind
