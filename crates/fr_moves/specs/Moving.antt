-- What a call comes to, once it is decided: the state then, and when it may come to that.
use Rattle.std.specs.Prelude.{◌≡◌, ◌≢◌, ◌⊎◌, ◌&&◌, not, if◌then◌else◌, ℕ, suc, Bool, true, false, [], length, Option, Some, None, Result, Ok, Err, unwrap_or}
use Rattle.fr_shape.specs.declared.error.ReflectErrorKind.{ReflectErrorKind}
use Rattle.fr_shape.specs.declared.shape.Def.{Def}
use Rattle.fr_shape.specs.Fits.{fits}
use Rattle.fr_shape.specs.Hooks.{Meanings}
use Rattle.fr_shape.specs.Look.{Table, def_of}
use Rattle.fr_shape.specs.Tokens.{occurs, tokens}
use Rattle.fr_shape.specs.Val.{Val}
use Rattle.fr_shape.specs.View.{view}
use Rattle.fr_path.specs.declared.path_steps.PathStep.{PathStep}
use Rattle.fr_model.specs.Collections.{is_map_tracker, key_refusal, set_item_refusal, value_refusal}
use Rattle.fr_model.specs.Commands.{Call}
use Rattle.fr_model.specs.Complete.{complete}
use Rattle.fr_model.specs.Contents.{kept_slice, kept_so, slice_anew, variant_anew}
use Rattle.fr_model.specs.DynamicPlaces.{entry_refusal}
use Rattle.fr_model.specs.Finish.{finished}
use Rattle.fr_model.specs.Items.{closed_slice, is_open_slice, item_refusal}
use Rattle.fr_model.specs.Paths.{path_of, step_as}
use Rattle.fr_model.specs.Places.{is_root, up}
use Rattle.fr_model.specs.Scripts.{brings, IsFitting}
use Rattle.fr_model.specs.Step.{cause_by, ends_source, field_refusal, finishes, is_set_item, is_source_place, leaves, opened, put_child, puts, puts_and_leaves, step, takes_item}
use Rattle.fr_model.specs.Trackers.{as_fields, base_of_tracker}
use Rattle.fr_model.specs.Tree.{Mode, strict, deferred, State, Tree, change_at, cursor_tree, fresh, is_begun_conversion, one_more_call, tree_at, whole, without_source}
use Rattle.fr_model.specs.Well.{IsFullAs}
use Rattle.fr_frame.specs.Bodies.{is_around, TakesItems}
use Rattle.fr_frame.specs.Heap.{as_tracker}
use Rattle.fr_frame.specs.Kids.{MayHave}
use Rattle.fr_plan.specs.TypePlan.{Plan}
use Rattle.fr_frame.specs.declared.admitting.Opening.{Opening}
use Rattle.fr_store.specs.SourceLaws.{IsSourced}
use Rattle.fr_store.specs.StackMoves.{takes_at_end}
use Rattle.fr_moves.specs.declared.moves.Change.{Change}
use Rattle.fr_moves.specs.declared.moves.Move.{Move}
use Rattle.fr_moves.specs.declared.moves.Rules.{Rules}
use Rattle.fr_frame.specs.declared.places.Taker.{Taker}
use Rattle.fr_moves.specs.declared.moves.Way.{Way}
use Rattle.fr_refusals.specs.Beginnings.{kept_by}
use Rattle.fr_moves.specs.MayBeginAs.{MayBeginAround}
use Rattle.fr_refusals.specs.DynamicBeginnings.{anew_as, kept_as}
use Rattle.fr_frame.specs.Admitting.{Describes}
use Rattle.fr_moves.specs.CompletedPlaces.{column_by, completes_late, needs_none_by, RulesServe}
use Rattle.fr_refusals.specs.Modes.{IsBelowStart}
use Rattle.fr_model.specs.Entering.{Way as Onward, enters}
use Rattle.fr_refusals.specs.Openings.{is_begun, HasItems, MayOpenAs}
use Rattle.fr_moves.specs.Sites.{Site, shape_at}

-- Going on

-- the child's number, as the way tells it (0 for an entry, whose number it doesn't tell)
abbrev pub number_told : Way → ℕ
number_told (Way.Child i opening) = i
number_told (Way.Anew i opening) = i
number_told (Way.Item opening) = opening.count
number_told (Way.Key opening) = opening.count
number_told (Way.Value opening) = opening.count
number_told (Way.Entry key) = 0
number_told (Way.Content tracker beginning) = 0

-- the step to it
abbrev pub step_told : Way → PathStep
step_told (Way.Child i opening) = step_as (as_tracker opening.tracker) i
step_told (Way.Anew i opening) = step_as (as_tracker opening.tracker) i
step_told (Way.Item opening) = step_as (as_tracker opening.tracker) opening.count
step_told (Way.Key opening) = step_as (as_tracker opening.tracker) opening.count
step_told (Way.Value opening) = step_as (as_tracker opening.tracker) opening.count
step_told (Way.Entry key) = PathStep.Entry key.now
step_told (Way.Content tracker beginning) = step_as (as_tracker tracker) 0

-- the same way, as the commands tell it, from a place at which this stands
abbrev pub onward : Way → Tree → Onward
onward (Way.Child i opening) tree = Onward.Child i
onward (Way.Anew i opening) tree = Onward.Anew i
onward (Way.Item opening) tree = Onward.Item
onward (Way.Key opening) tree = Onward.Key
onward (Way.Value opening) tree = Onward.Value opening.count
onward (Way.Entry key) tree = Onward.Entry key.now
onward (Way.Content tracker beginning) tree = Onward.Content (as_tracker tracker) (kept_by beginning (as_tracker tracker) tree)

-- the state then
abbrev pub gone : Table → (s : ℕ) → State → Way → State
gone table s state way = enters table s state (onward way (cursor_tree state))

-- the way to a field or an element of a place at which this stands: a conversion starts anew first
abbrev pub child_way : Tree → ℕ → Opening → Way
child_way tree i opening = if is_begun_conversion tree then Way.Anew i opening else Way.Child i opening

-- a way that may be taken from a place of shape s at which this stands
abbrev pub MayGo : Table → (s : ℕ) → Tree → Way → Type 0
MayGo table s tree (Way.Child i opening) =
    Describes table s tree opening × (field_refusal (def_of table s) tree i ≡ None) × (is_begun_conversion tree ≡ false)
MayGo table s tree (Way.Anew i opening) =
    Describes table s (fresh (def_of table s)) opening × (field_refusal (def_of table s) (fresh (def_of table s)) i ≡ None)
MayGo table s tree (Way.Item opening) =
    HasItems (as_tracker opening.tracker) opening.count tree × TakesItems (as_tracker opening.tracker)
    × ((item_refusal (def_of table s) tree ≡ None) ⊎ (set_item_refusal (def_of table s) tree ≡ None))
MayGo table s tree (Way.Key opening) =
    HasItems (as_tracker opening.tracker) opening.count tree × (is_map_tracker (as_tracker opening.tracker) ≡ true) × (key_refusal tree ≡ None)
MayGo table s tree (Way.Value opening) =
    HasItems (as_tracker opening.tracker) (suc opening.count) tree × (is_map_tracker (as_tracker opening.tracker) ≡ true)
    × (value_refusal tree ≡ None)
MayGo table s tree (Way.Entry key) = entry_refusal (def_of table s) tree ≡ None
MayGo table s tree (Way.Content tracker beginning) =
    (is_around (as_tracker tracker) ≡ true) × IsFullAs (def_of table s) (as_tracker tracker) 1
    × MayBeginAround beginning (as_tracker tracker) tree

-- the plan has a node for the source, where the place is begun as a conversion on this way
abbrev pub IsSourcedOn : Plan → Way → Type 0
IsSourcedOn plan (Way.Content tracker beginning) = IsSourced plan (as_tracker tracker)
IsSourcedOn plan (Way.Child i opening) = Unit {0}
IsSourcedOn plan (Way.Anew i opening) = Unit {0}
IsSourcedOn plan (Way.Item opening) = Unit {0}
IsSourcedOn plan (Way.Key opening) = Unit {0}
IsSourcedOn plan (Way.Value opening) = Unit {0}
IsSourcedOn plan (Way.Entry key) = Unit {0}

-- Staying

-- a place of this definition, begun as that tells: a conversion starts anew first
abbrev pub opened_here : Def → Tree → Tree
opened_here def tree = opened def (without_source def tree)

-- what comes of a place of shape s at which this stands
abbrev pub changed : Table → (s : ℕ) → Mode → Tree → Change → Tree → Tree
changed table s mode tree Change.Nothing = λ old. old
changed table s mode tree (Change.Put v) = λ old. whole (view v)
changed table s mode tree (Change.PutChild i opening v) = put_child (def_of table s) i (view v)
changed table s mode tree (Change.Open opening) = opened_here (def_of table s)
changed table s mode tree (Change.Select chosen) =
    λ old. unwrap_or (kept_so (as_fields (Some chosen.variant)) tree) (variant_anew (def_of table s) chosen.variant)
changed table s mode tree (Change.Gather parts) = λ old. unwrap_or (kept_as parts tree) (anew_as parts)
changed table s mode tree Change.OpenSlice = λ old. unwrap_or (kept_slice mode tree) slice_anew
changed table s mode tree Change.CloseSlice = closed_slice

-- the state then
abbrev pub stays : Table → (s : ℕ) → State → Change → State
stays table s state change = record state {
  tree = change_at state.cursor (changed table s state.mode (cursor_tree state) change) state.tree;
  calls = one_more_call state.calls;
}

-- a change that may come of it
abbrev pub MayStay : Table → (s : ℕ) → Tree → Change → Type 0
MayStay table s tree Change.Nothing = Unit {0}
MayStay table s tree (Change.Put v) = fits table s (view v) ≡ true
MayStay table s tree (Change.PutChild i opening v) =
    Describes table s tree opening × (field_refusal (def_of table s) tree i ≡ None) × (tokens (view v) ≡ [])
MayStay table s tree (Change.Open opening) =
    MayOpenAs (def_of table s) (as_tracker opening.tracker) opening.count tree × MayHave (as_tracker opening.tracker) opening.count
    × (base_of_tracker (as_tracker opening.tracker) ≡ 0)
MayStay table s tree (Change.Select chosen) = IsFullAs (def_of table s) (as_fields (Some chosen.variant)) chosen.count
MayStay table s tree (Change.Gather parts) = Unit {0}
MayStay table s tree Change.OpenSlice = Unit {0}
MayStay table s tree Change.CloseSlice = is_open_slice tree ≡ true

-- Completing

-- the state when the value of the place at the cursor was handed over
abbrev pub received : Taker → State → Val → State
received Taker.Above state v = puts_and_leaves state v
received Taker.Set state v = takes_item state v
received Taker.Itself state v = puts state v

abbrev pub received_if : Rules → Taker → Meanings → Table → (s : ℕ) → State → Option Val → Result State ReflectErrorKind
received_if rules taker hooks table s state (Some v) = Ok (received taker state v)
received_if rules taker hooks table s state None =
    Err (cause_by (column_by rules) hooks table s (path_of state) (cursor_tree state))

-- the place at the cursor is completed and its value handed over, or is refused where it makes none
abbrev pub after_completing : Rules → Taker → Meanings → Table → (s : ℕ) → State → Result State ReflectErrorKind
after_completing rules taker hooks table s state =
    received_if rules taker hooks table s state (complete (column_by rules) hooks table s (cursor_tree state))

-- the value may go there: up from any place below the root that is no item of a set and no source of a conversion; to a set from its item
-- alone; it stays in strict mode alone
abbrev pub TakerServes : Taker → State → Type 0
TakerServes Taker.Above state = (is_root state.cursor ≡ false) × (is_set_item state ≡ false) × (is_source_place state ≡ false)
TakerServes Taker.Set state = (is_root state.cursor ≡ false) × (is_set_item state ≡ true)
TakerServes Taker.Itself state = state.mode ≡ strict

-- Moves

-- What a move means: the state after it, or why it is refused.
abbrev pub meant_by : Meanings → Site → Move → Result State ReflectErrorKind
meant_by hooks site (Move.Go way) = Ok (gone site.shapes (shape_at site) site.state way)
meant_by hooks site (Move.Stay change) = Ok (stays site.shapes (shape_at site) site.state change)
meant_by hooks site Move.Leave = Ok (leaves site.state)
meant_by hooks site (Move.Complete rules taker) = after_completing rules taker hooks site.shapes (shape_at site) site.state
meant_by hooks site Move.Convert = ends_source hooks site.shapes site.root site.state
meant_by hooks site Move.Defer =
    Ok (record site.state { mode = deferred (length site.state.cursor); calls = one_more_call site.state.calls })
meant_by hooks site Move.Finish =
    finishes hooks site.shapes site.root site.state (finished hooks site.shapes site.root site.state.cursor site.state.tree)

-- a move that may be made
abbrev pub MayMove : Table → (s : ℕ) → State → Move → Type 0
MayMove table s state (Move.Go way) = MayGo table s (cursor_tree state) way
MayMove table s state (Move.Stay change) = MayStay table s (cursor_tree state) change
MayMove table s state Move.Leave =
    IsBelowStart state.mode state.cursor × (takes_at_end (tree_at (up state.cursor) state.tree) ≡ false)
MayMove table s state (Move.Complete rules taker) = RulesServe rules state.mode state.cursor × TakerServes taker state
MayMove table s state Move.Convert =
    (state.mode ≡ strict) × (is_root state.cursor ≡ false) × (is_source_place state ≡ true)
MayMove table s state Move.Defer = state.mode ≡ strict
MayMove table s state Move.Finish = state.mode ≢ strict

-- how often it carries a token: a value that is to be put (one that is put at a child has none)
abbrev pub carried_by : Change → ℕ → ℕ
carried_by Change.Nothing t = 0
carried_by (Change.Put v) t = occurs (view v) t
carried_by (Change.PutChild i opening v) t = 0
carried_by (Change.Open opening) t = 0
carried_by (Change.Select chosen) t = 0
carried_by (Change.Gather parts) t = 0
carried_by Change.OpenSlice t = 0
carried_by Change.CloseSlice t = 0

abbrev pub carried : Move → ℕ → ℕ
carried (Move.Go way) t = 0
carried (Move.Stay change) t = carried_by change t
carried Move.Leave t = 0
carried (Move.Complete rules taker) t = 0
carried Move.Convert t = 0
carried Move.Defer t = 0
carried Move.Finish t = 0

-- where what was left beneath a place is completed, memory may be wanting before the first place that fails is met
abbrev pub is_late_by : Rules → Bool
is_late_by Rules.Strict = false
is_late_by Rules.Deferred = true

abbrev pub is_late : Move → Bool
is_late (Move.Go way) = false
is_late (Move.Stay change) = false
is_late Move.Leave = false
is_late (Move.Complete rules taker) = is_late_by rules
is_late Move.Convert = false
is_late Move.Defer = false
is_late Move.Finish = true

-- it takes no memory at a place at which this stands
abbrev pub needs_none_for : Change → Tree → Bool
needs_none_for Change.Nothing tree = true
needs_none_for (Change.Put v) tree = true
needs_none_for (Change.PutChild i opening v) tree = false
needs_none_for (Change.Open opening) tree = is_begun tree && not (is_begun_conversion tree)
needs_none_for (Change.Select chosen) tree = false
needs_none_for (Change.Gather parts) tree = is_begun tree
needs_none_for Change.OpenSlice tree = false
needs_none_for Change.CloseSlice tree = true

abbrev pub needs_none : Move → Tree → Bool
needs_none (Move.Go way) tree = false
needs_none (Move.Stay change) tree = needs_none_for change tree
needs_none Move.Leave tree = false
needs_none (Move.Complete rules taker) tree = false
needs_none Move.Convert tree = false
needs_none Move.Defer tree = true
needs_none Move.Finish tree = false

-- it takes none but to say which validator a value fails, as a place is completed
abbrev pub needs_message_alone : Move → Tree → Bool
needs_message_alone (Move.Complete rules taker) tree = needs_none_by rules tree
needs_message_alone move tree = needs_none move tree

-- Deciding

-- A call comes to a move, whatever the hooks mean.
pub record ComesTo (site : Site) (call : Call) (move : Move) : Type 0 where
  -- the value that it brings fits the shape that it names
  pub fitting : IsFitting site.shapes call
  -- the move may be made here
  pub may : MayMove site.shapes (shape_at site) site.state move
  -- and each of these is so, whatever hooks mean
  pub same_tokens : (t : ℕ) → brings call t ≡ carried move t
  pub late : is_late move ≡ true → completes_late site.state call ≡ true
  pub means : (hooks : Meanings) → step hooks site.shapes site.root site.state call ≡ meant_by hooks site move

-- some call comes to it
abbrev pub IsMeant : Site → Move → Type 0
IsMeant site move = (call : Call) × ComesTo site call move
