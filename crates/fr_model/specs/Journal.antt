-- The journal: what a run wrote and where, newest note first, and what the last writes make of each place. It knows
-- no tree, no stack and no bits; it is what a reader checks the builder against, over plain tables.
use Rattle.std.specs.Prelude.{◌==◌, ◌&&◌, ◌∷◌, ◌++◌, if◌then◌else◌}
use Rattle.fr_model.specs.Common.{ℕ, zero, suc, max, Bool, true, false, not, List, [], length, nat_lt, nat_le, Option, Some, None, Def, preset_of, Table, def_of, Val, product, no_vals, field_named}
use Rattle.fr_model.specs.Commands.{Call}
use Rattle.fr_model.specs.Places.{Place, is_root, up, array_limit, Column, strict_column, deferred_column, child_count, child_shape, shape_at, part_at, product_of, each_child, fill_at}
use Rattle.fr_model.specs.Tree.{Mode, strict, deferred}

-- a place was entered, or a value was written to it
pub data Note : Type 0 where
  entered_at : Place → Note
  wrote_at : Place → Val → Note

abbrev pub Journal : Type 0
Journal = List Note

-- how a noted place lies to another: at it or above it (with the way from it down to the other), strictly beneath
-- it, or beside it
pub data Standing : Type 0 where
  covers : Place → Standing
  beneath : Standing
  beside : Standing

abbrev pub standing : (noted here : Place) → Standing
standing [] here = covers here
standing (i ∷ noted) [] = beneath
standing (i ∷ noted) (j ∷ here) = if i == j then standing noted here else beside

-- what a journal holds of a place: parts, a whole value, that it was entered, or nothing
pub data Held : Type 0 where
  in_parts : Held
  written : Val → Held
  just_entered : Held
  untouched : Held

-- a value written to a place gives each place beneath its part, and leaves the places above it with parts
abbrev pub after_write : Val → Standing → Held → Held
after_write v (covers way) before = written (part_at v way)
after_write v beneath before = in_parts
after_write v beside before = before

abbrev pub at_least_entered : Held → Held
at_least_entered untouched = just_entered
at_least_entered just_entered = just_entered
at_least_entered (written v) = written v
at_least_entered in_parts = in_parts

-- a place that was entered holds at least that; the places above it have parts
abbrev pub after_entry : Standing → Held → Held
after_entry (covers []) before = at_least_entered before
after_entry (covers (i ∷ way)) before = before
after_entry beneath before = in_parts
after_entry beside before = before

-- what the notes, of which the newest comes first, hold of a place
abbrev pub held : Journal → Place → Held
held [] here = untouched
held (entered_at noted ∷ notes) here = after_entry (standing noted here) (held notes here)
held (wrote_at noted v ∷ notes) here = after_write v (standing noted here) (held notes here)

abbrev pub place_of : Note → Place
place_of (entered_at here) = here
place_of (wrote_at here v) = here

-- the length of the longest place in a journal
abbrev pub longest : Journal → ℕ
longest [] = 0
longest (note ∷ notes) = max (length (place_of note)) (longest notes)

-- The value of a struct of which no field was entered: that of a struct without fields is the empty product; any other
-- has its preset; where it has none, the product of its fields' fills.
abbrev pub entered_struct : (count : ℕ) → (preset of_fills : Option Val) → Option Val
entered_struct zero preset of_fills = Some (product no_vals)
entered_struct (suc count) (Some v) of_fills = Some v
entered_struct (suc count) None of_fills = of_fills

abbrev pub by_entered : Def → (preset of_fills : Option Val) → Option Val
by_entered (Def.Struct struct) preset of_fills = entered_struct (length struct.fields) preset of_fills
by_entered (Def.Option t) preset of_fills = preset
by_entered (Def.Scalar kind) preset of_fills = None
by_entered Def.Str preset of_fills = None
by_entered Def.Opaque preset of_fills = None
by_entered (Def.Enum enumeration) preset of_fills = None
by_entered (Def.Result t e) preset of_fills = None
by_entered (Def.List t) preset of_fills = None
by_entered (Def.Map key item) preset of_fills = None
by_entered (Def.Set t) preset of_fills = None
by_entered (Def.Array t n) preset of_fills = None
by_entered (Def.Pointer pointer) preset of_fills = None
by_entered (Def.Slice t) preset of_fills = None
by_entered Def.Dynamic preset of_fills = None
by_entered Def.Undefined preset of_fills = None
by_entered Def.Other preset of_fills = None

-- The value that a place of shape s makes where it was entered and nothing was put there: a struct's as above; an
-- option's is its preset, if it has one; any other place makes none.
abbrev pub entered_value : Column → Table → ℕ → Option Val
entered_value column table s =
    by_entered (def_of table s) (preset_of table s) (product_of (each_child (fill_at column table s) (child_count table s) 0))

-- what a place of this definition makes of its parts: only a struct or an array has any
abbrev pub by_parts : Def → (of_parts : Option Val) → Option Val
by_parts (Def.Struct struct) of_parts = of_parts
by_parts (Def.Array t n) of_parts = of_parts
by_parts (Def.Scalar kind) of_parts = None
by_parts Def.Str of_parts = None
by_parts Def.Opaque of_parts = None
by_parts (Def.Enum enumeration) of_parts = None
by_parts (Def.Option t) of_parts = None
by_parts (Def.Result t e) of_parts = None
by_parts (Def.List t) of_parts = None
by_parts (Def.Map key item) of_parts = None
by_parts (Def.Set t) of_parts = None
by_parts (Def.Pointer pointer) of_parts = None
by_parts (Def.Slice t) of_parts = None
by_parts Def.Dynamic of_parts = None
by_parts Def.Undefined of_parts = None
by_parts Def.Other of_parts = None

abbrev pub by_held : Held → (of_parts of_entered : Option Val) → Option Val
by_held in_parts of_parts of_entered = of_parts
by_held (written v) of_parts of_entered = Some v
by_held just_entered of_parts of_entered = of_entered
by_held untouched of_parts of_entered = None

-- an untouched child takes its fill, every other makes its own value
abbrev pub child_makes : Held → (fill own : Option Val) → Option Val
child_makes untouched fill own = fill
child_makes _ fill own = own

-- The value that a place of shape s makes, or none. A place with a whole value makes it. A place with parts, which only
-- a struct or an array has, makes the product of its children's values, of which an untouched one takes its fill, and none
-- where one of them makes none. It goes down only at parts, so one step more than the longest place has is enough.
abbrev pub completes_within : Column → Table → ℕ → Journal → ℕ → Place → Option Val
completes_within column table zero notes s here = None
completes_within column table (suc steps) notes s here =
    by_held (held notes here)
    (by_parts (def_of table s) (product_of (each_child (λ i. child_makes (held notes (here ++ i ∷ [])) (fill_at column table s i)
    (completes_within column table steps notes (child_shape table s i) (here ++ i ∷ []))) (child_count table s) 0)))
    (entered_value column table s)

abbrev pub completes : Column → Table → Journal → ℕ → Place → Option Val
completes column table notes s here = completes_within column table (suc (longest notes)) notes s here

-- a run so far: its notes, the place at which it works, and its mode
pub record Progress : Type 0 where
  pub notes : Journal
  pub cursor : Place
  pub mode : Mode

abbrev pub initial_progress : Progress
initial_progress = record { notes = entered_at [] ∷ []; cursor = []; mode = strict }

abbrev pub is_written : Held → Bool
is_written (written v) = true
is_written _ = false

-- an array of this many elements may be entered: it has no more than the limit, and isn't whole
abbrev pub may_enter_elements : ℕ → Held → Bool
may_enter_elements n held = nat_le n array_limit && not (is_written held)

-- the children of a place of this definition may be entered: a struct's always
abbrev pub may_enter_children : Def → Held → Bool
may_enter_children (Def.Array t n) held = may_enter_elements n held
may_enter_children _ held = true

-- child i of a place of shape s may be entered: it is there, and the children may be entered
abbrev pub may_enter : Table → ℕ → ℕ → Held → Bool
may_enter table s i held = nat_lt i (child_count table s) && may_enter_children (def_of table s) held

abbrev pub goes_to_child : Bool → Progress → ℕ → Option Progress
goes_to_child true run i = Some (record run { notes = entered_at (run.cursor ++ i ∷ []) ∷ run.notes; cursor = run.cursor ++ i ∷ [] })
goes_to_child false run i = None

abbrev pub goes_to_found : Table → ℕ → Progress → Option ℕ → Option Progress
goes_to_found table s run (Some i) = goes_to_child (may_enter table s i (held run.notes run.cursor)) run i
goes_to_found table s run None = None

abbrev pub writes : Progress → Option Val → Option Progress
writes run (Some v) = Some (record run { notes = wrote_at run.cursor v ∷ run.notes })
writes run None = None

abbrev pub writes_and_leaves : Progress → Option Val → Option Progress
writes_and_leaves run (Some v) = Some (record run { notes = wrote_at run.cursor v ∷ run.notes; cursor = up run.cursor })
writes_and_leaves run None = None

abbrev pub goes_up : Progress → Progress
goes_up run = record run { cursor = up run.cursor }

-- The end of deferred mode. What it notes is found in the journal as it was before.

-- the notes of two, where both are there
abbrev pub both_notes : Option Journal → Option Journal → Option Journal
both_notes (Some some) (Some others) = Some (some ++ others)
both_notes (Some some) None = None
both_notes None others = None

-- the notes of so many children, number i first
abbrev pub each_notes : (ℕ → Option Journal) → (count i : ℕ) → Option Journal
each_notes noted zero i = Some []
each_notes noted (suc count) i = both_notes (noted i) (each_notes noted count (suc i))

-- that the value, if there is one, is written to a place
abbrev pub writing : Place → Option Val → Option Journal
writing here (Some v) = Some (wrote_at here v ∷ [])
writing here None = None

-- what is noted of a child off the way: nothing, where it is untouched; else its value
abbrev pub closing_by : Held → (value : Option Journal) → Option Journal
closing_by untouched value = Some []
closing_by _ value = value

abbrev pub closing : Table → Journal → ℕ → Place → Option Journal
closing table notes s here = closing_by (held notes here) (writing here (completes deferred_column table notes s here))

-- of all children, but the one on the way, of the place `above` of shape s
abbrev pub closing_beside : Table → Journal → ℕ → (above : Place) → (on_way : ℕ) → Option Journal
closing_beside table notes s above on_way =
    each_notes (λ i. if i == on_way then Some [] else closing table notes (child_shape table s i) (above ++ i ∷ []))
    (child_count table s) 0

-- of all children of the place at which the run works, which has parts: an untouched one takes its fill
abbrev pub closing_parts : Table → Journal → ℕ → (here : Place) → Option Journal
closing_parts table notes s here =
    each_notes (λ i. writing (here ++ i ∷ []) (child_makes (held notes (here ++ i ∷ [])) (fill_at deferred_column table s i)
    (completes deferred_column table notes (child_shape table s i) (here ++ i ∷ [])))) (child_count table s) 0

abbrev pub closing_here_by : Held → (of_parts of_itself : Option Journal) → Option Journal
closing_here_by in_parts of_parts of_itself = of_parts
closing_here_by _ of_parts of_itself = of_itself

-- of the place at which the run works: of its parts, where it has any; else its own value
abbrev pub closing_here : Table → Journal → ℕ → (here : Place) → Option Journal
closing_here table notes s here =
    closing_here_by (held notes here) (closing_parts table notes s here) (writing here (completes deferred_column table notes s here))

-- What is noted from the place `above` of shape s on, the rest of the way leading to the place at which the run works: of each
-- place above that one, of its children beside the way; and of that place. None, where a value that is asked for isn't there.
abbrev pub finish_notes : Table → Journal → ℕ → (above rest : Place) → Option Journal
finish_notes table notes s above [] = closing_here table notes s above
finish_notes table notes s above (i ∷ rest) =
    both_notes (closing_beside table notes s above i) (finish_notes table notes (child_shape table s i) (above ++ i ∷ []) rest)

abbrev pub finishes_with : Progress → Option Journal → Option Progress
finishes_with run (Some added) = Some (record run { notes = added ++ run.notes; mode = strict })
finishes_with run None = None

-- `end` by the mode: in strict mode the place's value is noted, where it makes one; in deferred mode nothing is, and the place
-- has to lie deeper than that at which deferred mode began
abbrev pub end_rule : Table → ℕ → Progress → Mode → Option Progress
end_rule table s run strict = if is_root run.cursor then None else writes_and_leaves run (completes strict_column table run.notes s run.cursor)
end_rule table s run (deferred start) = if nat_lt start (length run.cursor) then Some (goes_up run) else None

abbrev pub begin_deferred_rule : Progress → Mode → Option Progress
begin_deferred_rule run strict = Some (record run { mode = deferred (length run.cursor) })
begin_deferred_rule run (deferred start) = None

abbrev pub finish_rule : Table → (root : ℕ) → Progress → Mode → Option Progress
finish_rule table root run strict = None
finish_rule table root run (deferred start) = finishes_with run (finish_notes table run.notes root [] run.cursor)

-- The rules, at a place of shape s: `begin_nth_field` at a struct with a field of that number, or at an array with such an element
-- that may be entered, notes that the child was entered, and goes there; `begin_field` at a struct that declares the name does so
-- with the first such field; `set` of the place's own shape notes the value; `set_default` at a shape with a preset notes the
-- preset; `end` below the root goes up, in strict mode noting the place's value; `begin_deferred` in strict mode changes the mode
-- alone; `finish_deferred` in deferred mode notes what was left, and the mode is strict again. Where no rule fits the command, as
-- none fits the calls that no field script has, the run is over and makes nothing.
abbrev pub rule_at : Table → (root s : ℕ) → Progress → Call → Option Progress
rule_at table root s run (Call.BeginField name) = goes_to_found table s run (field_named name (def_of table s))
rule_at table root s run (Call.BeginNthField i) = goes_to_found table s run (Some i)
rule_at table root s run (Call.SetNthFieldToDefault i) = None
rule_at table root s run (Call.Set given v) = writes run (if s == given then Some v else None)
rule_at table root s run Call.SetDefault = writes run (preset_of table s)
rule_at table root s run (Call.ParseFromStr text) = None
rule_at table root s run (Call.ParseFromBytes bytes) = None
rule_at table root s run Call.SetEmptySharedSlice = None
rule_at table root s run Call.InitList = None
rule_at table root s run (Call.InitListWithCapacity n) = None
rule_at table root s run Call.InitArray = None
rule_at table root s run Call.BeginListItem = None
rule_at table root s run Call.InitMap = None
rule_at table root s run Call.BeginKey = None
rule_at table root s run Call.BeginValue = None
rule_at table root s run Call.InitSet = None
rule_at table root s run Call.BeginSetItem = None
rule_at table root s run (Call.BeginObjectEntry key) = None
rule_at table root s run Call.BeginSome = None
rule_at table root s run Call.BeginOk = None
rule_at table root s run Call.BeginErr = None
rule_at table root s run Call.BeginSmartPtr = None
rule_at table root s run Call.BeginInner = None
rule_at table root s run Call.BeginCustomDeserialization = None
rule_at table root s run (Call.BeginCustomDeserializationWithFormat format) = None
rule_at table root s run Call.BeginCustomDeserializationFromShape = None
rule_at table root s run (Call.BeginCustomDeserializationFromShapeWithFormat format) = None
rule_at table root s run (Call.SelectNthVariant i) = None
rule_at table root s run (Call.SelectVariantNamed name) = None
rule_at table root s run (Call.SelectVariant discriminant) = None
rule_at table root s run Call.End = end_rule table s run run.mode
rule_at table root s run Call.BeginDeferred = begin_deferred_rule run run.mode
rule_at table root s run Call.FinishDeferred = finish_rule table root run run.mode

abbrev pub rule : Table → ℕ → Progress → Call → Option Progress
rule table root run command = rule_at table root (shape_at table root run.cursor) run command

abbrev pub then_rules : Option Progress → (Progress → Option Progress) → Option Progress
then_rules (Some run) rest = rest run
then_rules None rest = None

abbrev pub rules : Table → ℕ → Progress → List Call → Option Progress
rules table root run [] = Some run
rules table root run (command ∷ commands) = then_rules (rule table root run command) (λ next. rules table root next commands)

abbrev pub outcome_in : Table → ℕ → Progress → Mode → Option Val
outcome_in table root run strict = if is_root run.cursor then completes strict_column table run.notes root [] else None
outcome_in table root run (deferred start) = None

-- the value of the root, where the mode is strict and the cursor has come back to it
abbrev pub outcome : Table → ℕ → Option Progress → Option Val
outcome table root (Some run) = outcome_in table root run run.mode
outcome table root None = None

-- what a script makes, by its journal alone
abbrev pub journal_run : Table → ℕ → List Call → Option Val
journal_run table root script = outcome table root (rules table root initial_progress script)
