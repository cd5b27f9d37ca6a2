-- What becomes of one place as its holes take their fills, its children being whole or not there, and what it lacks at the end of
-- deferred mode.
use Rattle.std.specs.Prelude.{◌≡◌, ◌⊎◌, ℕ, suc, true, false, List, [], ◌∷◌, length, replicate, Option, Some, None, IsSomeAnd}
use Rattle.std.specs.Option.{option_or}
use Rattle.fr_shape.specs.declared.shape.Def.{Def}
use Rattle.fr_shape.specs.declared.error.ReflectErrorKind.{ReflectErrorKind}
use Rattle.fr_shape.specs.Fills.{preset_of}
use Rattle.fr_shape.specs.Hooks.{Meanings}
use Rattle.fr_shape.specs.Look.{Table, def_of}
use Rattle.fr_shape.specs.Val.{Val, none}
use Rattle.fr_model.specs.Complete.{complete, hole_takes, missing_child, missing_value, unless_there}
use Rattle.fr_model.specs.Failing.{first_unmet, first_invalid, own_lack}
use Rattle.fr_model.specs.Places.{Column, deferred_column, child_count}
use Rattle.fr_model.specs.Trackers.{Tracker, as_fields}
use Rattle.fr_model.specs.Tree.{holes}
use Rattle.fr_frame.specs.Bodies.{Body, entered_body, whole_body, begun_body, own_tree, takes_memory, trees_of}
use Rattle.fr_values.specs.Cells.{Cell, absent, given, placed, value_of_cell}
use Rattle.fr_frame.specs.Completing.{IsOfValidator, takes_template}

-- Filling holes.

-- a child with the fill that it took, if it took any
abbrev pub taken : (fill : Option Val) → Cell
taken (Some v) = given v
taken None = absent

-- a child that isn't there takes this, if it takes anything
abbrev pub defaulted_cell : (fill : Option Val) → Cell → Cell
defaulted_cell fill absent = taken fill
defaulted_cell fill (given v) = given v
defaulted_cell fill (placed n) = placed n

-- the children from number i on of a place of shape s that is begun so, each that isn't there with its fill by the rules of the
-- column, if it has one
abbrev pub defaulted_cells : Column → Table → ℕ → Tracker → ℕ → List Cell → List Cell
defaulted_cells column table s tracker i [] = []
defaulted_cells column table s tracker i (c ∷ cs) =
    defaulted_cell (hole_takes column table s tracker i) c ∷ defaulted_cells column table s tracker (suc i) cs

-- a struct of this shape none of whose fields was there, each with its fill, if it has one
abbrev pub defaulted_struct : Column → Table → ℕ → Body
defaulted_struct column table s =
    begun_body (as_fields None) (defaulted_cells column table s (as_fields None) 0 (replicate (child_count table s) absent))

-- an entered place of this definition: a struct with a default holds that, and without one is begun with its fills; an option with
-- a default holds `None`; any other stays as it is
abbrev pub defaulted_by : Def → (preset : Option Val) → (of_fills : Body) → Body
defaulted_by (Def.Struct struct) (Some v) of_fills = whole_body v
defaulted_by (Def.Struct struct) None of_fills = of_fills
defaulted_by (Def.Option t) (Some v) of_fills = whole_body none
defaulted_by _ preset of_fills = entered_body

-- a place of shape s with all fills taken
abbrev pub defaulted : Column → Table → ℕ → Body → Body
defaulted column table s entered_body = defaulted_by (def_of table s) (preset_of table s) (defaulted_struct column table s)
defaulted column table s (whole_body v) = whole_body v
defaulted column table s (begun_body tracker cells) = begun_body tracker (defaulted_cells column table s tracker 0 cells)

-- of an entered place only a struct without a default has fields that are asked
abbrev pub unmet_entered : Def → (preset : Option Val) → (of_holes : Option ReflectErrorKind) → Option ReflectErrorKind
unmet_entered (Def.Struct struct) (Some v) of_holes = None
unmet_entered (Def.Struct struct) None of_holes = of_holes
unmet_entered _ preset of_holes = None

-- the first field, if any, that isn't there and is marked to take a default that there isn't
abbrev pub unmet : Table → ℕ → Body → Option ReflectErrorKind
unmet table s entered_body =
    unmet_entered (def_of table s) (preset_of table s) (first_unmet table s (as_fields None) 0 (holes (child_count table s)))
unmet table s (whole_body v) = None
unmet table s (begun_body tracker cells) = first_unmet table s tracker 0 (trees_of cells)

-- What is left.

-- what is lacking first among the children from number i on, each of which is asked by its number and its own value
abbrev pub first_asked : (ask : ℕ → (own : Option Val) → Option ReflectErrorKind) → ℕ → List Cell → Option ReflectErrorKind
first_asked ask i [] = None
first_asked ask i (c ∷ cs) = option_or (ask i (value_of_cell c)) (first_asked ask (suc i) cs)

-- the value of an entered place, the first hole of a begun one (a child in a slot of its own, which no place has that completes, counts as
-- one)
abbrev pub first_hole_left : ℕ → Body → Option ReflectErrorKind
first_hole_left s entered_body = Some (missing_value s)
first_hole_left s (whole_body v) = None
first_hole_left s (begun_body tracker cells) = first_asked (λ i own. unless_there own (missing_child s tracker i)) 0 cells

-- Validators.

-- the first field of a begun place whose value doesn't pass its validators
abbrev pub invalid : Meanings → Table → ℕ → Body → Option ReflectErrorKind
invalid means table s entered_body = None
invalid means table s (whole_body v) = None
invalid means table s (begun_body tracker cells) = first_invalid means table s tracker 0 (trees_of cells)

-- All three.

-- the place makes no value at the end of deferred mode, and this is what it lacks
pub record IsLackingDefault (means : Meanings) (table : Table) (s : ℕ) (body : Body) (kind : ReflectErrorKind) : Type 0 where
  pub incomplete : complete deferred_column means table s (own_tree body) ≡ None
  pub lacks : own_lack means table s (own_tree body) ≡ Some kind

-- there was no memory: for a template that it takes, or to say why a value fails
pub record WantsMemory (means : Meanings) (table : Table) (s : ℕ) (body : Body) (kind : ReflectErrorKind) : Type 0 where
  pub memory : kind ≡ ReflectErrorKind.OutOfMemory
  pub needed : (takes_template body ≡ true) ⊎ IsSomeAnd (own_lack means table s (own_tree body)) IsOfValidator

abbrev pub WhyNotDefault : Meanings → Table → ℕ → Body → ReflectErrorKind → Type 0
WhyNotDefault means table s body kind = IsLackingDefault means table s body kind ⊎ WantsMemory means table s body kind

-- each child whose value was there has it still
abbrev pub KeepGiven : (old new : List Cell) → Type 0
KeepGiven [] others = Unit {0}
KeepGiven (c ∷ cs) [] = Unit {0}
KeepGiven (absent ∷ cs) (d ∷ ds) = KeepGiven cs ds
KeepGiven (given v ∷ cs) (d ∷ ds) = (d ≡ given v) × KeepGiven cs ds
KeepGiven (placed n ∷ cs) (d ∷ ds) = KeepGiven cs ds

-- a begun place stays begun as it was, with as many children, a whole one stays as it is, and an entered one comes to take no
-- box
abbrev pub KeepsTracker : (old new : Body) → Type 0
KeepsTracker entered_body new = takes_memory new ≡ false
KeepsTracker (whole_body v) new = new ≡ whole_body v
KeepsTracker (begun_body tracker cells) entered_body = ⊥
KeepsTracker (begun_body tracker cells) (whole_body v) = ⊥
KeepsTracker (begun_body tracker cells) (begun_body as_after others) =
    (as_after ≡ tracker) × (length others ≡ length cells) × KeepGiven cells others
