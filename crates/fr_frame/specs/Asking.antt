-- What is asked of a place as it completes, of each child by its own value.
use Rattle.std.specs.Prelude.{◌≡◌, ◌⊎◌, ℕ, zero, suc, ◌+◌, ◌<◌, ◌≤◌, true, List, [], ◌∷◌, length, replicate, Option, Some, None}
use Rattle.fr_shape.specs.declared.error.ReflectErrorKind.{ReflectErrorKind}
use Rattle.fr_shape.specs.declared.shape.FieldRef.{FieldRef}
use Rattle.fr_shape.specs.Checked.{IsChecked}
use Rattle.fr_shape.specs.Hooks.{Meanings}
use Rattle.fr_shape.specs.Look.{Table}
use Rattle.fr_shape.specs.Val.{Val}
use Rattle.fr_rules.specs.Pools.{part_of}
use Rattle.fr_model.specs.Complete.{hole_takes, lack, lack_of_holes, missing_child, unless_there}
use Rattle.fr_model.specs.Failing.{first_unmet, unmet_mark}
use Rattle.fr_model.specs.Places.{Column, child_count, strict_column}
use Rattle.fr_model.specs.Trackers.{Tracker, as_fields}
use Rattle.fr_model.specs.Tree.{holes}
use Rattle.fr_plan.specs.declared.nodes.NodeId.{NodeId}
use Rattle.fr_plan.specs.declared.plans.FieldPlan.{FieldPlan}
use Rattle.fr_plan.specs.TypePlan.{Plan}
use Rattle.fr_frame.specs.declared.field_plans.FillColumn.{FillColumn}
use Rattle.fr_frame.specs.declared.lacking.Question.{Question}
use Rattle.fr_frame.specs.Bodies.{Body, own_tree}
use Rattle.fr_values.specs.Cells.{Cell, absent}
use Rattle.fr_frame.specs.Completing.{takes_template, IsPlanFor}
use Rattle.fr_frame.specs.Defaults.{defaulted_cell, first_asked, first_hole_left, unmet}
use Rattle.fr_frame.specs.Filling.{first_refused, lack_of_child, IsCauseOf}

-- One child.

-- child i isn't there, and is marked to take a default that there isn't
abbrev pub unmet_child : Table → ℕ → Tracker → ℕ → (own : Option Val) → Option ReflectErrorKind
unmet_child table s tracker i (Some v) = None
unmet_child table s tracker i None = unmet_mark table s tracker i

-- what is lacking to child i of a place of shape s that is begun so, of which this is asked
abbrev pub ask : Question → Meanings → Table → ℕ → Tracker → ℕ → (own : Option Val) → Option ReflectErrorKind
ask Question.Strict means table s tracker i own = lack_of_child strict_column means table s tracker i own
ask Question.Marks means table s tracker i own = unmet_child table s tracker i own
ask Question.There means table s tracker i own = unless_there own (missing_child s tracker i)

-- the same of this field
abbrev pub ask_field : Question → Meanings → Table → FieldRef → (own : Option Val) → Option ReflectErrorKind
ask_field question means table meant own = ask question means table meant.shape.0 (as_fields meant.variant) meant.index own

-- the first validator that the plan tells of a field and that its value doesn't pass
abbrev pub refused_of : Meanings → Plan → (told : Option FieldPlan) → (own : Option Val) → Option ReflectErrorKind
refused_of means plan (Some told) (Some v) = first_refused means told.field (part_of plan.lists.validators told.validators) v
refused_of means plan _ own = None

-- Children.

-- the children of a begun place, or so many holes
abbrev pub cells_or_holes : ℕ → Option (List Cell) → List Cell
cells_or_holes count (Some cells) = cells
cells_or_holes count None = replicate count absent

-- the child of this number with its fill, if it isn't there and has one
abbrev pub defaulted_nth : (fill : Option Val) → ℕ → List Cell → List Cell
defaulted_nth fill i [] = []
defaulted_nth fill zero (c ∷ cs) = defaulted_cell fill c ∷ cs
defaulted_nth fill (suc i) (c ∷ cs) = c ∷ defaulted_nth fill i cs

-- the same of the first n children, the first of which is number i
abbrev pub defaulted_first : Column → Table → ℕ → Tracker → (i n : ℕ) → List Cell → List Cell
defaulted_first column table s tracker i zero cs = cs
defaulted_first column table s tracker i (suc n) [] = []
defaulted_first column table s tracker i (suc n) (c ∷ cs) =
    defaulted_cell (hole_takes column table s tracker i) c ∷ defaulted_first column table s tracker (suc i) n cs

-- the same of a struct of shape s all of whose fields are holes
abbrev pub ask_holes : Question → Meanings → Table → ℕ → Option ReflectErrorKind
ask_holes Question.Strict means table s = lack_of_holes means table s (as_fields None) (child_count table s) 0
ask_holes Question.Marks means table s = first_unmet table s (as_fields None) 0 (holes (child_count table s))
ask_holes Question.There means table s =
    first_asked (ask Question.There means table s (as_fields None)) 0 (replicate (child_count table s) absent)

-- Places.

-- what is lacking to a place of shape s, of which this is asked
abbrev pub asked : Question → Meanings → Table → ℕ → Body → Option ReflectErrorKind
asked Question.Strict means table s body = lack means table s (own_tree body)
asked Question.Marks means table s body = unmet table s body
asked Question.There means table s body = first_hole_left s body

-- this is what is lacking; only a value that fails needs memory to say why
abbrev pub IsAnswer : Question → (lacking : Option ReflectErrorKind) → ReflectErrorKind → Type 0
IsAnswer Question.Strict lacking kind = IsCauseOf lacking kind
IsAnswer _ lacking kind = lacking ≡ Some kind

-- what is asked before fills are taken by the rules of the column
abbrev pub question_of : FillColumn → Question
question_of FillColumn.Strict = Question.Strict
question_of FillColumn.Deferred = Question.Marks

-- a place hasn't taken all its fills: it lacks what is asked before, or there was no memory to say what, or for a template that it takes
abbrev pub IsUnfilled : FillColumn → Meanings → Table → ℕ → Body → ReflectErrorKind → Type 0
IsUnfilled column means table s body kind =
    ((kind ≡ ReflectErrorKind.OutOfMemory) × (asked (question_of column) means table s body ≡ None) × (takes_template body ≡ true))
    ⊎ IsAnswer (question_of column) (asked (question_of column) means table s body) kind

-- Plans.

-- the plan is one of some checked table, and has this node
pub record IsPlanned (plan : Plan) (node : NodeId) : Type 0 where
  pub table : Table
  pub checked : IsChecked table
  pub planned : IsPlanFor table plan
  pub inside : node.0 < length plan.nodes

-- the plan has the validators that it tells of a field, if there is one
abbrev pub HasValidators : Plan → Option FieldPlan → Type 0
HasValidators plan (Some told) = told.validators.start + told.validators.len ≤ length plan.lists.validators
HasValidators plan None = Unit {0}
