-- What a builder tells of the place at which it works.
use Rattle.std.specs.Prelude.{ℕ, List, [], ◌∷◌, Option, Some, None, is_some, Bool, true, false, not, ◌&&◌, ◌||◌, nat_eq, slice_get, if◌then◌else◌, Result, Ok, Err}
use Rattle.std.specs.Option.{option_and_then, option_map, option_or}
use Rattle.fr_arena.specs.Ranges.{Range}
use Rattle.fr_rules.specs.Entries.{entries_of, first_named}
use Rattle.fr_rules.specs.Pools.{part_of}
use Rattle.fr_shape.specs.Fills.{is_empty_struct}
use Rattle.fr_shape.specs.Look.{Table, def_of, field_in, variants_of}
use Rattle.fr_shape.specs.declared.error.Reason.{Reason}
use Rattle.fr_shape.specs.declared.error.ReflectErrorKind.{ReflectErrorKind}
use Rattle.fr_shape.specs.declared.shape.Def.{Def}
use Rattle.fr_shape.specs.declared.shape.Field.{Field}
use Rattle.fr_shape.specs.declared.shape.VariantDef.{VariantDef}
use Rattle.fr_path.specs.declared.path_steps.PathStep.{PathStep}
use Rattle.fr_model.specs.Collections.{is_hole}
use Rattle.fr_model.specs.Places.{Place}
use Rattle.fr_model.specs.Trackers.{Tracker, as_fields, as_elements, as_content, ContentKind, as_items, ItemsKind, as_entries}
use Rattle.fr_model.specs.Tree.{Tree, hole, entered, whole, begun, Trees, State, tree_nth, child_tree, shape_below, field_below, selected}
use Rattle.fr_plan.specs.Fields.{fields_in}
use Rattle.fr_plan.specs.Lookups.{by_id, enum_variant, node_at, resolved, struct_plan_at}
use Rattle.fr_plan.specs.TypePlan.{Plan}
use Rattle.fr_plan.specs.declared.nodes.DeserStrategy.{DeserStrategy}
use Rattle.fr_plan.specs.declared.nodes.NodeId.{NodeId}
use Rattle.fr_plan.specs.declared.nodes.TypePlanNode.{TypePlanNode}
use Rattle.fr_plan.specs.declared.plans.FieldPlan.{FieldPlan}
use Rattle.fr_plan.specs.declared.plans.StructPlan.{StructPlan}
use Rattle.fr_plan.specs.declared.plans.VariantPlanMeta.{VariantPlanMeta}
use Rattle.fr_frame.specs.Kids.{child_node}

-- What is begun

-- a place that is begun so is a pointer to a slice, open or closed
abbrev pub is_slice_tracker : Tracker → Bool
is_slice_tracker (as_items ItemsKind.Slice) = true
is_slice_tracker (as_items ItemsKind.ClosedSlice) = true
is_slice_tracker (as_items ItemsKind.List) = false
is_slice_tracker (as_items ItemsKind.Set) = false
is_slice_tracker (as_items ItemsKind.Array) = false
is_slice_tracker (as_fields selected) = false
is_slice_tracker as_elements = false
is_slice_tracker (as_content kind) = false
is_slice_tracker (as_entries kind) = false

-- a pointer to a slice is begun here
abbrev pub is_begun_slice : Tree → Bool
is_begun_slice hole = false
is_begun_slice entered = false
is_begun_slice (whole v) = false
is_begun_slice (begun tracker children) = is_slice_tracker tracker

-- The selected variant

-- the variant of an enum of this definition that is selected where this stands, if one is
abbrev pub variant_here : Def → Tree → Option VariantDef
variant_here def tree = option_and_then (slice_get (variants_of def)) (selected tree)

-- Fields by name

-- the number of the first field that goes by this name, or has it as its alias: of a struct, or of the variant that is selected
abbrev pub field_number : (name : List ℕ) → Def → (selected : Option ℕ) → Option ℕ
field_number name def selected = first_named name (entries_of (fields_in def selected))

-- Whether a field is set

abbrev pub cannot_tell : Reason → Result Bool ReflectErrorKind
cannot_tell reason = Err (ReflectErrorKind.InvalidOperation reason)

-- what stands at a field is there: no hole, or of a variant's field that is a struct without fields
abbrev pub is_field_there : Table → (of_variant : Bool) → Field → Tree → Bool
is_field_there table of_variant field t = not (is_hole t) || (of_variant && is_empty_struct (def_of table field.shape.0))

abbrev pub field_set : Table → (of_variant : Bool) → Option Field → Tree → Result Bool ReflectErrorKind
field_set table of_variant (Some field) t = Ok (is_field_there table of_variant field t)
field_set table of_variant None t = cannot_tell Reason.NoSuchField

-- of a begun option or result child 0 is set, and it has no other
abbrev pub content_set : ℕ → Result Bool ReflectErrorKind
content_set i = if nat_eq i 0 then Ok true else cannot_tell Reason.NoSuchField

abbrev pub held_set : ContentKind → ℕ → Result Bool ReflectErrorKind
held_set ContentKind.Some i = content_set i
held_set ContentKind.Ok i = content_set i
held_set ContentKind.Err i = content_set i
held_set ContentKind.Pointer i = cannot_tell Reason.NotAProduct
held_set (ContentKind.Source conversion) i = cannot_tell Reason.NotAProduct

-- of a place of this definition that is begun so
abbrev pub child_set : Table → Def → Tracker → Trees → ℕ → Result Bool ReflectErrorKind
child_set table def (as_fields selected) ts i = field_set table (is_some selected) (field_in def selected i) (tree_nth i ts)
child_set table def as_elements ts i = cannot_tell Reason.NotAProduct
child_set table def (as_content kind) ts i = held_set kind i
child_set table def (as_items kind) ts i = cannot_tell Reason.NotAProduct
child_set table def (as_entries kind) ts i = cannot_tell Reason.NotAProduct

-- Whether field i of a place of shape s is set. At a whole place each is, at an entered one none. Of a begun struct or variant one is
-- that is no hole, of a variant also a hole that is a struct without fields; a number that no field has is refused. A begun option or
-- result has one field, which is set. What is begun otherwise has no fields.
abbrev pub is_set_at : Table → ℕ → Tree → ℕ → Result Bool ReflectErrorKind
is_set_at table s hole i = Ok false
is_set_at table s entered i = Ok false
is_set_at table s (whole v) i = Ok true
is_set_at table s (begun tracker ts) i = child_set table (def_of table s) tracker ts i

-- The nearest field

-- the last place that is a field, on the way that lies so in a tree whose top has shape s (`nearest` where none is)
abbrev pub nearest_along : Table → ℕ → (nearest : Option Field) → Place → Tree → Option Field
nearest_along table s nearest [] t = nearest
nearest_along table s nearest (i ∷ place) t =
    nearest_along table (shape_below table s i t) (option_or (field_below (def_of table s) i t) nearest) place (child_tree i t)

-- the field that the place at the cursor is, or else the last one above it that is a field
abbrev pub nearest_field : Table → (root : ℕ) → State → Option Field
nearest_field table root state = nearest_along table root None state.cursor state.tree

-- Steps to fields

abbrev pub is_field_step : PathStep → Bool
is_field_step (PathStep.Field i) = true
is_field_step _ = false

-- the last step leads to a field
abbrev pub ends_in_field : List PathStep → Bool
ends_in_field [] = false
ends_in_field (step ∷ []) = is_field_step step
ends_in_field (step ∷ next ∷ steps) = ends_in_field (next ∷ steps)

-- some step leads to a field
abbrev pub has_field_step : List PathStep → Bool
has_field_step [] = false
has_field_step (step ∷ steps) = is_field_step step || has_field_step steps

-- The plan's node of the place

-- the plan's node of child i of what stands at a place of this node
abbrev pub node_of_child : Plan → NodeId → ℕ → Tree → NodeId
node_of_child plan node i (begun tracker children) = child_node plan node tracker i
node_of_child plan node i _ = node

-- the plan's node of the place that lies so in a tree whose top is of this node, child by child: what the plan's lookup has; of a source the own
-- node of its shape; and of a part of a dynamic value the same node
abbrev pub node_down : Plan → NodeId → Place → Tree → NodeId
node_down plan node [] t = node
node_down plan node (i ∷ place) t = node_down plan (node_of_child plan node i t) place (child_tree i t)

-- the plan's node of the place at the cursor
abbrev pub cursor_node : Plan → State → NodeId
cursor_node plan state = node_down plan plan.root state.cursor state.tree

-- What a plan says of it

abbrev pub is_struct : Def → Bool
is_struct (Def.Struct struct) = true
is_struct _ = false

-- the plan of the variant that is selected, if one is
abbrev pub variant_plan_at : Plan → (selected : Option ℕ) → NodeId → Option VariantPlanMeta
variant_plan_at plan (Some k) id = by_id plan (λ node. enum_variant plan node k) id
variant_plan_at plan None id = None

-- where the plans of its fields lie: those of the variant that is selected, or of a struct
abbrev pub field_range_at : Plan → (selected : Option ℕ) → NodeId → Option Range
field_range_at plan (Some k) id = option_map (λ (variant : VariantPlanMeta). variant.fields) (variant_plan_at plan (Some k) id)
field_range_at plan None id = option_map (λ (struct : StructPlan). struct.fields) (by_id plan (struct_plan_at plan) id)

abbrev pub field_plans_at : Plan → (selected : Option ℕ) → NodeId → Option (List FieldPlan)
field_plans_at plan selected id = option_map (part_of plan.lists.fields) (field_range_at plan selected id)

abbrev pub refers_back : DeserStrategy → Bool
refers_back (DeserStrategy.BackRef target) = true
refers_back _ = false

-- the node whose strategy and proxies serve for this one: its shape's own where the strategy is to refer back to that, which a field's
-- node with proxies of its own doesn't
abbrev pub serving : Plan → TypePlanNode → TypePlanNode
serving plan node = if refers_back node.strategy then resolved plan node else node

abbrev pub serving_at : Plan → NodeId → Option TypePlanNode
serving_at plan id = option_map (serving plan) (node_at plan id)
