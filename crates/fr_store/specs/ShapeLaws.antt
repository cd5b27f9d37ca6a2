-- The shapes of the plan's nodes along a way through places in slots: those that the table has there.
use Rattle.std.proofs.Common.{◌≡◌, ℕ, zero, suc, ◌+◌, ◌<◌, Bool, true, false, List, [], ◌∷◌, length, Option, Some, None, option_map, slice_get, unwrap_or, refl, sym, ◌∙◌, ap, subst, arith}
use Rattle.std.specs.Prelude.{if◌then◌else◌}
use Rattle.fr_shape.specs.declared.error.Operation.{Operation}
use Rattle.fr_shape.specs.declared.shape.Def.{Def}
use Rattle.fr_shape.specs.declared.shape.Field.{Field}
use Rattle.fr_shape.specs.declared.shape.Shape.{Shape}
use Rattle.fr_shape.specs.declared.shape.ShapeId.{ShapeId}
use Rattle.fr_shape.specs.declared.shape.VariantDef.{VariantDef}
use Rattle.fr_shape.specs.Checked.{IsChecked}
use Rattle.fr_shape.specs.Look.{Table, IsIn, def_of, def_or_other}
use Rattle.fr_shape.specs.Plannable.{Reached}
use Rattle.fr_model.specs.Places.{Place, entry_shape, is_key, item_shape, pointee_shape, shape_or_zero}
use Rattle.fr_model.specs.Trackers.{Tracker, as_fields, as_elements, as_content, ContentKind, as_items, ItemsKind, as_entries, EntriesKind}
use Rattle.fr_model.specs.Tree.{Tree, Trees, no_trees, branch, tree_nth, tree_at, child_as, field_as, shapes_from, shape_in, count_trees}
use Rattle.fr_model.specs.Contents.{is_slice, pointee_refusal, pointer_refusal, points_to_slice}
use Rattle.fr_model.specs.Well.{AllConversionsSuit, ConversionsSuit, HasContent, HasFieldsOf, IsBegunRightly, IsFullAs, MayPoint, PointsTo, Suits, SuitAll}
use Rattle.fr_plan.specs.declared.nodes.NodeId.{NodeId}
use Rattle.fr_plan.specs.declared.nodes.TypePlanNode.{TypePlanNode}
use Rattle.fr_plan.specs.Lookups.{node_at}
use Rattle.fr_plan.specs.LookupLaws.{Step, struct_field_step, enum_variant_field_step, list_item_step, set_item_step, map_key_step, map_value_step, option_inner_step, result_ok_step, result_err_step, pointer_pointee_step, inner_step, looked_up, child_in, shape_at, LookupsAgree, LookupPathsAgree}
use Rattle.fr_plan.specs.ReachLaws.{NodesAreReached, ReachedHaveNodes}
use Rattle.fr_plan.specs.TypePlan.{Plan, IsPlanOf}
use Rattle.fr_frame.specs.Kids.{Kid, at, begun_plot, tree_of, trees_in, child_node, entry_node_found}
use Rattle.fr_store.specs.SourceLaws.{AreSourced, IsSourced, IsSourcedHere, field_sourced, node_reached, none_sourced, sourced_at, sourced_here}
use Rattle.fr_store.specs.Suited.{IsSuited}
use Rattle.fr_store.specs.Ways.{kid_nth, Reaches, node_along}
use Rattle.fr_store.specs.WayLaws.{tree_of_nth, count_in}

-- a node of the plan, of shape s
pub record IsOfShape (plan : Plan) (node : NodeId) (s : ℕ) : Type 0 where
  pub found : TypePlanNode
  pub there : node_at plan node ≡ Some found
  pub shape : found.shape.0 ≡ s

-- a child of a place that is begun so is one lookup away; what a pointer to a slice has as its items is two, a part of a dynamic value
-- none, and a source is the own node of its shape
abbrev pub IsLookedUp : Tracker → Type 0
IsLookedUp (as_fields selected) = Unit {0}
IsLookedUp as_elements = Unit {0}
IsLookedUp (as_content ContentKind.Some) = Unit {0}
IsLookedUp (as_content ContentKind.Ok) = Unit {0}
IsLookedUp (as_content ContentKind.Err) = Unit {0}
IsLookedUp (as_content ContentKind.Pointer) = Unit {0}
IsLookedUp (as_content (ContentKind.Source conversion)) = ⊥
IsLookedUp (as_items ItemsKind.List) = Unit {0}
IsLookedUp (as_items ItemsKind.Slice) = ⊥
IsLookedUp (as_items ItemsKind.ClosedSlice) = ⊥
IsLookedUp (as_items ItemsKind.Set) = Unit {0}
IsLookedUp (as_entries (EntriesKind.Map base)) = Unit {0}
IsLookedUp (as_items ItemsKind.Array) = ⊥
IsLookedUp (as_entries (EntriesKind.Object keys)) = ⊥

abbrev entry_step : (of_key : Bool) → Step
entry_step true = map_key_step
entry_step false = map_value_step

-- the lookup of a child of a place that is begun so, and the first one of a slice's item
abbrev pub step_of : Tracker → ℕ → Step
step_of (as_fields None) i = struct_field_step i
step_of as_elements i = list_item_step
step_of (as_fields (Some k)) i = enum_variant_field_step k i
step_of (as_content ContentKind.Some) i = option_inner_step
step_of (as_content ContentKind.Ok) i = result_ok_step
step_of (as_content ContentKind.Err) i = result_err_step
step_of (as_content ContentKind.Pointer) i = pointer_pointee_step
step_of (as_content (ContentKind.Source conversion)) i = inner_step
step_of (as_items ItemsKind.List) i = list_item_step
step_of (as_items ItemsKind.Slice) i = pointer_pointee_step
step_of (as_items ItemsKind.ClosedSlice) i = pointer_pointee_step
step_of (as_items ItemsKind.Set) i = set_item_step
step_of (as_entries (EntriesKind.Map base)) i = entry_step (is_key i)
step_of (as_items ItemsKind.Array) i = list_item_step
step_of (as_entries (EntriesKind.Object keys)) i = list_item_step

-- what is looked up
record LeadsToShape (plan : Plan) (found : TypePlanNode) (step : Step) (t : ShapeId) : Type 0 where
  node : NodeId
  is : looked_up plan found step ≡ Some node
  shape : shape_at plan node ≡ Some t

-- what the table has there
abbrev Has : Table → ShapeId → Step → ℕ → Type 0
Has table id step n = (child : ShapeId) × (child_in table id step ≡ Some child) × (child.0 ≡ n)

field_at : (fields : List Field) (i : ℕ) → i < length fields → (field : Field) × (slice_get fields i ≡ Some field)
field_at [] i h = absurd (omega arith)
field_at (field ∷ fields) zero h = (field, refl)
field_at (field ∷ fields) (suc i) h = field_at fields i (omega arith)

-- the child of a place of this definition, by the tracker as which it is begun
child_by : (table : Table) (id : ShapeId) (shape : Shape) → slice_get table id.0 ≡ Some shape → (count i : ℕ) → i < count
    → (tracker : Tracker) (def : Def) → shape.def ≡ def → IsLookedUp tracker → IsFullAs def tracker count
    → Has table id (step_of tracker i) (child_as table id.0 tracker i)
child_by table id shape is count i h (as_fields None) (Def.Struct struct) e one full =
    let found = field_at struct.fields i (omega (arith, full)) in
    (found.0.shape, rw (is, e, found.1) refl, rw (is, e, found.1) refl)
child_by table id shape is count i h (as_fields (Some k)) (Def.Enum enumeration) e one full =
    go (slice_get enumeration.variants k) refl full
  where
    go : (variant : Option VariantDef) → slice_get enumeration.variants k ≡ variant → HasFieldsOf variant count
        → Has table id (enum_variant_field_step k i) (child_as table id.0 (as_fields (Some k)) i)
    go (Some variant) f full =
        let found = field_at variant.fields i (omega (arith, full)) in
        (found.0.shape, rw (is, e, f, found.1) refl, rw (is, e, f, found.1) refl)
    go None f full = absurd full
child_by table id shape is count i h as_elements (Def.Array item n) e one full = (item, rw (is, e) refl, rw (is, e) refl)
child_by table id shape is count i h (as_content ContentKind.Some) (Def.Option t) e one full = (t, rw (is, e) refl, rw (is, e) refl)
child_by table id shape is count i h (as_content ContentKind.Ok) (Def.Result t other) e one full = (t, rw (is, e) refl, rw (is, e) refl)
child_by table id shape is count i h (as_content ContentKind.Err) (Def.Result other t) e one full = (t, rw (is, e) refl, rw (is, e) refl)
child_by table id shape is count i h (as_content ContentKind.Pointer) (Def.Pointer pointer) e one full = go pointer.pointee refl full
  where
    go : (pointee : Option ShapeId) → pointer.pointee ≡ pointee → PointsTo pointee count
        → Has table id pointer_pointee_step (child_as table id.0 (as_content ContentKind.Pointer) i)
    go (Some t) f full = (t, rw (is, e, f) refl, rw (is, e, f) refl)
    go None f full = absurd full
child_by table id shape is count i h (as_items ItemsKind.List) (Def.List t) e one full = (t, rw (is, e) refl, rw (is, e) refl)
child_by table id shape is count i h (as_items ItemsKind.Set) (Def.Set t) e one full = (t, rw (is, e) refl, rw (is, e) refl)
child_by table id shape is count i h (as_entries (EntriesKind.Map base)) (Def.Map key item) e one full = go (is_key i)
  where
    go : (of_key : Bool) → Has table id (entry_step of_key) (entry_shape (def_of table id.0) of_key)
    go true = (key, rw (is, e) refl, rw (is, e) refl)
    go false = (item, rw (is, e) refl, rw (is, e) refl)
child_by table id shape is count i h (as_content (ContentKind.Source conversion)) def e one full = absurd one
child_by table id shape is count i h (as_items ItemsKind.Slice) def e one full = absurd one
child_by table id shape is count i h (as_items ItemsKind.ClosedSlice) def e one full = absurd one
child_by table id shape is count i h (as_items ItemsKind.Array) def e one full = absurd one
child_by table id shape is count i h (as_entries (EntriesKind.Object keys)) def e one full = absurd one
child_by table id shape is count i h _ _ e one full = absurd full

-- a place that is begun as either side of a result may be so as the other
err_side : (def : Def) (count : ℕ) → HasContent def ContentKind.Ok count → HasContent def ContentKind.Err count
err_side (Def.Result t e) count has = has
err_side _ count has = absurd has

ok_side : (def : Def) (count : ℕ) → HasContent def ContentKind.Err count → HasContent def ContentKind.Ok count
ok_side (Def.Result t e) count has = has
ok_side _ count has = absurd has

no_other : (tracker : Tracker) (count : ℕ) → IsLookedUp tracker → IsFullAs Def.Other tracker count → ⊥
no_other (as_content (ContentKind.Source conversion)) count one full = one
no_other as_elements count one full = full
no_other _ count one full = full

has_child : (table : Table) (id : ShapeId) (tracker : Tracker) (count i : ℕ) → IsLookedUp tracker
    → IsFullAs (def_of table id.0) tracker count → i < count → Has table id (step_of tracker i) (child_as table id.0 tracker i)
has_child table id tracker count i one full below = go (slice_get table id.0) refl full
  where
    go : (found : Option Shape) → slice_get table id.0 ≡ found → IsFullAs (def_or_other found) tracker count
        → Has table id (step_of tracker i) (child_as table id.0 tracker i)
    go (Some shape) is full = child_by table id shape is count i below tracker shape.def refl one full
    go None is full = absurd (no_other tracker count one full)

-- What a pointer to a slice points to, and the items of that.
record SliceAt (table : Table) (id : ShapeId) : Type 0 where
  slice : ShapeId
  points : child_in table id pointer_pointee_step ≡ Some slice
  items : Has table slice list_item_step (item_shape (def_of table (pointee_shape (def_of table id.0))))

slice_items : (table : Table) (slice : ShapeId) (found : Option Shape) → slice_get table slice.0 ≡ found → (def : Def)
    → def_or_other found ≡ def → is_slice def ≡ true → Has table slice list_item_step (item_shape (def_of table slice.0))
slice_items table slice (Some shape) is (Def.Slice item) e h =
    (item, rw (is, e) refl, rw (is, e) refl)
slice_items table slice (Some shape) is _ e h = absurd (cc)
slice_items table slice None is def e h = let wrong : false ≡ true = ap is_slice e ∙ h in absurd (cc)

slice_at : (table : Table) (id : ShapeId) → MayPoint table id.0 true → SliceAt table id
slice_at table id may = found (slice_get table id.0) refl may.0 may.1
  where
    found : (shape : Option Shape) → slice_get table id.0 ≡ shape → pointer_refusal table (def_or_other shape) ≡ None
        → points_to_slice table (def_or_other shape) ≡ true → SliceAt table id
    found (Some shape) is may h = by_def shape.def refl may h
      where
        by_def : (def : Def) → shape.def ≡ def → pointer_refusal table def ≡ None → points_to_slice table def ≡ true → SliceAt table id
        by_def (Def.Pointer pointer) e may h = pointed pointer.constructible pointer.pointee refl may h
          where
            pointed : (constructible : Bool) (pointee : Option ShapeId) → pointer.pointee ≡ pointee
                → (if constructible then pointee_refusal table pointer.known pointee else Some Operation.PointerNotConstructible)
                ≡ None → is_slice (def_of table (shape_or_zero pointee)) ≡ true → SliceAt table id
            pointed true (Some slice) f may h = record {
              slice = slice;
              points = rw (is, e, f) refl;
              items = rw (is, e, f) (slice_items table slice (slice_get table slice.0) refl (def_of table slice.0) refl h);
            }
            pointed _ _ f may h = absurd (cc)
        by_def _ e may h = absurd (cc)
    found None is may h = absurd (cc)

-- a pointer that is begun as one to a slice may be begun so
abbrev pub PointsRightly : Table → (s : ℕ) → Tracker → Type 0
PointsRightly table s (as_fields selected) = Unit {0}
PointsRightly table s as_elements = Unit {0}
PointsRightly table s (as_content kind) = Unit {0}
PointsRightly table s (as_items ItemsKind.List) = Unit {0}
PointsRightly table s (as_items ItemsKind.Slice) = MayPoint table s true
PointsRightly table s (as_items ItemsKind.ClosedSlice) = MayPoint table s true
PointsRightly table s (as_items ItemsKind.Set) = Unit {0}
PointsRightly table s (as_entries kind) = Unit {0}
PointsRightly table s (as_items ItemsKind.Array) = Unit {0}

pub points_rightly : (table : Table) (s : ℕ) (tracker : Tracker) (ts : Trees) → IsBegunRightly table s tracker ts
    → PointsRightly table s tracker
points_rightly table s (as_items ItemsKind.Slice) ts rightly = rightly.1
points_rightly table s (as_items ItemsKind.ClosedSlice) ts rightly = rightly.1
points_rightly table s _ ts rightly = tt

pub suits_nth : (table : Table) (s : ℕ) (tracker : Tracker) (first : ℕ) (ts : Trees) (i m : ℕ) → m ≡ first + i → i < count_trees ts
    → SuitAll table (shapes_from table s tracker (count_trees ts) first) ts → Suits table (child_as table s tracker m) (tree_nth i ts)
suits_nth table s tracker first no_trees i m e h all = absurd (omega arith)
suits_nth table s tracker first (branch t ts) zero m e h all =
    let same : first ≡ m = omega arith in
    subst (λ (n : ℕ). Suits table (child_as table s tracker n) t) same all.0
suits_nth table s tracker first (branch t ts) (suc i) m e h all =
    suits_nth table s tracker (suc first) ts i m (omega arith) (omega arith) all.1

-- the end of a way: the plan's node there has the shape that the table has there, which the tree there suits; and the plan has a node for
-- the source of a conversion there
pub record Along (table : Table) (plan : Plan) (node : NodeId) (s : ℕ) (t : Tree) : Type 0 where
  pub node_is : IsOfShape plan node s
  pub suits : Suits table s t
  pub sourced : IsSourcedHere plan t

pub suits_conversion : (table : Table) (s : ℕ) (tracker : Tracker) (first : ℕ) (ts : Trees) (i m : ℕ) → m ≡ first + i
    → AllConversionsSuit table s tracker first ts
    → ConversionsSuit table (child_as table s tracker m) (field_as (def_of table s) tracker m) (tree_nth i ts)
suits_conversion table s tracker first no_trees i m e all = tt
suits_conversion table s tracker first (branch t ts) zero m e all =
    let same : first ≡ m = omega arith in
    subst (λ (n : ℕ). ConversionsSuit table (child_as table s tracker n) (field_as (def_of table s) tracker n) t) same all.0
suits_conversion table s tracker first (branch t ts) (suc i) m e all =
    suits_conversion table s tracker (suc first) ts i m (omega arith) all.1

module _ (agree : LookupsAgree) (table : Table) (root : ShapeId) (plan : Plan) (checked : IsChecked table)
    (inside : IsIn table root.0) (planned : IsPlanOf table root plan) where
  looked : (node : NodeId) (found : TypePlanNode) (step : Step) (t : ShapeId) → node_at plan node ≡ Some found
      → child_in table found.shape step ≡ Some t → LeadsToShape plan found step t
  looked node found step t is has =
      go (looked_up plan found step) refl (agree table root plan node found step checked inside planned is
      ∙ ap (option_map (λ (s : ShapeId). Some s)) has)
    where
      go : (x : Option NodeId) → looked_up plan found step ≡ x → option_map (shape_at plan) x ≡ Some (Some t)
          → LeadsToShape plan found step t
      go (Some id) e h =
          let shape : shape_at plan id ≡ Some t = cc in
          record { node = id; is = e; shape = shape }
      go None e h = cc

  met_at : (id : NodeId) (t : ShapeId) → shape_at plan id ≡ Some t
      → (found : TypePlanNode) × (node_at plan id ≡ Some found) × (found.shape ≡ t)
  met_at id t e = go (node_at plan id) refl e
    where
      go : (x : Option TypePlanNode) → node_at plan id ≡ x → option_map (λ (n : TypePlanNode). n.shape) x ≡ Some t
          → (found : TypePlanNode) × (node_at plan id ≡ Some found) × (found.shape ≡ t)
      go (Some found) is h = (found, is, cc)
      go None is h = cc

  found_at : (id : NodeId) (t : ShapeId) → shape_at plan id ≡ Some t → IsOfShape plan id t.0
  found_at id t e =
      let met = met_at id t e in
      record { found = met.0; there = met.1; shape = ap (λ (x : ShapeId). x.0) met.2 }

  -- the node of a child
  pub child_shaped : (node : NodeId) (s : ℕ) (tracker : Tracker) (count i : ℕ) → IsOfShape plan node s
      → IsFullAs (def_of table s) tracker count → PointsRightly table s tracker → IsSourced plan tracker → i < count
      → IsOfShape plan (child_node plan node tracker i) (child_as table s tracker i)
  child_shaped node s tracker count i is full points sourced below =
      subst (λ (n : ℕ). IsOfShape plan (child_node plan node tracker i) (child_as table n tracker i)) is.shape
      (go tracker (subst (λ (n : ℕ). IsFullAs (def_of table n) tracker count) (sym is.shape) full)
      (subst (λ (n : ℕ). PointsRightly table n tracker) (sym is.shape) points) sourced)
    where
      of_child : (tracker : Tracker) (next : NodeId) (child : ShapeId) → child.0 ≡ child_as table is.found.shape.0 tracker i
          → child_node plan node tracker i ≡ next → shape_at plan next ≡ Some child
          → IsOfShape plan (child_node plan node tracker i) (child_as table is.found.shape.0 tracker i)
      of_child tracker next child number same shape =
          subst (λ (n : ℕ). IsOfShape plan (child_node plan node tracker i) n) number
          (subst (λ (id : NodeId). IsOfShape plan id child.0) (sym same) (found_at next child shape))

      -- two lookups
      slice_shaped : (tracker : Tracker) → child_as table is.found.shape.0 tracker i ≡ child_as table is.found.shape.0 (as_items ItemsKind.Slice) i
          → child_node plan node tracker i ≡ child_node plan node (as_items ItemsKind.Slice) i → MayPoint table is.found.shape.0 true
          → IsOfShape plan (child_node plan node tracker i) (child_as table is.found.shape.0 tracker i)
      slice_shaped tracker number node_is points =
          let pointed = slice_at table is.found.shape points in
          let first = looked node is.found pointer_pointee_step pointed.slice is.there pointed.points in
          let met = met_at first.node pointed.slice first.shape in
          let next = looked first.node met.0 list_item_step pointed.items.0 met.1
          (subst (λ (id : ShapeId). child_in table id list_item_step ≡ Some pointed.items.0) (sym met.2)
          pointed.items.1) in
          let same : child_node plan node (as_items ItemsKind.Slice) i ≡ next.node = rw (is.there, first.is, met.1, next.is) refl in
          of_child tracker next.node pointed.items.0 (pointed.items.2 ∙ sym number) (node_is ∙ same) next.shape

      entry_same : (of_key : Bool) (next : NodeId) → looked_up plan is.found (entry_step of_key) ≡ Some next
          → unwrap_or (entry_node_found plan node of_key) (record { 0 = 0 }) ≡ next
      entry_same true next e = rw (is.there, e) refl
      entry_same false next e = rw (is.there, e) refl

      -- one lookup
      one_shaped : (tracker : Tracker) → IsLookedUp tracker → IsFullAs (def_of table is.found.shape.0) tracker count
          → ((next : NodeId) → looked_up plan is.found (step_of tracker i) ≡ Some next → child_node plan node tracker i ≡ next)
          → IsOfShape plan (child_node plan node tracker i) (child_as table is.found.shape.0 tracker i)
      one_shaped tracker one full same =
          let child = has_child table is.found.shape tracker count i one full below in
          let next = looked node is.found (step_of tracker i) child.0 is.there child.1 in
          of_child tracker next.node child.0 child.2 (same next.node next.is) next.shape

      go : (tracker : Tracker) → IsFullAs (def_of table is.found.shape.0) tracker count → PointsRightly table is.found.shape.0 tracker
          → IsSourced plan tracker
          → IsOfShape plan (child_node plan node tracker i) (child_as table is.found.shape.0 tracker i)
      go (as_fields None) full points sourced = one_shaped (as_fields None) tt full (λ next e. rw (is.there, e) refl)
      go as_elements full points sourced = one_shaped as_elements tt full (λ next e. rw (is.there, e) refl)
      go (as_fields (Some k)) full points sourced = one_shaped (as_fields (Some k)) tt full (λ next e. rw (is.there, e) refl)
      go (as_content ContentKind.Some) full points sourced =
          one_shaped (as_content ContentKind.Some) tt full (λ next e. rw (is.there, e) refl)
      go (as_content ContentKind.Ok) full points sourced =
          let other = has_child table is.found.shape (as_content ContentKind.Err) count i tt (err_side _ _ full) below in
          let beside = looked node is.found result_err_step other.0 is.there other.1 in
          one_shaped (as_content ContentKind.Ok) tt full (λ next e. rw (is.there, e, beside.is) refl)
      go (as_content ContentKind.Err) full points sourced =
          let other = has_child table is.found.shape (as_content ContentKind.Ok) count i tt (ok_side _ _ full) below in
          let beside = looked node is.found result_ok_step other.0 is.there other.1 in
          one_shaped (as_content ContentKind.Err) tt full (λ next e. rw (is.there, e, beside.is) refl)
      go (as_content ContentKind.Pointer) full points sourced =
          one_shaped (as_content ContentKind.Pointer) tt full (λ next e. rw (is.there, e) refl)
      go (as_content (ContentKind.Source conversion)) full points sourced =
          of_child (as_content (ContentKind.Source conversion)) sourced.0 (record { 0 = conversion.source }) refl
          (ap (λ (found : Option NodeId). unwrap_or found (record { 0 = 0 })) sourced.1) sourced.2
      go (as_items ItemsKind.List) full points sourced = one_shaped (as_items ItemsKind.List) tt full (λ next e. rw (is.there, e) refl)
      go (as_items ItemsKind.Slice) full points sourced = slice_shaped (as_items ItemsKind.Slice) refl refl points
      go (as_items ItemsKind.ClosedSlice) full points sourced = slice_shaped (as_items ItemsKind.ClosedSlice) refl refl points
      go (as_items ItemsKind.Set) full points sourced = one_shaped (as_items ItemsKind.Set) tt full (λ next e. rw (is.there, e) refl)
      go (as_entries (EntriesKind.Map base)) full points sourced =
          one_shaped (as_entries (EntriesKind.Map base)) tt full (λ next e. entry_same (is_key i) next e)
      go (as_items ItemsKind.Array) full points sourced = record { found = is.found; there = is.there; shape = refl }
      go (as_entries (EntriesKind.Object keys)) full points sourced = record { found = is.found; there = is.there; shape = refl }

  -- the root's node
  pub root_shaped : LookupPathsAgree → IsOfShape plan plan.root root.0
  root_shaped paths = found_at plan.root root (paths table root plan [] checked inside planned)

  module _ (reached : NodesAreReached) (nodes : ReachedHaveNodes) where
    reached_so : {node : NodeId} {s : ℕ} → IsOfShape plan node s → Reached table root.0 s
    reached_so {node} is =
        subst (Reached table root.0) is.shape
        (node_reached reached nodes table root plan checked inside planned node is.found is.there)

    pub along : (place : Place) (k : Kid) (node : NodeId) (s : ℕ) (field : Option Field)
        → AreSourced reached nodes table root plan checked inside planned field → IsOfShape plan node s → Suits table s (tree_of k)
        → ConversionsSuit table s field (tree_of k) → Reaches place k
        → Along table plan (node_along plan node place k) (shape_in table s place (tree_of k)) (tree_at place (tree_of k))
    along [] k node s field known is suits converts reach = record {
      node_is = is;
      suits = suits;
      sourced =
          sourced_here reached nodes table root plan checked inside planned s (reached_so is) field known (tree_of k) converts;
    }
    along (i ∷ place) (at slot stored (begun_plot tracker kids)) node s field known is suits converts reach =
        let count = count_in kids in
        let below : i < count_trees (trees_in kids) = omega (arith, reach.0) in
        let child = child_shaped node s tracker (count_trees (trees_in kids)) i is suits.0.0
        (points_rightly table s tracker (trees_in kids) suits.2)
        (sourced_at reached nodes table root plan checked inside planned s (reached_so is) field known tracker converts.0) below in
        let fits = suits_nth table s tracker 0 (trees_in kids) i i (omega arith) below suits.1 in
        let converted = suits_conversion table s tracker 0 (trees_in kids) i i (omega arith) converts.1 in
        let nth = tree_of_nth i kids in
        subst (λ (t : Tree). Along table plan (node_along plan (child_node plan node tracker i) place (kid_nth i kids))
        (shape_in table (child_as table s tracker i) place t) (tree_at place t)) nth
        (along place (kid_nth i kids) (child_node plan node tracker i) (child_as table s tracker i)
        (field_as (def_of table s) tracker i)
        (field_sourced reached nodes table root plan checked inside planned s (reached_so is) tracker i) child
        (subst (λ (t : Tree). Suits table (child_as table s tracker i) t) (sym nth) fits)
        (subst (λ (t : Tree). ConversionsSuit table (child_as table s tracker i) (field_as (def_of table s) tracker i) t) (sym nth)
        converted) reach.1)
    along (i ∷ place) _ node s field known is suits converts reach = absurd reach

    -- from the root's node, of a tree that is suited
    pub along_root : LookupPathsAgree → (place : Place) (k : Kid) → IsSuited table root.0 (tree_of k) → Reaches place k
        → Along table plan (node_along plan plan.root place k) (shape_in table root.0 place (tree_of k)) (tree_at place (tree_of k))
    along_root paths place k suits reach =
        along place k plan.root root.0 None (none_sourced reached nodes table root plan checked inside planned) (root_shaped paths)
        suits.suits suits.conversions reach
