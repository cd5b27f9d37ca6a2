-- The tree that places in slots make up: each place knows its slot, and whether it is stored.
use Rattle.std.specs.Prelude.{◌≡◌, ℕ, zero, suc, ◌+◌, ◌<◌, ◌≤◌, Bool, false, List, [], ◌∷◌, Option, Some, None, unwrap_or, if◌then◌else◌}
use Rattle.std.specs.Option.{option_map, option_and_then}
use Rattle.fr_shape.specs.Tokens.{occurs}
use Rattle.fr_shape.specs.Val.{Val}
use Rattle.fr_model.specs.Places.{is_key, entry_of}
use Rattle.fr_model.specs.Trackers.{Tracker, as_fields, as_elements, as_content, ContentKind, as_items, ItemsKind, as_entries, EntriesKind, base_of_tracker}
use Rattle.fr_model.specs.Tree.{Tree, hole, entered, whole, begun, Trees, no_trees, branch}
use Rattle.fr_plan.specs.declared.nodes.NodeId.{NodeId}
use Rattle.fr_plan.specs.Lookups.{struct_field, enum_variant_field, list_item, set_item, map_key, map_value, option_inner, result_sides, pointer_pointee, by_id, own_id}
use Rattle.fr_plan.specs.TypePlan.{Plan}
use Rattle.fr_frame.specs.declared.places.FrameOwner.{FrameOwner}
use Rattle.fr_values.specs.Cells.{Cell, absent, given, placed}
use Rattle.fr_frame.specs.Bodies.{Body, entered_body, whole_body, begun_body}
use Rattle.fr_frame.specs.Heap.{Node, Heap, depth_limit}

-- A child: not there; there with its value; or in a slot, with what lies there. `Plot` is what lies in a slot.
mutual
  pub data Kid : Type 0 where
    gone : Kid
    there : Val → Kid
    at : (slot : ℕ) → (stored : Bool) → Plot → Kid

  pub data Plot : Type 0 where
    entered_plot : Plot
    whole_plot : Val → Plot
    begun_plot : Tracker → Kids → Plot

  pub data Kids : Type 0 where
    no_kids : Kids
    kid : Kid → Kids → Kids

abbrev pub is_stored : Kid → Bool
is_stored gone = false
is_stored (there v) = false
is_stored (at slot stored plot) = stored

-- The same without slots.
abbrev mutual
  pub tree_of : Kid → Tree
  tree_of gone = hole
  tree_of (there v) = whole v
  tree_of (at slot stored plot) = tree_in plot

  pub tree_in : Plot → Tree
  tree_in entered_plot = entered
  tree_in (whole_plot v) = whole v
  tree_in (begun_plot tracker kids) = begun tracker (trees_in kids)

  pub trees_in : Kids → Trees
  trees_in no_kids = no_trees
  trees_in (kid k ks) = branch (tree_of k) (trees_in ks)

-- One place of it by itself.

abbrev pub cell_of : Kid → Cell
cell_of gone = absent
cell_of (there v) = given v
cell_of (at slot stored plot) = placed slot

abbrev pub cells_in : Kids → List Cell
cells_in no_kids = []
cells_in (kid k ks) = cell_of k ∷ cells_in ks

abbrev pub body_in : Plot → Body
body_in entered_plot = entered_body
body_in (whole_plot v) = whole_body v
body_in (begun_plot tracker kids) = begun_body tracker (cells_in kids)

-- Reading it off a heap.

abbrev pub kid_in : (below : ℕ → Kid) → Cell → Kid
kid_in below absent = gone
kid_in below (given v) = there v
kid_in below (placed slot) = below slot

abbrev pub kids_in : (below : ℕ → Kid) → List Cell → Kids
kids_in below [] = no_kids
kids_in below (c ∷ cs) = kid (kid_in below c) (kids_in below cs)

abbrev pub plot_in : (below : ℕ → Kid) → Body → Plot
plot_in below entered_body = entered_plot
plot_in below (whole_body v) = whole_plot v
plot_in below (begun_body tracker cells) = begun_plot tracker (kids_in below cells)

abbrev pub kid_by : (below : ℕ → Kid) → (slot : ℕ) → Option Node → Kid
kid_by below slot (Some node) = at slot node.stored (plot_in below node.body)
kid_by below slot None = gone

-- what lies in a slot, so many levels deep
abbrev pub kid_from : (levels : ℕ) → Heap → (slot : ℕ) → Kid
kid_from zero heap slot = gone
kid_from (suc levels) heap slot = kid_by (kid_from levels heap) slot (heap slot)

-- what lies in a slot
abbrev pub kid_of : Heap → (slot : ℕ) → Kid
kid_of heap slot = kid_from depth_limit heap slot

-- What a heap holds.

-- the plan's node of the items of the slice to which a place of this node points, if it is so
abbrev pub slice_item_found : Plan → NodeId → Option NodeId
slice_item_found plan node = option_and_then (by_id plan (list_item plan)) (by_id plan (pointer_pointee plan) node)

-- the plan's node of the keys, or of the values, of the map at a place of this node, if it is one
abbrev pub entry_node_found : Plan → NodeId → (of_key : Bool) → Option NodeId
entry_node_found plan node of_key = if of_key then by_id plan (map_key plan) node else by_id plan (map_value plan) node

-- the plan's node of child i of a place that is begun so, if there is one: of a source its shape's own
abbrev pub child_found : Plan → NodeId → Tracker → ℕ → Option NodeId
child_found plan node (as_fields None) i = by_id plan (λ parent. struct_field plan parent i) node
child_found plan node as_elements i = by_id plan (list_item plan) node
child_found plan node (as_fields (Some k)) i = by_id plan (λ parent. enum_variant_field plan parent k i) node
child_found plan node (as_content ContentKind.Some) i = by_id plan (option_inner plan) node
child_found plan node (as_content ContentKind.Ok) i = option_map (λ (sides : NodeId × NodeId). sides.0) (by_id plan (result_sides plan) node)
child_found plan node (as_content ContentKind.Err) i = option_map (λ (sides : NodeId × NodeId). sides.1) (by_id plan (result_sides plan) node)
child_found plan node (as_content ContentKind.Pointer) i = by_id plan (pointer_pointee plan) node
child_found plan node (as_content (ContentKind.Source conversion)) i = own_id plan (record { 0 = conversion.source })
child_found plan node (as_items ItemsKind.List) i = by_id plan (list_item plan) node
child_found plan node (as_items ItemsKind.Slice) i = slice_item_found plan node
child_found plan node (as_items ItemsKind.ClosedSlice) i = slice_item_found plan node
child_found plan node (as_items ItemsKind.Set) i = by_id plan (set_item plan) node
child_found plan node (as_entries (EntriesKind.Map base)) i = entry_node_found plan node (is_key i)
child_found plan node (as_items ItemsKind.Array) i = Some node
child_found plan node (as_entries (EntriesKind.Object keys)) i = Some node

-- the same (node 0 where there is none)
abbrev pub child_node : Plan → NodeId → Tracker → ℕ → NodeId
child_node plan node tracker i = unwrap_or (child_found plan node tracker i) (record { 0 = 0 })

-- a place that is begun so may have so many children: with a content, a side, a pointee or a source but one
abbrev pub MayHave : Tracker → ℕ → Type 0
MayHave (as_fields selected) count = Unit {0}
MayHave as_elements count = Unit {0}
MayHave (as_content kind) count = count ≤ 1
MayHave (as_items kind) count = Unit {0}
MayHave (as_entries kind) count = Unit {0}

abbrev pub child_owner : (slot : ℕ) → ℕ → FrameOwner
child_owner slot i = FrameOwner.Child (record { 0 = slot }) i

-- The heap holds this at this depth, as a place of this owner that is built by this node of the plan. What is in no slot is
-- held by its owner.
abbrev mutual
  pub Holds : Plan → Heap → NodeId → FrameOwner → ℕ → Kid → Type 0
  Holds plan heap node owner depth gone = Unit {0}
  Holds plan heap node owner depth (there v) = Unit {0}
  Holds plan heap node owner depth (at slot stored plot) =
      (heap slot ≡ Some (record { node = node; owner = owner; stored = stored; depth = depth; body = body_in plot }))
      × (depth < depth_limit) × HoldsIn plan heap node slot (suc depth) plot

  pub HoldsIn : Plan → Heap → NodeId → (slot : ℕ) → ℕ → Plot → Type 0
  HoldsIn plan heap node slot depth entered_plot = Unit {0}
  HoldsIn plan heap node slot depth (whole_plot v) = Unit {0}
  HoldsIn plan heap node slot depth (begun_plot tracker kids) = HoldsAll plan heap node slot tracker 0 depth kids

  -- children from number i on, so many in all that there may be
  pub HoldsAll : Plan → Heap → NodeId → (slot : ℕ) → Tracker → (i : ℕ) → ℕ → Kids → Type 0
  HoldsAll plan heap node slot tracker i depth no_kids = MayHave tracker i
  HoldsAll plan heap node slot tracker i depth (kid k ks) =
      Holds plan heap (child_node plan node tracker i) (child_owner slot i) depth k
      × HoldsAll plan heap node slot tracker (suc i) depth ks

-- How often a token stands in it, and a slot serves in it.
abbrev mutual
  pub kid_occurs : Kid → ℕ → ℕ
  kid_occurs gone t = 0
  kid_occurs (there v) t = occurs v t
  kid_occurs (at slot stored plot) t = plot_occurs plot t

  pub plot_occurs : Plot → ℕ → ℕ
  plot_occurs entered_plot t = 0
  plot_occurs (whole_plot v) t = occurs v t
  plot_occurs (begun_plot tracker kids) t = kids_occur kids t

  pub kids_occur : Kids → ℕ → ℕ
  kids_occur no_kids t = 0
  kids_occur (kid k ks) t = kid_occurs k t + kids_occur ks t

-- Items of a set and parts of a dynamic value are completed as they are left, so that none of them is ever stored. What a map had when
-- it was begun isn't entered again. A source is converted as it is left, so that its value is never there by itself.

-- the child is there with its value
abbrev pub IsThere : Kid → Type 0
IsThere gone = ⊥
IsThere (there v) = Unit {0}
IsThere (at slot stored plot) = ⊥

-- child i of a place that is begun so isn't stored, where it is an item of a set or a part of a dynamic value; the key and the value of
-- an entry that a map had when it was begun are there; the source of a conversion isn't there, but in a slot, or not there yet
abbrev pub IsLeftRightly : Tracker → (i : ℕ) → Kid → Type 0
IsLeftRightly (as_items ItemsKind.Set) i k = is_stored k ≡ false
IsLeftRightly (as_entries (EntriesKind.Map base)) i k = entry_of i < base → IsThere k
IsLeftRightly (as_items ItemsKind.Array) i k = is_stored k ≡ false
IsLeftRightly (as_entries (EntriesKind.Object keys)) i k = is_stored k ≡ false
IsLeftRightly (as_fields selected) i k = Unit {0}
IsLeftRightly as_elements i k = Unit {0}
IsLeftRightly (as_content ContentKind.Some) i k = Unit {0}
IsLeftRightly (as_content ContentKind.Ok) i k = Unit {0}
IsLeftRightly (as_content ContentKind.Err) i k = Unit {0}
IsLeftRightly (as_content ContentKind.Pointer) i k = Unit {0}
IsLeftRightly (as_content (ContentKind.Source conversion)) i k = IsThere k → ⊥
IsLeftRightly (as_items ItemsKind.List) i k = Unit {0}
IsLeftRightly (as_items ItemsKind.Slice) i k = Unit {0}
IsLeftRightly (as_items ItemsKind.ClosedSlice) i k = Unit {0}

-- and so it is of all that lies in it
abbrev mutual
  pub AreLeftRightly : Kid → Type 0
  AreLeftRightly gone = Unit {0}
  AreLeftRightly (there v) = Unit {0}
  AreLeftRightly (at slot stored plot) = AreLeftIn plot

  pub AreLeftIn : Plot → Type 0
  AreLeftIn entered_plot = Unit {0}
  AreLeftIn (whole_plot v) = Unit {0}
  AreLeftIn (begun_plot tracker kids) = AreLeftAll tracker 0 kids

  -- children from number i on, of which a map has at least those of its base
  pub AreLeftAll : Tracker → (i : ℕ) → Kids → Type 0
  AreLeftAll tracker i no_kids = base_of_tracker tracker ≤ entry_of i
  AreLeftAll tracker i (kid k ks) = IsLeftRightly tracker i k × AreLeftRightly k × AreLeftAll tracker (suc i) ks
