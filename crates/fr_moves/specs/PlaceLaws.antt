-- The place on top of the stack: its shape, and what stands there.
use Rattle.std.proofs.Common.{[], Option, unwrap_or, ◌≡◌, ℕ, suc, ◌<◌, Bool, true, false, List, length, Some, None, option_map, refl, sym, ◌∙◌, ap, subst, if◌then◌else◌}
use Rattle.fr_moves.specs.Common.{Along, IsChecked, IsIn, IsPlanOf, Body, EntriesKind, FrameOwner, IsLast, IsOfShape, IsOpen, Kid, LooksLike, LookupPathsAgree, LookupsAgree, Node, Plan, Plot, ShapeId, Slot, Table, Tracker, TypePlanNode, absent, as_entries, at, begun, begun_body, begun_plot, body_in, body_of, count_trees, cursor_in, ends_absent, entered_body, entered_plot, heap_of, holes, is_map, is_map_tracker, kid_shown, lacks_last, lacks_value, node_along, open_top, own_tree, tree_here, tree_in, tree_of, trees_in, trees_of, whole_body}
use Rattle.std.specs.Prelude.{replicate}
use Rattle.std.proofs.lemmas.List.{length-replicate}
use Rattle.fr_model.specs.Collections.{ends_in_hole, is_hole}
use Rattle.fr_plan.specs.Lookups.{node_at}
use Rattle.fr_frame.specs.declared.places.Place.{Place as Entry}
use Rattle.fr_frame.specs.Outlines.{has_items, is_list_body, outline, outlined}
use Rattle.fr_frame.specs.OutlineLaws.{found_outline, same_plain, none_found as no_outline}
use Rattle.fr_frame.specs.Heap.{node_of}
use Rattle.fr_frame.specs.Kids.{Kids, no_kids, kid, cell_of, cells_in}
use Rattle.fr_store.specs.MoveLaws.{open_reach, top_slot}
use Rattle.fr_store.specs.Ways.{owner_along}
use Rattle.fr_store.specs.TurnedLaws.{count_of}
use Rattle.fr_store.specs.WayLaws.{tree_of_at}
use Rattle.fr_refusals.specs.Looks.{bare, is_absent}
use Rattle.fr_moves.specs.Underway.{shape_here, IsReady}
use Rattle.fr_moves.specs.FitLaws.{is_there}
use Rattle.fr_store.specs.ShapeLaws.{along, root_shaped}
use Rattle.fr_plan.specs.ReachLaws.{NodesAreReached, ReachedHaveNodes}
use Rattle.fr_store.specs.SourceLaws.{none_sourced}
use Rattle.fr_store.specs.Turns.{root_shape}

-- what was put at a place tells what is in the slot, but of a list not what its children are
abbrev pub Tells : List Slot → ℕ → Entry → Type 0
Tells slots n place = Some (outlined (node_of place)) ≡ option_map outlined (heap_of slots n)

-- what is in the last slot of the stack
abbrev pub node_here : (plan : Plan) (slots : List Slot) (stack : List ℕ) → IsOpen plan slots stack → Node
node_here plan slots stack shown = record {
  node = node_along plan plan.root (cursor_in slots stack) (kid_shown (heap_of slots) stack);
  owner = owner_along FrameOwner.Root (cursor_in slots stack) (kid_shown (heap_of slots) stack);
  stored = false;
  depth = length (cursor_in slots stack);
  body = body_in (open_top shown).plot;
}

module _ (plan : Plan) (slots : List Slot) (stack : List ℕ) (shown : IsOpen plan slots stack) (n : ℕ)
    (last : IsLast stack n) where
  pub here_found : heap_of slots n ≡ Some (node_here plan slots stack shown)
  here_found = ap (heap_of slots) (sym (top_slot shown last)) ∙ (open_top shown).here

  -- the place that is found there
  pub found_is : (place : Entry) → Tells slots n place → outlined (node_of place) ≡ outlined (node_here plan slots stack shown)
  found_is place is = found_outline (node_of place) (heap_of slots n) (node_here plan slots stack shown) is here_found

  -- there is one
  pub none_found : None ≡ option_map outlined (heap_of slots n) → ⊥
  none_found is =
      let both : None ≡ Some (node_here plan slots stack shown) = sym (no_outline (heap_of slots n) is) ∙ here_found in
      cc

-- Where a child is in a slot, what was put at the place above doesn't tell it; but it looks like what stands there.

bare_outline : (body : Body) → bare (own_tree (outline body)) ≡ bare (own_tree body)
bare_outline entered_body = refl
bare_outline (whole_body v) = refl
bare_outline (begun_body tracker cells) = ap (λ (n : ℕ). begun tracker (holes n)) (go (has_items tracker))
  where
    go : (b : Bool) → count_trees (trees_of (if b then replicate (length cells) absent else cells)) ≡ count_trees (trees_of cells)
    go true = count_of (replicate (length cells) absent) ∙ length-replicate (length cells) absent ∙ sym (count_of cells)
    go false = refl

-- a map is told whole

map_has_none : (tracker : Tracker) → is_map_tracker tracker ≡ true → has_items tracker ≡ false
map_has_none (as_entries (EntriesKind.Map base)) is = refl
map_has_none _ is = cc

map_lists_not : (plot : Plot) → is_map (tree_in plot) ≡ true → is_list_body (body_in plot) ≡ false
map_lists_not (begun_plot tracker kids) is = map_has_none tracker is
map_lists_not _ is = refl

count_told : (kids : Kids) → count_trees (trees_of (cells_in kids)) ≡ count_trees (trees_in kids)
count_told no_kids = refl
count_told (kid k ks) = ap suc (count_told ks)

own_looks : (plot : Plot) → LooksLike (own_tree (body_in plot)) (tree_in plot)
own_looks (begun_plot tracker kids) = ap (λ (n : ℕ). begun tracker (holes n)) (count_told kids)
own_looks _ = refl

-- the plot on top stands there
pub plot_here : (plan : Plan) (slots : List Slot) (stack : List ℕ) (shown : IsOpen plan slots stack)
    → tree_in (open_top shown).plot ≡ tree_here slots stack
plot_here plan slots stack shown =
    ap tree_of (sym (open_top shown).is) ∙ tree_of_at (cursor_in slots stack) (kid_shown (heap_of slots) stack)

-- Its last child is there, or isn't, as in the tree.

hole_told : (k : Kid) → is_absent (cell_of k) ≡ is_hole (tree_of k)
hole_told (at slot stored entered_plot) = refl
hole_told (at slot stored _) = refl
hole_told _ = refl

last_told : (kids : Kids) → ends_absent (cells_in kids) ≡ ends_in_hole (trees_in kids)
last_told no_kids = refl
last_told (kid k no_kids) = hole_told k
last_told (kid k (kid j ks)) = last_told (kid j ks)

plot_told : (plot : Plot) → lacks_last (body_in plot) ≡ lacks_value (tree_in plot)
plot_told (begun_plot tracker kids) = last_told kids
plot_told _ = refl

module _ {plan : Plan} {slots : List Slot} {stack : List ℕ} (shown : IsOpen plan slots stack) {n : ℕ} (last : IsLast stack n)
    (place : Entry) (is : Tells slots n place) where
  -- what was put there looks like what stands at the place at which the builder works
  pub looks_found : LooksLike (own_tree (body_of place.partial)) (tree_here slots stack)
  looks_found =
      let top = open_top shown in
      sym (bare_outline (body_of place.partial))
      ∙ ap (λ (found : Node). bare (own_tree found.body)) (found_is plan slots stack shown n last place is)
      ∙ bare_outline (body_in top.plot) ∙ own_looks top.plot ∙ ap bare (plot_here plan slots stack shown)

  -- and of a map its last child is there, or isn't, as in the tree
  pub lacks_found : is_map (tree_here slots stack) ≡ true → lacks_last (body_of place.partial) ≡ lacks_value (tree_here slots stack)
  lacks_found of_map =
      let top = open_top shown in
      let here : tree_in top.plot ≡ tree_here slots stack = plot_here plan slots stack shown in
      let same : body_of place.partial ≡ body_in top.plot = same_plain (body_of place.partial) (body_in top.plot)
      (ap (λ (found : Node). found.body) (found_is plan slots stack shown n last place is))
      (map_lists_not top.plot (ap is_map here ∙ of_map)) in
      ap lacks_last same ∙ plot_told top.plot ∙ ap lacks_value here

module _ (agree : LookupsAgree) (paths : LookupPathsAgree) (reached : NodesAreReached) (nodes : ReachedHaveNodes) (table : Table)
    (root : ShapeId) (plan : Plan) (slots : List Slot) (stack : List ℕ) (ready : IsReady table root plan slots stack) where
  -- the plan's node of the place at which the builder works, and the tree there
  pub here_along : Along table plan (node_along plan plan.root (cursor_in slots stack) (kid_shown (heap_of slots) stack))
      (shape_here table root.0 slots stack) (tree_here slots stack)
  here_along =
      along agree table root
      plan ready.checked ready.inside ready.planned reached nodes (cursor_in slots stack) (kid_shown (heap_of slots) stack) plan.root
      root.0 None (none_sourced reached nodes table root plan ready.checked ready.inside ready.planned)
      (root_shaped agree table root plan ready.checked ready.inside ready.planned paths) ready.suits.suits ready.suits.conversions
      (open_reach ready.shown)

  -- so is that of the place that is found there
  module _ {n : ℕ} (last : IsLast stack n) (place : Entry) (is : Tells slots n place) where
    found_shaped : IsOfShape plan place.node (shape_here table root.0 slots stack)
    found_shaped =
        subst (λ (found : Node). IsOfShape plan found.node (shape_here table root.0 slots stack))
        (sym (found_is plan slots stack ready.shown n last place is)) here_along.node_is

    pub found_inside : place.node.0 < length plan.nodes
    found_inside = is_there plan.nodes place.node.0 found_shaped.there

    pub found_shape : (found : TypePlanNode) → node_at plan place.node ≡ Some found
        → found.shape.0 ≡ shape_here table root.0 slots stack
    found_shape found met =
        let both : Some found ≡ Some found_shaped.found = sym met ∙ found_shaped.there in
        let same : found ≡ found_shaped.found = cc in
        ap (λ (x : TypePlanNode). x.shape.0) same ∙ found_shaped.shape

-- the root's shape is the plan's
pub root_is : LookupPathsAgree → {table : Table} {root : ShapeId} {plan : Plan} → IsChecked table → IsIn table root.0
    → IsPlanOf table root plan → root_shape plan ≡ root.0
root_is paths {table} {root} {plan} checked inside planned =
    ap (λ (found : Option ShapeId). (unwrap_or found (record { 0 = 0 })).0) (paths table root plan [] checked inside planned)
