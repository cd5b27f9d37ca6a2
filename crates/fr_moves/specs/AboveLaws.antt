-- The place above the one at which a builder works: the shape of the plan's node by which it is built, and the field that a child is of it.
use Rattle.std.proofs.Common.{◌≡◌, ℕ, false, List, [], ◌∷◌, ◌++◌, None, refl, sym, ◌∙◌, ap, subst, Option}
use Rattle.fr_moves.specs.Common.{Kid, Place, Plan, Slot, Tree, cursor_in, heap_of, is_root, kid_shown, node_along, tree_at, up, Field, IsOfShape, LookupPathsAgree, LookupsAgree, ShapeId, Table, child_tree, def_of, shape_in, Along}
use Rattle.fr_store.specs.LeaveLaws.{below_root, up_append}
use Rattle.fr_store.specs.StackMoves.{tree_in_slots}
use Rattle.fr_store.specs.Ways.{LeadsUnstored, Reaches}
use Rattle.fr_store.specs.WayLaws.{leads_reach}
use Rattle.fr_model.specs.Tree.{field_along, field_below, shape_below}
use Rattle.fr_store.specs.ShapeLaws.{along, root_shaped}
use Rattle.fr_moves.specs.Underway.{IsReady}
use Rattle.fr_plan.specs.ReachLaws.{NodesAreReached, ReachedHaveNodes}
use Rattle.fr_store.specs.SourceLaws.{none_sourced}

-- the field that a child is of the place above it
pub field_last : (table : Table) (s : ℕ) (field : Option Field) (above : Place) (i : ℕ) (t : Tree)
    → field_along table s field (above ++ i ∷ []) t ≡ field_below (def_of table (shape_in table s above t)) i (tree_at above t)
field_last table s field [] i t = refl
field_last table s field (j ∷ above) i t =
    field_last table (shape_below table s j t) (field_below (def_of table s) j t) above i (child_tree j t)

-- The shape of that place, by the plan.
module _ (agree : LookupsAgree) (paths : LookupPathsAgree) (reached : NodesAreReached) (nodes : ReachedHaveNodes) (table : Table)
    (root : ShapeId) (plan : Plan) (slots : List Slot) (stack : List ℕ) (ready : IsReady table root plan slots stack) where
  abbrev cursor : Place
  cursor = cursor_in slots stack

  abbrev k : Kid
  k = kid_shown (heap_of slots) stack

  reaches : is_root cursor ≡ false → Reaches (up cursor) k
  reaches below =
      let last = below_root cursor below in
      let leads : LeadsUnstored (last.0 ++ last.1 ∷ []) k = subst (λ (p : Place). LeadsUnstored p k) last.2 ready.shown.stands.leads in
      subst (λ (p : Place). Reaches p k) (sym (ap up last.2 ∙ up_append last.0 last.1)) (leads_reach last.0 (last.1 ∷ []) k leads)

  pub above_along : is_root cursor ≡ false
      → Along table plan (node_along plan plan.root (up cursor) k) (shape_in table root.0 (up cursor) (tree_in_slots slots stack))
      (tree_at (up cursor) (tree_in_slots slots stack))
  above_along below =
      along agree table root plan ready.checked ready.inside ready.planned reached nodes (up cursor) k plan.root root.0 None
      (none_sourced reached nodes table root plan ready.checked ready.inside ready.planned)
      (root_shaped agree table root plan ready.checked ready.inside ready.planned paths) ready.suits.suits ready.suits.conversions
      (reaches below)

  pub above_shaped : is_root cursor ≡ false
      → IsOfShape plan (node_along plan plan.root (up cursor) k) (shape_in table root.0 (up cursor) (tree_in_slots slots stack))
  above_shaped below = (above_along below).node_is
