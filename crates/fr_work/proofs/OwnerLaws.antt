-- The place above the one at which a builder works, by the slot that the place on top knows as its owner's: what it is, and which field of
-- it the builder's place is.
use Rattle.std.proofs.Common.{◌≡◌, ◌+◌, ℕ, length, false, List, [], ◌∷◌, ◌++◌, Some, None, option_map, refl, sym, ◌∙◌, ap, subst, ◌<◌}
use Rattle.fr_work.specs.Common.{Body, Cell, FrameOwner, IsLast, IsOpen, Kid, Node, Place, Plan, Slot, Tracker, Tree, Trees, at, begun, begun_body, begun_plot, body_of, cursor_in, entered_body, entered_plot, heap_of, is_begun_dynamic, is_root, is_set, kid_shown, node_along, own_tree, tree_at, tree_of, trees_in, trees_of, up, whole_plot, Def, IsOfShape, LookupPathsAgree, LookupsAgree, NodeId, ShapeId, Table, TypePlanNode, def_of, is_begun_conversion, shape_in}
use Rattle.fr_frame.specs.declared.places.Place.{Place as Entry}
use Rattle.fr_frame.specs.declared.places.SlotId.{SlotId}
use Rattle.fr_frame.specs.Heap.{node_of}
use Rattle.fr_frame.specs.Outlines.{outline, outlined}
use Rattle.fr_frame.specs.OutlineLaws.{found_outline, none_found as no_outline}
use Rattle.fr_frame.specs.Kids.{cells_in, child_owner, Holds}
use Rattle.fr_store.specs.HoldLaws.{holds_at}
use Rattle.fr_store.specs.LeaveLaws.{below_root, owner_append, up_append}
use Rattle.fr_store.specs.StackMoves.{tree_in_slots}
use Rattle.fr_store.specs.Ways.{LeadsUnstored, kid_at, owner_along, owner_below}
use Rattle.fr_store.specs.WayLaws.{leads_at, leads_reach, tree_of_at}
use Rattle.fr_moves.specs.PlaceLaws.{found_is, Tells}
use Rattle.fr_model.specs.Tree.{field_along, field_below}
use Rattle.fr_plan.specs.Lookups.{node_at}
use Rattle.fr_moves.specs.Underway.{IsReady}
use Rattle.fr_moves.specs.FitLaws.{is_there}
use Rattle.fr_plan.specs.ReachLaws.{NodesAreReached, ReachedHaveNodes}
use Rattle.fr_moves.specs.AboveLaws.{above_shaped, field_last}

-- whether a place is a set, a dynamic value or a conversion, and which fields it has, is told by its outline

pub set_outlined : (body : Body) → is_set (own_tree (outline body)) ≡ is_set (own_tree body)
set_outlined entered_body = refl
set_outlined _ = refl

pub dynamic_outlined : (body : Body) → is_begun_dynamic (own_tree (outline body)) ≡ is_begun_dynamic (own_tree body)
dynamic_outlined entered_body = refl
dynamic_outlined _ = refl

pub source_outlined : (body : Body) → is_begun_conversion (own_tree (outline body)) ≡ is_begun_conversion (own_tree body)
source_outlined entered_body = refl
source_outlined _ = refl

pub field_outlined : (def : Def) (i : ℕ) (body : Body) → field_below def i (own_tree (outline body)) ≡ field_below def i (own_tree body)
field_outlined def i entered_body = refl
field_outlined def i _ = refl

-- it is begun, and lies in this slot, built by this node; and the other place is its child of this number
pub record IsAbove (slots : List Slot) (place : Place) (built : NodeId) (owner : FrameOwner) (tree : Tree) : Type 0 where
  pub slot : ℕ
  pub number : ℕ
  pub node : Node
  pub tracker : Tracker
  pub cells : List Cell
  pub trees : Trees
  pub owner_is : owner ≡ child_owner slot number
  pub found : heap_of slots slot ≡ Some node
  pub body : node.body ≡ begun_body tracker cells
  pub stands : tree ≡ begun tracker trees
  pub node_is : node.node ≡ built
  pub ends : place ≡ up place ++ number ∷ []

module _ {plan : Plan} {slots : List Slot} {stack : List ℕ} (shown : IsOpen plan slots stack) where
  -- so it is of the place above this one
  abbrev Stands : Place → Type 0
  Stands place =
      IsAbove slots place (node_along plan plan.root (up place) (kid_shown (heap_of slots) stack))
      (owner_along FrameOwner.Root place (kid_shown (heap_of slots) stack)) (tree_at (up place) (tree_in_slots slots stack))

  way : (above : Place) (i : ℕ) → cursor_in slots stack ≡ above ++ i ∷ []
      → Stands (cursor_in slots stack)
  way above i is =
      subst Stands (sym is) (go (kid_at above k) refl (leads_at above (i ∷ []) k leads)
      (holds_at plan (heap_of slots) plan.root FrameOwner.Root 0 above k shown.stands.holds (leads_reach above (i ∷ []) k leads)))
    where
      k : Kid
      k = kid_shown (heap_of slots) stack

      leads : LeadsUnstored (above ++ i ∷ []) k
      leads = subst (λ (p : Place). LeadsUnstored p k) is shown.stands.leads

      go : (x : Kid) → kid_at above k ≡ x → LeadsUnstored (i ∷ []) (kid_at above k)
          → Holds plan (heap_of slots) (node_along plan plan.root above k) (owner_along FrameOwner.Root above k)
          (0 + length above) (kid_at above k) → Stands (above ++ i ∷ [])
      go (at slot stored entered_plot) e l h = absurd (subst (λ (x : Kid). LeadsUnstored (i ∷ []) x) e l).1
      go (at slot stored (whole_plot v)) e l h = absurd (subst (λ (x : Kid). LeadsUnstored (i ∷ []) x) e l).1
      go (at slot stored (begun_plot tracker kids)) e l h =
          let held = subst (λ (x : Kid). Holds plan (heap_of slots) (node_along plan plan.root above k)
          (owner_along FrameOwner.Root above k) (0 + length above) x) e h in
          record {
            slot = slot;
            number = i;
            node = _;
            tracker = tracker;
            cells = cells_in kids;
            trees = trees_in kids;
            owner_is =
                owner_append FrameOwner.Root above i k
                ∙ ap (λ (x : Kid). owner_below (owner_along FrameOwner.Root above k) i x) e;
            found = held.0;
            body = refl;
            stands =
                ap (λ (p : Place). tree_at p (tree_in_slots slots stack)) (up_append above i) ∙ sym (tree_of_at above k)
                ∙ ap tree_of e;
            node_is = ap (λ (p : Place). node_along plan plan.root p k) (sym (up_append above i));
            ends = ap (λ (p : Place). p ++ i ∷ []) (sym (up_append above i));
          }
      go _ e l h = absurd (subst (λ (x : Kid). LeadsUnstored (i ∷ []) x) e l)

  pub above_here : is_root (cursor_in slots stack) ≡ false → Stands (cursor_in slots stack)
  above_here below =
      let last = below_root (cursor_in slots stack) below in
      way last.0 last.1 last.2

  -- by the place that is found on top
  module _ {n : ℕ} (last : IsLast stack n) (place : Entry) (is : Tells slots n place) (below : is_root (cursor_in slots stack) ≡ false) where
    above : Stands (cursor_in slots stack)
    above = above_here below

    owner_told : place.owner ≡ child_owner above.slot above.number
    owner_told = ap (λ (found : Node). found.owner) (found_is plan slots stack shown n last place is) ∙ above.owner_is

    pub never_root : place.owner ≡ FrameOwner.Root → ⊥
    never_root root = let no = sym root ∙ owner_told in cc

    module _ {parent : SlotId} {i : _} (owned : place.owner ≡ FrameOwner.Child parent i) where
      parent_found : heap_of slots parent.0 ≡ Some above.node
      parent_found =
          let same : parent.0 ≡ above.slot = let both = sym owned ∙ owner_told in cc in
          ap (heap_of slots) same ∙ above.found

      pub never_free : None ≡ option_map outlined (heap_of slots parent.0) → ⊥
      never_free none = let no : None ≡ Some above.node = sym (no_outline (heap_of slots parent.0) none) ∙ parent_found in cc

      -- what that place tells, by its outline and by the tracker with which it is begun
      pub told : {A : Type 0} (tells : Tree → A) → ((body : Body) → tells (own_tree (outline body)) ≡ tells (own_tree body))
          → ((tracker : Tracker) (ts us : Trees) → tells (begun tracker ts) ≡ tells (begun tracker us)) → (found : Entry)
          → Tells slots parent.0 found
          → tells (own_tree (body_of found.partial)) ≡ tells (tree_at (up (cursor_in slots stack)) (tree_in_slots slots stack))
      told {A} tells outlined_so formed found is_told =
          sym (outlined_so (body_of found.partial)) ∙ ap (λ (x : Node). tells (own_tree x.body))
          (found_outline (node_of found) (heap_of slots parent.0) above.node is_told parent_found) ∙ outlined_so above.node.body
          ∙ ap (λ (b : Body). tells (own_tree b)) above.body ∙ formed above.tracker (trees_of above.cells) above.trees
          ∙ sym (ap tells above.stands)

      -- the node by which it is built
      pub node_told : (found : Entry) → Tells slots parent.0 found
          → found.node ≡ node_along plan plan.root (up (cursor_in slots stack)) (kid_shown (heap_of slots) stack)
      node_told found is_told =
          ap (λ (x : Node). x.node) (found_outline (node_of found) (heap_of slots parent.0) above.node is_told parent_found)
          ∙ above.node_is

      -- and which of its children the builder's place is
      pub ends_so : cursor_in slots stack ≡ up (cursor_in slots stack) ++ i ∷ []
      ends_so =
          let same : above.number ≡ i = let both = sym owner_told ∙ owned in cc in
          above.ends ∙ ap (λ (n : ℕ). up (cursor_in slots stack) ++ n ∷ []) same

-- The shape of that place, by the plan.
module _ (agree : LookupsAgree) (paths : LookupPathsAgree) (reached : NodesAreReached) (nodes : ReachedHaveNodes) (table : Table)
    (root : ShapeId) (plan : Plan) (slots : List Slot) (stack : List ℕ) (ready : IsReady table root plan slots stack) where
  abbrev cursor : Place
  cursor = cursor_in slots stack

  abbrev k : Kid
  k = kid_shown (heap_of slots) stack

  -- of the place that is found there
  module _ (below : is_root cursor ≡ false) (found : Entry) (is : found.node ≡ node_along plan plan.root (up cursor) k) where
    shaped : IsOfShape plan found.node (shape_in table root.0 (up cursor) (tree_in_slots slots stack))
    shaped =
        subst (λ (n : NodeId). IsOfShape plan n (shape_in table root.0 (up cursor) (tree_in_slots slots stack))) (sym is)
        (above_shaped agree paths reached nodes table root plan slots stack ready below)

    pub above_inside : found.node.0 < length plan.nodes
    above_inside = is_there plan.nodes found.node.0 shaped.there

    pub above_shape : (node : TypePlanNode) → node_at plan found.node ≡ Some node
        → node.shape.0 ≡ shape_in table root.0 (up cursor) (tree_in_slots slots stack)
    above_shape node met =
        let both : Some node ≡ Some shaped.found = sym met ∙ shaped.there in
        let same : node ≡ shaped.found = cc in
        ap (λ (x : TypePlanNode). x.shape.0) same ∙ shaped.shape

    -- the field that the builder's place is of it
    pub field_here : (node : TypePlanNode) → node_at plan found.node ≡ Some node → (i : ℕ) → cursor ≡ up cursor ++ i ∷ [] → (tree : Tree)
        → ((def : Def) → field_below def i tree ≡ field_below def i (tree_at (up cursor) (tree_in_slots slots stack)))
        → field_below (def_of table node.shape.0) i tree ≡ field_along table root.0 None cursor (tree_in_slots slots stack)
    field_here node met i ends tree told =
        told (def_of table node.shape.0)
        ∙ ap (λ (s : ℕ). field_below (def_of table s) i (tree_at (up cursor) (tree_in_slots slots stack))) (above_shape node met)
        ∙ sym (field_last table root.0 None (up cursor) i (tree_in_slots slots stack))
        ∙ ap (λ (p : Place). field_along table root.0 None p (tree_in_slots slots stack)) (sym ends)
