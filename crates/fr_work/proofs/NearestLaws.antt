-- The way up from the place at which a builder works, slot by slot.
use Rattle.std.proofs.Common.{◌≡◌, ◌+◌, ◌<◌, Bool, ℕ, suc, length, false, List, [], ◌∷◌, ◌++◌, Option, Some, None, option_map, refl, sym, ◌∙◌, ap, subst, arith}
use Rattle.std.specs.Option.{option_or}
use Rattle.std.proofs.lemmas.List.{append-nil, append_assoc}
use Rattle.fr_work.specs.Common.{Along, Body, Def, Field, FrameOwner, IsLast, IsOfShape, IsOpen, Kid, LookupPathsAgree, LookupsAgree, Node, NodeId, Place, Plan, Plot, ShapeId, Slot, Table, Tree, TypePlanNode, at, begun_plot, body_in, body_of, child_tree, cursor_in, def_of, entered_plot, gone, heap_of, is_root, kid_shown, node_along, open_top, own_tree, shape_in, tree_at, tree_in, tree_of, whole_plot}
use Rattle.fr_frame.specs.declared.places.Place.{Place as Entry}
use Rattle.fr_frame.specs.declared.places.SlotId.{SlotId}
use Rattle.fr_frame.specs.Heap.{node_of}
use Rattle.fr_frame.specs.Kids.{Holds, child_owner, there}
use Rattle.fr_frame.specs.OutlineLaws.{found_outline, none_found as no_outline}
use Rattle.fr_frame.specs.Outlines.{outlined}
use Rattle.fr_model.specs.Tree.{field_below, shape_below}
use Rattle.fr_plan.specs.Lookups.{node_at}
use Rattle.fr_plan.specs.ReachLaws.{NodesAreReached, ReachedHaveNodes}
use Rattle.fr_store.specs.HoldLaws.{holds_at}
use Rattle.fr_store.specs.LeaveLaws.{below_root, owner_append}
use Rattle.fr_store.specs.MoveLaws.{top_slot}
use Rattle.fr_store.specs.ShapeLaws.{along, root_shaped}
use Rattle.fr_store.specs.SourceLaws.{none_sourced}
use Rattle.fr_store.specs.StackMoves.{tree_in_slots}
use Rattle.fr_store.specs.WayLaws.{leads_at, leads_reach, tree_of_at}
use Rattle.fr_store.specs.Ways.{LeadsUnstored, Reaches, StoredButIn, kid_at, owner_along, owner_below, owner_in_plot}
use Rattle.fr_work.specs.Readings.{nearest_along}
use Rattle.fr_moves.specs.Underway.{IsReady}
use Rattle.fr_work.proofs.OwnerLaws.{field_outlined}
use Rattle.fr_moves.specs.FitLaws.{is_there}
use Rattle.fr_moves.specs.PlaceLaws.{Tells}

-- The nearest field of a way.

pub nearest_last : (table : Table) (s : ℕ) (nearest : Option Field) (above : Place) (i : ℕ) (t : Tree)
    → nearest_along table s nearest (above ++ i ∷ []) t
    ≡ option_or (field_below (def_of table (shape_in table s above t)) i (tree_at above t)) (nearest_along table s nearest above t)
nearest_last table s nearest [] i t = refl
nearest_last table s nearest (j ∷ above) i t =
    nearest_last table (shape_below table s j t) (option_or (field_below (def_of table s) j t) nearest) above i (child_tree j t)

-- A place on the way to the one at which a builder works, and its slot.
pub record IsOnWay (plan : Plan) (slots : List Slot) (stack : List ℕ) (n : ℕ) (place : Place) : Type 0 where
  pub below : Place
  pub way : cursor_in slots stack ≡ place ++ below
  pub plot : Plot
  pub node : Node
  pub found : heap_of slots n ≡ Some node
  pub body : node.body ≡ body_in plot
  pub node_is : node.node ≡ node_along plan plan.root place (kid_shown (heap_of slots) stack)
  pub owner_is : node.owner ≡ owner_along FrameOwner.Root place (kid_shown (heap_of slots) stack)
  pub stands : tree_in plot ≡ tree_at place (tree_in_slots slots stack)

module _ {plan : Plan} {slots : List Slot} {stack : List ℕ} (shown : IsOpen plan slots stack) where
  abbrev k : Kid
  k = kid_shown (heap_of slots) stack

  -- there is one for each place on the way
  pub on_way : (place below : Place) → cursor_in slots stack ≡ place ++ below
      → (n : ℕ) × (stored : Bool) × (plot : Plot) × (kid_at place k ≡ at n stored plot) × IsOnWay plan slots stack n place
  on_way place below is =
      let leads : LeadsUnstored (place ++ below) k = subst (λ (p : Place). LeadsUnstored p k) is shown.stands.leads in
      go (kid_at place k) refl below (leads_at place below k leads)
      (holds_at plan (heap_of slots) plan.root FrameOwner.Root 0 place k shown.stands.holds (leads_reach place below k leads))
    where
      go : (x : Kid) → kid_at place k ≡ x → (rest : Place) → LeadsUnstored rest (kid_at place k)
          → Holds plan (heap_of slots) (node_along plan plan.root place k) (owner_along FrameOwner.Root place k) (0 + length place)
          (kid_at place k)
          → (n : ℕ) × (stored : Bool) × (plot : Plot) × (kid_at place k ≡ at n stored plot) × IsOnWay plan slots stack n place
      go (at slot stored plot) e rest l h =
          let held = subst (λ (x : Kid). Holds plan (heap_of slots) (node_along plan plan.root place k)
          (owner_along FrameOwner.Root place k) (0 + length place) x) e h in (
            slot,
            stored,
            plot,
            e,
            record {
              below = below;
              way = is;
              plot = plot;
              node = _;
              found = held.0;
              body = refl;
              node_is = refl;
              owner_is = refl;
              stands = ap tree_of (sym e) ∙ tree_of_at place k;
            },
          )
      go gone e [] l h = absurd (subst (λ (x : Kid). LeadsUnstored [] x) e l)
      go gone e (i ∷ rest) l h = absurd (subst (λ (x : Kid). LeadsUnstored (i ∷ rest) x) e l)
      go (there v) e [] l h = absurd (subst (λ (x : Kid). LeadsUnstored [] x) e l)
      go (there v) e (i ∷ rest) l h = absurd (subst (λ (x : Kid). LeadsUnstored (i ∷ rest) x) e l)

  -- the one at which it works
  pub top_on_way : (n : ℕ) → IsLast stack n → IsOnWay plan slots stack n (cursor_in slots stack)
  top_on_way n last =
      let top = open_top shown in
      let slot : top.slot ≡ n = top_slot shown last in
      record {
        below = [];
        way = sym (append-nil (cursor_in slots stack));
        plot = top.plot;
        node = _;
        found = ap (heap_of slots) (sym slot) ∙ top.here;
        body = refl;
        node_is = refl;
        owner_is = refl;
        stands = ap tree_of (sym top.is) ∙ tree_of_at (cursor_in slots stack) k;
      }

  -- Up from it.

  owner_so : (owner : FrameOwner) (slot i : ℕ) (Below : Kid → Type 0) (plot : Plot) → StoredButIn i Below plot
      → owner_in_plot owner slot i plot ≡ child_owner slot i
  owner_so owner slot i Below (begun_plot tracker kids) leads = refl
  owner_so owner slot i Below _ leads = absurd leads

  -- the place above another on the way, and which of its children that is
  pub record IsUpFrom (place : Place) (owner : FrameOwner) : Type 0 where
    pub above : Place
    pub number : ℕ
    pub slot : ℕ
    pub ends : place ≡ above ++ number ∷ []
    pub owner_is : owner ≡ child_owner slot number
    pub on : IsOnWay plan slots stack slot above

  module _ {n : ℕ} {place : Place} (on : IsOnWay plan slots stack n place) where
    up_by : (above : Place) (i : ℕ) → place ≡ above ++ i ∷ [] → IsUpFrom place on.node.owner
    up_by above i ends =
        let way : cursor_in slots stack ≡ above ++ i ∷ on.below
        = on.way ∙ ap (λ (p : Place). p ++ on.below) ends ∙ append_assoc above (i ∷ []) on.below in
        let leads : LeadsUnstored (above ++ i ∷ on.below) k = subst (λ (p : Place). LeadsUnstored p k) way shown.stands.leads in
        let over = on_way above (i ∷ on.below) way in
        let at_it : LeadsUnstored (i ∷ on.below) (at over.0 over.1 over.2)
        = subst (LeadsUnstored (i ∷ on.below)) over.3 (leads_at above (i ∷ on.below) k leads) in
        record {
          above = above;
          number = i;
          slot = over.0;
          ends = ends;
          owner_is =
              on.owner_is ∙ ap (λ (p : Place). owner_along FrameOwner.Root p k) ends ∙ owner_append FrameOwner.Root above i k
              ∙ ap (owner_below (owner_along FrameOwner.Root above k) i) over.3
              ∙ owner_so (owner_along FrameOwner.Root above k) over.0 i (λ below. LeadsUnstored on.below below) over.2 at_it.1;
          on = over.4;
        }

    pub up_from : is_root place ≡ false → IsUpFrom place on.node.owner
    up_from below =
        let last = below_root place below in
        up_by last.0 last.1 last.2

    -- by what is found in its slot
    module _ (entry : Entry) (is : Tells slots n entry) where
      pub outline_is : outlined (node_of entry) ≡ outlined on.node
      outline_is = found_outline (node_of entry) (heap_of slots n) on.node is on.found

      pub owner_told : entry.owner ≡ on.node.owner
      owner_told = ap (λ (node : Node). node.owner) outline_is

      below_plot : (def : Def) (i : ℕ) (plot : Plot) → field_below def i (own_tree (body_in plot)) ≡ field_below def i (tree_in plot)
      below_plot def i entered_plot = refl
      below_plot def i (whole_plot v) = refl
      below_plot def i (begun_plot tracker kids) = refl

      pub below_told : (def : Def) (i : ℕ)
          → field_below def i (own_tree (body_of entry.partial)) ≡ field_below def i (tree_at place (tree_in_slots slots stack))
      below_told def i =
          sym (field_outlined def i (body_of entry.partial))
          ∙ ap (λ (node : Node). field_below def i (own_tree node.body)) outline_is ∙ field_outlined def i on.node.body
          ∙ ap (λ (b : Body). field_below def i (own_tree b)) on.body ∙ below_plot def i on.plot
          ∙ ap (field_below def i) on.stands

    -- there is something in it
    pub never_free : None ≡ option_map outlined (heap_of slots n) → ⊥
    never_free none =
        let no : None ≡ Some on.node = sym (no_outline (heap_of slots n) none) ∙ on.found in
        cc

-- The shape of a place on the way, by the plan.
module _ (agree : LookupsAgree) (paths : LookupPathsAgree) (reached : NodesAreReached) (nodes : ReachedHaveNodes) (table : Table)
    (root : ShapeId) (plan : Plan) (slots : List Slot) (stack : List ℕ) (ready : IsReady table root plan slots stack)
    {n : ℕ} {place : Place} (on : IsOnWay plan slots stack n place) (entry : Entry) (is : Tells slots n entry) where
  abbrev top : Kid
  top = kid_shown (heap_of slots) stack

  reaches : Reaches place top
  reaches =
      leads_reach place on.below top (subst (λ (p : Place). LeadsUnstored p top) on.way ready.shown.stands.leads)

  way_along : Along table plan (node_along plan plan.root place top) (shape_in table root.0 place (tree_in_slots slots stack))
      (tree_at place (tree_in_slots slots stack))
  way_along =
      along agree table root plan ready.checked ready.inside ready.planned reached nodes place top plan.root root.0 None
      (none_sourced reached nodes table root plan ready.checked ready.inside ready.planned)
      (root_shaped agree table root plan ready.checked ready.inside ready.planned paths) ready.suits.suits ready.suits.conversions
      reaches

  way_shaped : IsOfShape plan entry.node (shape_in table root.0 place (tree_in_slots slots stack))
  way_shaped =
      subst (λ (id : NodeId). IsOfShape plan id (shape_in table root.0 place (tree_in_slots slots stack)))
      (sym (ap (λ (node : Node). node.node) (outline_is ready.shown on entry is) ∙ on.node_is)) way_along.node_is

  pub way_inside : entry.node.0 < length plan.nodes
  way_inside = is_there plan.nodes entry.node.0 way_shaped.there

  pub way_shape : (node : TypePlanNode) → node_at plan entry.node ≡ Some node
      → node.shape.0 ≡ shape_in table root.0 place (tree_in_slots slots stack)
  way_shape node met =
      let both : Some node ≡ Some way_shaped.found = sym met ∙ way_shaped.there in
      let same : node ≡ way_shaped.found = cc in
      ap (λ (x : TypePlanNode). x.shape.0) same ∙ way_shaped.shape

  -- the field that its child is, as it is found
  pub way_field : (node : TypePlanNode) → node_at plan entry.node ≡ Some node → (i : ℕ)
      → field_below (def_of table node.shape.0) i (own_tree (body_of entry.partial))
      ≡ field_below (def_of table (shape_in table root.0 place (tree_in_slots slots stack))) i (tree_at place (tree_in_slots slots stack))
  way_field node met i =
      ap (λ (s : ℕ). field_below (def_of table s) i (own_tree (body_of entry.partial))) (way_shape node met)
      ∙ below_told ready.shown on entry is (def_of table (shape_in table root.0 place (tree_in_slots slots stack))) i

-- What is left of the way: no place behind this one on it is a field.
pub record IsNearing (table : Table) (root : ℕ) (plan : Plan) (slots : List Slot) (stack : List ℕ) (n left : ℕ) : Type 0 where
  pub place : Place
  pub on : IsOnWay plan slots stack n place
  pub count : length place ≡ left
  pub same :
      nearest_along table root None (cursor_in slots stack) (tree_in_slots slots stack)
      ≡ nearest_along table root None place (tree_in_slots slots stack)

pub nearing_top : (table : Table) (root : ℕ) {plan : Plan} {slots : List Slot} {stack : List ℕ} → IsOpen plan slots stack → (n left : ℕ)
    → IsLast stack n → left ≡ length (cursor_in slots stack) → IsNearing table root plan slots stack n left
nearing_top table root {plan} {slots} {stack} shown n left last count = record {
  place = cursor_in slots stack;
  on = top_on_way shown n last;
  count = sym count;
  same = refl;
}

pub below_so : (place : Place) (left : ℕ) → length place ≡ left → 0 < left → is_root place ≡ false
below_so [] left e h = absurd (omega (arith, e))
below_so (i ∷ place) left e h = refl

length_last : (above : Place) (i : ℕ) → length (above ++ i ∷ []) ≡ suc (length above)
length_last [] i = refl
length_last (j ∷ above) i = ap suc (length_last above i)

module _ {table : Table} {root : ℕ} {plan : Plan} {slots : List Slot} {stack : List ℕ} (shown : IsOpen plan slots stack) {n left : ℕ}
    (nearing : IsNearing table root plan slots stack n left) (some_left : 0 < left) (entry : Entry) (is : Tells slots n entry) where
  abbrev up_it : IsUpFrom shown nearing.place nearing.on.node.owner
  up_it = up_from shown nearing.on (below_so nearing.place left nearing.count some_left)

  owner_up : entry.owner ≡ child_owner up_it.slot up_it.number
  owner_up = owner_told shown nearing.on entry is ∙ up_it.owner_is

  pub never_root : entry.owner ≡ FrameOwner.Root → ⊥
  never_root root = let no = sym root ∙ owner_up in cc

  module _ {parent : SlotId} {i : ℕ} (owned : entry.owner ≡ FrameOwner.Child parent i) where
    parent_is : up_it.slot ≡ parent.0
    parent_is = let both = sym owned ∙ owner_up in cc

    number_is : up_it.number ≡ i
    number_is = let both = sym owned ∙ owner_up in cc

    -- the place above is on the way
    pub on_above : IsOnWay plan slots stack parent.0 up_it.above
    on_above = subst (λ (m : ℕ). IsOnWay plan slots stack m up_it.above) parent_is up_it.on

    -- the nearest field is the one that this place is of it, or else that of the place above
    pub nearest_so : nearest_along table root None (cursor_in slots stack) (tree_in_slots slots stack)
        ≡ option_or (field_below (def_of table (shape_in table root up_it.above (tree_in_slots slots stack))) i
        (tree_at up_it.above (tree_in_slots slots stack)))
        (nearest_along table root None up_it.above (tree_in_slots slots stack))
    nearest_so =
        nearing.same ∙ ap (λ (p : Place). nearest_along table root None p (tree_in_slots slots stack)) up_it.ends
        ∙ nearest_last table root None up_it.above up_it.number (tree_in_slots slots stack)
        ∙ ap (λ (m : ℕ). option_or (field_below (def_of table (shape_in table root up_it.above (tree_in_slots slots stack))) m
        (tree_at up_it.above (tree_in_slots slots stack)))
        (nearest_along table root None up_it.above (tree_in_slots slots stack))) number_is

    pub nearest_is : (field : Field)
        → Some field
        ≡ field_below (def_of table (shape_in table root up_it.above (tree_in_slots slots stack))) i
        (tree_at up_it.above (tree_in_slots slots stack))
        → Some field ≡ nearest_along table root None (cursor_in slots stack) (tree_in_slots slots stack)
    nearest_is field e =
        sym (nearest_so
        ∙ ap (λ (found : Option Field). option_or found (nearest_along table root None up_it.above (tree_in_slots slots stack)))
        (sym e))

    pub nearing_up : (next : ℕ) → left ≡ suc next
        → field_below (def_of table (shape_in table root up_it.above (tree_in_slots slots stack))) i
        (tree_at up_it.above (tree_in_slots slots stack)) ≡ None → IsNearing table root plan slots stack parent.0 next
    nearing_up next e no_field = record {
      place = up_it.above;
      on = on_above;
      count = omega (arith, nearing.count, e, ap length up_it.ends, length_last up_it.above up_it.number);
      same = nearest_so ∙ ap (λ (found : Option Field). option_or found (nearest_along table root None up_it.above (tree_in_slots slots stack))) no_field;
    }

-- no place is left: none on the way is a field
none_at_root : (table : Table) (root : ℕ) (place : Place) (t : Tree) → length place ≡ 0 → nearest_along table root None place t ≡ None
none_at_root table root [] t e = refl
none_at_root table root (i ∷ place) t e = absurd (omega (arith, e))

pub nearing_none : {table : Table} {root : ℕ} {plan : Plan} {slots : List Slot} {stack : List ℕ} {n left : ℕ}
    → IsNearing table root plan slots stack n left → left ≡ 0
    → nearest_along table root None (cursor_in slots stack) (tree_in_slots slots stack) ≡ None
nearing_none {table} {root} {plan} {slots} nearing e =
    nearing.same ∙ none_at_root table root nearing.place _ (nearing.count ∙ e)
