-- Going on to a child, whichever way: the plan's node of the child, what the place becomes, and the step to the child.
use Rattle.std.proofs.Common.{◌≡◌, ℕ, suc, ◌<◌, true, false, List, [], ◌∷◌, ◌++◌, length, None, refl, sym, ◌∙◌, ap, subst, arith, Some, Bool, if◌then◌else◌}
use Rattle.std.specs.Borrow.{Bor}
use Rattle.fr_moves.specs.Common.{Along, AtTop, Became, Changed, Def, Describes, Frames, HasChild, HasItems, IsAtWork, IsFullAs, IsOfShape, IsOpen, ItemsKind, Leads, LookupPathsAgree, LookupsAgree, MayGo, MayOpen, Node, NodeId, Opening, Place, Plan, PointsRightly, Suits, Table, Tracker, Tree, Way, as_elements, as_fields, as_items, as_tracker, begun, begun_by, change_at, change_child, child_as, child_node, child_tree, count_below, def_of, deferred, enter, entry_refusal, field_refusal, heap_of, hole, is_map, is_map_tracker, kid_shown, node_here, number_told, onward, opened_as, shape_of, step_as, top_place, top_shape, top_tree, tracker_at, tree_at, tree_in, whole_tree, entered, fresh, holes, is_begun_conversion, opened, as_entries}
use Rattle.fr_model.specs.DynamicPlaces.{is_begun_object, keys_here}
use Rattle.fr_model.specs.Dynamics.{keys_apart}
use Rattle.fr_model.specs.Entering.{entered_on, number_on}
use Rattle.fr_model.specs.PathLaws.{step_on, HasBegun, IsAdmittedOn}
use Rattle.fr_frame.specs.declared.places.ChildWay.{ChildWay}
use Rattle.fr_store.specs.StackMoves.{child_number, tree_here, with_entry_of, with_item_of, with_key_of}
use Rattle.fr_store.specs.ShapeLaws.{child_shaped}
use Rattle.fr_moves.specs.Moving.{step_told, IsSourcedOn}
use Rattle.fr_moves.proofs.WithinLaws.{opened_within}
use Rattle.fr_moves.specs.AnewLaws.{fresh_entered}
use Rattle.fr_moves.proofs.BelowLaws.{never_map}
use Rattle.fr_moves.proofs.EnteredChildLaws.{count_holes, def_entered, has_child, may_open, node_stays}
use Rattle.fr_moves.specs.FitLaws.{is_there}
use Rattle.fr_moves.specs.TrackerLaws.{tracker_is_at, full_tree, not_begun, of_fields, opened_same, points_so}
use Rattle.fr_moves.proofs.TopBodyLaws.{body_here, by_plot}
use Rattle.fr_moves.proofs.KeepLaws.{became_after, changed_as}
use Rattle.fr_moves.proofs.BegunAroundLaws.{content_so, kept_as_tracker, points_around}
use Rattle.fr_moves.proofs.BegunListLaws.{any_count, by_items, has_count, item_so, item_step, room_for_all}
use Rattle.fr_moves.proofs.MapLaws.{key_so, more_entries, value_so}
use Rattle.fr_moves.proofs.ObjectLaws.{apart_here, counted_here, entered_so, entry_object, number_so}
use Rattle.fr_moves.specs.PlaceLaws.{here_along}
use Rattle.fr_moves.proofs.LeadLaws.{tree_leads}
use Rattle.fr_moves.specs.TreeLaws.{changed_at, changed_twice}
use Rattle.fr_model.specs.Step.{enter_child}
use Rattle.fr_model.specs.Trackers.{is_conversion}
use Rattle.fr_plan.specs.ReachLaws.{NodesAreReached, ReachedHaveNodes}
use Rattle.fr_store.specs.SourceLaws.{IsSourced, sourced_plain}
use Rattle.fr_frame.specs.Bodies.{TakesItems}

-- what is known where a way is taken from the place on top, as it is met
pub record Goes (plan : Plan) (frames : Frames) (met way : Way) : Type 0 where
  pub agree : LookupsAgree
  pub paths : LookupPathsAgree
  pub reached : NodesAreReached
  pub nodes : ReachedHaveNodes
  pub work : IsAtWork plan frames
  pub may : MayGo frames.table.now (top_shape frames) (top_tree frames) met
  pub sourced : IsSourcedOn plan met
  pub is : met ≡ way
  pub above : NodeId
  pub above_is : above ≡ node_here plan frames.slots frames.stack

-- as what the place is begun then; each entry of a dynamic object lies as an element lies in an array
abbrev pub tracker_on : Way → Tracker
tracker_on (Way.Child i opening) = as_tracker opening.tracker
tracker_on (Way.Anew i opening) = as_tracker opening.tracker
tracker_on (Way.Item opening) = as_tracker opening.tracker
tracker_on (Way.Key opening) = as_tracker opening.tracker
tracker_on (Way.Value opening) = as_tracker opening.tracker
tracker_on (Way.Entry key) = as_items ItemsKind.Array
tracker_on (Way.Content tracker beginning) = as_tracker tracker

-- what is made of the place, where the child has this definition
abbrev pub done_on : Way → Def → Tree → Tree
done_on (Way.Child i opening) def = λ old. change_child i (enter def) (opened_as (as_tracker opening.tracker) opening.count old)
done_on (Way.Anew i opening) def = λ old. change_child i (enter def) (begun (as_tracker opening.tracker) (holes opening.count))
done_on (Way.Item opening) def = with_item_of def
done_on (Way.Key opening) def = with_key_of def
done_on (Way.Value opening) def = change_child opening.count (enter def)
done_on (Way.Entry key) def = with_entry_of def key.now
done_on (Way.Content tracker beginning) def = λ old. change_child 0 (enter def) (begun_by beginning (as_tracker tracker) 1 old)

-- of a conversion alone it has to be known that the plan has a node for the child

takes_apart : (tracker : Tracker) → TakesItems tracker → is_conversion tracker ≡ false
takes_apart (as_items kind) takes = refl
takes_apart _ takes = absurd takes

map_apart : (tracker : Tracker) → is_map_tracker tracker ≡ true → is_conversion tracker ≡ false
map_apart (as_entries kind) of_map = refl
map_apart _ of_map = cc

sourced_on : (plan : Plan) (table : Table) (s : ℕ) (tree : Tree) (way : Way) → MayGo table s tree way → IsSourcedOn plan way
    → IsSourced plan (tracker_on way)
sourced_on plan table s tree (Way.Child i opening) may sourced = sourced_plain plan (as_tracker opening.tracker) may.0.plain
sourced_on plan table s tree (Way.Anew i opening) may sourced = sourced_plain plan (as_tracker opening.tracker) may.0.plain
sourced_on plan table s tree (Way.Item opening) may sourced =
    sourced_plain plan (as_tracker opening.tracker) (takes_apart (as_tracker opening.tracker) may.1)
sourced_on plan table s tree (Way.Key opening) may sourced =
    sourced_plain plan (as_tracker opening.tracker) (map_apart (as_tracker opening.tracker) may.1)
sourced_on plan table s tree (Way.Value opening) may sourced =
    sourced_plain plan (as_tracker opening.tracker) (map_apart (as_tracker opening.tracker) may.1)
sourced_on plan table s tree (Way.Entry key) may sourced = tt
sourced_on plan table s tree (Way.Content tracker beginning) may sourced = sourced

-- so many children the place may have, and this is one of them
record HoldsChild (table : Table) (s : ℕ) (tracker : Tracker) (i : ℕ) : Type 0 where
  count : ℕ
  full : IsFullAs (def_of table s) tracker count
  points : PointsRightly table s tracker
  below : i < count

dynamic_holds : (table : Table) (s : ℕ) (def : Def) (tree : Tree) → def_of table s ≡ def → entry_refusal def tree ≡ None
    → HoldsChild table s (as_items ItemsKind.Array) 0
dynamic_holds table s Def.Dynamic tree is may =
    record { count = 1; full = subst (λ (d : Def). IsFullAs d (as_items ItemsKind.Array) 1) (sym is) tt; points = tt; below = omega arith }
dynamic_holds table s _ tree is may = cc

-- what starts anew, of which such a field or element may be entered, is begun so
anew_tracker : (def : Def) (i : ℕ) (tracker : Tracker) (count : ℕ) → is_conversion tracker ≡ false → IsFullAs def tracker count
    → fresh def ≡ entered → field_refusal def (fresh def) i ≡ None → tracker ≡ tracker_at def (fresh def)
anew_tracker def i tracker count plain full nothing may =
    subst (λ (t : Tree). field_refusal def t i ≡ None → tracker ≡ tracker_at def t) (sym nothing)
    (λ so. (not_begun def entered tracker count i plain full refl so).0) may

-- and then the child is entered, of this definition
anew_so : (table : Table) (s : ℕ) (place : Def) (i : ℕ) (tracker : Tracker) (count : ℕ) (def : Def) → is_conversion tracker ≡ false
    → IsFullAs place tracker count → fresh place ≡ entered → field_refusal place (fresh place) i ≡ None
    → def ≡ def_of table (child_as table s tracker i) → change_child i (enter def) (begun tracker (holes count))
    ≡ change_child i (enter (def_of table (child_as table s (tracker_at place (fresh place)) i))) (opened place (fresh place))
anew_so table s place i tracker count def plain full nothing may is =
    ap (λ (d : Def). change_child i (enter d) (begun tracker (holes count))) (is
    ∙ ap (λ (f : Tracker). def_of table (child_as table s f i)) (anew_tracker place i tracker count plain full nothing may))
    ∙ ap (change_child i (enter (def_of table (child_as table s (tracker_at place (fresh place)) i))))
    (subst (λ (t : Tree). field_refusal place t i ≡ None → begun tracker (holes count) ≡ opened place t) (sym nothing)
    (opened_same place entered tracker count i plain full) may)

module _ (table : Table) (s : ℕ) (tree : Tree) (suits : Suits table s tree) where
  holds : (way : Way) → MayGo table s tree way → HoldsChild table s (tracker_on way) (number_told way)
  holds (Way.Child i opening) may = record {
    count = opening.count;
    full = may.0.begun;
    points =
        points_so table s (def_of table s) tree (as_tracker opening.tracker) opening.count i may.0.plain may.0.begun may.1;
    below = opened_within table s tree i opening may.0 may.1;
  }
  holds (Way.Anew i opening) may = record {
    count = opening.count;
    full = may.0.begun;
    points =
        points_so table s (def_of table s) (fresh (def_of table s)) (as_tracker opening.tracker) opening.count i may.0.plain
        may.0.begun may.1;
    below = opened_within table s (fresh (def_of table s)) i opening may.0 may.1;
  }
  holds (Way.Item opening) may =
      let room = room_for_all table s (as_tracker opening.tracker) opening.count tree may.0 suits in
      let full = any_count (def_of table s) (as_tracker opening.tracker) opening.count (suc opening.count) may.1 room.0 in
      record { count = suc opening.count; full = full; points = room.1; below = omega arith }
  holds (Way.Key opening) may =
      let room = room_for_all table s (as_tracker opening.tracker) opening.count tree may.0 suits in
      let full = more_entries (def_of table s) opening.count (as_tracker opening.tracker) may.1 room.0 in
      record { count = suc (suc opening.count); full = full; points = room.1; below = omega arith }
  holds (Way.Value opening) may =
      let room = room_for_all table s (as_tracker opening.tracker) (suc opening.count) tree may.0 suits in
      record { count = suc opening.count; full = room.0; points = room.1; below = omega arith }
  holds (Way.Entry key) may = dynamic_holds table s (def_of table s) tree refl may
  holds (Way.Content tracker beginning) may =
      record { count = 1; full = may.1; points = points_around table s (as_tracker tracker) may.0; below = omega arith }

  -- what is made of the place is just what the way means
  done_is : (way : Way) → MayGo table s tree way → (def : Def) → def ≡ def_of table (child_as table s (tracker_on way) (number_told way))
      → done_on way def tree ≡ entered_on table s (onward way tree) tree
  done_is (Way.Child i opening) may def is =
      let tracker : Tracker = as_tracker opening.tracker in
      ap (λ (d : Def). change_child i (enter d) (opened_as tracker opening.count tree)) (is
      ∙ ap (λ (f : Tracker). def_of table (child_as table s f i))
      (tracker_is_at (def_of table s) tree tracker opening.count i may.0.plain may.0.begun may.0.variant may.2
      (full_tree table s tree suits) may.1))
      ∙ ap (change_child i (enter (def_of table (child_as table s (tracker_at (def_of table s) tree) i))))
      (opened_same (def_of table s) tree tracker opening.count i may.0.plain may.0.begun may.1)
      ∙ ap (λ (b : Bool). enter_child table s i (if b then fresh (def_of table s) else tree)) (sym may.2)
  done_is (Way.Anew i opening) may def is =
      anew_so table s (def_of table s) i (as_tracker opening.tracker) opening.count def may.0.plain may.0.begun
      (fresh_entered (def_of table s) i may.1) may.1 is
  done_is (Way.Item opening) may def is = item_so table s def (as_tracker opening.tracker) opening.count tree may.0 is
  done_is (Way.Key opening) may def is = key_so table s def (as_tracker opening.tracker) opening.count tree may.0 is
  done_is (Way.Value opening) may def is =
      value_so table s opening.count def (as_tracker opening.tracker) (suc opening.count) tree may.0 is
  done_is (Way.Entry key) may def is = entered_so table s tree (entry_object (def_of table s) tree may) suits key.now def is
  done_is (Way.Content tracker beginning) may def is =
      content_so table s beginning (as_tracker tracker) may.0 tree may.2 suits def is

  -- The model admits the way, by the step that it tells.

  item_steps : (opening : Opening) → HasItems (as_tracker opening.tracker) opening.count tree
      → step_as (tracker_at (def_of table s) tree) (count_below tree) ≡ step_as (as_tracker opening.tracker) opening.count
  item_steps opening has =
      ap (step_as (tracker_at (def_of table s) tree)) (has_count (as_tracker opening.tracker) opening.count tree has)
      ∙ item_step (def_of table s) opening.count (as_tracker opening.tracker) opening.count tree has

  -- it is admitted
  pub admitted : (way : Way) → MayGo table s tree way → IsAdmittedOn tree (onward way tree)
  admitted (Way.Item opening) may =
      by_items (λ tracker count t. HasBegun t) (λ made ts. tt) (as_tracker opening.tracker) opening.count tree may.0
  admitted (Way.Key opening) may =
      by_items (λ tracker count t. HasBegun t) (λ made ts. tt) (as_tracker opening.tracker) opening.count tree may.0
  admitted (Way.Entry key) may = entry_object (def_of table s) tree may
  admitted (Way.Content tracker beginning) may = kept_as_tracker beginning (as_tracker tracker) tree may.2
  admitted _ may = tt

  -- and tells the step
  pub step_is : (way : Way) → MayGo table s tree way → step_on (def_of table s) tree (onward way tree) ≡ step_told way
  step_is (Way.Child i opening) may =
      ap (λ (b : Bool). step_as (tracker_at (def_of table s) (if b then fresh (def_of table s) else tree)) i) may.2
      ∙ ap (λ (f : Tracker). step_as f i) (sym
      (tracker_is_at (def_of table s) tree (as_tracker opening.tracker) opening.count i may.0.plain may.0.begun may.0.variant may.2
      (full_tree table s tree suits) may.1))
  step_is (Way.Anew i opening) may =
      ap (λ (f : Tracker). step_as f i) (sym
      (anew_tracker (def_of table s) i (as_tracker opening.tracker) opening.count may.0.plain may.0.begun
      (fresh_entered (def_of table s) i may.1) may.1))
  step_is (Way.Item opening) may = item_steps opening may.0
  step_is (Way.Key opening) may = item_steps opening may.0
  step_is (Way.Value opening) may =
      item_step (def_of table s) opening.count (as_tracker opening.tracker) (suc opening.count) tree may.0
  step_is _ may = refl

-- At the place on top of the stack.

module _ {plan : Plan} {frames : Frames} {met way : Way} (goes : Goes plan frames met way) where
  -- the way may be taken
  pub may_go : MayGo frames.table.now (top_shape frames) (top_tree frames) way
  may_go = subst (λ (w : Way). MayGo frames.table.now (top_shape frames) (top_tree frames) w) goes.is goes.may

  is_sourced : IsSourcedOn plan way
  is_sourced = subst (IsSourcedOn plan) goes.is goes.sourced

  here : Along frames.table.now plan (node_here plan frames.slots frames.stack) (top_shape frames) (top_tree frames)
  here = here_along goes.agree goes.paths goes.reached goes.nodes _ _ _ _ _ goes.work.ready

  module _ {node : NodeId} (is : node ≡ child_node plan goes.above (tracker_on way) (number_told way)) where
    -- the child's node is that of the place on top
    pub node_is : node ≡ child_node plan (node_here plan frames.slots frames.stack) (tracker_on way) (number_told way)
    node_is = is ∙ ap (λ (n : NodeId). child_node plan n (tracker_on way) (number_told way)) goes.above_is

    shaped : IsOfShape plan node (child_as frames.table.now (top_shape frames) (tracker_on way) (number_told way))
    shaped =
        let held = holds frames.table.now (top_shape frames) (top_tree frames) here.suits way may_go in
        let ready = goes.work.ready in
        subst (λ (n : NodeId). IsOfShape plan n (child_as frames.table.now (top_shape frames) (tracker_on way) (number_told way)))
        (sym node_is) (child_shaped goes.agree frames.table.now frames.root plan ready.checked ready.inside ready.planned _
        (top_shape frames) (tracker_on way) held.count (number_told way) here.node_is held.full held.points
        (sourced_on plan frames.table.now (top_shape frames) (top_tree frames) way may_go is_sourced) held.below)

    -- it is one of the plan's
    pub is_planned : node.0 < length plan.nodes
    is_planned = is_there plan.nodes node.0 shaped.there

    -- the place has become what the way means
    pub went : {after : Frames} → Became plan (top_place frames ++ number_on (onward way (top_tree frames)) (top_tree frames) ∷ [])
        (change_at (top_place frames) (done_on way (def_of frames.table.now (shape_of plan node))) (whole_tree frames)) frames after
        → Became plan (top_place frames ++ number_on (onward met (top_tree frames)) (top_tree frames) ∷ [])
        (change_at (top_place frames) (entered_on frames.table.now (top_shape frames) (onward met (top_tree frames)))
        (whole_tree frames)) frames after
    went {after} done =
        subst (λ (w : Way). Became plan (top_place frames ++ number_on (onward w (top_tree frames)) (top_tree frames) ∷ [])
        (change_at (top_place frames) (entered_on frames.table.now (top_shape frames) (onward w (top_tree frames)))
        (whole_tree frames)) frames after) (sym goes.is) (changed_as (done_on way (def_of frames.table.now (shape_of plan node)))
        (entered_on frames.table.now (top_shape frames) (onward way (top_tree frames)))
        (done_is frames.table.now (top_shape frames) (top_tree frames) here.suits way may_go _
        (def_entered frames.table.now plan node _ shaped)) done)

-- an entry's object
module _ {plan : Plan} {frames : Frames} {met : Way} {key : Bor (List ℕ)} (goes : Goes plan frames met (Way.Entry key)) where
  -- the place is begun as an object
  pub is_object : is_begun_object (top_tree frames) ≡ true
  is_object = entry_object (def_of frames.table.now (top_shape frames)) (top_tree frames) (may_go goes)

  -- no key of it is there twice
  pub keys_are_apart : keys_apart (keys_here (top_tree frames)) ≡ true
  keys_are_apart = apart_here _ _ (top_tree frames) is_object (here goes).suits

  -- and it has one child for each
  pub keys_are_counted : length (keys_here (top_tree frames)) ≡ count_below (top_tree frames)
  keys_are_counted = counted_here _ _ (top_tree frames) is_object (here goes).suits

  -- the entry is the one that is found, or the last
  pub went_entry : {after : Frames} → Became plan (top_place frames ++ child_number (ChildWay.Entry key) (tree_here frames.slots frames.stack) ∷ [])
      (change_at (top_place frames) (with_entry_of (def_of frames.table.now (shape_of plan goes.above)) key.now) (whole_tree frames))
      frames after → Became plan (top_place frames ++ number_on (onward met (top_tree frames)) (top_tree frames) ∷ [])
      (change_at (top_place frames) (entered_on frames.table.now (top_shape frames) (onward met (top_tree frames)))
      (whole_tree frames)) frames after
  went_entry {after} done =
      went goes refl (subst (λ (n : ℕ). Became plan (top_place frames ++ n ∷ [])
      (change_at (top_place frames) (with_entry_of (def_of frames.table.now (shape_of plan goes.above)) key.now) (whole_tree frames))
      frames after) (number_so _ _ (top_tree frames) is_object (here goes).suits key.now) done)

-- a field or an element: the place may be begun for it, and has it then
module _ {plan : Plan} {frames : Frames} {met : Way} {i : ℕ} {opening : Opening} (goes : Goes plan frames met (Way.Child i opening)) where
  -- so it is of the tracker
  pub of_opening : (So : Tracker → Type 0) → So (as_fields None) → So as_elements → ((k : ℕ) → So (as_fields (Some k))) → So (as_tracker opening.tracker)
  of_opening So of_struct of_array of_variant =
      of_fields So of_struct of_array of_variant (def_of frames.table.now (top_shape frames)) (top_tree frames)
      (as_tracker opening.tracker) opening.count i (may_go goes).0.plain (may_go goes).0.begun (may_go goes).1

  -- it may be begun so
  pub opens : AtTop frames.slots frames.stack (λ (at : Node). MayOpen (as_tracker opening.tracker) at.body)
  opens =
      body_here goes.work.ready.shown (λ t. Suits frames.table.now (top_shape frames) t
      × (field_refusal (def_of frames.table.now (top_shape frames)) t i ≡ None)) (MayOpen (as_tracker opening.tracker))
      (λ plot so.
      may_open _ _ i (as_tracker opening.tracker) opening.count plot (may_go goes).0.plain (may_go goes).0.begun so.0 so.1)
      ((here goes).suits, (may_go goes).1)

  -- and has the child then
  pub opened_has : HasChild (as_tracker opening.tracker) i (opened_as (as_tracker opening.tracker) opening.count (top_tree frames))
  opened_has =
      by_plot goes.work.ready.shown (λ t. Describes frames.table.now (top_shape frames) t opening
      → field_refusal (def_of frames.table.now (top_shape frames)) t i ≡ None → is_begun_conversion t ≡ false
      → Suits frames.table.now (top_shape frames) t
      → HasChild (as_tracker opening.tracker) i (opened_as (as_tracker opening.tracker) opening.count t))
      (λ plot says may apart suits.
      has_child _ _ i (as_tracker opening.tracker) opening.count plot says.plain says.begun says.variant apart
      (opened_within _ _ (tree_in plot) i opening says may) suits may) (may_go goes).0 (may_go goes).1 (may_go goes).2
      (here goes).suits

-- one of a place that starts anew: it has that child then
module _ {plan : Plan} {frames : Frames} {met : Way} {i : ℕ} {opening : Opening} (goes : Goes plan frames met (Way.Anew i opening)) where
  pub of_anew : (So : Tracker → Type 0) → So (as_fields None) → So as_elements → ((k : ℕ) → So (as_fields (Some k))) → So (as_tracker opening.tracker)
  of_anew So of_struct of_array of_variant =
      of_fields So of_struct of_array of_variant (def_of frames.table.now (top_shape frames))
      (fresh (def_of frames.table.now (top_shape frames))) (as_tracker opening.tracker) opening.count i (may_go goes).0.plain
      (may_go goes).0.begun (may_go goes).1

  pub anew_has : HasChild (as_tracker opening.tracker) i (begun (as_tracker opening.tracker) (holes opening.count))
  anew_has =
      let below = opened_within _ _ (fresh (def_of frames.table.now (top_shape frames))) i opening (may_go goes).0 (may_go goes).1 in
      (refl, omega (arith, count_holes opening.count, below))

-- What stands there after a change.
module _ {plan : Plan} (frames : Frames) (shown : IsOpen plan frames.slots frames.stack) (change : Tree → Tree) where
  leads : Leads (deferred 0) (top_place frames) (whole_tree frames)
  leads = tree_leads 0 (top_place frames) (kid_shown (heap_of frames.slots) frames.stack) shown.stands.leads

  -- in the changed tree
  pub made_here : tree_at (top_place frames) (change_at (top_place frames) change (whole_tree frames)) ≡ change (top_tree frames)
  made_here = changed_at (deferred 0) (top_place frames) change (whole_tree frames) leads

  -- and where the open places became so
  pub tree_then : {between : Frames} → Changed plan change frames between → top_tree between ≡ change (top_tree frames)
  tree_then {between} made =
      ap (λ (p : Place). tree_at p (whole_tree between)) made.stands.cursor ∙ ap (tree_at (top_place frames)) made.stands.built
      ∙ made_here

-- What was begun so, without going on yet.
module _ {plan : Plan} {frames between : Frames} (shown : IsOpen plan frames.slots frames.stack) (change : Tree → Tree)
    (made : Changed plan change frames between) where
  node_then : node_here plan between.slots between.stack ≡ node_here plan frames.slots frames.stack
  node_then =
      node_stays (deferred 0) plan plan.root (top_place frames) (top_place between) change
      (kid_shown (heap_of frames.slots) frames.stack) (kid_shown (heap_of between.slots) between.stack) made.stands.cursor
      (leads frames shown change) made.stands.built

  -- the node that was looked up is that of the child still
  pub node_after : {node : NodeId} (tracker : Tracker) (i : ℕ) → node ≡ child_node plan (node_here plan frames.slots frames.stack) tracker i
      → node ≡ child_node plan (node_here plan between.slots between.stack) tracker i
  node_after tracker i is = is ∙ ap (λ (n : NodeId). child_node plan n tracker i) (sym node_then)

  -- the child is there
  pub has_then : (tracker : Tracker) (i : ℕ) → HasChild tracker i (change (top_tree frames)) → HasChild tracker i (top_tree between)
  has_then tracker i has = subst (λ (t : Tree). HasChild tracker i t) (sym (tree_then frames shown change made)) has

  -- no map was begun so
  pub none_then : (tracker : Tracker) (i : ℕ) → HasChild tracker i (change (top_tree frames)) → is_map_tracker tracker ≡ false
      → is_map (top_tree between) ≡ true → child_tree i (top_tree between) ≡ hole
  none_then tracker i has other of_map = absurd (never_map tracker i (top_tree between) (has_then tracker i has) other of_map)

  -- and then one of its children was changed
  pub went_after : {after : Frames} (i : ℕ) (further : Tree → Tree)
      → Became plan (top_place between ++ i ∷ []) (change_at (top_place between) further (whole_tree between)) between after
      → Became plan (top_place frames ++ i ∷ []) (change_at (top_place frames) (λ old. further (change old)) (whole_tree frames))
      frames after
  went_after {after} i further done =
      subst (λ (t : Tree). Became plan (top_place frames ++ i ∷ []) t frames after)
      (changed_twice (top_place frames) further change (whole_tree frames))
      (became_after (λ place. place ++ i ∷ []) (λ place. change_at place further) made done)
