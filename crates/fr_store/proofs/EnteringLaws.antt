-- Laws of entering, for proofs: a child of the top gets a slot, and is on top then.
use Rattle.std.proofs.Common.{◌≡◌, ◌≢◌, ◌⊎◌, ℕ, suc, ◌+◌, ◌<◌, ◌≤◌, Bool, true, false, List, [], ◌∷◌, ◌++◌, append-nil, append_assoc, length, nat_eq, Option, Some, None, inl, inr, refl, sym, ◌∙◌, ap, subst, arith, if◌then◌else◌}
use Rattle.fr_store.specs.Common.{AllServe, AllStayPut, AreLeftAll, AreLeftIn, AreLeftRightly, Body, Def, FrameOwner, HasChild, Heap, Holds, IsClosed, IsLast, IsOpen, IsOpenAt, IsSome, IsStoredChild, IsThere, IsUnplaced, Kid, Kids, LeadsUnstored, MayHave, MayHaveIts, Node, NodeId, Place, Plan, Plot, Replaces, Shows, Slot, Stands, Top, Tracker, Tree, Trees, all_changed, at, at_for_at, begun, begun_body, begun_plot, body_here, body_in, body_other, cell_of, cell_of_child, cells_in, change_at, change_child, child_node, child_owner, child_tree, closed_marked, closed_uses, count_kids, counts_if, counts_other, counts_own, cursor_in, depth_above, depth_below, depth_limit, enter, entered_node, entered_plot, fresh_closed, fresh_plot, fresh_same, fresh_tree, gone, heap_of, held_by, holds_put_nth, hole, is_empty_struct, is_map, is_map_tracker, kid_at, kid_here, kid_nth, kid_shown, left_as, left_put_nth, linked, linked_by, links, no_vals, node_along, node_here, nth_put, open_at_from, open_top, product, put_at, put_nth, same_or_other, slot_other, slots_above, slots_along, stands_change, stands_reach, stored_but, taken_over, there, top_held, top_slot, tree_at, tree_change_at, tree_here, tree_in, tree_in_slots, tree_of, tree_of_at, tree_of_nth, tree_put_nth, trees_in, uses, uses_among, uses_at, uses_in, uses_nth, uses_put_nth, whole_plot, with_child, with_entered}
use Rattle.fr_store.specs.TopLaws.{slot_here, closed_holds, not_beside, used_entered, open_node}
use Rattle.fr_store.proofs.ChildrenOfTops.{child_cell, kids_held, kids_may_have, kids_stored, not_parent, parent_is, part_uses, plot_has, unplaced_child}
use Rattle.fr_store.proofs.PlacesBeside.{stay_all, stay_shown, stay_unplaced}
use Rattle.fr_store.proofs.StoredLaws.{unused}

-- A child that is entered: what it held, or fresh.

-- (a child that is in a slot isn't entered again)
abbrev pub child_plot : Def → Kid → Plot
child_plot def gone = fresh_plot def
child_plot def (there v) = whole_plot v
child_plot def (at slot stored plot) = entered_plot

child_body : (def : Def) (k : Kid) → IsUnplaced (cell_of k) → body_in (child_plot def k) ≡ taken_over def (Some (cell_of k))
child_body def gone u = fresh_same def
child_body def (there v) u = refl
child_body def (at slot stored plot) u = absurd u

pub child_tree_is : (def : Def) (k : Kid) → IsUnplaced (cell_of k) → tree_in (child_plot def k) ≡ enter def (tree_of k)
child_tree_is def gone u = fresh_tree def
child_tree_is def (there v) u = refl
child_tree_is def (at slot stored plot) u = absurd u

child_closed : (def : Def) (k : Kid) → IsClosed (body_in (child_plot def k))
child_closed def gone = fresh_closed def
child_closed def _ = tt

-- it has no children yet
child_may_have : (def : Def) (k : Kid) → MayHaveIts (body_in (child_plot def k))
child_may_have def gone = go (is_empty_struct def)
  where
    go : (b : Bool) → MayHaveIts (body_in (if b then whole_plot (product no_vals) else entered_plot))
    go true = tt
    go false = tt
child_may_have def (there v) = tt
child_may_have def (at slot stored plot) = tt

linked_child : (tracker : Tracker) (i n : ℕ) (ks : Kids) (plot : Plot) → MayHave tracker (count_kids ks) → i < count_kids ks
    → IsUnplaced (cell_of (kid_nth i ks))
    → linked n i (begun_body tracker (cells_in ks)) ≡ begun_body tracker (cells_in (put_nth i (at n false plot) ks))
linked_child tracker i n ks plot may h unplaced =
    ap (linked_by n i (begun_body tracker (cells_in ks))) (cell_of_child tracker i ks may h) ∙ go (kid_nth i ks) unplaced
  where
    go : (k : Kid) → IsUnplaced (cell_of k) → linked_by n i (begun_body tracker (cells_in ks)) (Some (cell_of k))
        ≡ begun_body tracker (cells_in (put_nth i (at n false plot) ks))
    go gone u = with_child tracker i (at n false plot) ks may h
    go (there v) u = with_child tracker i (at n false plot) ks may h
    go (at slot stored other) u = absurd u

unplaced_kid : (k : Kid) (n : ℕ) → IsUnplaced (cell_of k) → uses k n ≡ 0
unplaced_kid (at slot stored plot) n u = absurd u
unplaced_kid _ n u = refl

-- what is put at the child's place has no children yet
child_left : (def : Def) (k : Kid) → AreLeftIn (child_plot def k)
child_left def gone = go (is_empty_struct def)
  where
    go : (empty : Bool) → AreLeftIn (if empty then whole_plot (product no_vals) else entered_plot)
    go true = tt
    go false = tt
child_left def (there v) = tt
child_left def (at slot stored plot) = tt

hole_not_there : (k : Kid) → tree_of k ≡ hole → IsThere k → ⊥
hole_not_there (there v) e is = cc
hole_not_there _ e is = is

-- what stands then has it on top, serves in each slot in use, and has the place where it lay
pub record IsEntered (plan : Plan) (heap other : Heap) (stack : List ℕ) (n : ℕ) (place : Place) (i : ℕ) (k new : Kid) : Type 0 where
  pub stands : Stands plan other (stack ++ n ∷ []) (place ++ i ∷ []) new
  pub all : AllServe heap k → AllServe other new
  pub stay : AllStayPut k new

-- Child i of the top, which is in no slot, is entered into slot n, which was free.
module _ {plan : Plan} {heap : Heap} (other : Heap) {stack : List ℕ} {place : Place} {k : Kid} (stands : Stands plan
    heap stack place k) (top : Top plan heap stack place k) {tracker : Tracker} {kids : Kids} (begun_now : top.plot ≡ begun_plot
    tracker kids) (i : ℕ) (within : i < count_kids kids) (unplaced : IsUnplaced (cell_of (kid_nth i kids)))
    (vacant : is_map_tracker tracker ≡ true → IsThere (kid_nth i kids) → ⊥) (def : Def) (n : ℕ) (free : heap n ≡ None)
    (shows : (m : ℕ) → other m ≡ with_entered def heap (child_node plan (node_along plan plan.root place k) tracker i)
    (child_owner top.slot i) n m) (limit : depth_below heap (child_owner top.slot i) < depth_limit) where
  abbrev pub entered_kids : Kids
  entered_kids = put_nth i (at n false (child_plot def (kid_nth i kids))) kids

  abbrev pub entered_kid : Kid
  entered_kid = at top.slot false (begun_plot tracker entered_kids)

  apart : top.slot ≢ n
  apart e = let is = sym top.here ∙ ap heap e ∙ free in cc

  parent_now : other top.slot ≡ Some (open_node plan place k (begun_body tracker (cells_in entered_kids)))
  parent_now =
      shows top.slot ∙ slot_other (links (child_owner top.slot i) n heap) n (Some (entered_node def heap (child_node
      plan (node_along plan plan.root place k) tracker i) (child_owner top.slot i))) top.slot apart ∙ body_here heap top.slot
      (linked n i) (parent_is stands top begun_now i within) ∙ ap (λ (b : Body). Some (open_node plan place k b)) (linked_child
      tracker i n kids (child_plot def (kid_nth i kids)) (kids_may_have stands top begun_now i within) within unplaced)

  depth_is : depth_below heap (child_owner top.slot i) ≡ suc (length place)
  depth_is = ap depth_above top.here

  -- what is known of the child at this depth, at which this was put
  abbrev child_found : ℕ → Body → Node
  child_found depth body = record {
    node = child_node plan (node_along plan plan.root place k) tracker i;
    owner = child_owner top.slot i;
    stored = false;
    depth = depth;
    body = body;
  }

  child_now : other n ≡ Some (child_found (suc (length place)) (body_in (child_plot def (kid_nth i kids))))
  child_now =
      let held : held_by heap (child_owner top.slot i) ≡ Some (cell_of (kid_nth i kids))
      = child_cell stands top begun_now i within in
      shows n ∙ slot_here (links (child_owner top.slot i) n heap) n
      (Some (entered_node def heap (child_node plan (node_along plan plan.root place k) tracker i) (child_owner top.slot i)))
      ∙ ap (λ (d : ℕ). Some (child_found d (taken_over def (held_by heap (child_owner top.slot i))))) depth_is
      ∙ ap (λ (b : Body). Some (child_found (suc (length place)) b)) (ap (taken_over def) held ∙ sym (child_body def (kid_nth i kids) unplaced))

  part : (m : ℕ) → uses (kid_at place k) m ≡ counts_if (nat_eq top.slot m) + uses_among kids m
  part m = part_uses stands top begun_now i within m

  unused_now : uses k n ≡ 0
  unused_now = unused plan heap plan.root FrameOwner.Root 0 k n stands.holds free

  elsewhere : (m : ℕ) → m ≢ top.slot → 0 < uses k m → other m ≡ heap m
  elsewhere m ne h =
      shows m ∙ slot_other (links (child_owner top.slot i) n heap) n
      (Some (entered_node def heap (child_node plan (node_along plan plan.root place k) tracker i) (child_owner top.slot i)))
      m serves ∙ body_other heap top.slot (linked n i) m ne
    where
      serves : m ≢ n
      serves e =
          let none : uses k m ≡ 0 = ap (uses k) e ∙ unused_now in
          absurd (omega (arith, none))

  once : (m : ℕ) → uses k m + uses entered_kid m ≤ 1 + uses (kid_at place k) m
  once m =
      let added = uses_put_nth i (at n false (child_plot def (kid_nth i kids))) kids m within in
      let fresh = closed_uses (child_plot def (kid_nth i kids)) m (child_closed def (kid_nth i kids)) in
      omega (arith, added, fresh, part m, go (same_or_other n m))
    where
      go : (n ≡ m) ⊎ (n ≢ m) → uses k m + counts_if (nat_eq n m) ≤ 1
      go (inl e) =
          let none : uses k m ≡ 0 = ap (uses k) (sym e) ∙ unused_now in
          omega (arith, counts_own (sym e))
      go (inr ne) = let zero_here : counts_if (nat_eq n m) ≡ 0 = counts_other n m ne in omega (arith, stands.once m)

  replaces : Replaces plan heap other (kid_at place k) entered_kid
  replaces node owner depth holds =
      let same = top_held stands top node owner depth holds in
      let child : Holds plan other (child_node plan (node_along plan plan.root place k) tracker i)
      (child_owner top.slot i) (suc (length place)) (at n false (child_plot def (kid_nth i kids)))
      = (
        child_now,
        subst (λ (d : ℕ). d < depth_limit) depth_is limit,
        closed_holds plan other (child_node plan (node_along plan plan.root place k) tracker i) n (suc (suc (length place)))
            (child_plot def (kid_nth i kids)) (child_may_have def (kid_nth i kids)) (child_closed def (kid_nth i kids)),
      ) in
      subst (λ (x : Node). Holds plan other x.node x.owner x.depth entered_kid) (sym same) (
        parent_now,
        top.limit,
        holds_put_nth plan heap other (node_along plan plan.root place k) top.slot tracker 0 (suc (length place)) kids
            i i (at n false (child_plot def (kid_nth i kids))) (omega arith) (λ m h. elsewhere m (not_parent stands top begun_now
            i within m (omega arith)) (omega (arith, part m, uses_at place k m))) (kids_held stands top begun_now i within) child,
      )

  -- each slot in use is that of a place
  all_entered : AllServe heap k → AllServe other (put_at place entered_kid k)
  all_entered all =
      all_changed heap other place entered_kid k (stands_reach stands) all from
    where
      added : (m : ℕ) → uses_among entered_kids m + uses (kid_nth i kids) m
          ≡ uses_among kids m + (counts_if (nat_eq n m) + uses_in (child_plot def (kid_nth i kids)) m)
      added m = uses_put_nth i (at n false (child_plot def (kid_nth i kids))) kids m within

      go : (m : ℕ) → (m ≡ n) ⊎ IsSome (heap m)
          → (0 < uses entered_kid m) ⊎ (IsSome (heap m) × (uses (kid_at place k) m ≤ uses entered_kid m))
      go m (inl e) = inl (omega (arith, counts_own e, added m, uses_nth i kids m))
      go m (inr used) = inr (used, omega (arith, added m, part m, unplaced_kid (kid_nth i kids) m unplaced))

      from : (m : ℕ) → IsSome (other m)
          → (0 < uses entered_kid m) ⊎ (IsSome (heap m) × (uses (kid_at place k) m ≤ uses entered_kid m))
      from m used =
          go m (used_entered def heap (child_node plan (node_along plan plan.root place k) tracker i) (record { 0 = top.slot })
          i n m (subst (λ (o : Option Node). IsSome o) (shows m) used))

  -- no place leaves its slot
  stay_entered : AllStayPut k (put_at place entered_kid k)
  stay_entered =
      stay_all place entered_kid k (stands_reach stands) (subst (λ (x : Kid). AllStayPut x entered_kid)
      (sym (top.is ∙ ap (λ (p : Plot). at top.slot false p) begun_now))
      (stay_all (i ∷ []) (at n false (child_plot def (kid_nth i kids))) (at top.slot false (begun_plot tracker kids)) (within, tt)
      (stay_unplaced (kid_nth i kids) (at n false (child_plot def (kid_nth i kids))) unplaced)))

  -- it isn't stored, and it was none of a base
  left : AreLeftRightly (kid_at place k) → AreLeftRightly entered_kid
  left all =
      let among : AreLeftAll tracker 0 kids
      = subst (λ (p : Plot). AreLeftIn p) begun_now (subst (λ (x : Kid). AreLeftRightly x) top.is all) in
      left_put_nth tracker 0 i i (at n false (child_plot def (kid_nth i kids))) kids (omega arith)
      (left_as tracker i (kid_nth i kids) (at n false (child_plot def (kid_nth i kids))) (λ h. refl)
      (λ h there. absurd (vacant h there)) (λ h there. there)) (child_left def (kid_nth i kids)) among

  stands_entered : Stands plan other (stack ++ n ∷ []) (place ++ i ∷ []) (put_at place entered_kid k)
  stands_entered =
      let longer : Stands plan heap stack (place ++ []) k
      = subst (λ (p : Place). Stands plan heap stack p k) (sym (append-nil place)) stands in
      stands_change other place [] (i ∷ []) longer (ap cell_of (sym top.is))
      (λ m h. elsewhere m (not_beside stands top m h) (omega arith)) replaces once (
        refl,
        stored_but i (λ below. LeadsUnstored [] below) (at n false (child_plot def (kid_nth i kids))) kids within (kids_stored stands top
            begun_now i within) (refl, closed_marked true (child_plot def (kid_nth i kids)) (child_closed def (kid_nth i kids))),
      ) (at_for_at top.slot (begun_plot tracker entered_kids) top.is) left (ap (λ (s : List ℕ). s ++ n ∷ []) top.last
      ∙ append_assoc (slots_above place k) (top.slot ∷ []) (n ∷ []) ∙ ap (λ (x : Kid). slots_above place
      k ++ top.slot ∷ slots_along [] x) (sym (nth_put i (at n false (child_plot def (kid_nth i kids))) kids within)))

  pub tree_entered : tree_of (put_at place entered_kid k) ≡ change_at place (change_child i (enter def)) (tree_of k)
  tree_entered =
      let before : tree_at place (tree_of k) ≡ begun tracker (trees_in kids)
      = sym (tree_of_at place k) ∙ ap tree_of top.is ∙ ap tree_in begun_now in
      tree_change_at place (change_child i (enter def)) entered_kid k (ap (λ (ts : Trees). begun tracker ts)
      (tree_put_nth i (at n false (child_plot def (kid_nth i kids))) (enter def) kids
      (child_tree_is def (kid_nth i kids) unplaced ∙ ap (enter def) (tree_of_nth i kids)))
      ∙ ap (change_child i (enter def)) (sym before))

  pub entered_so : IsEntered plan heap other stack n place i k (put_at place entered_kid k)
  entered_so = record { stands = stands_entered; all = all_entered; stay = stay_entered }

-- An open builder's child i is on top, and no place leaves its slot.
abbrev pub GoesTo : Plan → (before after : List Slot) → (stack next : List ℕ) → (i : ℕ) → (Tree → Tree) → Type 0
GoesTo plan before after stack next i change =
    IsOpenAt plan after next (cursor_in before stack ++ i ∷ []) (change_at (cursor_in before stack)
    change (tree_in_slots before stack)) × AllStayPut (kid_here before stack) (kid_here after next)

-- A child of an open builder's top that isn't stored is entered.
module _ {plan : Plan} {before : List Slot} {stack : List ℕ} (open_now : IsOpen plan before stack) {p : ℕ}
    (last : IsLast stack p) where
  pub open_entered : (after : List Slot) {next : List ℕ} (tracker : Tracker) (i : ℕ) (def : Def) (n : ℕ) {node : NodeId}
      → HasChild tracker i (tree_here before stack)
      → (is_map (tree_here before stack) ≡ true → child_tree i (tree_here before stack) ≡ hole)
      → node ≡ child_node plan (node_here plan before stack) tracker i
      → ((child : ℕ) → IsStoredChild (heap_of before) p i child → ⊥) → heap_of before n ≡ None
      → Shows after (with_entered def (heap_of before) node (child_owner p i) n)
      → depth_below (heap_of before) (child_owner p i) < depth_limit → next ≡ stack ++ n ∷ []
      → GoesTo plan before after stack next i (change_child i (enter def))
  open_entered after tracker i def n has map_hole is none free shows limit along =
      let place : Place = cursor_in before stack in
      let k : Kid = kid_shown (heap_of before) stack in
      let top = open_top open_now in
      let same : top.slot ≡ p = top_slot open_now last in
      let here : HasChild tracker i (tree_in top.plot)
      = subst (λ (t : Tree). HasChild tracker i t) (sym (tree_of_at place k) ∙ ap tree_of top.is) has in
      let found = plot_has tracker i top.plot here in
      let unplaced : IsUnplaced (cell_of (kid_nth i found.0)) = unplaced_child open_now.stands top found.1 i found.2
      (subst (λ (x : ℕ). (child : ℕ) → IsStoredChild (heap_of before) x i child → ⊥) (sym same) none) in
      let began : tree_here before stack ≡ begun tracker (trees_in found.0)
      = sym (tree_of_at place k) ∙ ap tree_of top.is ∙ ap tree_in found.1 in
      let vacant : is_map_tracker tracker ≡ true → IsThere (kid_nth i found.0) → ⊥
      = λ of_map there. hole_not_there (kid_nth i found.0)
      (tree_of_nth i found.0 ∙ ap (child_tree i) (sym began) ∙ map_hole (ap is_map began ∙ of_map)) there in
      let shown : (m : ℕ) → heap_of after m
      ≡ with_entered def (heap_of before) (child_node plan (node_along plan plan.root place k) tracker i)
      (child_owner top.slot i) n m
      = λ m. shows m ∙ ap (λ (x : NodeId). with_entered def (heap_of before) x (child_owner p i) n m) is
      ∙ ap (λ (x : ℕ). with_entered def (heap_of before)
      (child_node plan (node_along plan plan.root place k) tracker i) (child_owner x i) n m) (sym same) in
      let deep : depth_below (heap_of before) (child_owner top.slot i) < depth_limit
      = subst (λ (x : ℕ). depth_below (heap_of before) (child_owner x i) < depth_limit) (sym same) limit in
      let now : Kid = put_at
      place (entered_kid (heap_of after) open_now.stands top found.1 i found.2 unplaced vacant def n free shown deep) k in
      let so : IsEntered plan (heap_of before) (heap_of after) stack n place i k now
      = entered_so (heap_of after) open_now.stands top found.1 i found.2 unplaced vacant def n free shown deep in
      subst (λ (s : List ℕ). GoesTo plan before after stack s i (change_child i (enter def))) (sym along) (
        open_at_from after {k = now} so.stands (so.all open_now.all)
            (tree_entered (heap_of after) open_now.stands top found.1 i found.2 unplaced vacant def n free shown deep),
        stay_shown after {k = now} k so.stands so.stay,
      )
