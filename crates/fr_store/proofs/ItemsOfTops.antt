-- Laws of items, for proofs: the top has one more child behind the others, which gets a slot and is on top then.
use Rattle.std.proofs.Common.{◌≡◌, ◌≢◌, ℕ, zero, suc, ◌+◌, ◌<◌, true, false, List, [], ◌∷◌, ◌++◌, Option, Some, None, refl, sym, ◌∙◌, ap, subst, arith}
use Rattle.fr_store.specs.Common.{AllMarkedAmong, AllServe, AllStayPut, AreLeftAll, Body, Cell, Def, EntriesKind, FrameOwner, HasTracker, Heap, HoldsAll, IfInUse, IsLast, IsOpen, IsPlaced, IsThere, IsUnplaced, ItemsKind, KeepsChildren, Kid, Kids, MayHave, Node, NodeId, Place, Plan, Plot, Reaches, SameMarks, Shows, Slot, Stands, TakesItems, Top, Tracker, Tree, Trees, absent, added, added_entry, all_kept, and_last, as_entries, as_items, at, begun, begun_body, begun_plot, body_here, body_in, body_other, branch, cell_of, cells_count, cells_in, change_at, child_node, child_owner, count_below, count_here, count_in, count_kids, cursor_in, depth_above, depth_below, depth_limit, entry_next, fresh, fresh_plot, fresh_tree, gone, heap_of, hole, is_map, is_map_tracker, item_owner, kid, kid_at, kid_here, kid_nth, kid_put_at, left_gone, marked_body, marked_entered, no_kids, node_along, node_here, open_at_from, open_reach, open_top, put_at, put_at_twice, put_nth, slot_here, so_top, stored_in, top_found, top_of, top_slot, top_so, top_stands_in, tree_change_at, tree_here, tree_in, tree_of, tree_of_at, trees_in, used_mapped, uses, uses_among, with_body, with_entered, with_item_of, with_key_of}
use Rattle.fr_store.specs.MoveLaws.{top_node}
use Rattle.fr_store.proofs.ChildrenOfTops.{plot_formed}
use Rattle.fr_store.proofs.EnteringLaws.{GoesTo, IsEntered, child_plot, entered_kid, entered_so}
use Rattle.fr_store.proofs.PlacesBeside.{stay_all, stay_shown}

-- One child more.

abbrev pub kids_and_last : Kids → (last : Kid) → Kids
kids_and_last no_kids last = kid last no_kids
kids_and_last (kid k ks) last = kid k (kids_and_last ks last)

pub count_and_last : (ks : Kids) (last : Kid) → count_kids (kids_and_last ks last) ≡ suc (count_kids ks)
count_and_last no_kids last = refl
count_and_last (kid k ks) last = ap suc (count_and_last ks last)

pub cells_and_last : (ks : Kids) → cells_in (kids_and_last ks gone) ≡ cells_in ks ++ absent ∷ []
cells_and_last no_kids = refl
cells_and_last (kid k ks) = ap (λ (cs : List Cell). cell_of k ∷ cs) (cells_and_last ks)

pub trees_and_last : (ks : Kids) (last : Kid) → trees_in (kids_and_last ks last) ≡ and_last (trees_in ks) (tree_of last)
trees_and_last no_kids last = refl
trees_and_last (kid k ks) last = ap (λ (ts : Trees). branch (tree_of k) ts) (trees_and_last ks last)

pub nth_last : (ks : Kids) (last : Kid) → kid_nth (count_kids ks) (kids_and_last ks last) ≡ last
nth_last no_kids last = refl
nth_last (kid k ks) last = nth_last ks last

nth_before : (i : ℕ) (ks : Kids) (last : Kid) → i < count_kids ks → kid_nth i (kids_and_last ks last) ≡ kid_nth i ks
nth_before i no_kids last h = absurd (omega arith)
nth_before zero (kid k ks) last h = refl
nth_before (suc i) (kid k ks) last h = nth_before i ks last (omega arith)

pub put_last : (ks : Kids) (old new : Kid) → put_nth (count_kids ks) new (kids_and_last ks old) ≡ kids_and_last ks new
put_last no_kids old new = refl
put_last (kid k ks) old new = ap (λ (xs : Kids). kid k xs) (put_last ks old new)

-- while it isn't there, it has no slots
pub uses_and_last : (ks : Kids) (n : ℕ) → uses_among (kids_and_last ks gone) n ≡ uses_among ks n
uses_and_last no_kids n = refl
uses_and_last (kid k ks) n = ap (λ (m : ℕ). uses k n + m) (uses_and_last ks n)

pub marked_and_last : (ks : Kids) → AllMarkedAmong true ks → AllMarkedAmong true (kids_and_last ks gone)
marked_and_last no_kids all = (tt, tt)
marked_and_last (kid k ks) all = (all.0, marked_and_last ks all.1)

pub holds_and_last : (plan : Plan) (heap : Heap) (node : NodeId) (slot : ℕ) (tracker : Tracker) (i depth : ℕ) (ks : Kids)
    → ((count : ℕ) → MayHave tracker count) → HoldsAll plan heap node slot tracker i depth ks
    → HoldsAll plan heap node slot tracker i depth (kids_and_last ks gone)
holds_and_last plan heap node slot tracker i depth no_kids may holds = (tt, may (suc i))
holds_and_last plan heap node slot tracker i depth (kid k ks) may holds =
    (holds.0, holds_and_last plan heap node slot tracker (suc i) depth ks may holds.1)

-- Forms that take items.

items_may_have : (tracker : Tracker) (count : ℕ) → TakesItems tracker → MayHave tracker count
items_may_have (as_items ItemsKind.List) count takes = tt
items_may_have (as_items ItemsKind.Slice) count takes = tt
items_may_have (as_items ItemsKind.Set) count takes = tt
items_may_have (as_items ItemsKind.Array) count takes = tt
items_may_have _ count takes = absurd takes

pub left_and_last : (tracker : Tracker) (i : ℕ) (ks : Kids) → AreLeftAll tracker i ks → AreLeftAll tracker i (kids_and_last ks gone)
left_and_last tracker i no_kids all = (left_gone tracker i all, tt, omega (arith, all, entry_next i))
left_and_last tracker i (kid k ks) all = (all.0, all.1, left_and_last tracker (suc i) ks all.2)

pub grown_stay : (slot : ℕ) (tracker made : Tracker) (kids : Kids)
    → AllStayPut (at slot false (begun_plot tracker kids)) (at slot false (begun_plot made (kids_and_last kids gone)))
grown_stay slot tracker made kids [] placed = (record { reaches = tt; here = tt }, refl)
grown_stay slot tracker made kids (i ∷ place) placed =
    let same = nth_before i kids gone placed.reaches.0 in
    let below = subst (λ (x : Kid). IsPlaced x place) (sym same) (record { reaches = placed.reaches.1; here = placed.here }) in (
      record { reaches = (omega (arith, placed.reaches.0, count_and_last kids gone), below.reaches); here = below.here },
      ap (λ (x : Kid). slot_here (kid_at place x)) same,
    )

-- So a place grows: behind its children come others that aren't there yet, if any do, and child i is then entered, which isn't in a
-- slot. It may be begun otherwise then.
pub record Grows (tracker made : Tracker) (kids more : Kids) (i : ℕ) (change : Body → Body) (with_new : Def → Tree → Tree) : Type 1 where
  pub body : begun_body made (cells_in more) ≡ change (begun_body tracker (cells_in kids))
  pub keeps : KeepsChildren (begun_plot tracker kids) (begun_plot made more)
  pub stay : (slot : ℕ) → AllStayPut (at slot false (begun_plot tracker kids)) (at slot false (begun_plot made more))
  pub used : (n : ℕ) → uses_among more n ≡ uses_among kids n
  pub within : i < count_kids more
  pub unplaced : IsUnplaced (cell_of (kid_nth i more))
  pub vacant : is_map_tracker made ≡ true → IsThere (kid_nth i more) → ⊥
  pub tree : (n : ℕ) (def : Def) → begun made (trees_in (put_nth i (at n false (child_plot def (kid_nth i more))) more))
      ≡ with_new def (begun tracker (trees_in kids))

-- a child that isn't there
pub gone_unplaced : {k : Kid} → k ≡ gone → IsUnplaced (cell_of k)
gone_unplaced e = subst (λ (x : Kid). IsUnplaced (cell_of x)) (sym e) tt

pub gone_vacant : {k : Kid} → k ≡ gone → IsThere k → ⊥
gone_vacant e is_there = subst IsThere e is_there

-- gets what is fresh
pub tree_vacant : (tracker : Tracker) (i : ℕ) (ks : Kids) (n : ℕ) (def : Def) → kid_nth i ks ≡ gone
    → begun tracker (trees_in (put_nth i (at n false (child_plot def (kid_nth i ks))) ks))
    ≡ begun tracker (trees_in (put_nth i (at n false (fresh_plot def)) ks))
tree_vacant tracker i ks n def e = ap (λ (x : Kid). begun tracker (trees_in (put_nth i (at n false (child_plot def x)) ks))) e

-- one child more, which isn't there yet
pub last_grows : (tracker made : Tracker) (kids : Kids) {change : Body → Body} {with_new : Def → Tree → Tree}
    → begun_body made (cells_in kids ++ absent ∷ []) ≡ change (begun_body tracker (cells_in kids))
    → ((count : ℕ) → MayHave made count)
    → ((plan : Plan) (heap : Heap) (node : NodeId) (slot depth : ℕ) → HoldsAll plan heap node slot tracker 0 depth kids
    → HoldsAll plan heap node slot made 0 depth kids) → (AreLeftAll tracker 0 kids → AreLeftAll made 0 kids)
    → ((def : Def) → begun made (and_last (trees_in kids) (fresh def)) ≡ with_new def (begun tracker (trees_in kids)))
    → Grows tracker made kids (kids_and_last kids gone) (count_kids kids) change with_new
last_grows tracker made kids body may holds left tree = record {
  body = ap (begun_body made) (cells_and_last kids) ∙ body;
  keeps = record {
    marked = λ h. marked_and_last kids h;
    once = λ n. omega (arith, uses_and_last kids n);
    holds = λ plan heap node slot depth h.
        holds_and_last plan heap node slot made 0 depth kids may (holds plan heap node slot depth h);
    left = λ h. left_and_last made 0 kids (left h);
  };
  stay = λ slot. grown_stay slot tracker made kids;
  used = uses_and_last kids;
  within = omega (arith, count_and_last kids gone);
  unplaced = gone_unplaced (nth_last kids gone);
  vacant = λ of_map. gone_vacant (nth_last kids gone);
  tree = λ n def. tree_vacant made (count_kids kids) (kids_and_last kids gone) n def (nth_last kids gone)
      ∙ ap (λ (ks : Kids). begun made (trees_in ks)) (put_last kids gone (at n false (fresh_plot def)))
      ∙ ap (begun made) (trees_and_last kids (at n false (fresh_plot def)))
      ∙ ap (λ (t : Tree). begun made (and_last (trees_in kids) t)) (fresh_tree def) ∙ tree def;
}

-- one item
pub items_grow : (tracker : Tracker) (kids : Kids) → TakesItems tracker
    → Grows tracker tracker kids (kids_and_last kids gone) (count_kids kids) added with_item_of
items_grow tracker kids takes =
    last_grows tracker tracker kids refl (λ count. items_may_have tracker count takes) (λ plan heap node slot depth h. h) (λ h. h)
    (λ def. refl)

-- one entry: its key, and its value, which isn't there yet
put_key : (ks : Kids) (old new : Kid)
    → put_nth (count_kids ks) new (kids_and_last (kids_and_last ks old) gone) ≡ kids_and_last (kids_and_last ks new) gone
put_key no_kids old new = refl
put_key (kid k ks) old new = ap (λ (xs : Kids). kid k xs) (put_key ks old new)

two_cells : (ks : Kids) → cells_in (kids_and_last (kids_and_last ks gone) gone) ≡ cells_in ks ++ absent ∷ absent ∷ []
two_cells no_kids = refl
two_cells (kid k ks) = ap (λ (cs : List Cell). cell_of k ∷ cs) (two_cells ks)

two_stay : (slot : ℕ) (tracker : Tracker) (kids : Kids)
    → AllStayPut (at slot false (begun_plot tracker kids)) (at slot false (begun_plot tracker (kids_and_last (kids_and_last kids gone) gone)))
two_stay slot tracker kids place placed =
    let one = grown_stay slot tracker tracker kids place placed in
    let two = grown_stay slot tracker tracker (kids_and_last kids gone) place one.0 in
    (two.0, two.1 ∙ one.1)

nth_key : (kids : Kids) → kid_nth (count_kids kids) (kids_and_last (kids_and_last kids gone) gone) ≡ gone
nth_key kids =
    nth_before (count_kids kids) (kids_and_last kids gone) gone (omega (arith, count_and_last kids gone)) ∙ nth_last kids gone

pub entries_grow : (base : ℕ) (kids : Kids)
    → Grows (as_entries (EntriesKind.Map base)) (as_entries (EntriesKind.Map base)) kids (kids_and_last (kids_and_last kids gone) gone) (count_kids kids) added_entry with_key_of
entries_grow base kids = record {
  body = ap (begun_body (as_entries (EntriesKind.Map base))) (two_cells kids);
  keeps = record {
    marked = λ h. marked_and_last (kids_and_last kids gone) (marked_and_last kids h);
    once = λ n. omega (arith, uses_and_last kids n, uses_and_last (kids_and_last kids gone) n);
    holds = λ plan heap node slot depth h.
        holds_and_last plan heap node slot (as_entries (EntriesKind.Map base)) 0 depth (kids_and_last kids gone) (λ count. tt)
        (holds_and_last plan heap node slot (as_entries (EntriesKind.Map base)) 0 depth kids (λ count. tt) h);
    left = λ h.
        left_and_last (as_entries (EntriesKind.Map base)) 0 (kids_and_last kids gone) (left_and_last (as_entries (EntriesKind.Map base)) 0 kids h);
  };
  stay = λ slot. two_stay slot (as_entries (EntriesKind.Map base)) kids;
  used = λ n. omega (arith, uses_and_last kids n, uses_and_last (kids_and_last kids gone) n);
  within = omega (arith, count_and_last kids gone, count_and_last (kids_and_last kids gone) gone);
  unplaced = gone_unplaced (nth_key kids);
  vacant = λ of_map. gone_vacant (nth_key kids);
  tree = λ n def.
      tree_vacant (as_entries (EntriesKind.Map base)) (count_kids kids) (kids_and_last (kids_and_last kids gone) gone) n def (nth_key kids)
      ∙ ap (λ (ks : Kids). begun (as_entries (EntriesKind.Map base)) (trees_in ks)) (put_key kids gone (at n false (fresh_plot def)))
      ∙ ap (begun (as_entries (EntriesKind.Map base))) (trees_and_last (kids_and_last kids (at n false (fresh_plot def))) gone)
      ∙ ap (λ (ts : Trees). begun (as_entries (EntriesKind.Map base)) (and_last ts hole)) (trees_and_last kids (at n false (fresh_plot def)))
      ∙ ap (λ (t : Tree). begun (as_entries (EntriesKind.Map base)) (and_last (and_last (trees_in kids) t) hole)) (fresh_tree def);
}

-- An open builder's top grows.
module _ {plan : Plan} {before : List Slot} {stack : List ℕ} (open_now : IsOpen plan before stack) {p : ℕ} (last : IsLast stack p)
    {tracker made : Tracker} {kids more : Kids} {i : ℕ} (begun_now : (open_top open_now).plot ≡ begun_plot tracker kids)
    {change : Body → Body} {with_new : Def → Tree → Tree} (grows : Grows tracker made kids more i change with_new) where
  abbrev k : Kid
  k = kid_here before stack

  abbrev place : Place
  place = cursor_in before stack

  abbrev top : Top plan (heap_of before) stack (cursor_in before stack) (kid_here before stack)
  top = open_top open_now

  -- with more children, which aren't there yet
  abbrev grown : Heap
  grown = with_body (heap_of before) p change

  abbrev new : Kid
  new = at top.slot false (begun_plot made more)

  abbrev first : Kid
  first = put_at place new k

  reach : Reaches place k
  reach = open_reach open_now

  was : kid_at place k ≡ at top.slot false (begun_plot tracker kids)
  was = top.is ∙ ap (λ (plot : Plot). at top.slot false plot) begun_now

  grown_body : begun_body made (cells_in more) ≡ change (body_in top.plot)
  grown_body = grows.body ∙ ap (λ (plot : Plot). change (body_in plot)) (sym begun_now)

  stands_grown : Stands plan grown stack place first
  stands_grown =
      top_stands_in grown open_now last change grown_body
      (subst (λ (plot : Plot). KeepsChildren plot (begun_plot made more)) (sym begun_now) grows.keeps) (λ m. refl)

  stay_grown : AllStayPut k first
  stay_grown =
      stay_all place new k reach (subst (λ (x : Kid). AllStayPut x new) (sym was) (grows.stay top.slot))

  -- each slot in use is still that of a place
  all_grown : AllServe grown first
  all_grown =
      all_kept (heap_of before) grown place new k reach open_now.all
      (λ m used. used_mapped (heap_of before) p (λ (x : Node). record x { body = change x.body }) m used) (λ m.
      let same : uses (kid_at place k) m ≡ uses (at top.slot false (begun_plot tracker kids)) m = ap (λ (x : Kid). uses x m) was in
      omega (arith, same, grows.used m))

  -- what is on top of that
  abbrev now : Top plan grown stack place first
  now = top_of stands_grown

  now_is : new ≡ at now.slot false now.plot
  now_is = sym (kid_put_at place new k reach) ∙ now.is

  slot_same : now.slot ≡ top.slot
  slot_same = let is = now_is in cc

  plot_same : now.plot ≡ begun_plot made more
  plot_same = let is = now_is in cc

  slot_is : now.slot ≡ p
  slot_is = slot_same ∙ top_slot open_now last

  same_node : node_along plan plan.root place first ≡ node_along plan plan.root place k
  unfolding top_node
  same_node =
      ap (λ (found : Option Node). node_of found)
      (sym now.here ∙ ap grown slot_is ∙ body_here (heap_of before) p change (top_found open_now last))
    where
      node_of : Option Node → NodeId
      node_of (Some found) = found.node
      node_of None = plan.root

  module _ (owner_of : Body → FrameOwner) (owner_is : owner_of (begun_body tracker (cells_in kids)) ≡ child_owner p i)
      (after : List Slot) {next : List ℕ} (def : Def) (n : ℕ) {node : NodeId} (is : node ≡ child_node plan (node_along
      plan plan.root place k) made i) (vacant : heap_of before n ≡ None) (shows : IfInUse before p (λ (found : Node). Shows
      after (with_entered def (with_body (heap_of before) p change) node (owner_of found.body) n))) (limit : IfInUse before p
      (λ (found : Node). depth_below (heap_of before) (owner_of found.body) < depth_limit)) (along : next ≡ stack ++ n ∷ []) where
    apart : n ≢ p
    apart e = let wrong = sym vacant ∙ ap (heap_of before) e ∙ top_found open_now last in cc

    free : grown n ≡ None
    free = body_other (heap_of before) p change n apart ∙ vacant

    -- whose child it is
    owner_here : owner_of (body_in top.plot) ≡ child_owner p i
    owner_here = ap (λ (plot : Plot). owner_of (body_in plot)) begun_now ∙ owner_is

    owner_same : owner_of (body_in top.plot) ≡ child_owner now.slot i
    owner_same = owner_here ∙ ap (λ (m : ℕ). child_owner m i) (sym slot_is)

    shown : (m : ℕ) → heap_of after m ≡ with_entered def grown (child_node plan (node_along plan plan.root place first) made i)
        (child_owner now.slot i) n m
    unfolding top_node
    shown m =
        top_so open_now last (λ (found : Node). Shows after (with_entered def grown node (owner_of found.body) n)) shows m
        ∙ ap (λ (o : FrameOwner). with_entered def grown node o n m) owner_same ∙ ap (λ (x : NodeId). with_entered def grown
        x (child_owner now.slot i) n m) (is ∙ ap (λ (x : NodeId). child_node plan x made i) (sym same_node))

    deep : depth_below grown (child_owner now.slot i) < depth_limit
    unfolding top_node
    deep =
        let was : depth_above (heap_of before p) < depth_limit
        = subst (λ (o : FrameOwner). depth_below (heap_of before) o < depth_limit) owner_here
        (top_so open_now last (λ (found : Node). depth_below (heap_of before) (owner_of found.body) < depth_limit) limit) in
        subst (λ (d : ℕ). d < depth_limit) (ap depth_above (top_found open_now last) ∙ sym (ap depth_above now.here)) was

    abbrev item : Kid
    item = entered_kid (heap_of after) stands_grown now plot_same i grows.within grows.unplaced grows.vacant def n free shown deep

    abbrev second : Kid
    second = put_at place item first

    so : IsEntered plan grown (heap_of after) stack n place i first second
    so = entered_so (heap_of after) stands_grown now plot_same i grows.within grows.unplaced grows.vacant def n free shown deep

    tree_second : tree_of second ≡ change_at place (with_new def) (tree_of k)
    tree_second =
        ap tree_of (put_at_twice place new item k reach) ∙ tree_change_at place (with_new def) item k
        (grows.tree n def ∙ ap (with_new def) (ap tree_of (sym was) ∙ tree_of_at place k))

    stay_second : AllStayPut k second
    stay_second way placed =
        let one = stay_grown way placed in
        let two = so.stay way one.0 in
        (two.0, two.1 ∙ one.1)

    -- none is stored that wasn't, nor taken out of the store
    pub item_enters : GoesTo plan before after stack next i (with_new def) × SameMarks before after
    item_enters = (
      subst (λ (s : List ℕ). GoesTo plan before after stack s i (with_new def)) (sym along)
          (open_at_from after so.stands (so.all all_grown) tree_second, stay_shown after k so.stands stay_second),
      λ m. ap stored_in (shown m) ∙ marked_entered def grown (child_node plan (node_along plan plan.root place first) made i)
          (child_owner now.slot i) n m free ∙ marked_body (heap_of before) p change m,
    )

-- The same, as the calls say it, of a place that is begun so.
module _ {plan : Plan} {before : List Slot} {stack : List ℕ} (open_now : IsOpen plan before stack) {p : ℕ} (last : IsLast stack p)
    (tracker : Tracker) (has : HasTracker tracker (tree_here before stack)) where
  pub formed : (kids : Kids) × ((open_top open_now).plot ≡ begun_plot tracker kids)
  formed =
      let top = open_top open_now in
      plot_formed tracker top.plot
      (subst (λ (t : Tree). HasTracker tracker t) (sym (tree_of_at (cursor_in before stack) (kid_here before stack)) ∙ ap tree_of top.is) has)

  pub counted : count_here before stack ≡ count_kids formed.0
  counted =
      let top = open_top open_now in
      ap count_below (sym (tree_of_at (cursor_in before stack) (kid_here before stack)) ∙ ap tree_of top.is ∙ ap tree_in formed.1)
      ∙ count_in formed.0

  pub formed_here : (So : Body → Type 0) → So (begun_body tracker (cells_in formed.0)) → IfInUse before p (λ (found : Node). So found.body)
  unfolding top_node
  formed_here So so =
      so_top open_now last (λ (found : Node). So found.body) (subst (λ (plot : Plot). So (body_in plot)) (sym formed.1) so)

  module _ {more : Kids} {change : Body → Body} {with_new : Def → Tree → Tree} (grows : Grows tracker tracker formed.0 more
      (count_kids formed.0) change with_new) (after : List Slot) {next : List ℕ} (def : Def)
      (n : ℕ) {node : NodeId} (is : node ≡ child_node plan (node_here plan before stack) tracker (count_here before stack))
      (vacant : heap_of before n ≡ None) (shows : IfInUse before p (λ (found : Node). Shows after (with_entered def
      (with_body (heap_of before) p change) node (item_owner p found.body) n))) (limit : IfInUse before p (λ (found : Node).
      depth_below (heap_of before) (item_owner p found.body) < depth_limit)) (along : next ≡ stack ++ n ∷ []) where
    owner_is : item_owner p (begun_body tracker (cells_in formed.0)) ≡ child_owner p (count_kids formed.0)
    owner_is = ap (child_owner p) (cells_count formed.0)

    numbered : node ≡ child_node plan (node_here plan before stack) tracker (count_kids formed.0)
    numbered = is ∙ ap (child_node plan (node_here plan before stack) tracker) counted

    pub child_enters : GoesTo plan before after stack next (count_here before stack) (with_new def) × SameMarks before after
    child_enters =
        subst (λ (count : ℕ). GoesTo plan before after stack next count (with_new def) × SameMarks before after) (sym counted)
        (item_enters open_now last formed.1 grows (item_owner p) owner_is after def n numbered vacant shows limit along)

-- a map is begun over as many entries as it had
pub map_tracker : (t : Tree) → is_map t ≡ true → (base : ℕ) × HasTracker (as_entries (EntriesKind.Map base)) t
map_tracker (begun tracker ts) of_map = go tracker of_map
  where
    go : (tracker : Tracker) → is_map_tracker tracker ≡ true → (base : ℕ) × (tracker ≡ as_entries (EntriesKind.Map base))
    go (as_entries (EntriesKind.Map base)) of_map = (base, refl)
    go (as_entries (EntriesKind.Object keys)) of_map = absurd (cc)
    go _ of_map = absurd (cc)
map_tracker _ of_map = absurd (cc)
