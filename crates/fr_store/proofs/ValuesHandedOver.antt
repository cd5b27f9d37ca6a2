-- Laws of handing over the value of the place on top, for proofs: it goes up to the place above or to the set above, whose other children
-- stay as they are, or it stays where it is.
use Rattle.std.proofs.Common.{◌≡◌, ◌≢◌, ◌⊎◌, ℕ, suc, ◌+◌, ◌<◌, ◌≤◌, true, false, List, [], ◌∷◌, ◌++◌, append-nil, length, nat_eq, option_map, Option, Some, None, Result, Ok, Err, OnOk, OnErr, inl, inr, refl, sym, ◌∙◌, ap, subst, arith, Bool, if◌then◌else◌}
use Rattle.fr_store.specs.Common.{AgreeBeside, AllMarkedIn, AllServe, AllStayPut, AreLeftAll, AreLeftIn, AreLeftRightly, AreUnplaced, AtTop, Body, Cell, FrameOwner, Heap, Holds, HoldsAll, HoldsIn, IfInUse, IsClosed, IsItemOf, IsLast, IsLeftBy, IsOpen, IsOpenAt, IsPlaced, IsSetBody, IsSome, IsSomeAnd, ItemsKind, KeepsChildren, Kid, Kids, LeadsUnstored, MayHandOver, MayHave, Node, NodeId, Place, Plan, Plot, Reaches, Replaces, Room, SameMarks, Shows, Slot, Stands, StayPutAs, StayPutBut, Taker, Top, Tracker, Tree, Trees, Val, above_append, all_kept_but, and_item, and_item_cell, as_items, at, at_for_at, begun, begun_body, begun_plot, below_root, body_here, body_in, body_occurs, body_other, cell_at, cell_of, cells_in, cells_nth, change_at, child_owner, closed_uses, count_kids, counts_if, counts_other, counts_own, counts_same, cursor_in, given, gone, heap_of, held_by, holds_at, holds_put_nth, is_begun_conversion, is_conversion, is_root, is_set, is_some, keeps_closed, kid_at, kid_here, kid_is, kid_nth, leads_reach, left_at, left_put_nth, left_value, marked, marked_body, may_have_at, may_have_put, node_along, number_in, open_reach, open_top, option_and_then, owner_along, owner_append, owner_below, place_then, placed, put_append, put_at, put_below, put_nth, put_nth_twice, same_front, same_last, same_or_other, slot_at, slot_other, slots_above, so_top, stands_change, stands_reach, stored_in, there, tokens_here, top_found, top_of, top_stands, tree_at, tree_change_at, tree_in_slots, tree_of, tree_of_at, tree_put_at, tree_then, unlinked, unlinked_child, up, up_append, used_mapped, uses, uses_among, uses_at, uses_in, uses_nth, uses_put_nth, value_of, whole_body, whole_plot, with_body, with_cell, with_child, with_ended, with_ended_item, with_slot, within_put, without}
use Rattle.fr_frame.specs.Handing.{handed, unhanded, MayTake}
use Rattle.fr_store.specs.HereLaws.{value_closed}
use Rattle.fr_store.specs.MoveLaws.{open_at_from, top_changed, top_node, top_room, top_so}
use Rattle.fr_store.specs.TopLaws.{asked_same, loses_none, slot_here, unplaced_holds, unplaced_marked, unplaced_uses}
use Rattle.fr_store.proofs.SetKidLaws.{cells_item, cells_without, kids_and_item, kids_without, only_placed, others_unplaced, set_tracker, set_left, trees_item, trees_without, unplaced_item, unplaced_without}
use Rattle.fr_store.proofs.PlacesBeside.{closed_below, stay_all, stay_at, stay_but, stay_shown}
use Rattle.fr_store.proofs.StoreLaws.{Parent, all_stored, parent_of}

number_append : (above : Place) (i : ℕ) → number_in (above ++ i ∷ []) ≡ i
number_append [] i = refl
number_append (j ∷ []) i = refl
number_append (j ∷ m ∷ above) i = number_append (m ∷ above) i

-- what stands in one slot is changed twice
body_twice : (heap : Heap) (n : ℕ) (first second : Body → Body) (m : ℕ)
    → with_body (with_body heap n first) n second m ≡ with_body heap n (λ body. second (first body)) m
body_twice heap n first second m =
    ap (λ (x : Option Node). with_slot (with_body heap n first) n (option_map (λ (y : Node). record y { body = second y.body }) x)
    m) (slot_here heap n (option_map (λ (x : Node). record x { body = first x.body }) (heap n)))
    ∙ once (nat_eq m n) (heap n) (heap m)
  where
    once : (b : Bool) (found other : Option Node) → (if b then option_map (λ (x : Node). record x { body = second x.body })
        (option_map (λ (x : Node). record x { body = first x.body }) found)
        else if b then option_map (λ (x : Node). record x { body = first x.body }) found else other) ≡ (if b then option_map
        (λ (x : Node). record x { body = second (first x.body) }) found else other)
    once true (Some x) other = refl
    once true None other = refl
    once false found other = refl

-- The child of this number of a place is on top, in slot n, and the stack goes on without it.
pub record Ending : Type 0 where
  pub plan : Plan
  pub heap : Heap
  pub stack : List ℕ
  pub above : Place
  pub i : ℕ
  pub kid : Kid
  pub stands : Stands plan heap stack (above ++ i ∷ []) kid
  pub next : List ℕ
  pub n : ℕ
  pub last : stack ≡ next ++ n ∷ []

module _ (e : Ending) where
  pub top : Top e.plan e.heap e.stack (e.above ++ e.i ∷ []) e.kid
  top = top_of e.stands

  -- the place above
  pub found : Parent e.above e.i e.kid
  found = parent_of e.above e.i e.kid e.stands.leads

  pub reach : Reaches e.above e.kid
  reach = leads_reach e.above (e.i ∷ []) e.kid e.stands.leads

  pub child : kid_nth e.i found.kids ≡ at top.slot false top.plot
  child = sym found.child ∙ top.is

  pub slot_now : top.slot ≡ e.n
  slot_now = same_last (slots_above (e.above ++ e.i ∷ []) e.kid) e.next top.slot e.n (sym top.last ∙ e.last)

  pub above_holds : Holds e.plan e.heap (node_along e.plan e.plan.root e.above e.kid) (owner_along FrameOwner.Root e.above e.kid)
      (0 + length e.above) (at found.slot false (begun_plot found.tracker found.kids))
  above_holds =
      subst (λ (x : Kid). Holds e.plan e.heap (node_along e.plan e.plan.root e.above e.kid)
      (owner_along FrameOwner.Root e.above e.kid) (0 + length e.above) x)
      found.is (holds_at e.plan e.heap e.plan.root FrameOwner.Root 0 e.above e.kid e.stands.holds reach)

  -- what is in the top's slot
  abbrev pub node_now : Node
  node_now = record {
    node = node_along e.plan e.plan.root (e.above ++ e.i ∷ []) e.kid;
    owner = child_owner found.slot e.i;
    stored = false;
    depth = length (e.above ++ e.i ∷ []);
    body = body_in top.plot;
  }

  pub top_is : e.heap e.n ≡ Some node_now
  top_is =
      ap e.heap (sym slot_now) ∙ top.here
      ∙ ap (λ (o : FrameOwner). Some (record node_now { owner = o })) (owner_append FrameOwner.Root e.above e.i e.kid
      ∙ ap (λ (x : Kid). owner_below (owner_along FrameOwner.Root e.above e.kid) e.i x) found.is)

  -- the place above has it there
  owned : held_by e.heap (child_owner found.slot e.i) ≡ Some (placed e.n)
  owned =
      ap (option_and_then (λ (x : Node). cell_at x.body e.i)) above_holds.0 ∙ cells_nth e.i found.kids found.within
      ∙ ap (λ (x : Kid). Some (cell_of x)) child ∙ ap (λ (m : ℕ). Some (placed m)) slot_now

  -- all slots once the top's is free, with something else put at the place above
  abbrev pub heap_then : (Body → Body) → Heap
  heap_then change = with_body (with_slot e.heap e.n None) found.slot change

  -- none is stored that wasn't, nor taken out of the store
  same_marks : (change : Body → Body) (m : ℕ) → marked (heap_then change) m ≡ marked e.heap m
  same_marks change m =
      marked_body (with_slot e.heap e.n None) found.slot change m
      ∙ asked_same stored_in e.heap e.n None (sym (ap stored_in top_is)) m

  -- Slots, where no child of the top is in one.
  module _ (shut : IsClosed (body_in top.plot)) where
    part : (m : ℕ) → uses (kid_at e.above e.kid) m ≡ counts_if (nat_eq found.slot m) + uses_among found.kids m
    part m = ap (λ (x : Kid). uses x m) found.is

    pub child_uses : (m : ℕ) → uses (kid_nth e.i found.kids) m ≡ counts_if (nat_eq e.n m)
    child_uses m =
        let is : uses (kid_nth e.i found.kids) m ≡ counts_if (nat_eq top.slot m) + uses_in top.plot m
        = ap (λ (x : Kid). uses x m) child in
        let to : counts_if (nat_eq top.slot m) ≡ counts_if (nat_eq e.n m) = ap (λ (x : ℕ). counts_if (nat_eq x m)) slot_now in
        omega (arith, is, to, closed_uses top.plot m shut)

    -- those that serve beside the top aren't that of the place above, nor is the top's
    beside_above : (m : ℕ) → 0 < uses_among found.kids m → m ≢ found.slot
    beside_above m h f = absurd (omega (arith, part m, counts_own f, uses_at e.above e.kid m, e.stands.once m))

    apart : e.n ≢ found.slot
    apart = beside_above e.n (omega (arith, uses_nth e.i found.kids e.n, child_uses e.n, counts_same e.n))

    -- and those that serve beside it in the place above aren't the top's
    beside_top : (m : ℕ) → uses (kid_nth e.i found.kids) m < uses_among found.kids m → m ≢ e.n
    beside_top m h f = absurd (omega (arith, part m, child_uses m, counts_own f, uses_at e.above e.kid m, e.stands.once m))

-- What becomes of the place above: this is put there, its children are in the slots in which they were, and the top's serves no more.
pub record Outcome (e : Ending) (new : Plot) (change : Body → Body) : Type 0 where
  pub cells : change (begun_body (found e).tracker (cells_in (found e).kids)) ≡ body_in new
  pub fewer : (m : ℕ) → uses_in new m + counts_if (nat_eq e.n m) ≡ uses_among (found e).kids m
  pub holds : (other : Heap) → ((m : ℕ) → m ≢ (found e).slot → m ≢ e.n → other m ≡ e.heap m) → (node : NodeId) (depth : ℕ)
      → HoldsAll e.plan e.heap node (found e).slot (found e).tracker 0 depth (found e).kids
      → HoldsIn e.plan other node (found e).slot depth new
  pub left : AreLeftAll (found e).tracker 0 (found e).kids → AreLeftIn new
  pub marks : AllMarkedIn true new

-- the tree's places then
abbrev pub kid_then : Ending → Plot → Kid
kid_then e new = put_at e.above (at (found e).slot false new) e.kid

module _ {e : Ending} {new : Plot} {change : Body → Body} (out : Outcome e new change) (shut : IsClosed (body_in (top e).plot))
    (other : Heap) (shows : (m : ℕ) → other m ≡ heap_then e change m) where
  abbrev new_kid : Kid
  new_kid = at (found e).slot false new

  elsewhere : (m : ℕ) → m ≢ (found e).slot → m ≢ e.n → other m ≡ e.heap m
  elsewhere m a b =
      shows m ∙ body_other (with_slot e.heap e.n None) (found e).slot change m a ∙ slot_other e.heap e.n None m b

  agree : AgreeBeside e.heap other e.kid (kid_at e.above e.kid)
  agree m h = elsewhere m (λ f. absurd (omega (arith, part e shut m, counts_own f, e.stands.once m))) (λ f. absurd (omega (
    arith,
    part e shut m,
    uses_nth e.i (found e).kids m,
    child_uses e shut m,
    counts_own f,
    e.stands.once m,
  )))

  replaces : Replaces e.plan e.heap other (kid_at e.above e.kid) new_kid
  replaces node by depth holds =
      let was = subst (λ (x : Kid). Holds e.plan e.heap node by depth x) (found e).is holds in
      let old : Node = record {
        node = node;
        owner = by;
        stored = false;
        depth = depth;
        body = begun_body (found e).tracker (cells_in (found e).kids);
      } in (
        shows (found e).slot ∙ body_here (with_slot e.heap e.n None) (found e).slot change (slot_other e.heap e.n None
            (found e).slot (λ f. apart e shut (sym f)) ∙ was.0) ∙ ap (λ (b : Body). Some (record old { body = b })) out.cells,
        was.1,
        out.holds other elsewhere node (suc depth) was.2,
      )

  once : (m : ℕ) → uses e.kid m + uses new_kid m ≤ 1 + uses (kid_at e.above e.kid) m
  once m = omega (arith, e.stands.once m, part e shut m, out.fewer m)

  stands_then : Stands e.plan other e.next e.above (kid_then e new)
  stands_then =
      subst (λ (p : Place). Stands e.plan other e.next p (kid_then e new)) (append-nil e.above) (stands_change other e.above
      (e.i ∷ []) [] e.stands (ap cell_of (sym (found e).is)) agree replaces once (refl, out.marks) (at_for_at (found e).slot
      new (found e).is) (λ all. out.left (subst (λ (x : Kid). AreLeftRightly x) (found e).is all))
      (sym (same_front (slots_above (e.above ++ e.i ∷ []) e.kid) e.next (top e).slot e.n (sym (top e).last ∙ e.last))
      ∙ above_append e.above e.i e.kid e.stands.leads (found e).is))

  -- each slot in use is that of a place
  all_then : AllServe e.heap e.kid → AllServe other (kid_then e new)
  all_then all = all_kept_but e.heap other e.above new_kid e.kid (reach e) all (λ m used. go m used (same_or_other m e.n))
    where
      free : other e.n ≡ None
      free =
          shows e.n ∙ body_other (with_slot e.heap e.n None) (found e).slot change e.n (apart e shut)
          ∙ slot_here e.heap e.n None

      go : (m : ℕ) → IsSome (other m) → (m ≡ e.n) ⊎ (m ≢ e.n)
          → IsSome (e.heap m) × (uses (kid_at e.above e.kid) m ≤ uses new_kid m)
      go m used (inl f) =
          let wrong : false ≡ true = sym (ap is_some (ap other f ∙ free)) ∙ used in
          absurd (cc)
      go m used (inr ne) = (
        subst (λ (o : Option Node). IsSome o) (slot_other e.heap e.n None m ne)
            (used_mapped (with_slot e.heap e.n None) (found e).slot (λ (x : Node). record x { body = change x.body }) m
            (subst (λ (o : Option Node). IsSome o) (shows m) used)),
        omega (arith, part e shut m, out.fewer m, counts_other e.n m (λ f. ne (sym f))),
      )

-- Its value goes up.
module _ (e : Ending) {v : Val} (valued : value_of (body_in (top e).plot) ≡ Some v) where
  shut_now : IsClosed (body_in (top e).plot)
  shut_now = value_closed (body_in (top e).plot) valued

  may_have_now : MayHave (found e).tracker (count_kids (found e).kids)
  may_have_now =
      may_have_at e.plan e.heap e.plan.root FrameOwner.Root 0 e.above e.kid (found e).slot false (found e).tracker (found e).kids
      e.stands.holds (reach e) (found e).is

  -- in the stead of the child, where the place above is no conversion
  goes_above : is_conversion (found e).tracker ≡ false → Outcome e (begun_plot (found e).tracker (put_nth e.i (there v) (found e).kids)) (λ old. with_cell (unlinked e.n e.i old) e.i (given v))
  goes_above plain = record {
    cells =
        ap (λ (b : Body). with_cell b e.i (given v)) (unlinked_child (found e).tracker e.i e.n (found e).kids may_have_now
        (found e).within (ap cell_of (child e) ∙ ap (λ (x : ℕ). placed x) (slot_now e)))
        ∙ with_child (found e).tracker e.i (there v) (put_nth e.i gone (found e).kids)
        (may_have_put (found e).tracker e.i gone (found e).kids may_have_now)
        (within_put e.i gone (found e).kids (found e).within)
        ∙ ap (λ (ks : Kids). begun_body (found e).tracker (cells_in ks)) (put_nth_twice e.i gone (there v) (found e).kids);
    fewer = λ m. omega (arith, uses_put_nth e.i (there v) (found e).kids m (found e).within, child_uses e shut_now m);
    holds =
        λ other elsewhere node depth was. holds_put_nth e.plan e.heap other node (found e).slot (found e).tracker 0 depth
        (found e).kids e.i e.i (there v) (omega arith)
        (λ m h. elsewhere m (beside_above e shut_now m (omega (arith, h))) (beside_top e shut_now m h)) was tt;
    left =
        left_put_nth (found e).tracker 0 e.i e.i (there v) (found e).kids (omega arith)
        (λ was. left_value (found e).tracker e.i v plain) tt;
    marks = all_stored e.i (λ below. LeadsUnstored [] below) (there v) (found e).kids (found e).others tt;
  }

  stands_there : put_at (e.above ++ e.i ∷ []) (there v) e.kid ≡ kid_then e (begun_plot (found e).tracker (put_nth e.i (there v) (found e).kids))
  stands_there =
      put_append e.above (e.i ∷ []) (there v) e.kid
      ∙ ap (λ (x : Kid). put_at e.above (put_below e.i (there v) x) e.kid) (found e).is

  -- no place but the top leaves its slot
  stays_above : StayPutBut (e.above ++ e.i ∷ []) e.kid (put_at (e.above ++ e.i ∷ []) (there v) e.kid)
  stays_above =
      stay_but (e.above ++ e.i ∷ []) (there v) e.kid (stands_reach e.stands) (top e).is shut_now

  -- to a set, behind the items that it has
  module _ (of_set : is_set (tree_at e.above (tree_of e.kid)) ≡ true) where
    of_tracker : (found e).tracker ≡ as_items ItemsKind.Set
    of_tracker =
        set_tracker (found e).tracker (ap is_set (sym (ap tree_of (found e).is) ∙ tree_of_at e.above e.kid) ∙ of_set)

    rest : AreUnplaced (cells_in (put_nth e.i gone (found e).kids))
    rest =
        others_unplaced e.i 0 (λ below. LeadsUnstored [] below) (found e).kids (found e).others
        (subst (λ (f : Tracker). AreLeftAll f 0 (found e).kids) of_tracker
        (subst (λ (x : Kid). AreLeftRightly x) (found e).is (left_at e.above e.kid e.stands.left)))

    unfoldable fewer : Kids
    fewer = kids_without e.i (found e).kids

    unfoldable items : Kids
    items = kids_and_item fewer v

    fewer_unplaced : AreUnplaced (cells_in fewer)
    unfolding fewer
    fewer_unplaced = unplaced_without e.i (found e).kids rest

    items_unplaced : AreUnplaced (cells_in items)
    unfolding items
    items_unplaced = unplaced_item fewer v fewer_unplaced

    cells_then : with_ended e.i v (begun_body (found e).tracker (cells_in (found e).kids))
        ≡ begun_body (found e).tracker (cells_in items)
    unfolding items fewer
    cells_then =
        ap (λ (cs : List Cell). begun_body (found e).tracker (and_item_cell cs v)) (sym (cells_without e.i (found e).kids))
        ∙ ap (begun_body (found e).tracker) (sym (cells_item fewer v))

    goes_to_set : Outcome e (begun_plot (found e).tracker items) (with_ended e.i v)
    goes_to_set = record {
      cells = cells_then;
      fewer =
          λ m. omega (
            arith,
            uses_put_nth e.i gone (found e).kids m (found e).within,
            unplaced_uses (put_nth e.i gone (found e).kids) m rest,
            child_uses e shut_now m,
            unplaced_uses items m items_unplaced,
          );
      holds =
          λ other elsewhere node depth was. unplaced_holds e.plan other node (found e).slot (found e).tracker 0 depth items
          {count = count_kids items} (omega arith) (subst (λ (f : Tracker). MayHave f (count_kids items)) (sym of_tracker) tt)
          items_unplaced;
      left = λ all. subst (λ (f : Tracker). AreLeftAll f 0 items) (sym of_tracker) (set_left 0 items items_unplaced);
      marks = unplaced_marked true items items_unplaced;
    }

    tree_with_item : tree_of (kid_then e (begun_plot (found e).tracker items)) ≡ change_at e.above (with_ended_item e.i v) (tree_of e.kid)
    unfolding items fewer
    tree_with_item =
        tree_change_at e.above (with_ended_item e.i v) (at (found e).slot false (begun_plot (found e).tracker items)) e.kid
        (ap (λ (ts : Trees). begun (found e).tracker ts)
        (trees_item fewer v fewer_unplaced ∙ ap (λ (ts : Trees). and_item ts v) (trees_without e.i (found e).kids))
        ∙ ap (with_ended_item e.i v) (ap tree_of (sym (found e).is) ∙ tree_of_at e.above e.kid))

    -- no place but the item leaves its slot
    stays_in_set : StayPutBut (e.above ++ e.i ∷ []) e.kid (kid_then e (begun_plot (found e).tracker items))
    stays_in_set place ne =
        stay_at e.above (at (found e).slot false (begun_plot (found e).tracker items)) e.kid (reach e) place
        (λ r is lies. go r (λ f. ne (is ∙ ap (λ (l : Place). e.above ++ l) f))
        (subst (λ (x : Kid). IsPlaced x r) (found e).is lies))
      where
        go : (r : Place) → r ≢ e.i ∷ [] → IsPlaced (at (found e).slot false (begun_plot (found e).tracker (found e).kids)) r
            → IsPlaced (at (found e).slot false (begun_plot (found e).tracker items)) r
            × (slot_at (at (found e).slot false (begun_plot (found e).tracker items)) r ≡ slot_at (kid_at e.above e.kid) r)
        go [] other lies = (record { reaches = tt; here = tt }, ap (λ (x : Kid). slot_at x []) (sym (found e).is))
        go (j ∷ r) other lies =
            absurd (other (only_placed e.i j (found e).kids r rest (top e).slot false (top e).plot (child e) shut_now
            (record { reaches = lies.reaches.1; here = lies.here })))

-- A value was handed over, that of this place.
abbrev IsHanded : Plan → (slots after : List Slot) → (stack next : List ℕ) → Taker → Val → Place → Type 0
IsHanded plan slots after stack next taker v place =
    IsOpenAt plan after next (place_then taker place) (tree_then taker place v (tree_in_slots slots stack))
    × StayPutAs taker place (kid_here slots stack) (kid_here after next) × SameMarks slots after

-- An open builder's top, that isn't the root.
module _ {plan : Plan} {slots : List Slot} {stack : List ℕ} (open_now : IsOpen plan slots stack)
    (below : is_root (cursor_in slots stack) ≡ false) (next : List ℕ) (n : ℕ) (last : stack ≡ next ++ n ∷ []) where
  abbrev pub ending : Ending
  ending = record {
    plan = plan;
    heap = heap_of slots;
    stack = stack;
    above = (below_root (cursor_in slots stack) below).0;
    i = (below_root (cursor_in slots stack) below).1;
    kid = kid_here slots stack;
    stands =
        subst (λ (p : Place). Stands plan (heap_of slots) stack p (kid_here slots stack))
        (below_root (cursor_in slots stack) below).2 open_now.stands;
    next = next;
    n = n;
    last = last;
  }

  abbrev pub place : Place
  place = ending.above ++ ending.i ∷ []

  pub way : cursor_in slots stack ≡ place
  way = (below_root (cursor_in slots stack) below).2

  node_is : {x : Node} → heap_of slots n ≡ Some x → node_now ending ≡ x
  node_is {x} is = let both : Some (node_now ending) ≡ Some x = sym (top_is ending) ∙ is in cc

  pub so_now : (So : Node → Type 0) → So (node_now ending) → IfInUse slots n So
  so_now So so = subst (λ (o : Option Node). IsSomeAnd o So) (sym (top_is ending)) so

  pub now_so : (So : Node → Type 0) → IfInUse slots n So → So (node_now ending)
  now_so So so = subst (λ (o : Option Node). IsSomeAnd o So) (top_is ending) so

  set_above : is_set (tree_at (up (cursor_in slots stack)) (tree_in_slots slots stack)) ≡ true
      → is_set (tree_at ending.above (tree_in_slots slots stack)) ≡ true
  set_above of_set =
      ap (λ (p : Place). is_set (tree_at p (tree_in_slots slots stack))) (sym (ap up way ∙ up_append ending.above ending.i))
      ∙ of_set

  -- the place above is no conversion
  plain_above : is_begun_conversion (tree_at (up (cursor_in slots stack)) (tree_in_slots slots stack)) ≡ false
      → is_conversion (found ending).tracker ≡ false
  plain_above plain =
      ap is_begun_conversion (sym (ap tree_of (found ending).is) ∙ tree_of_at ending.above (kid_here slots stack))
      ∙ ap (λ (p : Place). is_begun_conversion (tree_at p (tree_in_slots slots stack)))
      (sym (ap up way ∙ up_append ending.above ending.i)) ∙ plain

  -- the place above is a set
  item_of_set : is_set (tree_at (up (cursor_in slots stack)) (tree_in_slots slots stack)) ≡ true
      → IsItemOf (child_owner (found ending).slot ending.i) (heap_of slots)
  item_of_set of_set =
      subst (λ (o : Option Node). IsSomeAnd o (λ (x : Node). IsSetBody x.body)) (sym (above_holds ending).0)
      (set_tracker (found ending).tracker
      (ap is_set (sym (ap tree_of (found ending).is) ∙ tree_of_at ending.above (kid_here slots stack)) ∙ set_above of_set))

  pub goes_up : {new : Plot} {change : Body → Body} → Outcome ending new change → IsClosed (body_in (top ending).plot)
      → (after : List Slot) {tree : Tree} → Shows after (heap_then ending change) → tree_of (kid_then ending new) ≡ tree
      → StayPutBut place (kid_here slots stack) (kid_then ending new) → IsOpenAt plan after next (up place) tree
      × StayPutBut place (kid_here slots stack) (kid_here after next) × SameMarks slots after
  goes_up {new} {change} out shut after {tree} shows is stays =
      let stands = stands_then out shut (heap_of after) shows in (
        subst (λ (p : Place). IsOpenAt plan after next p tree) (sym (up_append ending.above ending.i))
            (open_at_from after stands (all_then out shut (heap_of after) shows open_now.all) is),
        subst (λ (x : Kid). StayPutBut place (kid_here slots stack) x) (sym (kid_is stands)) stays,
        λ m. ap stored_in (shows m) ∙ same_marks ending change m,
      )

  module _ (after : List Slot) {v : Val} (valued : value_of (node_now ending).body ≡ Some v) where
    to_above : is_begun_conversion (tree_at (up (cursor_in slots stack)) (tree_in_slots slots stack)) ≡ false
        → Shows after (handed Taker.Above n (node_now ending).owner v (heap_of slots))
        → IsHanded plan slots after stack next Taker.Above v (cursor_in slots stack)
    to_above plain shows =
        subst (λ (p : Place). IsHanded plan slots after stack next Taker.Above v p)
        (sym way) (goes_up (goes_above ending valued (plain_above plain)) (shut_now ending valued) after (λ m. shows m ∙ body_twice
        (with_slot (heap_of slots) n None) (found ending).slot (unlinked n ending.i) (λ old. with_cell old ending.i (given v)) m)
        (ap tree_of (sym (stands_there ending valued)) ∙ tree_put_at place (there v) (kid_here slots stack))
        (subst (λ (x : Kid). StayPutBut place (kid_here slots stack) x) (stands_there ending valued) (stays_above ending valued)))

    to_set : is_set (tree_at (up (cursor_in slots stack)) (tree_in_slots slots stack)) ≡ true
        → Shows after (handed Taker.Set n (node_now ending).owner v (heap_of slots))
        → IsHanded plan slots after stack next Taker.Set v (cursor_in slots stack)
    to_set of_set shows =
        let of : is_set (tree_at ending.above (tree_in_slots slots stack)) ≡ true = set_above of_set in
        subst (λ (p : Place). IsHanded plan slots after stack next Taker.Set v p) (sym way)
        (goes_up (goes_to_set ending valued of) (shut_now ending valued) after shows (tree_with_item ending valued of
        ∙ ap (λ (p : Place). change_at p (with_ended_item ending.i v) (tree_in_slots slots stack))
        (sym (up_append ending.above ending.i)) ∙ ap (λ (m : ℕ). change_at (up place) (with_ended_item m v)
        (tree_in_slots slots stack)) (sym (number_append ending.above ending.i))) (stays_in_set ending valued of))

-- It stays where it is, and becomes whole.
module _ {plan : Plan} {slots : List Slot} {stack : List ℕ} (open_now : IsOpen plan slots stack)
    {n : ℕ} (last : IsLast stack n) (after : List Slot) {v : Val} (valued : value_of (top_node open_now last).body ≡ Some v)
    (shows : Shows after (with_body (heap_of slots) n (λ old. whole_body v))) where
  shut_here : IsClosed (body_in (open_top open_now).plot)
  unfolding top_node
  shut_here = value_closed (body_in (open_top open_now).plot) valued

  keeps : KeepsChildren (open_top open_now).plot (whole_plot v)
  keeps = keeps_closed (open_top open_now).plot (whole_plot v) tt tt (λ h. tt)

  stays_here : AllStayPut (kid_here slots stack) (kid_here after stack)
  stays_here =
      let top = open_top open_now in
      let new : Kid = at top.slot false (whole_plot v) in
      stay_shown after (kid_here slots stack) (top_stands after open_now last (λ old. whole_body v) refl keeps shows)
      (stay_all (cursor_in slots stack) new (kid_here slots stack) (open_reach open_now)
      (subst (λ (x : Kid). AllStayPut x new) (sym top.is) (here top.slot top.plot shut_here)))
    where
      here : (slot : ℕ) (plot : Plot) → IsClosed (body_in plot) → AllStayPut (at slot false plot) (at slot false (whole_plot v))
      here slot plot shut [] lies = (record { reaches = tt; here = tt }, refl)
      here slot plot shut (i ∷ way) lies = absurd (closed_below {slot = slot} {stored = false} {plot = plot} refl shut i way lies)

  to_itself : IsHanded plan slots after stack stack Taker.Itself v (cursor_in slots stack)
  to_itself = (
    top_changed after open_now last (λ old. whole_body v) refl keeps
        (loses_none (open_top open_now).plot (whole_plot v) shut_here) shows,
    stays_here,
    λ m. ap stored_in (shows m) ∙ marked_body (heap_of slots) n (λ old. whole_body v) m,
  )

-- By where it goes.

pub last_of : (taker : Taker) (stack : List ℕ) (n : ℕ) (next : List ℕ) → IsLeftBy taker stack n next → IsLast stack n
last_of Taker.Itself stack n next left = left.0
last_of _ stack n next left = (next, left)

pub some_value : (value : Option Val) → IsSome value → (v : Val) × (value ≡ Some v)
some_value (Some v) some = (v, refl)
some_value None some = absurd (cc)

module _ {plan : Plan} {slots : List Slot} {stack : List ℕ} (open_now : IsOpen plan slots stack) where
  pub may_take : (taker : Taker) (next : List ℕ) (n : ℕ) → IsLeftBy taker stack n next → MayHandOver taker slots stack
      → IfInUse slots n (λ (x : Node). MayTake taker n x.owner (heap_of slots))
  may_take Taker.Above next n left may =
      so_now open_now may.0 next n left (λ (x : Node). MayTake Taker.Above n x.owner (heap_of slots))
      (owned (ending open_now may.0 next n left))
  may_take Taker.Set next n left may =
      so_now open_now may.0 next n left (λ (x : Node). MayTake Taker.Set n x.owner (heap_of slots))
      (owned (ending open_now may.0 next n left), item_of_set open_now may.0 next n left may.1)
  may_take Taker.Itself next n left may = so_top open_now left.0 (λ (x : Node). Unit {0}) tt

  is_handed : (taker : Taker) (next : List ℕ) (n : ℕ) → IsLeftBy taker stack n next → MayHandOver taker slots stack
      → (after : List Slot) {x : Node} → heap_of slots n ≡ Some x → {v : Val} → value_of x.body ≡ Some v → Shows after
      (handed taker n x.owner v (heap_of slots)) → IsHanded plan slots after stack next taker v (cursor_in slots stack)
  is_handed Taker.Above next n left may after {x} is {v} valued shows =
      let same = sym (node_is open_now may.0 next n left is) in
      to_above open_now may.0 next n left after (subst (λ (y : Node). value_of y.body ≡ Some v) same valued) may.1
      (subst (λ (y : Node). Shows after (handed Taker.Above n y.owner v (heap_of slots))) same shows)
  is_handed Taker.Set next n left may after {x} is {v} valued shows =
      let same = sym (node_is open_now may.0 next n left is) in
      to_set open_now may.0 next n left after (subst (λ (y : Node). value_of y.body ≡ Some v) same valued) may.1
      (subst (λ (y : Node). Shows after (handed Taker.Set n y.owner v (heap_of slots))) same shows)
  is_handed Taker.Itself next n left may after {x} is {v} valued shows =
      let both : Some x ≡ Some (top_node open_now left.0) = sym is ∙ top_found open_now left.0 in
      let same : x ≡ top_node open_now left.0 = cc in
      subst (λ (l : List ℕ). IsHanded plan slots after stack l Taker.Itself v (cursor_in slots stack)) (sym left.1)
      (to_itself open_now left.0 after (subst (λ (y : Node). value_of y.body ≡ Some v) same valued) shows)

  same_marks_left : (next : List ℕ) (n : ℕ) → stack ≡ next ++ n ∷ [] → is_root (cursor_in slots stack) ≡ false → (after : List Slot)
      → IfInUse slots n (λ (x : Node). Shows after (without (heap_of slots) n x.owner)) → SameMarks slots after
  same_marks_left next n last below after shown m =
      let e : Ending = ending open_now below next n last in
      ap stored_in (now_so open_now below next n last (λ (x : Node). Shows after (without (heap_of slots) n x.owner)) shown m)
      ∙ same_marks e (unlinked n e.i) m

  -- where there was no memory for it, no mark changed, and what was to stay did
  lost : (taker : Taker) (next : List ℕ) (n : ℕ) → IsLeftBy taker stack n next → MayHandOver taker slots stack
      → (after : List Slot) → IfInUse slots n (λ (x : Node). Shows after (unhanded taker n x.owner (heap_of slots)))
      → SameMarks slots after × (taker ≡ Taker.Itself → Shows after (heap_of slots))
  lost Taker.Itself next n left may after shown =
      let shows : Shows after (heap_of slots) = top_so open_now left.0 (λ (x : Node). Shows after (heap_of slots)) shown in
      (λ m. ap stored_in (shows m), λ is. shows)
  lost Taker.Above next n left may after shown = (same_marks_left next n left may.0 after shown, λ is. absurd (cc))
  lost Taker.Set next n left may after shown = (same_marks_left next n left may.0 after shown, λ is. absurd (cc))

  module _ (taker : Taker) (next : List ℕ) (n : ℕ) (left : IsLeftBy taker stack n next)
      (complete : AtTop slots stack (λ (x : Node). IsSome (value_of x.body))) where
    valued : IfInUse slots n (λ (x : Node). IsSome (value_of x.body))
    valued = complete n (last_of taker stack n next left)

    -- there is room to release what stands there
    pub room_on_top : (ledger : List ℕ) → Room (tokens_here slots stack) ledger
        → IfInUse slots n (λ (x : Node). Room (body_occurs x.body) ledger)
    unfolding top_node
    room_on_top ledger room =
        let last : IsLast stack n = last_of taker stack n next left in
        let value = some_value (value_of (body_in (open_top open_now).plot))
        (top_so open_now last (λ (x : Node). IsSome (value_of x.body)) valued) in
        top_room open_now last (value_closed (body_in (open_top open_now).plot) value.1) ledger room

    -- what is said of the place in this slot is said of the top
    pub at_top : (So : Node → Type 0) → IfInUse slots n So → AtTop slots stack So
    at_top So so p ends =
        let last : IsLast stack n = last_of taker stack n next left in
        subst (λ (m : ℕ). IfInUse slots m So) (same_last last.0 ends.0 n p (sym last.1 ∙ ends.1)) so

    module _ (may : MayHandOver taker slots stack) (after : List Slot) where
      -- it was handed over
      abbrev Opens : Node → Type 0
      Opens x =
          (v : Val) → value_of x.body ≡ Some v → IsOpenAt plan after next (place_then taker (cursor_in slots stack))
          (tree_then taker (cursor_in slots stack) v (tree_in_slots slots stack))

      abbrev ShowsHanded : Node → Type 0
      ShowsHanded x = (v : Val) → value_of x.body ≡ Some v → Shows after (handed taker n x.owner v (heap_of slots))

      handed_over : IfInUse slots n ShowsHanded
          → AtTop slots stack Opens × StayPutAs taker (cursor_in slots stack) (kid_here slots stack) (kid_here after next)
          × SameMarks slots after
      handed_over shown = go (heap_of slots n) refl shown valued
        where
          go : (found : Option Node) → heap_of slots n ≡ found → IsSomeAnd found ShowsHanded
              → IsSomeAnd found (λ (x : Node). IsSome (value_of x.body))
              → AtTop slots stack Opens × StayPutAs taker (cursor_in slots stack) (kid_here slots stack) (kid_here after next)
              × SameMarks slots after
          go None is shown some = absurd some
          go (Some x) is shown some =
              let value = some_value (value_of x.body) some in
              let one = is_handed taker next n left may after is value.1 (shown value.0 value.1) in (
                at_top Opens (subst (λ (o : Option Node). IsSomeAnd o Opens) (sym is)
                    (λ v valued. (is_handed taker next n left may after is valued (shown v valued)).0)),
                one.1,
                one.2,
              )

      -- what the call says then
      pub handing : {A E : Type 0} (result : Result A E) → OnOk result (IfInUse slots n ShowsHanded)
          → OnErr result (IfInUse slots n (λ (x : Node). Shows after (unhanded taker n x.owner (heap_of slots))))
          → OnOk result (AtTop slots stack Opens)
          × OnOk result (StayPutAs taker (cursor_in slots stack) (kid_here slots stack) (kid_here after next))
          × SameMarks slots after × OnErr result (taker ≡ Taker.Itself → Shows after (heap_of slots))
      handing (Ok done) shown refused = let so = handed_over shown in (so.0, so.1, so.2, tt)
      handing (Err e) shown refused = let so = lost taker next n left may after refused in (tt, tt, so.0, so.1)
