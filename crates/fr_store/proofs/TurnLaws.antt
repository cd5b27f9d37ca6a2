-- Laws of a turn, for proofs: a stored place that has no child in a slot leaves its slot, and its value goes into the place above.
use Rattle.std.proofs.Common.{◌≡◌, ◌≢◌, ◌⊎◌, ℕ, suc, ◌+◌, ◌<◌, ◌≤◌, Bool, true, false, List, [], ◌∷◌, ◌++◌, append-nil, append_assoc, length, nat_eq, Option, Some, None, inl, inr, refl, sym, ◌∙◌, ap, subst, arith}
use Rattle.fr_store.specs.Below.{AreLeftRightly, Body, FrameOwner, Heap, Holds, IsClosed, IsOffTheWay, Kid, Kids, MayHave, Node, Place, Plan, Plot, Tracker, Val, at, begun_body, begun_plot, body_in, cell_of, cells_in, child_owner, entered_plot, gone, is_conversion, kid, no_kids, placed, there, unlinked, whole_body, whole_plot, with_body, with_cell, with_slot, without}
use Rattle.fr_values.specs.Cells.{given}
use Rattle.fr_store.specs.HoldLaws.{AgreeBeside, Replaces, holds_at, holds_put_nth, may_have_all, replaces_at}
use Rattle.fr_store.specs.LeftLaws.{at_for_itself, left_at, left_put_at, left_put_nth, left_value}
use Rattle.fr_store.specs.LeaveLaws.{below_root, kid_at_append, may_have_put, owner_append, put_append, unlinked_child, with_child, within_put}
use Rattle.fr_store.proofs.OffLaws.{beneath_or_not, marked_off, way_off, off_stored, reaches_append}
use Rattle.fr_store.specs.Stands.{Stands}
use Rattle.fr_store.specs.TopLaws.{body_here, body_other, closed_uses, slot_here, slot_other}
use Rattle.fr_store.specs.Ways.{count_kids, kid_nth, kid_at, put_nth, put_at, counts_if, uses, uses_in, uses_among, slots_above, slots_along, AllMarked, LeadsUnstored, Reaches, node_along, owner_along, owner_below}
use Rattle.fr_store.specs.WayLaws.{along_at, along_put_at, leads_at, leads_put_at, leads_reach, counts_own, counts_same, put_nth_twice, same_or_other, uses_at, uses_nth, uses_put_at}

-- One slot after another.

-- slot n is free, the place in slot q has this put at it, and all else is as it was
pub record IsHandedUp (heap last : Heap) (n q : ℕ) (above : Node) (body : Body) : Type 0 where
  pub found : heap q ≡ Some above
  pub over : last q ≡ Some (record above { body = body })
  pub free : last n ≡ None
  pub other : (m : ℕ) → m ≢ q → m ≢ n → last m ≡ heap m

-- a place's slot n is taken out of slot q, of which it is child i, once something else was put at it, and then a value is put there
module _ (heap first mid last : Heap) (n q i : ℕ) {below above : Node} (body : Body) {tracker : Tracker} (kids : Kids) (v : Val)
    (apart : n ≢ q) (here : heap n ≡ Some below) (over : heap q ≡ Some above) (begun : above.body ≡ begun_body tracker (cells_in
    kids)) (may : MayHave tracker (count_kids kids)) (within : i < count_kids kids) (child : cell_of (kid_nth i kids) ≡ placed n)
    (owner : below.owner ≡ child_owner q i) (puts : (m : ℕ) → first m ≡ with_slot heap n (Some (record below { body = body })) m)
    (leaves : (m : ℕ) → mid m ≡ without first n below.owner m) where
  first_over : first q ≡ Some above
  first_over = puts q ∙ slot_other heap n (Some (record below { body = body })) q (λ e. apart (sym e)) ∙ over

  left : (m : ℕ) → mid m ≡ with_body (with_slot first n None) q (unlinked n i) m
  left m = leaves m ∙ ap (λ (o : FrameOwner). without first n o m) owner

  mid_over : mid q ≡ Some (record above { body = begun_body tracker (cells_in (put_nth i gone kids)) })
  mid_over =
      left q ∙ body_here (with_slot first n None) q (unlinked n i) (slot_other first n None q (λ e. apart (sym e)) ∙ first_over)
      ∙ ap (λ (b : Body). Some (record above { body = b }))
      (ap (unlinked n i) begun ∙ unlinked_child tracker i n kids may within child)

  mid_here : mid n ≡ None
  mid_here = left n ∙ body_other (with_slot first n None) q (unlinked n i) n apart ∙ slot_here first n None

  mid_other : (m : ℕ) → m ≢ q → m ≢ n → mid m ≡ heap m
  mid_other m a b =
      left m ∙ body_other (with_slot first n None) q (unlinked n i) m a ∙ slot_other first n None m b
      ∙ puts m ∙ slot_other heap n (Some (record below { body = body })) m b

  pub handed_up : ((m : ℕ) → last m ≡ with_body mid q (λ old. with_cell old i (given v)) m)
      → IsHandedUp heap last n q above (begun_body tracker (cells_in (put_nth i (there v) kids)))
  handed_up ends = record {
    found = over;
    over =
        ends q ∙ body_here mid q (λ old. with_cell old i (given v)) mid_over ∙ ap (λ (b : Body). Some (record above { body = b }))
        (with_child tracker i (there v) (put_nth i gone kids) (may_have_put tracker i gone kids may) (within_put i gone kids
        within) ∙ ap (λ (ks : Kids). begun_body tracker (cells_in ks)) (put_nth_twice i gone (there v) kids));
    free = ends n ∙ body_other mid q (λ old. with_cell old i (given v)) n apart ∙ mid_here;
    other = λ m a b. ends m ∙ body_other mid q (λ old. with_cell old i (given v)) m a ∙ mid_other m a b;
  }

-- what is asked of nodes, whatever their bodies, has the same answer under each other number
pub asked_still : {heap last : Heap} {n q : ℕ} {above : Node} {body : Body} (up : IsHandedUp heap last n q above body)
    (asks : Option Node → Bool) → asks (Some (record above { body = body })) ≡ asks (Some above) → (m : ℕ) → m ≢ n
    → asks (last m) ≡ asks (heap m)
asked_still {heap} {last} {q} up asks same m ne = go (same_or_other m q)
  where
    go : (m ≡ q) ⊎ (m ≢ q) → asks (last m) ≡ asks (heap m)
    go (inl e) =
        ap (λ (x : ℕ). asks (last x)) e ∙ ap asks up.over ∙ same ∙ ap asks (sym up.found) ∙ ap (λ (x : ℕ). asks (heap x)) (sym e)
    go (inr a) = ap asks (up.other m a ne)

-- The place above a stored one.

-- the place is child i of one that is begun, in slot q
pub record Over (here : Place) (k : Kid) (n : ℕ) (plot : Plot) : Type 0 where
  pub above : Place
  pub i : ℕ
  pub slot : ℕ
  pub mark : Bool
  pub tracker : Tracker
  pub kids : Kids
  pub is_below : here ≡ above ++ i ∷ []
  pub reach : Reaches above k
  pub is : kid_at above k ≡ at slot mark (begun_plot tracker kids)
  pub within : i < count_kids kids
  pub child : kid_nth i kids ≡ at n true plot
  pub owner : owner_along FrameOwner.Root here k ≡ child_owner slot i

pub over_of : (here : Place) (k : Kid) {n : ℕ} {plot : Plot} → here ≢ [] → Reaches here k → kid_at here k ≡ at n true plot
    → Over here k n plot
over_of here k {n} {plot} low reach is = split here refl
  where
    find : (above : Place) (i : ℕ) → here ≡ above ++ i ∷ [] → (x : Kid) → kid_at above k ≡ x → Reaches above k
        → Reaches (i ∷ []) x → kid_at (i ∷ []) x ≡ at n true plot → Over here k n plot
    find above i e gone of top reach child = absurd reach
    find above i e (there v) of top reach child = absurd reach
    find above i e (at slot mark entered_plot) of top reach child = absurd reach
    find above i e (at slot mark (whole_plot v)) of top reach child = absurd reach
    find above i e (at slot mark (begun_plot tracker kids)) of top reach child = record {
      above = above;
      i = i;
      slot = slot;
      mark = mark;
      tracker = tracker;
      kids = kids;
      is_below = e;
      reach = top;
      is = of;
      within = reach.0;
      child = child;
      owner =
          ap (λ (p : Place). owner_along FrameOwner.Root p k) e ∙ owner_append FrameOwner.Root above i k
          ∙ ap (λ (x : Kid). owner_below (owner_along FrameOwner.Root above k) i x) of;
    }

    split : (p : Place) → here ≡ p → Over here k n plot
    split [] e = absurd (low e)
    split (j ∷ p) e =
        let two = below_root (j ∷ p) refl in
        let way : here ≡ two.0 ++ two.1 ∷ [] = e ∙ two.2 in
        let parts = reaches_append two.0 (two.1 ∷ []) k (subst (λ (x : Place). Reaches x k) way reach) in
        find two.0 two.1 way (kid_at two.0 k) refl parts.0 parts.1
        (sym (kid_at_append two.0 (two.1 ∷ []) k) ∙ ap (λ (x : Place). kid_at x k) (sym way) ∙ is)

-- What is held.

-- what is in the slot of a stored place
abbrev pub due_node : Plan → Place → Kid → Plot → Node
due_node plan here k plot = record {
  node = node_along plan plan.root here k;
  owner = owner_along FrameOwner.Root here k;
  stored = true;
  depth = 0 + length here;
  body = body_in plot;
}

-- what is in the slot above
abbrev pub over_node : (plan : Plan) {here : Place} {k : Kid} {n : ℕ} {plot : Plot} → Over here k n plot → Node
over_node plan {k} over = record {
  node = node_along plan plan.root over.above k;
  owner = owner_along FrameOwner.Root over.above k;
  stored = over.mark;
  depth = 0 + length over.above;
  body = begun_body over.tracker (cells_in over.kids);
}

module _ {plan : Plan} {heap : Heap} {stack : List ℕ} {cursor : Place} {k : Kid} (stands : Stands plan heap stack cursor k)
    (here : Place) {n : ℕ} {plot : Plot} (reach : Reaches here k) (is : kid_at here k ≡ at n true plot) where
  pub due_off : IsOffTheWay cursor here
  due_off = off_stored cursor here k stands.leads is

  pub due_low : here ≢ []
  due_low e = due_off cursor (ap (λ (p : Place). p ++ cursor) (sym e))

  pub due_over : Over here k n plot
  due_over = over_of here k due_low reach is

  due_holds : Holds plan heap (node_along plan plan.root here k) (owner_along FrameOwner.Root here k) (0 + length here)
      (at n true plot)
  due_holds =
      subst
      (λ (x : Kid). Holds plan heap (node_along plan plan.root here k) (owner_along FrameOwner.Root here k) (0 + length here) x)
      is (holds_at plan heap plan.root FrameOwner.Root 0 here k stands.holds reach)

  pub due_found : heap n ≡ Some (due_node plan here k plot)
  due_found = due_holds.0

  module _ (over : Over here k n plot) where
    over_holds : Holds plan heap (node_along plan plan.root over.above k) (owner_along FrameOwner.Root over.above k)
        (0 + length over.above) (at over.slot over.mark (begun_plot over.tracker over.kids))
    over_holds =
        subst (λ (x : Kid). Holds plan heap (node_along plan plan.root over.above k) (owner_along FrameOwner.Root over.above k)
        (0 + length over.above) x) over.is (holds_at plan heap plan.root FrameOwner.Root 0 over.above k stands.holds over.reach)

    pub over_found : heap over.slot ≡ Some (over_node plan over)
    over_found = over_holds.0

    pub over_may_have : MayHave over.tracker (count_kids over.kids)
    over_may_have =
        may_have_all plan heap (node_along plan plan.root over.above k) over.slot over.tracker
        (suc (0 + length over.above)) over.kids over_holds.2

    over_uses : (m : ℕ) → uses (kid_at over.above k) m ≡ counts_if (nat_eq over.slot m) + uses_among over.kids m
    over_uses m = ap (λ (x : Kid). uses x m) over.is

    child_uses : (m : ℕ) → uses (kid_nth over.i over.kids) m ≡ counts_if (nat_eq n m) + uses_in plot m
    child_uses m = ap (λ (x : Kid). uses x m) over.child

    once_above : (m : ℕ) → counts_if (nat_eq over.slot m) + uses_among over.kids m ≤ 1
    once_above m = omega (arith, over_uses m, uses_at over.above k m, stands.once m)

    pub due_apart : n ≢ over.slot
    due_apart e = absurd (omega (arith, counts_own e, counts_same n, child_uses n, uses_nth over.i over.kids n, once_above n))

    -- a value in the stead of the place
    pub stands_turned : {other : Heap} (v : Val) → is_conversion over.tracker ≡ false → IsClosed (body_in plot) → IsHandedUp
        heap other n over.slot (over_node plan over) (begun_body over.tracker (cells_in (put_nth over.i (there v) over.kids)))
        → Stands plan other stack cursor (put_at here (there v) k)
    stands_turned {other} v plain closed up = record {
      holds =
          subst (λ (x : Kid). Holds plan other plan.root FrameOwner.Root 0 x) (sym put)
          (replaces_at plan heap other over.above new k (ap cell_of (sym over.is)) agree replaces plan.root
          FrameOwner.Root 0 stands.holds);
      once = λ m. omega (arith, uses_put_at here (there v) k m reach, stands.once m);
      leads = (way_off cursor here (there v) k stands.leads due_off reach tt).0;
      along = stands.along ∙ sym (way_off cursor here (there v) k stands.leads due_off reach tt).1;
      left =
          subst AreLeftRightly (sym put) (left_put_at over.above k (at_for_itself
          (begun_plot over.tracker (put_nth over.i (there v) over.kids)) over.is) (left_put_nth over.tracker 0 over.i over.i (there v) over.kids
          (omega arith) (λ was. left_value over.tracker over.i v plain) tt
          (subst AreLeftRightly over.is (left_at over.above k stands.left))) stands.left);
    }
      where
        new : Kid
        new = at over.slot over.mark (begun_plot over.tracker (put_nth over.i (there v) over.kids))

        put : put_at here (there v) k ≡ put_at over.above new k
        put =
            ap (λ (p : Place). put_at p (there v) k) over.is_below ∙ put_append over.above (over.i ∷ []) (there v) k
            ∙ ap (λ (x : Kid). put_at over.above (put_at (over.i ∷ []) (there v) x) k) over.is

        elsewhere : (m : ℕ) → counts_if (nat_eq over.slot m) ≡ 0 → counts_if (nat_eq n m) ≡ 0 → other m ≡ heap m
        elsewhere m a b = go (same_or_other m over.slot) (same_or_other m n)
          where
            go : (m ≡ over.slot) ⊎ (m ≢ over.slot) → (m ≡ n) ⊎ (m ≢ n) → other m ≡ heap m
            go (inl e) x = absurd (omega (arith, counts_own e, a))
            go (inr x) (inl e) = absurd (omega (arith, counts_own e, b))
            go (inr x) (inr y) = up.other m x y

        agree : AgreeBeside heap other k (kid_at over.above k)
        agree m h =
            let part = over_uses m in
            let child = child_uses m in
            elsewhere m (omega (arith, part, stands.once m))
            (omega (arith, part, child, uses_nth over.i over.kids m, stands.once m))

        replaces : Replaces plan heap other (kid_at over.above k) new
        replaces node by depth holds =
            let was = subst (λ (x : Kid). Holds plan heap node by depth x) over.is holds in
            let same : Some (record {
              node = node;
              owner = by;
              stored = over.mark;
              depth = depth;
              body = begun_body over.tracker (cells_in over.kids);
            }) ≡ Some (over_node plan over) = sym was.0 ∙ over_found in (
              up.over ∙ sym (ap (λ (x : Option Node). with_kids x) same),
              was.1,
              holds_put_nth plan heap other node over.slot over.tracker 0 (suc depth) over.kids over.i over.i (there v) (omega arith)
                  (λ m h. elsewhere m (omega (arith, once_above m, child_uses m)) (omega (arith, once_above m, child_uses m))) was.2 tt,
            )
          where
            with_kids : Option Node → Option Node
            with_kids (Some x) = Some (record x { body = begun_body over.tracker (cells_in (put_nth over.i (there v) over.kids)) })
            with_kids None = None

    -- Where the place above is a conversion it is whole.

    -- what is beneath it is this place alone
    alone_uses : (ks : Kids) (m : ℕ) → count_kids ks ≤ 1 → uses_among ks m ≡ uses (kid_nth 0 ks) m
    alone_uses no_kids m alone = refl
    alone_uses (kid x no_kids) m alone = omega arith
    alone_uses (kid x (kid y ks)) m alone = absurd (omega (arith, alone))

    module _ (alone : count_kids over.kids ≤ 1) where
      first_child : over.i ≡ 0
      first_child = omega (arith, over.within, alone)

      pub due_alone : (m : ℕ) → IsClosed (body_in plot) → uses_among over.kids m ≡ counts_if (nat_eq n m)
      due_alone m closed =
          let child : uses (kid_nth 0 over.kids) m ≡ uses (kid_nth over.i over.kids) m
          = ap (λ (j : ℕ). uses (kid_nth j over.kids) m) (sym first_child) in
          omega (arith, alone_uses over.kids m alone, child, child_uses m, closed_uses plot m closed)

      -- the builder works there, or it is off the way
      pub above_turn : IsOffTheWay cursor over.above ⊎ (cursor ≡ over.above)
      above_turn = go (beneath_or_not over.above cursor)
        where
          go : ((way : Place) × (cursor ≡ over.above ++ way)) ⊎ IsOffTheWay cursor over.above
              → IsOffTheWay cursor over.above ⊎ (cursor ≡ over.above)
          go (inr off) = inl off
          go (inl ([], e)) = inr (e ∙ append-nil over.above)
          go (inl (j ∷ way, e)) =
              let reached = reaches_append over.above (j ∷ way) k (subst (λ (p : Place). Reaches p k) e (leads_reach cursor [] k
              (subst (λ (p : Place). LeadsUnstored p k) (sym (append-nil cursor)) stands.leads))) in
              let below = subst (Reaches (j ∷ way)) over.is reached.1 in
              let same : j ≡ over.i = omega (arith, below.0, alone, first_child) in
              absurd (due_off way (e ∙ ap (λ (x : ℕ). over.above ++ x ∷ way) same
              ∙ sym (append_assoc over.above (over.i ∷ []) way) ∙ ap (λ (p : Place). p ++ way) (sym over.is_below)))

      -- with this value
      pub stands_converted : {other : Heap} (w : Val) → IsClosed (body_in plot)
          → IsHandedUp heap other n over.slot (over_node plan over) (whole_body w)
          → Stands plan other stack cursor (put_at over.above (at over.slot over.mark (whole_plot w)) k)
      stands_converted {other} w closed up = record {
        holds =
            replaces_at plan heap other over.above new k (ap cell_of (sym over.is)) agree replaces plan.root FrameOwner.Root 0 stands.holds;
        once = λ m. omega (arith, uses_put_at over.above new k m over.reach, stands.once m, over_uses m);
        leads = (on_way above_turn).0;
        along = stands.along ∙ sym (on_way above_turn).1;
        left = left_put_at over.above k (at_for_itself (whole_plot w) over.is) tt stands.left;
      }
        where
          new : Kid
          new = at over.slot over.mark (whole_plot w)

          elsewhere : (m : ℕ) → counts_if (nat_eq over.slot m) ≡ 0 → counts_if (nat_eq n m) ≡ 0 → other m ≡ heap m
          elsewhere m a b = go (same_or_other m over.slot) (same_or_other m n)
            where
              go : (m ≡ over.slot) ⊎ (m ≢ over.slot) → (m ≡ n) ⊎ (m ≢ n) → other m ≡ heap m
              go (inl e) x = absurd (omega (arith, counts_own e, a))
              go (inr x) (inl e) = absurd (omega (arith, counts_own e, b))
              go (inr x) (inr y) = up.other m x y

          agree : AgreeBeside heap other k (kid_at over.above k)
          agree m h =
              let part = over_uses m in
              let child = child_uses m in
              elsewhere m (omega (arith, part, stands.once m))
              (omega (arith, part, child, uses_nth over.i over.kids m, stands.once m))

          replaces : Replaces plan heap other (kid_at over.above k) (at over.slot over.mark (whole_plot w))
          replaces node by depth holds =
              let was = subst (λ (x : Kid). Holds plan heap node by depth x) over.is holds in
              let same : Some (record {
                node = node;
                owner = by;
                stored = over.mark;
                depth = depth;
                body = begun_body over.tracker (cells_in over.kids);
              }) ≡ Some (over_node plan over) = sym was.0 ∙ over_found in (
                up.over ∙ sym (ap (λ (x : Option Node). now_whole x) same),
                was.1,
                tt,
              )
            where
              now_whole : Option Node → Option Node
              now_whole (Some x) = Some (record x { body = whole_body w })
              now_whole None = None

          at_work : cursor ≡ over.above → LeadsUnstored over.above (put_at over.above (at over.slot over.mark (whole_plot w)) k)
              × (slots_along over.above (put_at over.above (at over.slot over.mark (whole_plot w)) k) ≡ slots_along over.above k)
          at_work e =
              let now : Kid = at over.slot over.mark (whole_plot w) in
              let longer : LeadsUnstored (over.above ++ []) k
              = subst (λ (p : Place). LeadsUnstored p k) (e ∙ sym (append-nil over.above)) stands.leads in
              let here = subst (LeadsUnstored []) over.is (leads_at over.above [] k longer) in (
                subst (λ (p : Place). LeadsUnstored p (put_at over.above now k)) (append-nil over.above)
                    (leads_put_at over.above [] [] now k longer (here.0, tt)),
                subst (λ (p : Place). slots_along p (put_at over.above now k) ≡ slots_along p k) (append-nil over.above)
                    (along_put_at over.above [] now k over.reach ∙ sym (along_at over.above [] k over.reach
                    ∙ ap (λ (x : Kid). slots_above over.above k ++ slots_along [] x) over.is)),
              )

          on_way : IsOffTheWay cursor over.above ⊎ (cursor ≡ over.above)
              → LeadsUnstored cursor (put_at over.above (at over.slot over.mark (whole_plot w)) k)
              × (slots_along cursor (put_at over.above (at over.slot over.mark (whole_plot w)) k) ≡ slots_along cursor k)
          on_way (inl off) =
              let marked = subst (AllMarked true) over.is (marked_off cursor over.above k stands.leads off over.reach) in
              way_off cursor over.above (at over.slot over.mark (whole_plot w)) k stands.leads off over.reach (marked.0, tt)
          on_way (inr e) =
              subst (λ (p : Place). LeadsUnstored p (put_at over.above (at over.slot over.mark (whole_plot w)) k)
              × (slots_along p (put_at over.above (at over.slot over.mark (whole_plot w)) k) ≡ slots_along p k)) (sym e) (at_work e)
