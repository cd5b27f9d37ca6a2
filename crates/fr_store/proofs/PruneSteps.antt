-- One child leaves its slot.
use Rattle.std.proofs.Common.{◌≡◌, ◌≢◌, ◌⊎◌, ℕ, zero, suc, ◌+◌, ◌-◌, ◌<◌, ◌≤◌, true, false, length, length-set, nat_eq, List, Option, Some, None, inl, inr, refl, sym, ◌∙◌, ap, subst, arith}
use Rattle.fr_store.specs.Common.{AllMarked, AllMarkedAmong, AllMarkedIn, Body, Cell, Heap, Holds, HoldsAll, HoldsIn, IsPruned, IsRooted, Kid, Kids, Node, Plan, Plot, Tracker, absent, at, begun_body, begun_plot, beneath, body_here, body_in, body_occurs, body_other, cells_found, cells_in, cells_in_body, child_node, child_owner, count_kids, counts_if, counts_other, counts_same, depth_limit, entered_plot, gone, holds_put_nth, kid_nth, marked, marked_nth, pruned, put_nth, same_or_other, slot_other, slotted_occur, stored_in, unlinked, uses, uses_among, uses_in, uses_nth, uses_put_nth, whole_plot, with_slot, without}
use Rattle.fr_values.specs.Cells.{slot_in_cells}
use Rattle.fr_store.specs.HoldLaws.{holds_nth}
use Rattle.fr_store.specs.Prunes.{kids_in_plot, slotted_occurs}
use Rattle.fr_store.specs.TopLaws.{slot_here}
use Rattle.fr_store.specs.WayLaws.{marked_put_nth}
use Rattle.fr_store.proofs.PruneLaws.{IsLeft, beneath_is, beneath_uses, cells_gone, depth_found, emptied_put, kid_in_slot, none_up_to, plot_tokens, slotted_put, unlinked_kid}

-- some of what was left leaves, and then more of it
pub left_on : {before mid after : Heap} {n : ℕ} → IsRooted mid n → IsLeft before mid n → IsLeft mid after n → IsLeft before after n
left_on {before} {mid} {after} {n} rooted one two = record {
  here = two.here ∙ one.here;
  depth = two.depth ∙ one.depth;
  fewer = λ m. omega (arith, one.fewer m, two.fewer m);
  free = λ m used none. go m used none (uses_among (beneath mid n) m) refl;
  rest = λ m ne none. two.rest m ne (omega (arith, one.fewer m)) ∙ one.rest m ne none;
}
  where
    go : (m : ℕ) → 0 < uses_among (beneath before n) m → uses_among (beneath after n) m ≡ 0 → (count : ℕ)
        → uses_among (beneath mid n) m ≡ count → after m ≡ None
    go m used none zero e =
        let free = one.free m used e in
        two.rest m (λ is. let wrong : None ≡ Some rooted.found = sym free ∙ ap mid is ∙ rooted.here in cc) e ∙ free
    go m used none (suc count) e = two.free m (omega arith) none

-- The place is begun, and its child of this number is in a slot.
pub record Child (heap : Heap) (n i m : ℕ) : Type 0 where
  pub plan : Plan
  pub found : Node
  pub tracker : Tracker
  pub kids : Kids
  pub below : Plot
  pub here : heap n ≡ Some (record found { body = begun_body tracker (cells_in kids) })
  pub limit : found.depth < depth_limit
  pub holds : HoldsAll plan heap found.node n tracker 0 (suc found.depth) kids
  pub once : (x : ℕ) → counts_if (nat_eq n x) + uses_among kids x ≤ 1
  pub stored : AllMarkedAmong true kids
  pub are : beneath heap n ≡ kids
  pub is : kid_nth i kids ≡ at m true below
  pub inside : i < count_kids kids

pub child_of : {heap : Heap} {n : ℕ} (rooted : IsRooted heap n) (i m : ℕ) → slot_in_cells (cells_found (heap n)) i ≡ Some m → Child heap n i m
child_of {heap} {n} rooted i m found =
    go rooted.plot rooted.body rooted.holds rooted.once rooted.stored (beneath_is heap n rooted)
  where
    cells : (body : Body) → rooted.found.body ≡ body → slot_in_cells (cells_in_body body) i ≡ Some m
    cells body e =
        sym (ap (λ (o : Option Node). slot_in_cells (cells_found o) i) rooted.here ∙ ap (λ (b : Body). slot_in_cells (cells_in_body b) i) e)
        ∙ found

    go : (plot : Plot) → rooted.found.body ≡ body_in plot
        → HoldsIn rooted.plan heap rooted.found.node n (suc rooted.found.depth) plot
        → ((x : ℕ) → counts_if (nat_eq n x) + uses_in plot x ≤ 1) → AllMarkedIn true plot → beneath heap n ≡ kids_in_plot plot
        → Child heap n i m
    go (begun_plot tracker kids) body holds once stored are =
        let one = kid_in_slot i m kids (cells (begun_body tracker (cells_in kids)) body) stored in
        record {
          plan = rooted.plan;
          found = rooted.found;
          tracker = tracker;
          kids = kids;
          below = one.0;
          here = rooted.here ∙ ap (λ (b : Body). Some (record rooted.found { body = b })) body;
          limit = rooted.limit;
          holds = holds;
          once = once;
          stored = stored;
          are = are;
          is = one.1;
          inside = one.2;
        }
    go entered_plot body holds once stored are = let none : None ≡ Some m = cells (body_in entered_plot) body in absurd (cc)
    go (whole_plot v) body holds once stored are =
        let none : None ≡ Some m = cells (body_in (whole_plot v)) body in
        absurd (cc)

module _ {heap : Heap} {n i m : ℕ} (child : Child heap n i m) where
  abbrev rest_kids : Kids
  rest_kids = put_nth i gone child.kids

  pub held : Holds child.plan heap (child_node child.plan child.found.node child.tracker i) (child_owner n i) (suc child.found.depth)
      (at m true child.below)
  held =
      subst (λ (k : Kid). Holds child.plan heap (child_node child.plan child.found.node child.tracker i) (child_owner n i)
      (suc child.found.depth) k) child.is (holds_nth child.plan heap child.found.node n child.tracker 0 (suc child.found.depth)
      child.kids i i (omega arith) child.inside child.holds)

  pub nth_uses : (x : ℕ) → uses (kid_nth i child.kids) x ≡ counts_if (nat_eq m x) + uses_in child.below x
  nth_uses x = ap (λ (k : Kid). uses k x) child.is

  -- it is a place with all that lies beneath it
  abbrev pub next : IsRooted heap m
  next = record {
    plan = child.plan;
    found = record {
      node = child_node child.plan child.found.node child.tracker i;
      owner = child_owner n i;
      stored = true;
      depth = suc child.found.depth;
      body = body_in child.below;
    };
    plot = child.below;
    here = held.0;
    body = refl;
    limit = held.1;
    holds = held.2;
    once = λ x. omega (arith, nth_uses x, uses_nth i child.kids x, child.once x);
    stored =
        (subst (λ (k : Kid). AllMarked true k) child.is (marked_nth true i child.kids child.stored)).1;
  }

  -- the depths that are left fall
  pub child_falls : depth_limit - depth_found (heap m) < depth_limit - depth_found (heap n)
  child_falls =
      let here : depth_found (heap m) ≡ suc child.found.depth = ap depth_found held.0 in
      let above : depth_found (heap n) ≡ child.found.depth = ap depth_found child.here in
      omega (arith, held.1)

  -- the tokens of all that lies beneath the place: those of the other children, of what lies beneath this one, and its own
  pub child_tokens : (t : ℕ) → slotted_occur (beneath heap n) t
      ≡ slotted_occur rest_kids t + (slotted_occur (beneath heap m) t + body_occurs (body_in child.below) t)
  child_tokens t =
      let all = ap (λ (ks : Kids). slotted_occur ks t) child.are in
      let own = ap (λ (k : Kid). slotted_occurs k t) child.is in
      let below = ap (λ (ks : Kids). slotted_occur ks t) (beneath_is heap m next) in
      omega (arith, slotted_put i child.kids t, plot_tokens child.below t)

  apart : (x : ℕ) → 0 < uses_among child.kids x → x ≢ n
  apart x h e =
      let one : counts_if (nat_eq n x) ≡ 1 = ap (λ (y : ℕ). counts_if (nat_eq n y)) e ∙ counts_same n in
      absurd (omega (arith, child.once x))

  used : 0 < uses_among child.kids m
  used = omega (arith, nth_uses m, counts_same m, uses_nth i child.kids m)

  -- What lies beneath the child is released.
  module _ {late : Heap} (later : IsPruned heap late m pruned (beneath heap m)) where
    pub child_here : late m ≡ Some (record next.found { body = pruned (body_in child.below) })
    child_here = later.here ∙ body_here heap m pruned held.0

    above_here : late n ≡ heap n
    above_here =
        later.rest n (λ e. apart m used (sym e))
        (omega (arith, beneath_uses heap m next n, nth_uses n, uses_nth i child.kids n, child.once n, counts_same n))

    -- the child leaves its slot
    module _ (after : Heap) (left : (x : ℕ) → after x ≡ without late m (child_owner n i) x) where
      after_other : (x : ℕ) → x ≢ n → x ≢ m → after x ≡ late x
      after_other x a b = left x ∙ body_other (with_slot late m None) n (unlinked m i) x a ∙ slot_other late m None x b

      after_free : after m ≡ None
      after_free = left m ∙ body_other (with_slot late m None) n (unlinked m i) m (apart m used) ∙ slot_here late m None

      pub after_here : after n ≡ Some (record child.found { body = begun_body child.tracker (cells_in rest_kids) })
      after_here =
          left n ∙ body_here (with_slot late m None) n (unlinked m i)
          (slot_other late m None n (λ e. apart m used (sym e)) ∙ above_here ∙ child.here)
          ∙ ap (λ (b : Body). Some (record child.found { body = b })) (unlinked_kid child.tracker i m child.kids child.below child.is)

      pub after_same : (x : ℕ) → uses (kid_nth i child.kids) x < uses_among child.kids x → after x ≡ heap x
      after_same x h =
          let ne : x ≢ m
          = λ e. absurd (omega (arith, nth_uses x, child.once x, counts_same m, ap (λ (y : ℕ). counts_if (nat_eq m y)) e)) in
          after_other x (apart x (omega arith)) ne
          ∙ later.rest x ne (omega (arith, beneath_uses heap m next x, nth_uses x, child.once x))

      -- the place is held still, with the others beneath it
      abbrev pub rooted_on : IsRooted after n
      rooted_on = record {
        plan = child.plan;
        found = record child.found { body = begun_body child.tracker (cells_in rest_kids) };
        plot = begun_plot child.tracker rest_kids;
        here = after_here;
        body = refl;
        limit = child.limit;
        holds = holds_put_nth child.plan heap after child.found.node n child.tracker 0 (suc child.found.depth) child.kids i i gone
            (omega arith) after_same child.holds tt;
        once = λ x. omega (arith, uses_put_nth i gone child.kids x child.inside, child.once x);
        stored = marked_put_nth true i gone child.kids child.stored tt;
      }

      pub rest_are : beneath after n ≡ rest_kids
      rest_are = beneath_is after n rooted_on

      fewer : (x : ℕ) → uses_among (beneath heap n) x
          ≡ uses_among (beneath after n) x + (counts_if (nat_eq m x) + uses_among (beneath heap m) x)
      fewer x =
          let was = ap (λ (ks : Kids). uses_among ks x) child.are in
          let now = ap (λ (ks : Kids). uses_among ks x) rest_are in
          omega (arith, uses_put_nth i gone child.kids x child.inside, nth_uses x, beneath_uses heap m next x)

      pub child_left : IsLeft heap after n
      child_left = record {
        here = body_here after n pruned after_here
            ∙ ap (λ (cs : List Cell). Some (record child.found { body = begun_body child.tracker cs }))
            (emptied_put i m child.kids child.below child.is)
            ∙ sym (body_here heap n pruned child.here);
        depth = ap depth_found after_here ∙ sym (ap depth_found child.here);
        fewer = λ x. omega (arith, fewer x);
        free = λ x h none. free x h none (same_or_other x m);
        rest = λ x a h.
            let ne : x ≢ m
            = λ e. absurd (omega (arith, fewer x, counts_same m, ap (λ (y : ℕ). counts_if (nat_eq m y)) e)) in
            after_other x a ne ∙ later.rest x ne (omega (arith, fewer x));
      }
        where
          free : (x : ℕ) → 0 < uses_among (beneath heap n) x → uses_among (beneath after n) x ≡ 0 → (x ≡ m) ⊎ (x ≢ m)
              → after x ≡ None
          free x h none (inl e) = ap after e ∙ after_free
          free x h none (inr ne) =
              after_other x (apart x (subst (λ (ks : Kids). 0 < uses_among ks x) child.are h)) ne
              ∙ later.free x (omega (arith, fewer x, counts_other m x (λ e. ne (sym e))))

      -- of the children up to it none is in a slot, and there are as many as before
      pub none_on : ((j : ℕ) → j < i → slot_in_cells (cells_found (heap n)) j ≡ None) → (j : ℕ) → j < suc i
          → slot_in_cells (cells_found (after n)) j ≡ None
      none_on none j h =
          ap (λ (o : Option Node). slot_in_cells (cells_found o) j) after_here ∙ none_up_to i j child.kids h
          (λ less. sym (ap (λ (o : Option Node). slot_in_cells (cells_found o) j) child.here) ∙ none j less)

      pub count_on : length (cells_found (after n)) ≡ length (cells_found (heap n))
      count_on =
          ap (λ (o : Option Node). length (cells_found o)) after_here
          ∙ ap (λ (cs : List Cell). length cs) (sym (cells_gone i child.kids)) ∙ length-set (cells_in child.kids) i absent
          ∙ sym (ap (λ (o : Option Node). length (cells_found o)) child.here)

      -- marks
      pub after_marked : (x : ℕ) → x ≢ m → marked after x ≡ marked late x
      after_marked x ne = go (same_or_other x n)
        where
          go : (x ≡ n) ⊎ (x ≢ n) → marked after x ≡ marked late x
          go (inl e) =
              ap (marked after) e ∙ ap stored_in after_here ∙ sym (ap stored_in (above_here ∙ child.here)) ∙ ap (marked late) (sym e)
          go (inr other) = ap stored_in (after_other x other ne)

      pub after_unmarked : marked after m ≡ false
      after_unmarked = ap stored_in after_free
