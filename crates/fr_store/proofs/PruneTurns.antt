-- The turns of the loop that prunes: slots, store and ledger after the first so many children.
use Rattle.std.proofs.Common.{◌≡◌, ◌≢◌, ◌⊎◌, ℕ, suc, ◌+◌, ◌-◌, ◌<◌, Bool, true, false, List, [], length, Option, Some, None, inl, inr, refl, sym, ◌∙◌, ap, subst, arith, ◌↔◌}
use Rattle.fr_store.specs.Common.{Body, Contains, IfInUse, IsClosed, IsInUse, IsKept, IsPruned, IsRooted, IsSomeAnd, Kids, Node, Room, Room_fewer, Room_risen, Room_same, RoseBy, RoseBy_same, Shows, Slot, StoresNoMore, at, beneath, body_here, body_in, body_occurs, both, cells_found, child_owner, closed_uses, depth_limit, heap_of, is_some, marked, pruned, same_or_other, slots_occur, slotted_occur, stored_in, without}
use Rattle.fr_shape.specs.TokenLaws.{nothing, RoseBy_both, RoseBy_nothing, Room_left}
use Rattle.fr_values.specs.Cells.{slot_in_cells}
use Rattle.fr_store.specs.HoldLaws.{none_stored}
use Rattle.fr_store.specs.TopLaws.{closed_by_marks, closed_occur}
use Rattle.fr_store.proofs.StoredMarks.{kept_but}
use Rattle.fr_store.proofs.PruneLaws.{Pruning, beneath_is, beneath_uses, closed_by, closed_pruned, depth_found, plot_tokens, pruned_tokens}
use Rattle.fr_store.proofs.PruneSteps.{Child, after_marked, after_unmarked, child_falls, child_here, child_left, child_of, child_tokens, count_on, left_on, next, none_on, rest_are, rooted_on}
use Rattle.fr_store.proofs.HeldOrReleased.{conserved_by, conserved_on, conserved_same, room_left, rose_by_all}

-- At first no child is released.
pub pruning_none : {n : ℕ} {store : List ℕ} (slots : List Slot) (ledger : List ℕ) → IsRooted (heap_of slots) n → IsKept store slots
    → Pruning 0 n store slots slots ledger ledger
pruning_none slots ledger rooted kept = record {
  rooted = rooted;
  left = record {
    here = refl;
    depth = refl;
    fewer = λ m. omega arith;
    free = λ m used none. absurd (omega arith);
    rest = λ m a h. refl;
  };
  released = conserved_same (λ t. refl) refl;
  tokens = λ t. refl;
  kept = kept;
  marks = λ m h. h;
  none = λ j h. absurd (omega arith);
  count = refl;
}

-- the same store, slots and ledger
pub pruning_same : {i n j : ℕ} {store other : List ℕ} {start slots others : List Slot} {ledger now then_now : List ℕ}
    → j ≡ i → other ≡ store → others ≡ slots → then_now ≡ now → Pruning i n store start slots ledger now
    → Pruning j n other start others ledger then_now
pruning_same {i} {n} {j} {store} {other} {start} {slots} {others} {ledger} {now} {then_now} a b c d is =
    subst (λ (k : ℕ). Pruning k n other start others ledger then_now) (sym a)
    (subst (λ (s : List ℕ). Pruning i n s start others ledger then_now) (sym b)
    (subst (λ (s : List Slot). Pruning i n store start s ledger then_now) (sym c)
    (subst (λ (l : List ℕ). Pruning i n store start slots ledger l) (sym d) is)))

module _ {i n : ℕ} {store : List ℕ} {start mid : List Slot} {ledger now : List ℕ} (so_far : Pruning i n store start mid ledger now) where
  -- none of its children is in a slot: all is released
  module _ (closed : IsClosed (body_in so_far.rooted.plot)) where
    nothing_slotted : (t : ℕ) → slotted_occur (beneath (heap_of mid) n) t ≡ 0
    nothing_slotted t =
        let all = ap (λ (ks : Kids). slotted_occur ks t) (beneath_is (heap_of mid) n so_far.rooted) in
        omega (arith, plot_tokens so_far.rooted.plot t, closed_occur so_far.rooted.plot t closed)

    pub pruned_now : IsPruned (heap_of start) (heap_of mid) n pruned (beneath (heap_of start) n)
    pruned_now = record {
      here = so_far.rooted.here ∙ ap (λ (b : Body). Some (record so_far.rooted.found { body = b }))
          (sym (closed_pruned so_far.rooted.found.body (subst IsClosed (sym so_far.rooted.body) closed)))
          ∙ sym (body_here (heap_of mid) n pruned so_far.rooted.here) ∙ so_far.left.here;
      free = λ m used. so_far.left.free m used
          (beneath_uses (heap_of mid) n so_far.rooted m ∙ closed_uses so_far.rooted.plot m closed);
      rest = so_far.left.rest;
    }

    pub released_now : RoseBy (slotted_occur (beneath (heap_of start) n)) ledger now
    released_now =
        rose_by_all so_far.released (RoseBy_same nothing (slotted_occur (beneath (heap_of mid) n)) now now
        (λ t. sym (nothing_slotted t)) (RoseBy_nothing now))

    pub tokens_now : (t : ℕ) → slots_occur start t ≡ slots_occur mid t + slotted_occur (beneath (heap_of start) n) t
    tokens_now t = omega (arith, so_far.tokens t, nothing_slotted t)

  -- so it is where the store is empty
  pub closed_empty : store ≡ [] → IsClosed (body_in so_far.rooted.plot)
  closed_empty empty =
      let here : heap_of mid n ≡ Some (record so_far.rooted.found { body = body_in so_far.rooted.plot })
      = so_far.rooted.here ∙ ap (λ (b : Body). Some (record so_far.rooted.found { body = b })) so_far.rooted.body in
      let unmarked = none_stored so_far.rooted.plan (heap_of mid) so_far.rooted.found.node so_far.rooted.found.owner
      so_far.rooted.found.depth (at n so_far.rooted.found.stored so_far.rooted.plot)
      (here, so_far.rooted.limit, so_far.rooted.holds) (λ m. none m (marked (heap_of mid) m) refl) in
      closed_by_marks so_far.rooted.plot so_far.rooted.stored unmarked.1
    where
      none : (m : ℕ) (mark : Bool) → marked (heap_of mid) m ≡ mark → marked (heap_of mid) m ≡ false
      none m false e = e
      none m true e =
          let inside = subst (λ (l : List ℕ). Contains l m) empty ((so_far.kept m).0 e) in
          absurd (omega (arith, inside.1))

  -- and after the last child
  pub closed_last : i ≡ length (cells_found (heap_of start n)) → IsClosed (body_in so_far.rooted.plot)
  closed_last all =
      subst IsClosed so_far.rooted.body (closed_by so_far.rooted.found.body (λ j h.
      sym (ap (λ (o : Option Node). slot_in_cells (cells_found o) j) so_far.rooted.here) ∙ so_far.none j
      (let long = ap (λ (o : Option Node). length (cells_found o)) so_far.rooted.here in omega (arith, all, so_far.count))))

  -- a child that is in no slot
  pub pruning_skips : slot_in_cells (cells_found (heap_of mid n)) i ≡ None → Pruning (suc i) n store start mid ledger now
  pruning_skips slotless = record {
    rooted = so_far.rooted;
    left = so_far.left;
    released = so_far.released;
    tokens = so_far.tokens;
    kept = so_far.kept;
    marks = so_far.marks;
    none = λ j h. none j h (same_or_other j i);
    count = so_far.count;
  }
    where
      none : (j : ℕ) → j < suc i → (j ≡ i) ⊎ (j ≢ i) → slot_in_cells (cells_found (heap_of mid n)) j ≡ None
      none j h (inl e) = ap (slot_in_cells (cells_found (heap_of mid n))) e ∙ slotless
      none j h (inr ne) = so_far.none j (omega arith)

  -- one that is in a slot
  module _ (m : ℕ) (found : slot_in_cells (cells_found (heap_of mid n)) i ≡ Some m) where
    child : Child (heap_of mid) n i m
    child = child_of so_far.rooted i m found

    abbrev own : ℕ → ℕ
    own t = body_occurs (body_in child.below) t

    pub next_falls : depth_limit - depth_found (heap_of mid m) < depth_limit - depth_found (heap_of start n)
    next_falls = omega (arith, child_falls child, so_far.left.depth)

    pub next_rooted : IsRooted (heap_of mid) m
    next_rooted = next child

    -- all that the child has beneath it and itself has room
    child_room : Room (slotted_occur (beneath (heap_of start) n)) ledger → Room (both (slotted_occur (beneath (heap_of mid) m)) own) now
    child_room room =
        Room_fewer (both (slotted_occur (beneath (heap_of mid) m)) own) (slotted_occur (beneath (heap_of mid) n)) now
        (λ t. omega (arith, child_tokens child t)) (room_left so_far.released room)

    pub next_room : Room (slotted_occur (beneath (heap_of start) n)) ledger → Room (slotted_occur (beneath (heap_of mid) m)) now
    next_room room = Room_left (slotted_occur (beneath (heap_of mid) m)) own now (child_room room)

    -- what lies beneath it is released
    module _ (late : List Slot) (later : IsPruned (heap_of mid) (heap_of late) m pruned (beneath (heap_of mid) m)) where
      abbrev pruned_child : Node
      pruned_child = record (next child).found { body = pruned (body_in child.below) }

      here : heap_of late m ≡ Some pruned_child
      here = child_here child later

      pub next_in_use : IsInUse late m
      next_in_use = ap is_some here

      pub next_stored : (held : List ℕ) → IsKept held late → Contains held m
      next_stored held kept = (kept m).0 (ap stored_in here)

      pub frame_room : Room (slotted_occur (beneath (heap_of start) n)) ledger → (lately : List ℕ)
          → RoseBy (slotted_occur (beneath (heap_of mid) m)) now lately
          → IfInUse late m (λ (it : Node). Room (body_occurs it.body) lately)
      frame_room room lately rose =
          subst (λ (o : Option Node). IsSomeAnd o (λ (it : Node). Room (body_occurs it.body) lately)) (sym here)
          (Room_same own (body_occurs (pruned (body_in child.below))) lately (λ t. sym (pruned_tokens (body_in child.below) t))
          (Room_risen (slotted_occur (beneath (heap_of mid) m)) own now lately (child_room room) rose))

      -- and it leaves its slot
      module _ (held lately : List ℕ) (rose : RoseBy (slotted_occur (beneath (heap_of mid) m)) now lately)
          (tokens : (t : ℕ) → slots_occur mid t ≡ slots_occur late t + slotted_occur (beneath (heap_of mid) m) t)
          (kept : IsKept held late) (marks : StoresNoMore mid late) (kept_now : List ℕ) (after : List Slot) (at_last : List ℕ)
          (removed : (x : ℕ) → Contains kept_now x ↔ (Contains held x × (x ≢ m)))
          (left : IfInUse late m (λ (it : Node). Shows after (without (heap_of late) m it.owner)))
          (last_rose : IfInUse late m (λ (it : Node). RoseBy (body_occurs it.body) lately at_last))
          (taken : IfInUse late m (λ (it : Node). (t : ℕ) → slots_occur late t
          ≡ slots_occur after t + body_occurs it.body t)) where
        so : (So : Node → Type 0) → IfInUse late m So → So pruned_child
        so So is = subst (λ (o : Option Node). IsSomeAnd o So) here is

        gone_now : (x : ℕ) → heap_of after x ≡ without (heap_of late) m (child_owner n i) x
        gone_now = so (λ (it : Node). Shows after (without (heap_of late) m it.owner)) left

        more_tokens : (t : ℕ) → slotted_occur (beneath (heap_of mid) n) t ≡ slotted_occur (beneath (heap_of after) n) t
            + both (slotted_occur (beneath (heap_of mid) m)) (body_occurs (pruned (body_in child.below))) t
        more_tokens t =
            let rest = ap (λ (ks : Kids). slotted_occur ks t) (rest_are child later (heap_of after) gone_now) in
            omega (arith, child_tokens child t, pruned_tokens (body_in child.below) t)

        unmarked : marked (heap_of after) m ≡ false
        unmarked = after_unmarked child later (heap_of after) gone_now

        kept_after : IsKept kept_now after
        kept_after =
            kept_but held kept_now late after m kept unmarked (after_marked child later (heap_of after) gone_now) removed

        no_more : StoresNoMore start after
        no_more x is = go (same_or_other x m)
          where
            go : (x ≡ m) ⊎ (x ≢ m) → marked (heap_of after) x ≡ false
            go (inl e) = ap (marked (heap_of after)) e ∙ unmarked
            go (inr ne) = after_marked child later (heap_of after) gone_now x ne ∙ marks x (so_far.marks x is)

        pub pruning_child : Pruning (suc i) n kept_now start after ledger at_last
        pruning_child = record {
          rooted = rooted_on child later (heap_of after) gone_now;
          left = left_on so_far.rooted so_far.left (child_left child later (heap_of after) gone_now);
          released = conserved_on so_far.released
              (conserved_by (slotted_occur (beneath (heap_of mid) n))
              {fell = both (slotted_occur (beneath (heap_of mid) m)) (body_occurs (pruned (body_in child.below)))}
              (slotted_occur (beneath (heap_of after) n)) more_tokens
              (RoseBy_both (slotted_occur (beneath (heap_of mid) m)) (body_occurs (pruned (body_in child.below))) now lately
              at_last rose (so (λ (it : Node). RoseBy (body_occurs it.body) lately at_last) last_rose)));
          tokens = λ t.
              let last = so (λ (it : Node). (t : ℕ) → slots_occur late t ≡ slots_occur after t + body_occurs it.body t) taken t in
              omega (arith, so_far.tokens t, tokens t, last, more_tokens t);
          kept = kept_after;
          marks = no_more;
          none = none_on child later (heap_of after) gone_now so_far.none;
          count = count_on child later (heap_of after) gone_now ∙ so_far.count;
        }
