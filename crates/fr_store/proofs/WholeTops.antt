-- A whole value at the top, or another place that has no child in a slot, after all that is stored beneath it was released.
use Rattle.std.proofs.Common.{◌≡◌, ◌≢◌, ◌⊎◌, ℕ, zero, suc, ◌<◌, ◌+◌, ◌≤◌, false, List, length, nat_eq, Option, Some, inl, inr, refl, sym, ◌∙◌, ap, subst, arith}
use Rattle.fr_store.specs.Common.{AllServe, AreLeftIn, HoldsIn, IfInUse, IsClosed, IsInUse, IsKept, IsLast, IsOpen, IsOpenAt, IsPruned, IsRooted, IsSome, IsSomeAnd, Kid, Kids, MayHaveIts, Node, Place, Plan, Plot, Room, Room_fewer, Room_risen, Room_same, RoseBy, RoseBy_both, RoseBy_same, Shows, Slot, Stands, StayPutButBeneath, StoresNoMore, Tree, all_changed, at, beneath, body_here, body_in, body_occurs, body_other, both, change_at, closed_uses, counts_if, counts_own, cursor_in, free_unused, heap_of, is_some, keeps_closed, kid_at, kid_here, kid_is, kid_occurs, marked, marked_body, node_along, open_at_from, open_reach, open_top, pruned, put_at, same_or_other, slotted_occur, stored_in, tokens_here, top_found, top_replaced, top_slot, top_uses, tree_in, tree_in_slots, tree_occurs, tree_of_at, tree_put_at, tree_tokens, uses, uses_among, uses_at, uses_in, with_body}
use Rattle.fr_store.specs.MoveLaws.{top_node}
use Rattle.fr_shape.specs.TokenLaws.{RoseBy_both}
use Rattle.fr_model.specs.Tree.{tree_occurs}
use Rattle.fr_store.specs.StandLaws.{all_changed}
use Rattle.fr_store.specs.TopLaws.{free_unused}
use Rattle.fr_store.specs.WayLaws.{tree_tokens}
use Rattle.fr_store.proofs.PruneLaws.{beneath_is, beneath_uses, plot_tokens, pruned_tokens}
use Rattle.fr_store.proofs.PlacesBeside.{stay_but_beneath}

-- All at the top was replaced by this, once what is stored beneath it was pruned: no place leaves its slot but those beneath, and
-- what is listed of stored places is as right as it was then.
pub record IsSetTo (plan : Plan) (slots mid after : List Slot) (stack : List ℕ) (tree : Tree) : Type 0 where
  pub opens : IsOpenAt plan after stack (cursor_in slots stack)
      (change_at (cursor_in slots stack) (λ old. tree) (tree_in_slots slots stack))
  pub stays : StayPutButBeneath (cursor_in slots stack) (kid_here slots stack) (kid_here after stack)
  pub kept : (store : List ℕ) → IsKept store mid → IsKept store after
  pub marks : StoresNoMore slots mid → StoresNoMore slots after

module _ {plan : Plan} {slots : List Slot} {stack : List ℕ} (open_now : IsOpen plan slots stack) {n : ℕ}
    (last : IsLast stack n) where
  abbrev place : Place
  place = cursor_in slots stack

  abbrev k : Kid
  k = kid_here slots stack

  -- what is in the top's slot, and what is in slots beneath it
  abbrev was : Node
  was = top_node open_now last

  abbrev below : Kids
  below = beneath (heap_of slots) n

  -- what is at the top can be pruned
  pub top_rooted : IsRooted (heap_of slots) n
  unfolding top_node
  top_rooted =
      let top = open_top open_now in
      let same = top_slot open_now last in
      record {
        plan = plan;
        found = was;
        plot = top.plot;
        here = top_found open_now last;
        body = refl;
        limit = top.limit;
        holds = subst (λ (m : ℕ). HoldsIn plan (heap_of slots)
            (node_along plan plan.root place k) m
            (suc (length place)) top.plot) same top.children;
        once = λ m.
            let here : counts_if (nat_eq top.slot m) ≡ counts_if (nat_eq n m) = ap (λ (x : ℕ). counts_if (nat_eq x m)) same in
            let all = top_uses open_now.stands top m in
            omega (arith, here, all, uses_at place k m, open_now.stands.once m);
        stored = top.stored;
      }

  -- the tokens that stand there are those in slots beneath it and its own
  pub tokens_both : (t : ℕ) → tokens_here slots stack t
      ≡ slotted_occur below t + body_occurs was.body t
  unfolding top_node top_rooted
  tokens_both t =
      let top = open_top open_now in
      sym (ap (λ (tree : Tree). tree_occurs tree t) (tree_of_at place k))
      ∙ sym (tree_tokens (kid_at place k) t)
      ∙ ap (λ (x : Kid). kid_occurs x t) top.is ∙ plot_tokens top.plot t
      ∙ ap (λ (ks : Kids). slotted_occur ks t + body_occurs (body_in top.plot) t) (sym (beneath_is (heap_of slots) n top_rooted))

  module _ (ledger : List ℕ) (room : Room (tokens_here slots stack) ledger) where
    both_room : Room (both (slotted_occur below) (body_occurs was.body)) ledger
    both_room =
        Room_same (tokens_here slots stack) (both (slotted_occur below) (body_occurs was.body)) ledger tokens_both room

    pub prune_room : Room (slotted_occur below) ledger
    prune_room =
        Room_fewer (slotted_occur below) (both (slotted_occur below) (body_occurs was.body)) ledger (λ t. omega arith) both_room

  -- Pruned.
  module _ (mid : List Slot) (is : IsPruned (heap_of slots) (heap_of mid) n pruned below) where
    pruned_here : heap_of mid n ≡ Some (record was { body = pruned was.body })
    pruned_here = is.here ∙ body_here (heap_of slots) n pruned (top_found open_now last)

    pub pruned_in_use : IsInUse mid n
    pruned_in_use = ap is_some pruned_here

    pub put_room : {ledger now : List ℕ} → Room (tokens_here slots stack) ledger → RoseBy (slotted_occur below) ledger now
        → IfInUse mid n (λ (found : Node). Room (body_occurs found.body) now)
    put_room {ledger} {now} room rose =
        subst (λ (o : Option Node). IsSomeAnd o (λ (found : Node). Room (body_occurs found.body) now)) (sym pruned_here)
        (Room_same (body_occurs was.body) (body_occurs (pruned was.body)) now (λ t. sym (pruned_tokens was.body t))
        (Room_risen (slotted_occur below) (body_occurs was.body) ledger now (both_room ledger room) rose))

    pub set_rose : {ledger now : List ℕ} (after : List ℕ) → RoseBy (slotted_occur below) ledger now → IfInUse mid n
        (λ (found : Node). RoseBy (body_occurs found.body) now after) → RoseBy (tokens_here slots stack) ledger after
    set_rose {ledger} {now} after rose last_rose =
        let so : RoseBy (body_occurs (pruned was.body)) now after
        = subst (λ (o : Option Node). IsSomeAnd o (λ (found : Node). RoseBy (body_occurs found.body) now after))
        pruned_here last_rose in
        RoseBy_same (both (slotted_occur below) (body_occurs (pruned was.body))) (tokens_here slots stack) ledger after
        (λ t. omega (arith, tokens_both t, pruned_tokens was.body t))
        (RoseBy_both (slotted_occur below) (body_occurs (pruned was.body)) ledger now after rose so)

    -- Something is put that has no child in a slot.
    module _ (after : List Slot) (new : Plot) (may : MayHaveIts (body_in new)) (closed : IsClosed (body_in new))
        (left : AreLeftIn new) (puts : Shows after (with_body (heap_of mid) n (λ old. body_in new))) where
      set_here : heap_of after n ≡ Some (record was { body = body_in new })
      set_here = puts n ∙ body_here (heap_of mid) n (λ old. body_in new) pruned_here

      set_other : (m : ℕ) → m ≢ n → heap_of after m ≡ heap_of mid m
      set_other m ne = puts m ∙ body_other (heap_of mid) n (λ old. body_in new) m ne

      set_marked : (m : ℕ) → marked (heap_of after) m ≡ marked (heap_of mid) m
      set_marked m = ap stored_in (puts m) ∙ marked_body (heap_of mid) n (λ old. body_in new) m

      part : (m : ℕ) → uses (kid_at place k) m ≡ counts_if (nat_eq n m) + uses_among below m
      unfolding top_node top_rooted
      part m =
          let top = open_top open_now in
          let here : counts_if (nat_eq top.slot m) ≡ counts_if (nat_eq n m)
          = ap (λ (x : ℕ). counts_if (nat_eq x m)) (top_slot open_now last) in
          omega (arith, here, top_uses open_now.stands top m, beneath_uses (heap_of slots) n top_rooted m)

      -- what stands
      set_stands : Stands plan (heap_of after) stack place (put_at place (at n false new) k)
      unfolding top_node
      set_stands =
          let top = open_top open_now in
          let same = top_slot open_now last in
          subst (λ (x : ℕ). Stands plan (heap_of after) stack place (put_at place (at x false new) k)) same
          (top_replaced (heap_of after) open_now.stands top (keeps_closed top.plot new may closed (λ h. left))
          (ap (heap_of after) same ∙ set_here) beside)
        where
          beside : (m : ℕ) → m ≢ (open_top open_now).slot → (uses (kid_at place k) m < uses k m) ⊎ (0 < uses_in new m)
              → heap_of after m ≡ heap_of slots m
          beside m ne (inl h) =
              let apart : m ≢ n = λ e. ne (e ∙ sym (top_slot open_now last)) in
              set_other m apart ∙ is.rest m apart (omega (arith, part m, open_now.stands.once m))
          beside m ne (inr h) = absurd (omega (arith, closed_uses new m closed))

      -- no place leaves its slot but those beneath
      set_stay : StayPutButBeneath place k (kid_here after stack)
      set_stay =
          let top = open_top open_now in
          subst (λ (x : Kid). StayPutButBeneath place k x) (sym (kid_is set_stands)) (stay_but_beneath place {new
          = at n false new} k (open_reach open_now) (top.is ∙ ap (λ (x : ℕ). at x false top.plot) (top_slot open_now last)) refl)

      -- each slot in use is that of a place
      set_all : AllServe (heap_of after) (put_at place (at n false new) k)
      set_all = all_changed (heap_of slots) (heap_of after) place (at n false new) k (open_reach open_now) open_now.all from
        where
          still : (m : ℕ) → m ≢ n → IsSome (heap_of mid m) → (count : ℕ) → uses_among below m ≡ count
              → IsSome (heap_of slots m) × (uses_among below m ≡ 0)
          still m ne used zero e = (subst (λ (o : Option Node). IsSome o) (is.rest m ne e) used, e)
          still m ne used (suc count) e = absurd (free_unused (heap_of mid) m (is.free m (omega (arith, e))) used)

          from : (m : ℕ) → IsSome (heap_of after m) → (0 < uses (at n false new) m) ⊎ (IsSome (heap_of slots m)
              × (uses (kid_at place k) m ≤ uses (at n false new) m))
          from m used = go (same_or_other m n)
            where
              go : (m ≡ n) ⊎ (m ≢ n) → (0 < uses (at n false new) m) ⊎ (IsSome (heap_of slots m)
                  × (uses (kid_at place k) m ≤ uses (at n false new) m))
              go (inl e) = inl (omega (arith, counts_own e))
              go (inr ne) =
                  let was = still m ne (subst (λ (o : Option Node). IsSome o) (set_other m ne) used)
                  (uses_among below m) refl in
                  inr (was.0, omega (arith, part m, was.1))

      pub is_set : IsSetTo plan slots mid after stack (tree_in new)
      is_set = record {
        opens = open_at_from after set_stands set_all (tree_put_at place (at n false new) k);
        stays = set_stay;
        kept = λ store kept m. ((λ h. (kept m).0 (sym (set_marked m) ∙ h)), (λ h. set_marked m ∙ (kept m).1 h));
        marks = λ marks m h. set_marked m ∙ marks m h;
      }
