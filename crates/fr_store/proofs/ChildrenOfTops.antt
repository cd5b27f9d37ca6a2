-- Laws of the children of the top, for proofs.
use Rattle.std.proofs.Common.{◌≡◌, ℕ, suc, ◌+◌, ◌<◌, Bool, true, false, List, length, nat_eq, Some, refl, sym, ◌∙◌, ap, subst, arith}
use Rattle.fr_store.specs.Common.{AllMarked, AllMarkedAmong, AllMarkedIn, FrameOwner, HasChild, HasTracker, Heap, Holds, HoldsAll, HoldsIn, IsStoredChild, IsUnplaced, Kid, Kids, MayHave, Node, Place, Plan, Plot, Stands, Top, Tracker, at, begun_body, begun_plot, body_in, cell_at, cell_of, cell_of_child, cells_in, child_node, child_owner, child_slot, count_in, count_kids, counts_if, gone, holds_nth, kid_at, kid_nth, marked_nth, may_have_all, node_along, not_beneath, option_and_then, owner_along, slot_of_cell, stored_in, there, top_uses, tree_in, uses, uses_among, uses_in}

-- a place that has the child is begun
pub plot_has : (tracker : Tracker) (i : ℕ) (plot : Plot) → HasChild tracker i (tree_in plot)
    → (kids : Kids) × (plot ≡ begun_plot tracker kids) × (i < count_kids kids)
plot_has tracker i (begun_plot made kids) has =
    (kids, ap (λ (f : Tracker). begun_plot f kids) has.0, subst (λ (n : ℕ). i < n) (count_in kids) has.1)
plot_has tracker i _ has = absurd has

-- one that is begun so has these children
pub plot_formed : (tracker : Tracker) (plot : Plot) → HasTracker tracker (tree_in plot) → (kids : Kids) × (plot ≡ begun_plot tracker kids)
plot_formed tracker (begun_plot made kids) has = (kids, ap (λ (f : Tracker). begun_plot f kids) has)
plot_formed tracker _ has = absurd has

-- The top is begun, and has a child of this number.
module _ {plan : Plan} {heap : Heap} {stack : List ℕ} {place : Place} {k : Kid} (stands : Stands plan heap stack place k)
    (top : Top plan heap stack place k) {tracker : Tracker} {kids : Kids} (begun_now : top.plot ≡ begun_plot tracker kids) (i : ℕ)
    (within : i < count_kids kids) where
  pub parent_is : heap top.slot ≡ Some (record {
    node = node_along plan plan.root place k;
    owner = owner_along FrameOwner.Root place k;
    stored = false;
    depth = length place;
    body = begun_body tracker (cells_in kids);
  })
  parent_is =
      top.here ∙ ap (λ (p : Plot). Some (record {
        node = node_along plan plan.root place k;
        owner = owner_along FrameOwner.Root place k;
        stored = false;
        depth = length place;
        body = body_in p;
      })) begun_now

  pub kids_held : HoldsAll plan heap (node_along plan plan.root place k) top.slot tracker 0 (suc (length place)) kids
  kids_held =
      subst (λ (p : Plot). HoldsIn plan heap (node_along plan plan.root place k) top.slot (suc (length place)) p) begun_now
      top.children

  pub kids_may_have : MayHave tracker (count_kids kids)
  kids_may_have = may_have_all plan heap (node_along plan plan.root place k) top.slot tracker (suc (length place)) kids kids_held

  pub kids_stored : AllMarkedAmong true kids
  kids_stored = subst (λ (p : Plot). AllMarkedIn true p) begun_now top.stored

  pub part_uses : (n : ℕ) → uses (kid_at place k) n ≡ counts_if (nat_eq top.slot n) + uses_among kids n
  part_uses n = top_uses stands top n ∙ ap (λ (p : Plot). counts_if (nat_eq top.slot n) + uses_in p n) begun_now

  pub not_parent : (n : ℕ) → 0 < uses_among kids n → (n ≡ top.slot → ⊥)
  not_parent n h =
      let same : uses_in top.plot n ≡ uses_among kids n = ap (λ (p : Plot). uses_in p n) begun_now in
      not_beneath stands top n (omega arith)

  pub child_held : Holds plan heap (child_node plan (node_along plan plan.root place k) tracker i) (child_owner top.slot i)
      (suc (length place)) (kid_nth i kids)
  child_held =
      holds_nth plan heap (node_along plan plan.root place k) top.slot tracker 0 (suc (length place)) kids i i (omega arith) within
      kids_held

  pub child_cell : option_and_then (λ (x : Node). cell_at x.body i) (heap top.slot) ≡ Some (cell_of (kid_nth i kids))
  child_cell = ap (option_and_then (λ (x : Node). cell_at x.body i)) parent_is ∙ cell_of_child tracker i kids kids_may_have within

  -- a child that isn't stored is in no slot
  pub unplaced_child : ((child : ℕ) → IsStoredChild heap top.slot i child → ⊥) → IsUnplaced (cell_of (kid_nth i kids))
  unplaced_child none = go (kid_nth i kids) refl child_held (marked_nth true i kids kids_stored)
    where
      go : (x : Kid) → kid_nth i kids ≡ x
          → Holds plan heap (child_node plan (node_along plan plan.root place k) tracker i) (child_owner top.slot i)
          (suc (length place)) x → AllMarked true x → IsUnplaced (cell_of x)
      go gone e held marks = tt
      go (there v) e held marks = tt
      go (at slot mark plot) e held marks =
          none slot (record {
            slot = ap (option_and_then slot_of_cell) (child_cell ∙ ap (λ (x : Kid). Some (cell_of x)) e);
            stored = ap stored_in held.0 ∙ marks.0;
          })

  -- one that is in a slot is stored
  pub placed_child : {child : ℕ} → child_slot heap top.slot i ≡ Some child → (plot : Plot) × (kid_nth i kids ≡ at child true plot)
  placed_child {child} is =
      go (kid_nth i kids) refl (sym (ap (option_and_then slot_of_cell) child_cell) ∙ is) (marked_nth true i kids kids_stored)
    where
      go : (x : Kid) → kid_nth i kids ≡ x → slot_of_cell (cell_of x) ≡ Some child → AllMarked true x
          → (plot : Plot) × (kid_nth i kids ≡ at child true plot)
      go gone e found marks = absurd (cc)
      go (there v) e found marks = absurd (cc)
      go (at slot mark plot) e found marks =
          let same : slot ≡ child = cc in
          (plot, e ∙ ap (λ (n : ℕ). at n mark plot) same ∙ ap (λ (b : Bool). at child b plot) marks.0)
