-- Laws of pointers to slices, for proofs: the top, an open one, is closed, or a closed one opened.
use Rattle.std.proofs.Common.{◌≡◌, ◌≤◌, ℕ, suc, false, List, [], ◌∷◌, refl, sym, ◌∙◌, ap, subst, arith}
use Rattle.fr_store.specs.Common.{AllStayPut, AreLeftAll, Heap, Holds, HoldsAll, IsBegunSlice, IsLast, IsLeftRightly, IsOpen, IsOpenAt, IsSlice, ItemsKind, KeepsChildren, Kid, Kids, LosesNone, MayHave, NodeId, Place, Plan, Plot, SameMarks, Shows, Slot, Top, Tracker, Tree, as_items, at, base_of_tracker, begun_as, begun_plot, body_in, change_at, child_node, child_owner, cursor_in, entered_plot, entry_of, heap_of, kid, kid_here, marked_body, no_kids, open_reach, open_top, reformed, stored_in, top_changed, top_stands, tree_change_at, tree_here, tree_in, tree_in_slots, tree_of, tree_of_at, tree_put_at, whole_plot, with_body}
use Rattle.fr_store.proofs.PlacesBeside.{stay_all, stay_shown}

abbrev pub reformed_plot : Tracker → Plot → Plot
reformed_plot tracker entered_plot = entered_plot
reformed_plot tracker (whole_plot v) = whole_plot v
reformed_plot tracker (begun_plot made kids) = begun_plot tracker kids

reformed_body : (tracker : Tracker) (plot : Plot) → body_in (reformed_plot tracker plot) ≡ reformed tracker (body_in plot)
reformed_body tracker entered_plot = refl
reformed_body tracker _ = refl

reformed_tree : (tracker : Tracker) (plot : Plot) → tree_in (reformed_plot tracker plot) ≡ begun_as tracker (tree_in plot)
reformed_tree tracker entered_plot = refl
reformed_tree tracker _ = refl

reformed_loses : (tracker : Tracker) (plot : Plot) → LosesNone plot (reformed_plot tracker plot)
reformed_loses tracker entered_plot n = omega arith
reformed_loses tracker _ n = omega arith

reformed_stay : (slot : ℕ) (tracker : Tracker) (plot : Plot) → AllStayPut (at slot false plot) (at slot false (reformed_plot tracker plot))
reformed_stay slot tracker plot [] placed = (record { reaches = tt; here = tt }, refl)
reformed_stay slot tracker (begun_plot made kids) (i ∷ place) placed =
    (record { reaches = placed.reaches; here = placed.here }, refl)
reformed_stay slot tracker _ (i ∷ place) placed = absurd placed.reaches

-- open or closed, its children are the same
slice_node : (plan : Plan) (node : NodeId) (tracker : Tracker) (i : ℕ) → IsSlice tracker
    → child_node plan node tracker i ≡ child_node plan node (as_items ItemsKind.Slice) i
slice_node plan node (as_items ItemsKind.Slice) i is = refl
slice_node plan node (as_items ItemsKind.ClosedSlice) i is = refl
slice_node plan node _ i is = absurd is

slice_may_have : (tracker : Tracker) (count : ℕ) → IsSlice tracker → MayHave tracker count
slice_may_have (as_items ItemsKind.Slice) count is = tt
slice_may_have (as_items ItemsKind.ClosedSlice) count is = tt
slice_may_have _ count is = absurd is

-- nothing is asked of them
slice_left : (tracker : Tracker) (i : ℕ) (k : Kid) → IsSlice tracker → IsLeftRightly tracker i k
slice_left (as_items ItemsKind.Slice) i k is = tt
slice_left (as_items ItemsKind.ClosedSlice) i k is = tt
slice_left _ i k is = absurd is

slice_base : (tracker : Tracker) (i : ℕ) → IsSlice tracker → base_of_tracker tracker ≤ entry_of i
slice_base (as_items ItemsKind.Slice) i is = omega arith
slice_base (as_items ItemsKind.ClosedSlice) i is = omega arith
slice_base _ i is = absurd is

slices_left : (made tracker : Tracker) (i : ℕ) (ks : Kids) → IsSlice tracker → AreLeftAll made i ks → AreLeftAll tracker i ks
slices_left made tracker i no_kids is all = slice_base tracker i is
slices_left made tracker i (kid k ks) is all = (slice_left tracker i k is, all.1, slices_left made tracker (suc i) ks is all.2)

slice_holds : (plan : Plan) (heap : Heap) (node : NodeId) (slot : ℕ) (made tracker : Tracker) (i depth : ℕ) (ks : Kids)
    → IsSlice made → IsSlice tracker → HoldsAll plan heap node slot made i depth ks → HoldsAll plan heap node slot tracker i depth ks
slice_holds plan heap node slot made tracker i depth no_kids was is holds = slice_may_have tracker i is
slice_holds plan heap node slot made tracker i depth (kid k ks) was is holds = (
  subst (λ (x : NodeId). Holds plan heap x (child_owner slot i) depth k)
      (slice_node plan node made i was ∙ sym (slice_node plan node tracker i is)) holds.0,
  slice_holds plan heap node slot made tracker (suc i) depth ks was is holds.1,
)

reformed_keeps : (tracker : Tracker) (plot : Plot) → IsSlice tracker → IsBegunSlice (tree_in plot)
    → KeepsChildren plot (reformed_plot tracker plot)
reformed_keeps tracker (begun_plot made kids) is was = record {
  marked = λ h. h;
  once = λ n. omega arith;
  holds = λ plan heap node slot depth h. slice_holds plan heap node slot made tracker 0 depth kids was is h;
  left = λ h. slices_left made tracker 0 kids is h;
}
reformed_keeps tracker _ is was = absurd was

-- The top is one.
module _ {plan : Plan} {before : List Slot} (after : List Slot) {stack : List ℕ} (open_now : IsOpen plan before stack)
    {n : ℕ} (last : IsLast stack n) (tracker : Tracker) (is : IsSlice tracker) (begun_now : IsBegunSlice (tree_here before stack))
    (shows : Shows after (with_body (heap_of before) n (reformed tracker))) where
  abbrev place : Place
  place = cursor_in before stack

  abbrev k : Kid
  k = kid_here before stack

  abbrev top : Top plan (heap_of before) stack place k
  top = open_top open_now

  abbrev new : Plot
  new = reformed_plot tracker top.plot

  keeps : KeepsChildren top.plot new
  keeps = reformed_keeps tracker top.plot is (subst IsBegunSlice (sym (tree_of_at place k) ∙ ap tree_of top.is) begun_now)

  pub open_reformed : IsOpenAt plan after stack place (change_at place (begun_as tracker) (tree_in_slots before stack))
  open_reformed =
      let same : change_at place (λ old. tree_in new) (tree_of k) ≡ change_at place (begun_as tracker) (tree_of k)
      = sym (tree_put_at place (at top.slot false new) k) ∙ tree_change_at place (begun_as tracker) (at top.slot false new) k
      (reformed_tree tracker top.plot ∙ ap (begun_as tracker) (ap tree_of (sym top.is) ∙ tree_of_at place k)) in
      subst (λ (t : Tree). IsOpenAt plan after stack place t) same (top_changed after open_now last (reformed tracker)
      (reformed_body tracker top.plot) keeps (reformed_loses tracker top.plot) shows)

  -- no place leaves its slot
  pub stay_reformed : AllStayPut k (kid_here after stack)
  stay_reformed =
      stay_shown after k (top_stands after open_now last (reformed tracker) (reformed_body tracker top.plot) keeps shows)
      (stay_all place (at top.slot false new) k (open_reach open_now)
      (subst (λ (x : Kid). AllStayPut x (at top.slot false new)) (sym top.is) (reformed_stay top.slot tracker top.plot)))

-- which places are stored is as it was
pub marks_kept : (before after : List Slot) (n : ℕ) (tracker : Tracker) → Shows after (with_body (heap_of before) n (reformed tracker))
    → SameMarks before after
marks_kept before after n tracker shows m = ap stored_in (shows m) ∙ marked_body (heap_of before) n (reformed tracker) m
