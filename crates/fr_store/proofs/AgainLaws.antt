-- Laws of entering again, for proofs: a child of the top that was stored is on top then, as it is.
use Rattle.std.proofs.Common.{◌≡◌, ℕ, true, false, List, [], ◌∷◌, ◌++◌, append-nil, append_assoc, refl, sym, ◌∙◌, ap, subst}
use Rattle.fr_store.specs.Common.{AllMarked, AllMarkedAmong, AllStayPut, AreLeftRightly, Def, HasChild, IsLast, IsOpen, IsOpenAt, IsStoredChild, Kid, LeadsUnstored, Place, Plan, Plot, Reaches, Shows, Slot, Tracker, Tree, Trees, along_put_at, at, at_for_at, begun, begun_plot, change_at, change_child, cursor_in, enter, entered_plot, heap_of, kid_at, kid_at_append, kid_here, leads_put_at, left_at, left_put_at, marked_nth, nth_put, open_reach, open_top, put_append, put_at, put_nth, slots_above, slots_along, stored_but, top_slot, tree_change_at, tree_here, tree_in, tree_of, tree_of_at, tree_of_nth, tree_put_nth, with_mark}
use Rattle.fr_store.proofs.ChildrenOfTops.{kids_stored, placed_child, plot_has}
use Rattle.fr_store.proofs.EnteringLaws.{GoesTo}
use Rattle.fr_store.proofs.HeadLaws.{reaches_child}
use Rattle.fr_store.proofs.MarkedAnew.{open_marked, tree_kept}

-- a place in a slot is entered already
entered_as_is : (def : Def) (plot : Plot) → tree_in plot ≡ enter def (tree_in plot)
entered_as_is def entered_plot = refl
entered_as_is def _ = refl

-- A child of an open builder's top that is stored is entered again.
pub open_again : {plan : Plan} {before : List Slot} (after : List Slot) {stack next : List ℕ} → IsOpen plan before stack
    → {p : ℕ} → IsLast stack p → (tracker : Tracker) {i : ℕ} (def : Def) {child : ℕ} → HasChild tracker i (tree_here before stack)
    → IsStoredChild (heap_of before) p i child → Shows after (with_mark (heap_of before) child false) → next ≡ stack ++ child ∷ []
    → GoesTo plan before after stack next i (change_child i (enter def))
open_again {plan} {before} after {stack} {next} open_now {p} last tracker {i} def {child} has stored shows along =
    let place : Place = cursor_in before stack in
    let k : Kid = kid_here before stack in
    let top = open_top open_now in
    let here : HasChild tracker i (tree_in top.plot)
    = subst (λ (t : Tree). HasChild tracker i t) (sym (tree_of_at place k) ∙ ap tree_of top.is) has in
    let found = plot_has tracker i top.plot here in
    let at_top : IsStoredChild (heap_of before) top.slot i child = subst (λ (x : ℕ). IsStoredChild (heap_of before) x i child)
    (sym (top_slot open_now last)) stored in
    let placed = placed_child open_now.stands top found.1 i found.2 at_top.slot in
    let plot : Plot = placed.0 in
    let stored_kids : AllMarkedAmong true found.0 = kids_stored open_now.stands top found.1 i found.2 in
    let begun_now : kid_at place k ≡ at top.slot false (begun_plot tracker found.0)
    = top.is ∙ ap (λ (p : Plot). at top.slot false p) found.1 in
    let is : kid_at (place ++ i ∷ []) k ≡ at child true plot
    = kid_at_append place (i ∷ []) k ∙ ap (kid_at (i ∷ [])) begun_now ∙ placed.1 in
    let reach : Reaches place k = open_reach open_now in
    -- the top with the child unmarked
    let new : Kid = at top.slot false (begun_plot tracker (put_nth i (at child false plot) found.0)) in
    let above : put_at (place ++ i ∷ []) (at child false plot) k ≡ put_at place new k
    = put_append place (i ∷ []) (at child false plot) k
    ∙ ap (λ (x : Kid). put_at place (put_at (i ∷ []) (at child false plot) x) k) begun_now in
    let marks : AllMarked true (at child true plot)
    = subst (λ (x : Kid). AllMarked true x) placed.1 (marked_nth true i found.0 stored_kids) in
    let leads : LeadsUnstored (place ++ i ∷ []) (put_at place new k) = leads_put_at place [] (i ∷ []) new k
    (subst (λ (p : Place). LeadsUnstored p k) (sym (append-nil place)) open_now.stands.leads)
    (refl, stored_but i (λ below. LeadsUnstored [] below) (at child false plot) found.0 found.2 stored_kids (refl, marks.1)) in
    let longer : stack ++ child ∷ [] ≡ slots_along (place ++ i ∷ []) (put_at place new k)
    = ap (λ (s : List ℕ). s ++ child ∷ []) top.last ∙ append_assoc (slots_above place k) (top.slot ∷ []) (child ∷ [])
    ∙ ap (λ (x : Kid). slots_above place k ++ top.slot ∷ slots_along [] x) (sym (nth_put i (at child false plot) found.0 found.2))
    ∙ sym (along_put_at place (i ∷ []) new k reach) in
    let tree : tree_of k ≡ change_at place (change_child i (enter def)) (tree_of k)
    = sym (tree_kept (place ++ i ∷ []) (at child false plot) k (ap tree_of (sym is))) ∙ ap tree_of above
    ∙ tree_change_at place (change_child i (enter def)) new k (ap (λ (ts : Trees). begun tracker ts)
    (tree_put_nth i (at child false plot) (enter def) found.0
    (entered_as_is def plot ∙ ap (enter def) (sym (ap tree_of placed.1) ∙ tree_of_nth i found.0)))
    ∙ ap (change_child i (enter def)) (sym (sym (tree_of_at place k) ∙ ap tree_of begun_now))) in
    subst (λ (t : Tree). IsOpenAt plan after next (place ++ i ∷ []) t × AllStayPut k (kid_here after next))
    tree (open_marked open_now after (place ++ i ∷ []) false (reaches_child place k top.slot false tracker found.0
    i reach begun_now found.2) is shows (place ++ i ∷ []) (subst (λ (x : Kid). LeadsUnstored (place ++ i ∷ []) x) (sym above) leads)
    (along ∙ longer ∙ ap (slots_along (place ++ i ∷ [])) (sym above)) (left_put_at (place ++ i ∷ []) k (at_for_at child plot is)
    (subst (λ (x : Kid). AreLeftRightly x) is (left_at (place ++ i ∷ []) k open_now.stands.left)) open_now.stands.left))
