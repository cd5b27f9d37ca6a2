-- Laws of leaving the top half done, for proofs: it is stored as it is, and the place above is on top.
use Rattle.std.proofs.Common.{◌≡◌, ◌↔◌, ℕ, zero, suc, ◌<◌, Bool, true, false, List, [], ◌∷◌, ◌++◌, append-nil, Option, Some, None, IfSome, IsNone, refl, sym, ◌∙◌, ap, subst, arith}
use Rattle.fr_store.specs.Common.{AllMarked, AllMarkedAmong, AllStayPut, AreLeftAll, AreLeftRightly, Heap, IsLast, IsOpen, IsOpenAt, IsThere, Kid, Kids, LeadsUnstored, Place, Plan, Reaches, Shows, Slot, SlotId, Stands, StoredBut, Top, Tracker, above_append, along_put_at, at, at_for_at, begun_plot, below_root, count_kids, cursor_in, entered_plot, gone, heap_of, is_root, kid, kid_at, kid_at_append, kid_here, kid_nth, kid_shown, leads_at, leads_put_at, leads_reach, left_as, left_at, left_nth, left_put_at, left_put_nth, marked, no_kids, put_append, put_at, put_nth, same_front, same_last, slots_above, slots_along, stands_reach, stored_in, takes_at_end, takes_at_end_as, there, top_found, top_of, tree_at, tree_in_slots, tree_of, tree_of_at, up, up_append, whole_plot, with_mark}
use Rattle.fr_store.specs.MoveLaws.{top_node}
use Rattle.fr_store.proofs.MarkedAnew.{open_marked}

-- all are stored where the one is that wasn't
pub all_stored : (i : ℕ) (Below : Kid → Type 0) (new : Kid) (ks : Kids) → StoredBut i Below ks → AllMarked true new
    → AllMarkedAmong true (put_nth i new ks)
all_stored i Below new no_kids but stored = absurd but
all_stored zero Below new (kid k ks) but stored = (stored, but.1)
all_stored (suc i) Below new (kid k ks) but stored = (but.0, all_stored i Below new ks but.1 stored)

-- The place above the top is begun, and its other children that are in slots are stored.
pub record Parent (above : Place) (i : ℕ) (k : Kid) : Type 0 where
  pub slot : ℕ
  pub tracker : Tracker
  pub kids : Kids
  pub is : kid_at above k ≡ at slot false (begun_plot tracker kids)
  pub within : i < count_kids kids
  pub child : kid_at (above ++ i ∷ []) k ≡ kid_nth i kids
  pub others : StoredBut i (λ below. LeadsUnstored [] below) kids

pub parent_of : (above : Place) (i : ℕ) (k : Kid) → LeadsUnstored (above ++ i ∷ []) k → Parent above i k
parent_of above i k leads = go (kid_at above k) refl (leads_at above (i ∷ []) k leads)
  where
    go : (x : Kid) → kid_at above k ≡ x → LeadsUnstored (i ∷ []) x → Parent above i k
    go gone e l = absurd l
    go (there v) e l = absurd l
    go (at slot stored entered_plot) e l = absurd l.1
    go (at slot stored (whole_plot v)) e l = absurd l.1
    go (at slot stored (begun_plot tracker kids)) e l =
        let reach = leads_reach (i ∷ []) [] (at slot stored (begun_plot tracker kids)) l in
        record {
          slot = slot;
          tracker = tracker;
          kids = kids;
          is = e ∙ ap (λ (b : Bool). at slot b (begun_plot tracker kids)) l.0;
          within = reach.0;
          child = kid_at_append above (i ∷ []) k ∙ ap (λ (x : Kid). kid_at (i ∷ []) x) e;
          others = l.1;
        }

-- The top is stored as it is.
module _ {plan : Plan} {heap : Heap} {stack : List ℕ} {above : Place} {i : ℕ} {k : Kid} (stands : Stands plan heap stack
    (above ++ i ∷ []) k) (top : Top plan heap stack (above ++ i ∷ []) k) (found : Parent above i k) where
  abbrev stored_top : Kid
  stored_top = at top.slot true top.plot

  abbrev stored_above : Kid
  stored_above = at found.slot false (begun_plot found.tracker (put_nth i (at top.slot true top.plot) found.kids))

  child : kid_nth i found.kids ≡ at top.slot false top.plot
  child = sym found.child ∙ top.is

  above_is : put_at (above ++ i ∷ []) stored_top k ≡ put_at above stored_above k
  above_is = put_append above (i ∷ []) stored_top k ∙ ap (λ (x : Kid). put_at above (put_at (i ∷ []) stored_top x) k) found.is

  -- it is no item of a set, and was in a slot, so that it was none of a base
  left_stored : takes_at_end_as found.tracker ≡ false → AreLeftRightly (put_at (above ++ i ∷ []) stored_top k)
  left_stored not_item =
      let among : AreLeftAll found.tracker 0 found.kids
      = subst (λ (x : Kid). AreLeftRightly x) found.is (left_at above k stands.left) in
      subst (λ (x : Kid). AreLeftRightly x) (sym above_is) (left_put_at above k
      (at_for_at found.slot (begun_plot found.tracker (put_nth i (at top.slot true top.plot) found.kids)) found.is) (left_put_nth
      found.tracker 0 i i stored_top found.kids (omega arith) (left_as found.tracker i (kid_nth i found.kids) stored_top
      (λ is. let apart : true ≡ false = sym is ∙ not_item in absurd (cc)) (λ h there. absurd (subst IsThere child there))
      (λ h there. there)) (subst
      (λ (x : Kid). AreLeftRightly x) child (left_nth found.tracker 0 i i found.kids (omega arith) among)) among) stands.left)

  leads_stored : LeadsUnstored above (put_at (above ++ i ∷ []) stored_top k)
  leads_stored =
      subst (λ (x : Kid). LeadsUnstored above x) (sym above_is) (subst (λ (p : Place). LeadsUnstored p (put_at above stored_above k)) (append-nil above)
      (leads_put_at above (i ∷ []) [] stored_above k stands.leads
      (refl, all_stored i (λ below. LeadsUnstored [] below) stored_top found.kids found.others (refl, top.stored))))

  along_stored : slots_above (above ++ i ∷ []) k ≡ slots_along above (put_at (above ++ i ∷ []) stored_top k)
  along_stored =
      above_append above i k stands.leads found.is
      ∙ sym (along_put_at above [] stored_above k (leads_reach above (i ∷ []) k stands.leads))
      ∙ ap (λ (p : Place). slots_along p (put_at above stored_above k)) (append-nil above) ∙ ap (slots_along above) (sym above_is)

-- what is in the last slot isn't stored
pub top_unmarked : {plan : Plan} {slots : List Slot} {stack : List ℕ} → IsOpen plan slots stack → {n : ℕ} → IsLast stack n
    → marked (heap_of slots) n ≡ false
unfolding top_node
top_unmarked {plan} {slots} {stack} open_now {n} last = ap stored_in (top_found open_now last)

-- what was taken off the stack is what was last
pub taken_off : {stack : List ℕ} (next : List ℕ) {n : ℕ} (result : Option SlotId) → IsLast stack n
    → IfSome result (λ (place : SlotId). stack ≡ next ++ place.0 ∷ []) → (IsNone result ↔ (stack ≡ [])) → stack ≡ next ++ n ∷ []
taken_off next {n} (Some place) last taken none =
    let same : place.0 ≡ n = same_last next last.0 place.0 n (sym taken ∙ last.1) in
    taken ∙ ap (λ (m : ℕ). next ++ m ∷ []) same
taken_off next {n} None last taken none = absurd (not_empty last.0 (sym last.1 ∙ none.0 refl))
  where
    not_empty : (xs : List ℕ) → xs ++ n ∷ [] ≡ [] → ⊥
    not_empty [] e = cc
    not_empty (x ∷ xs) e = cc

-- An open builder leaves its top as it is.
pub open_left : {plan : Plan} {before : List Slot} (after : List Slot) {stack : List ℕ} (next : List ℕ) → IsOpen plan before stack
    → is_root (cursor_in before stack) ≡ false → takes_at_end (tree_at (up (cursor_in before stack)) (tree_in_slots before stack))
    ≡ false → (n : ℕ) → stack ≡ next ++ n ∷ [] → Shows after (with_mark (heap_of before) n true) → IsOpenAt plan after next
    (up (cursor_in before stack)) (tree_in_slots before stack) × AllStayPut (kid_here before stack) (kid_here after next)
open_left {plan} {before} after {stack} next open_now below not_item n taken shows =
    let k : Kid = kid_shown (heap_of before) stack in
    let way = below_root (cursor_in before stack) below in
    let place : Place = way.0 ++ way.1 ∷ [] in
    let stands : Stands plan (heap_of before) stack place k
    = subst (λ (p : Place). Stands plan (heap_of before) stack p k) way.2 open_now.stands in
    let top = top_of stands in
    let both : slots_above place k ++ top.slot ∷ [] ≡ next ++ n ∷ [] = sym top.last ∙ taken in
    let same : top.slot ≡ n = same_last (slots_above place k) next top.slot n both in
    let found = parent_of way.0 way.1 k stands.leads in
    let plain : takes_at_end_as found.tracker ≡ false = ap takes_at_end (sym (ap tree_of found.is) ∙ tree_of_at way.0 k
    ∙ ap (λ (p : Place). tree_at p (tree_of k)) (sym (ap up way.2 ∙ up_append way.0 way.1))) ∙ not_item in
    let reach : Reaches place k = stands_reach stands in
    subst (λ (p : Place). IsOpenAt plan after next p (tree_in_slots before stack) × AllStayPut (kid_here before stack)
    (kid_here after next)) (sym (ap up way.2 ∙ up_append way.0 way.1)) (open_marked open_now after place true reach top.is
    (λ m. shows m ∙ ap (λ (x : ℕ). with_mark (heap_of before) x true m) (sym same)) way.0 (leads_stored stands top found) (sym
    (same_front (slots_above place k) next top.slot n both) ∙ along_stored stands top found) (left_stored stands top found plain))
