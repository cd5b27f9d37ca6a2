-- What slots hold and what the ledger counts, together, while the place on top changes; and what becomes of the open places.
use Rattle.std.proofs.Common.{◌≡◌, ℕ, ◌+◌, List, Result, Ok, Err, OnOk, OnErr, refl, sym, ◌∙◌, ap, subst, arith}
use Rattle.fr_moves.specs.Common.{AreOpen, Became, Changed, Conserved, Conserved_same, Frames, IsAtWork, IsKept, IsOpen, IsOpenAt, Place, Plan, Room, RoseBy, SameMarks, SameTokens, Slot, Tree, change_at, cursor_in, deferred, heap_of, hole, kid_shown, mode_of, slots_tokens, top_place, top_tree, tree_here, tree_occurs, whole_tree}
use Rattle.fr_shape.specs.TokenLaws.{Room_fewer}
use Rattle.fr_frame.specs.Heap.{slots_occur}
use Rattle.fr_store.specs.StackMoves.{changed_here, tokens_here, tree_in_slots}
use Rattle.fr_store.specs.Stored.{StoresNoMore}
use Rattle.fr_moves.proofs.LeadLaws.{tree_leads}
use Rattle.fr_moves.specs.StateLaws.{became_through, stores_after}
use Rattle.fr_moves.specs.TreeLaws.{alike_here, changed_occur, unchanged}

-- no token came or went
pub kept_same : (before after : List Slot) (ledger : List ℕ) → SameTokens before after
    → Conserved (slots_occur before) ledger (slots_occur after) ledger
kept_same before after ledger same = record {
  same_length = refl;
  kept_or_released = λ t. omega (arith, same t);
  none_falls = λ t. omega arith;
}

-- where the same places are stored, the store lists them still
marks_kept : (store : List ℕ) (before after : List Slot) → SameMarks before after → IsKept store before → IsKept store after
marks_kept store before after same kept n =
    ((λ stored. (kept n).0 (sym (same n) ∙ stored)), (λ listed. same n ∙ (kept n).1 listed))

module _ {plan : Plan} {before after : List Slot} {stack next : List ℕ} (shown : IsOpen plan before stack) (change : Tree → Tree)
    (then : IsOpenAt plan after next (cursor_in before stack) (changed_here change before stack)) {old new : List ℕ}
    (rose : RoseBy (tokens_here before stack) old new) where
  -- the change of what stands on top brings so much, and all that stood there was released
  pub kept_changed : (brought : ℕ → ℕ) → ((t : ℕ) → tree_occurs (change (tree_here before stack)) t ≡ brought t)
      → Conserved (λ t. slots_occur before t + brought t) old (slots_occur after) new
  kept_changed brought brings = record {
    same_length = rose.same_length;
    kept_or_released = λ t.
        let was : slots_occur before t ≡ tree_occurs (tree_in_slots before stack) t = slots_tokens shown t in
        let is : slots_occur after t ≡ tree_occurs (tree_in_slots after next) t = slots_tokens then.open_still t in
        let built : tree_occurs (tree_in_slots after next) t ≡ tree_occurs (changed_here change before stack) t
        = ap (λ (tree : Tree). tree_occurs tree t) then.built in
        let moved = changed_occur (deferred 0) (cursor_in before stack) change (tree_in_slots before stack) t
        (tree_leads 0 (cursor_in before stack) (kid_shown (heap_of before) stack) shown.stands.leads) in
        omega (arith, was, is, built, moved, brings t, rose.each t);
    none_falls = λ t. omega (arith, rose.each t);
  }

  -- it brings nothing
  pub kept_released : ((t : ℕ) → tree_occurs (change (tree_here before stack)) t ≡ 0)
      → Conserved (slots_occur before) old (slots_occur after) new
  kept_released nothing =
      Conserved_same (λ t. slots_occur before t + 0) (slots_occur before) old (slots_occur after) (slots_occur after) new
      (λ t. omega arith) (λ t. refl) (kept_changed (λ t. 0) nothing)

-- what stands on top is a part of all that slots hold
pub room_here : (plan : Plan) (slots : List Slot) (stack ledger : List ℕ) → IsOpen plan slots stack
    → Room (slots_occur slots) ledger → Room (tokens_here slots stack) ledger
room_here plan slots stack ledger shown room =
    Room_fewer (tokens_here slots stack) (slots_occur slots) ledger (λ t.
    let was : slots_occur slots t ≡ tree_occurs (tree_in_slots slots stack) t = slots_tokens shown t in
    let moved = changed_occur (deferred 0) (cursor_in slots stack) (λ old. hole) (tree_in_slots slots stack) t
    (tree_leads 0 (cursor_in slots stack) (kid_shown (heap_of slots) stack) shown.stands.leads) in
    omega (arith, was, moved)) room

-- what follows where there is an answer, and holds where there is none
pub ok_or : {A E P Q S : Type 0} (result : Result A E) → OnOk result P → OnOk result Q → OnErr result S → (P → Q → S) → S
ok_or (Ok done) p q s then = then p q
ok_or (Err refused) p q s then = s

-- What becomes of the open places.

-- at work they are open
pub are_open : {plan : Plan} {frames : Frames} → IsAtWork plan frames → AreOpen plan frames
are_open work = record { shown = work.ready.shown; kept = work.kept; stores = work.stores }

module _ {plan : Plan} {frames : Frames} (open_now : AreOpen plan frames) {slots : List Slot} {stack : List ℕ} {place : Place}
    {tree : Tree} where
  -- no more places are stored
  pub became : {store : List ℕ} → IsKept store slots → StoresNoMore frames.slots slots → IsOpenAt plan slots stack place tree
      → Became plan place tree frames (record frames { slots = slots; stack = stack; store = store })
  became {store} kept no_more stands = record {
    stands = stands;
    kept = kept;
    stores =
        stores_after (mode_of frames.mode) frames.store store frames.slots slots open_now.stores open_now.kept kept no_more;
    same = refl;
  }

  -- the same places are stored
  pub became_marked : SameMarks frames.slots slots → IsOpenAt plan slots stack place tree
      → Became plan place tree frames (record frames { slots = slots; stack = stack })
  became_marked same stands = became (marks_kept frames.store frames.slots slots same open_now.kept) (λ n none. same n ∙ none) stands

-- one change after another
pub became_after : {plan : Plan} {place : Place} {tree : Tree} {before between after : Frames} (next : Place → Place)
    (change : Place → Tree → Tree) → Became plan place tree before between
    → Became plan (next (top_place between)) (change (top_place between) (whole_tree between)) between after
    → Became plan (next place) (change place tree) before after
became_after {plan} {place} {tree} {before} {between} {after} next change first second =
    became_through first (subst (λ (t : Tree). Became plan (next place) (change place t) between after) first.stands.built
    (subst (λ (p : Place). Became plan (next p) (change p (whole_tree between)) between after) first.stands.cursor second))

-- another change by which the same comes to stand there
pub changed_as : {plan : Plan} {place : Place} {before after : Frames} (f g : Tree → Tree) → f (top_tree before) ≡ g (top_tree before)
    → Became plan place (change_at (top_place before) f (whole_tree before)) before after
    → Became plan place (change_at (top_place before) g (whole_tree before)) before after
changed_as {plan} {place} {before} {after} f g same done =
    subst (λ (t : Tree). Became plan place t before after) (alike_here (top_place before) f g (whole_tree before) same) done

-- what stands there stays as it is
pub unchanged_as : {plan : Plan} {frames : Frames} → AreOpen plan frames → (g : Tree → Tree) → top_tree frames ≡ g (top_tree frames)
    → Changed plan g frames frames
unchanged_as {plan} {frames} open_now g same =
    changed_as (λ old. old) g same
    (became_marked open_now (λ n. refl) (record {
      open_still = open_now.shown;
      cursor = refl;
      built = sym (unchanged (top_place frames) (whole_tree frames));
    }))
