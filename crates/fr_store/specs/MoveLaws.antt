-- Laws of moves, for proofs: putting something else at the top, and leaving it.
use Rattle.std.proofs.Common.{◌≡◌, ◌≢◌, ℕ, false, List, [], ◌∷◌, ◌++◌, Option, Some, sym, ◌∙◌, ap, subst, arith}
use Rattle.std.specs.Prelude.{is_some, IsSome, IsSomeAnd}
use Rattle.std.proofs.lemmas.List.{same_from_push}
use Rattle.fr_store.specs.Below.{Body, FrameOwner, Heap, IfInUse, IsClosed, IsInUse, Kid, Node, Place, Plan, Plot, Room, Room_same, Shows, Slot, Tree, at, body_in, body_occurs, change_at, heap_of, kid_occurs, slots_occur, tree_in, tree_occurs, tree_of, with_body}
use Rattle.fr_store.specs.StackMoves.{IsOpenAt, cursor_in, tree_in_slots, tree_here, tokens_here}
use Rattle.fr_store.specs.Numbers.{IsLast}
use Rattle.fr_store.specs.HoldLaws.{none_stored}
use Rattle.fr_store.specs.StandLaws.{all_kept, stands_reach, open_from, cursor_is, tree_is, AllServe}
use Rattle.fr_store.specs.Stands.{Stands, IsOpen, kid_here, kid_shown}
use Rattle.fr_store.specs.Stored.{NothingStored}
use Rattle.fr_store.specs.TokenLaws.{tokens_held}
use Rattle.fr_store.specs.TopLaws.{body_here, body_other, closed_occur, closed_top, open_node, top_uses, used_mapped, KeepsChildren, LosesNone, Top, top_of, top_replaced}
use Rattle.fr_store.specs.Ways.{kid_at, put_at, slots_above, NoneStored, Reaches}
use Rattle.fr_store.specs.WayLaws.{tree_put_at, tree_of_at, tree_tokens}

-- Lists that end alike.

pub same_last : (xs ys : List ℕ) (x y : ℕ) → xs ++ x ∷ [] ≡ ys ++ y ∷ [] → x ≡ y
same_last xs ys x y e = (same_from_push xs ys x y e).1

pub same_front : (xs ys : List ℕ) (x y : ℕ) → xs ++ x ∷ [] ≡ ys ++ y ∷ [] → xs ≡ ys
same_front xs ys x y e = (same_from_push xs ys x y e).0

-- What is known of an open builder's top.

pub open_top : {plan : Plan} {slots : List Slot} {stack : List ℕ} (open_now : IsOpen plan slots stack)
    → Top plan (heap_of slots) stack (cursor_in slots stack) (kid_shown (heap_of slots) stack)
open_top {plan} {slots} {stack} open_now = top_of open_now.stands

-- the way leads to it
pub open_reach : {plan : Plan} {slots : List Slot} {stack : List ℕ} → IsOpen plan slots stack
    → Reaches (cursor_in slots stack) (kid_here slots stack)
open_reach open_now = stands_reach open_now.stands

-- where nothing is stored no place of it is, and the top has no child in a slot
pub open_strict : {plan : Plan} {slots : List Slot} {stack : List ℕ} → IsOpen plan slots stack → NothingStored slots
    → NoneStored (kid_shown (heap_of slots) stack)
open_strict {plan} {slots} {stack} open_now none =
    none_stored plan (heap_of slots) plan.root FrameOwner.Root 0 (kid_shown (heap_of slots) stack) open_now.stands.holds none

pub closed_open : {plan : Plan} {slots : List Slot} {stack : List ℕ} (open_now : IsOpen plan slots stack) → NothingStored slots
    → IsClosed (body_in (open_top open_now).plot)
closed_open {plan} {slots} {stack} open_now none = closed_top (open_top open_now) (open_strict open_now none)

module _ {plan : Plan} {slots : List Slot} {stack : List ℕ} (open_now : IsOpen plan slots stack) {n : ℕ}
    (last : IsLast stack n) where
  pub top_slot : (open_top open_now).slot ≡ n
  top_slot =
      same_last (slots_above (cursor_in slots stack) (kid_shown (heap_of slots) stack)) last.0 (open_top open_now).slot
      n (sym (open_top open_now).last ∙ last.1)

  -- what is in the last slot of the stack
  unfoldable pub top_node : Node
  top_node = open_node plan (cursor_in slots stack) (kid_shown (heap_of slots) stack) (body_in (open_top open_now).plot)

  pub top_found : heap_of slots n ≡ Some top_node
  unfolding top_node
  top_found = ap (heap_of slots) (sym top_slot) ∙ (open_top open_now).here

  pub top_in_use : IsInUse slots n
  top_in_use = ap is_some top_found

  -- what is said of the place in it holds of this
  pub top_so : (So : Node → Type 0) → IfInUse slots n So → So top_node
  top_so So so = subst (λ (found : Option Node). IsSomeAnd found So) top_found so

  pub so_top : (So : Node → Type 0) → So top_node → IfInUse slots n So
  so_top So so = subst (λ (found : Option Node). IsSomeAnd found So) (sym top_found) so

  -- where none of its children is in a slot, its tokens are those that stand at the cursor
  pub top_tokens : IsClosed (body_in (open_top open_now).plot) → (t : ℕ)
      → body_occurs top_node.body t ≡ tree_occurs (tree_here slots stack) t
  unfolding top_node
  top_tokens closed t =
      let top = open_top open_now in
      sym (closed_occur top.plot t closed) ∙ ap (λ (k : Kid). kid_occurs k t) (sym top.is)
      ∙ tree_tokens (kid_at (cursor_in slots stack) (kid_shown (heap_of slots) stack)) t
      ∙ ap (λ (tree : Tree). tree_occurs tree t) (tree_of_at (cursor_in slots stack) (kid_shown (heap_of slots) stack))

-- An open builder, from what stands.
pub open_at_from : {plan : Plan} (slots : List Slot) {stack : List ℕ} {place : Place} {k : Kid} {tree : Tree} → Stands plan
    (heap_of slots) stack place k → AllServe (heap_of slots) k → tree_of k ≡ tree → IsOpenAt plan slots stack place tree
open_at_from {plan} slots {stack} {place} {k} stands all is = record {
  open_still = open_from slots stands all;
  cursor = cursor_is stands;
  built = tree_is stands ∙ is;
}

-- the slots hold the tokens of the tree
pub slots_tokens : {plan : Plan} {slots : List Slot} {stack : List ℕ} → IsOpen plan slots stack → (t : ℕ)
    → slots_occur slots t ≡ tree_occurs (tree_in_slots slots stack) t
slots_tokens {plan} {slots} {stack} open_now t =
    tokens_held slots open_now.stands open_now.all t ∙ tree_tokens (kid_here slots stack) t

-- Something else is put at the top: of its children those that are in slots were there before, and stay as they are.
pub top_stands_in : {plan : Plan} {before : List Slot} (other : Heap) {stack : List ℕ} (open_now : IsOpen plan before stack)
    {n : ℕ} → IsLast stack n → (change : Body → Body) {new : Plot} → body_in new ≡ change (body_in (open_top open_now).plot)
    → KeepsChildren (open_top open_now).plot new
    → ((m : ℕ) → other m ≡ with_body (heap_of before) n change m) → Stands plan other stack (cursor_in before stack)
    (put_at (cursor_in before stack) (at (open_top open_now).slot false new) (kid_here before stack))
top_stands_in {plan} {before} other {stack} open_now {n} last change {new} is keeps shows =
    let k : Kid = kid_shown (heap_of before) stack in
    let place : Place = cursor_in before stack in
    let top = open_top open_now in
    let same : top.slot ≡ n = top_slot open_now last in
    let here : other top.slot ≡ Some (open_node plan place k (body_in new))
    = shows top.slot ∙ ap (λ (m : ℕ). with_body (heap_of before) m change top.slot) (sym same)
    ∙ body_here (heap_of before) top.slot change top.here ∙ ap (λ (b : Body). Some (open_node plan place k b)) (sym is) in
    let beside : (m : ℕ) → m ≢ top.slot → other m ≡ heap_of before m
    = λ m ne. shows m ∙ ap (λ (x : ℕ). with_body (heap_of before) x change m) (sym same)
    ∙ body_other (heap_of before) top.slot change m ne in
    top_replaced other open_now.stands top keeps here (λ m ne stays. beside m ne)

pub top_stands : {plan : Plan} {before : List Slot} (after : List Slot) {stack : List ℕ} (open_now : IsOpen plan before stack)
    {n : ℕ} → IsLast stack n → (change : Body → Body) {new : Plot} → body_in new ≡ change (body_in (open_top open_now).plot)
    → KeepsChildren (open_top open_now).plot new
    → Shows after (with_body (heap_of before) n change) → Stands plan (heap_of after) stack (cursor_in before stack)
    (put_at (cursor_in before stack) (at (open_top open_now).slot false new) (kid_here before stack))
top_stands {plan} {before} after {stack} open_now {n} last change {new} is keeps shows =
    top_stands_in (heap_of after) open_now last change is keeps shows

-- the builder is open then, where no child that was in a slot is lost
pub top_changed : {plan : Plan} {before : List Slot} (after : List Slot) {stack : List ℕ} (open_now : IsOpen plan before stack)
    {n : ℕ} → IsLast stack n → (change : Body → Body) {new : Plot} → body_in new ≡ change (body_in (open_top open_now).plot)
    → KeepsChildren (open_top open_now).plot new → LosesNone (open_top open_now).plot new
    → Shows after (with_body (heap_of before) n change) → IsOpenAt plan after stack (cursor_in before stack)
    (change_at (cursor_in before stack) (λ old. tree_in new) (tree_in_slots before stack))
top_changed {plan} {before} after {stack} open_now {n} last change {new} is keeps loses shows =
    let k : Kid = kid_shown (heap_of before) stack in
    let place : Place = cursor_in before stack in
    let top = open_top open_now in
    open_at_from after (top_stands after open_now last change is keeps shows) (all_kept
    (heap_of before) (heap_of after) place (at top.slot false new) k (open_reach open_now) open_now.all (λ m used. used_mapped
    (heap_of before) n (λ (x : Node). record x { body = change x.body }) m (subst (λ (o : Option Node). IsSome o) (shows m) used))
    (λ m. omega (arith, top_uses open_now.stands top m, loses m))) (tree_put_at place (at top.slot false new) k)

-- Where none of the top's children is in a slot.
module _ {plan : Plan} {before : List Slot} {stack : List ℕ} (open_now : IsOpen plan before stack) {n : ℕ} (last : IsLast stack n)
    (closed : IsClosed (body_in (open_top open_now).plot)) where
  -- there is room to release what stands at the top
  pub top_room : (ledger : List ℕ) → Room (tokens_here before stack) ledger
      → IfInUse before n (λ (found : Node). Room (body_occurs found.body) ledger)
  top_room ledger room =
      so_top open_now last (λ (found : Node). Room (body_occurs found.body) ledger) (Room_same (tokens_here before stack)
      (body_occurs (top_node open_now last).body) ledger (λ t. sym (top_tokens open_now last closed t)) room)
