-- An open builder goes on to a child, by each of the ways to one: what is asked of the place on top, and what comes of it.
use Rattle.std.proofs.Common.{◌≡◌, ℕ, ◌<◌, false, List, [], ◌∷◌, ◌++◌, Option, Some, None, IsSomeAnd, sym, ◌∙◌, ap, refl}
use Rattle.fr_store.specs.Common.{Body, ChildWay, Def, EntriesKind, HasTracker, IfInUse, IsGrowing, IsKept, IsLast, IsMapBody, IsOpen, IsStoredBy, MayEnter, Node, NodeId, Plan, SameMarks, Shows, Slot, Tracker, Tree, as_entries, begun, child_node, child_number, child_owner, depth_below, depth_limit, entered_by, heap_of, marked_entered, node_by, node_here, so_top, stored_in, tracker_in, tree_here, with_entered, with_mark}
use Rattle.fr_frame.specs.Growing.{MayEnter as MayBeEntered, number_by, widened}
use Rattle.fr_store.proofs.AgainLaws.{open_again}
use Rattle.fr_store.proofs.EnteringLaws.{GoesTo, open_entered}
use Rattle.fr_store.proofs.ObjectEntries.{entry_enters, object_here, object_tracker}
use Rattle.fr_store.proofs.ItemsOfTops.{child_enters, entries_grow, formed, formed_here, items_grow, map_tracker}

-- what a begun place is begun as
tracker_is : (tree : Tree) (tracker : Tracker) → HasTracker tracker tree → tracker_in tree ≡ tracker
tracker_is (begun made ts) tracker has = has
tracker_is _ tracker has = absurd has

-- what is so of whatever is found
whatever : {P : Type 0} (found : Option Node) → IsSomeAnd found (λ (at : Node). P) → P
whatever (Some at) so = so
whatever None so = absurd so

module _ {plan : Plan} {before : List Slot} {stack : List ℕ} (open_now : IsOpen plan before stack) {p : ℕ}
    (last : IsLast stack p) where
  pub may_be_entered : (way : ChildWay) → MayEnter way (tree_here before stack)
      → IfInUse before p (λ (found : Node). MayBeEntered way found.body)
  may_be_entered (ChildWay.Child i) may = so_top open_now last (λ (found : Node). Unit {0}) tt
  may_be_entered ChildWay.Item may =
      formed_here open_now last (tracker_in (tree_here before stack)) may.0 (λ (body : Body). IsGrowing body) may.1
  may_be_entered ChildWay.Key may =
      let made = map_tracker (tree_here before stack) may in
      formed_here open_now last (as_entries (EntriesKind.Map made.0)) made.1 (λ (body : Body). IsMapBody body) (made.0, refl)
  may_be_entered (ChildWay.Entry key) may = object_here open_now last may.0 may.1

  module _ (after : List Slot) {next : List ℕ} (def : Def) (n : ℕ) (node : NodeId) (vacant : heap_of before n ≡ None)
      (along : next ≡ stack ++ n ∷ []) where
    -- the child is on top, no place leaves its slot, and none is stored that wasn't, nor taken out of the store
    abbrev Enters : ChildWay → Type 0
    Enters way =
        GoesTo plan before after stack next (child_number way (tree_here before stack)) (entered_by way def)
        × SameMarks before after

    pub enters : (way : ChildWay) → MayEnter way (tree_here before stack) → node ≡ node_by plan before stack way
        → ((child : ℕ) → IsStoredBy way (heap_of before) p child → ⊥) → IfInUse before p (λ (found : Node).
        Shows after (with_entered def (widened way p (heap_of before)) node (child_owner p (number_by way found.body)) n))
        → IfInUse before p (λ (found : Node). depth_below (heap_of before) (child_owner p (number_by way found.body)) < depth_limit)
        → Enters way
    enters (ChildWay.Child i) may is none shows limit =
        let shown : Shows after (with_entered def (heap_of before) node (child_owner p i) n) = whatever (heap_of before p) shows in (
          open_entered open_now last after (tracker_in (tree_here before stack)) i def n may.0 may.1 is none vacant
              shown (whatever (heap_of before p) limit) along,
          λ m. ap stored_in (shown m) ∙ marked_entered def (heap_of before) node (child_owner p i) n m vacant,
        )
    enters ChildWay.Item may is none shows limit =
        let tracker = tracker_in (tree_here before stack) in
        let its = (formed open_now last tracker may.0).0 in
        child_enters open_now last tracker may.0 (items_grow tracker its may.1) after def n is vacant shows limit along
    enters ChildWay.Key may is none shows limit =
        let made = map_tracker (tree_here before stack) may in
        let map : Tracker = as_entries (EntriesKind.Map made.0) in
        let its = (formed open_now last map made.1).0 in
        child_enters open_now last map made.1 (entries_grow made.0 its) after def n (is ∙ ap (λ (tracker : Tracker).
        child_node plan (node_here plan before stack) tracker (child_number ChildWay.Key (tree_here before stack)))
        (tracker_is (tree_here before stack) map made.1)) vacant shows limit along
    enters (ChildWay.Entry key) may is none shows limit =
        let made = object_tracker (tree_here before stack) may.0 in
        let its : node ≡ node_here plan before stack
        = is ∙ ap (λ (tracker : Tracker). child_node plan (node_here plan before stack) tracker (child_number (ChildWay.Entry key) (tree_here before stack)))
        (tracker_is (tree_here before stack) (as_entries (EntriesKind.Object made.0)) made.1) in
        entry_enters open_now last may.0 may.2 key.now after def n its vacant shows limit along

-- what is stored is listed as before
pub kept_marked : (store : List ℕ) (before after : List Slot) → IsKept store before → SameMarks before after → IsKept store after
kept_marked store before after kept same m = (λ stored. (kept m).0 (sym (same m) ∙ stored), λ listed. same m ∙ (kept m).1 listed)

-- a child that was stored is on top again
module _ {plan : Plan} {before : List Slot} (after : List Slot) {stack next : List ℕ} (open_now : IsOpen plan before stack)
    {p : ℕ} (last : IsLast stack p) (def : Def) (child : ℕ) (shows : Shows after (with_mark (heap_of before) child false))
    (along : next ≡ stack ++ child ∷ []) where
  pub again : (way : ChildWay) → MayEnter way (tree_here before stack) → IsStoredBy way (heap_of before) p child
      → GoesTo plan before after stack next (child_number way (tree_here before stack)) (entered_by way def)
  again (ChildWay.Child i) may stored =
      open_again after open_now last (tracker_in (tree_here before stack)) def may.0 stored shows along
  again _ may stored = absurd stored
