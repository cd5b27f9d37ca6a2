-- Laws of entries, for proofs: the entry of a key of the dynamic object on top gets a slot, and is on top then. It is one that is there,
-- or a new one behind the others, so that the object has one more key.
use Rattle.std.proofs.Common.{◌≡◌, ℕ, zero, suc, ◌<◌, true, false, Bool, List, [], ◌∷◌, ◌++◌, length, option_map, Option, Some, None, refl, sym, ◌∙◌, ap, subst, arith, if◌then◌else◌}
use Rattle.fr_store.specs.Common.{AllMarkedAmong, AllMarkedIn, AreLeftAll, AreLeftIn, AreLeftRightly, AreUnplaced, Def, EntriesKind, HasTracker, Heap, HoldsAll, IfInUse, IsLast, IsOpen, IsUnplaced, Kid, Kids, Node, NodeId, Plan, Plot, SameMarks, Shows, Slot, Tracker, Tree, as_entries, at, begun, begun_body, begun_plot, cell_of, cells_count, cells_in, child_owner, count_here, count_kids, cursor_in, depth_below, depth_limit, enter, entry_found, entry_owner, gone, heap_of, is_begun_object, is_object_tracker, keeps_same, keys_apart, keys_here, keys_of_tracker, kid, kid_here, kid_nth, left_at, no_kids, node_here, number_or_last, open_top, there, tree_here, tree_of_nth, tree_put_nth, trees_in, with_body, with_entered, with_entry_of, with_entry_unless}
use Rattle.std.specs.Str.{bytes_eq}
use Rattle.fr_frame.specs.Bodies.{keys_in, with_entry_for, with_entry_unless as body_unless, IsObjectBody}
use Rattle.fr_store.proofs.EnteringLaws.{GoesTo, child_plot, child_tree_is}
use Rattle.fr_store.proofs.ItemsOfTops.{Grows, counted, formed, formed_here, item_enters, kids_and_last, last_grows}
use Rattle.fr_store.proofs.PlacesBeside.{stay_same}

-- the number of the entry of a key, of the object at which the builder works
abbrev entry_here : (key : List ℕ) → List Slot → List ℕ → ℕ
entry_here key slots stack = number_or_last (entry_found key (keys_here (tree_here slots stack))) (count_here slots stack)

-- Objects.

pub object_tracker : (t : Tree) → is_begun_object t ≡ true → (keys : List (List ℕ)) × HasTracker (as_entries (EntriesKind.Object keys)) t
object_tracker (begun tracker ts) of_object = go tracker of_object
  where
    go : (tracker : Tracker) → is_object_tracker tracker ≡ true → (keys : List (List ℕ)) × (tracker ≡ as_entries (EntriesKind.Object keys))
    go (as_entries (EntriesKind.Object keys)) of_object = (keys, refl)
    go (as_entries (EntriesKind.Map base)) of_object = absurd (cc)
    go _ of_object = absurd (cc)
object_tracker _ of_object = absurd (cc)

keys_formed : (keys : List (List ℕ)) (t : Tree) → HasTracker (as_entries (EntriesKind.Object keys)) t → keys_here t ≡ keys
keys_formed keys (begun tracker ts) has = ap keys_of_tracker has
keys_formed keys _ has = absurd has

-- an entry that is found is there
found_within : (key : List ℕ) (keys : List (List ℕ)) {i : ℕ} → entry_found key keys ≡ Some i → i < length keys
found_within key [] e = absurd (cc)
found_within key (other ∷ keys) {i} e =
    go (bytes_eq key other) (entry_found key keys) i e (λ j later. found_within key keys later)
  where
    go : (b : Bool) (found : Option ℕ) (i : ℕ) → (if b then Some 0 else option_map suc found) ≡ Some i
        → ((j : ℕ) → found ≡ Some j → j < length keys) → i < suc (length keys)
    go true found i is rest = let first : 0 ≡ i = cc in omega (arith, first)
    go false (Some j) i is rest = let later : suc j ≡ i = cc in omega (arith, later, rest j refl)
    go false None i is rest = absurd (cc)

-- no entry is stored, so that off the way none is in a slot
entries_unplaced : (keys : List (List ℕ)) (i : ℕ) (ks : Kids) → AllMarkedAmong true ks → AreLeftAll (as_entries (EntriesKind.Object keys)) i ks
    → AreUnplaced (cells_in ks)
entries_unplaced keys i no_kids marks left = tt
entries_unplaced keys i (kid gone ks) marks left = (tt, entries_unplaced keys (suc i) ks marks.1 left.2)
entries_unplaced keys i (kid (there v) ks) marks left = (tt, entries_unplaced keys (suc i) ks marks.1 left.2)
entries_unplaced keys i (kid (at slot stored plot) ks) marks left =
    let apart : true ≡ false = sym marks.0.0 ∙ left.0 in
    absurd (cc)

unplaced_nth : (i : ℕ) (ks : Kids) → AreUnplaced (cells_in ks) → IsUnplaced (cell_of (kid_nth i ks))
unplaced_nth i no_kids closed = tt
unplaced_nth zero (kid k ks) closed = closed.0
unplaced_nth (suc i) (kid k ks) closed = unplaced_nth i ks closed.1

-- With another key the children are what they were: each is built by the node of the object itself, whatever the keys.

holds_keys : (plan : Plan) (heap : Heap) (node : NodeId) (slot : ℕ) (keys more : List (List ℕ)) (i depth : ℕ) (ks : Kids)
    → HoldsAll plan heap node slot (as_entries (EntriesKind.Object keys)) i depth ks → HoldsAll plan heap node slot (as_entries (EntriesKind.Object more)) i depth ks
holds_keys plan heap node slot keys more i depth no_kids holds = tt
holds_keys plan heap node slot keys more i depth (kid k ks) holds =
    (holds.0, holds_keys plan heap node slot keys more (suc i) depth ks holds.1)

left_keys : (keys more : List (List ℕ)) (i : ℕ) (ks : Kids) → AreLeftAll (as_entries (EntriesKind.Object keys)) i ks
    → AreLeftAll (as_entries (EntriesKind.Object more)) i ks
left_keys keys more i no_kids left = omega arith
left_keys keys more i (kid k ks) left = (left.0, left.1, left_keys keys more (suc i) ks left.2)

-- The entry of a key that it has.
entry_grows : (key : List ℕ) (keys : List (List ℕ)) (kids : Kids) {i : ℕ} → entry_found key keys ≡ Some i → i < count_kids kids
    → AreUnplaced (cells_in kids) → Grows (as_entries (EntriesKind.Object keys)) (as_entries (EntriesKind.Object keys)) kids
    kids i (with_entry_for key) (λ def. with_entry_of def key)
entry_grows key keys kids {i} is within closed = record {
  body = sym (ap (body_unless key (as_entries (EntriesKind.Object keys)) (cells_in kids)) is);
  keeps = keeps_same (begun_plot (as_entries (EntriesKind.Object keys)) kids);
  stay = λ slot. stay_same (at slot false (begun_plot (as_entries (EntriesKind.Object keys)) kids));
  used = λ n. refl;
  within = within;
  unplaced = unplaced_nth i kids closed;
  vacant = λ of_map. absurd (cc);
  tree = λ n def. ap (begun (as_entries (EntriesKind.Object keys)))
      (tree_put_nth i (at n false (child_plot def (kid_nth i kids))) (enter def) kids
      (child_tree_is def (kid_nth i kids) (unplaced_nth i kids closed) ∙ ap (enter def) (tree_of_nth i kids)))
      ∙ sym (ap (with_entry_unless def key (as_entries (EntriesKind.Object keys)) (trees_in kids)) is);
}

-- A new one.
new_entry_grows : (key : List ℕ) (keys : List (List ℕ)) (kids : Kids) → entry_found key keys ≡ None
    → Grows (as_entries (EntriesKind.Object keys)) (as_entries (EntriesKind.Object (keys ++ key ∷ []))) kids (kids_and_last kids gone) (count_kids kids)
    (with_entry_for key) (λ def. with_entry_of def key)
new_entry_grows key keys kids is =
    last_grows (as_entries (EntriesKind.Object keys)) (as_entries (EntriesKind.Object (keys ++ key ∷ []))) kids
    (sym (ap (body_unless key (as_entries (EntriesKind.Object keys)) (cells_in kids)) is)) (λ count. tt)
    (λ plan heap node slot depth h. holds_keys plan heap node slot keys (keys ++ key ∷ []) 0 depth kids h)
    (left_keys keys (keys ++ key ∷ []) 0 kids)
    (λ def. sym (ap (with_entry_unless def key (as_entries (EntriesKind.Object keys)) (trees_in kids)) is))

-- As the calls say it.
module _ {plan : Plan} {before : List Slot} {stack : List ℕ} (open_now : IsOpen plan before stack) {p : ℕ} (last : IsLast stack p)
    (of_object : is_begun_object (tree_here before stack) ≡ true) where
  abbrev keys : List (List ℕ)
  keys = (object_tracker (tree_here before stack) of_object).0

  has_object : HasTracker (as_entries (EntriesKind.Object keys)) (tree_here before stack)
  has_object = (object_tracker (tree_here before stack) of_object).1

  keys_are : keys_here (tree_here before stack) ≡ keys
  keys_are = keys_formed keys (tree_here before stack) has_object

  abbrev its : Kids
  its = (formed open_now last (as_entries (EntriesKind.Object keys)) has_object).0

  its_plot : (open_top open_now).plot ≡ begun_plot (as_entries (EntriesKind.Object keys)) its
  its_plot = (formed open_now last (as_entries (EntriesKind.Object keys)) has_object).1

  count_is : count_here before stack ≡ count_kids its
  count_is = counted open_now last (as_entries (EntriesKind.Object keys)) has_object

  pub object_here : keys_apart (keys_here (tree_here before stack)) ≡ true
      → IfInUse before p (λ (found : Node). IsObjectBody found.body × (keys_apart (keys_in found.body) ≡ true))
  object_here apart =
      formed_here open_now last (as_entries (EntriesKind.Object keys)) has_object
      (λ body. IsObjectBody body × (keys_apart (keys_in body) ≡ true)) (refl, ap keys_apart (sym keys_are) ∙ apart)

  its_unplaced : AreUnplaced (cells_in its)
  its_unplaced =
      let top = open_top open_now in
      entries_unplaced keys 0 its (subst (λ (plot : Plot). AllMarkedIn true plot) its_plot top.stored)
      (subst (λ (plot : Plot). AreLeftIn plot) its_plot
      (subst (λ (x : Kid). AreLeftRightly x) top.is (left_at (cursor_in before stack) (kid_here before stack) open_now.stands.left)))

  module _ (many : length (keys_here (tree_here before stack)) ≡ count_here before stack) (key : List ℕ) (after : List Slot)
      {next : List ℕ} (def : Def) (n : ℕ) {node : NodeId} (is : node ≡ node_here plan before stack) (vacant : heap_of
      before n ≡ None) (shows : IfInUse before p (λ (found : Node). Shows after (with_entered def (with_body (heap_of before)
      p (with_entry_for key)) node (entry_owner p key found.body) n))) (limit : IfInUse before p (λ (found : Node). depth_below
      (heap_of before) (entry_owner p key found.body) < depth_limit)) (along : next ≡ stack ++ n ∷ []) where
    -- the entry of this number is on top, no place leaves its slot, and none is stored that wasn't
    abbrev EntersAt : ℕ → Type 0
    EntersAt i = GoesTo plan before after stack next i (with_entry_of def key) × SameMarks before after

    enters : (found : Option ℕ) → entry_found key keys ≡ found → EntersAt (number_or_last found (count_kids its))
    enters (Some i) e =
        let within : i < count_kids its = omega (arith, found_within key keys e, ap length keys_are, many, count_is) in
        let grows = entry_grows key keys its e within its_unplaced in
        let owner_is : entry_owner p key (begun_body (as_entries (EntriesKind.Object keys)) (cells_in its)) ≡ child_owner p i
        = ap (λ (o : Option ℕ). child_owner p (number_or_last o (length (cells_in its)))) e in
        item_enters open_now last its_plot grows (entry_owner p key) owner_is after def n is vacant shows limit along
    enters None e =
        let grows = new_entry_grows key keys its e in
        let owner_is : entry_owner p key (begun_body (as_entries (EntriesKind.Object keys)) (cells_in its)) ≡ child_owner p
        (count_kids its) = ap (λ (o : Option ℕ). child_owner p (number_or_last o (length (cells_in its)))) e
        ∙ ap (child_owner p) (cells_count its) in
        item_enters open_now last its_plot grows (entry_owner p key) owner_is after def n is vacant shows limit along

    numbered : number_or_last (entry_found key keys) (count_kids its) ≡ entry_here key before stack
    numbered =
        ap (λ (ks : List (List ℕ)). number_or_last (entry_found key ks) (count_kids its)) (sym keys_are)
        ∙ ap (number_or_last (entry_found key (keys_here (tree_here before stack)))) (sym count_is)

    pub entry_enters : EntersAt (entry_here key before stack)
    entry_enters = subst EntersAt numbered (enters (entry_found key keys) refl)
