-- A place whose value leaves it.
use Rattle.std.proofs.Common.{◌≡◌, ◌≢◌, ◌⊎◌, ℕ, zero, suc, ◌+◌, Bool, true, false, List, [], ◌∷◌, Option, Some, None, IsSome, IsSomeAnd, is_some, slice_get, set, nat_eq, inl, inr, refl, sym, ◌∙◌, ap, ap₂, subst, arith, if◌then◌else◌}
use Rattle.fr_frame.specs.Common.{Becomes, Body, Cell, Conserved, FrameOwner, Heap, IfInUse, IsInUse, Node, PartialValue, Place, Shows, Slot, SlotId, Tracker, Val, Value, absent, and_item_cell, begun_body, body_of, cell_at, entered_body, gives, heap_of, held_by, made, node_in, node_of, option_and_then, placed, unlinked, unlinks, value_of, value_of_cell, values_of, view, whole_body, with_body, with_cell, with_ended, with_slot, without, without_cell}
use Rattle.fr_frame.specs.Bodies.{can_make, unlinked_by}
use Rattle.fr_frame.specs.Handing.{MayTake, handed, unhanded, IsHanded, IsMadeWhole, IsTakenWhole, IsWhole}
use Rattle.fr_frame.specs.Heap.{ends}
use Rattle.fr_frame.specs.declared.places.Taker.{Taker}
use Rattle.fr_frame.proofs.HeapLaws.{changed, shown_is, slot_twice, with_body_twice, with_here, with_other}
use Rattle.fr_values.specs.SliceLaws.{same_number, set_gets}
use Rattle.fr_frame.proofs.ChangedPlaces.{becomes, found_so, in_use_so, of_node, with_partial}
use Rattle.fr_values.specs.CellLaws.{none_more}
use Rattle.std.proofs.lemmas.List.{set-set}
use Rattle.std.proofs.lemmas.Option.{same_Some}

-- Places and their children.

-- a child in a slot that leaves it, and is something else then
pub relinked : (tracker : Tracker) (cells : List Cell) (i n : ℕ) (c : Cell) → slice_get cells i ≡ Some (placed n)
    → with_cell (unlinked n i (begun_body tracker cells)) i c ≡ begun_body tracker (set cells i c)
relinked tracker cells i n c e = rw (e, same_number, set-set) refl

-- a child that leaves its slot isn't there
cell_left : (body : Body) (i n : ℕ) → cell_at body i ≡ Some (placed n) → cell_at (unlinked n i body) i ≡ Some absent
cell_left (begun_body tracker cells) i n e = rw (e, same_number) (set_gets cells i (placed n) absent e)
cell_left _ i n e = cc

-- a place with a child in a slot has no value
no_value_among : (cells : List Cell) (i n : ℕ) → slice_get cells i ≡ Some (placed n) → values_of cells ≡ None
no_value_among [] i n e = cc
no_value_among (c ∷ cells) zero n e = let same : c ≡ placed n = cc in rw same refl
no_value_among (c ∷ cells) (suc i) n e = rw (no_value_among cells i n e) (none_more (value_of_cell c))

no_value_placed : (body : Body) (i n : ℕ) → cell_at body i ≡ Some (placed n) → value_of body ≡ None
no_value_placed (begun_body tracker cells) i n e = rw (no_value_among cells i n e) (neither (can_make tracker cells))
  where
    neither : (can : Bool) → (if can then made tracker None else None) ≡ None
    neither true = refl
    neither false = refl
no_value_placed _ i n e = cc

-- it doesn't matter what is at a child that goes
without_set : (cells : List Cell) (i : ℕ) (c : Cell) → without_cell i (set cells i c) ≡ without_cell i cells
without_set [] i c = refl
without_set (x ∷ cells) zero c = refl
without_set (x ∷ cells) (suc i) c = ap (λ (l : List Cell). x ∷ l) (without_set cells i c)

-- a begun place is begun as before where a child leaves it, and its other children are the same
unlinked_begun : (n i : ℕ) (tracker : Tracker) (cells : List Cell)
    → (left : List Cell) × (unlinked n i (begun_body tracker cells) ≡ begun_body tracker left) × (without_cell i left ≡ without_cell i cells)
unlinked_begun n i tracker cells = go (slice_get cells i)
  where
    Left : Body → Type 0
    Left body = (left : List Cell) × (body ≡ begun_body tracker left) × (without_cell i left ≡ without_cell i cells)

    by : (b : Bool) → Left (if b then begun_body tracker (set cells i absent) else begun_body tracker cells)
    by true = (set cells i absent, refl, without_set cells i absent)
    by false = (cells, refl, refl)

    go : (found : Option Cell) → Left (unlinked_by n i (begun_body tracker cells) found)
    go (Some (placed m)) = by (nat_eq m n)
    go _ = (cells, refl, refl)

ended_unlinked : (n i : ℕ) (v : Val) (body : Body) → with_ended i v (unlinked n i body) ≡ with_ended i v body
ended_unlinked n i v (begun_body tracker cells) =
    let left = unlinked_begun n i tracker cells in
    ap (with_ended i v) left.1 ∙ ap (λ (l : List Cell). begun_body tracker (and_item_cell l v)) left.2
ended_unlinked n i v entered_body = refl
ended_unlinked n i v (whole_body u) = refl

-- Heaps.

pub so_of : (found : Option Node) (at : Node) (So : Node → Type 0) → found ≡ Some at → IsSomeAnd found So → So at
so_of found at So e so = subst (λ (o : Option Node). IsSomeAnd o So) e so

pub in_use : (slots : List Slot) (n : ℕ) (So : Node → Type 0) → IfInUse slots n So → IsInUse slots n
in_use slots n So h = ap is_some (found_so (heap_of slots n) So h).1

-- what an owner holds is held by the place above
pub held_so : (found : Option Node) (i : ℕ) (c : Cell) → option_and_then (λ (x : Node). cell_at x.body i) found ≡ Some c
    → IsSomeAnd found (λ (at : Node). cell_at at.body i ≡ Some c)
held_so (Some at) i c e = e
held_so None i c e = cc

-- the value of the place in slot n may be taken so, where what its owner has stays as it is
may_same : (taker : Taker) (n : ℕ) (owner : FrameOwner) (a b : Heap) → (held_by a owner ≡ Some (placed n) → (parent : SlotId) (i : ℕ)
    → owner ≡ FrameOwner.Child parent i → a parent.0 ≡ b parent.0) → MayTake taker n owner a → MayTake taker n owner b
may_same Taker.Above n (FrameOwner.Child parent i) a b same h = rw (same h parent i refl) at h
may_same Taker.Set n (FrameOwner.Child parent i) a b same h = rw (same h.0 parent i refl) at h
may_same Taker.Above n FrameOwner.Root a b same h = h
may_same Taker.Set n FrameOwner.Root a b same h = h
may_same Taker.Itself n owner a b same h = h

-- a place that its owner has in slot n, and the owner's slot
module _ (heap : Heap) (n : ℕ) (at : Node) (here : heap n ≡ Some at) (none : (i : ℕ) → cell_at at.body i ≡ Some (placed n) → ⊥) where
  apart : (parent : SlotId) (i : ℕ) → held_by heap (FrameOwner.Child parent i) ≡ Some (placed n) → parent.0 ≢ n
  apart parent i owned e = none i (ap (option_and_then (λ (x : Node). cell_at x.body i)) (sym here ∙ sym (ap heap e)) ∙ owned)

  module _ (parent : SlotId) (i : ℕ) (owned : held_by heap (FrameOwner.Child parent i) ≡ Some (placed n)) where
    above_left : without heap n (FrameOwner.Child parent i) parent.0 ≡ changed (unlinked n i) (heap parent.0)
    above_left =
        with_here (with_slot heap n None) parent.0 (changed (unlinked n i) (with_slot heap n None parent.0))
        ∙ ap (changed (unlinked n i)) (with_other heap n None parent.0 (apart parent i owned))

    child_left : held_by (without heap n (FrameOwner.Child parent i)) (FrameOwner.Child parent i) ≡ Some absent
    child_left =
        let above = found_so (heap parent.0) _ (held_so (heap parent.0) i (placed n) owned) in
        ap (option_and_then (λ (x : Node). cell_at x.body i)) (above_left ∙ ap (changed (unlinked n i)) above.1)
        ∙ cell_left above.0.body i n above.2

-- A whole place.

pub no_child : (body : Body) → IsWhole body → (i n : ℕ) → cell_at body i ≡ Some (placed n) → ⊥
no_child (whole_body v) h i n e = cc
no_child _ h i n e = h

-- It was taken out of its slot, with its owner and what was put at it.
module _ (slots left : List Slot) (n : ℕ) (owner : FrameOwner) (partial : PartialValue)
    (whole : IfInUse slots n (λ (at : Node). IsWhole at.body))
    (owned : IfInUse slots n (λ (at : Node). held_by (heap_of slots) at.owner ≡ Some (placed n)))
    (of_owner : IfInUse slots n (λ (at : Node). at.owner ≡ owner)) (of_body : IfInUse slots n (λ (at : Node). at.body ≡ body_of partial)) where
  its_node : (at : Node) × (heap_of slots n ≡ Some at) × IsWhole at.body
  its_node = found_so (heap_of slots n) (λ (at : Node). IsWhole at.body) whole

  its : (So : Node → Type 0) → IfInUse slots n So → So its_node.0
  its So h = so_of (heap_of slots n) its_node.0 So its_node.1 h

  owner_is : its_node.0.owner ≡ owner
  owner_is = its (λ (at : Node). at.owner ≡ owner) of_owner

  is_owned : held_by (heap_of slots) owner ≡ Some (placed n)
  is_owned = ap (held_by (heap_of slots)) (sym owner_is) ∙ its (λ (at : Node). held_by (heap_of slots) at.owner ≡ Some (placed n)) owned

  pub taken_whole : (parent : SlotId) (i : ℕ) (value : Value)
      → IfInUse slots n (λ (at : Node). Shows left (without (heap_of slots) n at.owner))
      → owner ≡ FrameOwner.Child parent i → partial ≡ PartialValue.Whole value
      → IsTakenWhole slots left n (FrameOwner.Child parent i) (view value)
  taken_whole parent i value shown child partial_is = record {
    at = its_node.0;
    here = its_node.1;
    whole = its (λ (at : Node). at.body ≡ body_of partial) of_body ∙ ap body_of partial_is;
    of_owner = owner_is ∙ child;
    left = left_so;
    absent_now =
        ap (λ (heap : Heap). held_by heap (FrameOwner.Child parent i))
        (shown_is left (without (heap_of slots) n (FrameOwner.Child parent i)) left_so)
        ∙ child_left (heap_of slots) n its_node.0 its_node.1 (λ k. no_child its_node.0.body its_node.2 k n) parent i
        (ap (held_by (heap_of slots)) (sym child) ∙ is_owned);
  }
    where
      left_so : Shows left (without (heap_of slots) n (FrameOwner.Child parent i))
      left_so =
          subst (λ (o : FrameOwner). Shows left (without (heap_of slots) n o)) (owner_is ∙ child)
          (its (λ (at : Node). Shows left (without (heap_of slots) n at.owner)) shown)

-- it is handed over as the value of the place that is in the slot
pub handed_so : (taker : Taker) (before after : List Slot) (n : ℕ) (at : Node) → heap_of before n ≡ Some at
    → ((v : Val) → value_of at.body ≡ Some v → Shows after (handed taker n at.owner v (heap_of before))) → IsHanded taker before after n
handed_so taker before after n at here so =
    of_node (heap_of before n) at
    (λ (at : Node). (v : Val) → value_of at.body ≡ Some v → Shows after (handed taker n at.owner v (heap_of before))) here so

-- Its value went on.
pub passed : (before left : List Slot) (n : ℕ) (owner : FrameOwner) (v : Val) → IsTakenWhole before left n owner v
    → (taker : Taker) (after : List Slot) (put : FrameOwner → Val → Heap → Heap)
    → put owner v (without (heap_of before) n owner) ≡ handed taker n owner v (heap_of before)
    → Shows after (put owner v (heap_of left)) → IsHanded taker before after n
passed before left n owner v t taker after put same shown =
    handed_so taker before after n t.at t.here (λ w is.
    subst (Shows after) (ap (put owner v) (shown_is left (without (heap_of before) n owner) t.left) ∙ same
    ∙ ap₂ (λ (o : FrameOwner) (x : Val). handed taker n o x (heap_of before)) (sym t.of_owner)
    (same_Some v w (sym (ap value_of t.whole) ∙ is))) shown)

pub ends_unlinked : (heap : Heap) (n : ℕ) (parent : SlotId) (i : ℕ) (v : Val)
    → ends (FrameOwner.Child parent i) v (without heap n (FrameOwner.Child parent i))
    ≡ ends (FrameOwner.Child parent i) v (with_slot heap n None)
ends_unlinked heap n parent i v =
    with_body_twice (with_slot heap n None) parent.0 (unlinked n i) (with_ended i v)
    ∙ (λ j. with_body (with_slot heap n None) parent.0 (λ body. ended_unlinked n i v body j))

-- A place that is made whole where it is.
pub made_here : (slots : List Slot) (n : ℕ) (at : Place) → slice_get slots n ≡ Some (Slot.Used at) → (partial : PartialValue)
    → IfInUse slots n (λ (x : Node). IsSome (value_of x.body))
    → ((v : Val) → value_of (body_of at.partial) ≡ Some v → body_of partial ≡ whole_body v)
    → IsMadeWhole slots (set slots n (Slot.Used (with_partial at partial))) n
made_here slots n at was partial complete whole = record {
  at = node_of at;
  here = ap (option_and_then node_in) was;
  value = value.0;
  made = value.1;
  now =
      subst (Becomes slots (set slots n (Slot.Used (with_partial at partial))) n (node_of at)) (whole value.0 value.1)
      (becomes slots n at was partial);
}
  where
    some : (found : Option Val) → IsSome found → (v : Val) × (found ≡ Some v)
    some None h = cc
    some (Some v) h = (v, refl)

    value : (v : Val) × (value_of (body_of at.partial) ≡ Some v)
    value =
        some (value_of (body_of at.partial)) (so_of (heap_of slots n) (node_of at) (λ (x : Node). IsSome (value_of x.body))
        (ap (option_and_then node_in) was) complete)

-- A place that was made whole where it is, before its value is handed over.
module _ (before mid : List Slot) (n : ℕ) (m : IsMadeWhole before mid n) where
  abbrev now : Node
  now = record m.at { body = whole_body m.value }

  mid_here : heap_of mid n ≡ Some now
  mid_here = m.now n ∙ with_here (heap_of before) n (Some now)

  mid_is : heap_of mid ≡ with_slot (heap_of before) n (Some now)
  mid_is = shown_is mid (with_slot (heap_of before) n (Some now)) m.now

  pub may_still : (taker way : Taker) → taker ≡ way → IfInUse before n (λ (at : Node). MayTake taker n at.owner (heap_of before))
      → IfInUse mid n (λ (at : Node). MayTake way n at.owner (heap_of mid))
  may_still taker way is may =
      of_node (heap_of mid n) now (λ (at : Node). MayTake way n at.owner (heap_of mid)) mid_here
      (may_same way n m.at.owner (heap_of before) (heap_of mid) same (subst (λ (x : Taker). MayTake x n m.at.owner (heap_of before)) is
      (so_of (heap_of before n) m.at (λ (at : Node). MayTake taker n at.owner (heap_of before)) m.here may)))
    where
      no_placed : (i : ℕ) → cell_at m.at.body i ≡ Some (placed n) → ⊥
      no_placed i e = let no : Some m.value ≡ None = sym m.made ∙ no_value_placed m.at.body i n e in cc

      same : held_by (heap_of before) m.at.owner ≡ Some (placed n) → (parent : SlotId) (i : ℕ) → m.at.owner ≡ FrameOwner.Child parent i
          → heap_of before parent.0 ≡ heap_of mid parent.0
      same owned parent i is =
          sym (m.now parent.0 ∙ with_other (heap_of before) n (Some now) parent.0
          (apart (heap_of before) n m.at m.here no_placed parent i (ap (held_by (heap_of before)) (sym is) ∙ owned)))

  handed_same : (taker : Taker) (owner : FrameOwner) (v : Val) → handed taker n owner v (heap_of mid) ≡ handed taker n owner v (heap_of before)
  handed_same taker owner v = ap (handed taker n owner v) mid_is ∙ go taker
    where
      gone : with_slot (with_slot (heap_of before) n (Some now)) n None ≡ with_slot (heap_of before) n None
      gone = slot_twice (heap_of before) n (Some now) None

      put : Option Node → Option Node
      put found = changed (λ (old : Body). whole_body v) found

      go : (way : Taker) → handed way n owner v (with_slot (heap_of before) n (Some now)) ≡ handed way n owner v (heap_of before)
      go Taker.Above = ap (λ (heap : Heap). gives owner v (unlinks owner n heap)) gone
      go Taker.Set = ap (ends owner v) gone
      go Taker.Itself =
          slot_twice (heap_of before) n (Some now) (put (with_slot (heap_of before) n (Some now) n))
          ∙ ap (λ (found : Option Node). with_slot (heap_of before) n (put found)) (with_here (heap_of before) n (Some now))
          ∙ ap (λ (found : Option Node). with_slot (heap_of before) n (put found)) (sym m.here)

  pub handed_on : (taker way : Taker) (after : List Slot) → taker ≡ way → IsHanded way mid after n → IsHanded taker before after n
  handed_on taker way after is_way h =
      rw is_way (handed_so way before after n m.at m.here (λ w is. subst (Shows after) (handed_same way m.at.owner w)
      (so_of (heap_of mid n) now
      (λ (at : Node). (u : Val) → value_of at.body ≡ Some u → Shows after (handed way n at.owner u (heap_of mid))) mid_here h w
      (sym m.made ∙ is))))

-- There was no memory for the value: the heap is as it was.
module _ (before mid : List Slot) (n : ℕ) (same : Shows mid (heap_of before)) where
  left : (after : List Slot) → IfInUse mid n (λ (at : Node). Shows after (without (heap_of mid) n at.owner))
      → IfInUse before n (λ (at : Node). Shows after (without (heap_of before) n at.owner))
  left after h =
      subst (λ (heap : Heap). IsSomeAnd (heap n) (λ (at : Node). Shows after (without heap n at.owner)))
      (shown_is mid (heap_of before) same) h

  -- it was released, unless it is there still
  pub left_still : (taker : Taker) (after : List Slot) → (taker ≡ Taker.Above) ⊎ (taker ≡ Taker.Set)
      → IfInUse mid n (λ (at : Node). Shows after (without (heap_of mid) n at.owner))
      → IfInUse before n (λ (at : Node). Shows after (unhanded taker n at.owner (heap_of before)))
  left_still taker after (inl e) h = rw e (left after h)
  left_still taker after (inr e) h = rw e (left after h)

  pub stays : (So : Node → Type 0) (taker : Taker) → taker ≡ Taker.Itself → IfInUse before n So
      → IfInUse before n (λ (at : Node). Shows mid (unhanded taker n at.owner (heap_of before)))
  stays So taker is h = rw is (in_use_so before n So (λ (at : Node). Shows mid (heap_of before)) (λ at so. same) h)

-- Tokens: what was put at a place was taken out, and its value given to another, or released.

pub moved_conserved : (held after more now : ℕ → ℕ) (before ledger : List ℕ) → Conserved held before after ledger
    → ((t : ℕ) → more t + after t ≡ held t + now t) → Conserved more before now ledger
moved_conserved held after more now before ledger c change = record {
  same_length = c.same_length;
  kept_or_released = λ t. omega (arith, c.kept_or_released t, change t);
  none_falls = c.none_falls;
}
