-- An item that completes: its slot has its value from then on, and contracts see its list with the value.
use Rattle.std.proofs.Common.{◌≡◌, ◌≢◌, ◌⊎◌, ℕ, ◌+◌, ◌-◌, Bool, List, length, Option, Some, None, IsSomeAnd, get_or, slice_get, set, length-set, option_map, inl, inr, refl, sym, ◌∙◌, ap, subst, arith, if◌then◌else◌}
use Rattle.fr_frame.specs.Common.{Body, Cell, FrameOwner, Heap, HeldItems, IfInUse, IsSeenAs, Item, Node, PartialValue, Place, SameTokens, Shows, Slot, SlotId, Val, Value, as_tracker, body_occurs, body_of, cell_at, children_with, given, gives, heap_of, held_by, held_items, item_in, item_or, node_in, node_of, occurs, option_and_then, partial_with, placed, slot_occurs, slot_seen, slots_occur, slots_seen, unlinked, value_held, value_of, view, with_cell, with_slot, without}
use Rattle.fr_frame.specs.Handing.{handed, IsHanded, IsWhole}
use Rattle.fr_frame.specs.ListItems.{seen_from}
use Rattle.fr_frame.specs.RawItems.{IsKeptItem, IsListed}
use Rattle.fr_frame.specs.declared.places.Taker.{Taker}
use Rattle.fr_frame.proofs.AddItemLaws.{seen_kept}
use Rattle.fr_values.specs.CellLaws.{occur_set as cells_set_occur}
use Rattle.fr_frame.proofs.DrainLaws.{item_held, other_item, other_list}
use Rattle.fr_frame.proofs.HandLaws.{no_child, relinked, so_of}
use Rattle.fr_frame.proofs.HeapLaws.{changed, occur_set, shown_is, shows_set, with_body_twice}
use Rattle.fr_values.specs.SliceLaws.{is_set, number_cases, read, set_gets, set_keeps}
use Rattle.std.proofs.lemmas.List.{set_comm}
use Rattle.std.proofs.lemmas.Option.{slice_get_within}
use Rattle.fr_frame.proofs.ChangedPlaces.{of_node}
use Rattle.fr_frame.proofs.RawLaws.{among}
use Rattle.fr_frame.proofs.SeenSlots.{from_set, items_at, seen_by, seen_get, slot_seen_same}
use Rattle.fr_frame.proofs.SingleSlots.{node_seen}

-- One slot.

no_item : (slot : Slot) (at : Node) → node_in slot ≡ Some at → item_in slot ≡ None
no_item (Slot.Item item) at e = cc
no_item _ at e = refl

holds : (slot : Slot) (at : Node) (t : ℕ) → node_in slot ≡ Some at → slot_occurs slot t ≡ body_occurs at.body t
holds (Slot.Used place) at t e = let same : node_of place ≡ at = cc in ap (λ (x : Node). body_occurs x.body t) same
holds (Slot.List place items) at t e = let same : node_of place ≡ at = cc in ap (λ (x : Node). body_occurs x.body t) same
holds _ at t e = cc

-- a whole place is seen as it is
whole_with : (held : HeldItems) (n : ℕ) (items : List SlotId) (partial : PartialValue)
    → IsWhole (body_of (partial_with held n items partial))
    → partial_with held n items partial ≡ partial
whole_with held n items (PartialValue.Whole value) h = refl
whole_with held n items PartialValue.Entered h = refl
whole_with held n items (PartialValue.Begun tracker cells) h = absurd h

seen_whole : (held : HeldItems) (n : ℕ) (slot : Slot) → IsSomeAnd (node_in (slot_seen held n slot)) (λ (at : Node). IsWhole at.body)
    → node_in (slot_seen held n slot) ≡ node_in slot
seen_whole held n (Slot.Used place) h = refl
seen_whole held n (Slot.List place items) h =
    ap (λ (partial : PartialValue). Some (node_of (record place { partial = partial }))) (whole_with held n items.value.items place.partial h)
seen_whole held n _ h = absurd h

module _ (raw slots : List Slot) (view_is : slots_seen raw ≡ slots) (id : ℕ) (whole : IfInUse slots id (λ (at : Node). IsWhole at.body)) where
  node_whole : (slot : Slot) → slice_get raw id ≡ Some slot → heap_of slots id ≡ node_in slot
  node_whole slot here =
      let seen : heap_of slots id ≡ node_in (slot_seen (held_items raw) id slot) = node_seen raw slots view_is id slot here in
      seen
      ∙ seen_whole (held_items raw) id slot (subst (λ (found : Option Node). IsSomeAnd found (λ (at : Node). IsWhole at.body)) seen whole)

  pub whole_in : (slot : Slot) → slice_get raw id ≡ Some slot → IsSomeAnd (node_in slot) (λ (at : Node). IsWhole at.body)
  whole_in slot here =
      subst (λ (found : Option Node). IsSomeAnd found (λ (at : Node). IsWhole at.body)) (node_whole slot here) whole

-- The slot of an item has its value.
module _ (raw : List Slot) (id : ℕ) (list : SlotId) (i : ℕ) (r : IsListed raw id list i) (value : Value) (apart : list.0 ≢ id) where
  abbrev item : Item
  item = record { value = value; list = list; number = i }

  abbrev now : List Slot
  now = set raw id (Slot.Item item)

  held_now : held_items now id ≡ Some item
  held_now = ap (option_and_then item_in) (set_gets raw id r.slot (Slot.Item item) r.here)

  -- of what isn't the item the same is held as before
  as_before : (n j : ℕ) → value_held n j (Some item) ≡ None → (m : ℕ) → value_held n j (held_items raw m)
      ≡ value_held n j (held_items now m)
  as_before n j none m = go (number_cases m id)
    where
      go : (m ≡ id) ⊎ (m ≢ id) → value_held n j (held_items raw m) ≡ value_held n j (held_items now m)
      go (inl e) =
          ap (λ (k : ℕ). value_held n j (held_items raw k)) e
          ∙ ap (value_held n j) (ap (option_and_then item_in) r.here ∙ no_item r.slot r.at r.node)
          ∙ sym none ∙ sym (ap (value_held n j) held_now) ∙ sym (ap (λ (k : ℕ). value_held n j (held_items now k)) e)
      go (inr ne) = sym (ap (λ (found : Option Slot). value_held n j (option_and_then item_in found)) (set_keeps raw id (Slot.Item item) m ne))

  -- the list's children
  abbrev cells : HeldItems → List Cell
  cells held = children_with held list.0 r.listed.cells r.items.value.items

  abbrev completed : List Cell
  completed = set (cells (held_items raw)) i (given (view value))

  -- the list as it is seen with such children
  abbrev above : List Cell → Place
  above cs = record r.above { partial = PartialValue.Begun r.listed.tracker cs }

  list_seen : (held : HeldItems) → slot_seen held list.0 (Slot.List r.above r.items) ≡ Slot.Used (above (cells held))
  list_seen held =
      ap (λ (partial : PartialValue). Slot.Used (record r.above { partial = partial }))
      (ap (partial_with held list.0 r.items.value.items) r.listed.is
      ∙ ap (λ (b : Bool). PartialValue.Begun r.listed.tracker (if b then cells held else r.listed.cells)) r.listed.keeps)

  list_by : (held : HeldItems) → slice_get (seen_from held 0 raw) list.0 ≡ Some (Slot.Used (above (cells held)))
  list_by held =
      seen_by held raw list.0 ∙ ap (option_map (slot_seen held list.0)) r.there ∙ ap (λ (slot : Slot). Some slot) (list_seen held)

  module _ (placed_there : slice_get (cells (held_items raw)) i ≡ Some (placed id)) where
    cells_now : cells (held_items now) ≡ completed
    cells_now =
        is_set (cells (held_items now)) (cells (held_items raw)) i (placed id) (given (view value)) placed_there here others
      where
        here : slice_get (cells (held_items now)) i ≡ Some (given (view value))
        here =
            among (held_items now) list.0 0 (length r.listed.cells - length r.items.value.items) r.listed.cells r.items.value.items
            (i - (length r.listed.cells - length r.items.value.items)) i i r.listed.item (omega (arith, r.listed.behind)) r.listed.inside
            (omega arith) r.listed.listed ∙ ap (λ (o : Option Val). Some (item_or r.listed.item.0 o))
            (ap (λ (k : ℕ). value_held list.0 i (held_items now k)) r.listed.slot ∙ ap (value_held list.0 i) held_now
            ∙ item_held list.0 i item refl refl)

        others : (k : ℕ) → k ≢ i → slice_get (cells (held_items now)) k ≡ slice_get (cells (held_items raw)) k
        others k ne =
            items_at (held_items now) (held_items raw) list.0 0 (length r.listed.cells - length r.items.value.items) r.listed.cells
            r.items.value.items k k (omega arith)
            (λ m. sym (as_before list.0 k (other_item list.0 k item (λ (e : i ≡ k). ne (sym e))) m))

    abbrev freed : List Slot
    freed = set (slots_seen raw) id (Slot.Free None)

    list_still : slice_get freed list.0 ≡ Some (Slot.Used (above (cells (held_items raw))))
    list_still = set_keeps (slots_seen raw) id (Slot.Free None) list.0 apart ∙ list_by (held_items raw)

    seen_now : slots_seen now ≡ set freed list.0 (Slot.Used (above completed))
    seen_now =
        from_set (held_items now) 0 raw id (Slot.Item item) ∙ ap (λ (slots : List Slot). set slots id (Slot.Free None))
        (is_set (seen_from (held_items now) 0 raw) (slots_seen raw) list.0 (Slot.Used (above (cells (held_items raw))))
        (Slot.Used (above completed)) (list_by (held_items raw))
        (list_by (held_items now) ∙ ap (λ (cs : List Cell). Some (Slot.Used (above cs))) cells_now) others)
        ∙ set_comm (slots_seen raw) list.0 id (Slot.Used (above completed)) (Slot.Free None) apart
      where
        same : (n : ℕ) (found : Option Slot) → n ≢ list.0
            → option_map (slot_seen (held_items now) n) found ≡ option_map (slot_seen (held_items raw) n) found
        same n None ne = refl
        same n (Some slot) ne =
            ap (λ (s : Slot). Some s) (sym (slot_seen_same (held_items raw) (held_items now) n slot
            (λ m j. as_before n j (other_list n j item (λ (e : list.0 ≡ n). ne (sym e))) m)))

        others : (n : ℕ) → n ≢ list.0 → slice_get (seen_from (held_items now) 0 raw) n ≡ slice_get (slots_seen raw) n
        others n ne = seen_by (held_items now) raw n ∙ same n (slice_get raw n) ne ∙ sym (seen_get raw n)

    item_seen : slice_get (slots_seen raw) id ≡ Some (slot_seen (held_items raw) id r.slot)
    item_seen = seen_get raw id ∙ ap (option_map (slot_seen (held_items raw) id)) r.here

    pub completed_shows : Shows (slots_seen now)
        (gives (FrameOwner.Child list i) (view value) (without (heap_of (slots_seen raw)) id (FrameOwner.Child list i)))
    completed_shows =
        subst (λ (slots : List Slot). Shows slots (gives (FrameOwner.Child list i) (view value)
        (without (heap_of (slots_seen raw)) id (FrameOwner.Child list i)))) (sym seen_now)
        (subst (Shows (set freed list.0 (Slot.Used (above completed)))) so
        (shows_set freed list.0 (Slot.Used (above (cells (held_items raw)))) (Slot.Used (above completed)) list_still))
      where
        gone : Heap
        gone = with_slot (heap_of (slots_seen raw)) id None

        both : Body → Body
        both body = with_cell (unlinked id i body) i (given (view value))

        gone_is : heap_of freed ≡ gone
        gone_is =
            shown_is freed gone (shows_set (slots_seen raw) id (slot_seen (held_items raw) id r.slot) (Slot.Free None) item_seen)

        above_gone : gone list.0 ≡ Some (node_of (above (cells (held_items raw))))
        above_gone = ap (λ (heap : Heap). heap list.0) (sym gone_is) ∙ ap (option_and_then node_in) list_still

        so : with_slot (heap_of freed) list.0 (Some (node_of (above completed)))
            ≡ gives (FrameOwner.Child list i) (view value) (without (heap_of (slots_seen raw)) id (FrameOwner.Child list i))
        so =
            ap (λ (heap : Heap). with_slot heap list.0 (Some (node_of (above completed)))) gone_is
            ∙ ap (λ (body : Body). with_slot gone list.0 (Some (record (node_of (above completed)) { body = body })))
            (sym (relinked (as_tracker r.listed.tracker) (cells (held_items raw)) i id (given (view value)) placed_there))
            ∙ ap (λ (found : Option Node). with_slot gone list.0 (changed both found)) (sym above_gone)
            ∙ sym (with_body_twice gone list.0 (unlinked id i) (λ (old : Body). with_cell old i (given (view value))))

    pub completed_occurs : (t : ℕ) → slots_occur (slots_seen now) t + slot_occurs (slot_seen (held_items raw) id r.slot) t
        ≡ slots_occur (slots_seen raw) t + occurs (view value) t
    completed_occurs t =
        omega (
          arith,
          ap (λ (slots : List Slot). slots_occur slots t) seen_now,
          occur_set (slots_seen raw) id (slot_seen (held_items raw) id r.slot) (Slot.Free None) t item_seen,
          occur_set freed list.0 (Slot.Used (above (cells (held_items raw)))) (Slot.Used (above completed)) t list_still,
          cells_set_occur (cells (held_items raw)) i (placed id) (given (view value)) t placed_there,
        )

-- What the call comes to.

module _ (raw slots : List Slot) (view_is : slots_seen raw ≡ slots) (id : ℕ) (list : SlotId) (i : ℕ) (r : IsListed raw id list i)
    (whole : IfInUse slots id (λ (at : Node). IsWhole at.body))
    (owned : IfInUse slots id (λ (at : Node). held_by (heap_of slots) at.owner ≡ Some (placed id)))
    (was given_now found marked : Slot) (at to : ℕ) (read_at : was ≡ get_or raw at was)
    (put : IsSomeAnd (node_in was) (λ (x : Node). IsKeptItem list i x.body given_now))
    (at_is : at ≡ id) (to_is : to ≡ list.0) (read_to : found ≡ get_or (set raw at given_now) to found) (same : IsSeenAs found marked) where
  here : slice_get raw id ≡ Some was
  here = read raw id at was at_is (slice_get_within raw id r.slot r.here) read_at

  there : slice_get (set raw at given_now) list.0 ≡ Some found
  there =
      read (set raw at given_now) list.0 to found to_is
      (omega (arith, length-set raw at given_now, slice_get_within raw list.0 (Slot.List r.above r.items) r.there)) read_to

  same_slot : (a b : Slot) → Some a ≡ Some b → a ≡ b
  same_slot a b e = cc

  node_here : heap_of slots id ≡ Some r.at
  node_here = node_whole raw slots view_is id whole r.slot r.here ∙ r.node

  is_whole : IsWhole r.at.body
  is_whole = so_of (heap_of slots id) r.at (λ (x : Node). IsWhole x.body) node_here whole

  held : held_by (heap_of slots) (FrameOwner.Child list i) ≡ Some (placed id)
  held =
      ap (held_by (heap_of slots)) (sym r.owner)
      ∙ so_of (heap_of slots id) r.at (λ (x : Node). held_by (heap_of slots) x.owner ≡ Some (placed id)) node_here owned

  apart : list.0 ≢ id
  apart e =
      no_child r.at.body is_whole i id
      (ap (option_and_then (λ (x : Node). cell_at x.body i)) (sym node_here ∙ sym (ap (heap_of slots) e)) ∙ held)

  kept : IsKeptItem list i r.at.body given_now
  kept =
      so_of (node_in was) r.at (λ (x : Node). IsKeptItem list i x.body given_now)
      (ap node_in (same_slot was r.slot (sym here ∙ r.here)) ∙ r.node) put

  placed_there : slice_get (cells raw id list i r kept.value apart (held_items raw)) i ≡ Some (placed id)
  placed_there =
      sym (ap (λ (s : Option Slot). option_and_then (λ (x : Node). cell_at x.body i) (option_and_then node_in s))
      (list_by raw id list i r kept.value apart (held_items raw)))
      ∙ ap (λ (s : List Slot). held_by (heap_of s) (FrameOwner.Child list i)) view_is ∙ held

  seen_after : slots_seen (set (set raw at given_now) to marked) ≡ slots_seen (now raw id list i r kept.value apart)
  seen_after =
      ap (λ (k : ℕ). slots_seen (set (set raw at given_now) k marked)) to_is
      ∙ seen_kept (set raw at given_now) list.0 found marked there same
      ∙ ap (λ (k : ℕ). slots_seen (set raw k given_now)) at_is ∙ ap (λ (s : Slot). slots_seen (set raw id s)) kept.now

  pub kept_handed : IsHanded Taker.Above slots (slots_seen (set (set raw at given_now) to marked)) id
  kept_handed =
      of_node (heap_of slots id) r.at (λ (x : Node). (v : Val) → value_of x.body ≡ Some v
      → Shows (slots_seen (set (set raw at given_now) to marked)) (handed Taker.Above id x.owner v (heap_of slots))) node_here
      (λ v is m. ap (λ (s : List Slot). heap_of s m) seen_after ∙ completed_shows raw id list i r kept.value apart placed_there m
      ∙ ap (λ (s : List Slot). handed Taker.Above id (FrameOwner.Child list i) (view kept.value) (heap_of s) m) view_is
      ∙ ap (λ (w : Val). handed Taker.Above id (FrameOwner.Child list i) w (heap_of slots) m)
      (same_value (view kept.value) v (sym (ap value_of kept.whole) ∙ is))
      ∙ ap (λ (o : FrameOwner). handed Taker.Above id o v (heap_of slots) m) (sym r.owner))
    where
      same_value : (v w : Val) → Some v ≡ Some w → v ≡ w
      same_value v w e = cc

  pub kept_tokens : SameTokens slots (slots_seen (set (set raw at given_now) to marked))
  kept_tokens t =
      omega (
        arith,
        ap (λ (s : List Slot). slots_occur s t) seen_after,
        completed_occurs raw id list i r kept.value apart placed_there t,
        ap (λ (s : List Slot). slots_occur s t) view_is,
        holds (slot_seen (held_items raw) id r.slot) r.at t (sym (node_seen raw slots view_is id r.slot r.here) ∙ node_here),
        ap (λ (b : Body). body_occurs b t) kept.whole,
      )
