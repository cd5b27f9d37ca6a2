-- The steps of the loop that writes down all stored places.
use Rattle.std.proofs.Common.{◌≡◌, ◌≢◌, ◌⊎◌, ℕ, ◌+◌, ◌<◌, ◌≤◌, List, [], ◌∷◌, ◌++◌, length, length-append, get_or, map, slice_get, take, append_assoc, append-nil, Some, inl, inr, refl, sym, ◌∙◌, ap, subst, arith}
use Rattle.fr_store.specs.Common.{AreAllStored, Contains, HasOwner, IsKeyOf, IsNonDecreasingBy, IsOpened, IsPlaced, IsSomeAnd, IsSpread, IsStoredChildOf, Kid, LeadsUnstored, Node, Place, Slot, SlotId, StoredPlace, cursor_shown, first_key, heap_of, key_of, kid_shown, numbers, slot_at, slot_of, slots_along, slots_between, slots_of}
use Rattle.std.proofs.lemmas.List.{get_or-take, length-map, length-take-le}
use Rattle.std.proofs.lemmas.List.Elements.{All-contains}
use Rattle.std.proofs.lemmas.Option.{none-some, slice_get-get_or, slice_get_past}
use Rattle.fr_store.specs.Numbers.{number_of}
use Rattle.fr_store.specs.PlaceOrder.{child_of}
use Rattle.fr_store.proofs.PairLaws.{fits, in_map, of_map}
use Rattle.fr_store.proofs.PlacesInSlots.{along_long, along_nth, open_placed, open_unstored}
use Rattle.fr_store.proofs.QueueLaws.{FirstStored, IsQueue, OpenAhead, ahead_now, all_written, first_placed, first_read, first_stored, first_within, last_next, open_next, queue_starts, stored_next, written_of, written_once}
use Rattle.fr_store.proofs.KeyRanges.{between_none}
use Rattle.fr_store.proofs.SiblingLaws.{AreSorted, closed_children, none_of_last, none_of_stored, one_of_open, open_children}
use Rattle.fr_store.proofs.SpreadLaws.{AreClosed}
use Rattle.fr_store.proofs.StoredLaws.{child_key, child_owned}

-- What is known at the start, and how far it got.
pub record Spreading (slots : List Slot) (stack : List ℕ) (places : List StoredPlace) (order : List ℕ) (count head opened at : ℕ) : Type 0 where
  pub builder : IsOpened slots stack
  pub all : AreSorted (kid_shown (heap_of slots) stack) places
  pub long : length places ≤ length order
  pub queue : IsQueue (kid_shown (heap_of slots) stack) (cursor_shown (heap_of slots) stack) (take count order) head opened at
  pub room : count ≤ length places

pub spread_starts : {slots : List Slot} {stack : List ℕ} (builder : IsOpened slots stack) {places : List StoredPlace}
    → AreAllStored (kid_shown (heap_of slots) stack) places → IsNonDecreasingBy key_of places → (order : List ℕ)
    → length places ≤ length order → Spreading slots stack places order 0 0 0 0
spread_starts {slots = slots} {stack = stack} builder stored sorted order long = record {
  builder = builder;
  all = record { once = builder.is_open.stands.once; stored = stored; sorted = sorted };
  long = long;
  queue = queue_starts (kid_shown (heap_of slots) stack) (cursor_shown (heap_of slots) stack) builder.is_open.stands.leads;
  room = omega arith;
}

module _ {slots : List Slot} {stack : List ℕ} {places : List StoredPlace} {order : List ℕ} {count head opened at : ℕ}
    (s : Spreading slots stack places order count head opened at) where
  abbrev k : Kid
  k = kid_shown (heap_of slots) stack

  abbrev cursor : Place
  cursor = cursor_shown (heap_of slots) stack

  leads : LeadsUnstored (cursor_shown (heap_of slots) stack) (kid_shown (heap_of slots) stack)
  leads = s.builder.is_open.stands.leads

  stack_long : length stack ≡ length (cursor_shown (heap_of slots) stack) + 1
  stack_long = ap (λ (l : List ℕ). length l) s.builder.is_open.stands.along ∙ along_long cursor k leads

  written_long : length (take count order) ≡ count
  written_long = let room = s.room in let long = s.long in length-take-le count order (omega arith)

  -- the next state has room too
  room_then : (queue : List ℕ) (h o a : ℕ) → IsQueue k cursor queue h o a → length queue ≤ length places
  room_then queue h o a q =
      let few = fits queue (slots_of places) (written_once q s.all.once) (λ n found.
      let from = written_of q n found in
      subst (Contains (slots_of places)) from.3 (s.all.stored.all from.0 from.1 from.2)) in
      omega (arith, length-map places slot_of)

  state_then : (more after : List ℕ) (next h o a : ℕ) → IsQueue k cursor (take count order ++ more) h o a → next ≡ count + length more
      → take next after ≡ take count order ++ more → length after ≡ length order
      → Spreading slots stack places after next h o a
  state_then more after next h o a q counted added long = record {
    builder = s.builder;
    all = s.all;
    long = let enough = s.long in omega arith;
    queue = subst (λ (l : List ℕ). IsQueue k cursor l h o a) (sym added) q;
    room =
        omega
        (arith, counted, written_long, room_then (take count order ++ more) h o a q, length-append (take count order) more);
  }

  -- A stored place.
  module _ (some : (opened < length stack) ⊎ (head < count)) (apart : opened < length stack → head ≢ at) where
    first : FirstStored (kid_shown (heap_of slots) stack) (cursor_shown (heap_of slots) stack) s.queue.waiting head opened at
    first = first_stored s.queue (λ still. let long = stack_long in apart (omega arith)) (go some)
      where
        go : (opened < length stack) ⊎ (head < count) → (opened < length cursor + 1) ⊎ (head < length (take count order))
        go (inl still) = let long = stack_long in inl (omega arith)
        go (inr less) = inr (omega (arith, written_long, less))

    pub stored_within : head < count
    stored_within = omega (arith, written_long, first_within s.queue first)

    abbrev more : List ℕ
    more = slots_between (first_key (get_or order head 0)) (first_key (get_or order head 0) + 4294967296) places

    stored_then : IsQueue k cursor (take count order ++ more) (head + 1) opened at
    stored_then =
        stored_next s.queue first more (subst (AreClosed k first.p)
        (ap (λ (n : ℕ). slots_between (first_key n) (first_key n + 4294967296) places)
        (sym (first_read s.queue first 0) ∙ get_or-take count order head 0 stored_within))
        (closed_children s.all first.p (first_placed s.queue first) (none_of_stored k cursor leads first.p first.stored)))

    pub stored_room : count + length more ≤ length places
    stored_room =
        omega
        (arith, written_long, room_then (take count order ++ more) (head + 1) opened at stored_then, length-append (take count order) more)

    pub stored_step : (after : List ℕ) (next : ℕ) → next ≡ count + length more → take next after ≡ take count order ++ more
        → length after ≡ length order → Spreading slots stack places after next (head + 1) opened at
    stored_step after next counted added long = state_then more after next (head + 1) opened at stored_then counted added long

  -- An open place.
  module _ (on_stack : List SlotId) (same : numbers on_stack ≡ stack) (still : opened < length on_stack) (now : head ≡ at) where
    stack_same : length on_stack ≡ length stack
    stack_same = sym (length-map on_stack number_of) ∙ ap (λ (l : List ℕ). length l) same

    o : OpenAhead (kid_shown (heap_of slots) stack) (cursor_shown (heap_of slots) stack) s.queue.waiting head opened at
    o = ahead_now s.queue (let long = stack_long in omega (arith, stack_same, still))

    way_long : length (cursor_shown (heap_of slots) stack) ≡ length o.above + length o.below
    way_long = ap (λ (l : Place). length l) o.on_way ∙ length-append o.above o.below

    placed : IsPlaced (kid_shown (heap_of slots) stack) o.above
    placed = open_placed o.above o.below (subst (λ (c : Place). LeadsUnstored c k) o.on_way leads)

    -- the next one on the stack
    module _ (j : ℕ) (below : Place) (e : o.below ≡ j ∷ below) where
      way : cursor_shown (heap_of slots) stack ≡ (o.above ++ j ∷ []) ++ below
      way = o.on_way ∙ ap (λ (l : Place). o.above ++ l) e ∙ sym (append_assoc o.above (j ∷ []) below)

      next_leads : LeadsUnstored ((o.above ++ j ∷ []) ++ below) k
      next_leads = subst (λ (c : Place). LeadsUnstored c k) way leads

      next_placed : IsPlaced k (o.above ++ j ∷ [])
      next_placed = open_placed (o.above ++ j ∷ []) below next_leads

      -- where it lies
      next_at : slice_get (numbers on_stack) (opened + 1) ≡ Some (slot_at k (o.above ++ j ∷ []))
      next_at =
          let lengths : length cursor ≡ length (o.above ++ j ∷ []) + length below
          = ap (λ (l : Place). length l) way ∙ length-append (o.above ++ j ∷ []) below in
          let one : length (o.above ++ j ∷ []) ≡ length o.above + 1 = length-append o.above (j ∷ []) in
          let long = stack_long in
          ap (λ (l : List ℕ). slice_get l (opened + 1)) same ∙ slice_get-get_or stack (opened + 1) 0 (omega (arith, o.number))
          ∙ ap (λ (m : ℕ). Some m)
          (ap (λ (l : List ℕ). get_or l (opened + 1) 0) (s.builder.is_open.stands.along ∙ ap (λ (c : Place). slots_along c k) way)
          ∙ along_nth (o.above ++ j ∷ []) below k {i = opened + 1} 0 next_leads (omega (arith, o.number, one)))

    pub open_owned : (n : ℕ) → slice_get (numbers on_stack) (opened + 1) ≡ Some n
        → IsSomeAnd (heap_of slots n) (λ (found : Node). HasOwner found.owner)
    open_owned n told = go o.below refl
      where
        go : (below : Place) → o.below ≡ below → IsSomeAnd (heap_of slots n) (λ (found : Node). HasOwner found.owner)
        go [] e =
            let none = ap (λ (l : Place). length l) e in
            absurd (none-some n (sym (slice_get_past stack (opened + 1) (omega (arith, stack_long, o.number, way_long)))
            ∙ ap (λ (l : List ℕ). slice_get l (opened + 1)) (sym same) ∙ told))
        go (j ∷ below) e =
            let both : Some (slot_at k (o.above ++ j ∷ [])) ≡ Some n = sym (next_at j below e) ∙ told in
            let is : slot_at k (o.above ++ j ∷ []) ≡ n = cc in
            subst (λ (m : ℕ). IsSomeAnd (heap_of slots m) (λ (found : Node). HasOwner found.owner)) is
            (child_owned s.builder.is_open.stands o.above j (next_placed j below e))

    module _ {n middle : ℕ} (read : n ≡ get_or stack opened 0)
        (key : (m : ℕ) → slice_get (numbers on_stack) (opened + 1) ≡ Some m
        → IsSomeAnd (heap_of slots m) (λ (found : Node). IsKeyOf (heap_of slots) middle found.owner))
        (none : length on_stack ≤ opened + 1 → middle ≡ first_key n + 4294967296) where
      abbrev before : List ℕ
      before = slots_between (first_key n) middle places

      abbrev after : List ℕ
      after = slots_between middle (first_key n + 4294967296) places

      slot_is : n ≡ slot_at k o.above
      slot_is =
          read ∙ ap (λ (l : List ℕ). get_or l opened 0) (s.builder.is_open.stands.along ∙ ap (λ (c : Place). slots_along c k) o.on_way)
          ∙ along_nth o.above o.below k 0 (subst (λ (c : Place). LeadsUnstored c k) o.on_way leads) o.number

      open_then : IsQueue k cursor (take count order ++ (before ++ after)) head (opened + 1) (count + length before)
      open_then = go o.below refl
        where
          go : (below : Place) → o.below ≡ below
              → IsQueue k cursor (take count order ++ (before ++ after)) head (opened + 1) (count + length before)
          go [] e =
              let over = ap (λ (l : Place). length l) e in
              let long = stack_long in
              let is : middle ≡ first_key n + 4294967296 = none (omega (arith, stack_same, o.number, way_long)) in
              let all : slots_between (first_key (slot_at k o.above)) (first_key (slot_at k o.above) + 4294967296) places ≡ before ++ after
              = ap (λ (m : ℕ). slots_between (first_key m) (first_key m + 4294967296) places) (sym slot_is)
              ∙ ap (λ (m : ℕ). slots_between (first_key n) m places) (sym is) ∙ sym (append-nil before)
              ∙ ap (λ (l : List ℕ). before ++ l) (sym (ap slots_of (between_none (first_key n + 4294967296) places)))
              ∙ ap (λ (m : ℕ). before ++ slots_between m (first_key n + 4294967296) places) (sym is) in
              last_next s.queue leads o now e (before ++ after) (subst (AreClosed k o.above) all
              (closed_children s.all o.above placed (none_of_last k cursor leads o.above
              (o.on_way ∙ ap (λ (l : Place). o.above ++ l) e ∙ append-nil o.above)))) (count + length before)
          go (j ∷ below) e =
              let told = child_key s.builder.is_open.stands o.above j middle (next_placed j below e)
              (key (slot_at k (o.above ++ j ∷ [])) (next_at j below e)) in
              subst (λ (m : ℕ). IsQueue k cursor (take count order ++ (before ++ after)) head (opened + 1) (m + length before))
              written_long (subst (λ (m : ℕ). IsQueue k cursor (take count
              order ++ (slots_between (first_key m) middle places ++ slots_between middle (first_key m + 4294967296) places))
              head (opened + 1) (length (take count order) + length (slots_between (first_key m) middle places))) (sym slot_is)
              (open_next s.queue leads o now j below e (slots_between (first_key (slot_at k o.above)) middle places)
              (slots_between middle (first_key (slot_at k o.above) + 4294967296) places) (open_children s.all o.above placed
              j middle (next_placed j below e) (open_unstored (o.above ++ j ∷ []) below k (next_leads j below e)) told.0 told.1
              (one_of_open k cursor leads o.above j below (o.on_way ∙ ap (λ (l : Place). o.above ++ l) e)))))

      pub open_room : count + length before + length after ≤ length places
      open_room =
          omega
          (arith, written_long, room_then (take count order ++ (before ++ after)) head (opened + 1) (count + length before) open_then, length-append (take count order) (before ++ after), length-append before after)

      pub open_step : (first last : List ℕ) {mid next : ℕ} → mid ≡ count + length before
          → take mid first ≡ take count order ++ before → next ≡ mid + length after
          → take next last ≡ take mid first ++ after → length last ≡ length order
          → Spreading slots stack places last next head (opened + 1) mid
      open_step first last {mid} {next} mid_is first_is next_is last_is long =
          state_then (before ++ after) last next head (opened + 1) mid
          (subst (λ (m : ℕ). IsQueue k cursor (take count order ++ (before ++ after)) head (opened + 1) m) (sym mid_is) open_then)
          (omega (arith, mid_is, next_is, length-append before after)) (last_is ∙ ap (λ (l : List ℕ). l ++ after) first_is
          ∙ append_assoc (take count order) before after) long

  -- All are written down.
  module _ (over : length stack ≤ opened) (behind_head : count ≤ head) where
    spread_now : IsSpread (kid_shown (heap_of slots) stack) (take count order)
    spread_now =
        let long = stack_long in
        all_written s.queue (omega arith) (omega (arith, written_long))

    -- each is there
    there : (n : ℕ) → Contains (slots_of places) n → Contains (take count order) n
    there n at_n =
        let from = of_map slot_of places n at_n in
        let its = All-contains (λ (place : StoredPlace). (above : Place) × IsStoredChildOf k place above) places from.0 s.all.stored.each from.1 in
        subst (λ (l : List ℕ). Contains l n) (sym spread_now.slots_are)
        (subst (Contains (map (slot_at k) spread_now.places)) (sym its.1.slot ∙ from.2)
        (in_map (slot_at k) spread_now.places (child_of its.0 from.0)
        (spread_now.all (child_of its.0 from.0) its.1.placed its.1.stored)))

    pub spread_ends : IsSpread (kid_shown (heap_of slots) stack) (take (length places) order)
    spread_ends =
        let few = fits (slots_of places) (take count order) s.all.stored.once there in
        let room = s.room in
        subst (λ (n : ℕ). IsSpread (kid_shown (heap_of slots) stack) (take n order)) (omega (arith, written_long, length-map places slot_of)) spread_now
