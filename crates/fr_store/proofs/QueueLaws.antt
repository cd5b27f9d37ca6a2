-- A list of stored places as it is written down: what is in it, which places wait, and where the next open one comes.
use Rattle.std.proofs.Common.{◌≡◌, ◌≢◌, ◌⊎◌, ℕ, ◌+◌, ◌<◌, ◌≤◌, Bool, true, false, cond, List, [], ◌∷◌, ◌++◌, map, length, length-append, get_or, append_assoc, inl, inr, refl, sym, ◌∙◌, ap, subst, arith}
use Rattle.fr_store.specs.Common.{All, AreOnce, ComesEarlier, Contains, IsPlaced, IsSpread, IsStoredHere, Kid, LeadsUnstored, Pairs, Place, filter, kid_at, slot_at, stored_here, uses}
use Rattle.std.proofs.lemmas.List.{append-nil, length-map, map-append}
use Rattle.std.proofs.lemmas.List.Elements.{All-nil, All-append, All-contains, All-filter, All-head, All-tail, filter-append, filter_passes}
use Rattle.fr_store.proofs.EarlierLaws.{earlier_differs}
use Rattle.fr_store.proofs.PairLaws.{filter_all, in_filter, of_map, pairs_filter, parts}
use Rattle.fr_store.proofs.PlacesInSlots.{behind, leads_here, open_unstored, slots_once}
use Rattle.fr_store.proofs.SpreadLaws.{AreChildren, AreClosed, AreOpenAt, IsSpreading, all_reached, p_placed, spreads_on, spreads_root}

-- those of these places that are stored
abbrev pub stored_among : Kid → List Place → List Place
stored_among k places = filter (λ p. stored_here (kid_at p k)) places

-- The next open place waits among the stored ones.
pub record OpenAhead (k : Kid) (cursor : Place) (waiting : List Place) (head opened at : ℕ) : Type 0 where
  pub above : Place
  pub below : Place
  pub on_way : cursor ≡ above ++ below
  pub number : opened ≡ length above
  pub before : List Place
  pub after : List Place
  pub is : waiting ≡ before ++ above ∷ after
  pub before_stored : All (IsStoredHere k) before
  pub after_stored : All (IsStoredHere k) after
  pub here : at ≡ head + length before

-- it does, or all open places came
abbrev pub Next : Kid → (cursor : Place) → (waiting : List Place) → (head opened at : ℕ) → Type 0
Next k cursor waiting head opened at =
    ((length cursor + 1 ≡ opened) × All (IsStoredHere k) waiting) ⊎ OpenAhead k cursor waiting head opened at

-- Of all places so far the stored ones are written down, the first ones of them with their children.
pub record IsQueue (k : Kid) (cursor : Place) (queue : List ℕ) (head opened at : ℕ) : Type 0 where
  pub done : List Place
  pub waiting : List Place
  pub spreading : IsSpreading k done waiting
  pub queue_is : queue ≡ map (slot_at k) (stored_among k (done ++ waiting))
  pub head_is : head ≡ length (stored_among k done)
  pub next : Next k cursor waiting head opened at

-- The first one that waits is stored.
pub record FirstStored (k : Kid) (cursor : Place) (waiting : List Place) (head opened at : ℕ) : Type 0 where
  pub p : Place
  pub rest : List Place
  pub waits : waiting ≡ p ∷ rest
  pub stored : IsStoredHere k p
  pub next : (added : List Place) → All (IsStoredHere k) added → Next k cursor (rest ++ added) (head + 1) opened at

-- Numbers of stored places.

more_among : (k : Kid) (xs ys : List Place) → stored_among k (xs ++ ys) ≡ stored_among k xs ++ stored_among k ys
more_among k xs ys = filter-append (λ p. stored_here (kid_at p k)) xs ys

all_among : (k : Kid) (xs : List Place) → All (IsStoredHere k) xs → stored_among k xs ≡ xs
all_among k xs all = filter_all (λ p. stored_here (kid_at p k)) xs all

among_by : (k : Kid) (p : Place) (rest : List Place) (b : Bool) → stored_here (kid_at p k) ≡ b
    → stored_among k (p ∷ rest) ≡ cond b (p ∷ stored_among k rest) (stored_among k rest)
among_by k p rest b e = ap (λ (c : Bool). cond c (p ∷ stored_among k rest) (stored_among k rest)) e

-- The root waits.
pub queue_starts : (k : Kid) (cursor : Place) → LeadsUnstored cursor k → IsQueue k cursor [] 0 0 0
queue_starts k cursor leads = record {
  done = [];
  waiting = [] ∷ [];
  spreading = spreads_root k (leads_here cursor k leads);
  queue_is = ap (map (slot_at k)) (sym (among_by k [] [] false (open_unstored [] cursor k leads)));
  head_is = refl;
  next =
      inr
      (record {
        above = [];
        below = cursor;
        on_way = refl;
        number = refl;
        before = [];
        after = [];
        is = refl;
        before_stored = All-nil (IsStoredHere k);
        after_stored = All-nil (IsStoredHere k);
        here = refl;
      });
}

module _ {k : Kid} {cursor : Place} {queue : List ℕ} {head opened at : ℕ} (q : IsQueue k cursor queue head opened at) where
  abbrev listed : List Place
  listed = stored_among k (q.done ++ q.waiting)

  listed_placed : All (IsPlaced k) listed
  listed_placed = All-filter (λ p. stored_here (kid_at p k)) (IsPlaced k) (q.done ++ q.waiting) q.spreading.placed

  -- no slot is written twice
  pub written_once : ((n : ℕ) → uses k n ≤ 1) → AreOnce queue
  written_once once =
      subst AreOnce (sym q.queue_is) (slots_once k once (ComesEarlier k) (earlier_differs k) listed listed_placed
      (pairs_filter (ComesEarlier k) (λ p. stored_here (kid_at p k)) (q.done ++ q.waiting) q.spreading.order))

  -- each is that of a stored place
  pub written_of : (n : ℕ) → Contains queue n → (p : Place) × IsPlaced k p × IsStoredHere k p × (slot_at k p ≡ n)
  written_of n found =
      let from = of_map (slot_at k) listed n (subst (λ (l : List ℕ). Contains l n) q.queue_is found) in (
        from.0,
        All-contains (IsPlaced k) listed from.0 listed_placed from.1,
        All-contains (IsStoredHere k) listed from.0 (filter_passes (λ p. stored_here (kid_at p k)) (q.done ++ q.waiting)) from.1,
        from.2,
      )

  -- how many are written
  written : length queue ≡ head + length (stored_among k q.waiting)
  written =
      let long = ap (λ (l : List ℕ). length l) q.queue_is in
      let parts_are = ap (λ (l : List Place). length l) (more_among k q.done q.waiting) in
      omega (arith, q.head_is, length-map (stored_among k (q.done ++ q.waiting)) (slot_at k), length-append (stored_among k q.done) (stored_among k q.waiting))

  -- the children of the first one that waits are written behind
  module _ {p : Place} {rest : List Place} (waits : q.waiting ≡ p ∷ rest) where
    spreading_p : IsSpreading k q.done (p ∷ rest)
    spreading_p = subst (λ (l : List Place). IsSpreading k q.done l) waits q.spreading

    goes_on : {added : List Place} → AreChildren k p added → {more : List ℕ} → more ≡ map (slot_at k) (stored_among k added)
        → {head_then opened_then at_then : ℕ} → head_then ≡ head + length (stored_among k (p ∷ []))
        → Next k cursor (rest ++ added) head_then opened_then at_then → IsQueue k cursor (queue ++ more) head_then opened_then at_then
    goes_on {added} are more_is head_is next = record {
      done = q.done ++ p ∷ [];
      waiting = rest ++ added;
      spreading = spreads_on k q.done rest p spreading_p added are;
      queue_is =
          ap (λ (l : List ℕ). queue ++ l) more_is ∙ ap (λ (l : List ℕ). l ++ map (slot_at k) (stored_among k added)) q.queue_is
          ∙ sym (map-append (slot_at k) (stored_among k (q.done ++ q.waiting)) (stored_among k added))
          ∙ ap (map (slot_at k)) (sym (more_among k (q.done ++ q.waiting) added))
          ∙ ap (λ (l : List Place). map (slot_at k) (stored_among k ((q.done ++ l) ++ added))) waits
          ∙ ap (λ (l : List Place). map (slot_at k) (stored_among k l)) (sym (parts q.done rest p added));
      head_is =
          let split = ap (λ (l : List Place). length l) (more_among k q.done (p ∷ [])) in
          omega (arith, q.head_is, head_is, length-append (stored_among k q.done) (stored_among k (p ∷ [])));
      next = next;
    }

  -- A stored place waits first, where no open one comes now.
  pub first_stored : (opened < length cursor + 1 → head ≢ at) → (opened < length cursor + 1) ⊎ (head < length queue)
      → FirstStored k cursor q.waiting head opened at
  first_stored apart some = go q.next
    where
      last : (waiting : List Place) → q.waiting ≡ waiting → length cursor + 1 ≡ opened → All (IsStoredHere k) waiting
          → (opened < length cursor + 1) ⊎ (head < length queue) → FirstStored k cursor q.waiting head opened at
      last waiting e over all (inl still) = absurd (omega (arith, over, still))
      last [] e over all (inr less) =
          absurd (omega (arith, ap (λ (l : List Place). length (stored_among k l)) e, written, less))
      last (p ∷ rest) e over all (inr less) = record {
        p = p;
        rest = rest;
        waits = e;
        stored = All-head (IsStoredHere k) p rest all;
        next = λ added more.
            inl (over, All-append (IsStoredHere k) rest added (All-tail (IsStoredHere k) p rest all) more);
      }

      ahead : (o : OpenAhead k cursor q.waiting head opened at) → (before : List Place) → o.before ≡ before
          → FirstStored k cursor q.waiting head opened at
      ahead o [] e =
          let whole : length cursor ≡ length o.above + length o.below
          = ap (λ (l : Place). length l) o.on_way ∙ length-append o.above o.below in
          let none = ap (λ (l : List Place). length l) e in
          absurd (apart (omega (arith, o.number)) (omega (arith, o.here)))
      ahead o (p ∷ before) e =
          let all : All (IsStoredHere k) (p ∷ before) = subst (All (IsStoredHere k)) e o.before_stored in
          let long = ap (λ (l : List Place). length l) e in
          record {
            p = p;
            rest = before ++ o.above ∷ o.after;
            waits = o.is ∙ ap (λ (l : List Place). l ++ o.above ∷ o.after) e;
            stored = All-head (IsStoredHere k) p before all;
            next = λ added more.
                inr
                (record {
                  above = o.above;
                  below = o.below;
                  on_way = o.on_way;
                  number = o.number;
                  before = before;
                  after = o.after ++ added;
                  is = append_assoc before (o.above ∷ o.after) added;
                  before_stored = All-tail (IsStoredHere k) p before all;
                  after_stored = All-append (IsStoredHere k) o.after added o.after_stored more;
                  here = omega (arith, o.here);
                });
          }

      go : Next k cursor q.waiting head opened at → FirstStored k cursor q.waiting head opened at
      go (inl over) = last q.waiting refl over.0 over.1 some
      go (inr o) = ahead o o.before refl

  module _ (first : FirstStored k cursor q.waiting head opened at) where
    queue_split : queue ≡ map (slot_at k) (stored_among k q.done) ++ slot_at k first.p ∷ map (slot_at k) (stored_among k first.rest)
    queue_split =
        q.queue_is ∙ ap (λ (l : List Place). map (slot_at k) (stored_among k (q.done ++ l))) first.waits
        ∙ ap (map (slot_at k)) (more_among k q.done (first.p ∷ first.rest))
        ∙ map-append (slot_at k) (stored_among k q.done) (stored_among k (first.p ∷ first.rest))
        ∙ ap (λ (l : List Place). map (slot_at k) (stored_among k q.done) ++ map (slot_at k) l) (among_by k first.p first.rest true first.stored)

    pub first_placed : IsPlaced k first.p
    first_placed = p_placed k q.done first.rest first.p (spreading_p first.waits)

    -- it is written at the head
    pub first_within : head < length queue
    first_within =
        let long = ap (λ (l : List ℕ). length l) queue_split in
        omega
        (arith, q.head_is, length-map (stored_among k q.done) (slot_at k), length-append (map (slot_at k) (stored_among k q.done)) (slot_at k first.p ∷ map (slot_at k) (stored_among k first.rest)))

    pub first_read : (d : ℕ) → get_or queue head d ≡ slot_at k first.p
    first_read d =
        ap (λ (l : List ℕ). get_or l head d) queue_split
        ∙ behind (map (slot_at k) (stored_among k q.done)) (slot_at k first.p) (map (slot_at k) (stored_among k first.rest)) head d
        (q.head_is ∙ sym (length-map (stored_among k q.done) (slot_at k)))

    -- it has its children written down
    pub stored_next : (more : List ℕ) → AreClosed k first.p more → IsQueue k cursor (queue ++ more) (head + 1) opened at
    stored_next more closed =
        let one = ap (λ (l : List Place). length l) (among_by k first.p [] true first.stored) in
        goes_on first.waits closed.are (closed.slots_are ∙ ap (map (slot_at k)) (sym (all_among k closed.children closed.stored)))
        (omega arith) (first.next closed.children closed.stored)

  -- An open place that comes now.

  pub ahead_now : opened < length cursor + 1 → OpenAhead k cursor q.waiting head opened at
  ahead_now still = go q.next
    where
      go : Next k cursor q.waiting head opened at → OpenAhead k cursor q.waiting head opened at
      go (inl over) = let e = over.0 in absurd (omega arith)
      go (inr o) = o

  module _ (leads : LeadsUnstored cursor k) (o : OpenAhead k cursor q.waiting head opened at) (now : head ≡ at) where
    o_waits : q.waiting ≡ o.above ∷ o.after
    o_waits = go o.before refl
      where
        go : (before : List Place) → o.before ≡ before → q.waiting ≡ o.above ∷ o.after
        go [] e = o.is ∙ ap (λ (l : List Place). l ++ o.above ∷ o.after) e
        go (p ∷ before) e = let long = ap (λ (l : List Place). length l) e in absurd (omega (arith, o.here))

    unstored : stored_here (kid_at o.above k) ≡ false
    unstored = open_unstored o.above o.below k (subst (λ (c : Place). LeadsUnstored c k) o.on_way leads)

    same_head : head ≡ head + length (stored_among k (o.above ∷ []))
    same_head = let none = ap (λ (l : List Place). length l) (among_by k o.above [] false unstored) in omega arith

    -- it is the last one on the stack
    pub last_next : o.below ≡ [] → (more : List ℕ) → AreClosed k o.above more → (at_then : ℕ)
        → IsQueue k cursor (queue ++ more) head (opened + 1) at_then
    last_next none more closed at_then =
        let last : cursor ≡ o.above = o.on_way ∙ ap (λ (l : Place). o.above ++ l) none ∙ append-nil o.above in
        goes_on o_waits closed.are (closed.slots_are ∙ ap (map (slot_at k)) (sym (all_among k closed.children closed.stored)))
        same_head (inl (
          omega (arith, o.number, ap (λ (l : Place). length l) last),
          All-append (IsStoredHere k) o.after closed.children o.after_stored closed.stored,
        ))

    -- another one comes after it
    pub open_next : (j : ℕ) (below : Place) → o.below ≡ j ∷ below → (first last : List ℕ) → AreOpenAt k o.above j first last
        → IsQueue k cursor (queue ++ (first ++ last)) head (opened + 1) (length queue + length first)
    open_next j below on first last open_at =
        goes_on o_waits open_at.are more_is same_head (inr
        (record {
          above = o.above ++ j ∷ [];
          below = below;
          on_way = way;
          number = omega (arith, o.number, length-append o.above (j ∷ []));
          before = o.after ++ open_at.front;
          after = open_at.back;
          is = sym (append_assoc o.after open_at.front ((o.above ++ j ∷ []) ∷ open_at.back));
          before_stored = All-append (IsStoredHere k) o.after open_at.front o.after_stored open_at.front_stored;
          after_stored = open_at.back_stored;
          here =
              omega
              (arith, behind_it, length-append o.after open_at.front, ap (λ (l : List ℕ). length l) open_at.first_is, length-map open_at.front (slot_at k));
        }))
      where
        way : cursor ≡ (o.above ++ j ∷ []) ++ below
        way = o.on_way ∙ ap (λ (l : Place). o.above ++ l) on ∙ sym (append_assoc o.above (j ∷ []) below)

        more_is : first ++ last ≡ map (slot_at k) (stored_among k (open_at.front ++ (o.above ++ j ∷ []) ∷ open_at.back))
        more_is =
            ap (λ (l : List ℕ). l ++ last) open_at.first_is ∙ ap (λ (l : List ℕ). map (slot_at k) open_at.front ++ l)
            open_at.last_is ∙ sym (map-append (slot_at k) open_at.front open_at.back) ∙ ap (map (slot_at k))
            (sym (more_among k open_at.front ((o.above ++ j ∷ []) ∷ open_at.back) ∙ ap (λ (l : List Place). l ++ stored_among
            k ((o.above ++ j ∷ []) ∷ open_at.back)) (all_among k open_at.front open_at.front_stored) ∙ ap (λ (l : List Place).
            open_at.front ++ l) (among_by k (o.above ++ j ∷ []) open_at.back false (open_unstored (o.above ++ j ∷ []) below k
            (subst (λ (c : Place). LeadsUnstored c k) way leads)) ∙ all_among k open_at.back open_at.back_stored)))

        -- all that was written is done, or comes after the open place
        behind_it : length queue ≡ head + length o.after
        behind_it =
            let after : stored_among k q.waiting ≡ o.after = ap (stored_among k) o_waits
            ∙ among_by k o.above o.after false unstored ∙ all_among k o.after o.after_stored in
            omega (arith, written, ap (λ (l : List Place). length l) after)

  -- Nothing is left.
  pub all_written : length cursor + 1 ≤ opened → length queue ≤ head → IsSpread k queue
  all_written over behind_head = go q.next
    where
      none_waits : (waiting : List Place) → q.waiting ≡ waiting → All (IsStoredHere k) waiting → waiting ≡ []
      none_waits [] e all = refl
      none_waits (p ∷ rest) e all =
          let listed : stored_among k q.waiting ≡ p ∷ rest = ap (stored_among k) e ∙ all_among k (p ∷ rest) all in
          absurd (omega (arith, written, ap (λ (l : List Place). length l) listed))

      finished : q.waiting ≡ [] → IsSpread k queue
      finished e =
          let whole : q.done ++ q.waiting ≡ q.done = ap (λ (l : List Place). q.done ++ l) e ∙ append-nil q.done in
          let placed : All (IsPlaced k) q.done = subst (All (IsPlaced k)) whole q.spreading.placed in
          record {
            places = stored_among k q.done;
            placed = All-filter (λ p. stored_here (kid_at p k)) (IsPlaced k) q.done placed;
            stored = filter_passes (λ p. stored_here (kid_at p k)) q.done;
            slots_are = q.queue_is ∙ ap (λ (l : List Place). map (slot_at k) (stored_among k l)) whole;
            order =
                pairs_filter (ComesEarlier k) (λ p. stored_here (kid_at p k)) q.done
                (subst (Pairs (ComesEarlier k)) whole q.spreading.order);
            all = λ place here is.
                in_filter (λ p. stored_here (kid_at p k)) q.done place
                (all_reached k q.done (subst (λ (l : List Place). IsSpreading k q.done l) e q.spreading) place here) is;
          }

      go : Next k cursor q.waiting head opened at → IsSpread k queue
      go (inl all) = finished (none_waits q.waiting refl all.1)
      go (inr o) =
          let long : length cursor ≡ length o.above + length o.below
          = ap (λ (l : Place). length l) o.on_way ∙ length-append o.above o.below in
          absurd (omega (arith, o.number))
