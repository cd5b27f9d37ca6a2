-- What comes before the range's start is lower, and what comes after its end is higher.
use Rattle.std.proofs.Common.{rules, ◌≡◌, ◌≤◌, ◌+◌, ◌-◌, ◌∷◌, [], Bool, cond, true, false, ◌++◌, ◌<◌, ◌∙◌, append_assoc, sym, ap, drop, filter, length, get_or, ltb, take, List, ℕ, subst, arith}
use Rattle.std.specs.List.Sorted.{IsPartitionPoint}
use Rattle.std.proofs.lemmas.List.{append-nil, at_drop_all, at_drop_more, take_more_set}
use Rattle.std.proofs.lemmas.List.Sorted.{IsPartitionedBy-ltb, IsPartitionPoint-from_clause}
use Rattle.fr_store.specs.Common.{StoredPlace, is_between, key_of, slot_of, slots_between, slots_of}
use Rattle.fr_store.proofs.KeyRanges.{run_ahead, run_ends, run_on}
use Rattle.fr_store.proofs.spreading.add_between.Goals as goal
use Rattle.fr_store.proofs.spreading.add_between.Goals.{After-rest-1}

abbrev first : StoredPlace
first = record { slot = record { 0 = 0 }; parent = 0; number = 0; order = 0 }

-- the places from the range's start on
abbrev rest_of : List StoredPlace → ℕ → List StoredPlace
rest_of places start = take (length places - start) (drop start places)

-- where the range begins
abbrev Point : (c : After-rest-1) → Type 0
Point c =
    IsPartitionPoint (λ (p : StoredPlace). ltb (key_of p) c.args.from ≡ true)
    (λ (p : StoredPlace). ltb (key_of p) c.args.from ≡ false) c.args.places.now c.partition_point-start.result

point : (c : After-rest-1) → Point c
point c =
    IsPartitionPoint-from_clause (λ (p : StoredPlace). ltb (key_of p) c.args.from) c.args.places.now
    c.partition_point-start.result c.partition_point-start.ensures.partitioned
    (IsPartitionedBy-ltb key_of c.args.places.now c.args.from c.requires.sorted) (λ a r f k. search rules)

pub loop-place-init : goal.loop-place-init
loop-place-init c =
    let same = ap slots_of (run_ahead c.args.from c.args.to c.args.places.now c.partition_point-start.result (point c)) in
    record {
      counted = ap (λ (l : List ℕ). c.args.count + length l) same;
      added = ap (λ (l : List ℕ). take c.args.count c.args.order.now ++ l) same;
    }

-- at a higher one nothing is left
none_left : (c : goal.Then-key-to) → slots_between c.args.from c.args.to
    (drop c.loop-place.place-index (rest_of c.args.places.now c.partition_point-start.result)) ≡ []
none_left c =
    ap slots_of (run_ends c.args.from c.args.to c.args.places.now c.partition_point-start.result
    (point (goal.at.returns-then-key-to-clause-count c).After-rest-1) c.loop-place.place-index first c.requires.sorted
    c.loop-place-test.true (subst (λ (n : ℕ). c.args.to ≤ n) c.key.ensures c.if-key-to.true))

pub returns-then-key-to-clause-count : goal.returns-then-key-to-clause-count
returns-then-key-to-clause-count c =
    let none = none_left c in
    omega (arith, c.loop-place.invariant.counted, ap (λ (l : List ℕ). length l) none)

pub returns-then-key-to-clause-added : goal.returns-then-key-to-clause-added
returns-then-key-to-clause-added c =
    sym (append-nil (take c.loop-place.count c.loop-place.order))
    ∙ ap (λ (l : List ℕ). take c.loop-place.count c.loop-place.order ++ l) (sym (none_left c)) ∙ c.loop-place.invariant.added

-- a lower one is in the range
now_one : (c : goal.Else-key-to) → slots_between c.args.from c.args.to
    (drop c.loop-place.place-index (rest_of c.args.places.now c.partition_point-start.result))
    ≡ slot_of (get_or (rest_of c.args.places.now c.partition_point-start.result) c.loop-place.place-index first)
    ∷ slots_between c.args.from c.args.to
    (drop (c.loop-place.place-index + 1) (rest_of c.args.places.now c.partition_point-start.result))
now_one c =
    let rest : List StoredPlace = rest_of c.args.places.now c.partition_point-start.result in
    let place : StoredPlace = get_or rest c.loop-place.place-index first in
    let less : key_of place < c.args.to = subst (λ (n : ℕ). n < c.args.to) c.key.ensures c.if-key-to.false in
    at_drop_more (slots_between c.args.from c.args.to) rest c.loop-place.place-index first c.loop-place-test.true ∙ ap
    (λ (b : Bool). slots_of (cond b (place ∷ filter (is_between c.args.from c.args.to) (drop (c.loop-place.place-index + 1) rest))
    (filter (is_between c.args.from c.args.to) (drop (c.loop-place.place-index + 1) rest))))
    (run_on c.args.from c.args.to c.args.places.now c.partition_point-start.result
    (point (goal.at.bounds-order-count c).After-rest-1) c.loop-place.place-index first c.loop-place-test.true less)

-- there is room for it
room : (c : goal.Else-key-to) → c.loop-place.count < length c.loop-place.order
room c =
    let more = ap (λ (l : List ℕ). length l) (now_one c) in
    omega (arith, c.loop-place.invariant.counted, c.requires.room, c.loop-place.auto.order)

pub bounds-order-count : goal.bounds-order-count
bounds-order-count c = room c

pub offset_bounds-order-count : goal.offset_bounds-order-count
offset_bounds-order-count c = let within = room c in search rules

pub overflow_add-count : goal.overflow_add-count
overflow_add-count c = let within = room c in search rules

pub loop-place-preserved : goal.loop-place-preserved
loop-place-preserved c =
    let rest : List StoredPlace = rest_of c.args.places.now c.partition_point-start.result in
    let n : ℕ = slot_of (get_or rest c.loop-place.place-index first) in
    let later : List ℕ = slots_between c.args.from c.args.to (drop (c.loop-place.place-index + 1) rest) in
    record {
      counted =
          omega (arith, ap (λ (l : List ℕ). length l) (now_one c), c.loop-place.invariant.counted);
      added =
          ap (λ (l : List ℕ). l ++ later) (take_more_set c.loop-place.order c.loop-place.count n (room c))
          ∙ append_assoc (take c.loop-place.count c.loop-place.order) (n ∷ []) later
          ∙ ap (λ (l : List ℕ). take c.loop-place.count c.loop-place.order ++ l) (sym (now_one c)) ∙ c.loop-place.invariant.added;
    }

pub returns-clause-count : goal.returns-clause-count
returns-clause-count c =
    let none = at_drop_all (slots_between c.args.from c.args.to) (rest_of c.args.places.now c.partition_point-start.result)
    c.loop-place.place-index (omega (arith, c.loop-place-test.false)) in
    omega (arith, c.loop-place.invariant.counted, ap (λ (l : List ℕ). length l) none)

pub returns-clause-added : goal.returns-clause-added
returns-clause-added c =
    let none = at_drop_all (slots_between c.args.from c.args.to) (rest_of c.args.places.now c.partition_point-start.result)
    c.loop-place.place-index (omega (arith, c.loop-place-test.false)) in
    sym (append-nil (take c.loop-place.count c.loop-place.order))
    ∙ ap (λ (l : List ℕ). take c.loop-place.count c.loop-place.order ++ l) (sym none) ∙ c.loop-place.invariant.added
