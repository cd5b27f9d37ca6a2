use Rattle.std.proofs.Common.{rules, ◌≡◌, ◌≢◌, ◌⊎◌, ◌+◌, ◌*◌, ◌<◌, ◌∙◌, Fits, w32, ℕ, List, ap, get_or, inl, inr, length, sym, arith}
use Rattle.std.specs.Int.{w128}
use Rattle.std.proofs.lemmas.List.{get_or-map, length-map}
use Rattle.fr_store.specs.Numbers.{number_of}
use Rattle.fr_store.proofs.SpreadSteps.{open_owned, open_room, open_step, spread_ends, spread_starts, stored_room, stored_step, stored_within}
use Rattle.fr_store.proofs.spreading.spread.Goals as goal
use Rattle.fr_store.proofs.spreading.spread.Goals.{then-opened-on_stack, else-opened-on_stack+then-head-count, else-opened-on_stack-2-via-then-opened-on_stack-2+else-head-at, else-opened-on_stack-2-via-else-opened-on_stack-2, Joined-else-opened-on_stack-2, After-row_known-1}

fits_key : (n : ℕ) → Fits w32 n → Fits w128 (n * 4294967296 + 4294967296)
fits_key n fits = record { fits = let small = fits.fits in omega arith }

pub loop-opened-init : goal.loop-opened-init
loop-opened-init c =
    spread_starts c.requires.is_open c.requires.stored c.requires.sorted c.args.order.now c.requires.room

-- A stored place.

long : (c : Joined-else-opened-on_stack-2) → length c.places-on_stack.result.now ≡ length c.args.stack.now
long c = sym (length-map c.places-on_stack.result.now number_of) ∙ ap (λ (l : List ℕ). length l) c.places-on_stack.ensures.places

waits : (c : Joined-else-opened-on_stack-2) → (c.loop-opened.opened < length c.args.stack.now) ⊎ (c.loop-opened.head < c.loop-opened.count)
waits c =
    elim c.if-opened-on_stack.branch [
      | then-opened-on_stack w ↦ inl (omega (arith, w.if-opened-on_stack.true, long c))
      | else-opened-on_stack+then-head-count w ↦ inr (w.if-head-count.true)
    ]

apart : (c : Joined-else-opened-on_stack-2) → c.loop-opened.opened < length c.args.stack.now → c.loop-opened.head ≢ c.loop-opened.at
apart c still =
    elim c.else-opened-on_stack-2.branch [
      | else-opened-on_stack-2-via-then-opened-on_stack-2+else-head-at w ↦ w.if-head-at.false
      | else-opened-on_stack-2-via-else-opened-on_stack-2 w ↦ absurd (omega (arith, w.if-opened-on_stack-2.false, long c))
    ]

less : (c : Joined-else-opened-on_stack-2) → c.loop-opened.head < c.loop-opened.count
less c = stored_within c.loop-opened.invariant (waits c) (apart c)

within : (c : Joined-else-opened-on_stack-2) → c.loop-opened.head < length c.loop-opened.order
within c = omega (arith, less c, c.loop-opened.invariant.room, c.loop-opened.invariant.long)

pub offset_bounds-order-head : goal.offset_bounds-order-head
offset_bounds-order-head c = let inside = within c in search rules

pub bounds-order-head : goal.bounds-order-head
bounds-order-head c = within (goal.at.bounds-order-head c).Joined-else-opened-on_stack-2

pub overflow_add-from-else-opened-on_stack-2 : goal.overflow_add-from-else-opened-on_stack-2
overflow_add-from-else-opened-on_stack-2 c = fits_key (get_or c.loop-opened.order c.loop-opened.head 0) (c.type_inv.order c.loop-opened.head)

pub add_between-count-requires-else-opened-on_stack-2-clause-room :
    goal.add_between-count-requires-else-opened-on_stack-2-clause-room
add_between-count-requires-else-opened-on_stack-2-clause-room c =
    let j = (goal.at.add_between-count-requires-else-opened-on_stack-2-clause-room c).Joined-else-opened-on_stack-2 in
    omega (arith, c.loop-opened.invariant.long, stored_room c.loop-opened.invariant (waits j) (apart j))

pub overflow_add-head : goal.overflow_add-head
overflow_add-head c =
    let inside = within (goal.at.overflow_add-head c).Joined-else-opened-on_stack-2 in
    search rules

pub loop-opened-smaller : goal.loop-opened-smaller
loop-opened-smaller c =
    omega (arith, less (goal.at.loop-opened-smaller c).Joined-else-opened-on_stack-2, c.loop-opened.invariant.room)

pub loop-opened-preserved : goal.loop-opened-preserved
loop-opened-preserved c =
    let j = (goal.at.loop-opened-preserved c).Joined-else-opened-on_stack-2 in
    stored_step c.loop-opened.invariant (waits j) (apart j) c.add_between-count-else-opened-on_stack-2.new.order
    c.add_between-count-else-opened-on_stack-2.result c.add_between-count-else-opened-on_stack-2.ensures.count
    c.add_between-count-else-opened-on_stack-2.ensures.added c.add_between-count-else-opened-on_stack-2.ensures.long

-- An open place.

pub overflow_add-from : goal.overflow_add-from
overflow_add-from c = fits_key (get_or c.places-on_stack.result.now c.loop-opened.opened (record { 0 = 0 })).0 c.if-head-at.element_fits

pub key_at-middle-requires : goal.key_at-middle-requires
key_at-middle-requires c = record {
  owned =
      open_owned c.loop-opened.invariant c.places-on_stack.result.now c.places-on_stack.ensures.places
      c.if-opened-on_stack-2.true c.if-head-at.true;
}

read_then : (c : After-row_known-1)
    → (get_or c.places-on_stack.result.now c.loop-opened.opened (record { 0 = 0 })).0 ≡ get_or c.args.stack.now c.loop-opened.opened 0
read_then c =
    sym (get_or-map number_of c.places-on_stack.result.now c.loop-opened.opened (record { 0 = 0 }) 0 c.if-opened-on_stack-2.true)
    ∙ ap (λ (l : List ℕ). get_or l c.loop-opened.opened 0) c.places-on_stack.ensures.places

pub add_between-at-requires-clause-room : goal.add_between-at-requires-clause-room
add_between-at-requires-clause-room c =
    let before = (goal.at.add_between-at-requires-clause-room c).After-row_known-1 in
    let room = open_room c.loop-opened.invariant c.places-on_stack.result.now c.places-on_stack.ensures.places
    c.if-opened-on_stack-2.true c.if-head-at.true (read_then before) c.key_at-middle.ensures.key c.key_at-middle.ensures.none in
    omega (arith, c.loop-opened.invariant.long)

pub overflow_add-from-then-head-at : goal.overflow_add-from-then-head-at
overflow_add-from-then-head-at c =
    fits_key (get_or c.places-on_stack.result.now c.loop-opened.opened (record { 0 = 0 })).0 c.if-head-at.element_fits

pub add_between-count-requires-clause-room : goal.add_between-count-requires-clause-room
add_between-count-requires-clause-room c =
    let before = (goal.at.add_between-count-requires-clause-room c).After-row_known-1 in
    let room = open_room c.loop-opened.invariant c.places-on_stack.result.now c.places-on_stack.ensures.places
    c.if-opened-on_stack-2.true c.if-head-at.true (read_then before) c.key_at-middle.ensures.key c.key_at-middle.ensures.none in
    omega (arith, c.loop-opened.invariant.long, c.add_between-at.ensures.count, c.add_between-at.ensures.long)

pub loop-opened-preserved-then-head-at : goal.loop-opened-preserved-then-head-at
loop-opened-preserved-then-head-at c =
    let before = (goal.at.loop-opened-preserved-then-head-at c).After-row_known-1 in
    open_step c.loop-opened.invariant c.places-on_stack.result.now c.places-on_stack.ensures.places
    c.if-opened-on_stack-2.true c.if-head-at.true (read_then before) c.key_at-middle.ensures.key c.key_at-middle.ensures.none
    c.add_between-at.new.order c.add_between-count.new.order c.add_between-at.ensures.count c.add_between-at.ensures.added
    c.add_between-count.ensures.count c.add_between-count.ensures.added
    (c.add_between-count.ensures.long ∙ c.add_between-at.ensures.long)

-- All are written down.
pub returns-clause-spread : goal.returns-clause-spread
returns-clause-spread c =
    let same = sym (length-map c.places-on_stack.result.now number_of) ∙ ap (λ (l : List ℕ). length l) c.places-on_stack.ensures.places in
    spread_ends c.loop-opened.invariant (omega (arith, c.if-opened-on_stack.false, same)) (omega (arith, c.if-head-count.false))
