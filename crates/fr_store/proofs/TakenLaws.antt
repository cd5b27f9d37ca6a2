-- Tokens and values of one place among all slots.
use Rattle.std.proofs.Common.{◌≡◌, ℕ, zero, suc, ◌≤◌, List, [], ◌∷◌, Option, Some, None, sym, ◌∙◌, ap, subst, arith}
use Rattle.fr_store.specs.Common.{Conserved, FillsAt, IfInUse, IsOpen, IsSome, IsSomeAnd, Meanings, Node, Plan, Room, Room_fewer, Room_same, SameTokens, Slot, Table, body_occurs, deferred_column, heap_of, is_some, node_of, slots_occur, slots_tokens, tokens_in, value_of}
use Rattle.fr_frame.specs.Closed.{IsClosedAt}
use Rattle.fr_store.specs.TopLaws.{slot_here}
use Rattle.fr_store.proofs.HeldOrReleased.{room_left}

-- a place in a slot has no token oftener than all slots
pub held_in : (slots : List Slot) (n : ℕ) {found : Node} (t : ℕ) → heap_of slots n ≡ Some found
    → body_occurs found.body t ≤ slots_occur slots t
held_in [] n t is = absurd (cc)
held_in (Slot.Used place ∷ slots) zero {found} t is =
    let same : node_of place ≡ found = cc in
    let own : body_occurs (node_of place).body t ≡ body_occurs found.body t = ap (λ (x : Node). body_occurs x.body t) same in
    omega (arith, own)
held_in (Slot.List place items ∷ slots) zero {found} t is =
    let same : node_of place ≡ found = cc in
    let own : body_occurs (node_of place).body t ≡ body_occurs found.body t = ap (λ (x : Node). body_occurs x.body t) same in
    omega (arith, own)
held_in (slot ∷ slots) (suc n) {found} t is = let rest = held_in slots n t is in omega (arith, rest)
held_in _ zero t is = absurd (cc)

-- there is room to release it where there is room to release all
found_room : (slots : List Slot) (n : ℕ) (ledger : List ℕ) {found : Node} → heap_of slots n ≡ Some found
    → Room (slots_occur slots) ledger → IfInUse slots n (λ (x : Node). Room (body_occurs x.body) ledger)
found_room slots n ledger {found} is room =
    subst (λ (o : Option Node). IsSomeAnd o (λ (x : Node). Room (body_occurs x.body) ledger)) (sym is)
    (Room_fewer (body_occurs found.body) (slots_occur slots) ledger (λ t. held_in slots n t is) room)

pub closed_room : {plan : Plan} {before : List Slot} (first : List Slot) {stack : List ℕ} (n : ℕ) {ledger now : List ℕ}
    → IsOpen plan before stack → Room (tokens_in before stack) ledger → SameTokens before first → now ≡ ledger
    → IfInUse before n (IsClosedAt before first n) → IfInUse first n (λ (x : Node). Room (body_occurs x.body) now)
closed_room {plan} {before} first {stack} n {ledger} {now} open_now room tokens same closed = go (heap_of before n) closed
  where
    all : Room (slots_occur first) now
    all =
        subst (Room (slots_occur first)) (sym same) (Room_same (tokens_in before stack) (slots_occur first)
        ledger (λ t. omega (arith, tokens t, slots_tokens open_now t)) room)

    go : (found : Option Node) → IsSomeAnd found (IsClosedAt before first n)
        → IfInUse first n (λ (x : Node). Room (body_occurs x.body) now)
    go (Some at) is =
        found_room first n now (is.becomes n ∙ slot_here (heap_of before) n (Some (record at { body = is.body }))) all
    go None is = absurd is

-- of an open builder that lost none but released ones there is room for what is left
pub room_still : {plan : Plan} {before now : List Slot} {stack : List ℕ} {ledger after : List ℕ} → IsOpen plan before stack
    → IsOpen plan now stack → Conserved (slots_occur before) ledger (slots_occur now) after → Room (tokens_in before stack) ledger
    → Room (tokens_in now stack) after
room_still {plan} {before} {now} {stack} {ledger} {after} open_before open_now conserved room =
    Room_same (slots_occur now) (tokens_in now stack) after (slots_tokens open_now) (room_left conserved
    (Room_same (tokens_in before stack) (slots_occur before) ledger (λ t. sym (slots_tokens open_before t)) room))

-- What was completed has a value.
pub filled_valued : (means : Meanings) (table : Table) (plan : Plan) (before first : List Slot) (n : ℕ)
    → IfInUse before n (FillsAt deferred_column means table plan before first n)
    → IfInUse first n (λ (x : Node). IsSome (value_of x.body))
filled_valued means table plan before first n fills = go (heap_of before n) fills
  where
    go : (found : Option Node) → IsSomeAnd found (FillsAt deferred_column means table plan before first n)
        → IfInUse first n (λ (x : Node). IsSome (value_of x.body))
    go (Some at) is =
        subst (λ (o : Option Node). IsSomeAnd o (λ (x : Node). IsSome (value_of x.body)))
        (sym (is.becomes n ∙ slot_here (heap_of before) n (Some (record at { body = is.body })))) (ap is_some is.filled.held)
    go None is = absurd is
