-- Places in slots, listed by their paths: what the order of the walk is made of.
use Rattle.std.specs.Prelude.{◌≡◌, ◌⊎◌, ℕ, ◌+◌, ◌-◌, ◌*◌, ◌<◌, ◌≤◌, Bool, true, false, cond, List, [], ◌∷◌, ◌++◌, filter, length, ltb, map, nat_eq, Option, Some, None, IsSomeAnd, if◌then◌else◌}
use Rattle.std.specs.List.{All, Contains}
use Rattle.fr_store.specs.Below.{Body, EntriesKind, FrameOwner, Heap, Kid, Node, Place, Plot, Tracker, as_content, as_elements, as_entries, as_fields, as_items, at, begun_body, begun_plot, body_in, entered_body, entered_plot, entry_of, gone, is_key, there, whole_body, whole_plot}
use Rattle.fr_store.specs.declared.turning.StoredPlace.{StoredPlace}
use Rattle.fr_store.specs.Numbers.{slot_of, slots_of}
use Rattle.fr_store.specs.Ways.{counts_if, kid_at, kid_below, Reaches}

-- Lists.

-- each element stands so to all that follow
abbrev pub Pairs : {X : Type 0} → (X → X → Type 0) → List X → Type 0
Pairs So [] = Unit {0}
Pairs So (x ∷ xs) = All (So x) xs × Pairs So xs

-- how often a number is in a list
abbrev pub counts_in : ℕ → List ℕ → ℕ
counts_in n [] = 0
counts_in n (m ∷ ms) = counts_if (nat_eq m n) + counts_in n ms

-- none is in it twice
abbrev pub AreOnce : List ℕ → Type 0
AreOnce ms = (n : ℕ) → counts_in n ms ≤ 1

-- The order of children.

-- where child i comes among the children of a place that is begun so: a map's keys all come before its values
abbrev pub order_as : Tracker → ℕ → ℕ
order_as (as_fields selected) i = i
order_as as_elements i = i
order_as (as_content kind) i = i
order_as (as_items kind) i = i
order_as (as_entries (EntriesKind.Map base)) i = if is_key i then entry_of i else entry_of i + 2147483648
order_as (as_entries (EntriesKind.Object keys)) i = i

-- the same of what was put at the place
abbrev pub order_in : Body → ℕ → ℕ
order_in entered_body i = i
order_in (whole_body v) i = i
order_in (begun_body tracker cells) i = order_as tracker i

abbrev pub order_at : Option Node → ℕ → ℕ
order_at (Some found) i = order_in found.body i
order_at None i = i

abbrev pub order_below : ℕ → Kid → ℕ
order_below i gone = i
order_below i (there v) = i
order_below i (at slot stored plot) = order_in (body_in plot) i

-- of two children the first comes later
abbrev pub IsLater : (first_is_key second_is_key : Bool) → (i j : ℕ) → Type 0
IsLater false true i j = Unit {0}
IsLater true false i j = ⊥
IsLater true true i j = j < i
IsLater false false i j = j < i

abbrev pub IsAfter : Tracker → (i j : ℕ) → Type 0
IsAfter (as_fields selected) i j = j < i
IsAfter as_elements i j = j < i
IsAfter (as_content kind) i j = j < i
IsAfter (as_items kind) i j = j < i
IsAfter (as_entries (EntriesKind.Map base)) i j = IsLater (is_key i) (is_key j) i j
IsAfter (as_entries (EntriesKind.Object keys)) i j = j < i

abbrev pub IsAfterIn : Plot → (i j : ℕ) → Type 0
IsAfterIn entered_plot i j = j < i
IsAfterIn (whole_plot v) i j = j < i
IsAfterIn (begun_plot tracker kids) i j = IsAfter tracker i j

abbrev pub IsAfterBelow : Kid → (i j : ℕ) → Type 0
IsAfterBelow gone i j = j < i
IsAfterBelow (there v) i j = j < i
IsAfterBelow (at slot stored plot) i j = IsAfterIn plot i j

-- Places.

abbrev pub IsHere : Kid → Type 0
IsHere gone = ⊥
IsHere (there v) = ⊥
IsHere (at slot stored plot) = Unit {0}

abbrev pub slot_here : Kid → ℕ
slot_here gone = 0
slot_here (there v) = 0
slot_here (at slot stored plot) = slot

abbrev pub stored_here : Kid → Bool
stored_here gone = false
stored_here (there v) = false
stored_here (at slot stored plot) = stored

-- the way leads to a place in a slot
pub record IsPlaced (k : Kid) (place : Place) : Type 0 where
  pub reaches : Reaches place k
  pub here : IsHere (kid_at place k)

-- its slot
abbrev pub slot_at : Kid → Place → ℕ
slot_at k place = slot_here (kid_at place k)

-- of two ways of one length: where they part, the first has the child that comes later there
abbrev pub BranchesLater : Kid → (first second : Place) → Type 0
BranchesLater k [] second = ⊥
BranchesLater k (i ∷ first) [] = ⊥
BranchesLater k (i ∷ first) (j ∷ second) = IsAfterBelow k i j ⊎ ((i ≡ j) × BranchesLater (kid_below i k) first second)

-- the shorter way comes first, and of two of one length that which branches later
abbrev pub ComesEarlier : Kid → (first second : Place) → Type 0
ComesEarlier k first second = (length first < length second) ⊎ ((length first ≡ length second) × BranchesLater k first second)

-- a place that is stored lies there
abbrev pub IsStoredHere : Kid → Place → Type 0
IsStoredHere k place = stored_here (kid_at place k) ≡ true

-- These are the slots of all stored places, in this order.
pub record IsSpread (k : Kid) (slots : List ℕ) : Type 0 where
  pub places : List Place
  pub placed : All (IsPlaced k) places
  pub stored : All (IsStoredHere k) places
  pub slots_are : slots ≡ map (slot_at k) places
  pub order : Pairs (ComesEarlier k) places
  pub all : (place : Place) → IsPlaced k place → IsStoredHere k place → Contains places place

-- What is noted of a stored place: where the place above lies, which child it is there, and where it comes among those.

abbrev pub IsNarrow : StoredPlace → Type 0
IsNarrow place = (place.number < 4294967296) × (place.order < 4294967296)

-- a place of this owner belongs there
abbrev pub BelongsTo : Heap → StoredPlace → FrameOwner → Type 0
BelongsTo heap place FrameOwner.Root = ⊥
BelongsTo heap place (FrameOwner.Child parent i) =
    (place.parent ≡ parent.0) × (place.number ≡ i) × (place.order ≡ order_at (heap parent.0) i)

-- so the place in its slot does
abbrev pub IsNoted : Heap → StoredPlace → Type 0
IsNoted heap place = IsSomeAnd (heap (slot_of place)) (λ (at : Node). BelongsTo heap place at.owner)

-- where it lies, the place above lying there
abbrev pub child_of : Place → StoredPlace → Place
child_of above place = above ++ place.number ∷ []

-- it is a stored child of a place
pub record IsStoredChildOf (k : Kid) (place : StoredPlace) (above : Place) : Type 0 where
  pub parent : place.parent ≡ slot_at k above
  pub placed : IsPlaced k (child_of above place)
  pub stored : IsStoredHere k (child_of above place)
  pub slot : slot_of place ≡ slot_at k (child_of above place)
  pub order : place.order ≡ order_below place.number (kid_at above k)

-- These are all stored places, each but once.
pub record AreAllStored (k : Kid) (places : List StoredPlace) : Type 0 where
  pub each : All (λ (place : StoredPlace). (above : Place) × IsStoredChildOf k place above) places
  pub narrow : All IsNarrow places
  pub once : AreOnce (slots_of places)
  pub all : (place : Place) → IsPlaced k place → IsStoredHere k place → Contains (slots_of places) (slot_at k place)

-- Keys, by which stored places are sorted: the children of one place are together, the last one of the walk first.

abbrev pub first_key : (parent : ℕ) → ℕ
first_key parent = parent * 4294967296

abbrev pub key_of : StoredPlace → ℕ
key_of place = first_key place.parent + (4294967295 - place.order)

-- the key is one of these, the last one not counted
abbrev pub is_between : (from to : ℕ) → StoredPlace → Bool
is_between from to place = cond (ltb (key_of place) from) false (ltb (key_of place) to)

-- the slots of the places whose keys are these
abbrev pub slots_between : (from to : ℕ) → List StoredPlace → List ℕ
slots_between from to places = slots_of (filter (is_between from to) places)

-- The key that a place of this owner would have.
abbrev pub IsKeyOf : Heap → ℕ → FrameOwner → Type 0
IsKeyOf heap key FrameOwner.Root = ⊥
IsKeyOf heap key (FrameOwner.Child parent i) =
    (i < 4294967296) × (key ≡ first_key parent.0 + (4294967295 - order_at (heap parent.0) i))
