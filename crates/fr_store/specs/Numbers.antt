-- Numbers of slots.
use Rattle.std.specs.Prelude.{◌≡◌, ℕ, ◌<◌, List, [], ◌∷◌, ◌++◌, length, map, slice_get, slice_index, Some}
use Rattle.fr_frame.specs.declared.places.SlotId.{SlotId}
use Rattle.fr_store.specs.declared.turning.StoredPlace.{StoredPlace}

abbrev pub number_of : SlotId → ℕ
number_of slot = slot.0

abbrev pub numbers : List SlotId → List ℕ
numbers slots = map number_of slots

abbrev pub slot_of : StoredPlace → ℕ
slot_of place = place.slot.0

-- the slots of stored places
abbrev pub slots_of : List StoredPlace → List ℕ
slots_of places = map slot_of places

-- the list ends with this number
abbrev pub IsLast : List ℕ → ℕ → Type 0
IsLast all n = (above : List ℕ) × (all ≡ above ++ n ∷ [])

-- under each number of the list stands where it is in the list, so that none is in it twice
abbrev pub IsIndexed : (all positions : List ℕ) → Type 0
IsIndexed all positions = (i : ℕ) → i < length all → slice_get positions (slice_index all i) ≡ Some i
