-- Places that stay in their slots. A slot's number is the index of the place in it: it holds until the place completes into the
-- one above or is released.
use Rattle.std.specs.Prelude.{◌≡◌, ◌≢◌}
use Rattle.fr_store.specs.Below.{IsAbove, Kid, Place, Taker}
use Rattle.fr_store.specs.PlaceOrder.{slot_at, IsPlaced}

-- the place, where it lay in a slot, lies in the same slot still
abbrev pub StaysPut : (before after : Kid) → Place → Type 0
StaysPut before after place = IsPlaced before place → IsPlaced after place × (slot_at after place ≡ slot_at before place)

-- so does each place
abbrev pub AllStayPut : (before after : Kid) → Type 0
AllStayPut before after = (place : Place) → StaysPut before after place

-- so does each place but those strictly beneath this one
abbrev pub StayPutButBeneath : Place → (before after : Kid) → Type 0
StayPutButBeneath above before after = (place : Place) → (IsAbove above place → ⊥) → StaysPut before after place

-- so does each place but this one
abbrev pub StayPutBut : Place → (before after : Kid) → Type 0
StayPutBut one before after = (place : Place) → place ≢ one → StaysPut before after place

-- so does each place as the value of this one is handed over: of this one nothing is said where its value goes up
abbrev pub StayPutAs : Taker → Place → (before after : Kid) → Type 0
StayPutAs Taker.Above place before after = StayPutBut place before after
StayPutAs Taker.Set place before after = StayPutBut place before after
StayPutAs Taker.Itself place before after = AllStayPut before after
