-- The notes of the end of deferred mode, said place by place. `finish_notes` of Journal, which finds them along the way, gives
-- the same.
use Rattle.std.specs.Prelude.{◌≡◌, ◌≢◌, ◌⊎◌, ◌↔◌, ◌<◌, ◌∷◌, ◌++◌}
use Rattle.fr_model.specs.Common.{ℕ, [], Option, Some, None, AllPairs, Contains, Table, Val}
use Rattle.fr_model.specs.Basis.{Note, wrote_at, Journal, in_parts, untouched, held, place_of, completes, finish_notes, Place, deferred_column, child_count, shape_at, fill_at}

-- a place lies strictly above another
pub record IsAbove (above here : Place) : Type 0 where
  pub step : ℕ
  pub rest : Place
  pub way : here ≡ above ++ step ∷ rest

-- no way leads from a place to the cursor, be it empty
abbrev pub IsOffTheWay : (cursor here : Place) → Type 0
IsOffTheWay cursor here = (way : Place) → cursor ≡ here ++ way → ⊥

-- the children of a place are closed: it lies above the cursor, or is the cursor's place and has parts
abbrev pub ClosesChildren : Journal → (cursor above : Place) → Type 0
ClosesChildren notes cursor above = IsAbove above cursor ⊎ ((above ≡ cursor) × (held notes cursor ≡ in_parts))

-- First: a child of such a place that isn't untouched, and neither is the cursor's place nor leads to it, gets the value that it
-- makes.
pub record IsLeft (table : Table) (root : ℕ) (notes : Journal) (cursor here : Place) (value : Option Val) : Type 0 where
  pub above : Place
  pub i : ℕ
  pub child : here ≡ above ++ i ∷ []
  pub closes : ClosesChildren notes cursor above
  pub there : i < child_count table (shape_at table root above)
  pub touched : held notes here ≢ untouched
  pub off : IsOffTheWay cursor here
  pub makes : value ≡ completes deferred_column table notes (shape_at table root here) here

-- Second: where the cursor's place has parts, an untouched child of it gets its fill.
pub record IsHole (table : Table) (root : ℕ) (notes : Journal) (cursor here : Place) (value : Option Val) : Type 0 where
  pub i : ℕ
  pub parts : held notes cursor ≡ in_parts
  pub child : here ≡ cursor ++ i ∷ []
  pub there : i < child_count table (shape_at table root cursor)
  pub hole : held notes here ≡ untouched
  pub takes : value ≡ fill_at deferred_column table (shape_at table root cursor) i

-- Third: where the cursor's place has no parts, it gets the value that it makes.
pub record IsCursor (table : Table) (root : ℕ) (notes : Journal) (cursor here : Place) (value : Option Val) : Type 0 where
  pub whole : held notes cursor ≢ in_parts
  pub same : here ≡ cursor
  pub makes : value ≡ completes deferred_column table notes (shape_at table root here) here

-- a place has to get a value at the end of deferred mode, and this is the value, if there is one
abbrev pub IsDue : Table → (root : ℕ) → Journal → (cursor here : Place) → Option Val → Type 0
IsDue table root notes cursor here value =
    IsLeft table root notes cursor here value ⊎ IsHole table root notes cursor here value ⊎ IsCursor table root notes cursor here value

-- some place has to get a value, and there is none
pub record IsStuck (table : Table) (root : ℕ) (notes : Journal) (cursor : Place) : Type 0 where
  pub here : Place
  pub due : IsDue table root notes cursor here None

-- a note writes a value to a place that has to get it
pub record IsDueNote (table : Table) (root : ℕ) (notes : Journal) (cursor : Place) (note : Note) : Type 0 where
  pub here : Place
  pub value : Val
  pub writes : note ≡ wrote_at here value
  pub due : IsDue table root notes cursor here (Some value)

-- deferred mode can't end exactly where some place has to get a value that there isn't
abbrev pub StuckOrNoted : Type 0
StuckOrNoted =
    (table : Table) (root : ℕ) (notes : Journal) (cursor : Place)
    → (finish_notes table notes root [] cursor ≡ None) ↔ IsStuck table root notes cursor

-- where it can, just those values are noted that are due
abbrev pub NotesWhatIsDue : Type 0
NotesWhatIsDue =
    (table : Table) (root : ℕ) (notes added : Journal) (cursor : Place) (note : Note)
    → finish_notes table notes root [] cursor ≡ Some added → Contains added note ↔ IsDueNote table root notes cursor note

-- neither of two places leads to the other, and so they aren't the same
pub record AreDisjoint (one other : Place) : Type 0 where
  pub not_above : IsOffTheWay other one
  pub not_beneath : IsOffTheWay one other

-- no two of some notes cover each other: the place of none lies at, above or beneath that of another
abbrev pub LieApart : Journal → Type 0
LieApart notes = AllPairs (λ (one other : Note). AreDisjoint (place_of one) (place_of other)) notes

-- no two of the notes that are added at the end of deferred mode cover each other
abbrev pub NotesLieApart : Type 0
NotesLieApart =
    (table : Table) (root : ℕ) (notes added : Journal) (cursor : Place)
    → finish_notes table notes root [] cursor ≡ Some added → LieApart added
