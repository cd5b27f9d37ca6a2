-- What a journal holds of a place, said rule by rule. `held` of Journal is a scan of the notes that gives the same.
use Rattle.fr_model.specs.Common.{Bool, true, false, [], is_some, Option, Some, None, list_any, option_or, option_map_or, Val}
use Rattle.std.specs.Prelude.{option_map, ◌≡◌, ◌↔◌, ◌==◌, ◌∷◌, ◌++◌, if◌then◌else◌}
use Rattle.fr_model.specs.Basis.{Place, part_at, Note, entered_at, wrote_at, Journal, Held, in_parts, written, just_entered, untouched, place_of, held}

-- the way from one place down to another, where that is the same place or lies beneath it
abbrev pub way_down : (above here : Place) → Option Place
way_down [] here = Some here
way_down (i ∷ above) [] = None
way_down (i ∷ above) (j ∷ here) = if i == j then way_down above here else None

-- there is such a way, and it ends where it begins
abbrev pub is_empty_way : Option Place → Bool
is_empty_way (Some []) = true
is_empty_way (Some (i ∷ way)) = false
is_empty_way None = false

-- there is such a way, and it leads further down
abbrev pub goes_on : Option Place → Bool
goes_on (Some (i ∷ way)) = true
goes_on (Some []) = false
goes_on None = false

-- the note says that this very place was entered
abbrev pub is_entry_at : Place → Note → Bool
is_entry_at here (entered_at noted) = is_empty_way (way_down noted here)
is_entry_at here (wrote_at noted v) = false

-- the note is on a place strictly beneath this one
abbrev pub is_beneath : Place → Note → Bool
is_beneath here note = goes_on (way_down here (place_of note))

-- What a note gives a place: of a value that was written to it or above it, the part that the rest of the way names.
abbrev pub part_given : Note → Place → Option Val
part_given (wrote_at noted v) here = option_map (part_at v) (way_down noted here)
part_given (entered_at noted) here = None

-- The covering note of a place is the newest note that gives it something. This is what it gives, if there is one.
abbrev pub covering_part : Journal → Place → Option Val
covering_part [] here = None
covering_part (note ∷ notes) here = option_or (part_given note here) (covering_part notes here)

-- the notes that are newer than the covering note: all, where there is none
abbrev pub since_covered : Journal → Place → Journal
since_covered [] here = []
since_covered (note ∷ notes) here = if is_some (part_given note here) then [] else note ∷ since_covered notes here

-- Of these the first that holds: a place has parts, where a note newer than its covering note, or any note if it has no
-- covering note, is on a place strictly beneath; it is written, with what the covering note gives it; it was entered;
-- it is untouched.
abbrev pub held_by_rules : Journal → Place → Held
held_by_rules notes here =
    if list_any (is_beneath here) (since_covered notes here) then in_parts
    else option_map_or written (covering_part notes here) (if list_any (is_entry_at here) notes then just_entered else untouched)

-- the scan and the rules give the same of every place
abbrev pub ScanAgrees : Type 0
ScanAgrees = (notes : Journal) (here : Place) → held notes here ≡ held_by_rules notes here

-- the way down is what one place has to be followed by to give the other
abbrev pub WaysAgree : Type 0
WaysAgree = (above here way : Place) → (way_down above here ≡ Some way) ↔ (here ≡ above ++ way)
