-- The words that ask for a generated script.
use Rattle.std.specs.Prelude.{◌==◌, ℕ, Bool, false, ◌&&◌, not, List, [], ◌∷◌, nat_le, Option, Some, None, String, string_bytes, codes, if◌then◌else◌}
use Rattle.std.specs.declared.alloc.Global.{Global}
use Rattle.std.specs.Str.{bytes_eq}
use Rattle.std.specs.Str.Parse.{digits_value}
use Rattle.fr_shape.specs.Parsing.{is_numeral}
use Rattle.fr_script.specs.declared.generating.TheConstants.{STEP_LIMIT}

abbrev pub begins_with_zero : List ℕ → Bool
begins_with_zero [] = false
begins_with_zero (byte ∷ bytes) = byte == 48

-- plain digits: one or more of 0 to 9, the first of which isn't 0
abbrev pub is_plain_numeral : List ℕ → Bool
is_plain_numeral text = is_numeral text && not (begins_with_zero text)

-- the number that plain digits write, if there may be so many steps
abbrev pub steps_told : List ℕ → Option ℕ
steps_told text =
    if is_plain_numeral text && nat_le (digits_value 10 text) STEP_LIMIT then Some (digits_value 10 text) else None

-- the number of steps that is asked for: by `gen` and that number, and no word more
abbrev pub steps_asked : List (String Global) → Option ℕ
steps_asked [] = None
steps_asked (word ∷ []) = None
steps_asked (word ∷ count ∷ []) =
    if bytes_eq (string_bytes word) (codes "gen") then steps_told (string_bytes count) else None
steps_asked (word ∷ count ∷ other ∷ words) = None
