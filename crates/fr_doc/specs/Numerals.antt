-- Numbers and characters in a document.
use Rattle.std.specs.Prelude.{ℕ, ◌+◌, ◌^◌, ◌&&◌, nat_lt, cond, ℤ, pos, neg_ℤ, Bool, true, false, List, drop, Option, Some, None, if◌then◌else◌}
use Rattle.std.specs.Str.{chars}
use Rattle.std.specs.Str.Parse.{digits_value, starts_with_minus}
use Rattle.fr_shape.specs.Parsing.{is_numeral, only}
use Rattle.serde_json.specs.Data.{Data, number, string}
use Rattle.serde_json.specs.Find.{as_number, as_u64, as_i64, as_integer}
use Rattle.fr_doc.specs.Steps.{◌>>=◌}

-- the number that the digits of a text write, if it has 128 bits
unfoldable pub digits_nat : List ℕ → Option ℕ
digits_nat text =
    if is_numeral text && nat_lt (digits_value 10 text) (2 ^ 128) then Some (digits_value 10 text) else None

-- a text without the minus that it begins with, if it does
abbrev pub without_minus : List ℕ → List ℕ
without_minus text = cond (starts_with_minus text) (drop 1 text) text

-- a number below zero or not, if it has 128 bits with its sign
abbrev pub signed : (below_zero : Bool) → ℕ → Option ℤ
signed true n = if nat_lt n (2 ^ 127 + 1) then Some (neg_ℤ (pos n)) else None
signed false n = if nat_lt n (2 ^ 127) then Some (pos n) else None

-- the signed number that a text writes by digits, which may follow a minus
unfoldable pub digits_int : List ℕ → Option ℤ
digits_int text =
    if is_numeral (without_minus text) then signed (starts_with_minus text) (digits_value 10 (without_minus text)) else None

-- the character of a text that has no other
abbrev pub one_char : List ℕ → Option ℕ
one_char text = only (chars text)

-- the digits of a number of up to 128 bits
abbrev pub nat_form : Data → Option ℕ
nat_form (string text) = digits_nat text
nat_form _ = None

-- an integer of 64 bits, or the digits of one of up to 128 bits
abbrev pub int_form : Data → Option ℤ
int_form (number n) = as_integer n
int_form (string text) = digits_int text
int_form _ = None

-- an integer in the range of i64
abbrev pub small_int_form : Data → Option ℤ
small_int_form (number n) = as_i64 n
small_int_form _ = None

-- a text of one character
abbrev pub char_form : Data → Option ℕ
char_form (string text) = one_char text
char_form _ = None

-- a whole number below a limit
abbrev pub below : ℕ → Option ℕ → Option ℕ
below limit found = do
  n ← found
  if nat_lt n limit then Some n else None

-- a whole number from 0 to 2^32 less 1
abbrev pub whole_number : Data → Option ℕ
whole_number (number n) = below (2 ^ 32) (as_u64 n)
whole_number _ = None

-- a whole number from 0 to 255
abbrev pub byte : Data → Option ℕ
byte (number n) = below 256 (as_u64 n)
byte _ = None

-- a whole number of 64 bits
abbrev pub length_form : Data → Option ℕ
length_form d = do
  n ← as_number d
  as_u64 n
