-- Which values are elements of a type, and which value an element is.
use Rattle.std.specs.Prelude.{ℕ, Bool, true, false, ◌&&◌, List, map, Option, Some, None, Result, Ok, Err}
use Rattle.fr_shape.specs.declared.shape.Def.{Def}
use Rattle.fr_shape.specs.declared.shape.ScalarKind.{ScalarKind}
use Rattle.fr_shape.specs.Fits.{takes_bool, takes_char, takes_text, signed_bits, unsigned_bits, in_signed, in_unsigned}
use Rattle.fr_shape.specs.Val.{Val, Vals, bool, char, int, nat, text, token, none, some, ok, err, list_of, ptr, no_vals, first}
use Rattle.fr_shape.specs.View.{vals_of}

-- an integer of as many bits as are given, with or without a sign; none where the kind has no such number of bits
abbrev pub has_bits : Option ℕ → (fits_in : Option ℕ → Bool) → Bool
has_bits (Some bits) fits_in = fits_in (Some bits)
has_bits None fits_in = false

-- a value of a scalar of this kind
abbrev pub scalar_takes : ScalarKind → Val → Bool
scalar_takes kind (bool b) = takes_bool (Def.Scalar kind)
scalar_takes kind (char c) = takes_char (Def.Scalar kind)
scalar_takes kind (int z) = has_bits (signed_bits kind) (in_signed z)
scalar_takes kind (nat n) = has_bits (unsigned_bits kind) (in_unsigned n)
scalar_takes kind (text t) = takes_text (Def.Scalar kind)
scalar_takes kind _ = false

-- one token
abbrev pub opaque_takes : Val → Bool
opaque_takes (token t) = true
opaque_takes _ = false

-- nothing, or an element
abbrev pub option_takes : (takes : Val → Bool) → Val → Bool
option_takes takes none = true
option_takes takes (some v) = takes v
option_takes takes _ = false

-- a value, or an error
abbrev pub result_takes : (takes takes_error : Val → Bool) → Val → Bool
result_takes takes takes_error (ok v) = takes v
result_takes takes takes_error (err v) = takes_error v
result_takes takes takes_error _ = false

-- an element behind a pointer
abbrev pub box_takes : (takes : Val → Bool) → Val → Bool
box_takes takes (ptr v) = takes v
box_takes takes _ = false

abbrev pub each_taken : (takes : Val → Bool) → Vals → Bool
each_taken takes no_vals = true
each_taken takes (first v vs) = takes v && each_taken takes vs

-- a list of elements
abbrev pub list_takes : (takes : Val → Bool) → Val → Bool
list_takes takes (list_of vs) = each_taken takes vs
list_takes takes _ = false

abbrev pub option_shown : {A : Type 0} → (shown : A → Val) → Option A → Val
option_shown shown None = none
option_shown shown (Some x) = some (shown x)

abbrev pub result_shown : {A E : Type 0} → (shown : A → Val) → (shown_error : E → Val) → Result A E → Val
result_shown shown shown_error (Ok x) = ok (shown x)
result_shown shown shown_error (Err e) = err (shown_error e)

abbrev pub vals_shown : {A : Type 0} → (shown : A → Val) → List A → Vals
vals_shown shown xs = vals_of (map shown xs)
