-- The conversion of values of other shapes for a dynamic place: what it may want memory for, and how it is refused.
use Rattle.std.specs.Prelude.{◌≡◌, ℕ, Bool, true, false, ◌&&◌, Some, Result, Ok, Err}
use Rattle.fr_shape.specs.declared.shape.Def.{Def}
use Rattle.fr_shape.specs.declared.shape.ScalarKind.{ScalarKind}
use Rattle.fr_shape.specs.declared.error.Operation.{Operation}
use Rattle.fr_shape.specs.declared.error.ReflectErrorKind.{ReflectErrorKind}
use Rattle.fr_shape.specs.Fits.{in_signed, in_unsigned, signed_bits, unsigned_bits}
use Rattle.fr_shape.specs.Val.{Val, Vals, Dynamic, int, nat, list_of, no_vals, first}
use Rattle.fr_model.specs.Step.{operation_failed}

-- a character's text is a copy
abbrev pub is_copied : ScalarKind → Bool
is_copied ScalarKind.Bool = false
is_copied ScalarKind.Char = true
is_copied ScalarKind.I8 = false
is_copied ScalarKind.I16 = false
is_copied ScalarKind.I32 = false
is_copied ScalarKind.I64 = false
is_copied ScalarKind.I128 = false
is_copied ScalarKind.ISize = false
is_copied ScalarKind.U8 = false
is_copied ScalarKind.U16 = false
is_copied ScalarKind.U32 = false
is_copied ScalarKind.U64 = false
is_copied ScalarKind.U128 = false
is_copied ScalarKind.USize = false
is_copied ScalarKind.String = false
is_copied ScalarKind.CowStr = false

-- A character and a list are copied to be converted, which takes memory; a text is moved, and the rest needs none.
abbrev pub copies_to_convert : Def → Bool
copies_to_convert (Def.Scalar kind) = is_copied kind
copies_to_convert (Def.List t) = true
copies_to_convert Def.Str = false
copies_to_convert Def.Opaque = false
copies_to_convert (Def.Struct struct) = false
copies_to_convert (Def.Enum enumeration) = false
copies_to_convert (Def.Option t) = false
copies_to_convert (Def.Result t e) = false
copies_to_convert (Def.Map key item) = false
copies_to_convert (Def.Set t) = false
copies_to_convert (Def.Array t n) = false
copies_to_convert (Def.Pointer pointer) = false
copies_to_convert (Def.Slice t) = false
copies_to_convert Def.Dynamic = false
copies_to_convert Def.Undefined = false
copies_to_convert Def.Other = false

-- Where a conversion is to be refused, that is the kind, of the given shape; else only memory can be wanting.
abbrev pub IsUnconverted : (wanted : Result Dynamic Operation) → (given : ℕ) → ReflectErrorKind → Type 0
IsUnconverted (Ok d) given kind = kind ≡ ReflectErrorKind.OutOfMemory
IsUnconverted (Err operation) given kind = kind ≡ operation_failed given operation

-- a number is one of this kind
abbrev pub in_range : ScalarKind → Val → Bool
in_range kind (int z) = in_signed z (signed_bits kind)
in_range kind (nat n) = in_unsigned n (unsigned_bits kind)
in_range kind _ = true

-- a number has at most 64 bits
abbrev pub is_narrow : Val → Bool
is_narrow (int z) = in_signed z (Some 64)
is_narrow (nat n) = in_unsigned n (Some 64)
is_narrow _ = true

-- a number of 8 bits
abbrev pub is_octet : Val → Bool
is_octet (nat n) = in_unsigned n (Some 8)
is_octet _ = false

abbrev pub are_octets : Vals → Bool
are_octets no_vals = true
are_octets (first v vs) = is_octet v && are_octets vs

-- each item of a list is a number of 8 bits
abbrev pub has_octets : Val → Bool
has_octets (list_of vs) = are_octets vs
has_octets _ = true
