-- What a text is parsed to at a place that no parse hook serves: one row for each kind of scalar.
use Rattle.std.specs.Prelude.{ℕ, Bool, true, false, ◌&&◌, List, [], ◌∷◌, length, nat_lt, Option, Some, None, option_map, if◌then◌else◌}
use Rattle.std.specs.Str.{all_ascii_digits, bytes_eq, chars}
use Rattle.std.specs.Str.Parse.{digits_value, signed_digits_value, without_leading_plus, without_leading_sign, true_text, false_text}
use Rattle.fr_shape.specs.declared.shape.Def.{Def}
use Rattle.fr_shape.specs.declared.shape.ScalarKind.{ScalarKind}
use Rattle.fr_shape.specs.Fits.{signed_bits, unsigned_bits, in_signed, in_unsigned}
use Rattle.fr_shape.specs.Hooks.{Meaning, gives, refuses, unsupported}
use Rattle.fr_shape.specs.Val.{Val, bool, char, int, nat, text}

-- one or more of the digits 0 to 9
abbrev pub is_numeral : List ℕ → Bool
is_numeral digits = nat_lt 0 (length digits) && all_ascii_digits digits

-- `true` or `false`
abbrev pub parsed_bool : List ℕ → Option Val
parsed_bool s = if bytes_eq s true_text then Some (bool true) else if bytes_eq s false_text then Some (bool false) else None

abbrev pub only : List ℕ → Option ℕ
only (c ∷ []) = Some c
only _ = None

-- exactly one character
abbrev pub parsed_char : List ℕ → Option Val
parsed_char s = option_map char (only (chars s))

-- an optional plus or minus, then digits, the number in the range of so many bits with a sign
abbrev pub parsed_int : Option ℕ → List ℕ → Option Val
parsed_int bits s =
    if is_numeral (without_leading_sign s) && in_signed (signed_digits_value 10 s) bits then Some (int (signed_digits_value 10 s)) else None

-- an optional plus, then digits, the number in the range of so many bits
abbrev pub parsed_nat : Option ℕ → List ℕ → Option Val
parsed_nat bits s =
    if is_numeral (without_leading_plus s) && in_unsigned (digits_value 10 (without_leading_plus s)) bits
    then Some (nat (digits_value 10 (without_leading_plus s))) else None

-- what a text is parsed to at a scalar, if it is written as one of that kind is
abbrev pub parsed_scalar : ScalarKind → List ℕ → Option Val
parsed_scalar ScalarKind.Bool s = parsed_bool s
parsed_scalar ScalarKind.Char s = parsed_char s
parsed_scalar ScalarKind.I8 s = parsed_int (signed_bits ScalarKind.I8) s
parsed_scalar ScalarKind.I16 s = parsed_int (signed_bits ScalarKind.I16) s
parsed_scalar ScalarKind.I32 s = parsed_int (signed_bits ScalarKind.I32) s
parsed_scalar ScalarKind.I64 s = parsed_int (signed_bits ScalarKind.I64) s
parsed_scalar ScalarKind.I128 s = parsed_int (signed_bits ScalarKind.I128) s
parsed_scalar ScalarKind.ISize s = parsed_int (signed_bits ScalarKind.ISize) s
parsed_scalar ScalarKind.U8 s = parsed_nat (unsigned_bits ScalarKind.U8) s
parsed_scalar ScalarKind.U16 s = parsed_nat (unsigned_bits ScalarKind.U16) s
parsed_scalar ScalarKind.U32 s = parsed_nat (unsigned_bits ScalarKind.U32) s
parsed_scalar ScalarKind.U64 s = parsed_nat (unsigned_bits ScalarKind.U64) s
parsed_scalar ScalarKind.U128 s = parsed_nat (unsigned_bits ScalarKind.U128) s
parsed_scalar ScalarKind.USize s = parsed_nat (unsigned_bits ScalarKind.USize) s
parsed_scalar ScalarKind.String s = Some (text s)
parsed_scalar ScalarKind.CowStr s = Some (text s)

-- a value, or a refusal that tells nothing more
abbrev pub gives_or_refuses : Option Val → Meaning
gives_or_refuses (Some v) = gives v
gives_or_refuses None = refuses []

-- Scalars and `str` are parsed, nothing else is.
abbrev pub parsed : Def → List ℕ → Meaning
parsed (Def.Scalar kind) s = gives_or_refuses (parsed_scalar kind s)
parsed Def.Str s = gives (text s)
parsed Def.Opaque s = unsupported
parsed (Def.Struct struct) s = unsupported
parsed (Def.Enum enumeration) s = unsupported
parsed (Def.Option t) s = unsupported
parsed (Def.Result t e) s = unsupported
parsed (Def.List t) s = unsupported
parsed (Def.Map k v) s = unsupported
parsed (Def.Set t) s = unsupported
parsed (Def.Array t n) s = unsupported
parsed (Def.Pointer pointer) s = unsupported
parsed (Def.Slice t) s = unsupported
parsed Def.Dynamic s = unsupported
parsed Def.Undefined s = unsupported
parsed Def.Other s = unsupported
