-- When a value passes the validator of its field, and what is said where it doesn't.
use Rattle.std.specs.Prelude.{ℕ, ℤ, pos, int_le, nat_le, Bool, true, false, ◌&&◌, ◌||◌, List, [], ◌∷◌, ◌++◌, length, nat_eq, Option, Some, None, codes, decimal, if◌then◌else◌}
use Rattle.std.specs.Fmt.{signed_decimal}
use Rattle.fr_shape.specs.declared.shape.Def.{Def}
use Rattle.fr_shape.specs.declared.shape.ScalarKind.{ScalarKind}
use Rattle.fr_shape.specs.declared.shape.ValidatorDef.{ValidatorDef}
use Rattle.fr_shape.specs.Val.{Val, int, nat, text}

-- the integer kinds whose bounds are compared: those named by 8 to 64 bits (neither the two sizes nor those of 128)
abbrev pub is_compared : ScalarKind → Bool
is_compared ScalarKind.I8 = true
is_compared ScalarKind.I16 = true
is_compared ScalarKind.I32 = true
is_compared ScalarKind.I64 = true
is_compared ScalarKind.U8 = true
is_compared ScalarKind.U16 = true
is_compared ScalarKind.U32 = true
is_compared ScalarKind.U64 = true
is_compared ScalarKind.Bool = false
is_compared ScalarKind.Char = false
is_compared ScalarKind.I128 = false
is_compared ScalarKind.ISize = false
is_compared ScalarKind.U128 = false
is_compared ScalarKind.USize = false
is_compared ScalarKind.String = false
is_compared ScalarKind.CowStr = false

-- the number that an integer value is, and the bytes of a text (of any other value nothing)
abbrev pub integer_in : Val → Option ℤ
integer_in (int z) = Some z
integer_in (nat n) = Some (pos n)
integer_in _ = None

abbrev pub bytes_in : Val → List ℕ
bytes_in (text bytes) = bytes
bytes_in _ = []

abbrev pub is_least : (low : ℤ) → Option ℤ → Bool
is_least low (Some z) = int_le low z
is_least low None = true

abbrev pub is_most : (high : ℤ) → Option ℤ → Bool
is_most high (Some z) = int_le z high
is_most high None = true

-- the bytes begin with the others
abbrev pub begins_with : (beginning bytes : List ℕ) → Bool
begins_with [] bytes = true
begins_with (b ∷ beginning) [] = false
begins_with (b ∷ beginning) (c ∷ bytes) = nat_eq b c && begins_with beginning bytes

-- the bytes begin with the others, or do so further on
abbrev pub is_within : (part bytes : List ℕ) → Bool
is_within part [] = begins_with part []
is_within part (b ∷ bytes) = begins_with part (b ∷ bytes) || is_within part bytes

abbrev pub is_url : List ℕ → Bool
is_url bytes = begins_with (codes "http://") bytes || begins_with (codes "https://") bytes

-- The value, of a field whose shape is a scalar of this kind, passes. Bounds are tested of the compared kinds alone;
-- lengths count bytes; a pattern is a text to be found; `checks` is the meaning of the hooks' tests.
abbrev pub passes : (checks : ℕ → Val → Bool) → ScalarKind → ValidatorDef → Val → Bool
passes checks kind (ValidatorDef.Custom hook) v = checks hook.0 v
passes checks kind (ValidatorDef.Min low) v = if is_compared kind then is_least low (integer_in v) else true
passes checks kind (ValidatorDef.Max high) v = if is_compared kind then is_most high (integer_in v) else true
passes checks kind (ValidatorDef.MinLength low) v = nat_le low (length (bytes_in v))
passes checks kind (ValidatorDef.MaxLength high) v = nat_le (length (bytes_in v)) high
passes checks kind ValidatorDef.Url v = is_url (bytes_in v)
passes checks kind (ValidatorDef.Regex pattern) v = is_within pattern (bytes_in v)
passes checks kind (ValidatorDef.Contains needle) v = is_within needle (bytes_in v)

-- the kind of a scalar; any other definition is read as String, since no validator but a hook may stand there
abbrev pub kind_of : Def → ScalarKind
kind_of (Def.Scalar kind) = kind
kind_of _ = ScalarKind.String

-- the same, of a field whose shape has this definition
abbrev pub passes_at : (checks : ℕ → Val → Bool) → Def → ValidatorDef → Val → Bool
passes_at checks def validator v = passes checks (kind_of def) validator v

abbrev pub number_text : Option ℤ → List ℕ
number_text (Some z) = signed_decimal z
number_text None = []

-- the bytes between single quotes
abbrev pub quoted : List ℕ → List ℕ
quoted bytes = codes "'" ++ bytes ++ codes "'"

-- what is said of a value that doesn't pass
abbrev pub message : ValidatorDef → Val → List ℕ
message (ValidatorDef.Custom hook) v = codes "custom validation failed"
message (ValidatorDef.Min low) v = codes "must be >= " ++ signed_decimal low ++ codes ", got " ++ number_text (integer_in v)
message (ValidatorDef.Max high) v = codes "must be <= " ++ signed_decimal high ++ codes ", got " ++ number_text (integer_in v)
message (ValidatorDef.MinLength low) v =
    codes "length must be >= " ++ decimal low ++ codes ", got " ++ decimal (length (bytes_in v))
message (ValidatorDef.MaxLength high) v =
    codes "length must be <= " ++ decimal high ++ codes ", got " ++ decimal (length (bytes_in v))
message ValidatorDef.Url v = quoted (bytes_in v) ++ codes " is not a valid URL"
message (ValidatorDef.Regex pattern) v = quoted (bytes_in v) ++ codes " does not match pattern " ++ quoted pattern
message (ValidatorDef.Contains needle) v = quoted (bytes_in v) ++ codes " does not contain " ++ quoted needle
