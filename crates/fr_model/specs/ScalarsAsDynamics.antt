-- The values of other shapes that a dynamic place takes.
use Rattle.std.specs.Prelude.{◌∷◌, if◌then◌else◌}
use Rattle.fr_model.specs.Common.{ℕ, encode_utf8, Bool, true, false, List, [], slice_get, Option, Some, None, Result, Ok, Err, option_map, Def, ScalarKind, Shape, Operation, Table, def_of, Val, Vals, bool, char, int, nat, text, list_of, no_vals, first, Dynamic, dyn_bool, dyn_int, dyn_nat, dyn_text, dyn_bytes}

abbrev pub or_not_dynamic : Option Dynamic → Result Dynamic Operation
or_not_dynamic (Some d) = Ok d
or_not_dynamic None = Err Operation.NotDynamic

-- each reads one form of values, and gives nothing for another

abbrev pub from_bool : Val → Option Dynamic
from_bool (bool b) = Some (dyn_bool b)
from_bool _ = None

abbrev pub from_char : Val → Option Dynamic
from_char (char c) = Some (dyn_text (encode_utf8 c))
from_char _ = None

abbrev pub from_int : Val → Option Dynamic
from_int (int i) = Some (dyn_int i)
from_int _ = None

abbrev pub from_nat : Val → Option Dynamic
from_nat (nat n) = Some (dyn_nat n)
from_nat _ = None

abbrev pub from_text : Val → Option Dynamic
from_text (text codes) = Some (dyn_text codes)
from_text _ = None

abbrev pub byte_before : Val → Option (List ℕ) → Option (List ℕ)
byte_before (nat n) (Some bytes) = Some (n ∷ bytes)
byte_before _ bytes = None

abbrev pub bytes_of : Vals → Option (List ℕ)
bytes_of no_vals = Some []
bytes_of (first v vs) = byte_before v (bytes_of vs)

abbrev pub from_bytes : Val → Option Dynamic
from_bytes (list_of vs) = option_map dyn_bytes (bytes_of vs)
from_bytes _ = None

-- Truths, characters, numbers of up to 64 bits and owned texts are taken.
abbrev pub from_scalar : ScalarKind → Val → Result Dynamic Operation
from_scalar ScalarKind.Bool v = or_not_dynamic (from_bool v)
from_scalar ScalarKind.Char v = or_not_dynamic (from_char v)
from_scalar ScalarKind.I8 v = or_not_dynamic (from_int v)
from_scalar ScalarKind.I16 v = or_not_dynamic (from_int v)
from_scalar ScalarKind.I32 v = or_not_dynamic (from_int v)
from_scalar ScalarKind.I64 v = or_not_dynamic (from_int v)
from_scalar ScalarKind.ISize v = or_not_dynamic (from_int v)
from_scalar ScalarKind.I128 v = Err Operation.DynamicSignedSize
from_scalar ScalarKind.U8 v = or_not_dynamic (from_nat v)
from_scalar ScalarKind.U16 v = or_not_dynamic (from_nat v)
from_scalar ScalarKind.U32 v = or_not_dynamic (from_nat v)
from_scalar ScalarKind.U64 v = or_not_dynamic (from_nat v)
from_scalar ScalarKind.USize v = or_not_dynamic (from_nat v)
from_scalar ScalarKind.U128 v = Err Operation.DynamicUnsignedSize
from_scalar ScalarKind.String v = or_not_dynamic (from_text v)
from_scalar ScalarKind.CowStr v = Err Operation.NotDynamic

abbrev pub is_byte : Def → Bool
is_byte (Def.Scalar ScalarKind.U8) = true
is_byte _ = false

abbrev pub takes_bytes_in : Option Shape → Bool
takes_bytes_in (Some shape) = shape.bytes_ok
takes_bytes_in None = false

-- a place of shape s takes lists of bytes
abbrev pub takes_bytes : Table → ℕ → Bool
takes_bytes table s = takes_bytes_in (slice_get table s)

-- What a dynamic place of shape s makes of a value whose shape has this definition: a scalar as above, a `str` its text, a list of
-- bytes these where the place takes them; it takes nothing else.
abbrev pub converted : Table → ℕ → Def → Val → Result Dynamic Operation
converted table s (Def.Scalar kind) v = from_scalar kind v
converted table s Def.Str v = or_not_dynamic (from_text v)
converted table s (Def.List t) v =
    if takes_bytes table s then (if is_byte (def_of table t.0) then or_not_dynamic (from_bytes v) else Err Operation.NotDynamic)
    else Err Operation.NotDynamic
converted table s Def.Opaque v = Err Operation.NotDynamic
converted table s (Def.Struct struct) v = Err Operation.NotDynamic
converted table s (Def.Enum enumeration) v = Err Operation.NotDynamic
converted table s (Def.Option t) v = Err Operation.NotDynamic
converted table s (Def.Result t e) v = Err Operation.NotDynamic
converted table s (Def.Map key item) v = Err Operation.NotDynamic
converted table s (Def.Set t) v = Err Operation.NotDynamic
converted table s (Def.Array t n) v = Err Operation.NotDynamic
converted table s (Def.Pointer pointer) v = Err Operation.NotDynamic
converted table s (Def.Slice t) v = Err Operation.NotDynamic
converted table s Def.Dynamic v = Err Operation.NotDynamic
converted table s Def.Undefined v = Err Operation.NotDynamic
converted table s Def.Other v = Err Operation.NotDynamic
