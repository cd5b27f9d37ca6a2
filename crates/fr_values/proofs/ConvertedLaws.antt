-- What a dynamic place makes of a value of another shape has no object, so none with a key twice.
use Rattle.std.proofs.Common.{◌≡◌, ℕ, Bool, true, false, if◌then◌else◌, List, Option, Some, None, Ok, Err, refl}
use Rattle.fr_values.specs.Common.{Def, Operation, ScalarKind, Table, Val, bytes_of, converted, def_of, from_bytes, is_byte, list_of, nat, option_map, or_not_dynamic}
use Rattle.std.specs.Prelude.{encode_utf8}
use Rattle.fr_shape.specs.Fits.{keys_once}
use Rattle.fr_shape.specs.Val.{bool, char, int, text}
use Rattle.fr_shape.specs.Val.{Dynamic, dyn_bool, dyn_int, dyn_nat, dyn_text, dyn_bytes}
use Rattle.fr_model.specs.ScalarsAsDynamics.{from_bool, from_char, from_int, from_nat, from_text, from_scalar, takes_bytes}

of_bool : (v : Val) (d : Dynamic) → or_not_dynamic (from_bool v) ≡ Ok d → keys_once d ≡ true
of_bool (bool b) d e = let same : dyn_bool b ≡ d = cc in rw (← same) refl
of_bool _ d e = cc

of_char : (v : Val) (d : Dynamic) → or_not_dynamic (from_char v) ≡ Ok d → keys_once d ≡ true
of_char (char c) d e = let same : dyn_text (encode_utf8 c) ≡ d = cc in rw (← same) refl
of_char _ d e = cc

of_int : (v : Val) (d : Dynamic) → or_not_dynamic (from_int v) ≡ Ok d → keys_once d ≡ true
of_int (int i) d e = let same : dyn_int i ≡ d = cc in rw (← same) refl
of_int _ d e = cc

of_nat : (v : Val) (d : Dynamic) → or_not_dynamic (from_nat v) ≡ Ok d → keys_once d ≡ true
of_nat (nat n) d e = let same : dyn_nat n ≡ d = cc in rw (← same) refl
of_nat _ d e = cc

of_text : (v : Val) (d : Dynamic) → or_not_dynamic (from_text v) ≡ Ok d → keys_once d ≡ true
of_text (text codes) d e = let same : dyn_text codes ≡ d = cc in rw (← same) refl
of_text _ d e = cc

of_list : (v : Val) (d : Dynamic) → or_not_dynamic (from_bytes v) ≡ Ok d → keys_once d ≡ true
of_list (list_of vs) d e = go (bytes_of vs) e
  where
    go : (found : Option (List ℕ)) → or_not_dynamic (option_map dyn_bytes found) ≡ Ok d → keys_once d ≡ true
    go (Some bytes) e = let same : dyn_bytes bytes ≡ d = cc in rw (← same) refl
    go None e = cc
of_list _ d e = cc

of_scalar : (kind : ScalarKind) (v : Val) (d : Dynamic) → from_scalar kind v ≡ Ok d → keys_once d ≡ true
of_scalar ScalarKind.Bool v d e = of_bool v d e
of_scalar ScalarKind.Char v d e = of_char v d e
of_scalar ScalarKind.U8 v d e = of_nat v d e
of_scalar ScalarKind.U16 v d e = of_nat v d e
of_scalar ScalarKind.U32 v d e = of_nat v d e
of_scalar ScalarKind.U64 v d e = of_nat v d e
of_scalar ScalarKind.USize v d e = of_nat v d e
of_scalar ScalarKind.String v d e = of_text v d e
of_scalar ScalarKind.I128 v d e = cc
of_scalar ScalarKind.U128 v d e = cc
of_scalar ScalarKind.CowStr v d e = cc
of_scalar _ v d e = of_int v d e

pub converted_once : (table : Table) (s : ℕ) (def : Def) (v : Val) (d : Dynamic) → converted table s def v ≡ Ok d
    → keys_once d ≡ true
converted_once table s (Def.Scalar kind) v d e = of_scalar kind v d e
converted_once table s Def.Str v d e = of_text v d e
converted_once table s (Def.List t) v d e = go (takes_bytes table s) (is_byte (def_of table t.0)) e
  where
    go : (takes byte : Bool) → (if takes then (if byte then or_not_dynamic (from_bytes v) else Err Operation.NotDynamic)
        else Err Operation.NotDynamic) ≡ Ok d → keys_once d ≡ true
    go true true e = of_list v d e
    go true false e = cc
    go false byte e = cc
converted_once table s _ v d e = cc
