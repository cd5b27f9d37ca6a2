-- What a table's words name.
use Rattle.std.specs.Prelude.{ℕ, List, Option, Some, None, codes, if◌then◌else◌}
use Rattle.std.specs.Str.{bytes_eq}
use Rattle.fr_shape.specs.declared.shape.EnumRepr.{EnumRepr}
use Rattle.fr_shape.specs.declared.shape.KnownPointer.{KnownPointer}
use Rattle.fr_shape.specs.declared.shape.ScalarKind.{ScalarKind}
use Rattle.fr_shape.specs.declared.shape.StructKind.{StructKind}

unfoldable pub scalar_named : List ℕ → Option ScalarKind
scalar_named word =
    if bytes_eq word (codes "bool") then Some ScalarKind.Bool else
    if bytes_eq word (codes "char") then Some ScalarKind.Char else
    if bytes_eq word (codes "i8") then Some ScalarKind.I8 else
    if bytes_eq word (codes "i16") then Some ScalarKind.I16 else
    if bytes_eq word (codes "i32") then Some ScalarKind.I32 else
    if bytes_eq word (codes "i64") then Some ScalarKind.I64 else
    if bytes_eq word (codes "i128") then Some ScalarKind.I128 else
    if bytes_eq word (codes "isize") then Some ScalarKind.ISize else
    if bytes_eq word (codes "u8") then Some ScalarKind.U8 else
    if bytes_eq word (codes "u16") then Some ScalarKind.U16 else
    if bytes_eq word (codes "u32") then Some ScalarKind.U32 else
    if bytes_eq word (codes "u64") then Some ScalarKind.U64 else
    if bytes_eq word (codes "u128") then Some ScalarKind.U128 else
    if bytes_eq word (codes "usize") then Some ScalarKind.USize else
    if bytes_eq word (codes "String") then Some ScalarKind.String else
    if bytes_eq word (codes "CowStr") then Some ScalarKind.CowStr else None

unfoldable pub repr_named : List ℕ → Option EnumRepr
repr_named word =
    if bytes_eq word (codes "Rust") then Some EnumRepr.Rust else
    if bytes_eq word (codes "RustNPO") then Some EnumRepr.RustNPO else
    if bytes_eq word (codes "U8") then Some EnumRepr.U8 else
    if bytes_eq word (codes "U16") then Some EnumRepr.U16 else
    if bytes_eq word (codes "U32") then Some EnumRepr.U32 else
    if bytes_eq word (codes "U64") then Some EnumRepr.U64 else
    if bytes_eq word (codes "USize") then Some EnumRepr.USize else
    if bytes_eq word (codes "I8") then Some EnumRepr.I8 else
    if bytes_eq word (codes "I16") then Some EnumRepr.I16 else
    if bytes_eq word (codes "I32") then Some EnumRepr.I32 else
    if bytes_eq word (codes "I64") then Some EnumRepr.I64 else
    if bytes_eq word (codes "ISize") then Some EnumRepr.ISize else None

unfoldable pub kind_named : List ℕ → Option StructKind
kind_named word =
    if bytes_eq word (codes "struct") then Some StructKind.Struct else
    if bytes_eq word (codes "tuple") then Some StructKind.Tuple else
    if bytes_eq word (codes "tuple_struct") then Some StructKind.TupleStruct else
    if bytes_eq word (codes "unit") then Some StructKind.Unit else None

unfoldable pub pointer_named : List ℕ → Option KnownPointer
pointer_named word =
    if bytes_eq word (codes "Box") then Some KnownPointer.Box else
    if bytes_eq word (codes "Arc") then Some KnownPointer.Arc else
    if bytes_eq word (codes "Rc") then Some KnownPointer.Rc else
    if bytes_eq word (codes "SharedReference") then Some KnownPointer.SharedReference else None
