-- Shapes of which nothing is said but what their types say.
use Rattle.std.specs.Prelude.{ℕ, suc, pos, true, false, List, [], ◌∷◌, map, Some, None, codes, decimal}
use Rattle.std.specs.Borrow.{Bor}
use Rattle.fr_shape.specs.declared.shape.Def.{Def}
use Rattle.fr_shape.specs.declared.shape.EnumRepr.{EnumRepr}
use Rattle.fr_shape.specs.declared.shape.Field.{Field}
use Rattle.fr_shape.specs.declared.shape.KnownPointer.{KnownPointer}
use Rattle.fr_shape.specs.declared.shape.ScalarKind.{ScalarKind}
use Rattle.fr_shape.specs.declared.shape.Shape.{Shape}
use Rattle.fr_shape.specs.declared.shape.ShapeId.{ShapeId}
use Rattle.fr_shape.specs.declared.shape.StructKind.{StructKind}
use Rattle.fr_shape.specs.declared.shape.VariantDef.{VariantDef}
use Rattle.fr_shape.specs.Plain.{plain_field, plain_shape}
use Rattle.fr_shape.specs.Val.{none}

-- Scalars and opaque types

-- the name of a scalar in Rust
abbrev pub scalar_name : ScalarKind → List ℕ
scalar_name ScalarKind.Bool = codes "bool"
scalar_name ScalarKind.Char = codes "char"
scalar_name ScalarKind.I8 = codes "i8"
scalar_name ScalarKind.I16 = codes "i16"
scalar_name ScalarKind.I32 = codes "i32"
scalar_name ScalarKind.I64 = codes "i64"
scalar_name ScalarKind.I128 = codes "i128"
scalar_name ScalarKind.ISize = codes "isize"
scalar_name ScalarKind.U8 = codes "u8"
scalar_name ScalarKind.U16 = codes "u16"
scalar_name ScalarKind.U32 = codes "u32"
scalar_name ScalarKind.U64 = codes "u64"
scalar_name ScalarKind.U128 = codes "u128"
scalar_name ScalarKind.USize = codes "usize"
scalar_name ScalarKind.String = codes "String"
scalar_name ScalarKind.CowStr = codes "Cow<str>"

-- a scalar of this kind, under its name in Rust
abbrev pub scalar_shape : ScalarKind → Shape
scalar_shape kind = plain_shape (scalar_name kind) (Def.Scalar kind)

abbrev pub opaque_shape : (name : List ℕ) → Shape
opaque_shape name = plain_shape name Def.Opaque

-- Structs, tuples and enums

-- fields as a caller writes them: of each its name and the shape of its values
abbrev pub Fields : Type 0
Fields = List (Bor (List ℕ) × ShapeId)

-- variants as a caller writes them: of each its name and its fields
abbrev pub Variants : Type 0
Variants = List (Bor (List ℕ) × Bor Fields)

-- for each name and shape a field of which nothing else is said
abbrev pub named_fields : Fields → List Field
named_fields = map (λ field. plain_field field.0.now field.1.0)

-- a struct of these fields, in their order
abbrev pub struct_with : (name : List ℕ) → (fields : List Field) → Shape
struct_with name fields = plain_shape name (Def.Struct (record { kind = StructKind.Struct; fields = fields }))

-- a struct of fields of which nothing is said but their names and shapes
abbrev pub struct_shape : (name : List ℕ) → Fields → Shape
struct_shape name fields = struct_with name (named_fields fields)

-- for each shape a field that is named by its number, counted from i
abbrev pub numbered_fields : (i : ℕ) → List ShapeId → List Field
numbered_fields i [] = []
numbered_fields i (shape ∷ shapes) = plain_field (decimal i) shape.0 ∷ numbered_fields (suc i) shapes

-- a bare tuple of values of these shapes, in their order
abbrev pub tuple_shape : (name : List ℕ) → List ShapeId → Shape
tuple_shape name shapes =
    plain_shape name (Def.Struct (record { kind = StructKind.Tuple; fields = numbered_fields 0 shapes }))

-- a variant without fields is a unit, and any other has named fields
abbrev pub variant_kind : Fields → StructKind
variant_kind [] = StructKind.Unit
variant_kind (field ∷ fields) = StructKind.Struct

-- a variant of this name, of these fields and with this discriminant, of which nothing else is said
abbrev pub plain_variant : (name : List ℕ) → Fields → (discriminant : ℕ) → VariantDef
plain_variant name fields discriminant = record {
  name = name;
  rename = None;
  kind = variant_kind fields;
  fields = named_fields fields;
  discriminant = Some (pos discriminant);
  other = false;
}

-- for each name and its fields a variant whose discriminant is its number, counted from i
abbrev pub numbered_variants : (i : ℕ) → Variants → List VariantDef
numbered_variants i [] = []
numbered_variants i (variant ∷ variants) =
    plain_variant variant.0.now variant.1.now i ∷ numbered_variants (suc i) variants

-- an enum of these variants, in their order
abbrev pub enum_shape : (name : List ℕ) → EnumRepr → Variants → Shape
enum_shape name repr variants =
    plain_shape name (Def.Enum (record { repr = repr; variants = numbered_variants 0 variants }))

-- Options and results

-- an option, of which the default is None
abbrev pub option_shape : (name : List ℕ) → (content : ShapeId) → Shape
option_shape name content = record (plain_shape name (Def.Option content)) { preset = Some none }

abbrev pub result_shape : (name : List ℕ) → (value error : ShapeId) → Shape
result_shape name value error = plain_shape name (Def.Result value error)

-- Collections, boxes and dynamic data

abbrev pub list_shape : (name : List ℕ) → (element : ShapeId) → Shape
list_shape name element = plain_shape name (Def.List element)

abbrev pub map_shape : (name : List ℕ) → (key value : ShapeId) → Shape
map_shape name key value = plain_shape name (Def.Map key value)

abbrev pub set_shape : (name : List ℕ) → (element : ShapeId) → Shape
set_shape name element = plain_shape name (Def.Set element)

abbrev pub array_shape : (name : List ℕ) → (element : ShapeId) → (len : ℕ) → Shape
array_shape name element len = plain_shape name (Def.Array element len)

-- a pointer that is known as Box and can be made from what it points to
abbrev pub box_shape : (name : List ℕ) → (pointee : ShapeId) → Shape
box_shape name pointee =
    plain_shape name (Def.Pointer (record {
      known = Some KnownPointer.Box;
      pointee = Some pointee;
      constructible = true;
    }))

abbrev pub dynamic_shape : (name : List ℕ) → Shape
dynamic_shape name = plain_shape name Def.Dynamic
