-- The definitions that JSON stands for.
use Rattle.std.specs.Prelude.{ℕ, true, List, [], ◌∷◌, Option, Some, None, option_map, codes, if◌then◌else◌}
use Rattle.std.specs.Str.{bytes_eq}
use Rattle.serde_json.specs.Data.{Data, string, array, object, no_items}
use Rattle.serde_json.specs.Find.{as_str}
use Rattle.fr_shape.specs.declared.shape.Def.{Def}
use Rattle.fr_shape.specs.declared.shape.EnumRepr.{EnumRepr}
use Rattle.fr_shape.specs.declared.shape.Field.{Field}
use Rattle.fr_shape.specs.declared.shape.KnownPointer.{KnownPointer}
use Rattle.fr_shape.specs.declared.shape.ShapeId.{ShapeId}
use Rattle.fr_shape.specs.declared.shape.StructKind.{StructKind}
use Rattle.fr_doc.specs.FieldForms.{fields_form}
use Rattle.fr_doc.specs.Keys.{object_of, only_member, required, optional, flag}
use Rattle.fr_doc.specs.Names.{scalar_named, repr_named, pointer_named}
use Rattle.fr_doc.specs.Numerals.{whole_number}
use Rattle.fr_doc.specs.ProxyForms.{id_form}
use Rattle.fr_doc.specs.Steps.{◌>>=◌, two}
use Rattle.fr_doc.specs.VariantForms.{variants_form}

-- the definition that has a name of its own, else the scalar of that name
unfoldable pub named_def : List ℕ → Option Def
named_def word =
    if bytes_eq word (codes "str") then Some Def.Str else
    if bytes_eq word (codes "opaque") then Some Def.Opaque else
    if bytes_eq word (codes "dynamic") then Some Def.Dynamic else
    if bytes_eq word (codes "undefined") then Some Def.Undefined else
    if bytes_eq word (codes "other") then Some Def.Other else option_map Def.Scalar (scalar_named word)

abbrev pub struct_of : StructKind → List Field → Def
struct_of kind fields = Def.Struct (record { kind = kind; fields = fields })

-- an empty array: a unit has no fields
unfoldable pub unit_form : Data → Option Def
unit_form (array no_items) = Some (struct_of StructKind.Unit [])
unit_form _ = None

-- how an enum keeps its discriminant, by its name
unfoldable pub repr_form : Data → Option EnumRepr
repr_form d = do
  word ← as_str d
  repr_named word

-- an object of a representation and variants
unfoldable pub enum_form : Data → Option Def
enum_form d = do
  enum ← object_of (codes "repr" ∷ codes "variants" ∷ []) d
  repr ← required (codes "repr") repr_form enum
  variants ← required (codes "variants") variants_form enum
  Some (Def.Enum (record { repr = repr; variants = variants }))

-- an array of two items
abbrev pub pair_form : Data → Option (Data × Data)
pair_form (array ds) = two ds
pair_form _ = None

-- an array of the numbers of two shapes
unfoldable pub two_ids : Data → Option (ShapeId × ShapeId)
two_ids d = do
  pair ← pair_form d
  first ← id_form pair.0
  second ← id_form pair.1
  Some (first, second)

-- an array of the shape of the items, and how many there are
unfoldable pub array_form : Data → Option Def
array_form d = do
  pair ← pair_form d
  shape ← id_form pair.0
  count ← whole_number pair.1
  Some (Def.Array shape count)

-- the pointer type of a name
unfoldable pub known_form : Data → Option KnownPointer
known_form d = do
  word ← as_str d
  pointer_named word

-- an object of what is said of the pointer; it can be built from what it points to where nothing else is said
unfoldable pub pointer_form : Data → Option Def
pointer_form d = do
  pointer ← object_of (codes "known" ∷ codes "pointee" ∷ codes "constructible" ∷ []) d
  known ← optional (codes "known") known_form pointer
  pointee ← optional (codes "pointee") id_form pointer
  constructible ← flag (codes "constructible") true pointer
  Some (Def.Pointer (record { known = known; pointee = pointee; constructible = constructible }))

-- the definition under a key
unfoldable pub keyed_def : List ℕ → Data → Option Def
keyed_def key inner =
    if bytes_eq key (codes "struct") then option_map (struct_of StructKind.Struct) (fields_form inner) else
    if bytes_eq key (codes "tuple") then option_map (struct_of StructKind.Tuple) (fields_form inner) else
    if bytes_eq key (codes "tuple_struct") then option_map (struct_of StructKind.TupleStruct) (fields_form inner) else
    if bytes_eq key (codes "unit") then unit_form inner else
    if bytes_eq key (codes "enum") then enum_form inner else
    if bytes_eq key (codes "option") then option_map Def.Option (id_form inner) else
    if bytes_eq key (codes "list") then option_map Def.List (id_form inner) else
    if bytes_eq key (codes "set") then option_map Def.Set (id_form inner) else
    if bytes_eq key (codes "slice") then option_map Def.Slice (id_form inner) else
    if bytes_eq key (codes "result") then option_map (λ ids. Def.Result ids.0 ids.1) (two_ids inner) else
    if bytes_eq key (codes "map") then option_map (λ ids. Def.Map ids.0 ids.1) (two_ids inner) else
    if bytes_eq key (codes "array") then array_form inner else
    if bytes_eq key (codes "pointer") then pointer_form inner else None

-- a name, or an object of exactly one key
unfoldable pub def_form : Data → Option Def
def_form (string word) = named_def word
def_form (object members) = do
  entry ← only_member members
  keyed_def entry.0 entry.1
def_form _ = None
