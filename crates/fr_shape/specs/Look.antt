-- What a table says of a shape, by the shape's number. Each look-up is total: a number past the table's end
-- is read as an `Other` that wraps nothing.
use Rattle.std.specs.Prelude.{ℕ, zero, suc, ◌<◌, List, [], length, slice_get, Option, Some, None}
use Rattle.fr_shape.specs.declared.shape.Shape.{Shape}
use Rattle.fr_shape.specs.declared.shape.ShapeId.{ShapeId}
use Rattle.fr_shape.specs.declared.shape.Def.{Def}
use Rattle.fr_shape.specs.declared.shape.VariantDef.{VariantDef}
use Rattle.fr_shape.specs.declared.shape.Field.{Field}
use Rattle.fr_shape.specs.declared.shape.FieldRef.{FieldRef}

-- a table as contracts see it
abbrev pub Table : Type 0
Table = List Shape

-- the number is that of a shape of the table
abbrev pub IsIn : Table → ℕ → Type 0
IsIn table id = id < length table

abbrev pub def_or_other : Option Shape → Def
def_or_other (Some shape) = shape.def
def_or_other None = Def.Other

-- what a shape is made of
abbrev pub def_of : Table → ℕ → Def
def_of table id = def_or_other (slice_get table id)

abbrev pub inner_or_none : Option Shape → Option ShapeId
inner_or_none (Some shape) = shape.inner
inner_or_none None = None

-- the shape that a wrapper wraps
abbrev pub inner_of : Table → ℕ → Option ShapeId
inner_of table id = inner_or_none (slice_get table id)

-- an `Other` stands for what it wraps, any other definition for itself
abbrev pub behind : Def → Option ShapeId → (ℕ → Def) → Def
behind Def.Other (Some wrapped) stands_for = stands_for wrapped.0
behind Def.Other None stands_for = Def.Other
behind (Def.Scalar kind) inner stands_for = Def.Scalar kind
behind Def.Str inner stands_for = Def.Str
behind Def.Opaque inner stands_for = Def.Opaque
behind (Def.Struct struct) inner stands_for = Def.Struct struct
behind (Def.Enum enumeration) inner stands_for = Def.Enum enumeration
behind (Def.Option t) inner stands_for = Def.Option t
behind (Def.Result t e) inner stands_for = Def.Result t e
behind (Def.List t) inner stands_for = Def.List t
behind (Def.Map k v) inner stands_for = Def.Map k v
behind (Def.Set t) inner stands_for = Def.Set t
behind (Def.Array t n) inner stands_for = Def.Array t n
behind (Def.Pointer pointer) inner stands_for = Def.Pointer pointer
behind (Def.Slice t) inner stands_for = Def.Slice t
behind Def.Dynamic inner stands_for = Def.Dynamic
behind Def.Undefined inner stands_for = Def.Undefined

-- the first definition on a shape's chain of `inner` that isn't `Other`, in at most n steps
abbrev pub settled_in : Table → ℕ → ℕ → Def
settled_in table zero id = Def.Other
settled_in table (suc n) id = behind (def_of table id) (inner_of table id) (λ wrapped. settled_in table n wrapped)

-- the same, however long the chain is; Other where the chain ends or comes round without one
abbrev pub settled : Table → ℕ → Def
settled table id = settled_in table (length table) id

-- a shape of this definition, or where that is `Other`, what it wraps
abbrev pub own_or_wrapped : Def → Option ShapeId → (own : Shape) → (ℕ → Option Shape) → Option Shape
own_or_wrapped Def.Other (Some wrapped) own stands_for = stands_for wrapped.0
own_or_wrapped Def.Other None own stands_for = None
own_or_wrapped _ inner own stands_for = Some own

-- an `Other` stands for what it wraps, any other shape for itself
abbrev pub shape_behind : Option Shape → (ℕ → Option Shape) → Option Shape
shape_behind None stands_for = None
shape_behind (Some shape) stands_for = own_or_wrapped shape.def shape.inner shape stands_for

-- the first shape on a shape's chain of `inner` that isn't an `Other`, in at most n steps
abbrev pub settled_shape_in : Table → ℕ → ℕ → Option Shape
settled_shape_in table zero id = None
settled_shape_in table (suc n) id = shape_behind (slice_get table id) (λ wrapped. settled_shape_in table n wrapped)

-- the same, however long the chain is
abbrev pub settled_shape : Table → ℕ → Option Shape
settled_shape table id = settled_shape_in table (length table) id

-- the variants of an enum
abbrev pub variants_of : Def → List VariantDef
variants_of (Def.Enum enumeration) = enumeration.variants
variants_of (Def.Scalar kind) = []
variants_of Def.Str = []
variants_of Def.Opaque = []
variants_of (Def.Struct struct) = []
variants_of (Def.Option t) = []
variants_of (Def.Result t e) = []
variants_of (Def.List t) = []
variants_of (Def.Map k v) = []
variants_of (Def.Set t) = []
variants_of (Def.Array t n) = []
variants_of (Def.Pointer pointer) = []
variants_of (Def.Slice t) = []
variants_of Def.Dynamic = []
variants_of Def.Undefined = []
variants_of Def.Other = []

abbrev pub field_of_variant : Option VariantDef → ℕ → Option Field
field_of_variant (Some variant) index = slice_get variant.fields index
field_of_variant None index = None

-- the field of this number of a struct, or of an enum's variant
abbrev pub field_in : Def → (variant : Option ℕ) → (index : ℕ) → Option Field
field_in (Def.Struct struct) None index = slice_get struct.fields index
field_in (Def.Struct struct) (Some i) index = None
field_in (Def.Enum enumeration) (Some i) index = field_of_variant (slice_get enumeration.variants i) index
field_in (Def.Enum enumeration) None index = None
field_in (Def.Scalar kind) variant index = None
field_in Def.Str variant index = None
field_in Def.Opaque variant index = None
field_in (Def.Option t) variant index = None
field_in (Def.Result t e) variant index = None
field_in (Def.List t) variant index = None
field_in (Def.Map k v) variant index = None
field_in (Def.Set t) variant index = None
field_in (Def.Array t n) variant index = None
field_in (Def.Pointer pointer) variant index = None
field_in (Def.Slice t) variant index = None
field_in Def.Dynamic variant index = None
field_in Def.Undefined variant index = None
field_in Def.Other variant index = None

-- the field that is meant
abbrev pub field_at : Table → FieldRef → Option Field
field_at table meant = field_in (def_of table meant.shape.0) meant.variant meant.index
