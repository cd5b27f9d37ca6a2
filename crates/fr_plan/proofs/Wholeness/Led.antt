-- What a reached shape leads to is reached: its proxies' sources, its children, and what its fields name.
use Rattle.std.proofs.Common.{◌≡◌, ap, ℕ, suc, zero, ◌+◌, List, [], ◌∷◌, ◌++◌, map, slice_get, arith, Option, Some}
use Rattle.std.specs.List.{All, Contains, flat_map}
use Rattle.std.proofs.lemmas.List.Elements.{All-nil, All-cons, All-head, All-tail, All-append, All-weaker, All-contains, All-contains_itself, Contains-append_left, Contains-append_right}
use Rattle.fr_shape.specs.declared.shape.Shape.{Shape}
use Rattle.fr_shape.specs.declared.shape.ShapeId.{ShapeId}
use Rattle.fr_shape.specs.declared.shape.Def.{Def}
use Rattle.fr_shape.specs.declared.shape.Field.{Field}
use Rattle.fr_shape.specs.declared.shape.VariantDef.{VariantDef}
use Rattle.fr_shape.specs.Checked.{fields_of}
use Rattle.fr_shape.specs.Look.{Table}
use Rattle.fr_shape.specs.Plannable.{Reached, further, leads_to, own_sources, field_sources, children_by, children_of}
use Rattle.fr_plan.specs.Build.{Placed, fields_from, variant_fields_from}

-- lists

pub contains_map : {X Y : Type 0} (f : X → Y) (xs : List X) (x : X) → Contains xs x → Contains (map f xs) (f x)
contains_map f [] x (k, inside, is) = absurd (omega (arith, inside))
contains_map f (y ∷ xs) x (zero, inside, is) = (zero, omega arith, ap f is)
contains_map f (y ∷ xs) x (suc k, inside, is) =
    let rest = contains_map f xs x (k, omega (arith, inside), is) in
    (suc rest.0, omega (arith, rest.1), rest.2)

pub contains_flat_map : {X Y : Type 0} (f : X → List Y) (xs : List X) (x : X) (y : Y) → Contains xs x → Contains (f x) y
    → Contains (flat_map f xs) y
contains_flat_map f [] x y (k, inside, is) has = absurd (omega (arith, inside))
contains_flat_map f (z ∷ xs) x y (zero, inside, is) has =
    Contains-append_left (f z) (flat_map f xs) y (rw is has)
contains_flat_map f (z ∷ xs) x y (suc k, inside, is) has =
    Contains-append_right (f z) (flat_map f xs) y (contains_flat_map f xs x y (k, omega (arith, inside), is) has)

pub all_contained : {X : Type 0} (P : X → Type 0) (xs : List X) → ((x : X) → Contains xs x → P x) → All P xs
all_contained P xs gives = All-weaker (Contains xs) P gives xs (All-contains_itself xs)

pub all_left : {X : Type 0} (P : X → Type 0) (xs ys : List X) → All P (xs ++ ys) → All P xs
all_left P xs ys all =
    all_contained P xs (λ x has. All-contains P (xs ++ ys) x all (Contains-append_left xs ys x has))

pub all_right : {X : Type 0} (P : X → Type 0) (xs ys : List X) → All P (xs ++ ys) → All P ys
all_right P xs ys all =
    all_contained P ys (λ x has. All-contains P (xs ++ ys) x all (Contains-append_right xs ys x has))

-- the fields of a struct or of an enum's variants

module _ (P : Field → Type 0) (id : ShapeId) where
  pub fields_all : (variant : Option ℕ) (i : ℕ) (fields : List Field) → All P fields
      → All (λ (placed : Placed). P placed.field) (fields_from id variant i fields)
  fields_all variant i [] all = All-nil (λ (placed : Placed). P placed.field)
  fields_all variant i (field ∷ fields) all =
      All-cons (λ (placed : Placed). P placed.field) _ _ (All-head P field fields all)
      (fields_all variant (i + 1) fields (All-tail P field fields all))

  pub variant_fields_all : (i : ℕ) (variants : List VariantDef)
      → All P (flat_map (λ (variant : VariantDef). variant.fields) variants)
      → All (λ (placed : Placed). P placed.field) (variant_fields_from id i variants)
  variant_fields_all i [] all = All-nil (λ (placed : Placed). P placed.field)
  variant_fields_all i (variant ∷ variants) all =
      let rest : List Field = flat_map (λ (variant : VariantDef). variant.fields) variants in
      All-append (λ (placed : Placed). P placed.field) _ _
      (fields_all (Some i) 0 variant.fields (all_left P variant.fields rest all))
      (variant_fields_all (i + 1) variants (all_right P variant.fields rest all))

-- the shape of a field is a child
pub field_is_child : (def : Def) (shape : Shape) (field : Field) → Contains (fields_of def) field
    → Contains (children_by def shape) field.shape
field_is_child (Def.Struct struct) shape field has =
    Contains-append_left _ [] field.shape
    (Contains-append_left (map (λ (field : Field). field.shape) struct.fields) [] field.shape
    (contains_map (λ (field : Field). field.shape) struct.fields field has))
field_is_child (Def.Enum enumeration) shape field has =
    Contains-append_left _ [] field.shape
    (Contains-append_left (map (λ (field : Field). field.shape) (fields_of (Def.Enum enumeration))) [] field.shape
    (contains_map (λ (field : Field). field.shape) (fields_of (Def.Enum enumeration)) field has))
field_is_child def shape field has = absurd (omega (arith, has.1))

module _ (table : Table) (root : ShapeId) where
  abbrev pub AreReached : List ShapeId → Type 0
  AreReached ids = All (λ (id : ShapeId). Reached table root.0 id.0) ids

  -- what a field names is reached
  pub record IsFieldReached (field : Field) : Type 0 where
    pub sources : AreReached (field_sources field)
    pub shape : Reached table root.0 field.shape.0

  module _ (id : ShapeId) (shape : Shape) (reached : Reached table root.0 id.0) (here : slice_get table id.0 ≡ Some shape) where
    pub led : (next : ShapeId) → Contains (leads_to shape) next → Reached table root.0 next.0
    led next has = further reached here has

    pub sources_led : AreReached (own_sources shape)
    sources_led =
        all_contained (λ (id : ShapeId). Reached table root.0 id.0) (own_sources shape)
        (λ next has. led next (Contains-append_left _ _ next (Contains-append_left (own_sources shape) _ next has)))

    pub child_led : (next : ShapeId) → Contains (children_of shape) next → Reached table root.0 next.0
    child_led next has =
        led next (Contains-append_left _ _ next (Contains-append_right (own_sources shape) (children_of shape) next has))

    pub children_led : AreReached (children_of shape)
    children_led = all_contained (λ (id : ShapeId). Reached table root.0 id.0) (children_of shape) child_led

    pub field_led : (field : Field) → Contains (fields_of shape.def) field → IsFieldReached field
    field_led field has = record {
      sources =
          all_contained (λ (id : ShapeId). Reached table root.0 id.0) (field_sources field)
          (λ next among.
          led next (Contains-append_right _ (flat_map field_sources (fields_of shape.def)) next
          (contains_flat_map field_sources (fields_of shape.def) field next has among)));
      shape = child_led field.shape (field_is_child shape.def shape field has);
    }

    pub fields_led : All IsFieldReached (fields_of shape.def)
    fields_led = all_contained IsFieldReached (fields_of shape.def) field_led
