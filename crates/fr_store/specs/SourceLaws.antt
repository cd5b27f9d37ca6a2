-- Laws of sources, for proofs: the plan has a node for the source of each conversion that may stand at a place of a node.
use Rattle.std.proofs.Common.{◌≡◌, ◌⊎◌, ℕ, zero, suc, true, false, List, [], ◌∷◌, map, Option, Some, None, slice_get, inl, inr, refl, sym, ◌∙◌, subst, arith}
use Rattle.std.specs.List.{Contains, flat_map}
use Rattle.std.specs.Prelude.{◌&&◌, ◌||◌, is_none, is_some, option_to_list, if◌then◌else◌}
use Rattle.std.specs.Option.{option_or}
use Rattle.std.proofs.lemmas.List.Elements.{Contains-append_left, Contains-append_right, Contains-append_cases}
use Rattle.fr_shape.specs.declared.shape.Def.{Def}
use Rattle.fr_shape.specs.declared.shape.Field.{Field}
use Rattle.fr_shape.specs.declared.shape.HookId.{HookId}
use Rattle.fr_shape.specs.declared.shape.ProxyDef.{ProxyDef}
use Rattle.fr_shape.specs.declared.shape.Shape.{Shape}
use Rattle.fr_shape.specs.declared.shape.ShapeId.{ShapeId}
use Rattle.fr_shape.specs.declared.shape.VariantDef.{VariantDef}
use Rattle.fr_shape.specs.Checked.{IsChecked, converts, fields_of, may_have_builder, proxies_of}
use Rattle.fr_shape.specs.Fills.{is_option}
use Rattle.fr_shape.specs.Look.{Table, IsIn, def_of, def_or_other, field_in, field_of_variant}
use Rattle.fr_shape.specs.Plannable.{Reached, further, children_by, children_of, field_sources, leads_to, own_sources}
use Rattle.fr_path.specs.StepShapes.{source_of}
use Rattle.fr_model.specs.Conversions.{by_proxy, conversions_to, conversions_to_field, through_proxies, wrapper_with}
use Rattle.fr_model.specs.Trackers.{Tracker, as_fields, as_elements, as_content, ContentKind, Conversion, as_items, as_entries, is_conversion}
use Rattle.fr_model.specs.Tree.{Tree, begun, field_as}
use Rattle.fr_model.specs.Well.{ConversionSuits, ConversionsSuit}
use Rattle.fr_plan.specs.declared.nodes.NodeId.{NodeId}
use Rattle.fr_plan.specs.declared.nodes.TypePlanNode.{TypePlanNode}
use Rattle.fr_plan.specs.LookupLaws.{shape_at}
use Rattle.fr_plan.specs.Lookups.{node_at, own_id}
use Rattle.fr_plan.specs.ReachLaws.{NodesAreReached, ReachedHaveNodes}
use Rattle.fr_plan.specs.TypePlan.{Plan, IsPlanOf}

-- the plan has an own node for the shape of this number
abbrev pub HasNode : Plan → ℕ → Type 0
HasNode plan s = (id : NodeId) × (own_id plan (record { 0 = s }) ≡ Some id) × (shape_at plan id ≡ Some (record { 0 = s }))

-- the plan has a node for the source of a place that is begun so, where that is a conversion
abbrev pub IsSourced : Plan → Tracker → Type 0
IsSourced plan (as_content (ContentKind.Source conversion)) = HasNode plan conversion.source
IsSourced plan (as_content ContentKind.Some) = Unit {0}
IsSourced plan (as_content ContentKind.Ok) = Unit {0}
IsSourced plan (as_content ContentKind.Err) = Unit {0}
IsSourced plan (as_content ContentKind.Pointer) = Unit {0}
IsSourced plan (as_fields selected) = Unit {0}
IsSourced plan as_elements = Unit {0}
IsSourced plan (as_items kind) = Unit {0}
IsSourced plan (as_entries kind) = Unit {0}

-- and so it is of what stands here
abbrev pub IsSourcedHere : Plan → Tree → Type 0
IsSourcedHere plan (begun tracker ts) = IsSourced plan tracker
IsSourcedHere plan _ = Unit {0}

-- of no conversion anything is asked
pub sourced_plain : (plan : Plan) (tracker : Tracker) → is_conversion tracker ≡ false → IsSourced plan tracker
sourced_plain plan (as_content (ContentKind.Source conversion)) plain = absurd (cc)
sourced_plain plan _ plain = tt

-- What leads to sources.

-- each of these conversions is from a shape among these
abbrev AreFrom : List Conversion → List ShapeId → Type 0
AreFrom conversions ids = (c : Conversion) → Contains conversions c → Contains ids (record { 0 = c.source })

first_in : {X : Type 0} (x : X) (xs : List X) → Contains (x ∷ xs) x
first_in x xs = (0, omega arith, refl)

from_proxies : (proxies : List ProxyDef) → AreFrom (map by_proxy proxies) (map (λ (proxy : ProxyDef). proxy.source) proxies)
from_proxies [] c has = absurd (omega (arith, has.1))
from_proxies (proxy ∷ proxies) c has =
    go (Contains-append_cases (by_proxy proxy ∷ []) (map by_proxy proxies) c has) (λ later. from_proxies proxies c later)
  where
    sources : List ShapeId
    sources = map (λ (p : ProxyDef). p.source) proxies

    one : Contains (by_proxy proxy ∷ []) c → by_proxy proxy ≡ c
    one (zero, within, is) = is
    one (suc n, within, is) = absurd (omega (arith, within))

    go : Contains (by_proxy proxy ∷ []) c ⊎ Contains (map by_proxy proxies) c
        → (Contains (map by_proxy proxies) c → Contains sources (record { 0 = c.source }))
        → Contains (proxy.source ∷ sources) (record { 0 = c.source })
    go (inl here) rest =
        subst (λ (x : Conversion). Contains (proxy.source ∷ sources) (record { 0 = x.source })) (one here)
        (first_in proxy.source sources)
    go (inr later) rest = Contains-append_right (proxy.source ∷ []) sources (record { 0 = c.source }) (rest later)

of_option : (found : Option ShapeId) (id : ShapeId) → found ≡ Some id → Contains (option_to_list found) id
of_option (Some other) id e = let same : other ≡ id = cc in subst (λ (x : ShapeId). Contains (x ∷ []) id) (sym same) (first_in id [])
of_option None id e = cc

-- what a wrapper wraps, or is built from, is a child of its shape
wrapped : (shape : Shape) (hook : HookId) (source : ShapeId) → shape.convert ≡ Some hook → source_of shape ≡ Some source
    → (is_none shape.convert || converts shape.def shape.inner shape.builder)
    && (is_none shape.builder || may_have_builder shape.def) ≡ true → Contains (children_of shape) source
wrapped shape hook source convert of rule = go shape.def shape.convert refl shape.inner refl shape.builder refl of rule
  where
    go : (def : Def) (by : Option HookId) → shape.convert ≡ by → (inner : Option ShapeId) → shape.inner ≡ inner
        → (builder : Option ShapeId) → shape.builder ≡ builder
        → (if is_none by || is_option def then None else option_or builder inner) ≡ Some source
        → (is_none by || converts def inner builder) && (is_none builder || may_have_builder def) ≡ true
        → Contains (children_by def shape) source
    go def None c inner i builder b of rule = let wrong : None ≡ Some hook = sym c ∙ convert in cc
    go (Def.Scalar kind) (Some h) c (Some t) i None b of rule =
        subst (λ (x : Option ShapeId). Contains (option_to_list x) source) (sym i) (of_option (Some t) source of)
    go Def.Other (Some h) c (Some t) i None b of rule =
        subst (λ (x : Option ShapeId). Contains (option_to_list x) source) (sym i) (of_option (Some t) source of)
    go Def.Opaque (Some h) c inner i (Some t) b of rule =
        subst (λ (x : Option HookId). Contains (if is_some x then option_to_list shape.builder else []) source) (sym c)
        (subst (λ (x : Option ShapeId). Contains (option_to_list x) source) (sym b) (of_option (Some t) source of))
    go Def.Undefined (Some h) c inner i (Some t) b of rule =
        subst (λ (x : Option HookId). Contains (if is_some x then option_to_list shape.builder else []) source) (sym c)
        (subst (λ (x : Option ShapeId). Contains (option_to_list x) source) (sym b) (of_option (Some t) source of))
    go (Def.Option t) (Some h) c inner i builder b of rule = cc
    go _ (Some h) c (Some t) i (Some u) b of rule = cc
    go _ (Some h) c (Some t) i None b of rule = cc
    go _ (Some h) c None i (Some u) b of rule = cc
    go _ (Some h) c None i None b of rule = cc

from_wrapper : (shape : Shape) → (is_none shape.convert || converts shape.def shape.inner shape.builder)
    && (is_none shape.builder || may_have_builder shape.def) ≡ true
    → AreFrom (wrapper_with shape.convert (source_of shape)) (children_of shape)
from_wrapper shape rule c = go shape.convert refl (source_of shape) refl
  where
    go : (by : Option HookId) → shape.convert ≡ by → (source : Option ShapeId) → source_of shape ≡ source
        → Contains (wrapper_with by source) c → Contains (children_of shape) (record { 0 = c.source })
    go (Some hook) e (Some source) f (zero, within, is) =
        subst (λ (x : Conversion). Contains (children_of shape) (record { 0 = x.source })) is (wrapped shape hook source e f rule)
    go (Some hook) e (Some source) f (suc n, within, is) = absurd (omega (arith, within))
    go (Some hook) e None f has = absurd (omega (arith, has.1))
    go None e source f has = absurd (omega (arith, has.1))

-- what is read from a list is in it
get_in : {X : Type 0} (xs : List X) (i : ℕ) (x : X) → slice_get xs i ≡ Some x → Contains xs x
get_in [] i x e = cc
get_in (y ∷ xs) zero x e = let same : y ≡ x = cc in (0, omega arith, same)
get_in (y ∷ xs) (suc i) x e = let rest = get_in xs i x e in (suc rest.0, omega (arith, rest.1), rest.2)

flat_in : {X Y : Type 0} (f : X → List Y) (xs : List X) (x : X) (y : Y) → Contains xs x → Contains (f x) y
    → Contains (flat_map f xs) y
flat_in f [] x y has is = absurd (omega (arith, has.1))
flat_in f (first ∷ xs) x y (zero, within, same) is =
    Contains-append_left (f first) (flat_map f xs) y (subst (λ (z : _). Contains (f z) y) (sym same) is)
flat_in f (first ∷ xs) x y (suc n, within, same) is =
    Contains-append_right (f first) (flat_map f xs) y (flat_in f xs x y (n, omega (arith, within), same) is)

-- a field of a definition is one of its fields
field_among : (def : Def) (selected : Option ℕ) (i : ℕ) (field : Field) → field_in def selected i ≡ Some field
    → Contains (fields_of def) field
field_among (Def.Struct struct) None i field e = get_in struct.fields i field e
field_among (Def.Enum enumeration) (Some k) i field e = go (slice_get enumeration.variants k) refl e
  where
    go : (found : Option VariantDef) → slice_get enumeration.variants k ≡ found → field_of_variant found i ≡ Some field
        → Contains (fields_of (Def.Enum enumeration)) field
    go (Some variant) is e =
        flat_in (λ (v : VariantDef). v.fields) enumeration.variants variant field (get_in enumeration.variants k variant is)
        (get_in variant.fields i field e)
    go None is e = cc
field_among _ _ i field e = cc

module _ (reached : NodesAreReached) (nodes : ReachedHaveNodes) (table : Table) (root : ShapeId) (plan : Plan)
    (checked : IsChecked table) (inside : IsIn table root.0) (planned : IsPlanOf table root plan) where
  -- the plan has a node for the source of each conversion to this field
  abbrev pub AreSourced : Option Field → Type 0
  AreSourced field = (c : Conversion) → Contains (conversions_to_field field) c → HasNode plan c.source

  -- to none there is no conversion
  pub none_sourced : AreSourced None
  none_sourced c has = absurd (omega (arith, has.1))

  pub node_reached : (id : NodeId) (found : TypePlanNode) → node_at plan id ≡ Some found → Reached table root.0 found.shape.0
  node_reached id found is = reached table root plan id found checked inside planned is

  led_to : (s : ℕ) (shape : Shape) (c : Conversion) → Reached table root.0 s → slice_get table s ≡ Some shape
      → Contains (leads_to shape) (record { 0 = c.source }) → HasNode plan c.source
  led_to s shape c known is has =
      nodes table root plan (record { 0 = c.source }) checked inside planned (further known is has)

  -- to its own shape
  shape_sourced : (s : ℕ) → Reached table root.0 s → (c : Conversion) → Contains (conversions_to (slice_get table s)) c
      → HasNode plan c.source
  shape_sourced s known c has = go (slice_get table s) refl has
    where
      go : (found : Option Shape) → slice_get table s ≡ found → Contains (conversions_to found) c → HasNode plan c.source
      go None is has = absurd (omega (arith, has.1))
      go (Some shape) is has = led_to s shape c known is (cases (Contains-append_cases
          (wrapper_with shape.convert (source_of shape)) (through_proxies shape.proxy shape.format_proxies) c has))
        where
          cases : Contains (wrapper_with shape.convert (source_of shape)) c
              ⊎ Contains (through_proxies shape.proxy shape.format_proxies) c → Contains (leads_to shape) (record { 0 = c.source })
          cases (inl wrapper) =
              Contains-append_left _ _ (record { 0 = c.source }) (Contains-append_right (own_sources shape) (children_of shape)
              (record { 0 = c.source }) (from_wrapper shape (checked.conversions s shape is) c wrapper))
          cases (inr proxy) =
              Contains-append_left _ _ (record { 0 = c.source }) (Contains-append_left (own_sources shape) (children_of shape)
              (record { 0 = c.source }) (from_proxies (proxies_of shape.proxy shape.format_proxies) c proxy))

  -- and to a field of it
  pub field_sourced : (s : ℕ) → Reached table root.0 s → (tracker : Tracker) (i : ℕ) → AreSourced (field_as (def_of table s) tracker i)
  field_sourced s known tracker i c has = by_field (field_as (def_of table s) tracker i) refl has
    where
      among : (tracker : Tracker) (field : Field) → field_as (def_of table s) tracker i ≡ Some field
          → Contains (fields_of (def_of table s)) field
      among (as_fields selected) field e = field_among (def_of table s) selected i field e
      among _ field e = cc

      by_shape : (found : Option Shape) → slice_get table s ≡ found → (field : Field)
          → Contains (fields_of (def_or_other found)) field
          → Contains (through_proxies field.proxy field.format_proxies) c → HasNode plan c.source
      by_shape (Some shape) is field one has =
          led_to s shape c known is (Contains-append_right _ _ (record { 0 = c.source })
          (flat_in field_sources (fields_of shape.def) field (record { 0 = c.source }) one
          (from_proxies (proxies_of field.proxy field.format_proxies) c has)))
      by_shape None is field one has = absurd (omega (arith, one.1))

      by_field : (field : Option Field) → field_as (def_of table s) tracker i ≡ field → Contains (conversions_to_field field) c
          → HasNode plan c.source
      by_field (Some field) e has = by_shape (slice_get table s) refl field (among tracker field e) has
      by_field None e has = absurd (omega (arith, has.1))

  -- the plan has a node for the source of a conversion that suits a place of a reached shape
  pub sourced_at : (s : ℕ) → Reached table root.0 s → (field : Option Field) → AreSourced field → (tracker : Tracker)
      → ConversionSuits table s field tracker → IsSourced plan tracker
  sourced_at s known field of_field (as_content (ContentKind.Source conversion)) suits =
      go (Contains-append_cases (conversions_to (slice_get table s)) (conversions_to_field field) conversion suits)
    where
      go : Contains (conversions_to (slice_get table s)) conversion ⊎ Contains (conversions_to_field field) conversion
          → HasNode plan conversion.source
      go (inl of_shape) = shape_sourced s known conversion of_shape
      go (inr to_field) = of_field conversion to_field
  sourced_at s known field of_field _ suits = tt

  pub sourced_here : (s : ℕ) → Reached table root.0 s → (field : Option Field) → AreSourced field → (tree : Tree)
      → ConversionsSuit table s field tree → IsSourcedHere plan tree
  sourced_here s known field of_field (begun tracker ts) suits = sourced_at s known field of_field tracker suits.0
  sourced_here s known field of_field _ suits = tt
