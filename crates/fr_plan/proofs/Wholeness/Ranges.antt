-- Over a checked table whatever a root in range reaches is in range.
use Rattle.std.proofs.Common.{◌≡◌, ◌∙◌, ap, sym, refl, subst, ℕ, inl, inr, Bool, true, false, List, [], ◌∷◌, ◌++◌, length, map, slice_get, arith, Some}
use Rattle.std.specs.List.{Contains, flat_map}
use Rattle.std.specs.Prelude.{nat_lt, is_some, if◌then◌else◌}
use Rattle.std.specs.Option.{option_to_list}
use Rattle.std.proofs.lemmas.Bool.{ltb-true}
use Rattle.std.proofs.lemmas.List.{map-append}
use Rattle.std.proofs.lemmas.List.Elements.{All-contains, Contains-append_left, Contains-append_right, Contains-append_cases}
use Rattle.std.proofs.lemmas.List.Sums.{AllPass-from_list_all}
use Rattle.fr_shape.specs.declared.shape.Shape.{Shape}
use Rattle.fr_shape.specs.declared.shape.ShapeId.{ShapeId}
use Rattle.fr_shape.specs.declared.shape.Def.{Def}
use Rattle.fr_shape.specs.declared.shape.Field.{Field}
use Rattle.fr_shape.specs.declared.shape.ProxyDef.{ProxyDef}
use Rattle.fr_shape.specs.Checked.{IsChecked, fields_of, contents_of, pointees_of, parts_of, all_proxies_of, proxies_of}
use Rattle.fr_shape.specs.Look.{Table, IsIn}
use Rattle.fr_shape.specs.Plannable.{Reached, at_root, further, leads_to, own_sources, field_sources, children_by, children_of}

map_of_flat : {X Y Z : Type 0} (f : Y → Z) (g : X → List Y) (xs : List X)
    → map f (flat_map g xs) ≡ flat_map (λ x. map f (g x)) xs
map_of_flat f g [] = refl
map_of_flat f g (x ∷ xs) = map-append f (g x) (flat_map g xs) ∙ ap (λ l. map f (g x) ++ l) (map_of_flat f g xs)

-- all that an entry names

abbrev named : Shape → List ShapeId
named shape = parts_of shape ++ pointees_of shape.def

abbrev source_of : ProxyDef → ShapeId
source_of proxy = proxy.source

module _ (shape : Shape) (next : ShapeId) where
  abbrev field_shapes : List ShapeId
  field_shapes = map (λ (field : Field). field.shape) (fields_of shape.def)

  field_named : Contains field_shapes next → Contains (named shape) next
  field_named has =
      Contains-append_left _ _ next (Contains-append_left _ _ next (Contains-append_left _ _ next (Contains-append_left _ _ next
      (Contains-append_left field_shapes (contents_of shape.def) next has))))

  content_named : Contains (contents_of shape.def) next → Contains (named shape) next
  content_named has =
      Contains-append_left _ _ next (Contains-append_left _ _ next (Contains-append_left _ _ next (Contains-append_left _ _ next
      (Contains-append_right field_shapes (contents_of shape.def) next has))))

  inner_named : Contains (option_to_list shape.inner) next → Contains (named shape) next
  inner_named has =
      Contains-append_left _ _ next (Contains-append_left _ _ next (Contains-append_left _ _ next
      (Contains-append_right (field_shapes ++ contents_of shape.def) (option_to_list shape.inner) next has)))

  builder_named : Contains (option_to_list shape.builder) next → Contains (named shape) next
  builder_named has =
      Contains-append_left _ _ next (Contains-append_left _ _ next
      (Contains-append_right (field_shapes ++ contents_of shape.def ++ option_to_list shape.inner) (option_to_list shape.builder)
      next has))

  source_named : Contains (map source_of (all_proxies_of shape)) next → Contains (named shape) next
  source_named has =
      Contains-append_left _ _ next
      (Contains-append_right
      (field_shapes ++ contents_of shape.def ++ option_to_list shape.inner ++ option_to_list shape.builder)
      (map source_of (all_proxies_of shape)) next has)

  pointee_named : Contains (pointees_of shape.def) next → Contains (named shape) next
  pointee_named has = Contains-append_right (parts_of shape) (pointees_of shape.def) next has

  own_source_named : Contains (own_sources shape) next → Contains (named shape) next
  own_source_named has =
      let own : List ProxyDef = proxies_of shape.proxy shape.format_proxies in
      let rest : List ProxyDef =
      flat_map (λ (field : Field). proxies_of field.proxy field.format_proxies) (fields_of shape.def) in
      let P : List ShapeId → Type 0 = λ l. Contains l next in
      source_named (subst P (sym (map-append source_of own rest)) (Contains-append_left _ (map source_of rest) next has))

  field_source_named : Contains (flat_map field_sources (fields_of shape.def)) next → Contains (named shape) next
  field_source_named has =
      let of_field : Field → List ProxyDef = λ (field : Field). proxies_of field.proxy field.format_proxies in
      let own : List ProxyDef = proxies_of shape.proxy shape.format_proxies in
      let rest : List ProxyDef = flat_map of_field (fields_of shape.def) in
      let P : List ShapeId → Type 0 = λ l. Contains l next in
      source_named (subst P (sym (map-append source_of own rest)) (Contains-append_right (map source_of own) (map source_of rest) next
      (subst P (sym (map_of_flat source_of of_field (fields_of shape.def))) has)))

  built_from_named : (present : Bool) → Contains (if present then option_to_list shape.builder else []) next
      → Contains (named shape) next
  built_from_named false has = absurd (omega (arith, has.1))
  built_from_named true has = builder_named has

  plain_child_named : Contains (field_shapes ++ contents_of shape.def ++ pointees_of shape.def) next
      → Contains (named shape) next
  plain_child_named has =
      elim (Contains-append_cases (field_shapes ++ contents_of shape.def) (pointees_of shape.def) next has) [
        | inr pointee ↦ pointee_named pointee
        | inl other ↦
            elim (Contains-append_cases field_shapes (contents_of shape.def) next other) [
              | inl field ↦ field_named field
              | inr content ↦ content_named content
            ]
      ]

  child_named : (def : Def) → shape.def ≡ def → Contains (children_by def shape) next → Contains (named shape) next
  child_named (Def.Scalar kind) is has = inner_named has
  child_named Def.Str is has = inner_named has
  child_named Def.Other is has = inner_named has
  child_named Def.Opaque is has = built_from_named (is_some shape.convert) has
  child_named Def.Undefined is has = built_from_named (is_some shape.convert) has
  child_named def is has =
      let P : Def → Type 0 =
      λ d. Contains (map (λ (field : Field). field.shape) (fields_of d) ++ contents_of d ++ pointees_of d) next in
      plain_child_named (subst P (sym is) has)

  led_named : Contains (leads_to shape) next → Contains (named shape) next
  led_named has =
      elim (Contains-append_cases (own_sources shape ++ children_of shape) (flat_map field_sources (fields_of shape.def)) next has) [
        | inr source ↦ field_source_named source
        | inl other ↦
            elim (Contains-append_cases (own_sources shape) (children_of shape) next other) [
              | inl source ↦ own_source_named source
              | inr child ↦ child_named shape.def refl child
            ]
      ]

module _ (table : Table) (checked : IsChecked table) where
  led_in_range : (id : ℕ) (shape : Shape) (next : ShapeId) → slice_get table id ≡ Some shape
      → Contains (leads_to shape) next → IsIn table next.0
  led_in_range id shape next here has =
      let In : ShapeId → Bool = λ id. nat_lt id.0 (length table) in
      ltb-true next.0 (length table)
      (All-contains (λ (id : ShapeId). In id ≡ true) (named shape) next
      (AllPass-from_list_all In (named shape) (checked.ids id shape here)) (led_named shape next has))

  pub reached_in_range : {root : ℕ} {id : ℕ} → IsIn table root → Reached table root id → IsIn table id
  reached_in_range inside at_root = inside
  reached_in_range inside (further {id} {shape} {next} before here has) = led_in_range id shape next here has
