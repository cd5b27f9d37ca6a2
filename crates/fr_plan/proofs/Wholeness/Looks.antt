-- Each lookup of a plan gives a node of the shape that the table has there: fields and fields of variants.
use Rattle.std.proofs.Common.{◌≡◌, ◌∙◌, ap, sym, refl, subst, ℕ, suc, zero, ◌+◌, List, [], ◌∷◌, ◌++◌, length, take, drop, slice_get, arith, Option, Some, None}
use Rattle.std.specs.List.{AllZip}
use Rattle.std.specs.Option.{option_map}
use Rattle.std.proofs.lemmas.Option.{none-some, same_Some, get_or_from_slice_get}
use Rattle.fr_arena.specs.Ranges.{Range}
use Rattle.fr_shape.specs.declared.shape.ShapeId.{ShapeId}
use Rattle.fr_shape.specs.declared.shape.Field.{Field}
use Rattle.fr_shape.specs.declared.shape.VariantDef.{VariantDef}
use Rattle.fr_shape.specs.Look.{Table}
use Rattle.fr_plan.specs.declared.nodes.NodeId.{NodeId}
use Rattle.fr_plan.specs.declared.nodes.TypePlanNode.{TypePlanNode}
use Rattle.fr_plan.specs.declared.outlines.Outline.{Outline}
use Rattle.fr_plan.specs.declared.plans.FieldPlan.{FieldPlan}
use Rattle.fr_plan.specs.Build.{fields_from, variant_fields_from}
use Rattle.fr_plan.specs.LookupLaws.{shape_of, shape_at}
use Rattle.fr_plan.specs.Lookups.{field_in_range}
use Rattle.fr_plan.specs.PlanLaws.{IsNodeOf, IsFieldNode, IsComplete}
use Rattle.fr_plan.specs.Plans.{IsFieldPlan, NamesFields, PlacedVariant, variants_from}
use Rattle.fr_plan.specs.TypePlan.{Plan, IsPlanOf}
use Rattle.fr_plan.proofs.OneMoreRow.{length-fields_from}
use Rattle.fr_plan.proofs.Wholeness.Paths.{zip_get, zip_none, told_at}
use Rattle.fr_plan.proofs.Wholeness.Standing.{zip_get_right}

abbrev pub shape_of_field : Field → ShapeId
shape_of_field field = field.shape

abbrev pub some_shape : ShapeId → Option ShapeId
some_shape s = Some s

-- the fields of a struct or of a variant, place by place

module _ (id : ShapeId) (variant : Option ℕ) where
  fields_from_at : (k : ℕ) (fields : List Field) (i : ℕ) (field : Field) → slice_get fields i ≡ Some field
      → slice_get (fields_from id variant k fields) i
      ≡ Some (record { meant = record { shape = id; variant = variant; index = k + i }; field = field })
  fields_from_at k [] i field at = absurd (none-some field at)
  fields_from_at k (f ∷ fields) zero field at =
      let same : k ≡ k + 0 = omega arith in
      ap (λ (n : ℕ). Some (record { meant = record { shape = id; variant = variant; index = n }; field = f })) same
      ∙ ap (λ (g : Field). Some (record { meant = record { shape = id; variant = variant; index = k + 0 }; field = g }))
      (same_Some f field at)
  fields_from_at k (f ∷ fields) (suc i) field at =
      let same : k + 1 + i ≡ k + suc i = omega arith in
      fields_from_at (k + 1) fields i field at
      ∙ ap (λ (n : ℕ). Some (record { meant = record { shape = id; variant = variant; index = n }; field = field })) same

  fields_from_none : (k : ℕ) (fields : List Field) (i : ℕ) → slice_get fields i ≡ None
      → slice_get (fields_from id variant k fields) i ≡ None
  fields_from_none k [] i at = refl
  fields_from_none k (f ∷ fields) zero at = absurd (none-some f (sym at))
  fields_from_none k (f ∷ fields) (suc i) at = fields_from_none (k + 1) fields i at

module _ {A B : Type 0} (R : A → B → Type 0) where
  zip_split : (xs : List A) (ys zs : List B) → AllZip R xs (ys ++ zs)
      → AllZip R (take (length ys) xs) ys × AllZip R (drop (length ys) xs) zs
  zip_split xs [] zs all = (tt, all)
  zip_split [] (y ∷ ys) zs all = absurd all
  zip_split (x ∷ xs) (y ∷ ys) zs all =
      let rest = zip_split xs ys zs all.1 in ((all.0, rest.0), rest.1)

-- a variant, with the nodes of its fields

module _ (id : ShapeId) (outlines : List Outline) where
  pub record HasVariant (number : ℕ) (variant : VariantDef) (found : Option PlacedVariant) : Type 0 where
    pub nodes : List NodeId
    pub at : found ≡ Some (record { number = number; variant = variant; nodes = nodes })
    pub fields : AllZip (IsFieldNode outlines) nodes (fields_from id (Some number) 0 variant.fields)

  pub variant_at : (k : ℕ) (nodes : List NodeId) (variants : List VariantDef) (v : ℕ) (variant : VariantDef)
      → AllZip (IsFieldNode outlines) nodes (variant_fields_from id k variants) → slice_get variants v ≡ Some variant
      → HasVariant (k + v) variant (slice_get (variants_from k nodes variants) v)
  variant_at k nodes [] v variant all at = absurd (none-some variant at)
  variant_at k nodes (first ∷ variants) zero variant all at =
      let split =
      zip_split (IsFieldNode outlines) nodes (fields_from id (Some k) 0 first.fields)
      (variant_fields_from id (k + 1) variants) all in
      let counted : length (fields_from id (Some k) 0 first.fields) ≡ length first.fields =
      length-fields_from id (Some k) 0 first.fields in
      let P : ℕ → Type 0 = λ n. AllZip (IsFieldNode outlines) (take n nodes) (fields_from id (Some k) 0 first.fields) in
      let same : k ≡ k + 0 = omega arith in
      let Q : ℕ → Type 0 = λ n. HasVariant n first (slice_get (variants_from k nodes (first ∷ variants)) zero) in
      let S : VariantDef → Type 0 = λ w. HasVariant (k + 0) w (slice_get (variants_from k nodes (first ∷ variants)) zero) in
      let here : HasVariant k first (slice_get (variants_from k nodes (first ∷ variants)) zero) =
      record { nodes = take (length first.fields) nodes; at = refl; fields = subst P counted split.0 } in
      subst S (same_Some first variant at) (subst Q same here)
  variant_at k nodes (first ∷ variants) (suc v) variant all at =
      let split =
      zip_split (IsFieldNode outlines) nodes (fields_from id (Some k) 0 first.fields)
      (variant_fields_from id (k + 1) variants) all in
      let counted : length (fields_from id (Some k) 0 first.fields) ≡ length first.fields =
      length-fields_from id (Some k) 0 first.fields in
      let P : ℕ → Type 0 = λ n. AllZip (IsFieldNode outlines) (drop n nodes) (variant_fields_from id (k + 1) variants) in
      let same : k + 1 + v ≡ k + suc v = omega arith in
      let Q : ℕ → Type 0 =
      λ n. HasVariant n variant
      (slice_get (variants_from (k + 1) (drop (length first.fields) nodes) variants) v) in
      subst Q same
      (variant_at (k + 1) (drop (length first.fields) nodes) variants v variant (subst P counted split.1) at)

  pub variant_none : (k : ℕ) (nodes : List NodeId) (variants : List VariantDef) (v : ℕ) → slice_get variants v ≡ None
      → slice_get (variants_from k nodes variants) v ≡ None
  variant_none k nodes [] v at = refl
  variant_none k nodes (first ∷ variants) zero at = absurd (none-some first (sym at))
  variant_none k nodes (first ∷ variants) (suc v) at =
      variant_none (k + 1) (drop (length first.fields) nodes) variants v at

module _ (table : Table) (root : ShapeId) (plan : Plan) (is_plan : IsPlanOf table root plan)
    (complete : IsComplete table root (record { walk = plan.walk; node = plan.root })) where
  -- the field of a range of fields
  pub range_agrees : (id : ShapeId) (variant : Option ℕ) (nodes : List NodeId) (fields : List Field) (range : Range) (i : ℕ)
      → NamesFields table plan.lists nodes (fields_from id variant 0 fields) range
      → AllZip (IsFieldNode plan.walk.nodes) nodes (fields_from id variant 0 fields)
      → option_map (shape_at plan) (field_in_range plan range i)
      ≡ option_map some_shape (option_map shape_of_field (slice_get fields i))
  range_agrees id variant nodes fields range i names all = by_field (slice_get fields i) refl
    where
      in_plans : field_in_range plan range i ≡ option_map (λ (field : FieldPlan). field.type_node) (slice_get names.0 i)
      in_plans =
          ap (λ (l : List FieldPlan). option_map (λ (field : FieldPlan). field.type_node) (slice_get l i)) names.1.names

      by_field : (found : Option Field) → slice_get fields i ≡ found
          → option_map (shape_at plan) (field_in_range plan range i)
          ≡ option_map some_shape (option_map shape_of_field found)
      by_field None none =
          let past : slice_get names.0 i ≡ None =
          zip_none (IsFieldPlan table plan.lists nodes) (fields_from id variant 0 fields) names.0 i names.2
          (fields_from_none id variant 0 fields i none) in
          ap (option_map (shape_at plan)) in_plans
          ∙ ap (λ (f : Option FieldPlan). option_map (shape_at plan) (option_map (λ (field : FieldPlan). field.type_node) f))
          past
      by_field (Some field) some =
          let placed = fields_from_at id variant 0 fields i field some in
          let told = zip_get (IsFieldPlan table plan.lists nodes) (fields_from id variant 0 fields) names.0 i _ names.2 placed in
          let node = zip_get_right (IsFieldNode plan.walk.nodes) nodes (fields_from id variant 0 fields) i _ all placed in
          let zero_more : 0 + i ≡ i = omega arith in
          let read : told.0.type_node ≡ node.0 =
          told.2.type_node ∙ get_or_from_slice_get nodes (0 + i) node.0 _ (ap (slice_get nodes) zero_more ∙ node.1) in
          let is : IsNodeOf plan.walk.nodes node.0 field.shape =
          record { outline = node.2.outline; here = node.2.here; shape = node.2.shape } in
          let at = told_at table root plan is_plan complete node.0 field.shape is in
          ap (option_map (shape_at plan)) in_plans
          ∙ ap (λ (f : Option FieldPlan). option_map (shape_at plan) (option_map (λ (field : FieldPlan). field.type_node) f))
          told.1
          ∙ ap (λ (n : NodeId). Some (shape_at plan n)) read
          ∙ ap (λ (f : Option TypePlanNode). Some (option_map shape_of f)) at.1
          ∙ ap (λ (s : ShapeId). Some (Some s)) at.2
