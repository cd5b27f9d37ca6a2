-- What a plan keeps of the fields of shapes, and what is found in it.
use Rattle.std.proofs.Common.{◌≡◌, ℕ, zero, suc, ◌+◌, ◌<◌, false, ◌∙◌, List, [], ◌∷◌, ◌++◌, length, slice_get, Option, Some, None, IsSomeAnd, refl, sym, ap, subst, inl, inr, arith}
use Rattle.std.specs.List.{list_any}
use Rattle.std.specs.Option.{option_and_then, option_map_or}
use Rattle.std.proofs.lemmas.Bool.{cases_lt}
use Rattle.fr_shape.specs.declared.shape.Def.{Def}
use Rattle.fr_shape.specs.declared.shape.Field.{Field}
use Rattle.fr_shape.specs.declared.shape.Shape.{Shape}
use Rattle.fr_shape.specs.declared.shape.ShapeId.{ShapeId}
use Rattle.fr_shape.specs.declared.shape.VariantDef.{VariantDef}
use Rattle.fr_shape.specs.Look.{Table, def_of, def_or_other, variants_of}
use Rattle.fr_shape.specs.Named.{first_declared, field_named}
use Rattle.fr_plan.specs.declared.nodes.NodeId.{NodeId}
use Rattle.fr_plan.specs.declared.outlines.Mark.{Mark}
use Rattle.fr_plan.specs.declared.shape_fields.FieldSummary.{FieldSummary}
use Rattle.fr_plan.specs.declared.shape_fields.ShapeFields.{ShapeFields}
use Rattle.fr_plan.specs.Fields.{own_fields, fields_in, has_validator, has_validators}
use Rattle.fr_plan.specs.Names.{declared_field, declared_in_variant}
use Rattle.fr_plan.specs.ShapeFields.{AreByName, IsSummaryOf, AreSummariesOf, AreKeptOf, IfBuilt, AreAllKept, summary_in, summary_at, validated_at}
use Rattle.fr_plan.proofs.Wholeness.Marks.{slice_get_stays, slice_get_last}

-- what is kept of each shape that was built, of those whose number is below this one
abbrev pub AreKeptBelow : ℕ → Table → List Mark → List ShapeFields → Type 0
AreKeptBelow end table marks kept =
    (id : ℕ) (node : NodeId) → id < end → slice_get marks id ≡ Some (Mark.Done node)
    → IsSomeAnd (slice_get kept id) (AreKeptOf (def_of table id))

still_kept : (P : ShapeFields → Type 0) (kept : List ShapeFields) (one : ShapeFields) (id : ℕ) (found : Option ShapeFields)
    → slice_get kept id ≡ found → IsSomeAnd found P → IsSomeAnd (slice_get (kept ++ one ∷ []) id) P
still_kept P kept one id (Some there) is all =
    subst (λ (found : Option ShapeFields). IsSomeAnd found P) (sym (slice_get_stays kept (one ∷ []) id there is)) all
still_kept P kept one id None is none = absurd none

pub kept_more : (table : Table) (marks : List Mark) (kept : List ShapeFields) (i : ℕ) (one : ShapeFields)
    → length kept ≡ i → AreKeptBelow i table marks kept
    → IfBuilt table marks i one
    → AreKeptBelow (i + 1) table marks (kept ++ one ∷ [])
kept_more table marks kept i one long all next id node below done = elim (cases_lt id i) [
  | inl before ↦
      still_kept (AreKeptOf (def_of table id)) kept one id (slice_get kept id) refl (all id node before done)
  | inr past ↦
      let here : i ≡ id = omega (arith, below, past) in
      let P : ℕ → Type 0 = λ k. IsSomeAnd (slice_get (kept ++ one ∷ []) k) (AreKeptOf (def_of table k)) in
      let Q : ℕ → Type 0 = λ k. slice_get marks k ≡ Some (Mark.Done node) in
      let R : Option ShapeFields → Type 0 = λ found. IsSomeAnd found (AreKeptOf (def_of table i)) in
      let last : slice_get (kept ++ one ∷ []) i ≡ Some one =
      subst (λ (k : ℕ). slice_get (kept ++ one ∷ []) k ≡ Some one) long (slice_get_last kept one) in
      subst P here (subst R (sym last) (next node (subst Q (sym here) done)))
]

-- What is found.

-- there is what is kept of these fields; where there isn't, there are none
abbrev pub Tells : List Field → Option FieldSummary → Type 0
Tells fields (Some summary) = IsSummaryOf fields summary
Tells fields None = fields ≡ []

abbrev fields_or_none : Option VariantDef → List Field
fields_or_none found = option_map_or (λ (described : VariantDef). described.fields) found []

tells_variant : (variants : List VariantDef) (summaries : List FieldSummary) → AreSummariesOf variants summaries
    → (variant : ℕ) → Tells (fields_or_none (slice_get variants variant)) (slice_get summaries variant)
tells_variant [] [] all variant = refl
tells_variant [] (of ∷ summaries) all variant = absurd all
tells_variant (one ∷ variants) [] all variant = absurd all
tells_variant (one ∷ variants) (of ∷ summaries) all zero = all.0
tells_variant (one ∷ variants) (of ∷ summaries) all (suc variant) = tells_variant variants summaries all.1 variant

pub tells : (def : Def) (found : Option ShapeFields) → IsSomeAnd found (AreKeptOf def) → (variant : Option ℕ)
    → Tells (fields_in def variant) (option_and_then (summary_in variant) found)
tells def (Some kept) are None = are.own
tells def (Some kept) are (Some variant) = tells_variant (variants_of def) kept.variants are.variants variant
tells def None none variant = absurd none

-- the first of a name is the first among the fields of the struct or variant
own_declared : (def : Def) (name : List ℕ) → first_declared name 0 (own_fields def) ≡ field_named name def
own_declared (Def.Struct struct) name = refl
own_declared (Def.Scalar kind) name = refl
own_declared Def.Str name = refl
own_declared Def.Opaque name = refl
own_declared (Def.Enum enumeration) name = refl
own_declared (Def.Option t) name = refl
own_declared (Def.Result t e) name = refl
own_declared (Def.List t) name = refl
own_declared (Def.Map k v) name = refl
own_declared (Def.Set t) name = refl
own_declared (Def.Array t n) name = refl
own_declared (Def.Pointer pointer) name = refl
own_declared (Def.Slice t) name = refl
own_declared Def.Dynamic name = refl
own_declared Def.Undefined name = refl
own_declared Def.Other name = refl

variant_declared : (name : List ℕ) (found : Option VariantDef)
    → first_declared name 0 (fields_or_none found) ≡ option_and_then (declared_in_variant name) found
variant_declared name (Some variant) = refl
variant_declared name None = refl

pub declared_in : (def : Def) (variant : Option ℕ) (name : List ℕ)
    → first_declared name 0 (fields_in def variant) ≡ declared_field def variant name
declared_in def None name = own_declared def name
declared_in def (Some variant) name = variant_declared name (slice_get (variants_of def) variant)

-- what a search among the numbers of these fields gives is the first of them in the table
pub found_by : (table : Table) (shape : ℕ) (variant : Option ℕ) (name : List ℕ) (found : Option FieldSummary)
    (summary : FieldSummary) (described : Shape) (fields : List Field) (numbers : List ℕ) (result : Option ℕ)
    → Tells (fields_in (def_of table shape) variant) found → Some summary ≡ found → Some described ≡ slice_get table shape
    → fields ≡ fields_in described.def variant → numbers ≡ summary.by_name
    → (AreByName fields numbers → result ≡ first_declared name 0 fields)
    → result ≡ declared_field (def_of table shape) variant name
found_by table shape variant name found summary described fields numbers result told some there are same is =
    let def = def_of table shape in
    let kept : IsSummaryOf (fields_in def variant) summary = subst (Tells (fields_in def variant)) (sym some) told in
    let all : fields ≡ fields_in def variant =
    are ∙ ap (λ (found : Option Shape). fields_in (def_or_other found) variant) there in
    is
    (subst (λ (fs : List Field). AreByName fs numbers) (sym all)
    (subst (AreByName (fields_in def variant)) (sym same) kept.by_name))
    ∙ ap (first_declared name 0) all ∙ declared_in def variant name

-- of no fields none is found
pub none_declared : (def : Def) (variant : Option ℕ) (name : List ℕ) → fields_in def variant ≡ []
    → None ≡ declared_field def variant name
none_declared def variant name empty =
    ap (first_declared name 0) (sym empty) ∙ declared_in def variant name

validated_by : (fields : List Field) (found : Option FieldSummary) → Tells fields found
    → option_map_or (λ (summary : FieldSummary). summary.has_validators) found false ≡ list_any has_validator fields
validated_by fields (Some summary) is = is.validators
validated_by fields None empty = ap (list_any has_validator) (sym empty)

-- what is kept of the fields of a shape that was built tells whether the table has validators there
pub validated : (table : Table) (marks : List Mark) (kept : List ShapeFields) → AreAllKept table marks kept
    → (shape : ShapeId) (node : NodeId) → slice_get marks shape.0 ≡ Some (Mark.Done node) → (variant : Option ℕ)
    → validated_at kept shape variant ≡ has_validators (def_of table shape.0) variant
validated table marks kept all shape node done variant =
    validated_by (fields_in (def_of table shape.0) variant) (summary_at kept shape variant)
    (tells (def_of table shape.0) (slice_get kept shape.0) (all shape.0 node done) variant)
