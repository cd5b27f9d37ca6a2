-- One step of each part of the walk that builds nodes.
use Rattle.std.proofs.Common.{◌≡◌, ◌∙◌, ap, sym, subst, refl, ℕ, zero, suc, ◌+◌, ◌-◌, ◌<◌, List, [], ◌∷◌, ◌++◌, length, drop, get_or, slice_get, Some, None, Option, Ok, Err, arith}
use Rattle.std.proofs.lemmas.List.{drop_more}
use Rattle.fr_shape.specs.declared.error.PlanError.{PlanError}
use Rattle.fr_shape.specs.declared.shape.Field.{Field}
use Rattle.fr_shape.specs.declared.shape.Shape.{Shape}
use Rattle.fr_shape.specs.declared.shape.ShapeId.{ShapeId}
use Rattle.fr_shape.specs.declared.shape.VariantDef.{VariantDef}
use Rattle.fr_shape.specs.Look.{Table}
use Rattle.fr_shape.specs.Plannable.{own_sources}
use Rattle.fr_plan.specs.declared.outlines.Mark.{Mark}
use Rattle.fr_plan.specs.declared.outlines.Walk.{Walk}
use Rattle.fr_plan.specs.Build.{Built, Made, MadeAll, Placed, and_then, with_node, with_one, none_yet, with_shape_mark, back_reference, build, build_new, each_built, children_built, field_built, fields_built, fields_from, variant_fields_from, finish}
use Rattle.fr_plan.specs.Results.{IsMeant}

-- a refusal of the first part is one of the whole
pub meant_first : {X Y : Type 0} (built : Built X) (go_on : X → Built Y) (error : PlanError) → IsMeant built error
    → IsMeant (and_then built go_on) error
meant_first built go_on (PlanError.Alloc refused) meant = ap (λ (first : Built _). and_then first go_on) meant
meant_first built go_on PlanError.OutOfMemory meant = tt

-- two parts of what goes on may go on one after the other
pub and_then_apart : {X Y Z : Type 0} (built : Built X) (whole : X → Built Z) (first : X → Built Y) (second : Y → Built Z)
    → ((x : X) → whole x ≡ and_then (first x) second) → and_then built whole ≡ and_then (and_then built first) second
and_then_apart (Ok x) whole first second same = same x
and_then_apart (Err refused) whole first second same = refl

-- what is left of a list, one step on
pub left_of : {X : Type 0} (xs : List X) (i : ℕ) (x : X) → i < length xs → x ≡ get_or xs i x
    → drop i xs ≡ x ∷ drop (i + 1) xs
left_of xs i x inside is = drop_more xs i x inside ∙ ap (λ (y : _). y ∷ drop (i + 1) xs) (sym is)

-- fields that are left, one step on
pub fields_left : (id : ShapeId) (variant : Option ℕ) (fields : List Field) (i : ℕ) (field : Field) (index : ℕ)
    → i < length fields → field ≡ get_or fields i field → index ≡ i
    → fields_from id variant i (drop i fields)
    ≡ record { meant = record { shape = id; variant = variant; index = index }; field = field }
    ∷ fields_from id variant (i + 1) (drop (i + 1) fields)
fields_left id variant fields i field index inside is same =
    ap (fields_from id variant i) (left_of fields i field inside is)
    ∙ ap (λ (n : ℕ). record { meant = record { shape = id; variant = variant; index = n }; field = field }
    ∷ fields_from id variant (i + 1) (drop (i + 1) fields)) (sym same)

-- the fields of variants that are left, one step on
pub variants_left : (id : ShapeId) (variants : List VariantDef) (i : ℕ) (variant : VariantDef) (number : ℕ) (fields : List Field)
    → i < length variants → variant ≡ get_or variants i variant → number ≡ i
    → fields ≡ (get_or variants i variant).fields
    → variant_fields_from id i (drop i variants)
    ≡ fields_from id (Some number) 0 fields ++ variant_fields_from id (i + 1) (drop (i + 1) variants)
variants_left id variants i variant number fields inside is same own =
    ap (variant_fields_from id i) (left_of variants i variant inside is)
    ∙ ap (λ (n : ℕ). fields_from id (Some n) 0 variant.fields ++ variant_fields_from id (i + 1) (drop (i + 1) variants)) (sym same)
    ∙ ap (λ (own_fields : List Field).
    fields_from id (Some number) 0 own_fields ++ variant_fields_from id (i + 1) (drop (i + 1) variants))
    (ap (λ (v : VariantDef). v.fields) is ∙ sym own)

module _ (builds : Walk → ShapeId → Built Made) where
  -- fields

  pub fields_fail : (made : MadeAll) (fields more : List Placed) (placed : Placed) (whole : Built MadeAll) (error : PlanError)
      → fields ≡ placed ∷ more → fields_built builds made fields ≡ whole
      → IsMeant (field_built builds made.walk placed) error → IsMeant whole error
  fields_fail made fields more placed whole error left is meant =
      let P : Built MadeAll → Type 0 = λ built. IsMeant built error in
      subst P (sym (ap (fields_built builds made) left) ∙ is)
      (meant_first (field_built builds made.walk placed) (λ one. fields_built builds (with_one made one) more) error meant)

  pub fields_go_on : (made : MadeAll) (fields more : List Placed) (placed : Placed) (one : Made) (whole : Built MadeAll)
      → fields ≡ placed ∷ more → fields_built builds made fields ≡ whole
      → field_built builds made.walk placed ≡ Ok one → fields_built builds (with_one made one) more ≡ whole
  fields_go_on made fields more placed one whole left is built =
      sym (ap (λ (first : Built Made). and_then first (λ next. fields_built builds (with_one made next) more)) built)
      ∙ sym (ap (fields_built builds made) left) ∙ is

  -- variants

  pub fields_built-append : (made : MadeAll) (xs ys : List Placed)
      → fields_built builds made (xs ++ ys) ≡ and_then (fields_built builds made xs) (λ then. fields_built builds then ys)
  fields_built-append made [] ys = refl
  fields_built-append made (x ∷ xs) ys =
      and_then_apart (field_built builds made.walk x) (λ one. fields_built builds (with_one made one) (xs ++ ys))
      (λ one. fields_built builds (with_one made one) xs) (λ then. fields_built builds then ys)
      (λ one. fields_built-append (with_one made one) xs ys)

  pub variants_fail : (made : MadeAll) (fields xs ys : List Placed) (whole : Built MadeAll) (error : PlanError)
      → fields ≡ xs ++ ys → fields_built builds made fields ≡ whole → IsMeant (fields_built builds made xs) error
      → IsMeant whole error
  variants_fail made fields xs ys whole error left is meant =
      let P : Built MadeAll → Type 0 = λ built. IsMeant built error in
      subst P (sym (ap (fields_built builds made) left ∙ fields_built-append made xs ys) ∙ is)
      (meant_first (fields_built builds made xs) (λ then. fields_built builds then ys) error meant)

  pub variants_go_on : (made : MadeAll) (fields xs ys : List Placed) (then : MadeAll) (whole : Built MadeAll)
      → fields ≡ xs ++ ys → fields_built builds made fields ≡ whole → fields_built builds made xs ≡ Ok then
      → fields_built builds then ys ≡ whole
  variants_go_on made fields xs ys then whole left is built =
      sym (ap (λ (first : Built MadeAll). and_then first (λ next. fields_built builds next ys)) built)
      ∙ sym (ap (fields_built builds made) left ∙ fields_built-append made xs ys) ∙ is

  -- a shape that was not met before

  -- the sources, as they are told to the walk
  sources_told : (walk : Walk) (id : ShapeId) (shape : Shape) (start : Walk) (ids : List ShapeId)
      → start ≡ with_shape_mark walk id Mark.Building → ids ≡ own_sources shape
      → each_built builds (none_yet start) ids
      ≡ each_built builds (none_yet (with_shape_mark walk id Mark.Building)) (own_sources shape)
  sources_told walk id shape start ids begun sources =
      ap (λ (at : Walk). each_built builds (none_yet at) ids) begun
      ∙ ap (each_built builds (none_yet (with_shape_mark walk id Mark.Building))) sources

  pub new_fails : (walk : Walk) (id : ShapeId) (found : Option Shape) (shape : Shape) (start : Walk) (ids : List ShapeId) (error : PlanError)
      → Some shape ≡ found → start ≡ with_shape_mark walk id Mark.Building → ids ≡ own_sources shape
      → IsMeant (each_built builds (none_yet start) ids) error → IsMeant (build_new builds walk id found) error
  unfolding build_new
  new_fails walk id found shape start ids error is begun sources meant =
      let P : Option Shape → Type 0 = λ there. IsMeant (build_new builds walk id there) error in
      let Q : Built MadeAll → Type 0 = λ built. IsMeant built error in
      subst P is (meant_first _ (λ (sources : MadeAll).
      and_then (children_built builds sources.walk id shape.def shape) (λ children. finish id shape sources.nodes children)) error
      (subst Q (sources_told walk id shape start ids begun sources) meant))

  pub new_goes_on : (walk : Walk) (id : ShapeId) (found : Option Shape) (shape : Shape) (start : Walk) (ids : List ShapeId) (made : MadeAll)
      → Some shape ≡ found → start ≡ with_shape_mark walk id Mark.Building → ids ≡ own_sources shape
      → each_built builds (none_yet start) ids ≡ Ok made
      → build_new builds walk id found
      ≡ and_then (children_built builds made.walk id shape.def shape) (λ children. finish id shape made.nodes children)
  unfolding build_new
  new_goes_on walk id found shape start ids made is begun sources built =
      ap (build_new builds walk id) (sym is) ∙ ap (λ (first : Built MadeAll). and_then first (λ (sources : MadeAll).
      and_then (children_built builds sources.walk id shape.def shape) (λ children. finish id shape sources.nodes children)))
      (sym (sources_told walk id shape start ids begun sources) ∙ built)

-- a shape, by its mark

pub build_unseen : (table : Table) (depth : ℕ) (walk : Walk) (id : ShapeId) → 0 < depth
    → slice_get walk.marks id.0 ≡ Some Mark.Unseen
    → build table depth walk id
    ≡ build_new (λ then next. build table (depth - 1) then next) walk id (slice_get table id.0)
build_unseen table zero walk id deep mark = absurd (omega (arith, deep))
build_unseen table (suc depth) walk id deep mark =
    let before : depth ≡ suc depth - 1 = omega arith in
    rw mark (ap (λ (d : ℕ). build_new (λ then next. build table d then next) walk id (slice_get table id.0)) before)

pub build_building : (table : Table) (depth : ℕ) (walk : Walk) (id : ShapeId)
    → slice_get walk.marks id.0 ≡ Some Mark.Building → build table depth walk id ≡ Ok (with_node walk (back_reference id))
build_building table zero walk id mark = refl
build_building table (suc depth) walk id mark = rw mark refl

pub build_none : (table : Table) (depth : ℕ) (walk : Walk) (id : ShapeId)
    → slice_get walk.marks id.0 ≡ None → build table depth walk id ≡ Ok (with_node walk (back_reference id))
build_none table zero walk id mark = refl
build_none table (suc depth) walk id mark = rw mark refl
