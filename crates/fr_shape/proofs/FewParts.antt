-- The test of a table's counts tells whether it is numbered.
use Rattle.std.proofs.Common.{◌≡◌, ◌↔◌, ℕ, zero, suc, ◌<◌, ◌^◌, true, List, [], ◌∷◌, length, slice_get, Some, refl, subst}
use Rattle.std.proofs.lemmas.Bool.{and_parts, and_from, ltb-true, lt-ltb}
use Rattle.std.specs.List.{list_all}
use Rattle.fr_shape.specs.declared.shape.VariantDef.{VariantDef}
use Rattle.fr_shape.specs.Look.{Table, def_of, variants_of}
use Rattle.fr_shape.specs.Numbered.{all_are_few, has_few_fields, parts_are_few, IsNumbered}

some_is : {A : Type 0} {x y : A} → Some x ≡ Some y → x ≡ y
some_is same = cc

-- Variants

each_has : (variants : List VariantDef) → list_all has_few_fields variants ≡ true
    → (i : ℕ) (variant : VariantDef) → slice_get variants i ≡ Some variant → has_few_fields variant ≡ true
each_has [] all i variant is = absurd cc
each_has (v ∷ vs) all zero variant is =
    subst (λ (w : VariantDef). has_few_fields w ≡ true) (some_is is) (and_parts _ _ all).0
each_has (v ∷ vs) all (suc i) variant is = each_has vs (and_parts _ _ all).1 i variant is

all_have : (variants : List VariantDef)
    → ((i : ℕ) (variant : VariantDef) → slice_get variants i ≡ Some variant → length variant.fields < 2 ^ 32)
    → list_all has_few_fields variants ≡ true
all_have [] each = refl
all_have (v ∷ vs) each = and_from _ _ (lt-ltb _ _ (each 0 v refl)) (all_have vs (λ i variant is. each (suc i) variant is))

-- Shapes

each_is_few : (table : Table) → list_all (λ shape. parts_are_few shape.def) table ≡ true
    → (id : ℕ) → parts_are_few (def_of table id) ≡ true
each_is_few [] all id = refl
each_is_few (shape ∷ shapes) all zero = (and_parts _ _ all).0
each_is_few (shape ∷ shapes) all (suc id) = each_is_few shapes (and_parts _ _ all).1 id

all_are : (table : Table) → ((id : ℕ) → parts_are_few (def_of table id) ≡ true)
    → list_all (λ shape. parts_are_few shape.def) table ≡ true
all_are [] each = refl
all_are (shape ∷ shapes) each = and_from _ _ (each 0) (all_are shapes (λ id. each (suc id)))

-- The table

numbered : (table : Table) → all_are_few table ≡ true → IsNumbered table
numbered table all =
    let few = and_parts _ _ all in
    let parts = λ (id : ℕ). and_parts _ _ (each_is_few table few.1 id) in
    record {
      shapes = ltb-true _ _ few.0;
      fields = λ id. ltb-true _ _ (parts id).0;
      variants = λ id. ltb-true _ _ (and_parts _ _ (parts id).1).0;
      variant_fields = λ id i variant is.
          ltb-true _ _ (each_has (variants_of (def_of table id)) (and_parts _ _ (parts id).1).1 i variant is);
    }

tested : (table : Table) → IsNumbered table → all_are_few table ≡ true
tested table is =
    and_from _ _ (lt-ltb _ _ is.shapes) (all_are table
    (λ id.
    and_from _ _ (lt-ltb _ _ (is.fields id))
    (and_from _ _ (lt-ltb _ _ (is.variants id)) (all_have (variants_of (def_of table id)) (is.variant_fields id)))))

pub tells_numbered : (table : Table) → (all_are_few table ≡ true) ↔ IsNumbered table
tells_numbered table = (numbered table, tested table)
