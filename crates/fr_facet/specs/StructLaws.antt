-- A value fits a Rust struct's own shape exactly where it is an element of the struct.
use Rattle.std.proofs.Common.{◌≡◌, ℕ, Bool, true, false, ◌&&◌, List, [], ◌∷◌, Option, Some, None, refl, sym, ap, ◌∙◌}
use Rattle.std.proofs.lemmas.Bool.{eqb-true}
use Rattle.std.specs.Str.{bytes_eq}
use Rattle.fr_shape.specs.declared.shape.Def.{Def}
use Rattle.fr_shape.specs.declared.shape.Field.{Field}
use Rattle.fr_shape.specs.declared.shape.StructDef.{StructDef}
use Rattle.fr_shape.specs.Fits.{fits, fields_fit}
use Rattle.fr_shape.specs.Look.{Table, def_of, settled}
use Rattle.fr_shape.specs.Val.{Val, Vals, unit, bool, char, int, nat, text, token, product, variant, none, some, ok, err, list_of, map_of, set_of, ptr, dyn, no_vals, first}
use Rattle.fr_facet.specs.Facets.{first_own}
use Rattle.fr_facet.specs.FitLaws.{first_is_own, settles}
use Rattle.fr_facet.specs.PartFits.{FitsOwn}
use Rattle.fr_facet.specs.Structs.{Names, are_fields, first_takes, is_number, is_struct_of, none_left, product_takes, shapes_in}

-- Parts

pub none_fit : (table : Table) (wanted : Names) (fields : List Field) → shapes_in wanted ≡ [] → are_fields wanted fields ≡ true
    → (vs : Vals) → fields_fit table fields vs ≡ none_left vs
none_fit table [] [] empty are no_vals = refl
none_fit table [] [] empty are (first v vs) = refl
none_fit table [] (field ∷ fields) empty are vs = cc
none_fit table (name ∷ names) fields empty are vs = cc

-- a number that is there is the one that is wanted
pub number_is : (wanted : Option ℕ) (id : ℕ) → is_number wanted id ≡ true → wanted ≡ Some id
number_is (Some n) id e = ap (λ (m : ℕ). Some m) (sym (eqb-true id n e))
number_is None id e = cc

both_true : (a b c : Bool) → ((a && b) && c) ≡ true → (b ≡ true) × (c ≡ true)
both_true true true true e = (refl, refl)
both_true true true false e = cc
both_true true false c e = cc
both_true false b c e = cc

module _ (is_own : Table → Def → Bool) (takes : Val → Bool)
    (fit : FitsOwn is_own takes)
    (shapes : Table → List (Option ℕ)) (others_take : Vals → Bool)
    (others_fit : (table : Table) (wanted : Names) (fields : List Field) → shapes_in wanted ≡ shapes table → are_fields wanted fields ≡ true
    → (vs : Vals) → fields_fit table fields vs ≡ others_take vs) where
  pub parts_fit : (table : Table) (wanted : Names) (fields : List Field) → shapes_in wanted ≡ first_own is_own table ∷ shapes table
      → are_fields wanted fields ≡ true → (vs : Vals) → fields_fit table fields vs ≡ first_takes takes others_take vs
  parts_fit table [] fields same are vs = cc
  parts_fit table (name ∷ names) [] same are vs = cc
  parts_fit table (name ∷ names) (field ∷ fields) same are no_vals = refl
  parts_fit table (name ∷ names) (field ∷ fields) same are (first v vs) =
      let both = both_true (bytes_eq field.name name.0) (is_number name.1 field.shape.0) (are_fields names fields) are in
      let found : first_own is_own table ≡ Some field.shape.0 = sym (head_is same) ∙ number_is name.1 field.shape.0 both.0 in
      rw (fit table field.shape.0 found v, others_fit table names fields (tail_is same) both.1 vs) refl
    where
      head_is : name.1 ∷ shapes_in names ≡ first_own is_own table ∷ shapes table → name.1 ≡ first_own is_own table
      head_is e = cc

      tail_is : name.1 ∷ shapes_in names ≡ first_own is_own table ∷ shapes table → shapes_in names ≡ shapes table
      tail_is e = cc

-- Structs

-- the definition is that of a struct of these fields
pub struct_is : (wanted : Names) (def : Def) → is_struct_of wanted def ≡ true
    → (struct : StructDef) × (are_fields wanted struct.fields ≡ true) × (def ≡ Def.Struct struct)
struct_is wanted (Def.Struct struct) own = (struct, own, refl)
struct_is wanted (Def.Scalar kind) own = cc
struct_is wanted Def.Str own = cc
struct_is wanted Def.Opaque own = cc
struct_is wanted (Def.Enum enumeration) own = cc
struct_is wanted (Def.Option t) own = cc
struct_is wanted (Def.Result t e) own = cc
struct_is wanted (Def.List t) own = cc
struct_is wanted (Def.Map k v) own = cc
struct_is wanted (Def.Set t) own = cc
struct_is wanted (Def.Array t n) own = cc
struct_is wanted (Def.Pointer pointer) own = cc
struct_is wanted (Def.Slice t) own = cc
struct_is wanted Def.Dynamic own = cc
struct_is wanted Def.Undefined own = cc
struct_is wanted Def.Other own = cc

product_fits : (parts_take : Vals → Bool) (table : Table) (struct : StructDef) → ((vs : Vals) → fields_fit table struct.fields vs ≡ parts_take vs)
    → (id : ℕ) → settled table id ≡ Def.Struct struct → (v : Val) → fits table id v ≡ product_takes parts_take v
product_fits parts_take table struct fit id e unit = refl
product_fits parts_take table struct fit id e (bool b) = rw e refl
product_fits parts_take table struct fit id e (char c) = rw e refl
product_fits parts_take table struct fit id e (int z) = rw e refl
product_fits parts_take table struct fit id e (nat n) = rw e refl
product_fits parts_take table struct fit id e (text t) = rw e refl
product_fits parts_take table struct fit id e (token t) = rw e refl
product_fits parts_take table struct fit id e (product vs) = rw e (fit vs)
product_fits parts_take table struct fit id e (variant i vs) = rw e refl
product_fits parts_take table struct fit id e none = rw e refl
product_fits parts_take table struct fit id e (some v) = rw e refl
product_fits parts_take table struct fit id e (ok v) = rw e refl
product_fits parts_take table struct fit id e (err v) = rw e refl
product_fits parts_take table struct fit id e (list_of vs) = rw e refl
product_fits parts_take table struct fit id e (set_of vs) = rw e refl
product_fits parts_take table struct fit id e (map_of es) = rw e refl
product_fits parts_take table struct fit id e (ptr v) = rw e refl
product_fits parts_take table struct fit id e (dyn d) = rw e refl

-- a struct's own shape is the first of just these fields; `shapes` are those of its parts
pub struct_fit : (shapes : Table → List (Option ℕ)) (parts_take : Vals → Bool)
    → ((table : Table) (wanted : Names) (fields : List Field) → shapes_in wanted ≡ shapes table → are_fields wanted fields ≡ true
    → (vs : Vals) → fields_fit table fields vs ≡ parts_take vs)
    → (wanted : Table → Names) → ((table : Table) → shapes_in (wanted table) ≡ shapes table)
    → FitsOwn (λ table def. is_struct_of (wanted table) def) (product_takes parts_take)
struct_fit shapes parts_take fit wanted same table id found =
    let own = first_is_own (is_struct_of (wanted table)) table id found in
    let is = struct_is (wanted table) (def_of table id) own.1 in
    product_fits parts_take table is.0 (fit table (wanted table) is.0.fields (same table) is.1) id
    (settles table id (Def.Struct is.0) (λ _ _. refl) own.0 is.2)
