-- What a filled struct makes.
use Rattle.std.proofs.Common.{◌≡◌, ℕ, zero, suc, Bool, true, false, List, [], ◌∷◌, Option, Some, None, Result, Ok, Err, if◌then◌else◌, refl, ap}
use Rattle.std.specs.Option.{option_or}
use Rattle.fr_shape.specs.declared.error.ReflectErrorKind.{ReflectErrorKind}
use Rattle.fr_shape.specs.declared.shape.Def.{Def}
use Rattle.fr_shape.specs.declared.shape.StructDef.{StructDef}
use Rattle.fr_shape.specs.Fills.{is_empty_struct, preset_of}
use Rattle.fr_shape.specs.Hooks.{Meanings}
use Rattle.fr_shape.specs.Look.{Table, def_of}
use Rattle.fr_shape.specs.Val.{Val, Vals, product, no_vals}
use Rattle.fr_model.specs.Complete.{missing_field, missing_value, unless_there, failing_field_in, unless_failing, valid_child, complete, complete_all, lack_among, lack_of_holes, lack_by, made, made_by}
use Rattle.fr_model.specs.Places.{strict_column, child_count, one_more, product_of, each_child, fill_at}
use Rattle.fr_model.specs.Step.{or_missing, cause, build, built}
use Rattle.fr_model.specs.Trackers.{as_fields}
use Rattle.fr_model.specs.Tree.{Tree, entered, whole, branch}
use Rattle.fr_example.specs.declared.record.Pair.{Pair}
use Rattle.fr_example.specs.Meant.{last_given, value_of_field, admitted_value, checked_field, one_more_field, fields_from, product_of_fields, of_fields, preset_or, unless_violated, unrefused}
use Rattle.fr_example.proofs.Putting.{tree_of, filling}
use Rattle.fr_example.proofs.Slots.{slot_of, slots}

-- A value or a lack, and what is meant

-- these are the values, or this is lacking first
abbrev Tells : {A : Type 0} → Option A → Option ReflectErrorKind → Result A ReflectErrorKind → Type 0
Tells values lacking (Ok v) = values ≡ Some v
Tells values lacking (Err kind) = (values ≡ None) × (lacking ≡ Some kind)

one_child : (o : Option Val) (failing : Option ReflectErrorKind) (missing : ReflectErrorKind) (values : Option Vals)
    (lacking : Option ReflectErrorKind) (rest : Result Vals ReflectErrorKind) → Tells values lacking rest
    → Tells (one_more (unless_failing failing o) values)
    (option_or (option_or (unless_there o missing) failing) lacking) (one_more_field (admitted_value missing failing o) rest)
one_child (Some v) (Some kind) missing values lacking rest told = (refl, refl)
one_child (Some v) None missing values lacking (Ok vs) told = rw told refl
one_child (Some v) None missing values lacking (Err kind) told = (rw told.0 refl, told.1)
one_child None (Some kind) missing values lacking rest told = (refl, refl)
one_child None None missing values lacking rest told = (refl, refl)

module _ (hooks : Meanings) (table : Table) (root : ℕ) where
  -- the fields of a struct of which nothing was put
  fills_tell : (count i : ℕ)
      → Tells (each_child (λ k. valid_child hooks table root (as_fields None) k (fill_at strict_column table root k)) count i)
      (lack_of_holes hooks table root (as_fields None) count i) (fields_from hooks table root (value_of_field table root []) count i)
  fills_tell zero i = refl
  fills_tell (suc count) i =
      one_child (fill_at strict_column table root i) (failing_field_in hooks table root None i (fill_at strict_column table root i))
      (missing_field root None i)
      (each_child (λ k. valid_child hooks table root (as_fields None) k (fill_at strict_column table root k)) count (suc i))
      (lack_of_holes hooks table root (as_fields None) count (suc i))
      (fields_from hooks table root (value_of_field table root []) count (suc i))
      (fills_tell count (suc i))

  -- the fields of a struct of which some were put
  slots_tell : (given_to : ℕ → Option Val) (count i : ℕ)
      → Tells (complete_all strict_column hooks table root (as_fields None) i (slots given_to count i))
      (lack_among hooks table root (as_fields None) i (slots given_to count i))
      (fields_from hooks table root (λ k. option_or (given_to k) (fill_at strict_column table root k)) count i)
  slots_tell given_to zero i = refl
  slots_tell given_to (suc count) i = go (given_to i) (slots_tell given_to count (suc i))
    where
      go : (value : Option Val)
          → Tells (complete_all strict_column hooks table root (as_fields None) (suc i) (slots given_to count (suc i)))
          (lack_among hooks table root (as_fields None) (suc i) (slots given_to count (suc i)))
          (fields_from hooks table root (λ k. option_or (given_to k) (fill_at strict_column table root k)) count (suc i))
          → Tells
          (complete_all strict_column hooks table root (as_fields None) i (branch (slot_of value) (slots given_to count (suc i))))
          (lack_among hooks table root (as_fields None) i (branch (slot_of value) (slots given_to count (suc i))))
          (one_more_field (checked_field hooks table root i (option_or value (fill_at strict_column table root i)))
          (fields_from hooks table root (λ k. option_or (given_to k) (fill_at strict_column table root k)) count (suc i)))
      go (Some v) rest =
          one_child (Some v) (failing_field_in hooks table root None i (Some v)) (missing_field root None i)
          (complete_all strict_column hooks table root (as_fields None) (suc i) (slots given_to count (suc i)))
          (lack_among hooks table root (as_fields None) (suc i) (slots given_to count (suc i)))
          (fields_from hooks table root (λ k. option_or (given_to k) (fill_at strict_column table root k)) count (suc i)) rest
      go None rest =
          one_child (fill_at strict_column table root i) (failing_field_in hooks table root None i (fill_at strict_column table root i))
          (missing_field root None i)
          (complete_all strict_column hooks table root (as_fields None) (suc i) (slots given_to count (suc i)))
          (lack_among hooks table root (as_fields None) (suc i) (slots given_to count (suc i)))
          (fields_from hooks table root (λ k. option_or (given_to k) (fill_at strict_column table root k)) count (suc i)) rest

-- The whole

abbrev value_or : Option Val → ReflectErrorKind → Result Val ReflectErrorKind
value_or (Some v) kind = Ok v
value_or None kind = Err kind

product_told : (root : ℕ) (values : Option Vals) (lacking : Option ReflectErrorKind) (meant : Result Vals ReflectErrorKind)
    → Tells values lacking meant
    → value_or (product_of values) (or_missing root lacking) ≡ product_of_fields meant
product_told root values lacking (Ok vs) told = rw told refl
product_told root values lacking (Err kind) told = rw (told.0, told.1) refl

begun_told : (root : ℕ) (values : Option Vals) (lacking : Option ReflectErrorKind) (meant : Result Vals ReflectErrorKind)
    → Tells values lacking meant
    → value_or (made (as_fields None) values) (or_missing root lacking) ≡ product_of_fields meant
begun_told root values lacking (Ok vs) told = rw told refl
begun_told root values lacking (Err kind) told = rw (told.0, told.1) refl

entered_told : (root : ℕ) (struct : StructDef) (def : Def) (preset : Option Val) (values : Option Vals)
    (lacking : Option ReflectErrorKind) (meant : Result Vals ReflectErrorKind) → def ≡ Def.Struct struct
    → Tells values lacking meant
    → value_or (made_by def preset (product_of values)) (or_missing root (lack_by def preset lacking (missing_value root)))
    ≡ preset_or preset (product_of_fields meant)
entered_told root struct def (Some v) values lacking meant is told = rw is refl
entered_told root struct def None values lacking meant is told = rw is (product_told root values lacking meant told)

-- what is built of a place: what it makes, or its cause, unless an invariant is false
built_is : (hooks : Meanings) (table : Table) (root : ℕ) (t : Tree) (value : Option Val) (meant : Result Val ReflectErrorKind)
    → value_or value (cause hooks table root t) ≡ meant → built hooks table root t value ≡ unless_violated hooks table root meant
built_is hooks table root t (Some v) meant is = ap (λ (r : Result Val ReflectErrorKind). unless_violated hooks table root r) is
built_is hooks table root t None meant is = ap (λ (r : Result Val ReflectErrorKind). unless_violated hooks table root r) is

-- what is built of a struct that was filled with these pairs is what is meant
pub makes : (hooks : Meanings) (table : Table) (root : ℕ) (struct : StructDef) (pairs : List Pair) (calls : ℕ)
    → def_of table root ≡ Def.Struct struct
    → build hooks table root (filling table root pairs calls) ≡ unrefused hooks table root pairs
makes hooks table root struct [] calls is = go (is_empty_struct (def_of table root))
  where
    go : (b : Bool)
        → built hooks table root (if b then whole (product no_vals) else entered)
        (complete strict_column hooks table root (if b then whole (product no_vals) else entered))
        ≡ unless_violated hooks table root
        (if b then Ok (product no_vals) else preset_or (preset_of table root) (of_fields hooks table root []))
    go true = refl
    go false =
        built_is hooks table root entered (complete strict_column hooks table root entered)
        (preset_or (preset_of table root) (of_fields hooks table root []))
        (entered_told root struct (def_of table root) (preset_of table root)
        (each_child (λ k. valid_child hooks table root (as_fields None) k (fill_at strict_column table root k)) (child_count table root) 0)
        (lack_of_holes hooks table root (as_fields None) (child_count table root) 0)
        (fields_from hooks table root (value_of_field table root []) (child_count table root) 0) is
        (fills_tell hooks table root (child_count table root) 0))
makes hooks table root struct (pair ∷ pairs) calls is =
    built_is hooks table root (tree_of table root (pair ∷ pairs))
    (complete strict_column hooks table root (tree_of table root (pair ∷ pairs))) (of_fields hooks table root (pair ∷ pairs))
    (begun_told root
    (complete_all strict_column hooks table root (as_fields None) 0
    (slots (last_given table root (pair ∷ pairs)) (child_count table root) 0))
    (lack_among hooks table root (as_fields None) 0
    (slots (last_given table root (pair ∷ pairs)) (child_count table root) 0))
    (fields_from hooks table root (value_of_field table root (pair ∷ pairs)) (child_count table root) 0)
    (slots_tell hooks table root (last_given table root (pair ∷ pairs)) (child_count table root) 0))
