-- The first field of a name, and its number.
use Rattle.std.proofs.Common.{◌≡◌, ℕ, suc, Bool, true, false, List, [], ◌∷◌, Option, Some, None, slice_get, refl, sym, ◌∙◌, ap}
use Rattle.std.specs.List.{find}
use Rattle.std.specs.Option.{option_and_then, option_map}
use Rattle.std.specs.Str.{bytes_eq}
use Rattle.fr_shape.specs.declared.shape.Def.{Def}
use Rattle.fr_shape.specs.declared.shape.Field.{Field}
use Rattle.fr_shape.specs.declared.shape.Shape.{Shape}
use Rattle.fr_shape.specs.declared.shape.StructDef.{StructDef}
use Rattle.fr_shape.specs.Look.{Table}
use Rattle.fr_shape.specs.Named.{first_declared, named_field}

-- counted from one more, its number is one more
one_further : (name : List ℕ) (fields : List Field) (i : ℕ)
    → first_declared name (suc i) fields ≡ option_map suc (first_declared name i fields)
one_further name [] i = refl
one_further name (field ∷ fields) i = go (bytes_eq field.name name) refl (one_further name fields (suc i)) where
  go : (b : Bool) → bytes_eq field.name name ≡ b
      → first_declared name (suc (suc i)) fields ≡ option_map suc (first_declared name (suc i) fields)
      → first_declared name (suc i) (field ∷ fields) ≡ option_map suc (first_declared name i (field ∷ fields))
  go true e rest = rw e refl
  go false e rest = rw e rest

past_first : (field : Field) (fields : List Field) (found : Option ℕ)
    → option_and_then (slice_get (field ∷ fields)) (option_map suc found) ≡ option_and_then (slice_get fields) found
past_first field fields (Some i) = refl
past_first field fields None = refl

-- the first field that passes is the one of the first number
first_found : (name : List ℕ) (fields : List Field)
    → find (λ (field : Field). bytes_eq field.name name) fields
    ≡ option_and_then (slice_get fields) (first_declared name 0 fields)
first_found name [] = refl
first_found name (field ∷ fields) = go (bytes_eq field.name name) refl (first_found name fields) where
  go : (b : Bool) → bytes_eq field.name name ≡ b
      → find (λ (field : Field). bytes_eq field.name name) fields
      ≡ option_and_then (slice_get fields) (first_declared name 0 fields)
      → find (λ (field : Field). bytes_eq field.name name) (field ∷ fields)
      ≡ option_and_then (slice_get (field ∷ fields)) (first_declared name 0 (field ∷ fields))
  go true e rest = rw e refl
  go false e rest =
      rw e
      (rest ∙ sym (past_first field fields (first_declared name 0 fields))
      ∙ sym (ap (option_and_then (slice_get (field ∷ fields))) (one_further name fields 0)))

-- and it is the struct's field of this name
pub struct_field : (table : Table) (s : ℕ) (shape : Shape) (struct : StructDef) (name : List ℕ) (found : Option Field)
    → slice_get table s ≡ Some shape → shape.def ≡ Def.Struct struct
    → found ≡ find (λ (field : Field). bytes_eq field.name name) struct.fields → found ≡ named_field table s name
struct_field table s shape struct name found there is first =
    rw (there, is) (first ∙ first_found name struct.fields)
