-- The first number of a key: the first field of a name, and the first variant of a name or of a discriminant.
use Rattle.std.proofs.Common.{◌≡◌, ℕ, ℤ, suc, Bool, true, false, cond, not, ◌&&◌, List, [], ◌∷◌, length, Option, Some, None, if◌then◌else◌, refl, sym, ap, ◌∙◌, subst, arith}
use Rattle.std.specs.List.{position_from}
use Rattle.std.specs.Bool.{Decides}
use Rattle.std.specs.Cmp.{signed_Decides}
use Rattle.std.specs.Cmp.Lexicographic.{bytes_decides}
use Rattle.std.specs.Option.{option_and_then, option_map_or}
use Rattle.std.specs.Str.{bytes_eq}
use Rattle.std.proofs.lemmas.Bool.{true≢false}
use Rattle.std.proofs.lemmas.Iterator.Adapters.{position_from-zero}
use Rattle.std.proofs.lemmas.Option.{none-some, same_Some}
use Rattle.fr_shape.specs.declared.shape.Field.{Field}
use Rattle.fr_shape.specs.declared.shape.VariantDef.{VariantDef}
use Rattle.fr_shape.specs.Named.{name_of, first_declared}
use Rattle.fr_rules.specs.VariantLookups.{is_found_by, variant_named}
use Rattle.fr_plan.specs.Names.{is_discriminant, variant_told_by}
use Rattle.fr_plan.specs.ShapeFields.{name_at, found_name, found_name_at, discriminant_at}
use Rattle.fr_plan.proofs.ByKey.{IsFirst, first_passes}

-- Fields.

abbrev is_declared : List ℕ → Field → Bool
is_declared name field = bytes_eq field.name name

declared_passes : (name : List ℕ) (i : ℕ) (fields : List Field)
    → position_from (is_declared name) i fields ≡ first_declared name i fields
declared_passes name i [] = refl
declared_passes name i (field ∷ fields) =
    ap (λ (rest : Option ℕ). cond (is_declared name field) (Some i) rest)
    (ap (λ (n : ℕ). position_from (is_declared name) n fields) (omega arith) ∙ declared_passes name (suc i) fields)

pub first_is_declared : (fields : List Field) (name : List ℕ) (found : Option ℕ)
    → IsFirst (name_at fields) (length fields) name found → found ≡ first_declared name 0 fields
first_is_declared fields name found first =
    first_passes (is_declared name) (name_at fields) fields name
    (λ j field at.
    subst
    (λ (there : Option Field). Decides (is_declared name field) (option_map_or (λ (f : Field). f.name) there [] ≡ name))
    (sym at) (bytes_decides field.name name))
    found first
    ∙ declared_passes name 0 fields

-- Variants.

by_name : (other : Bool) (own name : List ℕ)
    → Decides (not other && bytes_eq own name) ((if other then None else Some own) ≡ Some name)
by_name true own name = (λ passes. absurd (true≢false (sym passes)), λ same. absurd (none-some name same))
by_name false own name =
    (λ passes. ap Some ((bytes_decides own name).0 passes), λ same. (bytes_decides own name).1 (same_Some own name same))

pub first_is_named : (variants : List VariantDef) (name : List ℕ) (found : Option ℕ)
    → IsFirst (found_name_at variants) (length variants) (Some name) found → found ≡ variant_named name variants
first_is_named variants name found first =
    first_passes (is_found_by name) (found_name_at variants) variants (Some name)
    (λ j variant at.
    subst (λ (there : Option VariantDef). Decides (is_found_by name variant) (option_and_then found_name there ≡ Some name))
    (sym at) (by_name variant.other (name_of variant) name))
    found first
    ∙ sym (position_from-zero (is_found_by name) variants)

by_discriminant : (asked : ℤ) (own : Option ℤ) → Decides (is_discriminant asked own) (own ≡ Some asked)
by_discriminant asked None = (λ passes. absurd (true≢false (sym passes)), λ same. absurd (none-some asked same))
by_discriminant asked (Some own) =
    (λ passes. ap Some ((signed_Decides own asked).0 passes), λ same. (signed_Decides own asked).1 (same_Some own asked same))

abbrev discriminant_of : VariantDef → Option ℤ
discriminant_of variant = variant.discriminant

pub first_is_told_by : (variants : List VariantDef) (asked : ℤ) (found : Option ℕ)
    → IsFirst (discriminant_at variants) (length variants) (Some asked) found → found ≡ variant_told_by asked variants
first_is_told_by variants asked found first =
    first_passes is_told (discriminant_at variants) variants (Some asked)
    (λ j variant at.
    subst (λ (there : Option VariantDef). Decides (is_told variant) (option_and_then discriminant_of there ≡ Some asked))
    (sym at) (by_discriminant asked variant.discriminant))
    found first
    ∙ sym (position_from-zero is_told variants)
  where
    is_told : VariantDef → Bool
    is_told variant = is_discriminant asked variant.discriminant
