-- A field that is found by its name in a plan, of the place of a definition.
use Rattle.std.proofs.Common.{◌≡◌, ℕ, false, List, [], Option, Some, None, is_some, slice_get, refl, sym, subst}
use Rattle.std.specs.Option.{option_map_or}
use Rattle.fr_shape.specs.declared.shape.Def.{Def}
use Rattle.fr_shape.specs.declared.shape.Field.{Field}
use Rattle.fr_shape.specs.declared.shape.VariantDef.{VariantDef}
use Rattle.fr_shape.specs.Look.{variants_of}
use Rattle.fr_rules.specs.Entries.{entries_of, first_named}
use Rattle.fr_rules.specs.FieldLookups.{IsLookupOf}
use Rattle.fr_rules.specs.Pools.{Pool}
use Rattle.fr_rules.specs.declared.field_lookups.FieldLookup.{FieldLookup}
use Rattle.fr_work.specs.Readings.{field_number, is_struct}

pub in_pool : (pool there : Pool) (lookup : FieldLookup) (fields : List Field) → pool ≡ there
    → IsLookupOf there lookup (entries_of fields) → IsLookupOf pool lookup (entries_of fields)
in_pool pool there lookup fields same is = subst (λ (p : Pool). IsLookupOf p lookup (entries_of fields)) (sym same) is

no_variant : (name : List ℕ) (found : Option VariantDef) → false ≡ is_some found
    → None ≡ first_named name (entries_of (option_map_or (λ (described : VariantDef). described.fields) found []))
no_variant name None e = refl
no_variant name (Some variant) e = cc

pub none_in_variant : (name : List ℕ) (def : Def) (k : ℕ) → false ≡ is_some (slice_get (variants_of def) k)
    → None ≡ field_number name def (Some k)
none_in_variant name def k e = no_variant name (slice_get (variants_of def) k) e

pub none_in_struct : (name : List ℕ) (def : Def) → false ≡ is_struct def → None ≡ field_number name def None
none_in_struct name (Def.Struct struct) e = cc
none_in_struct name _ e = refl
