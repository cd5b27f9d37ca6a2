-- The names by which variants are found, and what it is for a lookup to stand for an enum's variants.
use Rattle.std.specs.Prelude.{◌≡◌, ℕ, ◌+◌, ◌<◌, ◌≤◌, ◌&&◌, Bool, not, if◌then◌else◌, IsTrue, List, [], ◌∷◌, Option, length, find, map, position, IsSortedByKey, IsPermutation}
use Rattle.std.specs.Ordering.{nat_cmp}
use Rattle.std.specs.Cmp.Lexicographic.{slice_cmp}
use Rattle.std.specs.Option.{option_map}
use Rattle.std.specs.Str.{bytes_eq}
use Rattle.fr_shape.specs.declared.shape.VariantDef.{VariantDef}
use Rattle.fr_shape.specs.Checked.{names_apart}
use Rattle.fr_shape.specs.Named.{name_of}
use Rattle.fr_rules.specs.declared.entries.TheConstants.{LOOKUP_THRESHOLD}
use Rattle.fr_rules.specs.declared.variant_lookups.VariantLookup.{VariantLookup}

-- a name and the number of its variant
abbrev pub VariantEntry : Type 0
VariantEntry = List ℕ × ℕ

-- the effective names of variants whose first has the number i, without those marked `other`
abbrev pub variant_entries_from : ℕ → List VariantDef → List VariantEntry
variant_entries_from i [] = []
variant_entries_from i (variant ∷ variants) =
    if variant.other then variant_entries_from (i + 1) variants
    else (name_of variant, i) ∷ variant_entries_from (i + 1) variants

abbrev pub variant_entries : List VariantDef → List VariantEntry
variant_entries variants = variant_entries_from 0 variants

-- the variant has this effective name, and isn't marked `other`
abbrev pub is_found_by : List ℕ → VariantDef → Bool
is_found_by name variant = not variant.other && bytes_eq (name_of variant) name

-- the number of the variant of this name
abbrev pub variant_named : List ℕ → List VariantDef → Option ℕ
variant_named name variants = position (is_found_by name) variants

abbrev pub HaveDistinctNames : List VariantDef → Type 0
HaveDistinctNames variants = IsTrue (names_apart (map name_of variants))

-- the number in the first entry of this whole name
abbrev pub first_numbered : List ℕ → List VariantEntry → Option ℕ
first_numbered name entries =
    option_map (λ (entry : VariantEntry). entry.1) (find (λ (entry : VariantEntry). bytes_eq entry.0 name) entries)

-- by name, byte by byte
abbrev pub IsSortedByName : List VariantEntry → Type 0
IsSortedByName entries = IsSortedByKey (λ (entry : VariantEntry). entry.0) (slice_cmp nat_cmp) entries

-- the entries of a lookup, as it holds them
abbrev pub entries_in : VariantLookup → List VariantEntry
entries_in (VariantLookup.Small own) = own.items
entries_in (VariantLookup.Sorted sorted) = sorted

-- the entries stand as their form wants: in any order where all are looked through, else sorted by name
abbrev pub IsInOrder : VariantLookup → Type 0
IsInOrder (VariantLookup.Small own) = Unit {0}
IsInOrder (VariantLookup.Sorted sorted) = IsSortedByName sorted

-- up to the threshold entries stand in the variants' order, and more are sorted by name
abbrev pub HoldsVariants : VariantLookup → List VariantEntry → Type 0
HoldsVariants (VariantLookup.Small own) entries = (own.items ≡ entries) × (length entries ≤ LOOKUP_THRESHOLD)
HoldsVariants (VariantLookup.Sorted sorted) entries =
    (LOOKUP_THRESHOLD < length entries) × IsPermutation entries sorted × IsSortedByName sorted

-- the lookup stands for these variants, whose names are distinct
pub record IsVariantLookupOf (lookup : VariantLookup) (variants : List VariantDef) : Type 0 where
  pub distinct : HaveDistinctNames variants
  pub holds : HoldsVariants lookup (variant_entries variants)
