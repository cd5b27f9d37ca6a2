-- The names by which the fields of a list are found.
use Rattle.std.specs.Prelude.{ℕ, ◌+◌, Bool, true, false, List, [], ◌∷◌, ◌++◌, Option, find, map}
use Rattle.std.specs.Option.{option_map, option_to_list}
use Rattle.std.specs.Str.{bytes_eq}
use Rattle.fr_shape.specs.declared.shape.Field.{Field}
use Rattle.fr_shape.specs.Named.{effective_name}
use Rattle.fr_rules.specs.declared.entries.FieldLookupEntry.{FieldLookupEntry}

-- the field of number i under its effective name, and then under its alias where it has one
abbrev pub entries_of_field : ℕ → Field → List FieldLookupEntry
entries_of_field i field =
    record { name = effective_name field.rename field.name; index = i; is_alias = false }
    ∷ map (λ alias. record { name = alias; index = i; is_alias = true }) (option_to_list field.alias)

-- the entries of fields whose first has the number i
abbrev pub entries_from : ℕ → List Field → List FieldLookupEntry
entries_from i [] = []
entries_from i (field ∷ fields) = entries_of_field i field ++ entries_from (i + 1) fields

-- the entries of a list of fields, field by field
abbrev pub entries_of : List Field → List FieldLookupEntry
entries_of fields = entries_from 0 fields

abbrev pub is_named : List ℕ → FieldLookupEntry → Bool
is_named name entry = bytes_eq entry.name name

-- the number of the field in the first entry with this whole name
abbrev pub first_named : List ℕ → List FieldLookupEntry → Option ℕ
first_named name entries = option_map (λ (entry : FieldLookupEntry). entry.index) (find (is_named name) entries)
