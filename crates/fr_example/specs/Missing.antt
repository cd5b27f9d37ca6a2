-- Where lines lack a field: the keys under which no line names it.
use Rattle.std.specs.Prelude.{◌&&◌, ◌==◌, ◌++◌, ◌∷◌, ℕ, Bool, false, not, List, [], map, flat_map, Option, Some, None}
use Rattle.std.specs.List.{filter, list_any, starts_with}
use Rattle.std.specs.Option.{option_map, option_map_or, option_and_then}
use Rattle.std.specs.Str.{bytes_eq}
use Rattle.fr_shape.specs.declared.shape.Field.{Field}
use Rattle.fr_shape.specs.declared.shape.FieldRef.{FieldRef}
use Rattle.fr_shape.specs.Look.{Table, def_of, field_in, field_at}
use Rattle.fr_shape.specs.Named.{field_named}
use Rattle.fr_example.specs.Loading.{has_equals_sign, names_of, says_nothing}

-- Groups. Each is told by the names that lead to it from the root: by none, if it is the root itself.

-- the shape of the field that a struct declares under this name
abbrev pub shape_below : Table → ℕ → (name : List ℕ) → Option ℕ
shape_below table shape name =
    option_map (λ (field : Field). field.shape.0)
    (option_and_then (field_in (def_of table shape) None) (field_named name (def_of table shape)))

-- the shape to which names lead, one below the other
abbrev pub shape_under : Table → ℕ → (names : List (List ℕ)) → Option ℕ
shape_under table shape [] = Some shape
shape_under table shape (name ∷ names) =
    option_and_then (λ (below : ℕ). shape_under table below names) (shape_below table shape name)

-- they lead to a group of this shape
abbrev pub is_group_of : Table → (root shape : ℕ) → (group : List (List ℕ)) → Bool
is_group_of table root shape group = option_map_or (λ (found : ℕ). found == shape) (shape_under table root group) false

-- the groups that a key of these names leads through, the root first
abbrev pub led_through : (names : List (List ℕ)) → List (List (List ℕ))
led_through [] = []
led_through (name ∷ names) = [] ∷ map (λ (group : List (List ℕ)). name ∷ group) (led_through names)

-- the groups of a shape: the root, if it is of that, and those that these keys lead through
abbrev pub groups_of : Table → (root shape : ℕ) → (keys : List (List (List ℕ))) → List (List (List ℕ))
groups_of table root shape keys = filter (is_group_of table root shape) ([] ∷ flat_map led_through keys)

-- Keys

-- a line that has a key and a value
abbrev pub is_pair : List ℕ → Bool
is_pair line = not (says_nothing line) && has_equals_sign line

-- the keys of such lines, each as its names
abbrev pub keys_of : (lines : List (List ℕ)) → List (List (List ℕ))
keys_of lines = map names_of (filter is_pair lines)

-- the key of a field in a group: the group's names and the field's, with a dot between
abbrev pub key_in : (field : List ℕ) → (group : List (List ℕ)) → List ℕ
key_in field [] = field
key_in field (name ∷ group) = name ++ 46 ∷ key_in field group

-- no line names the field in the group: none of these keys begins with the group's names and the field's
abbrev pub is_unnamed : (field : List ℕ) → (keys : List (List (List ℕ))) → (group : List (List ℕ)) → Bool
is_unnamed field keys group = not (list_any (λ (key : List (List ℕ)). starts_with bytes_eq key (group ++ field ∷ [])) keys)

-- each of them once, where it comes first
abbrev pub each_once : List (List ℕ) → List (List ℕ)
each_once [] = []
each_once (key ∷ keys) = key ∷ filter (λ (other : List ℕ). not (bytes_eq key other)) (each_once keys)

-- the keys of the field of this name that are not named, one for each group of the shape
abbrev pub keys_missing : Table → (root shape : ℕ) → (field : List ℕ) → (keys : List (List (List ℕ))) → List (List ℕ)
keys_missing table root shape field keys =
    each_once (map (key_in field) (filter (is_unnamed field keys) (groups_of table root shape keys)))

-- The keys of a field that no line names: one for each group of its shape that a line leads through, and for the root, if that is of
-- its shape. None, where the table has no such field.
abbrev pub missing_keys : Table → (root : ℕ) → FieldRef → (lines : List (List ℕ)) → List (List ℕ)
missing_keys table root field lines =
    option_map_or (λ (found : Field). keys_missing table root field.shape.0 found.name (keys_of lines)) (field_at table field) []
