-- How the keys that lines lack are found: by the groups of a field's shape that each line leads through.
use Rattle.std.specs.Prelude.{◌&&◌, ◌==◌, ◌++◌, ◌∷◌, ℕ, Bool, false, not, List, [], map, flat_map, if◌then◌else◌}
use Rattle.std.specs.List.{filter, list_any}
use Rattle.std.specs.Option.{option_map_or}
use Rattle.std.specs.Str.{bytes_eq}
use Rattle.fr_shape.specs.Look.{Table}
use Rattle.fr_example.specs.declared.missing.Mention.{Mention}
use Rattle.fr_example.specs.Loading.{has_equals_sign, names_of, says_nothing}
use Rattle.fr_example.specs.Missing.{each_once, shape_below}

-- the mention of a group of shape `at`, if that is the shape of which groups are looked for
abbrev pub mention_here : (shape at : ℕ) → (key : List ℕ) → (named : Bool) → List Mention
mention_here shape at key named = if at == shape then record { key = key; named = named } ∷ [] else []

-- the same mention, of a group below
abbrev pub mention_below : (name : List ℕ) → Mention → Mention
mention_below name mention = record { key = name ++ 46 ∷ mention.key; named = mention.named }

-- the groups of a shape that names lead through, from one of shape `at` on: the field's key there, and whether its name comes next
abbrev pub mentions_from : Table → (shape : ℕ) → (field : List ℕ) → (at : ℕ) → (names : List (List ℕ)) → List Mention
mentions_from table shape field at [] = []
mentions_from table shape field at (name ∷ names) =
    mention_here shape at field (bytes_eq name field)
    ++ option_map_or (λ (below : ℕ). map (mention_below name) (mentions_from table shape field below names)) (shape_below table at name) []

-- those of a line: of one that has a key and a value
abbrev pub mentions_of_line : Table → (shape : ℕ) → (field : List ℕ) → (root : ℕ) → (line : List ℕ) → List Mention
mentions_of_line table shape field root line =
    if says_nothing line then []
    else if has_equals_sign line then mentions_from table shape field root (names_of line)
    else []

-- those of all lines, and before them the root, if it is of the shape
abbrev pub mentions_in : Table → (shape : ℕ) → (field : List ℕ) → (root : ℕ) → (lines : List (List ℕ)) → List Mention
mentions_in table shape field root lines =
    mention_here shape root field false ++ flat_map (mentions_of_line table shape field root) lines

-- one of them names this key
abbrev pub is_named : List Mention → (key : List ℕ) → Bool
is_named mentions key = list_any (λ (mention : Mention). mention.named && bytes_eq mention.key key) mentions

-- the keys that none of them names, each once
abbrev pub unnamed_keys : List Mention → List (List ℕ)
unnamed_keys mentions =
    each_once (filter (λ (key : List ℕ). not (is_named mentions key)) (map (λ (mention : Mention). mention.key) mentions))
