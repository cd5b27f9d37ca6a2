-- What is found of lines is what they lack.
use Rattle.std.proofs.Common.{◌≡◌, ℕ, ◌==◌, Bool, true, false, cond, not, ◌&&◌, ◌||◌, List, [], ◌∷◌, ◌++◌, map, Option, Some, refl, sym, ◌∙◌, ap, ap₂}
use Rattle.std.specs.Prelude.{flat_map, if◌then◌else◌}
use Rattle.std.specs.List.{AllByRecursion, before_first, filter, list_any, starts_with}
use Rattle.std.specs.Option.{option_map_or}
use Rattle.std.specs.Str.{bytes_eq, trim}
use Rattle.std.proofs.lemmas.List.{map-append}
use Rattle.std.proofs.lemmas.List.Elements.{filter-append}
use Rattle.std.proofs.lemmas.List.Folds.{list_any-append}
use Rattle.fr_shape.specs.declared.shape.Field.{Field}
use Rattle.fr_shape.specs.declared.shape.FieldRef.{FieldRef}
use Rattle.fr_shape.specs.Look.{Table, field_at}
use Rattle.fr_example.specs.declared.missing.Mention.{Mention}
use Rattle.fr_example.specs.Loading.{has_equals_sign, is_equals_sign, names_of, says_nothing}
use Rattle.fr_example.specs.Mentions.{is_named, mention_here, mentions_from, mentions_in, mentions_of_line, unnamed_keys}
use Rattle.fr_example.specs.Missing.{each_once, groups_of, is_group_of, is_pair, is_unnamed, key_in, keys_missing, keys_of, led_through, missing_keys}
use Rattle.fr_example.proofs.GroupsLedThrough.{AreDotless, any-flat_map, any_alike, each_append, each_map, each_of, each_passing, each_weaker, filter-map, filter_alike, keys_mentioned, led_dotless, named_there, parted_dotless}

module _ (table : Table) (shape : ℕ) (field : List ℕ) (root : ℕ) where
  -- lines bring what their keys bring
  lines_bring : (lines : List (List ℕ)) → flat_map (mentions_of_line table shape field root) lines ≡ flat_map (mentions_from table shape field root) (keys_of lines)
  lines_bring [] = refl
  lines_bring (line ∷ lines) = go (lines_bring lines) (says_nothing line) (has_equals_sign line)
    where
      go : flat_map (mentions_of_line table shape field root) lines ≡ flat_map (mentions_from table shape field root) (keys_of lines)
          → (nothing has : Bool)
          → (if nothing then [] else if has then mentions_from table shape field root (names_of line) else [])
          ++ flat_map (mentions_of_line table shape field root) lines
          ≡ flat_map (mentions_from table shape field root) (map names_of (cond (not nothing && has) (line ∷ filter is_pair lines) (filter is_pair lines)))
      go again true has = again
      go again false true = ap (λ (ms : List Mention). mentions_from table shape field root (names_of line) ++ ms) again
      go again false false = again

  keys_bring : (keys : List (List (List ℕ)))
      → map (λ (m : Mention). m.key) (flat_map (mentions_from table shape field root) keys)
      ≡ map (key_in field) (filter (is_group_of table root shape) (flat_map led_through keys))
  keys_bring [] = refl
  keys_bring (key ∷ keys) =
      map-append (λ (m : Mention). m.key) (mentions_from table shape field root key) (flat_map (mentions_from table shape field root) keys)
      ∙ ap₂ (λ (xs ys : List (List ℕ)). xs ++ ys) (keys_mentioned table shape field root key) (keys_bring keys)
      ∙ sym (
      ap (map (key_in field)) (filter-append (is_group_of table root shape) (led_through key) (flat_map led_through keys))
      ∙ map-append (key_in field) (filter (is_group_of table root shape) (led_through key))
      (filter (is_group_of table root shape) (flat_map led_through keys))
      )

  -- the keys of all mentions are those of the field in all groups
  all_bring : (lines : List (List ℕ))
      → map (λ (m : Mention). m.key) (mentions_in table shape field root lines)
      ≡ map (key_in field) (groups_of table root shape (keys_of lines))
  all_bring lines = go (root == shape)
    where
      rest : map (λ (m : Mention). m.key) (flat_map (mentions_of_line table shape field root) lines)
          ≡ map (key_in field) (filter (is_group_of table root shape) (flat_map led_through (keys_of lines)))
      rest = ap (map (λ (m : Mention). m.key)) (lines_bring lines) ∙ keys_bring (keys_of lines)

      go : (here : Bool)
          → map (λ (m : Mention). m.key)
          ((if here then record { key = field; named = false } ∷ [] else []) ++ flat_map (mentions_of_line table shape field root) lines)
          ≡ map (key_in field)
          (cond here ([] ∷ filter (is_group_of table root shape) (flat_map led_through (keys_of lines)))
          (filter (is_group_of table root shape) (flat_map led_through (keys_of lines))))
      go true = ap (λ (keys : List (List ℕ)). field ∷ keys) rest
      go false = rest

  -- a key is named where some line goes on with the field's name in its group
  named_among : (lines : List (List ℕ)) (group : List (List ℕ)) → AllByRecursion AreDotless (keys_of lines) → AreDotless group
      → is_group_of table root shape group ≡ true
      → is_named (mentions_in table shape field root lines) (key_in field group)
      ≡ list_any (λ (key : List (List ℕ)). starts_with bytes_eq key (group ++ field ∷ [])) (keys_of lines)
  named_among lines group all dotless found =
      list_any-append (λ (m : Mention). m.named && bytes_eq m.key (key_in field group))
      (mention_here shape root field false)
      (flat_map (mentions_of_line table shape field root) lines)
      ∙ ap₂ (λ (b c : Bool). b || c) (here (root == shape))
      (ap (list_any (λ (m : Mention). m.named && bytes_eq m.key (key_in field group))) (lines_bring lines)
      ∙ any-flat_map (λ (m : Mention). m.named && bytes_eq m.key (key_in field group)) (mentions_from table shape field root) (keys_of lines)
      ∙ any_alike (λ (key : List (List ℕ)). is_named (mentions_from table shape field root key) (key_in field group))
      (λ (key : List (List ℕ)). starts_with bytes_eq key (group ++ field ∷ [])) (keys_of lines)
      (each_weaker AreDotless
      (λ (key : List (List ℕ)). is_named (mentions_from table shape field root key) (key_in field group)
      ≡ starts_with bytes_eq key (group ++ field ∷ []))
      (keys_of lines) (λ key key_is. named_there table shape field root key group key_is dotless found) all))
    where
      here : (b : Bool)
          → list_any (λ (m : Mention). m.named && bytes_eq m.key (key_in field group)) (if b then record { key = field; named = false } ∷ [] else [])
          ≡ false
      here true = refl
      here false = refl

keys_dotless : (lines : List (List ℕ)) → AllByRecursion AreDotless (keys_of lines)
keys_dotless lines =
    each_map AreDotless names_of (filter is_pair lines)
    (each_of (λ (line : List ℕ). AreDotless (names_of line)) (filter is_pair lines)
    (λ line. parted_dotless (trim (before_first is_equals_sign line))))

all_dotless : (keys : List (List (List ℕ))) → AllByRecursion AreDotless keys → AllByRecursion AreDotless (flat_map led_through keys)
all_dotless [] all = tt
all_dotless (key ∷ keys) (so, all) =
    each_append AreDotless (led_through key) (flat_map led_through keys) (led_dotless key so) (all_dotless keys all)

-- the keys that no mention names are those that no line names
pub missing_are : (table : Table) (shape : ℕ) (field : List ℕ) (root : ℕ) (lines : List (List ℕ))
    → unnamed_keys (mentions_in table shape field root lines) ≡ keys_missing table root shape field (keys_of lines)
missing_are table shape field root lines =
    ap each_once (
    ap (filter unnamed) (all_bring table shape field root lines)
    ∙ filter-map unnamed (key_in field) (groups_of table root shape (keys_of lines))
    ∙ ap (map (key_in field))
    (filter_alike (λ (group : List (List ℕ)). unnamed (key_in field group)) (is_unnamed field (keys_of lines))
    (groups_of table root shape (keys_of lines))
    (each_weaker (λ (group : List (List ℕ)). AreDotless group × (is_group_of table root shape group ≡ true))
    (λ (group : List (List ℕ)). unnamed (key_in field group) ≡ is_unnamed field (keys_of lines) group)
    (groups_of table root shape (keys_of lines))
    (λ group so. ap not (named_among table shape field root lines group (keys_dotless lines) so.0 so.1))
    (each_passing AreDotless (is_group_of table root shape) ([] ∷ flat_map led_through (keys_of lines))
    (tt, all_dotless (keys_of lines) (keys_dotless lines)))))
    )
  where
    unnamed : List ℕ → Bool
    unnamed key = not (is_named (mentions_in table shape field root lines) key)

-- a field that the table has
pub missing_of : (table : Table) (root : ℕ) (field : FieldRef) (found : Field) (lines : List (List ℕ)) → Some found ≡ field_at table field
    → unnamed_keys (mentions_in table field.shape.0 found.name root lines) ≡ missing_keys table root field lines
missing_of table root field found lines is =
    missing_are table field.shape.0 found.name root lines
    ∙ ap (λ (o : Option Field). option_map_or (λ (f : Field). keys_missing table root field.shape.0 f.name (keys_of lines)) o []) is
