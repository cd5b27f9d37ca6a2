-- The places of the keys of entries and of items, as they come one after the other.
use Rattle.std.proofs.Common.{◌≡◌, ℕ, zero, suc, ◌+◌, ◌*◌, ◌/◌, ◌<◌, Bool, true, false, ◌||◌, cond, List, [], ◌∷◌, ◌++◌, length, map, take, drop, get_or, Option, Some, None, unwrap_or, refl, sym, ap, ◌∙◌, arith}
use Rattle.std.specs.Prelude.{option_map, slice_get}
use Rattle.std.proofs.Math.Seq.{take-append_seam, drop-append_seam}
use Rattle.std.proofs.lemmas.List.{take-append-drop, take-map, drop-map}
use Rattle.fr_values.specs.Common.{Entries, Val, Vals, Value, both, entries_in, entries_occur, entries_view, entry, entry_place, entry_places, first, first_keys, is_there, item_place, item_places, items_in, keys, no_entries, no_vals, none_twice, parts_of_entries, place, places_of, same, turn_keys, vals_occur, vals_view, view, with_entry_in, with_item_in, with_new_key}
use Rattle.fr_shape.specs.View.{vals_of}
use Rattle.fr_model.specs.Gathering.{and_last_val}
use Rattle.fr_model.specs.GatheringLaws.{DistinctEntriesStay, DistinctItemsStay}
use Rattle.fr_model.specs.Places.{in_turn}

-- Keys among values

-- how many keys stand among the parts of entries
pub turn_count : (parts : List Value) → length (turn_keys parts) ≡ length parts / 2
turn_count [] = refl
turn_count (k ∷ []) = refl
turn_count (k ∷ (v ∷ parts)) = omega (arith, turn_count parts)

-- which of them a key is
pub turn_at : (parts : List Value) (n m : ℕ) (k : Value) → m ≡ 2 * n → m + 1 < length parts → k ≡ get_or parts m k → slice_get (turn_keys parts) n ≡ Some (view k)
turn_at [] n m k two within is = absurd (omega (arith, within))
turn_at (l ∷ []) n m k two within is = absurd (omega (arith, within))
turn_at (l ∷ (v ∷ parts)) zero zero k two within is = ap (λ x. Some (view x)) (sym is)
turn_at (l ∷ (v ∷ parts)) (suc n) zero k two within is = absurd (omega (arith, two))
turn_at (l ∷ (v ∷ parts)) zero (suc m) k two within is = absurd (omega (arith, two))
turn_at (l ∷ (v ∷ parts)) (suc n) (suc zero) k two within is = absurd (omega (arith, two))
turn_at (l ∷ (v ∷ parts)) (suc n) (suc (suc m)) k two within is = turn_at parts n m k (omega (arith, two)) (omega (arith, within)) is

-- the same of entries, and of the parts of more behind them
pub both_keys : (es : List (Value × Value)) (parts : List Value) → length (turn_keys (parts_of_entries es ++ parts)) ≡ length es + length parts / 2
both_keys [] parts = omega (arith, turn_count parts)
both_keys (e ∷ es) parts = omega (arith, both_keys es parts)

pub turn_in : (es : List (Value × Value)) (parts : List Value) (n : ℕ) (e : Value × Value) → n < length es → e ≡ get_or es n e
    → slice_get (turn_keys (parts_of_entries es ++ parts)) n ≡ Some (view e.0)
turn_in [] parts n e within is = absurd (omega (arith, within))
turn_in (d ∷ es) parts zero e within is = ap (λ (x : Value × Value). Some (view x.0)) (sym is)
turn_in (d ∷ es) parts (suc n) e within is = turn_in es parts n e (omega (arith, within)) is

-- a place, or how many there are where there is none
or_count : (b : Bool) (o : Option ℕ) (n : ℕ) → unwrap_or (cond b (Some 0) (option_map suc o)) (suc n) ≡ cond b 0 (suc (unwrap_or o n))
or_count true o n = refl
or_count false None n = refl
or_count false (Some m) n = refl

-- Items

items_at : (there : List Val) (v : Val) → unwrap_or (place same there v) (length there) ≡ item_place (vals_of there) v
items_at [] v = refl
items_at (u ∷ there) v = or_count (same u v) (place same there v) (length there) ∙ ap (λ n. cond (same u v) 0 (suc n)) (items_at there v)

with_item_first : (u v : Val) (there : Vals) → with_item_in (first u there) v ≡ cond (same u v) (first u there) (first u (with_item_in there v))
with_item_first u v there = by (same u v) (is_there v there)
  where
    by : (a b : Bool) → cond (a || b) (first u there) (first u (and_last_val there v)) ≡ cond a (first u there) (first u (cond b there (and_last_val there v)))
    by true b = refl
    by false true = refl
    by false false = refl

items_with : (there : List Val) (v : Val) → vals_of (with_new_key same there v) ≡ with_item_in (vals_of there) v
items_with [] v = refl
items_with (u ∷ there) v = by (same u v) (items_with there v) ∙ sym (with_item_first u v (vals_of there))
  where
    by : (b : Bool) → vals_of (with_new_key same there v) ≡ with_item_in (vals_of there) v → vals_of (cond b (u ∷ there) (u ∷ with_new_key same there v)) ≡ cond b (first u (vals_of there)) (first u (with_item_in (vals_of there) v))
    by true e = refl
    by false e = ap (first u) e

pub items_placed : (there vs : List Val) → places_of same there vs ≡ item_places (vals_of there) (vals_of vs)
items_placed there [] = refl
items_placed there (v ∷ vs) =
    (λ j. items_at there v j ∷ items_placed (with_new_key same there v) vs j)
    ∙ ap (λ l. item_place (vals_of there) v ∷ item_places l (vals_of vs)) (items_with there v)

-- Entries

-- the keys of entries
abbrev pub keys_list : Entries → List Val
keys_list no_entries = []
keys_list (entry k v es) = k ∷ keys_list es

entries_at : (there : Entries) (k : Val) → unwrap_or (place same (keys_list there) k) (length (keys_list there)) ≡ entry_place there k
entries_at no_entries k = refl
entries_at (entry l w there) k =
    or_count (same l k) (place same (keys_list there) k) (length (keys_list there))
    ∙ ap (λ n. cond (same l k) 0 (suc n)) (entries_at there k)

entries_with : (there : Entries) (k v : Val) → with_new_key same (keys_list there) k ≡ keys_list (with_entry_in there k v)
entries_with no_entries k v = refl
entries_with (entry l w there) k v = by (same l k) (entries_with there k v)
  where
    by : (b : Bool) → with_new_key same (keys_list there) k ≡ keys_list (with_entry_in there k v) → cond b (l ∷ keys_list there) (l ∷ with_new_key same (keys_list there) k) ≡ keys_list (cond b (entry l v there) (entry l w (with_entry_in there k v)))
    by true e = refl
    by false e = ap (λ ks. l ∷ ks) e

pub entries_placed : (there : Entries) (parts : List Value) → places_of same (keys_list there) (turn_keys parts) ≡ entry_places there (vals_view parts)
entries_placed there [] = refl
entries_placed there (k ∷ []) = refl
entries_placed there (k ∷ (v ∷ parts)) =
    (λ j. entries_at there (view k) j ∷ places_of same (entries_with there (view k) (view v) j) (turn_keys parts))
    ∙ ap (λ l. entry_place there (view k) ∷ l) (entries_placed (with_entry_in there (view k) (view v)) parts)

-- The parts of entries, and others behind them

turns_split : (es : List (Value × Value)) (rest : List Value) → turn_keys (parts_of_entries es ++ rest) ≡ keys_list (entries_view es) ++ turn_keys rest
turns_split [] rest = refl
turns_split (e ∷ es) rest = ap (λ ks. view e.0 ∷ ks) (turns_split es rest)

count_split : (es : List (Value × Value)) → length (keys_list (entries_view es)) ≡ length es
count_split [] = refl
count_split (e ∷ es) = ap suc (count_split es)

first_split : (es : List (Value × Value)) (rest : List Value) → first_keys (length es) (vals_view (parts_of_entries es ++ rest)) ≡ keys (entries_view es)
first_split [] rest = refl
first_split (e ∷ es) rest = ap (first (view e.0)) (first_split es rest)

entries_split : (there : Entries) (es : List (Value × Value)) (rest : List Value) → entries_in there (vals_view (parts_of_entries es ++ rest)) ≡ entries_in (entries_in there (in_turn (entries_view es))) (vals_view rest)
entries_split there [] rest = refl
entries_split there (e ∷ es) rest = entries_split (with_entry_in there (view e.0) (view e.1)) es rest

occur_split : (es : List (Value × Value)) (rest : List Value) (t : ℕ) → vals_occur (vals_view (parts_of_entries es ++ rest)) t ≡ entries_occur (entries_view es) t + vals_occur (vals_view rest) t
occur_split [] rest t = omega arith
occur_split (e ∷ es) rest t = omega (arith, occur_split es rest t)

-- two more parts are one more entry
pub parts_more : (es : List (Value × Value)) (k v : Value) (rest : List Value) → parts_of_entries (es ++ (k, v) ∷ []) ++ rest ≡ parts_of_entries es ++ k ∷ (v ∷ rest)
parts_more [] k v rest = refl
parts_more (e ∷ es) k v rest = ap (λ l. e.0 ∷ (e.1 ∷ l)) (parts_more es k v rest)

module _ (parts : List Value) (es : List (Value × Value)) (rest : List Value) (are : parts ≡ parts_of_entries es ++ rest) where
  pub entries_held : vals_occur (vals_view parts) ≡ both (entries_occur (entries_view es)) (vals_occur (vals_view rest))
  entries_held = ap (λ l. vals_occur (vals_view l)) are ∙ (λ j t. occur_split es rest t j)

  -- the places of the others' keys
  pub entries_behind : (base : ℕ) → length es ≡ base → places_of same (take base (turn_keys parts)) (drop base (turn_keys parts)) ≡ entry_places (entries_view es) (vals_view rest)
  entries_behind base count =
      let there = keys_list (entries_view es) in
      let long : base ≡ length there = sym (count_split es ∙ count) in
      let all : turn_keys parts ≡ there ++ turn_keys rest = ap turn_keys are ∙ turns_split es rest in
      (λ j. places_of same (take (long j) (all j)) (drop (long j) (all j)))
      ∙ (λ j. places_of same (take-append_seam there (turn_keys rest) j) (drop-append_seam there (turn_keys rest) j))
      ∙ entries_placed (entries_view es) rest

  -- entries with distinct keys make themselves
  pub entries_joined : (base : ℕ) → length es ≡ base → none_twice (first_keys base (vals_view parts)) ≡ true → DistinctEntriesStay → entries_in (entries_view es) (vals_view rest) ≡ entries_in no_entries (vals_view parts)
  entries_joined base count apart stay =
      let once : none_twice (keys (entries_view es)) ≡ true =
      ap none_twice (sym (first_split es rest) ∙ (λ j. first_keys (count j) (vals_view (sym are j)))) ∙ apart in
      ap (λ there. entries_in there (vals_view rest)) (sym (stay (entries_view es) once))
      ∙ sym (entries_split no_entries es rest) ∙ ap (λ l. entries_in no_entries (vals_view l)) (sym are)

-- Items, and others behind them

items_split : (there : Vals) (us vs : List Value) → items_in there (vals_view (us ++ vs)) ≡ items_in (items_in there (vals_view us)) (vals_view vs)
items_split there [] vs = refl
items_split there (u ∷ us) vs = items_split (with_item_in there (view u)) us vs

items_occur : (us vs : List Value) (t : ℕ) → vals_occur (vals_view (us ++ vs)) t ≡ vals_occur (vals_view us) t + vals_occur (vals_view vs) t
items_occur [] vs t = omega arith
items_occur (u ∷ us) vs t = omega (arith, items_occur us vs t)

module _ (items : List Value) (base : ℕ) where
  pub items_held : vals_occur (vals_view items) ≡ both (vals_occur (vals_view (take base items))) (vals_occur (vals_view (drop base items)))
  items_held =
      ap (λ l. vals_occur (vals_view l)) (sym (take-append-drop base items)) ∙ (λ j t. items_occur (take base items) (drop base items) t j)

  -- the places of the others
  pub items_behind : places_of same (take base (map view items)) (drop base (map view items)) ≡ item_places (vals_view (take base items)) (vals_view (drop base items))
  items_behind =
      (λ j. places_of same (take-map view base items j) (drop-map view base items j))
      ∙ items_placed (map view (take base items)) (map view (drop base items))

  -- distinct items make themselves
  pub items_joined : none_twice (vals_view (take base items)) ≡ true → DistinctItemsStay → items_in (vals_view (take base items)) (vals_view (drop base items)) ≡ items_in no_vals (vals_view items)
  items_joined apart stay =
      ap (λ there. items_in there (vals_view (drop base items))) (sym (stay (vals_view (take base items)) apart))
      ∙ sym (items_split no_vals (take base items) (drop base items))
      ∙ ap (λ l. items_in no_vals (vals_view l)) (take-append-drop base items)
