-- At which place each of a list of keys stands among the distinct ones of them.
use Rattle.std.specs.Prelude.{◌≡◌, ℕ, Bool, cond, if◌then◌else◌, List, [], ◌∷◌, ◌++◌, length, map, Option, Some, None, option_map, zero, suc, unwrap_or}
use Rattle.std.specs.BTreeMap.{BTreeMap, get}
use Rattle.std.specs.BTreeSet.{BTreeSet, contains}
use Rattle.std.specs.List.{list_any}
use Rattle.fr_shape.specs.Compare.{compare}
use Rattle.fr_shape.specs.Val.{Val, Vals, Entries, no_vals, first, no_entries, entry}
use Rattle.fr_shape.specs.Same.{same}
use Rattle.fr_shape.specs.View.{view}
use Rattle.fr_shape.specs.declared.value.Value.{Value}
use Rattle.fr_model.specs.Gathering.{with_item_in, with_entry_in}
use Rattle.fr_shape.specs.declared.contents.ByContents.{ByContents}
use Rattle.fr_values.specs.EntryParts.{parts_of_entries}
use Rattle.fr_values.specs.declared.key_places.KeyedParts.{KeyedParts}
use Rattle.fr_values.specs.declared.key_places.KeyedParts.TheVariants.{Items, Entries as InTurn}

-- the place of the first of these that equals a key
abbrev pub place : {K : Type 0} → (eq : K → K → Bool) → List K → K → Option ℕ
place eq [] q = None
place eq (k ∷ ks) q = cond (eq k q) (Some 0) (option_map suc (place eq ks q))

-- a key comes behind these, unless it equals one of them
abbrev pub with_new_key : {K : Type 0} → (eq : K → K → Bool) → List K → K → List K
with_new_key eq [] q = q ∷ []
with_new_key eq (k ∷ ks) q = cond (eq k q) (k ∷ ks) (k ∷ with_new_key eq ks q)

-- keys come one after the other: the place of each when it has come
abbrev pub places_of : {K : Type 0} → (eq : K → K → Bool) → (there : List K) → List K → List ℕ
places_of eq there [] = []
places_of eq there (k ∷ ks) = unwrap_or (place eq there k) (length there) ∷ places_of eq (with_new_key eq there k) ks

-- the place of the first of some values that is `same` as a value, or how many they are
abbrev pub item_place : Vals → Val → ℕ
item_place no_vals v = 0
item_place (first u there) v = cond (same u v) 0 (suc (item_place there v))

-- the places of items, and of the keys of entries, as they come one after the other
abbrev pub item_places : (there : Vals) → Vals → List ℕ
item_places there no_vals = []
item_places there (first v vs) = item_place there v ∷ item_places (with_item_in there v) vs

abbrev pub entry_place : Entries → Val → ℕ
entry_place no_entries k = 0
entry_place (entry l w there) k = cond (same l k) 0 (suc (entry_place there k))

abbrev pub entry_places : (there : Entries) → Vals → List ℕ
entry_places there no_vals = []
entry_places there (first k no_vals) = []
entry_places there (first k (first v vs)) = entry_place there k ∷ entry_places (with_entry_in there k v) vs

-- the keys of entries whose parts come in turn (a last part that has no value is no key)
abbrev pub turn_keys : List Value → List Val
turn_keys [] = []
turn_keys (k ∷ []) = []
turn_keys (k ∷ (v ∷ parts)) = view k ∷ turn_keys parts

-- the keys among these values
abbrev pub keys_among : KeyedParts → List Val
keys_among (Items items) = map view items.now
keys_among (InTurn entries parts) = turn_keys (parts_of_entries entries.now ++ parts.now)

-- the set has these keys, and no others
abbrev pub HasKeys : BTreeSet ByContents → List Val → Type 0
HasKeys set keys = (q : ByContents) → contains (λ a b. compare (view a.0.now) (view b.0.now)) set q ≡ list_any (same (view q.0.now)) keys

-- the place that a map has of a key
abbrev pub place_known : BTreeMap ByContents ℕ → ByContents → Option ℕ
place_known known q = get (λ a b. compare (view a.0.now) (view b.0.now)) known q

-- of each of the new keys, and of no other, the map has the place among those that are there, where it has one
abbrev pub Knows : BTreeMap ByContents ℕ → (new there : List Val) → Type 0
Knows known new there = (q : ByContents) → place_known known q ≡ (if list_any (same (view q.0.now)) new then place same there (view q.0.now) else None)

-- the keys of the first so many entries, whose parts come in turn
abbrev pub first_keys : ℕ → Vals → Vals
first_keys zero vs = no_vals
first_keys (suc n) no_vals = no_vals
first_keys (suc n) (first k no_vals) = no_vals
first_keys (suc n) (first k (first v vs)) = first k (first_keys n vs)
