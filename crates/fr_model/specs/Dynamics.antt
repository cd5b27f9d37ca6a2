-- The parts of dynamic values: elements of arrays, and entries of objects under their keys.
use Rattle.std.specs.Prelude.{◌&&◌, ◌∷◌}
use Rattle.fr_model.specs.Common.{ℕ, zero, suc, Bool, true, not, List, [], Option, Some, None, option_map_or, bytes_eq, Val, Vals, dyn, no_vals, first, Dynamic, Dynamics, Members, dyn_null, dyn_array, dyn_object, no_dynamics, first_dynamic, no_members, member}

-- What parts make

-- the dynamic value that a value of a dynamic shape is (a placeholder for any other value)
abbrev pub dynamic_in : Val → Dynamic
dynamic_in (dyn d) = d
dynamic_in _ = dyn_null

abbrev pub dynamics_in : Vals → Dynamics
dynamics_in no_vals = no_dynamics
dynamics_in (first v vs) = first_dynamic (dynamic_in v) (dynamics_in vs)

-- each value under its key
abbrev pub members_in : (keys : List (List ℕ)) → Vals → Members
members_in [] vs = no_members
members_in (key ∷ keys) no_vals = no_members
members_in (key ∷ keys) (first v vs) = member key (dynamic_in v) (members_in keys vs)

-- What parts there are

abbrev pub element_vals : Dynamics → Vals
element_vals no_dynamics = no_vals
element_vals (first_dynamic d ds) = first (dyn d) (element_vals ds)

abbrev pub member_vals : Members → Vals
member_vals no_members = no_vals
member_vals (member key d ms) = first (dyn d) (member_vals ms)

abbrev pub member_keys : Members → List (List ℕ)
member_keys no_members = []
member_keys (member key d ms) = key ∷ member_keys ms

abbrev pub elements_in : Dynamic → Option Dynamics
elements_in (dyn_array ds) = Some ds
elements_in _ = None

abbrev pub members_of_object : Dynamic → Option Members
members_of_object (dyn_object ms) = Some ms
members_of_object _ = None

-- the keys of the entries that a dynamic object's value has
abbrev pub object_keys : Val → List (List ℕ)
object_keys v = option_map_or member_keys (members_of_object (dynamic_in v)) []

-- Keys

-- the key of this number (an empty one past the end)
abbrev pub key_nth : List (List ℕ) → ℕ → List ℕ
key_nth [] i = []
key_nth (key ∷ keys) zero = key
key_nth (key ∷ keys) (suc i) = key_nth keys i

abbrev pub lacks : List ℕ → List (List ℕ) → Bool
lacks key [] = true
lacks key (other ∷ keys) = not (bytes_eq key other) && lacks key keys

-- no key stands twice
abbrev pub keys_apart : List (List ℕ) → Bool
keys_apart [] = true
keys_apart (key ∷ keys) = lacks key keys && keys_apart keys
