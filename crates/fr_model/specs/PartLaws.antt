-- The children that a place is begun with hold the tokens of the value that it held: a law with its proof, for the crates above too.
use Rattle.std.proofs.Common.{◌≡◌, refl, arith}
use Rattle.std.specs.Prelude.{IfSome}
use Rattle.fr_shape.specs.Tokens.{vals_occur, entries_occur}
use Rattle.fr_model.specs.Common.{ℕ, None, Val, some, product, list_of, set_of, map_of, dyn, Entries, no_entries, entry, Dynamics, Members, dyn_array, dyn_object, no_dynamics, first_dynamic, no_members, member, occurs}
use Rattle.fr_model.specs.Dynamics.{element_vals, member_vals}
use Rattle.fr_model.specs.Entering.{parts_as}
use Rattle.fr_model.specs.Places.{in_turn}
use Rattle.fr_model.specs.Trackers.{Tracker, as_fields, as_elements, as_content, ContentKind, as_items, ItemsKind, as_entries, EntriesKind}

turns_hold : (es : Entries) (t : ℕ) → vals_occur (in_turn es) t ≡ entries_occur es t
turns_hold no_entries t = refl
turns_hold (entry k v es) t = let rest = turns_hold es t in omega arith

elements_hold : (ds : Dynamics) (t : ℕ) → vals_occur (element_vals ds) t ≡ 0
elements_hold no_dynamics t = refl
elements_hold (first_dynamic d ds) t = let rest = elements_hold ds t in omega arith

members_hold : (ms : Members) (t : ℕ) → vals_occur (member_vals ms) t ≡ 0
members_hold no_members t = refl
members_hold (member key d ms) t = let rest = members_hold ms t in omega arith

pub parts_hold : (tracker : Tracker) (v : Val) (t : ℕ) → IfSome (parts_as tracker v) (λ vs. vals_occur vs t ≡ occurs v t)
parts_hold (as_fields None) (product vs) t = refl
parts_hold as_elements (product vs) t = refl
parts_hold (as_content ContentKind.Some) (some v) t = omega arith
parts_hold (as_items ItemsKind.List) (list_of vs) t = refl
parts_hold (as_items ItemsKind.Set) (set_of vs) t = refl
parts_hold (as_items ItemsKind.Array) (dyn (dyn_array ds)) t = elements_hold ds t
parts_hold (as_entries (EntriesKind.Map base)) (map_of es) t = turns_hold es t
parts_hold (as_entries (EntriesKind.Object keys)) (dyn (dyn_object ms)) t = members_hold ms t
parts_hold _ v t = tt
