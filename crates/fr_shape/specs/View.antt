-- From a `Value` to the plain data that contracts speak of.
use Rattle.std.specs.Prelude.{ℕ, List, [], ◌∷◌, map}
use Rattle.fr_shape.specs.declared.value.Value.{Value, fold-Value}
use Rattle.fr_shape.specs.declared.value.Value.TheOpen.{Value-F}
use Rattle.fr_shape.specs.declared.value.Dyn.{Dyn, fold-Dyn}
use Rattle.fr_shape.specs.declared.value.Dyn.TheOpen.{Dyn-F}
use Rattle.fr_shape.specs.Val.{Val, Vals, Entries, unit, bool, char, int, nat, text, token, product, variant, none, some, ok, err, list_of, map_of, set_of, ptr, dyn, no_vals, first, no_entries, entry}
use Rattle.fr_shape.specs.Val.{Dynamic, Dynamics, Members, dyn_null, dyn_bool, dyn_int, dyn_nat, dyn_text, dyn_bytes, dyn_array, dyn_object, no_dynamics, first_dynamic, no_members, member}

abbrev pub dynamics_of : List Dynamic → Dynamics
dynamics_of [] = no_dynamics
dynamics_of (d ∷ ds) = first_dynamic d (dynamics_of ds)

abbrev pub members_of : List (List ℕ × Dynamic) → Members
members_of [] = no_members
members_of (m ∷ ms) = member m.0 m.1 (members_of ms)

abbrev pub dyn_view_step : Dyn-F Dynamic → Dynamic
dyn_view_step Dyn-F.Null = dyn_null
dyn_view_step (Dyn-F.Bool b) = dyn_bool b
dyn_view_step (Dyn-F.Int z) = dyn_int z
dyn_view_step (Dyn-F.Nat n) = dyn_nat n
dyn_view_step (Dyn-F.Text t) = dyn_text t
dyn_view_step (Dyn-F.Bytes bs) = dyn_bytes bs
dyn_view_step (Dyn-F.Array ds) = dyn_array (dynamics_of ds)
dyn_view_step (Dyn-F.Object ms) = dyn_object (members_of ms)

abbrev pub dyn_view : Dyn → Dynamic
dyn_view = fold-Dyn Dynamic dyn_view_step

abbrev pub vals_of : List Val → Vals
vals_of [] = no_vals
vals_of (v ∷ vs) = first v (vals_of vs)

abbrev pub entries_of : List (Val × Val) → Entries
entries_of [] = no_entries
entries_of (e ∷ es) = entry e.0 e.1 (entries_of es)

abbrev pub view_step : Value-F Val → Val
view_step Value-F.Unit = unit
view_step (Value-F.Bool b) = bool b
view_step (Value-F.Char c) = char c
view_step (Value-F.Int z) = int z
view_step (Value-F.Nat n) = nat n
view_step (Value-F.Text t) = text t
view_step (Value-F.Token t) = token t
view_step (Value-F.Product vs) = product (vals_of vs)
view_step (Value-F.Variant i vs) = variant i (vals_of vs)
view_step Value-F.None = none
view_step (Value-F.Some v) = some v.value
view_step (Value-F.Ok v) = ok v.value
view_step (Value-F.Err v) = err v.value
view_step (Value-F.List vs) = list_of (vals_of vs)
view_step (Value-F.Map es) = map_of (entries_of es)
view_step (Value-F.Set vs) = set_of (vals_of vs)
view_step (Value-F.Ptr v) = ptr v.value
view_step (Value-F.Dyn d) = dyn (dyn_view d)

-- a value as plain data
abbrev pub view : Value → Val
view = fold-Value Val view_step

abbrev pub vals_view : List Value → Vals
vals_view vs = vals_of (map view vs)

abbrev pub entries_view : List (Value × Value) → Entries
entries_view es = entries_of (map (λ e. (view e.0, view e.1)) es)

abbrev pub dynamics_view : List Dyn → Dynamics
dynamics_view ds = dynamics_of (map dyn_view ds)

abbrev pub members_view : List (List ℕ × Dyn) → Members
members_view ms = members_of (map (λ m. (m.0, dyn_view m.1)) ms)

abbrev pub entry_view : Value × Value → Val × Val
entry_view e = (view e.0, view e.1)

abbrev pub member_view : List ℕ × Dyn → List ℕ × Dynamic
member_view m = (m.0, dyn_view m.1)
