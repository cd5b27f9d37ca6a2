-- The code of plain values: a plain value is stored as a `Value` that shows it. A struct with a `Model` may
-- then have plain values in what contracts see of it.
use Rattle.std.specs.Prelude.{◌≡◌, ℕ, List, [], ◌∷◌, map}
use Rattle.std.specs.Coded.{Coded, code_by}
use mathlib.Core.Path.{refl, ap, ◌∙◌}
use denote.RawPtr.{null_ptr}
use Rattle.std.specs.declared.alloc.Global.{Global}
use Rattle.std.specs.declared.boxed.Box.{Box}
use Rattle.fr_shape.specs.contracts.value.Value as value
use Rattle.fr_shape.specs.declared.value.Value.{Value, roll-Value, fold-roll-Value}
use Rattle.fr_shape.specs.declared.value.Value.TheOpen.{Value-F}
use Rattle.fr_shape.specs.declared.value.Dyn.{Dyn, roll-Dyn, fold-roll-Dyn}
use Rattle.fr_shape.specs.declared.value.Dyn.TheOpen.{Dyn-F}
use Rattle.fr_shape.specs.Val.{Val, Vals, Entries, unit, bool, char, int, nat, text, token, product, variant, none, some, ok, err, list_of, map_of, set_of, ptr, dyn, no_vals, first, no_entries, entry}
use Rattle.fr_shape.specs.Val.{Dynamic, Dynamics, Members, dyn_null, dyn_bool, dyn_int, dyn_nat, dyn_text, dyn_bytes, dyn_array, dyn_object, no_dynamics, first_dynamic, no_members, member}
use Rattle.fr_shape.specs.View.{view, view_step, vals_view, entries_view, dyn_view, dyn_view_step, dynamics_of, members_of}

-- a value behind a pointer of no meaning
abbrev pub boxed : Value → Box Value Global
boxed v = record { ptr = null_ptr; alloc = record { memory = record { seal = tt } }; value = v }

abbrev mutual
  -- a `Dyn` that shows this
  pub dyn_back : Dynamic → Dyn
  dyn_back dyn_null = roll-Dyn Dyn-F.Null
  dyn_back (dyn_bool b) = roll-Dyn (Dyn-F.Bool b)
  dyn_back (dyn_int z) = roll-Dyn (Dyn-F.Int z)
  dyn_back (dyn_nat n) = roll-Dyn (Dyn-F.Nat n)
  dyn_back (dyn_text t) = roll-Dyn (Dyn-F.Text t)
  dyn_back (dyn_bytes bs) = roll-Dyn (Dyn-F.Bytes bs)
  dyn_back (dyn_array ds) = roll-Dyn (Dyn-F.Array (dynamics_back ds))
  dyn_back (dyn_object ms) = roll-Dyn (Dyn-F.Object (members_back ms))

  pub dynamics_back : Dynamics → List Dyn
  dynamics_back no_dynamics = []
  dynamics_back (first_dynamic d ds) = dyn_back d ∷ dynamics_back ds

  pub members_back : Members → List (List ℕ × Dyn)
  members_back no_members = []
  members_back (member k d ms) = (k, dyn_back d) ∷ members_back ms

abbrev mutual
  -- a `Value` that shows this
  pub back : Val → Value
  back unit = roll-Value Value-F.Unit
  back (bool b) = roll-Value (Value-F.Bool b)
  back (char c) = roll-Value (Value-F.Char c)
  back (int z) = roll-Value (Value-F.Int z)
  back (nat n) = roll-Value (Value-F.Nat n)
  back (text t) = roll-Value (Value-F.Text t)
  back (token t) = roll-Value (Value-F.Token t)
  back (product vs) = roll-Value (Value-F.Product (vals_back vs))
  back (variant i vs) = roll-Value (Value-F.Variant i (vals_back vs))
  back none = roll-Value Value-F.None
  back (some v) = roll-Value (Value-F.Some (boxed (back v)))
  back (ok v) = roll-Value (Value-F.Ok (boxed (back v)))
  back (err v) = roll-Value (Value-F.Err (boxed (back v)))
  back (list_of vs) = roll-Value (Value-F.List (vals_back vs))
  back (map_of es) = roll-Value (Value-F.Map (entries_back es))
  back (set_of vs) = roll-Value (Value-F.Set (vals_back vs))
  back (ptr v) = roll-Value (Value-F.Ptr (boxed (back v)))
  back (dyn d) = roll-Value (Value-F.Dyn (dyn_back d))

  pub vals_back : Vals → List Value
  vals_back no_vals = []
  vals_back (first v vs) = back v ∷ vals_back vs

  pub entries_back : Entries → List (Value × Value)
  entries_back no_entries = []
  entries_back (entry k v es) = (back k, back v) ∷ entries_back es

abbrev mutual
  pub dyn_comes_back : (d : Dynamic) → dyn_view (dyn_back d) ≡ d
  dyn_comes_back dyn_null = fold-roll-Dyn Dynamic dyn_view_step Dyn-F.Null
  dyn_comes_back (dyn_bool b) = fold-roll-Dyn Dynamic dyn_view_step (Dyn-F.Bool b)
  dyn_comes_back (dyn_int z) = fold-roll-Dyn Dynamic dyn_view_step (Dyn-F.Int z)
  dyn_comes_back (dyn_nat n) = fold-roll-Dyn Dynamic dyn_view_step (Dyn-F.Nat n)
  dyn_comes_back (dyn_text t) = fold-roll-Dyn Dynamic dyn_view_step (Dyn-F.Text t)
  dyn_comes_back (dyn_bytes bs) = fold-roll-Dyn Dynamic dyn_view_step (Dyn-F.Bytes bs)
  dyn_comes_back (dyn_array ds) =
      fold-roll-Dyn Dynamic dyn_view_step (Dyn-F.Array (dynamics_back ds)) ∙ ap dyn_array (dynamics_come_back ds)
  dyn_comes_back (dyn_object ms) =
      fold-roll-Dyn Dynamic dyn_view_step (Dyn-F.Object (members_back ms)) ∙ ap dyn_object (members_come_back ms)

  pub dynamics_come_back : (ds : Dynamics) → dynamics_of (map dyn_view (dynamics_back ds)) ≡ ds
  dynamics_come_back no_dynamics = refl
  dynamics_come_back (first_dynamic d ds) =
      ap (λ e. first_dynamic e (dynamics_of (map dyn_view (dynamics_back ds)))) (dyn_comes_back d)
      ∙ ap (first_dynamic d) (dynamics_come_back ds)

  pub members_come_back : (ms : Members) → members_of (map (λ m. (m.0, dyn_view m.1)) (members_back ms)) ≡ ms
  members_come_back no_members = refl
  members_come_back (member k d ms) =
      ap (λ e. member k e (members_of (map (λ m. (m.0, dyn_view m.1)) (members_back ms)))) (dyn_comes_back d)
      ∙ ap (member k d) (members_come_back ms)

abbrev mutual
  pub comes_back : (v : Val) → view (back v) ≡ v
  comes_back unit = fold-roll-Value Val view_step Value-F.Unit
  comes_back (bool b) = fold-roll-Value Val view_step (Value-F.Bool b)
  comes_back (char c) = fold-roll-Value Val view_step (Value-F.Char c)
  comes_back (int z) = fold-roll-Value Val view_step (Value-F.Int z)
  comes_back (nat n) = fold-roll-Value Val view_step (Value-F.Nat n)
  comes_back (text t) = fold-roll-Value Val view_step (Value-F.Text t)
  comes_back (token t) = fold-roll-Value Val view_step (Value-F.Token t)
  comes_back (product vs) =
      fold-roll-Value Val view_step (Value-F.Product (vals_back vs)) ∙ ap product (vals_come_back vs)
  comes_back (variant i vs) =
      fold-roll-Value Val view_step (Value-F.Variant i (vals_back vs)) ∙ ap (variant i) (vals_come_back vs)
  comes_back none = fold-roll-Value Val view_step Value-F.None
  comes_back (some v) = fold-roll-Value Val view_step (Value-F.Some (boxed (back v))) ∙ ap some (comes_back v)
  comes_back (ok v) = fold-roll-Value Val view_step (Value-F.Ok (boxed (back v))) ∙ ap ok (comes_back v)
  comes_back (err v) = fold-roll-Value Val view_step (Value-F.Err (boxed (back v))) ∙ ap err (comes_back v)
  comes_back (list_of vs) =
      fold-roll-Value Val view_step (Value-F.List (vals_back vs)) ∙ ap list_of (vals_come_back vs)
  comes_back (map_of es) =
      fold-roll-Value Val view_step (Value-F.Map (entries_back es)) ∙ ap map_of (entries_come_back es)
  comes_back (set_of vs) = fold-roll-Value Val view_step (Value-F.Set (vals_back vs)) ∙ ap set_of (vals_come_back vs)
  comes_back (ptr v) = fold-roll-Value Val view_step (Value-F.Ptr (boxed (back v))) ∙ ap ptr (comes_back v)
  comes_back (dyn d) = fold-roll-Value Val view_step (Value-F.Dyn (dyn_back d)) ∙ ap dyn (dyn_comes_back d)

  pub vals_come_back : (vs : Vals) → vals_view (vals_back vs) ≡ vs
  vals_come_back no_vals = refl
  vals_come_back (first v vs) =
      ap (λ w. first w (vals_view (vals_back vs))) (comes_back v) ∙ ap (first v) (vals_come_back vs)

  pub entries_come_back : (es : Entries) → entries_view (entries_back es) ≡ es
  entries_come_back no_entries = refl
  entries_come_back (entry k v es) =
      ap (λ l. entry l (view (back v)) (entries_view (entries_back es))) (comes_back k)
      ∙ ap (λ w. entry k w (entries_view (entries_back es))) (comes_back v) ∙ ap (entry k v) (entries_come_back es)

-- a plain value, stored as a `Value` that shows it
abbrev pub val_code : Coded Val
val_code = code_by Value value.the_row.coded back view comes_back
