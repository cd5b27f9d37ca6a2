-- What contracts see of a value, variant by variant, for proofs.
use Rattle.std.specs.Prelude.{◌≡◌, ℕ, ℤ, Bool, List}
use Rattle.std.specs.declared.alloc.Global.{Global}
use Rattle.std.specs.declared.boxed.Box.{Box}
use mathlib.Core.Path.{ap, sym, ◌∙◌}
use Rattle.fr_shape.specs.declared.value.Value
use Rattle.fr_shape.specs.declared.value.Value.{Value, fold-roll-Value}
use Rattle.fr_shape.specs.declared.value.Value.TheVariants.{rolls-Unit, rolls-Bool, rolls-Char, rolls-Int, rolls-Nat, rolls-Text, rolls-Token, rolls-Product, rolls-Variant, rolls-None, rolls-Some, rolls-Ok, rolls-Err, rolls-List, rolls-Map, rolls-Set, rolls-Ptr, rolls-Dyn}
use Rattle.fr_shape.specs.declared.value.Value.TheOpen.{Value-F}
use Rattle.fr_shape.specs.declared.value.Dyn
use Rattle.fr_shape.specs.declared.value.Dyn.{Dyn, fold-roll-Dyn}
use Rattle.fr_shape.specs.declared.value.Dyn.TheVariants.{rolls-Null as rolls-dyn-Null, rolls-Bool as rolls-dyn-Bool, rolls-Int as rolls-dyn-Int, rolls-Nat as rolls-dyn-Nat, rolls-Text as rolls-dyn-Text, rolls-Bytes as rolls-dyn-Bytes, rolls-Array as rolls-dyn-Array, rolls-Object as rolls-dyn-Object}
use Rattle.fr_shape.specs.declared.value.Dyn.TheOpen.{Dyn-F}
use Rattle.fr_shape.specs.Val.{Val, unit, bool, char, int, nat, text, token, product, variant, none, some, ok, err, list_of, map_of, set_of, ptr, dyn, Dynamic, dyn_null, dyn_bool, dyn_int, dyn_nat, dyn_text, dyn_bytes, dyn_array, dyn_object}
use Rattle.fr_shape.specs.View.{view, view_step, vals_view, entries_view, dyn_view, dyn_view_step, dynamics_view, members_view}

pub view_unit : view Value.Unit ≡ unit
view_unit = ap view (sym rolls-Unit) ∙ fold-roll-Value Val view_step Value-F.Unit

pub view_bool : (b : Bool) → view (Value.Bool b) ≡ bool b
view_bool b = ap view (sym (rolls-Bool b)) ∙ fold-roll-Value Val view_step (Value-F.Bool b)

pub view_char : (c : ℕ) → view (Value.Char c) ≡ char c
view_char c = ap view (sym (rolls-Char c)) ∙ fold-roll-Value Val view_step (Value-F.Char c)

pub view_int : (z : ℤ) → view (Value.Int z) ≡ int z
view_int z = ap view (sym (rolls-Int z)) ∙ fold-roll-Value Val view_step (Value-F.Int z)

pub view_nat : (n : ℕ) → view (Value.Nat n) ≡ nat n
view_nat n = ap view (sym (rolls-Nat n)) ∙ fold-roll-Value Val view_step (Value-F.Nat n)

pub view_text : (bytes : List ℕ) → view (Value.Text bytes) ≡ text bytes
view_text bytes = ap view (sym (rolls-Text bytes)) ∙ fold-roll-Value Val view_step (Value-F.Text bytes)

pub view_token : (t : ℕ) → view (Value.Token t) ≡ token t
view_token t = ap view (sym (rolls-Token t)) ∙ fold-roll-Value Val view_step (Value-F.Token t)

pub view_product : (values : List Value) → view (Value.Product values) ≡ product (vals_view values)
view_product values = ap view (sym (rolls-Product values)) ∙ fold-roll-Value Val view_step (Value-F.Product values)

pub view_variant : (number : ℕ) (values : List Value) → view (Value.Variant number values) ≡ variant number (vals_view values)
view_variant number values =
    ap view (sym (rolls-Variant number values)) ∙ fold-roll-Value Val view_step (Value-F.Variant number values)

pub view_none : view Value.None ≡ none
view_none = ap view (sym rolls-None) ∙ fold-roll-Value Val view_step Value-F.None

pub view_some : (inner : Box Value Global) → view (Value.Some inner) ≡ some (view inner.value)
view_some inner = ap view (sym (rolls-Some inner)) ∙ fold-roll-Value Val view_step (Value-F.Some inner)

pub view_ok : (inner : Box Value Global) → view (Value.Ok inner) ≡ ok (view inner.value)
view_ok inner = ap view (sym (rolls-Ok inner)) ∙ fold-roll-Value Val view_step (Value-F.Ok inner)

pub view_err : (inner : Box Value Global) → view (Value.Err inner) ≡ err (view inner.value)
view_err inner = ap view (sym (rolls-Err inner)) ∙ fold-roll-Value Val view_step (Value-F.Err inner)

pub view_list : (values : List Value) → view (Value.List values) ≡ list_of (vals_view values)
view_list values = ap view (sym (rolls-List values)) ∙ fold-roll-Value Val view_step (Value-F.List values)

pub view_map : (entries : List (Value × Value)) → view (Value.Map entries) ≡ map_of (entries_view entries)
view_map entries = ap view (sym (rolls-Map entries)) ∙ fold-roll-Value Val view_step (Value-F.Map entries)

pub view_set : (values : List Value) → view (Value.Set values) ≡ set_of (vals_view values)
view_set values = ap view (sym (rolls-Set values)) ∙ fold-roll-Value Val view_step (Value-F.Set values)

pub view_ptr : (inner : Box Value Global) → view (Value.Ptr inner) ≡ ptr (view inner.value)
view_ptr inner = ap view (sym (rolls-Ptr inner)) ∙ fold-roll-Value Val view_step (Value-F.Ptr inner)

pub view_dyn : (d : Dyn) → view (Value.Dyn d) ≡ dyn (dyn_view d)
view_dyn d = ap view (sym (rolls-Dyn d)) ∙ fold-roll-Value Val view_step (Value-F.Dyn d)

-- and of what a dynamic shape's value holds

pub dyn_view_null : dyn_view Dyn.Null ≡ dyn_null
dyn_view_null = ap dyn_view (sym rolls-dyn-Null) ∙ fold-roll-Dyn Dynamic dyn_view_step Dyn-F.Null

pub dyn_view_bool : (b : Bool) → dyn_view (Dyn.Bool b) ≡ dyn_bool b
dyn_view_bool b = ap dyn_view (sym (rolls-dyn-Bool b)) ∙ fold-roll-Dyn Dynamic dyn_view_step (Dyn-F.Bool b)

pub dyn_view_int : (z : ℤ) → dyn_view (Dyn.Int z) ≡ dyn_int z
dyn_view_int z = ap dyn_view (sym (rolls-dyn-Int z)) ∙ fold-roll-Dyn Dynamic dyn_view_step (Dyn-F.Int z)

pub dyn_view_nat : (n : ℕ) → dyn_view (Dyn.Nat n) ≡ dyn_nat n
dyn_view_nat n = ap dyn_view (sym (rolls-dyn-Nat n)) ∙ fold-roll-Dyn Dynamic dyn_view_step (Dyn-F.Nat n)

pub dyn_view_text : (bytes : List ℕ) → dyn_view (Dyn.Text bytes) ≡ dyn_text bytes
dyn_view_text bytes = ap dyn_view (sym (rolls-dyn-Text bytes)) ∙ fold-roll-Dyn Dynamic dyn_view_step (Dyn-F.Text bytes)

pub dyn_view_bytes : (bytes : List ℕ) → dyn_view (Dyn.Bytes bytes) ≡ dyn_bytes bytes
dyn_view_bytes bytes = ap dyn_view (sym (rolls-dyn-Bytes bytes)) ∙ fold-roll-Dyn Dynamic dyn_view_step (Dyn-F.Bytes bytes)

pub dyn_view_array : (items : List Dyn) → dyn_view (Dyn.Array items) ≡ dyn_array (dynamics_view items)
dyn_view_array items = ap dyn_view (sym (rolls-dyn-Array items)) ∙ fold-roll-Dyn Dynamic dyn_view_step (Dyn-F.Array items)

pub dyn_view_object : (members : List (List ℕ × Dyn)) → dyn_view (Dyn.Object members) ≡ dyn_object (members_view members)
dyn_view_object members = ap dyn_view (sym (rolls-dyn-Object members)) ∙ fold-roll-Dyn Dynamic dyn_view_step (Dyn-F.Object members)
