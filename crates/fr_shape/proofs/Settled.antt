-- One step along a chain of wrappers.
use Rattle.std.proofs.Common.{◌≡◌, false, refl, ℕ, suc, ◌+◌, ◌-◌, ◌<◌, List, [], ◌∷◌, length, slice_get, ap, arith}
use Rattle.fr_shape.specs.declared.shape.Def.{Def}
use Rattle.fr_shape.specs.Val.{Val, unit, bool, char, int, nat, text, token, product, variant, none, some, ok, err, list_of, map_of, set_of, ptr, dyn}
use Rattle.fr_shape.specs.Look.{Table, settled, shape_behind, settled_shape_in}
use Rattle.fr_shape.specs.Fits.{fits, count_vals}
use Rattle.fr_shape.specs.View.{vals_view}
use Rattle.fr_shape.specs.declared.value.Value.{Value}

pub settled_shape_more : (table : Table) (n i id : ℕ) → i < n
    → settled_shape_in table (n - i) id ≡ shape_behind (slice_get table id) (λ wrapped. settled_shape_in table (n - (i + 1)) wrapped)
settled_shape_more table n i id h =
    let e : n - i ≡ suc (n - (i + 1)) = omega arith in
    ap (λ (k : ℕ). settled_shape_in table k id) e

-- a shape that stands for nothing takes no value
pub other_fits : (table : Table) (id : ℕ) (v : Val) → settled table id ≡ Def.Other → false ≡ fits table id v
other_fits table id unit e = refl
other_fits table id (bool b) e = rw e refl
other_fits table id (char c) e = rw e refl
other_fits table id (int z) e = rw e refl
other_fits table id (nat n) e = rw e refl
other_fits table id (text t) e = rw e refl
other_fits table id (token t) e = rw e refl
other_fits table id (product vs) e = rw e refl
other_fits table id (variant i vs) e = rw e refl
other_fits table id none e = rw e refl
other_fits table id (some v) e = rw e refl
other_fits table id (ok v) e = rw e refl
other_fits table id (err v) e = rw e refl
other_fits table id (list_of vs) e = rw e refl
other_fits table id (map_of es) e = rw e refl
other_fits table id (set_of vs) e = rw e refl
other_fits table id (ptr v) e = rw e refl
other_fits table id (dyn d) e = rw e refl

pub count_length : (vs : List Value) → count_vals (vals_view vs) ≡ length vs
count_length [] = refl
count_length (v ∷ vs) = ap suc (count_length vs)
