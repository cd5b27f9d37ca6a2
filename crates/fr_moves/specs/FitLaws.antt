-- What fits a shape of a table has its shape in the table.
use Rattle.std.proofs.Common.{◌≡◌, ℕ, Bool, true, false, ◌&&◌, [], ◌∷◌, Option, Some, None, slice_get, refl, sym, ◌∙◌}
use Rattle.fr_moves.specs.Common.{Def, HoldsNothingTwice, IsIn, Table, Val, fits, settled, unit}
use Rattle.fr_shape.specs.Fits.{all_fit, entries_fit, takes_map, takes_set}
use Rattle.fr_shape.specs.Same.{keys, none_twice}
use Rattle.fr_shape.specs.Val.{map_of, set_of}
use Rattle.fr_shape.specs.declared.shape.Shape.{Shape}
pub use Rattle.fr_store.specs.TurnedLaws.{is_there}

pub both_true : (a b : Bool) → (a && b) ≡ true → (a ≡ true) × (b ≡ true)
both_true true true h = (refl, refl)
both_true true false h = cc
both_true false b h = cc

settled_none : (table : Table) (id : ℕ) → slice_get table id ≡ None → settled table id ≡ Def.Other
settled_none [] id e = refl
settled_none (shape ∷ shapes) id e = rw e refl

none_fits : (table : Table) (id : ℕ) (v : Val) → settled table id ≡ Def.Other → fits table id v ≡ false
none_fits table id unit e = refl
none_fits table id _ e = rw e refl

pub fits_in : (table : Table) (id : ℕ) (v : Val) → fits table id v ≡ true → IsIn table id
fits_in table id v h = go (slice_get table id) refl
  where
    go : (found : Option Shape) → slice_get table id ≡ found → IsIn table id
    go (Some shape) e = is_there table id e
    go None e =
        let no : false ≡ true = sym (none_fits table id v (settled_none table id e)) ∙ h in
        cc

-- a set that fits has no item twice, and a map no key

set_apart : (def : Def) (each_fits : ℕ → Bool) (apart : Bool) → takes_set def each_fits apart ≡ true → apart ≡ true
set_apart (Def.Set t) each_fits apart h = (both_true (each_fits t.0) apart h).1
set_apart _ each_fits apart h = cc

map_apart : (def : Def) (fits_so : ℕ → ℕ → Bool) (apart : Bool) → takes_map def fits_so apart ≡ true → apart ≡ true
map_apart (Def.Map k v) fits_so apart h = (both_true (fits_so k.0 v.0) apart h).1
map_apart _ fits_so apart h = cc

pub fits_apart : (table : Table) (id : ℕ) (v : Val) → fits table id v ≡ true → HoldsNothingTwice v
fits_apart table id (set_of vs) h = set_apart (settled table id) (λ t. all_fit table t vs) (none_twice vs) h
fits_apart table id (map_of es) h = map_apart (settled table id) (λ k v. entries_fit table k v es) (none_twice (keys es)) h
fits_apart table id _ h = tt
