-- Lists of different lengths are not `same`.
use Rattle.std.proofs.Common.{◌≡◌, ◌≢◌, ℕ, Bool, true, false, ◌&&◌, List, [], ◌∷◌, length, refl, arith}
use Rattle.std.specs.Str.{bytes_eq}
use Rattle.fr_shape.specs.declared.value.Value.{Value}
use Rattle.fr_shape.specs.declared.value.Dyn.{Dyn}
use Rattle.fr_shape.specs.declared.shape.Field.{Field}
use Rattle.fr_shape.specs.Look.{Table}
use Rattle.fr_shape.specs.Fits.{fits, fields_fit}
use Rattle.fr_shape.specs.View.{view, vals_view, entries_view, dyn_view, dynamics_view, members_view}
use Rattle.fr_shape.specs.Same.{same, all_same, entries_same, same_dynamic, same_dynamics, same_members}

and_false : (a b : Bool) → false ≡ b → false ≡ a && b
and_false true b e = e
and_false false b e = refl

pub vals_apart : (xs ys : List Value) → length xs ≢ length ys → false ≡ all_same (vals_view xs) (vals_view ys)
vals_apart [] [] apart = absurd (apart refl)
vals_apart [] (y ∷ ys) apart = refl
vals_apart (x ∷ xs) [] apart = refl
vals_apart (x ∷ xs) (y ∷ ys) apart =
    and_false (same (view x) (view y)) (all_same (vals_view xs) (vals_view ys))
    (vals_apart xs ys (λ e. apart (omega arith)))

pub entries_apart : (xs ys : List (Value × Value)) → length xs ≢ length ys → false ≡ entries_same (entries_view xs) (entries_view ys)
entries_apart [] [] apart = absurd (apart refl)
entries_apart [] (y ∷ ys) apart = refl
entries_apart (x ∷ xs) [] apart = refl
entries_apart (x ∷ xs) (y ∷ ys) apart =
    and_false (same (view x.0) (view y.0) && same (view x.1) (view y.1)) (entries_same (entries_view xs) (entries_view ys))
    (entries_apart xs ys (λ e. apart (omega arith)))

pub dynamics_apart : (xs ys : List Dyn) → length xs ≢ length ys → false ≡ same_dynamics (dynamics_view xs) (dynamics_view ys)
dynamics_apart [] [] apart = absurd (apart refl)
dynamics_apart [] (y ∷ ys) apart = refl
dynamics_apart (x ∷ xs) [] apart = refl
dynamics_apart (x ∷ xs) (y ∷ ys) apart =
    and_false (same_dynamic (dyn_view x) (dyn_view y)) (same_dynamics (dynamics_view xs) (dynamics_view ys))
    (dynamics_apart xs ys (λ e. apart (omega arith)))

pub members_apart : (xs ys : List (List ℕ × Dyn)) → length xs ≢ length ys → false ≡ same_members (members_view xs) (members_view ys)
members_apart [] [] apart = absurd (apart refl)
members_apart [] (y ∷ ys) apart = refl
members_apart (x ∷ xs) [] apart = refl
members_apart (x ∷ xs) (y ∷ ys) apart =
    and_false (bytes_eq x.0 y.0 && same_dynamic (dyn_view x.1) (dyn_view y.1)) (same_members (members_view xs) (members_view ys))
    (members_apart xs ys (λ e. apart (omega arith)))

pub fields_apart : (table : Table) (fields : List Field) (vs : List Value) → length fields ≢ length vs → false ≡ fields_fit table fields (vals_view vs)
fields_apart table [] [] apart = absurd (apart refl)
fields_apart table [] (v ∷ vs) apart = refl
fields_apart table (field ∷ fields) [] apart = refl
fields_apart table (field ∷ fields) (v ∷ vs) apart =
    and_false (fits table field.shape.0 (view v)) (fields_fit table fields (vals_view vs))
    (fields_apart table fields vs (λ e. apart (omega arith)))
