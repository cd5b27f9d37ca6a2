-- Where fields or values have come to their end, all that are there keep the invariants.
use Rattle.std.proofs.Common.{◌≡◌, ℕ, zero, suc, min, Bool, true, List, [], ◌∷◌, length, drop, refl, arith}
use Rattle.fr_shape.specs.declared.shape.Field.{Field}
use Rattle.fr_shape.specs.declared.value.Value.{Value}
use Rattle.fr_shape.specs.Look.{Table}
use Rattle.fr_shape.specs.Val.{Val, Vals, no_vals, first}
use Rattle.fr_shape.specs.View.{vals_view}
use Rattle.fr_shape.specs.Invariants.{fields_keep}

no_field : (check : ℕ → Val → Bool) (table : Table) (vs : Vals) → true ≡ fields_keep check table [] vs
no_field check table no_vals = refl
no_field check table (first v vs) = refl

pub fields_end : (check : ℕ → Val → Bool) (table : Table) (fields : List Field) (values : List Value) (i : ℕ) → i ≡ min (length fields) (length values)
    → true ≡ fields_keep check table (drop i fields) (vals_view (drop i values))
fields_end check table [] values zero e = no_field check table (vals_view values)
fields_end check table [] values (suc i) e = absurd (omega (arith, e))
fields_end check table (field ∷ fields) [] zero e = refl
fields_end check table (field ∷ fields) [] (suc i) e = absurd (omega (arith, e))
fields_end check table (field ∷ fields) (value ∷ values) zero e = absurd (omega (arith, e))
fields_end check table (field ∷ fields) (value ∷ values) (suc i) e = fields_end check table fields values i (omega (arith, e))
