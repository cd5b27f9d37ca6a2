-- The first shape that passes a test, by its number in the whole table and as an id can name it.
use Rattle.std.proofs.Common.{◌≡◌, ℕ, ◌+◌, ◌^◌, suc, zero, min, Bool, true, false, cond, not, [], ◌∷◌, length, take, nat_lt, Option, Some, None, IfSome, sym, arith}
use Rattle.std.specs.List.{position, prefix_len}
use Rattle.std.specs.Option.{option_and_then, option_map}
use Rattle.std.proofs.lemmas.Bool.Decides.{nat_tests}
use Rattle.std.proofs.lemmas.List.{length-take}
use Rattle.std.proofs.lemmas.List.Quantifiers.{position-Some}
use Rattle.fr_shape.specs.declared.shape.Def.{Def}
use Rattle.fr_shape.specs.declared.shape.Shape.{Shape}
use Rattle.fr_shape.specs.declared.shape.ShapeId.{ShapeId}
use Rattle.fr_shape.specs.Look.{IsIn, Table}
use Rattle.fr_shape.specs.Plain.{plain_shape}
use Rattle.fr_facet.specs.Facets.{first_own}
use Rattle.fr_facet.specs.Nameable.{nameable, named_by, within_table}

one_more : (passes : Bool) (all few n : ℕ) → few ≡ min all n
    → cond passes (1 + few) 0 ≡ min (cond passes (1 + all) 0) (suc n)
one_more true all few n e = omega arith
one_more false all few n e = omega arith

-- of the first n shapes as many pass in a row as of all, but n at most
passing_within : (p : Shape → Bool) (n : ℕ) (table : Table) → prefix_len p (take n table) ≡ min (prefix_len p table) n
passing_within p zero table = omega arith
passing_within p (suc n) [] = omega arith
passing_within p (suc n) (shape ∷ shapes) = one_more (p shape) (prefix_len p shapes) (prefix_len p (take n shapes)) n (passing_within p n shapes)

number_within : (k n count : ℕ)
    → option_and_then (λ i. cond (nat_lt i n) (Some i) None) (cond (nat_lt k count) (Some k) None)
    ≡ cond (nat_lt (min k n) (min n count)) (Some (min k n)) None
number_within k n count = grind (arith, nat_tests)

first_within : (p : Shape → Bool) (n : ℕ) (table : Table)
    → option_and_then (λ i. cond (nat_lt i n) (Some i) None) (position p table) ≡ position p (take n table)
first_within p n table =
    rw (passing_within (λ shape. not (p shape)) n table, length-take n table)
    (number_within (prefix_len (λ shape. not (p shape)) table) n (length table))

pub first_named : (p : Shape → Bool) (table : Table) → option_and_then named_by (position p table) ≡ position p (nameable table)
unfolding nameable
first_named p table = first_within p (2 ^ 32) table

-- and it is one of the table
pub first_inside : (is_own : Table → Def → Bool) (table : Table) (found : Option ShapeId)
    → option_map (λ (id : ShapeId). id.0) found ≡ first_own is_own table → IfSome found (λ (id : ShapeId). IsIn table id.0)
first_inside is_own table None is = tt
first_inside is_own table (Some id) is =
    let first = position-Some (λ (shape : Shape). is_own table shape.def) (nameable table) id.0 (plain_shape [] Def.Other) (sym is) in
    within_table table id.0 first.0
