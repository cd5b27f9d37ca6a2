use Rattle.std.proofs.Common.{ℕ, Option, None, Some, subst}
use Rattle.std.specs.Str.{bytes_eq}
use Rattle.fr_shape.specs.Look.{Table}
use Rattle.fr_shape.proofs.NoneTwice.{Found}
use Rattle.fr_shape.proofs.TakenNames.{names, taken_name, none_before}
use Rattle.fr_shape.proofs.names.first_taken_name.Goals as goal

pub returns-in-Some-clause-taken : goal.returns-in-Some-clause-taken
returns-in-Some-clause-taken c =
    let table = c.args.table.now in
    let found = subst (λ (t : Table). Found bytes_eq (names t) c.in_ok-i.field-0) c.shapes.ensures c.in_ok-i.ensures in
    taken_name table (Some c.in-Some.i) (subst (λ (o : Option ℕ). Found bytes_eq (names table) o) c.in-Some.is found)

pub returns-in-Some-clause-first : goal.returns-in-Some-clause-first
returns-in-Some-clause-first c =
    let table = c.args.table.now in
    let found = subst (λ (t : Table). Found bytes_eq (names t) c.in_ok-i.field-0) c.shapes.ensures c.in_ok-i.ensures in
    none_before table (Some c.in-Some.i) (subst (λ (o : Option ℕ). Found bytes_eq (names table) o) c.in-Some.is found)

pub returns-in-None-clause-taken : goal.returns-in-None-clause-taken
returns-in-None-clause-taken c =
    let table = c.args.table.now in
    let found = subst (λ (t : Table). Found bytes_eq (names t) c.in_ok-i.field-0) c.shapes.ensures c.in_ok-i.ensures in
    taken_name table None (subst (λ (o : Option ℕ). Found bytes_eq (names table) o) c.in-None.is found)
