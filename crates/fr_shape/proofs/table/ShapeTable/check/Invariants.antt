use Rattle.fr_shape.specs.Faults.{EarlierRulesHold}
use Rattle.fr_shape.proofs.table.ShapeTable.check.Given as goal

abbrev pub invariant-loop-rule : goal.invariant-loop-rule
invariant-loop-rule l = EarlierRulesHold l.self l.rule
