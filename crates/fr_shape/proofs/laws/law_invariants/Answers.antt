use Rattle.fr_shape.specs.InvariantLaws.{none_keeps}
use Rattle.fr_shape.proofs.laws.law_invariants.Goals as goal

pub returns : goal.returns
returns c = record { kept = none_keeps }
