use Rattle.std.proofs.Common.{length}
use Rattle.fr_shape.specs.declared.shape.Shape.{Shape}
use Rattle.fr_facet.specs.Own.{is_scalar_of}
use Rattle.fr_facet.proofs.PassedOver.{IsPassed}
use Rattle.fr_facet.proofs.finding.first_scalar.Given as goal

-- none of those that were passed over is the scalar
abbrev pub invariant-loop-rest : goal.invariant-loop-rest
invariant-loop-rest l = IsPassed (λ (shape : Shape). is_scalar_of l.kind shape.def) l.shapes l.passed l.rest

abbrev pub decreases-loop-rest : goal.decreases-loop-rest
decreases-loop-rest l = length l.rest
