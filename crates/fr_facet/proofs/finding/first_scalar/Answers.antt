use Rattle.fr_shape.specs.declared.shape.Shape.{Shape}
use Rattle.fr_facet.specs.Own.{is_scalar_of}
use Rattle.fr_facet.proofs.PassedOver.{four_passed}
use Rattle.fr_facet.proofs.finding.first_scalar.Goals as goal

pub loop-rest-preserved : goal.loop-rest-preserved
loop-rest-preserved c =
    four_passed (λ (shape : Shape). is_scalar_of c.args.kind shape.def) c.args.shapes.now c.loop-rest.passed c.loop-rest.rest.now
    c.a-item.result c.b-item.result c.c-item.result c.d-item.result c.loop-rest.invariant
    c.in-len4-up.len_at_least c.a-item.is c.b-item.is c.c-item.is c.d-item.is c.if-is_among.ensures
