use Rattle.std.proofs.Common.{List, sym, subst}
use Rattle.fr_shape.specs.declared.shape.Field.{Field}
use Rattle.fr_plan.specs.ShapeFields.{IsSummaryOf, IsVariantSummary}
use Rattle.fr_plan.proofs.OneMoreRow.{zip_more}
use Rattle.fr_plan.proofs.shape_fields.summaries_of.Goals as goal

pub loop-variant-preserved : goal.loop-variant-preserved
loop-variant-preserved c =
    rw c.in-Ok.ensures.ok
    (zip_more IsVariantSummary c.args.variants.now c.loop-variant.summaries c.loop-variant.variant-index c.variant-item.result
    c.in_ok-summary.summary c.loop-variant-test.true (sym c.variant-item.is) c.loop-variant.invariant
    (subst (λ (fields : List Field). IsSummaryOf fields c.in_ok-summary.summary) c.as_slice.ensures.items
    c.in_ok-summary.ensures))
