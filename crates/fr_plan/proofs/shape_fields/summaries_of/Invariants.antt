use Rattle.std.proofs.Common.{take}
use Rattle.fr_plan.specs.ShapeFields.{AreSummariesOf}
use Rattle.fr_plan.proofs.shape_fields.summaries_of.Given as goal

abbrev pub invariant-loop-variant : goal.invariant-loop-variant
invariant-loop-variant l = AreSummariesOf (take l.variant-index l.variants) l.summaries
