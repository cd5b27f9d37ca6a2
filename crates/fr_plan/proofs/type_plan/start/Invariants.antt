use Rattle.std.proofs.Common.{◌≡◌, replicate}
use Rattle.fr_plan.specs.declared.outlines.Mark.{Mark}
use Rattle.fr_plan.proofs.type_plan.start.Given as goal

abbrev pub invariant-loop-shape : goal.invariant-loop-shape
invariant-loop-shape l = l.marks ≡ replicate l._shape Mark.Unseen
