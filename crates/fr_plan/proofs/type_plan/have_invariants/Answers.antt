use Rattle.std.proofs.Common.{List, [], refl, ap, ◌∙◌}
use Rattle.fr_rules.proofs.Parts.{part_behind}
use Rattle.fr_plan.specs.declared.outlines.Outline.{Outline}
use Rattle.fr_plan.specs.Invariants.{have_invariants}
use Rattle.fr_plan.proofs.type_plan.have_invariants.Goals as goal

pub returns : goal.returns
returns c =
    c.any_has_invariant.ensures ∙ ap (λ (outlines : List Outline). have_invariants c.args.table.now outlines)
    (c.get_slice.ensures.values ∙ rw c.new-all.ensures.indices (part_behind [] c.args.outlines.now 0 c.len.result refl c.len.ensures.count))
