use Rattle.std.proofs.Common.{Option, option_map, ap, sym, ◌∙◌}
use Rattle.fr_frame.specs.Common.{TypePlanNode, def_of, has_validators, unwrap_or}
use Rattle.fr_plan.specs.LookupLaws.{shape_of as shape_of_node}
use Rattle.fr_frame.proofs.PlannedFieldLaws.{node_reached}
use Rattle.fr_frame.proofs.field_plans.has_validators.Goals as goal

pub returns : goal.returns
returns c table checked planned =
    c.has_validators.ensures.some table planned.root checked planned.inside planned.planned
    (node_reached c.law_plan_complete.ensures.complete table c.args.plan.now checked planned c.args.node c.node.result.now
    c.node.ensures.node) ∙ ap (λ (found : Option TypePlanNode).
    has_validators (def_of table (unwrap_or (option_map shape_of_node found) (record { 0 = 0 })).0) c.args.selected)
    (sym c.node.ensures.node)
