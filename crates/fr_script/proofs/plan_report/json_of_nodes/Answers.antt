use Rattle.std.proofs.Common.{◌+◌, ◌≤◌, List, length, map, take, ap, ◌∙◌, arith}
use Rattle.std.proofs.lemmas.List.{take_all}
use Rattle.serde_json.specs.Data.{array}
use Rattle.serde_json.specs.View.{view as data_of, items_of}
use Rattle.serde_json.proofs.Views.{view-Array}
use Rattle.fr_plan.specs.declared.nodes.TypePlanNode.{TypePlanNode}
use Rattle.fr_script.specs.PlanReports.{node_line}
use Rattle.fr_script.specs.Reports.{line_data}
use Rattle.fr_script.proofs.PlanLaws.{next_line, next_told}
use Rattle.fr_script.proofs.plan_report.json_of_nodes.Goals as goal

pub loop-id-preserved : goal.loop-id-preserved
loop-id-preserved c =
    let nodes = c.args.plan.now.nodes in
    let id = c.loop-id.id in
    next_told data_of c.loop-id.items.items c.push.new.self.items c.in_ok-json_of_node.field-0
    (map line_data (map (node_line c.args.table.now) (take id nodes)))
    (map line_data (map (node_line c.args.table.now) (take (id + 1) nodes)))
    (line_data (node_line c.args.table.now c.node.result.now)) c.in_ok-push.ensures.items c.in_ok-json_of_node.ensures
    c.loop-id.invariant (next_line c.args.table.now nodes id c.node.result.now c.node.ensures.node)

pub returns : goal.returns
returns c =
    let nodes = c.args.plan.now.nodes in
    let past : length nodes ≤ c.loop-id.id = omega arith in
    view-Array c.loop-id.items
    ∙ ap (λ ds. array (items_of ds))
    (c.loop-id.invariant
    ∙ ap (λ (ns : List TypePlanNode). map line_data (map (node_line c.args.table.now) ns)) (take_all c.loop-id.id nodes past))
