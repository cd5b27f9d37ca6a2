use Rattle.std.proofs.Common.{◌≡◌, map, take}
use Rattle.serde_json.specs.View.{view as data_of}
use Rattle.fr_script.specs.PlanReports.{node_line}
use Rattle.fr_script.specs.Reports.{line_data}
use Rattle.fr_script.proofs.plan_report.json_of_nodes.Given as goal

-- the nodes so far are told
abbrev pub invariant-loop-id : goal.invariant-loop-id
invariant-loop-id l = map data_of l.items.items ≡ map line_data (map (node_line l.table) (take l.id l.plan.nodes))
