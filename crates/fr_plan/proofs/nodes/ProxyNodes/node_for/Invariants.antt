use Rattle.std.proofs.Common.{◌≡◌, drop}
use Rattle.fr_plan.specs.ProxyLookups.{node_among}
use Rattle.fr_plan.proofs.nodes.ProxyNodes.node_for.Given as goal

-- what is left to look through has the same answer
abbrev pub invariant-loop-entry : goal.invariant-loop-entry
invariant-loop-entry l =
    node_among (drop l.entry-index l.entry-items) l.self.generic l.format
    ≡ node_among l.self.format_specific.items l.self.generic l.format
