use Rattle.std.proofs.Common.{◌≡◌, sym, ◌∙◌, ap, subst}
use Rattle.fr_work.specs.Common.{IsSound, site}
use Rattle.fr_work.proofs.ReadLaws.{node_so, parts_so, plan_so, shaped_so}
use Rattle.fr_work.proofs.work.Work.place_in_plan.Goals as goal
use Rattle.fr_work.proofs.work.Work.place_in_plan.Goals.{After-deref-parts}

sound : (c : After-deref-parts) → IsSound c.deref-parts.result.now
sound c = subst IsSound (sym c.deref-parts.ensures) c.self.invariant

seen : (c : After-deref-parts) → site c.deref-parts.result.now ≡ c.args.self.now
seen c = ap site c.deref-parts.ensures ∙ c.self.view_is

pub returns-clause-plan : goal.returns-clause-plan
returns-clause-plan c =
    let at = (goal.at.returns-clause-plan c).After-deref-parts in
    plan_so (sound at) (seen at) _ c.core-plan.ensures.plan

pub returns-clause-node : goal.returns-clause-node
returns-clause-node c =
    let at = (goal.at.returns-clause-node c).After-deref-parts in
    node_so (sound at) (seen at) _ c.core-plan.ensures.plan _ c.told_here.ensures.node

pub returns-clause-shape : goal.returns-clause-shape
returns-clause-shape c =
    let at = (goal.at.returns-clause-shape c).After-deref-parts in
    let lookups = c.law_plan_lookups.ensures in
    let reach = c.law_plan_reach.ensures in
    shaped_so (sound at) (seen at) _ c.core-plan.ensures.plan _ c.told_here.ensures.node lookups.resolve lookups.agree lookups.paths
    reach.reached reach.nodes

pub returns-clause-parts : goal.returns-clause-parts
returns-clause-parts c =
    let at = (goal.at.returns-clause-parts c).After-deref-parts in
    let lookups = c.law_plan_lookups.ensures in
    let reach = c.law_plan_reach.ensures in
    parts_so (sound at) (seen at) _ c.core-plan.ensures.plan _ c.told_here.ensures.node lookups.resolve lookups.agree lookups.paths
    reach.reached reach.nodes
