use Rattle.std.proofs.Common.{◌≡◌, subst}
use Rattle.fr_partial.specs.Common.{IfOk, IsPlanFrom, Plan}
use Rattle.fr_model.specs.Run.{alloc_refusal}
use Rattle.fr_model.specs.Tree.{initial}
use Rattle.fr_work.specs.Starting.{RefusedWith}
use Rattle.fr_partial.proofs.type_plan.TypePlan.partial.Goals as goal

pub returns-clause-root : goal.returns-clause-root
returns-clause-root g c =
    subst
    (λ (plan : Plan). IfOk c.alloc_with_plan.result (λ p. (from : IsPlanFrom c.args.table.now plan) → p.root ≡ from.root.0))
    c.self.view_is c.alloc_with_plan.ensures.root

pub returns-clause-state : goal.returns-clause-state
returns-clause-state g c =
    subst
    (λ (plan : Plan). IfOk c.alloc_with_plan.result (λ p. (from : IsPlanFrom c.args.table.now plan) → p.state ≡ initial c.args.table.now from.root.0))
    c.self.view_is c.alloc_with_plan.ensures.state

pub returns-clause-refused : goal.returns-clause-refused
returns-clause-refused g c =
    subst
    (λ (plan : Plan). (from : IsPlanFrom c.args.table.now plan) → RefusedWith (alloc_refusal c.args.table.now from.root.0) c.alloc_with_plan.result)
    c.self.view_is c.alloc_with_plan.ensures.refused
