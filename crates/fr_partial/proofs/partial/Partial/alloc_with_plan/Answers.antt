use Rattle.std.proofs.Common.{◌≡◌, ℕ, Option, sym, ap, ◌∙◌, subst}
use Rattle.fr_shape.specs.declared.error.AllocError.{AllocError}
use Rattle.fr_partial.specs.Common.{IsIn, IsPlanFrom, IsPlanOf, ShapeId, unsized_refusal}
use Rattle.fr_model.specs.Tree.{initial}
use Rattle.fr_work.specs.Starting.{RefusedWith}
use Rattle.fr_moves.specs.ResultLaws.{if_ok}
use Rattle.fr_partial.proofs.StartLaws.{root_shape, only_unsized}
use Rattle.fr_partial.proofs.partial.Partial.alloc_with_plan.Goals as goal
use Rattle.fr_partial.proofs.partial.Partial.alloc_with_plan.Goals.{After-root}
use Rattle.fr_partial.proofs.partial.Partial.alloc_with_plan.Given.{Over}

-- the root is that of the plan
root_is : (g : Over) (c : After-root g) → (from : IsPlanFrom c.args.table.now c.args.plan.now)
    → c.root.result.now.shape ≡ from.root
root_is g c from =
    root_shape c.law_plan_paths.ensures.agree c.args.table.now c.args.plan.now c.root.result.now c.requires.checked from
    c.root.ensures.root

number_is : (g : Over) (c : After-root g) → (from : IsPlanFrom c.args.table.now c.args.plan.now)
    → c.root.result.now.shape.0 ≡ from.root.0
number_is g c from = ap (λ (id : ShapeId). id.0) (root_is g c from)

pub start-requires-clause-inside : goal.start-requires-clause-inside
start-requires-clause-inside g c =
    subst (λ (s : ℕ). IsIn c.args.table.now s)
    (sym (number_is g (goal.at.start-requires-clause-inside g c).After-root c.requires.plan)) c.requires.plan.inside

pub start-requires-clause-plan : goal.start-requires-clause-plan
start-requires-clause-plan g c =
    subst (λ (id : ShapeId). IsPlanOf c.args.table.now id c.args.plan.now)
    (sym (root_is g (goal.at.start-requires-clause-plan g c).After-root c.requires.plan)) c.requires.plan.planned

pub returns-clause-root : goal.returns-clause-root
returns-clause-root g c =
    if_ok c.start.result (λ p at from. at ∙ number_is g (goal.at.returns-clause-root g c).After-root from) c.start.ensures.root

pub returns-clause-state : goal.returns-clause-state
returns-clause-state g c =
    if_ok c.start.result (λ p begun from. begun
    ∙ ap (λ (s : ℕ). initial c.args.table.now s) (number_is g (goal.at.returns-clause-state g c).After-root from))
    c.start.ensures.state

pub returns-clause-refused : goal.returns-clause-refused
returns-clause-refused g c from =
    subst (λ (refusal : Option AllocError). RefusedWith refusal c.start.result)
    (ap (λ (s : ℕ). unsized_refusal c.args.table.now s) (number_is g (goal.at.returns-clause-refused g c).After-root from)
    ∙ sym (only_unsized c.law_first_refusal.ensures.first c.args.table.now c.args.plan.now from)) c.start.ensures.refused
