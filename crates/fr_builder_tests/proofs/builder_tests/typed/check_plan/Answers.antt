use Rattle.std.proofs.Common.{ap, sym, subst, ◌∙◌}
use Rattle.fr_shape.specs.Look.{Table, def_of}
use Rattle.fr_model.specs.Tree.{State, tree_occurs}
use Rattle.fr_model.proofs.TokensInTrees.{fresh_holds}
use Rattle.fr_work.specs.Starting.{IsPlanFrom}
use Rattle.fr_builder_tests.proofs.builder_tests.typed.check_plan.Goals as goal

-- a builder that was just begun holds nothing
pub with_ledger-requires : goal.with_ledger-requires
with_ledger-requires g c t =
    let from : IsPlanFrom c.ground.inside.table c.args.plan.now
    = subst (λ (table : Table). IsPlanFrom table c.args.plan.now) (sym c.ground.view_is) c.requires in
    ap (λ (state : State). tree_occurs state.tree t) (c.in-Ok.ensures.state from)
    ∙ fresh_holds (def_of c.ground.inside.table from.root.0) t

pub with_ledger-requires-in-Ok-partial_owned : goal.with_ledger-requires-in-Ok-partial_owned
with_ledger-requires-in-Ok-partial_owned g c t =
    let from : IsPlanFrom c.ground.inside.table c.args.plan.now
    = subst (λ (table : Table). IsPlanFrom table c.args.plan.now) (sym c.ground.view_is) c.requires in
    ap (λ (state : State). tree_occurs state.tree t) (c.in-Ok-partial_owned.ensures.state from)
    ∙ fresh_holds (def_of c.ground.inside.table from.root.0) t
