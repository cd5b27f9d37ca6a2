use Rattle.std.proofs.Common.{ap, sym, subst, ◌∙◌}
use Rattle.fr_shape.specs.Look.{Table, def_of}
use Rattle.fr_model.specs.Tree.{State, tree_occurs}
use Rattle.fr_model.proofs.TokensInTrees.{fresh_holds}
use Rattle.fr_work.specs.Starting.{IsPlanFrom}
use Rattle.fr_builder_tests.proofs.builder_tests.paths.lent_owned.Goals as goal

-- a builder that was just begun holds nothing
pub returns : goal.returns
returns g c t =
    let from : IsPlanFrom c.ground.inside.table c.args.plan.now
    = subst (λ (table : Table). IsPlanFrom table c.args.plan.now) (sym c.ground.view_is) c.requires.plan in
    ap (λ (state : State). tree_occurs state.tree t) (c.in-Ok.ensures.state from)
    ∙ fresh_holds (def_of c.ground.inside.table from.root.0) t
