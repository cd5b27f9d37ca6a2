use Rattle.std.proofs.Common.{◌≡◌, length, refl, sym, ◌∙◌, ap}
use Rattle.std.specs.Prelude.{Ok}
use Rattle.fr_model.specs.Step.{begin_deferred}
use Rattle.fr_model.specs.Tree.{State, Tree, deferred, one_more_call, strict, tree_occurs}
use Rattle.fr_builder_tests.proofs.builder_tests.deferring.enter_deferred.Goals as goal

abbrev begun : State → State
begun state = record state {
  mode = deferred (length state.cursor);
  calls = one_more_call state.calls;
}

begins : (state : State) → state.mode ≡ strict → begin_deferred state ≡ Ok (begun state)
begins state mode = rw mode refl

-- the tree stays
same_tree : (state after : State) → state.mode ≡ strict → begin_deferred state ≡ Ok after → after.tree ≡ state.tree
same_tree state after mode is =
    let both : Ok (begun state) ≡ Ok after = sym (begins state mode) ∙ is in
    let same : begun state ≡ after = cc in
    ap (λ (next : State). next.tree) (sym same)

pub returns : goal.returns
returns c t =
    ap (λ (tree : Tree). tree_occurs tree t)
    (same_tree c.args.partial.state c.enter_deferred.result.state c.requires.strict c.enter_deferred.ensures.state)
    ∙ c.requires.none t
