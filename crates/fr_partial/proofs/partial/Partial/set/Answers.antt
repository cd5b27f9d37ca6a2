use Rattle.std.proofs.Common.{◌∙◌, ◌∷◌, [], ap, arith}
use Rattle.fr_shape.specs.Look.{Table}
use Rattle.fr_shape.specs.TokenLaws.{RoseBy_same}
use Rattle.fr_model.specs.Commands.{Call}
use Rattle.fr_partial.specs.Typed.{own_number}
use Rattle.fr_partial.proofs.SeveralLaws.{as_made, last, without_memory}
use Rattle.fr_partial.proofs.partial.Partial.set.Goals as goal

pub returns-in-Ok : goal.returns-in-Ok
returns-in-Ok g c = record {
  call =
      as_made (g.H.Hooks.means c.args.self.hooks) c.args.self (λ shape v. Call.Set shape v ∷ []) c.in-Ok.value _ _ _ _ _ _
      (c.in-Ok.ensures.shape ∙ ap (λ (shapes : Table). own_number g.U.Facet.is_own shapes) c.table.ensures.table) c.in-Ok.ensures.value
      c.in-Ok.ensures.unreleased (last _ c.args.self _ c.set_shape.result _ _ c.set_shape.ensures.call);
}

pub returns-in-Err : goal.returns-in-Err
returns-in-Err g c = record {
  call =
      without_memory _ c.args.self _ [] c.refuse.result _ _ _ c.refuse.ensures.kind c.refuse.ensures.path
      (RoseBy_same _ _ _ _ (λ t. omega arith) c.in-Err.ensures.released) c.refuse.ensures.released;
}
