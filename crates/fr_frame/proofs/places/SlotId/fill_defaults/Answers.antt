use Rattle.std.proofs.Common.{inl, inr}
use Rattle.std.proofs.lemmas.Result.{IfErr-weaker}
use Rattle.fr_frame.specs.Common.{FillColumn, IsUnfilled, Node, Some, shape_of, takes_template, true, unmet, ◌≡◌, ◌⊎◌}
use Rattle.fr_shape.specs.declared.error.ReflectErrorKind.{ReflectErrorKind as Kind}
use Rattle.fr_frame.proofs.ChangedPlaces.{in_use_so}
use Rattle.fr_frame.proofs.places.SlotId.fill_defaults.Goals as goal

pub returns-clause-why : goal.returns-clause-why
returns-clause-why g c =
    IfErr-weaker c.fill_by.result _ _ (λ kind why. in_use_so c.args.slots.now c.args.self.0
    (λ (at : Node). IsUnfilled FillColumn.Deferred (g.H.Hooks.means c.args.hooks.now) c.args.table.now (shape_of c.args.plan.now at.node) at.body kind)
    (λ (at : Node). ((kind ≡ Kind.OutOfMemory) × (takes_template at.body ≡ true))
    ⊎ (unmet c.args.table.now (shape_of c.args.plan.now at.node) at.body ≡ Some kind)) (λ at why. told kind at why) why)
    c.fill_by.ensures.why
  where
    told : (kind : Kind) (at : Node)
        → IsUnfilled FillColumn.Deferred (g.H.Hooks.means c.args.hooks.now) c.args.table.now (shape_of c.args.plan.now at.node) at.body kind
        → ((kind ≡ Kind.OutOfMemory) × (takes_template at.body ≡ true))
        ⊎ (unmet c.args.table.now (shape_of c.args.plan.now at.node) at.body ≡ Some kind)
    told kind at (inl h) = inl (h.0, h.2)
    told kind at (inr e) = inr e
