use Rattle.std.proofs.Common.{◌≡◌, ◌⊎◌, Option, inl, inr, ap, arith}
use Rattle.std.proofs.lemmas.Grind.{common_steps}
use Rattle.std.proofs.lemmas.Result.{IfErr-weaker}
use Rattle.fr_frame.specs.Common.{IfErr, IfInUse, ReflectErrorKind, TypePlanNode, heap_of, option_map, shape_of, unwrap_or, view}
use Rattle.fr_frame.specs.Converting.{IsRefused, OfSource}
use Rattle.fr_plan.specs.LookupLaws.{shape_of as shape_of_node}
use Rattle.fr_frame.proofs.ConversionSources.{converted_so, refused_so}
use Rattle.fr_frame.proofs.places.SlotId.convert.Goals as goal

pub returns-in_err-made-clause-why : goal.returns-in_err-made-clause-why
returns-in_err-made-clause-why g c =
    let means = g.H.Hooks.means c.args.hooks.now in
    let table = c.args.table.now in
    let plan = c.args.plan.now in
    let old = c.args.slots.now in
    let n = c.args.self.0 in
    let why : IfErr c.value_of.result (λ kind. (kind ≡ ReflectErrorKind.OutOfMemory) ⊎ IfInUse old n (λ at.
    OfSource (heap_of old) n at (λ above conversion value. IsRefused means table (shape_of plan above.node) conversion value kind)))
    = IfErr-weaker c.value_of.result _ _ (λ kind either. elim either as (λ _. (kind ≡ ReflectErrorKind.OutOfMemory)
    ⊎ IfInUse old n (λ at. OfSource (heap_of old) n at (λ above conversion value.
    IsRefused means table (shape_of plan above.node) conversion value kind))) [
      | inl memory ↦ inl memory
      | inr told ↦ inr (refused_so means table plan old n c.in-Some.over c.in-Some.ensures.over c.node.result.now.shape.0
          (ap (λ (found : Option TypePlanNode). (unwrap_or (option_map shape_of_node found) (record { 0 = 0 })).0) c.node.ensures.node)
          (view c.in-Ok.value) c.in-Ok.ensures.value kind told)
    ]) c.value_of.ensures.why in
    grind (arith, common_steps)

pub returns-clause-converted : goal.returns-clause-converted
returns-clause-converted g c =
    converted_so (g.H.Hooks.means c.args.hooks.now) c.args.table.now c.args.plan.now c.args.slots.now c.args.self.0 c.in-Some.over
    c.in-Some.ensures.over c.node.result.now.shape.0
    (ap (λ (found : Option TypePlanNode). (unwrap_or (option_map shape_of_node found) (record { 0 = 0 })).0) c.node.ensures.node)
    (view c.in-Ok.value) c.in-Ok.ensures.value c.into_value.new.slots c.put.new.slots (view c.in_ok-made.made) c.in-Ok.ensures.left
    c.in_ok-made.ensures.given c.put.ensures.put
