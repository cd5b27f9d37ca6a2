use Rattle.std.proofs.Common.{◌≡◌, ℕ, sym, ◌∙◌, ap}
use Rattle.std.proofs.lemmas.Result.{IfOk-weaker}
use Rattle.fr_frame.specs.Common.{Heap, Node, Shows, def_of, heap_of, shape_of, with_entered}
use Rattle.fr_frame.specs.Growing.{number_by, widened}
use Rattle.fr_frame.specs.Kids.{child_owner}
use Rattle.fr_frame.proofs.ChangedPlaces.{in_use_so}
use Rattle.fr_frame.proofs.slots.Slots.enter_child.Goals as goal

pub returns-clause-entered : goal.returns-clause-entered
returns-clause-entered c =
    IfOk-weaker c.enter_at.result _ _ (λ id shown.
    in_use_so c.args.self.now c.args.parent.0 (λ (above : Node). c.in_ok-number.number ≡ number_by c.args.way above.body)
    (λ (above : Node). Shows c.enter_at.new.self (with_entered (def_of c.args.table.now (shape_of c.args.plan.now c.args.node))
    (widened c.args.way c.args.parent.0 (heap_of c.args.self.now)) c.args.node
    (child_owner c.args.parent.0 (number_by c.args.way above.body)) id.0)) (λ above is m. shown m
    ∙ ap (λ (heap : Heap). with_entered (def_of c.args.table.now (shape_of c.args.plan.now c.args.node)) heap c.args.node
    (child_owner c.args.parent.0 c.in_ok-number.number) id.0 m) (sym c.in_ok-number.ensures.grown)
    ∙ ap (λ (i : ℕ). with_entered (def_of c.args.table.now (shape_of c.args.plan.now c.args.node))
    (widened c.args.way c.args.parent.0 (heap_of c.args.self.now)) c.args.node (child_owner c.args.parent.0 i) id.0 m) is)
    c.in_ok-number.ensures.number) c.enter_at.ensures.entered
