use Rattle.std.proofs.Common.{ℕ, List, ◌∷◌, ◌++◌, [], ap, ◌∙◌, subst}
use Rattle.fr_work.specs.Common.{FrameOwner, IsOpenAt, NodeId, Shows, def_of, fresh, heap_of, shape_of}
use Rattle.fr_frame.specs.Heap.{with_entered}
use Rattle.fr_moves.specs.PlaceLaws.{root_is}
use Rattle.fr_work.proofs.FirstLaws.{first_open, first_unstored}
use Rattle.fr_work.proofs.first_place.first_place.Goals as goal
use Rattle.fr_work.proofs.first_place.first_place.Goals.{In-Ok}

-- the root's place is in a slot
shows : (c : In-Ok) → Shows c.enter.new.self
    (with_entered (def_of c.args.table.now (shape_of c.args.plan.now c.args.plan.now.root)) (heap_of c.new-slots.result)
    c.args.plan.now.root FrameOwner.Root c.in-Ok.top.0)
shows c =
    subst (λ (node : NodeId). Shows c.enter.new.self (with_entered (def_of c.args.table.now (shape_of c.args.plan.now node))
    (heap_of c.new-slots.result) node FrameOwner.Root c.in-Ok.top.0)) c.root_id.ensures.root c.in-Ok.ensures.entered

pub returns-clause-open : goal.returns-clause-open
returns-clause-open c =
    subst (λ (s : ℕ). IsOpenAt c.args.plan.now c.enter.new.self c.push.new.self [] (fresh (def_of c.args.table.now s)))
    (root_is c.law_plan_lookups.ensures.paths c.requires.checked c.requires.inside c.requires.planned)
    (first_open c.args.plan.now _ c.new-slots.result c.enter.new.self _ c.new-slots.ensures.free
    (shows (goal.at.returns-clause-open c).In-Ok) c.in-Ok.ensures.limit
    (c.in-Ok-push.ensures.appended ∙ ap (λ (above : List ℕ). above ++ c.in-Ok.top.0 ∷ []) c.new-stack.ensures.empty))

pub returns-clause-nothing : goal.returns-clause-nothing
returns-clause-nothing c =
    first_unstored c.args.plan.now _ c.new-slots.result c.enter.new.self _ c.new-slots.ensures.free
    (shows (goal.at.returns-clause-nothing c).In-Ok)
