use Rattle.std.proofs.Common.{◌≡◌, ◌∙◌, ◌<◌, List, None, refl, sym, subst}
use Rattle.fr_store.specs.Common.{IfInUse, Node, SameMarks, Shows, Slot, child_number, child_owner, def_of, depth_below, depth_limit, entered_by, heap_of, shape_of, tree_here, with_entered}
use Rattle.fr_frame.specs.Growing.{MayEnter as MayBeEntered, number_by, widened}
use Rattle.fr_store.proofs.EnteringLaws.{GoesTo}
use Rattle.fr_store.proofs.ChildWays.{again, enters, kept_marked, may_be_entered}
use Rattle.fr_store.proofs.stack.Stack.enter.Goals as goal

pub enter_child-requires-clause-parent : goal.enter_child-requires-clause-parent
enter_child-requires-clause-parent c =
    subst (λ (slots : List Slot). IfInUse slots c.in-Some.above.0 (λ (found : Node). MayBeEntered c.args.way found.body))
    (sym (c.in_default-take_stored.ensures.slots_kept refl))
    (may_be_entered c.requires.is_open c.in-Some.ensures.last c.args.way c.requires.may)

-- the child wasn't stored
entered_now : (c : goal.After-put_top-in-Ok)
    → GoesTo c.args.plan.now c.args.slots.now c.enter_child.new.self c.args.self.now c.put_top-in-Ok.new.self
    (child_number c.args.way (tree_here c.args.slots.now c.args.self.now))
    (entered_by c.args.way (def_of c.args.table.now (shape_of c.args.plan.now c.args.node)))
    × SameMarks c.args.slots.now c.enter_child.new.self
entered_now c =
    let same = c.in_default-take_stored.ensures.slots_kept refl in
    let p = c.in-Some.above.0 in
    let n = c.in-Ok.child.0 in
    let after = c.enter_child.new.self in
    let def = def_of c.args.table.now (shape_of c.args.plan.now c.args.node) in
    enters c.requires.is_open c.in-Some.ensures.last after def n c.args.node (subst (λ (s : List Slot). heap_of s n ≡ None)
    same c.in-Ok.ensures.vacant) (c.put_top-in-Ok.ensures c.args.self.now c.in-Some.above.0 c.in_ok-push.ensures.appended)
    c.args.way c.requires.may c.requires.node (c.in_default-take_stored.ensures.none refl) (subst (λ (s : List Slot). IfInUse
    s p (λ (found : Node). Shows after (with_entered def (widened c.args.way p (heap_of s)) c.args.node (child_owner p (number_by
    c.args.way found.body)) n))) same c.in-Ok.ensures.entered) (subst (λ (s : List Slot). IfInUse s p (λ (found : Node).
    depth_below (heap_of s) (child_owner p (number_by c.args.way found.body)) < depth_limit)) same c.in-Ok.ensures.limit)

pub returns-in-Ok-clause-entered : goal.returns-in-Ok-clause-entered
returns-in-Ok-clause-entered c = (entered_now c).0.0

pub returns-in-Ok-clause-places : goal.returns-in-Ok-clause-places
returns-in-Ok-clause-places c = (entered_now c).0.1

pub returns-in-Ok-clause-kept : goal.returns-in-Ok-clause-kept
returns-in-Ok-clause-kept c =
    kept_marked c.take_stored.new.store c.take_stored.new.slots c.enter_child.new.self c.take_stored.ensures.kept
    (subst (λ (s : List Slot). SameMarks s c.enter_child.new.self) (sym (c.in_default-take_stored.ensures.slots_kept refl)) (entered_now c).1)

pub returns-in-Ok-clause-marks : goal.returns-in-Ok-clause-marks
returns-in-Ok-clause-marks c n was = (entered_now c).1 n ∙ was

-- it was stored
again_now : (c : goal.After-put_top)
    → GoesTo c.args.plan.now c.args.slots.now c.take_stored.new.slots c.args.self.now c.put_top.new.self
    (child_number c.args.way (tree_here c.args.slots.now c.args.self.now))
    (entered_by c.args.way (def_of c.args.table.now (shape_of c.args.plan.now c.args.node)))
again_now c =
    again c.take_stored.new.slots c.requires.is_open c.in-Some.ensures.last (def_of c.args.table.now (shape_of c.args.plan.now
    c.args.node)) c.in-Some-take_stored.child.0 c.in-Some-take_stored.ensures.unmarked (c.put_top.ensures c.args.self.now
    c.in-Some.above.0 c.in_ok-push.ensures.appended) c.args.way c.requires.may c.in-Some-take_stored.ensures.taken

pub returns-in-Some-take_stored-clause-entered : goal.returns-in-Some-take_stored-clause-entered
returns-in-Some-take_stored-clause-entered c = (again_now c).0

pub returns-in-Some-take_stored-clause-places : goal.returns-in-Some-take_stored-clause-places
returns-in-Some-take_stored-clause-places c = (again_now c).1

pub returns-in-Ok-clause-new_marks : goal.returns-in-Ok-clause-new_marks
returns-in-Ok-clause-new_marks c new = (entered_now c).1
