use Rattle.std.proofs.Common.{◌≡◌, drop}
use Rattle.fr_shape.specs.View.{dynamics_view, members_view}
use Rattle.fr_shape.specs.Compare.{compare_dynamics, compare_members}
use Rattle.fr_shape.proofs.ordering.+ordering_dynamic.Given as goal

-- so far all are equal, so what is left decides

abbrev pub invariant-compare_dynamics-loop-i : goal.invariant-compare_dynamics-loop-i
invariant-compare_dynamics-loop-i l =
    compare_dynamics (dynamics_view l.a) (dynamics_view l.b)
    ≡ compare_dynamics (dynamics_view (drop l.i l.left)) (dynamics_view (drop l.i l.right))

abbrev pub invariant-compare_members-loop-i : goal.invariant-compare_members-loop-i
invariant-compare_members-loop-i l =
    compare_members (members_view l.a) (members_view l.b)
    ≡ compare_members (members_view (drop l.i l.left)) (members_view (drop l.i l.right))
