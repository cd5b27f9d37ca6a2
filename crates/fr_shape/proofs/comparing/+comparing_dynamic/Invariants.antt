use Rattle.std.proofs.Common.{◌≡◌, drop}
use Rattle.fr_shape.specs.View.{dynamics_view, members_view}
use Rattle.fr_shape.specs.Same.{same_dynamics, same_members}
use Rattle.fr_shape.proofs.comparing.+comparing_dynamic.Given as goal

-- so far all are, so what is left decides

abbrev pub invariant-same_dynamics-loop-i : goal.invariant-same_dynamics-loop-i
invariant-same_dynamics-loop-i l =
    same_dynamics (dynamics_view l.a) (dynamics_view l.b)
    ≡ same_dynamics (dynamics_view (drop l.i l.left)) (dynamics_view (drop l.i l.right))

abbrev pub invariant-same_members-loop-i : goal.invariant-same_members-loop-i
invariant-same_members-loop-i l =
    same_members (members_view l.a) (members_view l.b)
    ≡ same_members (members_view (drop l.i l.left)) (members_view (drop l.i l.right))
