use Rattle.std.proofs.Common.{◌≡◌, ℕ, List, drop}
use Rattle.std.specs.List.{list_all}
use Rattle.fr_shape.specs.declared.value.Dyn.{Dyn}
use Rattle.fr_shape.specs.View.{dyn_view, dynamics_view}
use Rattle.fr_shape.specs.Fits.{keys_once, all_keys_once}
use Rattle.fr_shape.proofs.distinct.+keys_once.Given as goal

abbrev pub invariant-all_keys_once-loop-item : goal.invariant-all_keys_once-loop-item
invariant-all_keys_once-loop-item l =
    all_keys_once (dynamics_view l.items) ≡ all_keys_once (dynamics_view (drop l.item-index l.item-items))

abbrev pub invariant-values_keys_once-loop-member : goal.invariant-values_keys_once-loop-member
invariant-values_keys_once-loop-member l =
    list_all (λ (m : List ℕ × Dyn). keys_once (dyn_view m.1)) l.members
    ≡ list_all (λ (m : List ℕ × Dyn). keys_once (dyn_view m.1)) (drop l.member-index l.member-items)
