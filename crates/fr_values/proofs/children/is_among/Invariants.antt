use Rattle.std.proofs.Common.{◌≡◌, drop}
use Rattle.fr_values.specs.Common.{is_there, vals_view, view}
use Rattle.fr_values.proofs.children.is_among.Given as goal

abbrev pub invariant-loop-held : goal.invariant-loop-held
invariant-loop-held l =
    is_there (view l.value) (vals_view l.values) ≡ is_there (view l.value) (vals_view (drop l.held-index l.values))
