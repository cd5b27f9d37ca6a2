use Rattle.std.proofs.Common.{◌≡◌, take}
use Rattle.fr_moves.proofs.kept_path.copy_path.Given as goal

-- the steps so far are copied
abbrev pub invariant-loop-step : goal.invariant-loop-step
invariant-loop-step l = l.copy ≡ take l.step-index l.step-items
