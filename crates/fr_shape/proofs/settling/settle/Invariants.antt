use Rattle.std.proofs.Common.{◌≡◌, ◌-◌, length}
use Rattle.fr_shape.specs.Look.{settled_shape_in, settled_shape}
use Rattle.fr_shape.proofs.settling.settle.Given as goal

-- where the chain has come stands for the same, in as many steps as are left
abbrev pub invariant-loop-step : goal.invariant-loop-step
invariant-loop-step l = settled_shape_in l.table (length l.table - l.step) l.at.0 ≡ settled_shape l.table l.fn.id.0
