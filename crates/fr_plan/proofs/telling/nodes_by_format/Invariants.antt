use Rattle.std.proofs.Common.{◌≡◌, map, drop, ◌++◌}
use Rattle.std.specs.List.{zip}
use Rattle.fr_shape.specs.declared.shape.FormatProxy.{FormatProxy}
use Rattle.fr_plan.proofs.telling.nodes_by_format.Given as goal

abbrev pub invariant-loop-i : goal.invariant-loop-i
invariant-loop-i l =
    l.by_format.items
    ++ zip (map (λ (formatted : FormatProxy). formatted.format) (drop l.i l.formats)) (drop l.i l.nodes)
    ≡ zip (map (λ (formatted : FormatProxy). formatted.format) l.formats) l.nodes
