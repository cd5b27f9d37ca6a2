use Rattle.std.proofs.Common.{◌≡◌, ◌++◌, ◌∷◌, ◌≤◌}
use Rattle.fr_model.specs.Commands.{Call, calls_of}
use Rattle.fr_script.specs.Generator.{steps, last_changes}
use Rattle.fr_script.proofs.generating.generated_script.Given as goal

abbrev pub invariant-loop-cell : goal.invariant-loop-cell
invariant-loop-cell l = record {
  script : calls_of l.script ≡ Call.BeginDeferred ∷ (steps l.fn.count ++ last_changes l.fn.count l.cell);
}
