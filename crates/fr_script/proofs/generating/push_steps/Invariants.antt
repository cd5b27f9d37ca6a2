use Rattle.std.proofs.Common.{◌≡◌, ◌++◌, ◌≤◌}
use Rattle.fr_model.specs.Commands.{calls_of}
use Rattle.fr_script.specs.Generator.{state_of, steps}
use Rattle.fr_script.proofs.generating.push_steps.Given as goal

abbrev pub invariant-loop-before : goal.invariant-loop-before
invariant-loop-before l = record {
  state : l.state ≡ state_of l.before;
  script : calls_of l.script ≡ calls_of l.initial.script ++ steps l.before;
}
