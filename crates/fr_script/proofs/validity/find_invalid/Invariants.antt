use Rattle.std.proofs.Common.{◌≡◌, drop}
use Rattle.fr_model.specs.Commands.{calls_of}
use Rattle.fr_script.specs.Marks.{first_unmarked}
use Rattle.fr_script.proofs.validity.find_invalid.Given as goal

-- so far all were valid, so what is left decides, after what was marked
abbrev pub invariant-loop-i : goal.invariant-loop-i
invariant-loop-i l =
    first_unmarked l.table l.initial.marks 0 (calls_of l.script)
    ≡ first_unmarked l.table l.marks l.i (calls_of (drop l.i l.command-items))
