use Rattle.std.proofs.Common.{◌≡◌, ◌++◌, drop, string_bytes, nat_eq}
use Rattle.fr_path.specs.PathText.{steps_text, path_text}
use Rattle.fr_path.proofs.path_text.write_path.Given as goal

abbrev pub invariant-loop-i : goal.invariant-loop-i
invariant-loop-i l =
    path_text l.table l.fn.root l.steps
    ≡ string_bytes l.text ++ steps_text l.table l.known (nat_eq l.i 0) (drop l.i l.steps)
