use Rattle.std.proofs.Common.{◌≡◌, ℕ, ◌<◌, length, get_or, false}
use Rattle.fr_script.specs.Marks.{is_taken}
use Rattle.std.specs.Prelude.{[]}
use Rattle.fr_script.proofs.validity.marks_of.Given as goal

abbrev pub invariant-loop-token : goal.invariant-loop-token
invariant-loop-token l = record {
  len : length l.marks.items ≡ l.token;
  each : (t : ℕ) → t < l.token → get_or l.marks.items t false ≡ is_taken l.ledger [] t;
}
