use Rattle.std.proofs.Common.{◌≡◌, ◌++◌, drop}
use Rattle.fr_script.specs.Tokens.{counted_once}
use Rattle.fr_script.proofs.released.released_tokens.Given as goal

abbrev pub invariant-loop-t : goal.invariant-loop-t
invariant-loop-t l = counted_once 0 l.ledger ≡ l.tokens ++ counted_once l.t (drop l.t l.ledger)
