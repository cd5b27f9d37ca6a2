-- The first command that isn't valid, against the definition of a valid script.
use Rattle.std.specs.Prelude.{ℕ, ◌+◌, ◌<◌, List, length, take}
use Rattle.fr_shape.specs.Look.{Table}
use Rattle.fr_model.specs.Commands.{Call}
use Rattle.fr_model.specs.Scripts.{IsValid}

-- Command n is the first that isn't valid: the commands before it are a valid script, and with it they aren't. So the
-- whole script isn't valid either.
pub record IsFirstInvalid (table : Table) (script : List Call) (ledger : List ℕ) (n : ℕ) : Type 0 where
  pub within : n < length script
  pub before : IsValid table (take n script) ledger
  pub with_it : ¬ IsValid table (take (n + 1) script) ledger
  pub whole : ¬ IsValid table script ledger
