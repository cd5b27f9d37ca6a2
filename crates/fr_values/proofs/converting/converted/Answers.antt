use Rattle.fr_values.specs.Common.{view}
use Rattle.fr_values.proofs.MadeDynamic.{none_released}
use Rattle.fr_values.proofs.converting.converted.Goals as goal

pub returns-in-Ok-clause-released : goal.returns-in-Ok-clause-released
returns-in-Ok-clause-released c = none_released (view c.args.value) c.args.ledger.now c.in-Ok.ensures.no_token
