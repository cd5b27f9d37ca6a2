use Rattle.fr_shape.proofs.Once.{conserving_keeps_or_releases}
use Rattle.fr_shape.proofs.laws.law_conserved.Goals as goal

pub returns : goal.returns
returns c = record { kept_or_released = conserving_keeps_or_releases }
