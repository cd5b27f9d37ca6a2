use Rattle.fr_laws.proofs.PassageLaws.{strict_passes, deferred_passes}
use Rattle.fr_laws.proofs.laws.law_passage.Goals as goal

pub returns-clause-strictly : goal.returns-clause-strictly
returns-clause-strictly c = strict_passes

pub returns-clause-deferred : goal.returns-clause-deferred
returns-clause-deferred c = deferred_passes
