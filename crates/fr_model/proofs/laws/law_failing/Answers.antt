use Rattle.fr_model.proofs.FailingPlaces.{each_failure_has_its_place, failures_lie_there, lacking_fails}
use Rattle.fr_model.proofs.FirstFailure.{first_is}
use Rattle.fr_model.proofs.laws.law_failing.Goals as goal

pub returns-clause-lie : goal.returns-clause-lie
returns-clause-lie c = failures_lie_there

pub returns-clause-lacking : goal.returns-clause-lacking
returns-clause-lacking c = lacking_fails

pub returns-clause-first : goal.returns-clause-first
returns-clause-first c = first_is

pub returns-clause-places : goal.returns-clause-places
returns-clause-places c = each_failure_has_its_place
