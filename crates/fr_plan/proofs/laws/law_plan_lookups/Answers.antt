use Rattle.fr_plan.proofs.Wholeness.Asked.{lookup_paths_agree, lookups_agree}
use Rattle.fr_plan.proofs.Wholeness.Standing.{back_references_resolve}
use Rattle.fr_plan.proofs.laws.law_plan_lookups.Goals as goal

pub returns : goal.returns
returns c = record { resolve = back_references_resolve; agree = lookups_agree; paths = lookup_paths_agree }
