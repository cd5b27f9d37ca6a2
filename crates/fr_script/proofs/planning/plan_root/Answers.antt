use Rattle.fr_script.proofs.PlanLaws.{planned_told, refused_so, refused_told}
use Rattle.fr_script.proofs.planning.plan_root.Goals as goal

pub returns-in-Ok-clause-outcome : goal.returns-in-Ok-clause-outcome
returns-in-Ok-clause-outcome c = planned_told c.args.document.table c.args.document.root c.in-Ok.plan c.in-Ok.ensures.plan

pub returns-in-Err-Alloc-clause-planned : goal.returns-in-Err-Alloc-clause-planned
returns-in-Err-Alloc-clause-planned c =
    refused_so c.args.document.table c.args.document.root c.in-Err-Alloc.field-0 c.in-Err-Alloc.error
    c.in-Err-Alloc.field-0-is c.in-Err-Alloc.ensures.refused

pub returns-in-Err-Alloc-clause-outcome : goal.returns-in-Err-Alloc-clause-outcome
returns-in-Err-Alloc-clause-outcome c =
    refused_told c.args.document.table c.args.document.root c.in-Err-Alloc.field-0 c.in-Err-Alloc.error
    c.in-Err-Alloc.field-0-is c.in-Err-Alloc.ensures.refused
