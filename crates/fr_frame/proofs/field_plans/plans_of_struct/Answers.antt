use Rattle.std.proofs.Common.{None, sym, subst}
use Rattle.fr_frame.specs.Common.{AreTold, IsPlanned, shape_of}
use Rattle.fr_frame.proofs.PlannedFieldLaws.{has_told, struct_found}
use Rattle.fr_frame.proofs.field_plans.plans_of_struct.Goals as goal

pub fields-requires : goal.fields-requires
fields-requires c = record { inside = (struct_found c.law_plan_lookups.ensures.resolve c.requires c.in-Some.ensures.plan).inside }

pub returns-in-Some-clause-told : goal.returns-in-Some-clause-told
returns-in-Some-clause-told c table checked planned =
    let is : IsPlanned c.args.plan.now c.args.node
    = record { table = table; checked = checked; planned = planned; inside = c.requires.inside } in
    subst (AreTold table c.args.plan.now (shape_of c.args.plan.now c.args.node) None) (sym c.fields.ensures.fields)
    (struct_found c.law_plan_lookups.ensures.resolve is c.in-Some.ensures.plan).told

pub returns-in-Some-clause-validators : goal.returns-in-Some-clause-validators
returns-in-Some-clause-validators c i =
    let told : AreTold c.requires.table c.args.plan.now (shape_of c.args.plan.now c.args.node) None c.fields.result.now
    = returns-in-Some-clause-told c c.requires.table c.requires.checked c.requires.planned in
    has_told told i

pub returns-in-None-clause-told : goal.returns-in-None-clause-told
returns-in-None-clause-told c table checked planned =
    let is : IsPlanned c.args.plan.now c.args.node
    = record { table = table; checked = checked; planned = planned; inside = c.requires.inside } in
    struct_found c.law_plan_lookups.ensures.resolve is c.in-None.ensures.plan
