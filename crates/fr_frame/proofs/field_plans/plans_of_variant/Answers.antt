use Rattle.std.proofs.Common.{Some, sym, subst}
use Rattle.fr_frame.specs.Common.{AreTold, IsPlanned, shape_of}
use Rattle.fr_frame.proofs.PlannedFieldLaws.{enum_found, has_told, variant_found}
use Rattle.fr_frame.proofs.field_plans.plans_of_variant.Goals as goal

pub returns-in_default-clause-told : goal.returns-in_default-clause-told
returns-in_default-clause-told c table checked planned =
    let is : IsPlanned c.args.plan.now c.args.node
    = record { table = table; checked = checked; planned = planned; inside = c.requires.inside } in
    enum_found c.law_plan_lookups.ensures.resolve is c.in_default.ensures.plan c.args.variant

pub variants-requires : goal.variants-requires
variants-requires c = record { inside = (enum_found c.law_plan_lookups.ensures.resolve c.requires c.in-Some.ensures.plan).inside }

pub fields-requires : goal.fields-requires
fields-requires c = record {
  inside =
      (variant_found (enum_found c.law_plan_lookups.ensures.resolve c.requires c.in-Some.ensures.plan) c.args.variant
      c.in-Some-told_at.ensures c.variants.ensures.variants).inside;
}

pub returns-in-Some-told_at-clause-told : goal.returns-in-Some-told_at-clause-told
returns-in-Some-told_at-clause-told c table checked planned =
    let is : IsPlanned c.args.plan.now c.args.node
    = record { table = table; checked = checked; planned = planned; inside = c.requires.inside } in
    subst (AreTold table c.args.plan.now (shape_of c.args.plan.now c.args.node) (Some c.args.variant)) (sym c.fields.ensures.fields)
    (variant_found (enum_found c.law_plan_lookups.ensures.resolve is c.in-Some.ensures.plan) c.args.variant
    c.in-Some-told_at.ensures c.variants.ensures.variants).told

pub returns-in-Some-told_at-clause-validators : goal.returns-in-Some-told_at-clause-validators
returns-in-Some-told_at-clause-validators c i =
    let told : AreTold c.requires.table c.args.plan.now (shape_of c.args.plan.now c.args.node) (Some c.args.variant)
    c.fields.result.now
    = returns-in-Some-told_at-clause-told c c.requires.table c.requires.checked c.requires.planned in
    has_told told i

pub returns-in-None-clause-told : goal.returns-in-None-clause-told
returns-in-None-clause-told c table checked planned =
    let is : IsPlanned c.args.plan.now c.args.node
    = record { table = table; checked = checked; planned = planned; inside = c.requires.inside } in
    variant_found (enum_found c.law_plan_lookups.ensures.resolve is c.in-Some.ensures.plan) c.args.variant c.in-None.ensures
    c.variants.ensures.variants
