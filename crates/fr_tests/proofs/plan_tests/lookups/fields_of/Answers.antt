use Rattle.fr_frame.proofs.PlannedFieldLaws.{struct_found}
use Rattle.fr_tests.proofs.plan_tests.lookups.fields_of.Goals as goal

pub fields-requires : goal.fields-requires
fields-requires c =
    record { inside = (struct_found c.law_plan_lookups.ensures.resolve c.requires.planned c.in-Some.ensures.plan).inside }
