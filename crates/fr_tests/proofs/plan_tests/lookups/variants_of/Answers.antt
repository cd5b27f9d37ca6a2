use Rattle.fr_frame.proofs.PlannedFieldLaws.{enum_found}
use Rattle.fr_tests.proofs.plan_tests.lookups.variants_of.Goals as goal

pub variants-requires : goal.variants-requires
variants-requires c =
    record { inside = (enum_found c.law_plan_lookups.ensures.resolve c.requires.planned c.in-Some.ensures.plan).inside }
