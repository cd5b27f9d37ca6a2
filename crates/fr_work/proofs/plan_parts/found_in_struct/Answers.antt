use Rattle.std.proofs.Common.{ap, is_some, sym, ◌∙◌}
use Rattle.fr_work.proofs.FoundLaws.{in_pool, none_in_struct}
use Rattle.fr_work.proofs.plan_parts.found_in_struct.Goals as goal

pub find-requires : goal.find-requires
find-requires c = record {
  of_pool = (_, in_pool _ _ _ _ c.lookups.ensures.pool (c.requires.1.fields _ (sym c.in-Some.ensures.plan)).finds);
}

pub returns-in-Some : goal.returns-in-Some
returns-in-Some c def has =
    c.find.ensures.first_named _ (in_pool _ _ _ _ c.lookups.ensures.pool (has.fields _ (sym c.in-Some.ensures.plan)).finds)

pub returns-in-None : goal.returns-in-None
returns-in-None c def has = none_in_struct c.args.name.now def (ap is_some c.in-None.ensures.plan ∙ has.structs)
