-- The lookup stands for the same entries after the pool grew.
use Rattle.fr_tests.proofs.lookup_tests.check_field.Goals as goal

pub find-requires-2 : goal.find-requires-2
find-requires-2 g c = record {
  of_pool = (
    _,
    c.law_lookups_stay.ensures.stay c.build_field_lookup.new.pool c.build_field_lookup-again.new.pool c.in-Ok.lookup _
        c.build_field_lookup-again.ensures.others_stay c.in-Ok.ensures.lookup,
  );
}
