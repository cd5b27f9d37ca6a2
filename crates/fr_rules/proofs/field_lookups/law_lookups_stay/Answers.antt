use Rattle.fr_rules.proofs.Growth.{lookup_stays}
use Rattle.fr_rules.proofs.field_lookups.law_lookups_stay.Goals as goal

pub returns : goal.returns
returns c = record {
  stay =
      lookup_stays;
}
