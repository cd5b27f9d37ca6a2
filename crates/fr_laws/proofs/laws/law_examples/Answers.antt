use Rattle.std.proofs.Common.{rules}
use Rattle.fr_model.proofs.Common.{refl, arith, nat, no_entries, entry, hole, whole, no_trees, branch}
use Rattle.fr_model.proofs.Wholes.{base_apart, base_within}
use Rattle.fr_laws.proofs.laws.law_examples.Goals as goal

pub returns-clause-conversions : goal.returns-clause-conversions
unfolding lib.Utf8.encode
returns-clause-conversions c = search rules

pub returns-clause-well : goal.returns-clause-well
returns-clause-well c = record {
  behind_the_base = record {
    in_order = search rules;
    rests = (
      record { entries = entry (nat 1) (nat 2) no_entries; rest = branch hole no_trees; count = refl; are = refl; once = refl },
      (tt, (tt, (tt, (tt, tt)))),
      omega arith,
    );
    conversions = search rules;
    distinct = λ t. omega arith;
  };
  repeated_behind_the_base = record {
    in_order = search rules;
    rests = (
      record {
        entries = entry (nat 1) (nat 2) no_entries;
        rest = branch (whole (nat 1)) (branch (whole (nat 3)) no_trees);
        count = refl;
        are = refl;
        once = refl;
      },
      (tt, (tt, (tt, (tt, tt)))),
    );
    conversions = search rules;
    distinct = λ t. omega arith;
  };
  repeated_in_the_base = λ well. base_apart (nat 1) (nat 2) (nat 1) (nat 3) no_trees well.rests.0 refl;
  under_way_in_the_base = λ well. absurd (omega (arith, well.rests.2));
  at_a_key_of_the_base = λ well. absurd (omega (arith, well.rests.2));
  at_a_value_of_the_base = λ well. absurd (omega (arith, well.rests.2));
  too_few = λ well. absurd (omega (arith, base_within 2 (branch (whole (nat 1)) (branch (whole (nat 2)) no_trees)) well.rests.0));
}

pub returns-clause-swaps : goal.returns-clause-swaps
returns-clause-swaps c = record {
  excursion = search rules;
  no_longer = λ last exc. exc.1.2.2.0 refl;
  no_shorter = λ last exc. let never = exc.1.2.0 in cc;
  in_order = refl;
  swapped = refl;
  of_whole = refl;
  same_field = refl;
  same_field_swapped = refl;
  again = refl;
}
