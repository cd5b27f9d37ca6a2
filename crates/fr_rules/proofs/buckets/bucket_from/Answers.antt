-- The bucket's run is what a search for its end found.
use Rattle.std.proofs.Common.{◌≡◌, rules, true, false, List, sym, ap, ◌∙◌, subst}
use Rattle.std.specs.List.Sorted.{IsPartitionedBy, IsPartitionPoint}
use Rattle.std.proofs.lemmas.Fn.{always_returns_same}
use Rattle.std.proofs.lemmas.List.{take_rest}
use Rattle.fr_rules.specs.Prefixes.{prefix_of, prefix_in, has_prefix}
use Rattle.fr_rules.specs.declared.entries.FieldLookupEntry.{FieldLookupEntry}
use Rattle.fr_rules.proofs.Sorting.{IsNextRun, run_ahead}
use Rattle.fr_rules.proofs.buckets.bucket_from.Goals as goal

run_is : (c : goal.After-partition_point-len)
    → IsNextRun (prefix_in c.args.prefix_len) c.args.sorted.now c.args.start c.partition_point-len.result c.prefix_of-prefix.result
run_is c =
    let same = has_prefix c.args.prefix_len c.prefix_of-prefix.result in
    run_ahead (prefix_in c.args.prefix_len) c.args.sorted.now c.args.start c.index-sorted-start.result
    c.requires.sorted c.requires.there c.index-sorted-start.is c.prefix_of-prefix.result c.partition_point-len.result
    (c.prefix_of-prefix.ensures ∙ ap (prefix_of c.args.prefix_len) (c.as_str.ensures.bytes ∙ ap (λ (entry : FieldLookupEntry). entry.name) (sym c.index-sorted-start.is)))
    (subst (λ (rest : List FieldLookupEntry). IsPartitionedBy same rest → IsPartitionPoint (λ x. same x ≡ true) (λ x. same x ≡ false) rest c.partition_point-len.result)
    (take_rest c.args.sorted.now c.args.start)
    (c.partition_point-len.ensures.partitioned same (always_returns_same _ _ _ (λ a r f k. search rules))))

pub returns-clause-some : goal.returns-clause-some
returns-clause-some c = (run_is c).some

pub returns-clause-run : goal.returns-clause-run
returns-clause-run c = (run_is c).run

pub returns-clause-others : goal.returns-clause-others
returns-clause-others c = (run_is c).others
