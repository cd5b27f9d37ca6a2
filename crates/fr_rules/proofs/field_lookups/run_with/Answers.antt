use Rattle.std.proofs.Common.{rules, sym}
use Rattle.std.proofs.lemmas.Fn.{always_returns_same}
use Rattle.fr_rules.specs.declared.buckets.PrefixBucket.{PrefixBucket}
use Rattle.fr_rules.proofs.Finding.{run_found, none_found}
use Rattle.fr_rules.proofs.field_lookups.run_with.Goals as goal

pub returns-in-Ok : goal.returns-in-Ok
returns-in-Ok c prefix_len entries described =
    run_found prefix_len c.args.prefix entries c.args.stored.now c.args.buckets.now described c.in-Ok.place _ c.in-Ok.ensures.bound
    (c.in-Ok.ensures.position (λ (bucket : PrefixBucket). bucket.prefix) (always_returns_same _ _ _ (λ a r f k. search rules)) _)

pub returns-in-Err : goal.returns-in-Err
returns-in-Err c prefix_len entries described =
    sym (none_found prefix_len c.args.prefix entries c.args.stored.now c.args.buckets.now described c.in-Err.field-0
    (c.in-Err.ensures.position (λ (bucket : PrefixBucket). bucket.prefix) (always_returns_same _ _ _ (λ a r f k. search rules))))
