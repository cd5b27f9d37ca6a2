use Rattle.std.proofs.Common.{true, cond, drop, sym, ◌∙◌}
use Rattle.fr_shape.specs.CompareSame.{same_equivalence}
use Rattle.fr_values.specs.Common.{keys_among, same_tied, view}
use Rattle.fr_values.proofs.Known.{any_more, next_behind, one_more}
use Rattle.fr_values.proofs.key_places.new_keys.Goals as goal

pub loop-i-preserved : goal.loop-i-preserved
loop-i-preserved c q =
    let keys = keys_among c.args.keys in
    let k = view c.key.result.0.now in
    let more = one_more (drop c.args.base keys) c.loop-i.i k (next_behind keys c.args.base c.loop-i.i k c.key.ensures) in
    c.in_ok-insert.ensures.updates.0 q
    ∙ (λ j. cond (sym (same_tied k (view q.0.now)) j) true (c.loop-i.invariant q j))
    ∙ any_more same_equivalence _ _ k (view q.0.now) more
