use Rattle.std.proofs.Common.{sym, ◌∙◌}
use Rattle.fr_values.specs.Common.{keys_among, same, view}
use Rattle.fr_values.proofs.Known.{met, one_more, passed}
use Rattle.fr_values.proofs.key_places.KeyedParts.first_place.Goals as goal

pub returns-then-eq : goal.returns-then-eq
returns-then-eq c =
    let keys = keys_among c.args.self in
    sym (met same (view c.args.key.0.now) keys (view c.key.result.0.now) c.loop-i.i c.args.count c.loop-i-test.true c.key.ensures (sym c.eq.ensures ∙ c.if-eq.true) c.loop-i.invariant)

pub loop-i-preserved : goal.loop-i-preserved
loop-i-preserved c =
    let keys = keys_among c.args.self in
    passed same (view c.args.key.0.now) _ _ (view c.key.result.0.now) (one_more keys c.loop-i.i _ c.key.ensures) c.loop-i.invariant (sym c.eq.ensures ∙ c.if-eq.false)
