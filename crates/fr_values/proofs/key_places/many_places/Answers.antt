use Rattle.std.proofs.Common.{◌≡◌, length, drop, take, arith, sym, ap, ◌∙◌}
use Rattle.std.proofs.lemmas.List.{length-take-le}
use Rattle.std.proofs.lemmas.Option.{slice_get_within}
use Rattle.fr_shape.specs.CompareSame.{same_equivalence}
use Rattle.fr_values.specs.Common.{keys_among, place_known, view}
use Rattle.fr_values.proofs.Known.{met_more, met_other, one_more}
use Rattle.fr_values.proofs.key_places.many_places.Goals as goal
use Rattle.fr_values.proofs.key_places.many_places.Goals.{then-contains+in_ok-keep_first, else-contains}

pub loop-i-preserved : goal.loop-i-preserved
loop-i-preserved c =
    let keys = keys_among c.args.keys in
    let new = drop c.args.base keys in
    let i = c.loop-i.i in
    let k = view c.key-key.result.0.now in
    let before = c.loop-i.invariant in
    let more = one_more keys i k c.key-key.ensures in
    let long : i ≡ length (take i keys) = sym (length-take-le i keys (omega (arith, slice_get_within keys i k c.key-key.ensures))) in
    elim c.if-contains.branch [
      | then-contains+in_ok-keep_first w ↦ λ q.
          ap (λ m. place_known m q) w.known-is ∙ w.in_ok-keep_first.ensures q
          ∙ met_more same_equivalence new (take i keys) _ k (view q.0.now) _ i more long (sym (c.in_ok-new.ensures c.key-key.result) ∙ sym c.contains.ensures ∙ w.if-contains.true) (before q)
      | else-contains w ↦ λ q.
          ap (λ m. place_known m q) w.known-is
          ∙ met_other same_equivalence new (take i keys) _ k (view q.0.now) _ more (sym (c.in_ok-new.ensures c.key-key.result) ∙ sym c.contains.ensures ∙ w.if-contains.false) (before q)
    ]
