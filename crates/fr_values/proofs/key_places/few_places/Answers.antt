use Rattle.std.proofs.Common.{cond, drop, take, sym, ap, ◌∙◌}
use Rattle.fr_shape.specs.CompareSame.{same_equivalence}
use Rattle.fr_values.specs.Common.{ByContents, keys_among, place_known, same_tied, view}
use Rattle.fr_values.proofs.Known.{next_behind, none_sought, one_more, sought_more}
use Rattle.fr_values.proofs.key_places.few_places.Goals as goal
use Rattle.fr_values.proofs.key_places.few_places.Goals.{in-Some+in_ok-insert, in_default}

pub loop-i-preserved : goal.loop-i-preserved
loop-i-preserved c =
    let keys = keys_among c.args.keys in
    let there = take c.args.base keys in
    let k = view c.key-key.result.0.now in
    let before = c.loop-i.invariant in
    let more = one_more (drop c.args.base keys) c.loop-i.i k (next_behind keys c.args.base c.loop-i.i k c.key-key.ensures) in
    let was = λ (q : ByContents). place_known c.loop-i.known q in
    elim c.match-first_place.branch [
      | in-Some+in_ok-insert w ↦ λ q.
          sought_more same_equivalence there _ _ k (view q.0.now) (was q) _ more (before q)
          (ap (λ m. place_known m q) w.known-is ∙ w.in_ok-insert.ensures.updates.0 q
          ∙ (λ j. cond (sym (same_tied k (view q.0.now)) j) ((sym w.in-Some.is ∙ c.first_place.ensures) j) (was q)))
      | in_default w ↦ λ q.
          sought_more same_equivalence there _ _ k (view q.0.now) (was q) _ more (before q)
          (ap (λ m. place_known m q) w.known-is
          ∙ none_sought same_equivalence there _ k (view q.0.now) (was q) (before q) (sym c.first_place.ensures ∙ w.in_default.is))
    ]
