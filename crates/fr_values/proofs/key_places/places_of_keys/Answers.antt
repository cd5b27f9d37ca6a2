use Rattle.std.proofs.Common.{◌≡◌, ◌+◌, [], ◌∷◌, ◌++◌, Some, None, cond, unwrap_or, drop, take, length, arith, sym, ap, ◌∙◌}
use Rattle.std.specs.List.{list_any}
use Rattle.std.proofs.lemmas.List.{length_push}
use Rattle.std.proofs.lemmas.Option.{get_or_from_slice_get, slice_get_within}
use Rattle.fr_shape.specs.CompareSame.{same_equivalence}
use Rattle.fr_values.specs.Common.{ByContents, keys_among, place, place_known, same, same_tied, view}
use Rattle.fr_values.proofs.Known.{came_more, is_new, next_behind, put_back}
use Rattle.fr_values.proofs.Placed.{keys_after, after_more, placed_more, with_key_present, with_key_absent}
use Rattle.fr_values.proofs.key_places.places_of_keys.Goals as goal
use Rattle.fr_values.proofs.key_places.places_of_keys.Goals.{in-Some+in_ok-insert-in-Some, in-None}

pub overflow_add-next : goal.overflow_add-next
overflow_add-next c = omega (arith, c.loop-i.invariant.bound)

pub loop-i-preserved : goal.loop-i-preserved
loop-i-preserved c =
    let keys = keys_among c.args.keys in
    let base = take c.args.base keys in
    let new = drop c.args.base keys in
    let i = c.loop-i.i in
    let k = view c.key-key.result.0.now in
    let here = next_behind keys c.args.base i k c.key-key.ensures in
    let within = slice_get_within new i k here in
    let is = sym (get_or_from_slice_get new i k k here) in
    let there = keys_after same base (take i new) in
    let inv = c.loop-i.invariant in
    let after = after_more same new i k within is base in
    let one = is_new same_equivalence new i k here in
    let found : c.in_ok-before.before ≡ place same there k =
    c.in_ok-before.ensures.old ∙ inv.known c.key-key.result ∙ ap (λ b. cond b (place same there k) None) one in
    let done = c.loop-i.places.items in
    let pushed : c.push.new.self.items ≡ done ++ c.match-before.place ∷ [] = c.in_ok-push.ensures.items in
    let put = λ (q : ByContents). c.in_ok-before.ensures.updates.0 q
    ∙ (λ j. cond (sym (same_tied k (view q.0.now)) j) (Some c.loop-i.next) (place_known c.loop-i.known q)) in
    elim c.match-before.branch [
      | in-Some+in_ok-insert-in-Some w ↦
          let present : place same there k ≡ Some w.in-Some.place = sym found ∙ w.in-Some.is in
          let stays = after ∙ with_key_present same there k w.in-Some.place present in record {
            known = λ q. ap (λ m. place_known m q) w.known-is ∙ w.in_ok-insert-in-Some.ensures.updates.0 q
                ∙ (λ j. cond (sym (same_tied k (view q.0.now)) j) (Some w.in-Some.place) (put q j))
                ∙ put_back same_equivalence new there k (view q.0.now) _ w.in-Some.place c.loop-i.next one present (inv.known q)
                ∙ inv.known q
                ∙ ap (λ ks. cond (list_any (same (view q.0.now)) new) (place same ks (view q.0.now)) None) (sym stays);
            next = w.next-is ∙ inv.next ∙ sym (ap length stays);
            bound = omega (arith, w.next-is, inv.bound);
            placed = placed_more same new i k within is there _ done _ _ c.match-before.place pushed after
                (w.place-is ∙ sym (ap (λ n. unwrap_or n (length there)) present)) inv.placed;
          }
      | in-None w ↦
          let absent : place same there k ≡ None = sym found ∙ w.in-None.is in
          let grows = after ∙ with_key_absent same there k absent in
          let at : c.match-before.place ≡ length there = omega (arith, w.place-is, w.next-is, inv.next) in record {
            known = λ q. ap (λ m. place_known m q) w.known-is ∙ put q
                ∙ came_more same_equivalence new there _ k (view q.0.now) _ c.loop-i.next grows inv.next one absent (inv.known q);
            next = w.next-is ∙ ap (λ n. n + 1) inv.next ∙ sym (ap length grows ∙ length_push there k);
            bound = omega (arith, w.next-is, inv.bound);
            placed = placed_more same new i k within is there _ done _ _ c.match-before.place pushed after
                (at ∙ sym (ap (λ n. unwrap_or n (length there)) absent)) inv.placed;
          }
    ]
