use Rattle.std.proofs.Common.{◌≡◌, ◌∷◌, ◌++◌, ◌+◌, List, arith, length, sym, ap, ◌∙◌}
use Rattle.std.proofs.lemmas.List.{length_push}
use Rattle.fr_values.specs.Common.{Value, into_iter_items, parts_of_entries}
use Rattle.fr_values.proofs.Gathered.{parts_more}
use Rattle.fr_values.proofs.gathering.take_entries.Goals as goal

pub loop-taken-preserved : goal.loop-taken-preserved
loop-taken-preserved c =
    let inv = c.loop-taken.invariant in
    let es = c.loop-taken.entries.items in
    let k = c.next_part-key.result in
    let v = c.next_part-value.result in
    let rest = into_iter_items c.next_part-value.new.rest in
    let two : into_iter_items c.loop-taken.rest ≡ k ∷ (v ∷ rest) =
    c.next_part-key.ensures.items ∙ ap (λ (l : List Value). k ∷ l) c.next_part-value.ensures.items in
    record {
      taken = inv.taken ∙ ap (λ l. parts_of_entries es ++ l) two ∙ sym (parts_more es k v rest)
          ∙ ap (λ l. parts_of_entries l ++ rest) (sym c.push_reserved.ensures.items);
      count = ap (λ l. length l) c.push_reserved.ensures.items ∙ length_push es (k, v) ∙ ap (λ n. n + 1) inv.count;
      left = omega (arith, inv.left, c.next_part-key.ensures.len, c.next_part-value.ensures.len, ap (λ (l : List Value). length l) two);
      enough = omega (arith, inv.enough, c.next_part-key.ensures.len, c.next_part-value.ensures.len);
      capacity = c.push_reserved.ensures.capacity ∙ inv.capacity;
    }
