use Rattle.std.proofs.Common.{◌≡◌, ◌*◌, ◌-◌, ◌++◌, ℕ, arith, get_or, length, ap, refl, ◌∙◌}
use Rattle.std.specs.Prelude.{option_map, slice_get}
use Rattle.std.proofs.lemmas.List.{length-map}
use Rattle.std.proofs.lemmas.Option.{slice_get-map, slice_get_read}
use Rattle.fr_values.specs.Common.{Some, Value, keys_among, parts_of_entries, view}
use Rattle.fr_values.proofs.Gathered.{both_keys, turn_at, turn_in}
use Rattle.fr_values.proofs.EntriesInTurn.{parts_count, part_behind}
use Rattle.fr_values.proofs.key_places.KeyedParts.key.Goals as goal

pub overflow_mul-result : goal.overflow_mul-result
overflow_mul-result c =
    grind (arith, ap (λ keys. length (keys_among keys)) c.in-Entries.is, both_keys c.in-Entries.entries.now c.in-Entries.parts.now)

pub offset_bounds-parts-number : goal.offset_bounds-parts-number
offset_bounds-parts-number c =
    grind (arith, ap (λ keys. length (keys_among keys)) c.in-Entries.is, both_keys c.in-Entries.entries.now c.in-Entries.parts.now)

pub bounds-parts-number : goal.bounds-parts-number
bounds-parts-number c =
    omega (arith, ap (λ keys. length (keys_among keys)) c.in-Entries.is, both_keys c.in-Entries.entries.now c.in-Entries.parts.now)

pub returns-in-Items : goal.returns-in-Items
returns-in-Items c =
    let items = c.in-Items.items.now in
    ap (λ keys. slice_get (keys_among keys) c.args.number) c.in-Items.is
    ∙ slice_get-map view items c.args.number
    ∙ ap (λ o. option_map view o) (slice_get_read items (length items) c.args.number c.index-items-number.result refl
    (omega (arith, ap (λ keys. length (keys_among keys)) c.in-Items.is, length-map items view)) c.index-items-number.is)

pub returns-then-number-entries : goal.returns-then-number-entries
returns-then-number-entries c =
    ap (λ keys. slice_get (keys_among keys) c.args.number) c.in-Entries.is
    ∙ turn_in c.in-Entries.entries.now c.in-Entries.parts.now c.args.number c.index-entries-number.result (omega arith) c.index-entries-number.is
    ∙ ap (λ (e : Value × Value). Some (view e.0)) c.index-entries-number.is

pub returns-else-number-entries : goal.returns-else-number-entries
returns-else-number-entries c =
    let es = c.in-Entries.entries.now in
    let parts = c.in-Entries.parts.now in
    let n = c.args.number in
    let x = c.index-parts-number.result in
    let at : 2 * (n - length es) ≡ 2 * n - 2 * length es = omega arith in
    ap (λ keys. slice_get (keys_among keys) n) c.in-Entries.is
    ∙ turn_at (parts_of_entries es ++ parts) n (2 * n) x refl
    (omega (arith, ap (λ keys. length (keys_among keys)) c.in-Entries.is, both_keys es parts, parts_count es parts))
    (part_behind es parts (2 * length es) (2 * n) x refl (omega arith) (c.index-parts-number.is ∙ ap (λ (i : ℕ). get_or parts i x) at))
