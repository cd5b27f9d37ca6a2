use Rattle.std.proofs.Common.{◌≡◌, map, Some, ◌∙◌, rules}
use Rattle.serde_json.specs.View.{view as data_of}
use Rattle.fr_shape.specs.declared.value.Value.{the_lemmas as value_lemmas}
use Rattle.fr_shape.specs.Val.{variant}
use Rattle.fr_shape.specs.View.{view, vals_of, entries_of}
use Rattle.fr_doc.specs.Numerals.{whole_number}
use Rattle.fr_doc.specs.Reading.{entry_view}
use Rattle.fr_doc.specs.Steps.{◌>>=◌}
use Rattle.fr_doc.specs.ValueForms.{value_form, list_form, variant_form, entry_form}
use Rattle.fr_doc.proofs.Loops.{then_fails, so_far_next, fails, ends}
use Rattle.fr_doc.proofs.Values.{vals_whole, entries_whole, entry_of, entry_split, variant_of, variant_split}
use Rattle.fr_doc.proofs.value_form.+value.Goals as goal
use Rattle.fr_doc.proofs.value_form.+value.Goals.{read_entry-In-Some-Some-None, read_variant-In-Some-Some-None}

entry_is : (t : _) (c : read_entry-In-Some-Some-None t) → entry_form (data_of c.args.json.now) ≡ entry_of (data_of c.in-Some-Some-None.key.now, data_of c.in-Some-Some-None.inner.now)
entry_is t c =
    let pair = c.in-Some-Some-None in
    entry_split c.args.json.now c.in-Array.items c.iter-items.result.rest.now c.in-Array.is (c.iter-items.ensures.rest ∙ c.deref.ensures.value) _ _ _ _ pair.ensures.steps pair.ensures'.steps pair.ensures''.steps.0

pub read_entry-returns-in_err-key : goal.read_entry-returns-in_err-key
read_entry-returns-in_err-key t c =
    let pair = c.in-Some-Some-None in
    let split = entry_is t (goal.at.read_entry-returns-in_err-key t c).In-Some-Some-None in
    let failed = then_fails view entry_view c.in_err-key.field-0.0 (value_form (data_of pair.key.now)) (λ k. value_form (data_of pair.inner.now) >>= λ v. Some (k, v)) split c.in_err-key.ensures in
    search (rules, failed)

pub read_entry-returns-in_err-read_value : goal.read_entry-returns-in_err-read_value
read_entry-returns-in_err-read_value t c =
    let split = entry_is t (goal.at.read_entry-returns-in_err-read_value t c).In-Some-Some-None in
    let inner = value_form (data_of c.in-Some-Some-None.inner.now) in
    let failed = then_fails view entry_view c.in_err-read_value.field-0.0 inner (λ v. Some (view c.in_ok-key.key, v)) (split ∙ rw c.in_ok-key.ensures) c.in_err-read_value.ensures in
    search (rules, failed)

pub read_entry-returns : goal.read_entry-returns
read_entry-returns t c =
    entry_is t (goal.at.read_entry-returns t c).In-Some-Some-None ∙ rw (c.in_ok-key.ensures, c.in_ok-read_value.ensures)

pub read_map-returns-in_err-read_entry : goal.read_map-returns-in_err-read_entry
read_map-returns-in_err-read_entry t c =
    let vs = c.deref-item-items.result.now in
    let whole = entries_whole c.args.json.now c.in-Array.items vs c.in-Array.is c.deref-item-items.ensures.value in
    let failed = fails entry_form entries_of vs _ whole entry_view (λ (es : _). entries_of (map entry_view es)) c.loop-item.item-index c.item-item.result (map entry_view c.loop-item.entries) c.in_err-read_entry.field-0.0 c.loop-item-test.true c.item-item.is c.in_err-read_entry.ensures c.loop-item.invariant in
    search (rules, failed)

pub read_map-loop-item-preserved : goal.read_map-loop-item-preserved
read_map-loop-item-preserved t c =
    let vs = c.deref-item-items.result.now in
    let more = so_far_next entry_form entry_view vs c.loop-item.item-index c.item-item.result c.loop-item.entries c.in_ok-read_entry.field-0 c.loop-item-test.true c.item-item.is c.in_ok-read_entry.ensures c.loop-item.invariant in
    rw c.in_ok-push.ensures.ok more

pub read_map-returns : goal.read_map-returns
read_map-returns t c =
    let vs = c.deref-item-items.result.now in
    ends entry_form entries_of vs _ (entries_whole c.args.json.now c.in-Array.items vs c.in-Array.is c.deref-item-items.ensures.value) c.loop-item.item-index _ c.loop-item-test.false c.loop-item.invariant

pub read_values-returns-in_err-read_value : goal.read_values-returns-in_err-read_value
read_values-returns-in_err-read_value t c =
    let vs = c.deref-item-items.result.now in
    let whole = vals_whole c.args.items.now vs c.deref-item-items.ensures.value in
    let failed = fails value_form vals_of vs _ whole view (λ (vs' : _). vals_of (map view vs')) c.loop-item.item-index c.item-item.result (map view c.loop-item.values) c.in_err-read_value.field-0.0 c.loop-item-test.true c.item-item.is c.in_err-read_value.ensures c.loop-item.invariant in
    search (rules, failed)

pub read_values-returns : goal.read_values-returns
read_values-returns t c =
    let vs = c.deref-item-items.result.now in
    ends value_form vals_of vs _ (vals_whole c.args.items.now vs c.deref-item-items.ensures.value) c.loop-item.item-index (map view c.loop-item.values) c.loop-item-test.false c.loop-item.invariant

variant_is : (t : _) (c : read_variant-In-Some-Some-None t) → variant_form (data_of c.args.json.now) ≡ variant_of (data_of c.in-Some-Some-None.index.now, data_of c.in-Some-Some-None.fields.now)
variant_is t c =
    let pair = c.in-Some-Some-None in
    variant_split c.args.json.now c.in-Array.items c.iter-items.result.rest.now c.in-Array.is (c.iter-items.ensures.rest ∙ c.deref.ensures.value) _ _ _ _ pair.ensures.steps pair.ensures'.steps pair.ensures''.steps.0

pub read_variant-returns-in_err-read_list : goal.read_variant-returns-in_err-read_list
read_variant-returns-in_err-read_list t c =
    let split = variant_is t (goal.at.read_variant-returns-in_err-read_list t c).In-Some-Some-None in
    let counted : whole_number (data_of c.in-Some-Some-None.index.now) ≡ Some c.in-Some.index = search rules in
    let fields = list_form (data_of c.in-Some-Some-None.fields.now) in
    let failed = then_fails (λ (vs : _). vals_of (map view vs)) view c.in_err-read_list.field-0.0 fields (λ vs. Some (variant c.in-Some.index vs)) (split ∙ rw counted) c.in_err-read_list.ensures in
    search (rules, failed)

pub read_variant-returns : goal.read_variant-returns
read_variant-returns t c =
    let split = variant_is t (goal.at.read_variant-returns t c).In-Some-Some-None in
    let counted : whole_number (data_of c.in-Some-Some-None.index.now) ≡ Some c.in-Some.index = search rules in
    split ∙ rw (counted, c.in_ok-read_list.ensures) (search (rules, value_lemmas))
