use Rattle.std.proofs.Common.{drop, ◌+◌, ◌++◌, option_map, ap, ◌∙◌, rules}
use Rattle.fr_shape.specs.View.{view, vals_view, entries_view}
use Rattle.fr_doc.specs.Integers.{integers, vals_integers, entries_integers, number, last_after}
use Rattle.fr_doc.proofs.Passes.{ends, goes_on, values_from, entries_from}
use Rattle.fr_doc.proofs.integers.+pass.Goals as goal

pub pass_values-returns-in_err-met : goal.pass_values-returns-in_err-met
pass_values-returns-in_err-met t c =
    let items = c.as_slice-value-items.result.now in
    let i = c.loop-value.value-index in
    let here = values_from items i c.value-item.result c.loop-value-test.true c.value-item.is in
    let met = option_map number c.loop-value.met in
    let ended = c.loop-value.invariant ∙ ap (last_after c.args.rule met) here ∙ ends c.args.rule met (integers (view c.value-item.result)) (vals_integers (vals_view (drop (i + 1) items))) c.in_err-met.ensures in
    search (rules, ended)

pub pass_values-loop-value-preserved : goal.pass_values-loop-value-preserved
pass_values-loop-value-preserved t c =
    let items = c.as_slice-value-items.result.now in
    let i = c.loop-value.value-index in
    let here = values_from items i c.value-item.result c.loop-value-test.true c.value-item.is in
    let met = option_map number c.loop-value.met in
    let next = option_map number c.in_ok-met.met in
    c.loop-value.invariant ∙ ap (last_after c.args.rule met) here ∙ goes_on c.args.rule met next (integers (view c.value-item.result)) (vals_integers (vals_view (drop (i + 1) items))) c.in_ok-met.ensures

pub pass_entries-returns-in_err-met : goal.pass_entries-returns-in_err-met
pass_entries-returns-in_err-met t c =
    let items = c.as_slice-entry-items.result.now in
    let i = c.loop-entry.entry-index in
    let e = c.entry-item.result in
    let here = entries_from items i e c.loop-entry-test.true c.entry-item.is in
    let met = option_map number c.loop-entry.met in
    let others = integers (view e.1) ++ entries_integers (entries_view (drop (i + 1) items)) in
    let ended = c.loop-entry.invariant ∙ ap (last_after c.args.rule met) here ∙ ends c.args.rule met (integers (view e.0)) others c.in_err-met.ensures in
    search (rules, ended)

pub pass_entries-returns-in_err-met-2 : goal.pass_entries-returns-in_err-met-2
pass_entries-returns-in_err-met-2 t c =
    let items = c.as_slice-entry-items.result.now in
    let i = c.loop-entry.entry-index in
    let e = c.entry-item.result in
    let here = entries_from items i e c.loop-entry-test.true c.entry-item.is in
    let met = option_map number c.loop-entry.met in
    let past_key = option_map number c.in_ok-met.met in
    let others = entries_integers (entries_view (drop (i + 1) items)) in
    let ended = c.loop-entry.invariant ∙ ap (last_after c.args.rule met) here ∙ goes_on c.args.rule met past_key (integers (view e.0)) (integers (view e.1) ++ others) c.in_ok-met.ensures ∙ ends c.args.rule past_key (integers (view e.1)) others c.in_err-met-2.ensures in
    search (rules, ended)

pub pass_entries-loop-entry-preserved : goal.pass_entries-loop-entry-preserved
pass_entries-loop-entry-preserved t c =
    let items = c.as_slice-entry-items.result.now in
    let i = c.loop-entry.entry-index in
    let e = c.entry-item.result in
    let here = entries_from items i e c.loop-entry-test.true c.entry-item.is in
    let met = option_map number c.loop-entry.met in
    let past_key = option_map number c.in_ok-met.met in
    let next = option_map number c.in_ok-met-2.met in
    let others = entries_integers (entries_view (drop (i + 1) items)) in
    c.loop-entry.invariant ∙ ap (last_after c.args.rule met) here ∙ goes_on c.args.rule met past_key (integers (view e.0)) (integers (view e.1) ++ others) c.in_ok-met.ensures ∙ goes_on c.args.rule past_key next (integers (view e.1)) others c.in_ok-met-2.ensures
