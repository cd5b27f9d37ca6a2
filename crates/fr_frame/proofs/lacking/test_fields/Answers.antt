use Rattle.std.proofs.Common.{◌<◌, ℕ, List, length, Option, Some, None, sym, ◌∙◌, subst, arith}
use Rattle.std.proofs.lemmas.Grind.{common_steps}
use Rattle.std.proofs.lemmas.Result.{IfErr-weaker}
use Rattle.fr_frame.specs.Common.{Cell, IfErr, IfSome, IsAnswer, ReflectErrorKind, as_fields, ask, cells_or_holes, child_count, first_asked, option_copied, option_map, shape_of, view}
use Rattle.fr_frame.proofs.AskLaws.{asked_cause, asked_ends, asked_preserved, there_passes}
use Rattle.fr_frame.proofs.LacksByChildren.{its_lack, told_here, told_itself}
use Rattle.fr_frame.proofs.lacking.test_fields.Goals as goal

inside_some : (count i : ℕ) (cells : Option (List Cell)) → i < length (cells_or_holes count cells) → IfSome cells (λ cs. i < length cs)
inside_some count i (Some cs) h = h
inside_some count i None h = tt

pub returns-then-passes_there-clause-passing : goal.returns-then-passes_there-clause-passing
returns-then-passes_there-clause-passing g c =
    let s = shape_of c.args.plan.now c.args.node in
    let means = g.H.Hooks.means c.args.hooks.now in
    let count = child_count c.args.table.now s in
    there_passes (ask c.args.question means c.args.table.now s (as_fields c.args.selected))
    (c.passes_there.ensures c.if-passes_there.true c.args.table.now c.requires.checked c.requires.planned means) 0
    (cells_or_holes count (option_copied c.args.children)) (c.has_all.ensures c.if-has_all.true count)

pub value_in-own-requires : goal.value_in-own-requires
value_in-own-requires g c =
    let n = child_count c.args.table.now (shape_of c.args.plan.now c.args.node) in
    let count = c.plans_of_fields-told.ensures.count (length (cells_or_holes n (option_copied c.args.children)))
    c.requires.full in
    record { inside = inside_some n c.loop-i.i (option_copied c.args.children) (omega arith) }

pub test_field-requires : goal.test_field-requires
test_field-requires g c = record {
  told =
      told_itself (told_here c.plans_of_fields-told.ensures c.loop-i.i c.index-told-i.result c.loop-i-test.true c.index-told-i.is);
}

pub returns-in_err-test_field-clause-failing : goal.returns-in_err-test_field-clause-failing
returns-in_err-test_field-clause-failing g c =
    let s = shape_of c.args.plan.now c.args.node in
    let n = child_count c.args.table.now s in
    let means = g.H.Hooks.means c.args.hooks.now in
    let asks = ask c.args.question means c.args.table.now s (as_fields c.args.selected) in
    let cells = cells_or_holes n (option_copied c.args.children) in
    let count = c.plans_of_fields-told.ensures.count (length cells) c.requires.full in
    let own = option_map view (option_copied c.value_in-own.result) in
    let told = told_here c.plans_of_fields-told.ensures c.loop-i.i c.index-told-i.result c.loop-i-test.true c.index-told-i.is in
    let failing : IfErr c.test_field.result (IsAnswer c.args.question (first_asked asks 0 cells))
    = IfErr-weaker c.test_field.result _ _
    (λ kind answer. asked_cause asks c.args.question cells c.loop-i.i own c.loop-i.invariant (omega arith)
    (c.value_in-own.ensures n) kind
    (subst (λ (o : Option ReflectErrorKind). IsAnswer c.args.question o kind) (its_lack told c.args.question means own) answer))
    c.test_field.ensures.failing in
    grind (arith, common_steps)

pub loop-i-preserved : goal.loop-i-preserved
loop-i-preserved g c =
    let s = shape_of c.args.plan.now c.args.node in
    let n = child_count c.args.table.now s in
    let means = g.H.Hooks.means c.args.hooks.now in
    let cells = cells_or_holes n (option_copied c.args.children) in
    let count = c.plans_of_fields-told.ensures.count (length cells) c.requires.full in
    let own = option_map view (option_copied c.value_in-own.result) in
    let told = told_here c.plans_of_fields-told.ensures c.loop-i.i c.index-told-i.result c.loop-i-test.true c.index-told-i.is in
    asked_preserved (ask c.args.question means c.args.table.now s (as_fields c.args.selected)) cells c.loop-i.i own
    c.loop-i.invariant
    (omega arith) (c.value_in-own.ensures n) (sym (its_lack told c.args.question means own) ∙ c.in_ok-test_field.ensures.passing)

pub returns-clause-passing : goal.returns-clause-passing
returns-clause-passing g c =
    let s = shape_of c.args.plan.now c.args.node in
    let cells = cells_or_holes (child_count c.args.table.now s) (option_copied c.args.children) in
    let count = c.plans_of_fields-told.ensures.count (length cells) c.requires.full in
    asked_ends (ask c.args.question (g.H.Hooks.means c.args.hooks.now) c.args.table.now s (as_fields c.args.selected))
    cells c.loop-i.i
    c.loop-i.invariant (omega arith)
