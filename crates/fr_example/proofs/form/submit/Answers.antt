use Rattle.std.proofs.Common.{◌≡◌, ℕ, true, false, Ok, Err, refl, sym, ◌∙◌, ap}
use Rattle.std.proofs.lemmas.Result.{err_from_is_err_and}
use Rattle.fr_shape.specs.Fits.{fits}
use Rattle.fr_shape.specs.Look.{Table}
use Rattle.fr_model.specs.Run.{alloc_refusal}
use Rattle.fr_work.specs.Starting.{IsPlanFrom}
use Rattle.fr_example.specs.Forms.{form_script, without_plan}
use Rattle.fr_example.proofs.FormCalls.{nothing_held}
use Rattle.fr_example.proofs.FormErrors.{no_plan, tells_no_plan, no_plan_no_bad, no_plan_no_run, planned_refused, none_bad_refused, outcome_refused}
use Rattle.fr_example.proofs.FormRuns.{whole_run}
use Rattle.fr_example.proofs.form.submit.Goals as goal

-- There is no plan by which anything could be tried.

pub returns-in_err-bad-clause-no_plan : goal.returns-in_err-bad-clause-no_plan
returns-in_err-bad-clause-no_plan g c =
    let from : IsPlanFrom c.args.table.now c.in_ok-plan.plan
    = record { root = c.args.root; inside = c.requires.root; planned = c.in_ok-plan.ensures.plan } in
    let error = err_from_is_err_and c.from_residual-in_err-bad.result c.from_residual-in_err-bad.ensures.1 in
    rw (error.1, error.2) (tells_no_plan _ c.in_err-bad.field-0.0 (c.in_err-bad.ensures.found from))

pub returns-in_err-bad-clause-bad : goal.returns-in_err-bad-clause-bad
returns-in_err-bad-clause-bad g c =
    let from : IsPlanFrom c.args.table.now c.in_ok-plan.plan
    = record { root = c.args.root; inside = c.requires.root; planned = c.in_ok-plan.ensures.plan } in
    let error = err_from_is_err_and c.from_residual-in_err-bad.result c.from_residual-in_err-bad.ensures.1 in
    rw (error.1, error.2)
    (no_plan_no_bad (alloc_refusal c.args.table.now c.args.root.0) _ c.in_err-bad.field-0.0 (c.in_err-bad.ensures.found from))

pub returns-in_err-bad-clause-run : goal.returns-in_err-bad-clause-run
returns-in_err-bad-clause-run g c =
    let from : IsPlanFrom c.args.table.now c.in_ok-plan.plan
    = record { root = c.args.root; inside = c.requires.root; planned = c.in_ok-plan.ensures.plan } in
    let error = err_from_is_err_and c.from_residual-in_err-bad.result c.from_residual-in_err-bad.ensures.1 in
    rw (error.1, error.2)
    (no_plan_no_run (alloc_refusal c.args.table.now c.args.root.0) _ c.in_err-bad.field-0.0 (c.in_err-bad.ensures.found from))

pub returns-in_err-partial-clause-no_plan : goal.returns-in_err-partial-clause-no_plan
returns-in_err-partial-clause-no_plan g c =
    let from : IsPlanFrom c.args.table.now c.in_ok-plan.plan
    = record { root = c.args.root; inside = c.requires.root; planned = c.in_ok-plan.ensures.plan } in
    let error = err_from_is_err_and c.from_residual-in_err-partial.result c.from_residual-in_err-partial.ensures.1 in
    rw (error.1, error.2)
    (tells_no_plan _ (without_plan c.in_err-partial.field-0.0) (no_plan _ c.in_err-partial.field-0.0 (c.in_err-partial.ensures.refused from)))

-- Some field is bad.

pub returns-then-not-is_empty-clause-no_plan : goal.returns-then-not-is_empty-clause-no_plan
returns-then-not-is_empty-clause-no_plan g c =
    let from : IsPlanFrom c.args.table.now c.in_ok-plan.plan
    = record { root = c.args.root; inside = c.requires.root; planned = c.in_ok-plan.ensures.plan } in
    (c.in_ok-bad.ensures.found from).1 (λ none. let never : false ≡ true = c.if-not-is_empty.ensures.empty.1 none in cc)

pub returns-then-not-is_empty-clause-bad : goal.returns-then-not-is_empty-clause-bad
returns-then-not-is_empty-clause-bad g c =
    let from : IsPlanFrom c.args.table.now c.in_ok-plan.plan
    = record { root = c.args.root; inside = c.requires.root; planned = c.in_ok-plan.ensures.plan } in
    let all = (c.in_ok-bad.ensures.found from).0 in
    (all, λ none. let never : false ≡ true = c.if-not-is_empty.ensures.empty.1 (all ∙ none) in cc)

-- None is bad.

pub fill_all-requires : goal.fill_all-requires
fill_all-requires g c =
    let from : IsPlanFrom c.args.table.now c.in_ok-plan.plan
    = record { root = c.args.root; inside = c.requires.root; planned = c.in_ok-plan.ensures.plan } in
    record { tokens = nothing_held c.args.table.now c.args.root.0 c.in_ok-partial.partial.state (c.in_ok-partial.ensures.state from) }

pub returns-in_err-fill_all-clause-no_plan : goal.returns-in_err-fill_all-clause-no_plan
returns-in_err-fill_all-clause-no_plan g c =
    let from : IsPlanFrom c.args.table.now c.in_ok-plan.plan
    = record { root = c.args.root; inside = c.requires.root; planned = c.in_ok-plan.ensures.plan } in
    let error = err_from_is_err_and c.from_residual-in_err-fill_all.result c.from_residual-in_err-fill_all.ensures.1 in
    rw (error.1, error.2) (planned_refused _ c.in_err-fill_all.field-0.0 (c.in_ok-partial.ensures.refused from))

pub returns-in_err-fill_all-clause-bad : goal.returns-in_err-fill_all-clause-bad
returns-in_err-fill_all-clause-bad g c =
    let from : IsPlanFrom c.args.table.now c.in_ok-plan.plan
    = record { root = c.args.root; inside = c.requires.root; planned = c.in_ok-plan.ensures.plan } in
    let error = err_from_is_err_and c.from_residual-in_err-fill_all.result c.from_residual-in_err-fill_all.ensures.1 in
    rw (error.1, error.2)
    (none_bad_refused _ c.in_err-fill_all.field-0.0 (sym (c.in_ok-bad.ensures.found from).0 ∙ c.if-not-is_empty.ensures.empty.0 refl))

pub returns-in_err-fill_all-clause-run : goal.returns-in_err-fill_all-clause-run
returns-in_err-fill_all-clause-run g c =
    let from : IsPlanFrom c.args.table.now c.in_ok-plan.plan
    = record { root = c.args.root; inside = c.requires.root; planned = c.in_ok-plan.ensures.plan } in
    let error = err_from_is_err_and c.from_residual-in_err-fill_all.result c.from_residual-in_err-fill_all.ensures.1 in
    let partial = c.in_ok-partial.ensures in
    rw (error.1, error.2)
    (outcome_refused _ c.in_err-fill_all.field-0.0
    (whole_run (g.H.Hooks.means c.args.hooks.now) (g.H.Hooks.means c.in_ok-partial.partial.hooks) c.args.table.now c.args.root.0
    (form_script c.args.fields.now) c.in_ok-partial.partial (Err c.in_err-fill_all.field-0.0) (ap g.H.Hooks.means partial.hooks) partial.shapes
    (partial.root from) (partial.state from) (partial.refused from) c.in_err-fill_all.ensures.run))

pub returns-clause-no_plan : goal.returns-clause-no_plan
returns-clause-no_plan g c =
    let from : IsPlanFrom c.args.table.now c.in_ok-plan.plan
    = record { root = c.args.root; inside = c.requires.root; planned = c.in_ok-plan.ensures.plan } in
    c.in_ok-partial.ensures.refused from

pub returns-clause-bad : goal.returns-clause-bad
returns-clause-bad g c =
    let from : IsPlanFrom c.args.table.now c.in_ok-plan.plan
    = record { root = c.args.root; inside = c.requires.root; planned = c.in_ok-plan.ensures.plan } in
    sym (c.in_ok-bad.ensures.found from).0 ∙ c.if-not-is_empty.ensures.empty.0 refl

pub returns-clause-run : goal.returns-clause-run
returns-clause-run g c =
    let from : IsPlanFrom c.args.table.now c.in_ok-plan.plan
    = record { root = c.args.root; inside = c.requires.root; planned = c.in_ok-plan.ensures.plan } in
    let partial = c.in_ok-partial.ensures in
    whole_run (g.H.Hooks.means c.args.hooks.now) (g.H.Hooks.means c.in_ok-partial.partial.hooks) c.args.table.now c.args.root.0
    (form_script c.args.fields.now) c.in_ok-partial.partial (Ok c.in_ok-fill_all.field-0) (ap g.H.Hooks.means partial.hooks) partial.shapes
    (partial.root from) (partial.state from) (partial.refused from) c.in_ok-fill_all.ensures.run

pub returns-clause-fits : goal.returns-clause-fits
returns-clause-fits g c =
    let from : IsPlanFrom c.args.table.now c.in_ok-plan.plan
    = record { root = c.args.root; inside = c.requires.root; planned = c.in_ok-plan.ensures.plan } in
    let partial = c.in_ok-partial.ensures in
    sym
    (ap (λ (t : Table). fits t c.in_ok-partial.partial.root c.in_ok-fill_all.field-0.value) partial.shapes
    ∙ ap (λ (r : ℕ). fits c.args.table.now r c.in_ok-fill_all.field-0.value) (partial.root from))
    ∙ c.in_ok-fill_all.ensures.fits
