use Rattle.std.proofs.Common.{Err, ◌∙◌, ap, arith, rules}
use Rattle.fr_model.specs.Run.{run_from}
use Rattle.fr_example.specs.Forms.{form_script}
use Rattle.fr_example.specs.Outcomes.{IsOutcome}
use Rattle.fr_example.proofs.FormRuns.{one_filled, one_failed}
use Rattle.fr_example.proofs.TextsWithoutTokens.{stays}
use Rattle.fr_example.proofs.form.fill_all.Goals as goal

pub loop-field-preserved : goal.loop-field-preserved
loop-field-preserved g c = record {
  shapes = c.in_ok-partial.ensures.filled.1 ∙ c.loop-field.invariant.shapes;
  hooks = c.in_ok-partial.ensures.filled.3 ∙ c.loop-field.invariant.hooks;
  root = c.in_ok-partial.ensures.filled.2 ∙ c.loop-field.invariant.root;
  run =
      one_filled (g.H.Hooks.means c.args.partial.hooks) (g.H.Hooks.means c.loop-field.partial.hooks) c.args.partial.shapes
      c.args.partial.root c.loop-field.field-index c.loop-field.partial c.args.fields.now c.field-item.result
      (ap g.H.Hooks.means c.loop-field.invariant.hooks) c.loop-field.invariant.shapes c.loop-field.invariant.root (omega arith) c.field-item.is
      c.in_ok-partial.partial.state c.in_ok-partial.ensures.filled.0
      ∙ c.loop-field.invariant.run;
  tokens = c.in_ok-partial.ensures.tokens;
  ledger = c.fill.ensures.released ∙ c.loop-field.invariant.ledger;
}

pub returns-in_err-partial-clause-run : goal.returns-in_err-partial-clause-run
returns-in_err-partial-clause-run g c =
    let told : IsOutcome
    (run_from (g.H.Hooks.means c.args.partial.hooks) c.args.partial.shapes c.args.partial.root 0 c.args.partial.state
    (form_script c.args.fields.now)) (Err c.in_err-partial.field-0.0)
    = one_failed (g.H.Hooks.means c.args.partial.hooks) (g.H.Hooks.means c.loop-field.partial.hooks) c.args.partial.shapes
    c.args.partial.root c.loop-field.field-index c.loop-field.partial c.args.fields.now c.field-item.result
    (ap g.H.Hooks.means c.loop-field.invariant.hooks) c.loop-field.invariant.shapes c.loop-field.invariant.root (omega arith) c.field-item.is
    _ c.in_err-partial.field-0.0 c.in_err-partial.ensures.place c.loop-field.invariant.run in
    search rules

pub returns-clause-released : goal.returns-clause-released
returns-clause-released g c = stays _ _ _ _ c.build.ensures.build.tokens c.loop-field.invariant.tokens ∙ c.loop-field.invariant.ledger
