use Rattle.std.proofs.Common.{◌≡◌, ◌+◌, List, sym, ◌∙◌, ap, subst, drop, arith}
use Rattle.std.proofs.lemmas.Result.{err_from_is_err_and}
use Rattle.fr_model.specs.Run.{alloc_refusal}
use Rattle.fr_example.specs.declared.form.BadField.{BadField}
use Rattle.fr_example.specs.declared.record.Pair.{Pair}
use Rattle.fr_example.specs.Forms.{bad_fields, fault_of, without_plan, IsNoPlan}
use Rattle.fr_example.proofs.FormCalls.{nothing_held}
use Rattle.fr_example.proofs.FormErrors.{no_plan, tried, none_more, one_more, AreAll}
use Rattle.fr_example.proofs.FormRuns.{next_of}
use Rattle.fr_example.proofs.form.bad_fields.Goals as goal
use Rattle.fr_example.proofs.form.bad_fields.Goals.{in-Some+in_ok-name+in_ok-push, in_default}

pub fault_of-requires : goal.fault_of-requires
fault_of-requires g c = record {
  tokens = nothing_held c.args.table.now c.requires.plan.root.0 c.in_ok-trial.trial.state (c.in_ok-trial.ensures.state c.requires.plan);
}

pub returns-in_err-trial-clause-found : goal.returns-in_err-trial-clause-found
returns-in_err-trial-clause-found g c from =
    let told : IsNoPlan (alloc_refusal c.args.table.now from.root.0) (without_plan c.in_err-trial.field-0.0)
    = no_plan _ c.in_err-trial.field-0.0 (c.in_err-trial.ensures.refused from) in
    let error = err_from_is_err_and c.from_residual.result c.from_residual.ensures.1 in
    rw (error.1, error.2) told

pub loop-field-preserved : goal.loop-field-preserved
loop-field-preserved g c = record {
  all = λ from.
      let means = g.H.Hooks.means c.args.hooks.now in
      let rest = next_of c.args.fields.now c.loop-field.field-index c.field-item.result (omega arith) c.field-item.is in
      let found : fault_of means c.args.table.now from.root.0 c.field-item.result ≡ c.in_ok-kind.field-0
      = tried means (g.H.Hooks.means c.in_ok-trial.trial.hooks) c.args.table.now from.root.0 c.in_ok-trial.trial c.field-item.result
      c.in_ok-kind.field-0 (ap g.H.Hooks.means c.in_ok-trial.ensures.hooks) c.in_ok-trial.ensures.shapes (c.in_ok-trial.ensures.root from)
      (c.in_ok-trial.ensures.state from) c.in_ok-kind.ensures.fault in
      let all : List BadField = bad_fields means c.args.table.now from.root.0 c.args.fields.now in
      let left : List Pair = drop (c.loop-field.field-index + 1) c.args.fields.now in
      elim c.match-branch-3.branch [
        | in-Some+in_ok-name+in_ok-push w ↦
            subst (λ (bad : List BadField). AreAll means c.args.table.now from.root.0 all bad left)
            (sym (w.bad-is ∙ w.in_ok-push.ensures.ok))
            (one_more means c.args.table.now from.root.0 all c.loop-field.bad _ left c.field-item.result w.in-Some.kind w.in_ok-name.name
            (c.loop-field.invariant.all from) rest (found ∙ w.in-Some.is) (w.in_ok-name.ensures.copy ∙ w.as_str.ensures.bytes))
        | in_default w ↦
            subst (λ (bad : List BadField). AreAll means c.args.table.now from.root.0 all bad left) (sym w.bad-is)
            (none_more means c.args.table.now from.root.0 all c.loop-field.bad _ left c.field-item.result (c.loop-field.invariant.all from) rest
            (found ∙ w.in_default.is))
      ];
  planned = λ some from. c.in_ok-trial.ensures.refused from;
  ledger = c.fault_of.ensures.released ∙ c.loop-field.invariant.ledger;
}
