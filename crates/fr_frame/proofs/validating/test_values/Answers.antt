use Rattle.std.proofs.Common.{Option, sym, ◌∙◌, ap, subst, arith}
use Rattle.fr_frame.specs.Common.{FieldPlan, IfErr, IsCauseOf, IsChecked, IsPlanFor, Question, ReflectErrorKind, Table, as_fields, first_invalid, option_copied, option_map, refused_of, shape_of, trees_of, view}
use Rattle.std.proofs.lemmas.Grind.{common_steps}
use Rattle.std.proofs.lemmas.Result.{IfErr-weaker}
use Rattle.fr_frame.proofs.AskLaws.{asked_cause, asked_ends, asked_preserved}
use Rattle.fr_frame.proofs.ValidLaws.{all_valid, refuses, valid_is}
use Rattle.fr_frame.proofs.validating.test_values.Goals as goal

pub has_validators-requires : goal.has_validators-requires
has_validators-requires g c = c.requires.planned.inside

pub returns-then-not-has_validators-clause-passing : goal.returns-then-not-has_validators-clause-passing
returns-then-not-has_validators-clause-passing g c table checked planned =
    all_valid (g.H.Hooks.means c.args.hooks.now) table c.args.plan.now (shape_of c.args.plan.now c.args.node) c.args.selected
    c.args.children.now c.requires.there (sym (c.has_validators.ensures table checked planned) ∙ c.if-not-has_validators.true)

pub returns-in_err-test_value-clause-failing : goal.returns-in_err-test_value-clause-failing
returns-in_err-test_value-clause-failing g c =
    let failing : IfErr c.test_value.result (λ kind. (table : Table) → IsChecked table → IsPlanFor table c.args.plan.now
    → IsCauseOf (first_invalid (g.H.Hooks.means c.args.hooks.now) table (shape_of c.args.plan.now c.args.node) (as_fields c.args.selected) 0
    (trees_of c.args.children.now)) kind) = IfErr-weaker c.test_value.result _ _ (λ kind cause table checked planned.
    subst (λ (o : Option ReflectErrorKind). IsCauseOf o kind)
    (sym (valid_is (g.H.Hooks.means c.args.hooks.now) table c.args.plan.now (shape_of c.args.plan.now c.args.node) c.args.selected
    c.args.children.now c.requires.there c.fields_told-told.result.now (c.fields_told-told.ensures.told table checked planned)))
    (asked_cause (refuses (g.H.Hooks.means c.args.hooks.now) c.args.plan.now c.fields_told-told.result.now) Question.Strict
    c.args.children.now c.loop-i.i (option_map view (option_copied c.value.result)) c.loop-i.invariant (omega arith) c.value.ensures.value
    kind (subst (λ (found : Option FieldPlan).
    IsCauseOf (refused_of (g.H.Hooks.means c.args.hooks.now) c.args.plan.now found (option_map view (option_copied c.value.result))) kind)
    c.told_at.ensures cause))) c.test_value.ensures.failing in
    grind (arith, common_steps)

pub loop-i-preserved : goal.loop-i-preserved
loop-i-preserved g c =
    asked_preserved (refuses (g.H.Hooks.means c.args.hooks.now) c.args.plan.now c.fields_told-told.result.now) c.args.children.now c.loop-i.i
    (option_map view (option_copied c.value.result)) c.loop-i.invariant (omega arith) c.value.ensures.value (ap
    (λ (found : Option FieldPlan).
    refused_of (g.H.Hooks.means c.args.hooks.now) c.args.plan.now found (option_map view (option_copied c.value.result)))
    (sym c.told_at.ensures) ∙ c.in_ok-test_value.ensures.passing)

pub returns-clause-passing : goal.returns-clause-passing
returns-clause-passing g c table checked planned =
    valid_is (g.H.Hooks.means c.args.hooks.now) table c.args.plan.now (shape_of c.args.plan.now c.args.node) c.args.selected
    c.args.children.now c.requires.there c.fields_told-told.result.now (c.fields_told-told.ensures.told table checked planned)
    ∙ asked_ends (refuses (g.H.Hooks.means c.args.hooks.now) c.args.plan.now c.fields_told-told.result.now) c.args.children.now c.loop-i.i
    c.loop-i.invariant (omega arith)
