use Rattle.std.proofs.Common.{◌≡◌, Option, ap, sym, ◌∙◌, subst}
use Rattle.std.proofs.lemmas.Result.{on_ok_weaker, IfErr-weaker}
use Rattle.fr_frame.specs.Common.{IsCauseOf, PartialValue, ReflectErrorKind, Table, Tracker, as_fields, as_tracker, body_of, first_invalid, invalid, is_conversion_body, shape_of, trees_of}
use Rattle.fr_frame.proofs.AskLaws.{others_valid}
use Rattle.fr_frame.proofs.RulesOnChildren.{fields_are}
use Rattle.fr_frame.proofs.validating.test_valid.Goals as goal

pub returns-in-Some : goal.returns-in-Some
returns-in-Some g c =
    let means = g.H.Hooks.means c.args.hooks.now in
    let s = shape_of c.args.plan.now c.args.node in
    let is : (table : Table) → invalid means table s (body_of c.args.partial.now)
    ≡ first_invalid means table s (as_fields c.in-Some.selected) 0 (trees_of c.in-Begun.children) = λ table.
    ap (λ (partial : PartialValue). invalid means table s (body_of partial)) c.in-Begun.is
    ∙ ap (λ (tracker : Tracker). first_invalid means table s tracker 0 (trees_of c.in-Begun.children))
    (fields_are (as_tracker c.in-Begun.tracker) c.in-Some.selected (sym c.in-Some.ensures)) in
    record {
      passing = on_ok_weaker c.test_values.result (λ passing table checked planned plain. is table ∙ passing table checked planned) c.test_values.ensures.passing;
      failing = IfErr-weaker c.test_values.result _ _ (λ kind failing table checked planned plain.
          subst (λ (found : Option ReflectErrorKind). IsCauseOf found kind) (sym (is table)) (failing table checked planned))
          c.test_values.ensures.failing;
    }

pub returns-in-None-clause-passing : goal.returns-in-None-clause-passing
returns-in-None-clause-passing g c table checked planned plain =
    ap (λ (partial : PartialValue). invalid (g.H.Hooks.means c.args.hooks.now) table (shape_of c.args.plan.now c.args.node) (body_of partial)) c.in-Begun.is
    ∙ others_valid (g.H.Hooks.means c.args.hooks.now) table (shape_of c.args.plan.now c.args.node) (as_tracker c.in-Begun.tracker)
    (sym c.in-None.ensures) (ap (λ (partial : PartialValue). is_conversion_body (body_of partial)) (sym c.in-Begun.is) ∙ plain) 0
    c.in-Begun.children
