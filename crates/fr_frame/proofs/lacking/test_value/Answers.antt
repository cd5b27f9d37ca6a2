use Rattle.std.proofs.Common.{◌≡◌, Option, None, ap, sym, ◌∙◌, subst}
use Rattle.fr_frame.specs.Common.{IfErr, IsCauseOf, List, OnOk, Question, ReflectErrorKind, ask_field, first_refused, option_copied, option_map, view}
use Rattle.fr_rules.specs.declared.validators.PrecomputedValidator.{PrecomputedValidator}
use Rattle.fr_frame.proofs.LacksByChildren.{field_lacks, names_field}
use Rattle.fr_frame.proofs.lacking.test_value.Goals as goal

pub value_for-requires : goal.value_for-requires
value_for-requires g c = record { named = names_field c.requires.told }

pub returns : goal.returns
returns g c =
    let same : first_refused (g.H.Hooks.means c.args.hooks.now) c.args.told.now.field c.validators-validators.result.now (view c.in-Some.value.now)
    ≡ ask_field Question.Strict (g.H.Hooks.means c.args.hooks.now) c.args.table.now c.args.told.now.field
    (option_map view (option_copied c.args.own)) = ap (λ (validators : List PrecomputedValidator).
    first_refused (g.H.Hooks.means c.args.hooks.now) c.args.told.now.field validators (view c.in-Some.value.now))
    c.validators-validators.ensures.validators
    ∙ field_lacks c.requires.told (g.H.Hooks.means c.args.hooks.now) (option_map view (option_copied c.args.own)) (view c.in-Some.value.now)
    (sym c.in-Some.ensures) in
    record {
      passing = subst (λ (o : Option ReflectErrorKind). OnOk c.run_validators.result (o ≡ None)) same c.run_validators.ensures.passing;
      failing = subst (λ (o : Option ReflectErrorKind). IfErr c.run_validators.result (IsCauseOf o)) same c.run_validators.ensures.failing;
    }
