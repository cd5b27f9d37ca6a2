use Rattle.std.proofs.Common.{inl, Ok, refl, ap, ◌∙◌, rules}
use Rattle.fr_model.specs.Commands.{Call}
use Rattle.fr_example.specs.Forms.{FailsParsing}
use Rattle.fr_example.proofs.FormCalls.{parses_so, if_ok_none}
use Rattle.fr_example.proofs.Placing.{fails_after, goes_on}
use Rattle.fr_example.proofs.TextsWithoutTokens.{none_brought, stays, none_left, no_room}
use Rattle.fr_example.proofs.form.parse.Goals as goal

pub returns-in_err-entered-clause-released : goal.returns-in_err-entered-clause-released
returns-in_err-entered-clause-released g c = stays _ _ _ _ c.begin_field.ensures.call.tokens (none_brought _ c.requires.tokens)

pub parse_from_str-requires : goal.parse_from_str-requires
parse_from_str-requires g c = record {
  room = no_room _ _ (none_left _ _ _ _ c.in_ok-entered.ensures.call.tokens (none_brought _ c.requires.tokens));
}

pub returns-clause-released : goal.returns-clause-released
returns-clause-released g c =
    stays _ _ _ _ c.parse_from_str.ensures.call.tokens
    (none_brought _ (none_left _ _ _ _ c.in_ok-entered.ensures.call.tokens (none_brought _ c.requires.tokens)))
    ∙ stays _ _ _ _ c.begin_field.ensures.call.tokens (none_brought _ c.requires.tokens)

pub returns-clause-tokens : goal.returns-clause-tokens
returns-clause-tokens g c =
    if_ok_none c.parse_from_str.result
    (none_left _ _ _ _ c.parse_from_str.ensures.call.tokens
    (none_brought _ (none_left _ _ _ _ c.in_ok-entered.ensures.call.tokens (none_brought _ c.requires.tokens))))

pub returns-in_err-entered-clause-place : goal.returns-in_err-entered-clause-place
returns-in_err-entered-clause-place g c =
    let means = g.H.Hooks.means c.args.partial.hooks in
    let told : FailsParsing means c.args.partial.shapes c.args.partial.root c.args.partial.state c.args.field.now c.in_err-entered.field-0.0
    = inl (
    fails_after means means c.args.partial.shapes c.args.partial.root (Ok c.args.partial.state) c.args.partial _
    (Call.BeginField c.args.field.now.name) _ _ refl refl refl refl (ap (λ name. Call.BeginField name) c.as_str.ensures.bytes)
    c.in_err-entered.field-0.0 c.in_err-entered.ensures.call
    ) in search rules

pub returns-clause-place : goal.returns-clause-place
returns-clause-place g c =
    let means = g.H.Hooks.means c.args.partial.hooks in
    let entered = goes_on means means c.args.partial.shapes c.args.partial.root (Ok c.args.partial.state) c.args.partial _
    (Call.BeginField c.args.field.now.name) _ _ refl refl refl refl (ap (λ name. Call.BeginField name) c.as_str.ensures.bytes)
    c.in_ok-entered.entered c.in_ok-entered.ensures.call in
    parses_so means (g.H.Hooks.means c.in_ok-entered.entered.hooks) c.args.partial.shapes c.args.partial.root c.args.partial.state
    c.args.field.now c.in_ok-entered.entered c.parse_from_str.result _ _ (ap g.H.Hooks.means entered.3) entered.1 entered.2 _
    (ap (λ text. Call.ParseFromStr text) c.as_str-2.ensures.bytes) entered.0 c.parse_from_str.ensures.call
