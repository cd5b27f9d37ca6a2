use Rattle.std.proofs.Common.{inl, ap, ◌∙◌, rules}
use Rattle.fr_example.specs.Forms.{FailsFilling}
use Rattle.fr_example.proofs.FormCalls.{leaves_so, if_ok_none}
use Rattle.fr_example.proofs.TextsWithoutTokens.{none_brought, stays, none_left, no_room}
use Rattle.fr_example.proofs.form.fill.Goals as goal

pub end-requires : goal.end-requires
end-requires g c = record { room = no_room _ _ c.in_ok-parse.ensures.tokens }

pub returns-clause-released : goal.returns-clause-released
returns-clause-released g c =
    stays _ _ _ _ c.end.ensures.call.tokens (none_brought _ c.in_ok-parse.ensures.tokens) ∙ c.parse.ensures.released

pub returns-clause-tokens : goal.returns-clause-tokens
returns-clause-tokens g c =
    if_ok_none c.end.result (none_left _ _ _ _ c.end.ensures.call.tokens (none_brought _ c.in_ok-parse.ensures.tokens))

pub returns-in_err-parse-clause-place : goal.returns-in_err-parse-clause-place
returns-in_err-parse-clause-place g c =
    let told : FailsFilling (g.H.Hooks.means c.args.partial.hooks) c.args.partial.shapes c.args.partial.root c.args.partial.state c.args.field.now
    c.in_err-parse.field-0.0
    = inl c.in_err-parse.ensures.place in search rules

pub returns-clause-place : goal.returns-clause-place
returns-clause-place g c =
    leaves_so (g.H.Hooks.means c.args.partial.hooks) (g.H.Hooks.means c.in_ok-parse.field-0.hooks) c.args.partial.shapes c.args.partial.root
    c.args.partial.state c.args.field.now c.in_ok-parse.field-0 c.end.result _ _ (ap g.H.Hooks.means c.in_ok-parse.ensures.parsed.3)
    c.in_ok-parse.ensures.parsed.1 c.in_ok-parse.ensures.parsed.2 c.in_ok-parse.ensures.parsed.0 c.end.ensures.call
