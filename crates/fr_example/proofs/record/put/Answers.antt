use Rattle.std.proofs.Common.{◌≡◌, inl, inr, ℕ, IfOk, Ok, Err, Result, refl, ap, ◌∙◌, rules}
use Rattle.fr_work.specs.declared.reflect_error.ReflectError.{ReflectError}
use Rattle.fr_partial.specs.Builder.{Builder, holds, left}
use Rattle.fr_model.specs.Commands.{Call}
use Rattle.fr_example.specs.Putting.{enters_field, FailsPutting}
use Rattle.fr_example.proofs.Placing.{fails_after, goes_on, ends_so, text_set}
use Rattle.fr_example.proofs.TextsWithoutTokens.{text_value_fits, same_text_fits, with_text, none_brought, stays, none_left, no_room}
use Rattle.fr_example.proofs.record.put.Goals as goal

if_ok_none : {H : Type 0} (result : Result (Builder H) ReflectError) → ((t : ℕ) → left result t ≡ 0)
    → IfOk result (λ after. (t : ℕ) → holds after t ≡ 0)
if_ok_none (Ok after) none = none
if_ok_none (Err error) none = tt

pub returns-in_err-entered-clause-released : goal.returns-in_err-entered-clause-released
returns-in_err-entered-clause-released g c = stays _ _ _ _ c.begin_field.ensures.call.tokens (none_brought _ c.requires.tokens)

pub new-value-requires : goal.new-value-requires
new-value-requires g c = record { fits = text_value_fits c.args.table.now c.args.string.0 c.args.pair.text c.requires.string }

pub set_shape-requires-clause-fits : goal.set_shape-requires-clause-fits
set_shape-requires-clause-fits g c =
    same_text_fits c.args.table.now _ c.args.string.0 _ _ c.args.pair.text
    (c.in_ok-entered.ensures.call.step.1 ∙ c.requires.same) c.new-value.ensures.shape c.new-value.ensures.value
    c.requires.string

pub set_shape-requires-clause-room : goal.set_shape-requires-clause-room
set_shape-requires-clause-room g c =
    no_room _ _
    (with_text _ _ c.args.pair.text (none_left _ _ _ _ c.in_ok-entered.ensures.call.tokens (none_brought _ c.requires.tokens))
    c.new-value.ensures.value)

pub returns-in_err-set_shape-clause-released : goal.returns-in_err-set_shape-clause-released
returns-in_err-set_shape-clause-released g c =
    stays _ _ _ _ c.set_shape.ensures.call.tokens
    (with_text _ _ c.args.pair.text (none_left _ _ _ _ c.in_ok-entered.ensures.call.tokens (none_brought _ c.requires.tokens))
    c.new-value.ensures.value)
    ∙ stays _ _ _ _ c.begin_field.ensures.call.tokens (none_brought _ c.requires.tokens)

pub end-requires : goal.end-requires
end-requires g c = record {
  room = no_room _ _
      (none_left _ _ _ _ c.in_ok-set_shape.ensures.call.tokens
      (with_text _ _ c.args.pair.text (none_left _ _ _ _ c.in_ok-entered.ensures.call.tokens (none_brought _ c.requires.tokens))
      c.new-value.ensures.value));
}

pub returns-clause-released : goal.returns-clause-released
returns-clause-released g c =
    stays _ _ _ _ c.end.ensures.call.tokens
    (none_brought _ (none_left _ _ _ _ c.in_ok-set_shape.ensures.call.tokens
    (with_text _ _ c.args.pair.text (none_left _ _ _ _ c.in_ok-entered.ensures.call.tokens (none_brought _ c.requires.tokens))
    c.new-value.ensures.value)))
    ∙ stays _ _ _ _ c.set_shape.ensures.call.tokens
    (with_text _ _ c.args.pair.text (none_left _ _ _ _ c.in_ok-entered.ensures.call.tokens (none_brought _ c.requires.tokens))
    c.new-value.ensures.value)
    ∙ stays _ _ _ _ c.begin_field.ensures.call.tokens (none_brought _ c.requires.tokens)

pub returns-clause-tokens : goal.returns-clause-tokens
returns-clause-tokens g c =
    if_ok_none c.end.result
    (none_left _ _ _ _ c.end.ensures.call.tokens
    (none_brought _ (none_left _ _ _ _ c.in_ok-set_shape.ensures.call.tokens
    (with_text _ _ c.args.pair.text (none_left _ _ _ _ c.in_ok-entered.ensures.call.tokens (none_brought _ c.requires.tokens))
    c.new-value.ensures.value))))

pub returns-in_err-entered-clause-place : goal.returns-in_err-entered-clause-place
returns-in_err-entered-clause-place g c =
    let means = g.H.Hooks.means c.args.partial.hooks in
    let told : FailsPutting means c.args.table.now c.args.partial.root c.args.string.0 c.args.partial.state c.args.pair c.in_err-entered.field-0.0
    = inl (
    fails_after means means c.args.table.now c.args.partial.root (Ok c.args.partial.state) c.args.partial _ (Call.BeginField c.args.pair.name) _ _
    refl c.requires.same refl refl (ap (λ name. Call.BeginField name) c.as_str.ensures.bytes) c.in_err-entered.field-0.0
    c.in_err-entered.ensures.call
    ) in search rules

pub returns-in_err-set_shape-clause-place : goal.returns-in_err-set_shape-clause-place
returns-in_err-set_shape-clause-place g c =
    let means = g.H.Hooks.means c.args.partial.hooks in
    let entered = goes_on means means c.args.table.now c.args.partial.root (Ok c.args.partial.state) c.args.partial _ (Call.BeginField c.args.pair.name) _ _
    refl c.requires.same refl refl (ap (λ name. Call.BeginField name) c.as_str.ensures.bytes) c.in_ok-entered.entered c.in_ok-entered.ensures.call in
    let told : FailsPutting means c.args.table.now c.args.partial.root c.args.string.0 c.args.partial.state c.args.pair c.in_err-set_shape.field-0.0
    = inr (inl (
    fails_after means (g.H.Hooks.means c.in_ok-entered.entered.hooks) c.args.table.now c.args.partial.root
    (enters_field means c.args.table.now c.args.partial.root c.args.partial.state c.args.pair)
    c.in_ok-entered.entered _ _ _ _ (ap g.H.Hooks.means entered.3) entered.1 entered.2 entered.0
    (text_set _ c.args.string.0 _ c.args.pair.text c.new-value.ensures.shape c.new-value.ensures.value) c.in_err-set_shape.field-0.0
    c.in_err-set_shape.ensures.call
    )) in search rules

pub returns-clause-place : goal.returns-clause-place
returns-clause-place g c =
    let means = g.H.Hooks.means c.args.partial.hooks in
    let entered = goes_on means means c.args.table.now c.args.partial.root (Ok c.args.partial.state) c.args.partial _ (Call.BeginField c.args.pair.name) _ _
    refl c.requires.same refl refl (ap (λ name. Call.BeginField name) c.as_str.ensures.bytes) c.in_ok-entered.entered c.in_ok-entered.ensures.call in
    let set = goes_on means (g.H.Hooks.means c.in_ok-entered.entered.hooks) c.args.table.now c.args.partial.root
    (enters_field means c.args.table.now c.args.partial.root c.args.partial.state c.args.pair)
    c.in_ok-entered.entered _ _ _ _ (ap g.H.Hooks.means entered.3) entered.1 entered.2 entered.0
    (text_set _ c.args.string.0 _ c.args.pair.text c.new-value.ensures.shape c.new-value.ensures.value) c.in_ok-set_shape.field-0
    c.in_ok-set_shape.ensures.call in
    ends_so means (g.H.Hooks.means c.in_ok-set_shape.field-0.hooks) c.args.table.now c.args.partial.root c.args.string.0 c.args.partial.state
    c.args.pair c.in_ok-set_shape.field-0 c.end.result _ _ (ap g.H.Hooks.means (set.3 ∙ entered.3)) set.1 set.2 set.0 c.end.ensures.call
