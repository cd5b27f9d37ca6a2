use Rattle.std.proofs.Common.{◌≡◌, ◌==◌, ℕ, true, ◌++◌, ◌∷◌, map, Ok, refl, ◌∙◌, lit<, rules}
use Rattle.std.specs.List.{slice_split}
use Rattle.std.specs.Str.Iter.{split_steps, split_text, split_has_more, split_pattern}
use Rattle.std.specs.Str.Pattern.{FindsChar}
use Rattle.std.proofs.lemmas.Iterator.Splits.{YieldsList-from_str_split}
use Rattle.fr_model.specs.Commands.{Call}
use Rattle.fr_example.specs.Loading.{calls_of_pair}
use Rattle.fr_partial.specs.Several.{StopsAtOne, AreSteps}
use Rattle.fr_example.proofs.LoadingCalls.{IsThrough, stops, led_on, over_after, over_itself, through_none, through_more, all_through, entering, leaving, entering_more, leaving_more, stops_entering, stops_leaving}
use Rattle.fr_example.proofs.LoadingTexts.{left_after, left_none}
use Rattle.fr_example.proofs.TextsWithoutTokens.{none_brought, stays, none_left, no_room}
use Rattle.fr_example.proofs.loader.put.Goals as goal

pub loop-name-init : goal.loop-name-init
loop-name-init g c =
    let text : split_text c.into_iter-name-iterator.result ≡ c.args.key.now = cc in
    let more : split_has_more c.into_iter-name-iterator.result ≡ true = cc in
    let pattern : split_pattern c.into_iter-name-iterator.result ≡ 46 = cc in
    record {
      over = over_itself c.args.partial;
      plan = refl;
      left = record {
        rest = slice_split (λ b. b == 46) c.args.key.now;
        yields = (YieldsList-from_str_split 46 c.args.key.now (lit< tt) text more pattern).runs;
        so =
            through_none (g.H.Hooks.means c.args.partial.hooks) c.args.partial.shapes c.args.partial.root c.args.partial.state entering
            (slice_split (λ b. b == 46) c.args.key.now) c.args.partial.state refl;
      };
      tokens = c.requires.tokens;
      ledger = refl;
    }

pub begin_field-requires : goal.begin_field-requires
begin_field-requires g c = record { room = no_room _ _ c.loop-name.invariant.tokens }

pub returns-in_err-partial-clause-released : goal.returns-in_err-partial-clause-released
returns-in_err-partial-clause-released g c =
    stays _ _ _ _ c.begin_field.ensures.call.tokens (none_brought _ c.loop-name.invariant.tokens) ∙ c.loop-name.invariant.ledger

pub returns-in_err-partial-clause-steps : goal.returns-in_err-partial-clause-steps
returns-in_err-partial-clause-steps g c =
    let first = c.args.partial in
    let names = slice_split (λ (b : ℕ). b == 46) c.args.key.now in
    let after = left_after (split_steps FindsChar (λ a b. b ≡ a)) (λ x. x.now)
    (IsThrough (g.H.Hooks.means first.hooks) first.shapes first.root first.state entering names c.loop-name.partial.state)
    c.loop-name.name-iterator c.next.new.self c.in-Some.name c.loop-name.invariant.left c.in-Some.ensures.steps in
    let stopped : StopsAtOne (g.H.Hooks.means first.hooks) first (calls_of_pair names c.args.value.now) c.in_err-partial.field-0.0
    = stops g.H.Hooks.means first.shapes first.root first.hooks first c.loop-name.partial (calls_of_pair names c.args.value.now)
    (entering after.so.done) (Call.BeginField c.in-Some.name.now)
    (map Call.BeginField after.rest ++ Call.ParseFromStr c.args.value.now ∷ map (λ n. Call.End) names) c.in_err-partial.field-0.0 _ _ (over_itself first)
    c.loop-name.invariant.over (stops_entering names c.args.value.now after.so.done c.in-Some.name.now after.rest after.so.in_order)
    after.so.led c.in_err-partial.ensures.call in
    search rules

pub loop-name-preserved : goal.loop-name-preserved
loop-name-preserved g c =
    let first = c.args.partial in
    let names = slice_split (λ (b : ℕ). b == 46) c.args.key.now in
    let after = left_after (split_steps FindsChar (λ a b. b ≡ a)) (λ x. x.now)
    (IsThrough (g.H.Hooks.means first.hooks) first.shapes first.root first.state entering names c.loop-name.partial.state)
    c.loop-name.name-iterator c.next.new.self c.in-Some.name c.loop-name.invariant.left c.in-Some.ensures.steps in
    record {
      over =
          over_after g.H.Hooks.means first.shapes first.root first.hooks c.loop-name.partial c.in_ok-partial.partial
          (Call.BeginField c.in-Some.name.now) _ _ c.loop-name.invariant.over c.in_ok-partial.ensures.call;
      plan = c.in_ok-partial.ensures.call.step.4 ∙ c.loop-name.invariant.plan;
      left = record {
        rest = after.rest;
        yields = after.yields;
        so =
            through_more g.H.Hooks.means first.shapes first.root first.hooks first.state entering Call.BeginField entering_more names
            c.loop-name.partial c.in_ok-partial.partial c.in-Some.name.now after.rest _ _ c.loop-name.invariant.over after.so
            c.in_ok-partial.ensures.call;
      };
      tokens = none_left _ _ _ _ c.in_ok-partial.ensures.call.tokens (none_brought _ c.loop-name.invariant.tokens);
      ledger =
          stays _ _ _ _ c.begin_field.ensures.call.tokens (none_brought _ c.loop-name.invariant.tokens) ∙ c.loop-name.invariant.ledger;
    }

pub parse_from_str-requires : goal.parse_from_str-requires
parse_from_str-requires g c = record { room = no_room _ _ c.loop-name.invariant.tokens }

pub returns-in_err-partial-2-clause-released : goal.returns-in_err-partial-2-clause-released
returns-in_err-partial-2-clause-released g c =
    stays _ _ _ _ c.parse_from_str.ensures.call.tokens (none_brought _ c.loop-name.invariant.tokens) ∙ c.loop-name.invariant.ledger

pub returns-in_err-partial-2-clause-steps : goal.returns-in_err-partial-2-clause-steps
returns-in_err-partial-2-clause-steps g c =
    let first = c.args.partial in
    let names = slice_split (λ (b : ℕ). b == 46) c.args.key.now in
    let all = left_none (split_steps FindsChar (λ a b. b ≡ a)) (λ x. x.now)
    (IsThrough (g.H.Hooks.means first.hooks) first.shapes first.root first.state entering names c.loop-name.partial.state)
    c.loop-name.name-iterator c.next.new.self c.loop-name.invariant.left c.in-None.ensures.steps in
    let stopped : StopsAtOne (g.H.Hooks.means first.hooks) first (calls_of_pair names c.args.value.now) c.in_err-partial-2.field-0.0
    = stops g.H.Hooks.means first.shapes first.root first.hooks first c.loop-name.partial (calls_of_pair names c.args.value.now)
    (entering names) (Call.ParseFromStr c.args.value.now) (map (λ n. Call.End) names) c.in_err-partial-2.field-0.0 _ _ (over_itself first)
    c.loop-name.invariant.over refl
    (all_through (g.H.Hooks.means first.hooks) first.shapes first.root first.state entering names c.loop-name.partial.state all)
    c.in_err-partial-2.ensures.call in
    search rules

pub loop-name-2-init : goal.loop-name-2-init
loop-name-2-init g c =
    let first = c.args.partial in
    let names = slice_split (λ (b : ℕ). b == 46) c.args.key.now in
    let all = left_none (split_steps FindsChar (λ a b. b ≡ a)) (λ x. x.now)
    (IsThrough (g.H.Hooks.means first.hooks) first.shapes first.root first.state entering names c.loop-name.partial.state)
    c.loop-name.name-iterator c.next.new.self c.loop-name.invariant.left c.in-None.ensures.steps in
    let text : split_text c.into_iter-name-iterator-2.result ≡ c.args.key.now = cc in
    let more : split_has_more c.into_iter-name-iterator-2.result ≡ true = cc in
    let pattern : split_pattern c.into_iter-name-iterator-2.result ≡ 46 = cc in
    record {
      over =
          over_after g.H.Hooks.means first.shapes first.root first.hooks c.loop-name.partial c.in_ok-partial-2.partial
          (Call.ParseFromStr c.args.value.now) _ _ c.loop-name.invariant.over c.in_ok-partial-2.ensures.call;
      plan = c.in_ok-partial-2.ensures.call.step.4 ∙ c.loop-name.invariant.plan;
      left = record {
        rest = names;
        yields = (YieldsList-from_str_split 46 c.args.key.now (lit< tt) text more pattern).runs;
        so =
            through_none (g.H.Hooks.means first.hooks) first.shapes first.root first.state (leaving names c.args.value.now) names
            c.in_ok-partial-2.partial.state
            (led_on g.H.Hooks.means first.shapes first.root first.hooks first.state (entering names) c.loop-name.partial
            c.in_ok-partial-2.partial (Call.ParseFromStr c.args.value.now) _ _ c.loop-name.invariant.over
            (all_through (g.H.Hooks.means first.hooks) first.shapes first.root first.state entering names c.loop-name.partial.state all)
            c.in_ok-partial-2.ensures.call);
      };
      tokens = none_left _ _ _ _ c.in_ok-partial-2.ensures.call.tokens (none_brought _ c.loop-name.invariant.tokens);
      ledger =
          stays _ _ _ _ c.parse_from_str.ensures.call.tokens (none_brought _ c.loop-name.invariant.tokens) ∙ c.loop-name.invariant.ledger;
    }

pub end-requires : goal.end-requires
end-requires g c = record { room = no_room _ _ c.loop-name-2.invariant.tokens }

pub returns-in_err-partial-3-clause-released : goal.returns-in_err-partial-3-clause-released
returns-in_err-partial-3-clause-released g c =
    stays _ _ _ _ c.end.ensures.call.tokens (none_brought _ c.loop-name-2.invariant.tokens) ∙ c.loop-name-2.invariant.ledger

pub returns-in_err-partial-3-clause-steps : goal.returns-in_err-partial-3-clause-steps
returns-in_err-partial-3-clause-steps g c =
    let first = c.args.partial in
    let names = slice_split (λ (b : ℕ). b == 46) c.args.key.now in
    let after = left_after (split_steps FindsChar (λ a b. b ≡ a)) (λ x. x.now)
    (IsThrough (g.H.Hooks.means first.hooks) first.shapes first.root first.state (leaving names c.args.value.now) names c.loop-name-2.partial.state)
    c.loop-name-2._name-iterator c.next-in-loop-name-2.new.self c.in-Some-_name._name c.loop-name-2.invariant.left c.in-Some-_name.ensures.steps in
    let stopped : StopsAtOne (g.H.Hooks.means first.hooks) first (calls_of_pair names c.args.value.now) c.in_err-partial-3.field-0.0
    = stops g.H.Hooks.means first.shapes first.root first.hooks first c.loop-name-2.partial (calls_of_pair names c.args.value.now)
    (leaving names c.args.value.now after.so.done) Call.End (map (λ n. Call.End) after.rest) c.in_err-partial-3.field-0.0 _ _ (over_itself first)
    c.loop-name-2.invariant.over (stops_leaving names c.args.value.now after.so.done c.in-Some-_name._name.now after.rest after.so.in_order)
    after.so.led c.in_err-partial-3.ensures.call in
    search rules

pub loop-name-2-preserved : goal.loop-name-2-preserved
loop-name-2-preserved g c =
    let first = c.args.partial in
    let names = slice_split (λ (b : ℕ). b == 46) c.args.key.now in
    let after = left_after (split_steps FindsChar (λ a b. b ≡ a)) (λ x. x.now)
    (IsThrough (g.H.Hooks.means first.hooks) first.shapes first.root first.state (leaving names c.args.value.now) names c.loop-name-2.partial.state)
    c.loop-name-2._name-iterator c.next-in-loop-name-2.new.self c.in-Some-_name._name c.loop-name-2.invariant.left c.in-Some-_name.ensures.steps in
    record {
      over =
          over_after g.H.Hooks.means first.shapes first.root first.hooks c.loop-name-2.partial c.in_ok-partial-3.partial
          Call.End _ _ c.loop-name-2.invariant.over c.in_ok-partial-3.ensures.call;
      plan = c.in_ok-partial-3.ensures.call.step.4 ∙ c.loop-name-2.invariant.plan;
      left = record {
        rest = after.rest;
        yields = after.yields;
        so =
            through_more g.H.Hooks.means first.shapes first.root first.hooks first.state (leaving names c.args.value.now) (λ n. Call.End)
            (leaving_more names c.args.value.now) names c.loop-name-2.partial c.in_ok-partial-3.partial c.in-Some-_name._name.now after.rest _ _
            c.loop-name-2.invariant.over after.so c.in_ok-partial-3.ensures.call;
      };
      tokens = none_left _ _ _ _ c.in_ok-partial-3.ensures.call.tokens (none_brought _ c.loop-name-2.invariant.tokens);
      ledger =
          stays _ _ _ _ c.end.ensures.call.tokens (none_brought _ c.loop-name-2.invariant.tokens) ∙ c.loop-name-2.invariant.ledger;
    }

pub returns-clause-steps : goal.returns-clause-steps
returns-clause-steps g c =
    let first = c.args.partial in
    let names = slice_split (λ (b : ℕ). b == 46) c.args.key.now in
    let all = left_none (split_steps FindsChar (λ a b. b ≡ a)) (λ x. x.now)
    (IsThrough (g.H.Hooks.means first.hooks) first.shapes first.root first.state (leaving names c.args.value.now) names c.loop-name-2.partial.state)
    c.loop-name-2._name-iterator c.next-in-loop-name-2.new.self c.loop-name-2.invariant.left c.in-None-_name.ensures.steps in
    let steps : AreSteps (g.H.Hooks.means first.hooks) first (calls_of_pair names c.args.value.now) (Ok c.loop-name-2.partial)
    = (
      all_through (g.H.Hooks.means first.hooks) first.shapes first.root first.state (leaving names c.args.value.now) names c.loop-name-2.partial.state all,
      c.loop-name-2.invariant.over.shapes,
      c.loop-name-2.invariant.over.root,
      c.loop-name-2.invariant.over.hooks,
      c.loop-name-2.invariant.plan,
    ) in
    search rules
