use Rattle.std.proofs.Common.{◌≡◌, ◌+◌, None, Ok, Err, refl, ◌∙◌, rules}
use Rattle.std.specs.Iterator.Adapters.{enumerate_source, enumerate_count}
use Rattle.std.specs.Str.Iter.{lines_steps, lines_rest}
use Rattle.std.specs.Str.Lines.{lines}
use Rattle.std.proofs.lemmas.Iterator.Splits.{YieldsList-from_lines}
use Rattle.fr_model.specs.Run.{full_run}
use Rattle.fr_example.specs.Loading.{first_no_pair, calls_of_line, script_of}
use Rattle.fr_example.specs.declared.loader.LoadError.{LoadError}
use Rattle.fr_example.proofs.LoadingEnds.{IsReading, line_told, finish_told, value_told, build_told}
use Rattle.fr_example.proofs.LoadingTexts.{left_after, left_none}
use Rattle.fr_example.proofs.LoadingTold.{none_at_start, reads_none, reads_more, recounted, run_told, given_calls}
use Rattle.fr_example.proofs.TextsWithoutTokens.{stays, none_left, none_brought, no_room}
use Rattle.fr_example.proofs.loader.load.Goals as goal

pub loop-before-init : goal.loop-before-init
loop-before-init g c =
    let all : lines_rest (enumerate_source c.into_iter-before-iterator.result) ≡ c.args.text.now = cc in
    let none : enumerate_count c.into_iter-before-iterator.result ≡ 0 = cc in
    record {
      can = search rules;
      finite = search rules;
      over = record {
        shapes = c.enter_deferred-partial.ensures.shapes ∙ c.in-Ok.ensures.shapes;
        root = c.enter_deferred-partial.ensures.root ∙ c.in-Ok.ensures.root;
        hooks = c.enter_deferred-partial.ensures.hooks ∙ c.in-Ok.ensures.hooks;
      };
      left = record {
        rest = lines c.args.text.now;
        yields = (YieldsList-from_lines c.args.text.now all).runs;
        so =
            reads_none (g.H.Hooks.means c.args.hooks.now) c.args.table.now c.args.root.0 (lines c.args.text.now)
            (enumerate_count c.into_iter-before-iterator.result) c.in-Ok.first.state c.enter_deferred-partial.result.state none
            c.in-Ok.ensures.state c.enter_deferred-partial.ensures.state;
      };
      tokens =
          none_at_start c.args.table.now c.args.root.0 c.in-Ok.first.state c.enter_deferred-partial.result.state c.in-Ok.ensures.state
          c.enter_deferred-partial.ensures.state;
      ledger = refl;
    }

pub returns-in-Err-put_line-clause-meant : goal.returns-in-Err-put_line-clause-meant
returns-in-Err-put_line-clause-meant g c =
    let means = g.H.Hooks.means c.args.hooks.now in
    let after = left_after lines_steps (λ x. x.now)
    (IsReading means c.args.table.now c.args.root.0 (lines c.args.text.now) (enumerate_count c.loop-before.before-iterator) c.loop-before.partial.state)
    (enumerate_source c.loop-before.before-iterator) (enumerate_source c.next.new.self) c.in-Some-2.line c.loop-before.invariant.left
    c.in-Some-2.ensures.steps.0 in
    let told = line_told means c.args.table.now c.args.root.0 (lines c.args.text.now) c.in-Ok.ensures.refused g.H.Hooks.means c.args.hooks.now
    c.in-Some-2.before c.loop-before.partial c.in-Some-2.line.now after.rest c.in-Err-put_line.error refl
    c.loop-before.invariant.over
    (recounted means c.args.table.now c.args.root.0 (lines c.args.text.now) _ c.in-Some-2.before c.loop-before.partial.state _
    c.in-Some-2.ensures.steps.1 after.so)
    c.in-Err-put_line.ensures.steps in
    let good : None ≡ first_no_pair (lines c.args.text.now) = first_of (search rules, cc) in
    run_told (first_no_pair (lines c.args.text.now))
    (full_run means c.args.table.now c.args.root.0 (script_of (lines c.args.text.now)))
    (Err (LoadError.AtLine (c.in-Some-2.before + 1) c.in-Err-put_line.error)) good told.outcome

pub returns-in-Err-put_line-clause-line : goal.returns-in-Err-put_line-clause-line
returns-in-Err-put_line-clause-line g c =
    let means = g.H.Hooks.means c.args.hooks.now in
    let after = left_after lines_steps (λ x. x.now)
    (IsReading means c.args.table.now c.args.root.0 (lines c.args.text.now) (enumerate_count c.loop-before.before-iterator) c.loop-before.partial.state)
    (enumerate_source c.loop-before.before-iterator) (enumerate_source c.next.new.self) c.in-Some-2.line c.loop-before.invariant.left
    c.in-Some-2.ensures.steps.0 in
    let told = line_told means c.args.table.now c.args.root.0 (lines c.args.text.now) c.in-Ok.ensures.refused g.H.Hooks.means c.args.hooks.now
    c.in-Some-2.before c.loop-before.partial c.in-Some-2.line.now after.rest c.in-Err-put_line.error refl
    c.loop-before.invariant.over
    (recounted means c.args.table.now c.args.root.0 (lines c.args.text.now) _ c.in-Some-2.before c.loop-before.partial.state _
    c.in-Some-2.ensures.steps.1 after.so)
    c.in-Err-put_line.ensures.steps in
    told.number

pub loop-before-preserved : goal.loop-before-preserved
loop-before-preserved g c =
    let means = g.H.Hooks.means c.args.hooks.now in
    let after = left_after lines_steps (λ x. x.now)
    (IsReading means c.args.table.now c.args.root.0 (lines c.args.text.now) (enumerate_count c.loop-before.before-iterator) c.loop-before.partial.state)
    (enumerate_source c.loop-before.before-iterator) (enumerate_source c.next.new.self) c.in-Some-2.line c.loop-before.invariant.left
    c.in-Some-2.ensures.steps.0 in
    let steps = c.in-Ok-put_line.ensures.steps in
    record {
      can = search rules;
      finite = search rules;
      over = record {
        shapes = steps.1 ∙ c.loop-before.invariant.over.shapes;
        root = steps.2 ∙ c.loop-before.invariant.over.root;
        hooks = steps.3 ∙ c.loop-before.invariant.over.hooks;
      };
      left = record {
        rest = after.rest;
        yields = after.yields;
        so =
            reads_more means c.args.table.now c.args.root.0 (lines c.args.text.now) (enumerate_count c.loop-before.before-iterator)
            (enumerate_count c.next.new.self) c.loop-before.partial.state c.in-Ok-put_line.next.state c.in-Some-2.line.now after.rest
            c.in-Some-2.ensures.steps.2 after.so
            (given_calls g.H.Hooks.means c.args.hooks.now c.args.table.now c.args.root.0 c.loop-before.partial (calls_of_line c.in-Some-2.line.now)
            c.in-Ok-put_line.next.state
            c.loop-before.invariant.over steps.0);
      };
      tokens = c.in-Ok-put_line.ensures.tokens;
      ledger = c.put_line.ensures.released ∙ c.loop-before.invariant.ledger;
    }

pub build-requires : goal.build-requires
build-requires g c = record {
  room = no_room _ _ (none_left _ _ _ _ c.in-Ok-finish_deferred.ensures.call.tokens (none_brought _ c.loop-before.invariant.tokens));
}

pub returns-in-Err-finish_deferred-clause-meant : goal.returns-in-Err-finish_deferred-clause-meant
returns-in-Err-finish_deferred-clause-meant g c =
    let means = g.H.Hooks.means c.args.hooks.now in
    let all = left_none lines_steps (λ x. x.now)
    (IsReading means c.args.table.now c.args.root.0 (lines c.args.text.now) (enumerate_count c.loop-before.before-iterator) c.loop-before.partial.state)
    (enumerate_source c.loop-before.before-iterator) (enumerate_source c.next.new.self) c.loop-before.invariant.left
    c.in-None.ensures.steps.0 in
    let told = finish_told means c.args.table.now c.args.root.0 (lines c.args.text.now) c.in-Ok.ensures.refused g.H.Hooks.means c.args.hooks.now
    (enumerate_count c.loop-before.before-iterator) c.loop-before.partial c.in-Err-finish_deferred.error _ _ refl
    c.loop-before.invariant.over all c.in-Err-finish_deferred.ensures.call in
    let good : None ≡ first_no_pair (lines c.args.text.now) = first_of (search rules, cc) in
    run_told (first_no_pair (lines c.args.text.now))
    (full_run means c.args.table.now c.args.root.0 (script_of (lines c.args.text.now)))
    (Err (LoadError.Unfinished c.in-Err-finish_deferred.error)) good told.outcome

pub returns-in-Err-finish_deferred-clause-line : goal.returns-in-Err-finish_deferred-clause-line
returns-in-Err-finish_deferred-clause-line g c =
    let means = g.H.Hooks.means c.args.hooks.now in
    let all = left_none lines_steps (λ x. x.now)
    (IsReading means c.args.table.now c.args.root.0 (lines c.args.text.now) (enumerate_count c.loop-before.before-iterator) c.loop-before.partial.state)
    (enumerate_source c.loop-before.before-iterator) (enumerate_source c.next.new.self) c.loop-before.invariant.left
    c.in-None.ensures.steps.0 in
    let told = finish_told means c.args.table.now c.args.root.0 (lines c.args.text.now) c.in-Ok.ensures.refused g.H.Hooks.means c.args.hooks.now
    (enumerate_count c.loop-before.before-iterator) c.loop-before.partial c.in-Err-finish_deferred.error _ _ refl
    c.loop-before.invariant.over all c.in-Err-finish_deferred.ensures.call in
    told.number

pub returns-in-Err-finish_deferred-clause-released : goal.returns-in-Err-finish_deferred-clause-released
returns-in-Err-finish_deferred-clause-released g c =
    stays _ _ _ _ c.finish_deferred.ensures.call.tokens (none_brought _ c.loop-before.invariant.tokens) ∙ c.loop-before.invariant.ledger

pub returns-in-Ok-build-clause-meant : goal.returns-in-Ok-build-clause-meant
returns-in-Ok-build-clause-meant g c =
    let means = g.H.Hooks.means c.args.hooks.now in
    let all = left_none lines_steps (λ x. x.now)
    (IsReading means c.args.table.now c.args.root.0 (lines c.args.text.now) (enumerate_count c.loop-before.before-iterator) c.loop-before.partial.state)
    (enumerate_source c.loop-before.before-iterator) (enumerate_source c.next.new.self) c.loop-before.invariant.left
    c.in-None.ensures.steps.0 in
    let told = value_told means c.args.table.now c.args.root.0 (lines c.args.text.now) c.in-Ok.ensures.refused g.H.Hooks.means c.args.hooks.now
    (enumerate_count c.loop-before.before-iterator) c.loop-before.partial c.in-Ok-finish_deferred.whole _ _ refl
    c.loop-before.invariant.over all c.in-Ok-finish_deferred.ensures.call c.in-Ok-build.built _ _ c.in-Ok-build.ensures.build in
    let good : None ≡ first_no_pair (lines c.args.text.now) = first_of (search rules, cc) in
    run_told (first_no_pair (lines c.args.text.now))
    (full_run means c.args.table.now c.args.root.0 (script_of (lines c.args.text.now)))
    (Ok c.in-Ok-build.built) good told

pub returns-in-Ok-build-clause-released : goal.returns-in-Ok-build-clause-released
returns-in-Ok-build-clause-released g c =
    stays _ _ _ _ c.build.ensures.build.tokens
    (none_left _ _ _ _ c.in-Ok-finish_deferred.ensures.call.tokens (none_brought _ c.loop-before.invariant.tokens))
    ∙ stays _ _ _ _ c.finish_deferred.ensures.call.tokens (none_brought _ c.loop-before.invariant.tokens) ∙ c.loop-before.invariant.ledger

pub returns-in-Err-build-clause-meant : goal.returns-in-Err-build-clause-meant
returns-in-Err-build-clause-meant g c =
    let means = g.H.Hooks.means c.args.hooks.now in
    let all = left_none lines_steps (λ x. x.now)
    (IsReading means c.args.table.now c.args.root.0 (lines c.args.text.now) (enumerate_count c.loop-before.before-iterator) c.loop-before.partial.state)
    (enumerate_source c.loop-before.before-iterator) (enumerate_source c.next.new.self) c.loop-before.invariant.left
    c.in-None.ensures.steps.0 in
    let told = build_told means c.args.table.now c.args.root.0 (lines c.args.text.now) c.in-Ok.ensures.refused g.H.Hooks.means c.args.hooks.now
    (enumerate_count c.loop-before.before-iterator) c.loop-before.partial c.in-Ok-finish_deferred.whole _ _ refl
    c.loop-before.invariant.over all c.in-Ok-finish_deferred.ensures.call c.in-Err-build.error _ _ c.in-Err-build.ensures.build in
    let good : None ≡ first_no_pair (lines c.args.text.now) = first_of (search rules, cc) in
    run_told (first_no_pair (lines c.args.text.now))
    (full_run means c.args.table.now c.args.root.0 (script_of (lines c.args.text.now)))
    (Err (LoadError.Unfinished c.in-Err-build.error)) good told.outcome

pub returns-in-Err-build-clause-line : goal.returns-in-Err-build-clause-line
returns-in-Err-build-clause-line g c =
    let means = g.H.Hooks.means c.args.hooks.now in
    let all = left_none lines_steps (λ x. x.now)
    (IsReading means c.args.table.now c.args.root.0 (lines c.args.text.now) (enumerate_count c.loop-before.before-iterator) c.loop-before.partial.state)
    (enumerate_source c.loop-before.before-iterator) (enumerate_source c.next.new.self) c.loop-before.invariant.left
    c.in-None.ensures.steps.0 in
    let told = build_told means c.args.table.now c.args.root.0 (lines c.args.text.now) c.in-Ok.ensures.refused g.H.Hooks.means c.args.hooks.now
    (enumerate_count c.loop-before.before-iterator) c.loop-before.partial c.in-Ok-finish_deferred.whole _ _ refl
    c.loop-before.invariant.over all c.in-Ok-finish_deferred.ensures.call c.in-Err-build.error _ _ c.in-Err-build.ensures.build in
    told.number

pub returns-in-Err-build-clause-released : goal.returns-in-Err-build-clause-released
returns-in-Err-build-clause-released g c =
    stays _ _ _ _ c.build.ensures.build.tokens
    (none_left _ _ _ _ c.in-Ok-finish_deferred.ensures.call.tokens (none_brought _ c.loop-before.invariant.tokens))
    ∙ stays _ _ _ _ c.finish_deferred.ensures.call.tokens (none_brought _ c.loop-before.invariant.tokens) ∙ c.loop-before.invariant.ledger
