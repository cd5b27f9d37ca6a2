use Rattle.std.proofs.Common.{◌≡◌, ℕ, ◌+◌, Some, sym, ◌∙◌, ap, rules}
use Rattle.std.specs.Str.Lines.{lines}
use Rattle.std.specs.Str.Iter.{lines_steps, lines_rest}
use Rattle.std.specs.Iterator.Adapters.{enumerate_source, enumerate_count}
use Rattle.std.proofs.lemmas.Iterator.Splits.{YieldsList-from_lines}
use Rattle.fr_example.specs.Loading.{first_no_pair}
use Rattle.fr_example.proofs.LoadingTexts.{found_from, found_at_start, found_here, found_later, left_after, left_none}
use Rattle.fr_example.proofs.loader.first_no_pair.Goals as goal

pub loop-before-init : goal.loop-before-init
loop-before-init c =
    let all : lines_rest (enumerate_source c.into_iter-before-iterator.result) ≡ c.args.text.now = cc in
    let none : enumerate_count c.into_iter-before-iterator.result ≡ 0 = cc in
    record {
      can = search rules;
      finite = search rules;
      left = record {
        rest = lines c.args.text.now;
        yields = (YieldsList-from_lines c.args.text.now all).runs;
        so = found_at_start (enumerate_count c.into_iter-before-iterator.result) (lines c.args.text.now) none;
      };
    }

pub returns-then-is_no_pair : goal.returns-then-is_no_pair
returns-then-is_no_pair c =
    let after = left_after lines_steps (λ x. x.now)
    (λ rest. found_from (enumerate_count c.loop-before.before-iterator) rest ≡ first_no_pair (lines c.args.text.now))
    (enumerate_source c.loop-before.before-iterator) (enumerate_source c.next.new.self) c.in-Some.line c.loop-before.invariant.left
    c.in-Some.ensures.steps.0 in
    ap (λ (n : ℕ). Some (n + 1)) c.in-Some.ensures.steps.1
    ∙ sym (found_here (enumerate_count c.loop-before.before-iterator) c.in-Some.line.now after.rest (sym c.is_no_pair.ensures ∙ c.if-is_no_pair.true))
    ∙ after.so

pub loop-before-preserved : goal.loop-before-preserved
loop-before-preserved c =
    let after = left_after lines_steps (λ x. x.now)
    (λ rest. found_from (enumerate_count c.loop-before.before-iterator) rest ≡ first_no_pair (lines c.args.text.now))
    (enumerate_source c.loop-before.before-iterator) (enumerate_source c.next.new.self) c.in-Some.line c.loop-before.invariant.left
    c.in-Some.ensures.steps.0 in
    record {
      can = search rules;
      finite = search rules;
      left = record {
        rest = after.rest;
        yields = after.yields;
        so =
            ap (λ (n : ℕ). found_from n after.rest) c.in-Some.ensures.steps.2
            ∙ sym (found_later (enumerate_count c.loop-before.before-iterator) c.in-Some.line.now after.rest (sym c.is_no_pair.ensures ∙ c.if-is_no_pair.false))
            ∙ after.so;
      };
    }

pub returns : goal.returns
returns c =
    left_none lines_steps (λ x. x.now)
    (λ rest. found_from (enumerate_count c.loop-before.before-iterator) rest ≡ first_no_pair (lines c.args.text.now))
    (enumerate_source c.loop-before.before-iterator) (enumerate_source c.next.new.self) c.loop-before.invariant.left c.in-None.ensures.steps.0
