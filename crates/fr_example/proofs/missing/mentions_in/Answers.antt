use Rattle.std.proofs.Common.{◌≡◌, ◌++◌, List, false, append_assoc, append-nil, sym, ◌∙◌, ap}
use Rattle.std.specs.Prelude.{flat_map}
use Rattle.std.specs.Str.Iter.{lines_steps, lines_rest}
use Rattle.std.specs.Str.Lines.{lines}
use Rattle.std.proofs.lemmas.Iterator.Splits.{YieldsList-from_lines}
use Rattle.fr_example.specs.declared.missing.Mention.{Mention}
use Rattle.fr_example.specs.Mentions.{mention_here, mentions_in, mentions_of_line}
use Rattle.fr_example.proofs.LoadingTexts.{left_after, left_none}
use Rattle.fr_example.proofs.missing.mentions_in.Goals as goal

pub loop-line-init : goal.loop-line-init
loop-line-init c =
    let all : lines_rest c.into_iter-line-iterator.result ≡ c.args.text.now = cc in
    record {
      rest = lines c.args.text.now;
      yields = (YieldsList-from_lines c.args.text.now all).runs;
      so =
          ap (λ (ms : List Mention). ms ++ flat_map (mentions_of_line c.args.table.now c.args.shape.0 c.args.wanted.now c.args.root.0) (lines c.args.text.now))
          (c.in_ok-mention_here.ensures
          ∙ ap (λ (ms : List Mention). ms ++ mention_here c.args.shape.0 c.args.root.0 c.args.wanted.now false) c.new-mentions.ensures.empty);
    }

pub loop-line-preserved : goal.loop-line-preserved
loop-line-preserved c =
    let of_line = mentions_of_line c.args.table.now c.args.shape.0 c.args.wanted.now c.args.root.0 in
    let after = left_after lines_steps (λ x. x.now)
    (λ rest. c.loop-line.mentions ++ flat_map of_line rest
    ≡ mentions_in c.args.table.now c.args.shape.0 c.args.wanted.now c.args.root.0 (lines c.args.text.now))
    c.loop-line.line-iterator c.next.new.self c.in-Some.line c.loop-line.invariant c.in-Some.ensures.steps in
    record {
      rest = after.rest;
      yields = after.yields;
      so =
          ap (λ (ms : List Mention). ms ++ flat_map of_line after.rest) c.in_ok-mention_line.ensures
          ∙ append_assoc c.loop-line.mentions (of_line c.in-Some.line.now) (flat_map of_line after.rest)
          ∙ after.so;
    }

pub returns : goal.returns
returns c =
    let of_line = mentions_of_line c.args.table.now c.args.shape.0 c.args.wanted.now c.args.root.0 in
    sym (append-nil c.loop-line.mentions)
    ∙ left_none lines_steps (λ x. x.now)
    (λ rest. c.loop-line.mentions ++ flat_map of_line rest
    ≡ mentions_in c.args.table.now c.args.shape.0 c.args.wanted.now c.args.root.0 (lines c.args.text.now))
    c.loop-line.line-iterator c.next.new.self c.loop-line.invariant c.in-None.ensures.steps
