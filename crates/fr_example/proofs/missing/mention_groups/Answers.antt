use Rattle.std.proofs.Common.{◌≡◌, ℕ, ◌==◌, true, ◌++◌, ◌∷◌, [], List, ◌∙◌, ap, lit<, string_bytes}
use Rattle.std.specs.List.{slice_split}
use Rattle.std.specs.Str.Iter.{split_steps, split_text, split_has_more, split_pattern}
use Rattle.std.specs.Str.Pattern.{FindsChar}
use Rattle.std.proofs.lemmas.Iterator.Splits.{YieldsList-from_str_split}
use Rattle.fr_example.specs.Mentions.{mentions_from}
use Rattle.fr_example.proofs.GroupsLedThrough.{IsAllNoted, noted_all, noted_last, noted_more, noted_none}
use Rattle.fr_example.proofs.LoadingTexts.{left_after, left_none}
use Rattle.fr_example.proofs.missing.mention_groups.Goals as goal

pub loop-name-init : goal.loop-name-init
loop-name-init c =
    let text : split_text c.into_iter-name-iterator.result ≡ c.args.key.now = cc in
    let more : split_has_more c.into_iter-name-iterator.result ≡ true = cc in
    let pattern : split_pattern c.into_iter-name-iterator.result ≡ 46 = cc in
    record {
      rest = slice_split (λ b. b == 46) c.args.key.now;
      yields = (YieldsList-from_str_split 46 c.args.key.now (lit< tt) text more pattern).runs;
      so =
          noted_none c.args.table.now c.args.shape.0 c.args.wanted.now c.args.mentions.now (string_bytes c.new-group.result) c.args.root.0
          (slice_split (λ b. b == 46) c.args.key.now) c.new-group.ensures.bytes;
    }

pub loop-name-preserved : goal.loop-name-preserved
loop-name-preserved c =
    let all = c.args.mentions.now ++ mentions_from c.args.table.now c.args.shape.0 c.args.wanted.now c.args.root.0 (slice_split (λ (b : ℕ). b == 46) c.args.key.now) in
    let after = left_after (split_steps FindsChar (λ a b. b ≡ a)) (λ x. x.now)
    (IsAllNoted c.args.table.now c.args.shape.0 c.args.wanted.now all c.loop-name.mentions (string_bytes c.loop-name.group) c.loop-name.at.0)
    c.loop-name.name-iterator c.next.new.self c.in-Some.name c.loop-name.invariant c.in-Some.ensures.steps in
    record {
      rest = after.rest;
      yields = after.yields;
      so =
          noted_more c.args.table.now c.args.shape.0 c.args.wanted.now all c.loop-name.mentions c.mention_here.new.mentions
          (string_bytes c.loop-name.group) c.as_str.result.now c.in-Some.name.now c.loop-name.at.0 c.eq-named.result
          c.in_ok-mention_here.ensures c.as_str.ensures.value c.eq-named.ensures c.in-Some-shape_below.below.0
          (string_bytes c.push_str-in-loop-name.new.self) after.rest c.in-Some-shape_below.ensures
          (c.in_ok-push_str-2.ensures.bytes ∙ ap (λ (bytes : List ℕ). bytes ++ 46 ∷ []) c.in_ok-push_str.ensures.bytes)
          after.so;
    }

pub returns-in-None-shape_below : goal.returns-in-None-shape_below
returns-in-None-shape_below c =
    let all = c.args.mentions.now ++ mentions_from c.args.table.now c.args.shape.0 c.args.wanted.now c.args.root.0 (slice_split (λ (b : ℕ). b == 46) c.args.key.now) in
    let after = left_after (split_steps FindsChar (λ a b. b ≡ a)) (λ x. x.now)
    (IsAllNoted c.args.table.now c.args.shape.0 c.args.wanted.now all c.loop-name.mentions (string_bytes c.loop-name.group) c.loop-name.at.0)
    c.loop-name.name-iterator c.next.new.self c.in-Some.name c.loop-name.invariant c.in-Some.ensures.steps in
    noted_last c.args.table.now c.args.shape.0 c.args.wanted.now all c.loop-name.mentions c.mention_here.new.mentions
    (string_bytes c.loop-name.group) c.as_str.result.now c.in-Some.name.now c.loop-name.at.0 c.eq-named.result
    c.in_ok-mention_here.ensures c.as_str.ensures.value c.eq-named.ensures after.rest c.in-None-shape_below.ensures after.so

pub returns : goal.returns
returns c =
    let all = c.args.mentions.now ++ mentions_from c.args.table.now c.args.shape.0 c.args.wanted.now c.args.root.0 (slice_split (λ (b : ℕ). b == 46) c.args.key.now) in
    noted_all c.args.table.now c.args.shape.0 c.args.wanted.now all c.loop-name.mentions (string_bytes c.loop-name.group) c.loop-name.at.0
    (left_none (split_steps FindsChar (λ a b. b ≡ a)) (λ x. x.now)
    (IsAllNoted c.args.table.now c.args.shape.0 c.args.wanted.now all c.loop-name.mentions (string_bytes c.loop-name.group) c.loop-name.at.0)
    c.loop-name.name-iterator c.next.new.self c.loop-name.invariant c.in-None.ensures.steps)
