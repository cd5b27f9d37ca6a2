use Rattle.std.proofs.Common.{◌≡◌, ◌++◌}
use Rattle.std.specs.Prelude.{flat_map}
use Rattle.std.specs.Str.Iter.{lines_steps}
use Rattle.std.specs.Str.Lines.{lines}
use Rattle.fr_example.specs.Mentions.{mentions_in, mentions_of_line}
use Rattle.fr_example.proofs.LoadingTexts.{IsLeft}
use Rattle.fr_example.proofs.missing.mentions_in.Given as goal

-- What was found so far, and what the other lines bring, is all.
abbrev pub invariant-loop-line : goal.invariant-loop-line
invariant-loop-line l =
    IsLeft lines_steps (λ x. x.now) l.line-iterator
    (λ rest.
    l.mentions ++ flat_map (mentions_of_line l.table l.shape.0 l.wanted l.root.0) rest
    ≡ mentions_in l.table l.shape.0 l.wanted l.root.0 (lines l.text))
