use Rattle.std.proofs.Common.{◌≡◌, ◌==◌, ◌++◌, string_bytes}
use Rattle.std.specs.List.{slice_split}
use Rattle.std.specs.Str.Iter.{split_steps}
use Rattle.std.specs.Str.Pattern.{FindsChar}
use Rattle.fr_example.specs.Mentions.{mentions_from}
use Rattle.fr_example.proofs.GroupsLedThrough.{IsAllNoted}
use Rattle.fr_example.proofs.LoadingTexts.{IsLeft}
use Rattle.fr_example.proofs.missing.mention_groups.Given as goal

abbrev pub invariant-loop-name : goal.invariant-loop-name
invariant-loop-name l =
    IsLeft (split_steps FindsChar (λ a b. b ≡ a)) (λ x. x.now) l.name-iterator
    (IsAllNoted l.table l.shape.0 l.wanted
    (l.fn.mentions ++ mentions_from l.table l.shape.0 l.wanted l.fn.root.0 (slice_split (λ b. b == 46) l.key)) l.mentions
    (string_bytes l.group) l.at.0)
