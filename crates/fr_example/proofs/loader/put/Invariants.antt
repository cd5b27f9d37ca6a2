use Rattle.std.proofs.Common.{◌≡◌, ◌==◌, ℕ}
use Rattle.std.specs.List.{slice_split}
use Rattle.std.specs.Str.Iter.{split_steps}
use Rattle.std.specs.Str.Pattern.{FindsChar}
use Rattle.fr_partial.specs.Builder.{holds}
use Rattle.fr_example.proofs.LoadingCalls.{IsOver, IsThrough, entering, leaving}
use Rattle.fr_example.proofs.LoadingTexts.{IsLeft}
use Rattle.fr_example.proofs.loader.put.Given as goal

-- The names so far were entered.
abbrev pub invariant-loop-name : goal.invariant-loop-name
invariant-loop-name g l =
    record {
      over : IsOver l.fn.partial.shapes l.fn.partial.root l.fn.partial.hooks l.partial;
      plan : l.partial.plan ≡ l.fn.partial.plan;
      left :
          IsLeft (split_steps FindsChar (λ a b. b ≡ a)) (λ x. x.now) l.name-iterator
          (IsThrough (g.H.Hooks.means l.fn.partial.hooks) l.fn.partial.shapes l.fn.partial.root l.fn.partial.state entering
          (slice_split (λ b. b == 46) l.key) l.partial.state);
      tokens : (t : ℕ) → holds l.partial t ≡ 0;
      ledger : l.ledger ≡ l.fn.ledger;
    }

-- All were entered, the value was parsed, and so many were left.
abbrev pub invariant-loop-name-2 : goal.invariant-loop-name-2
invariant-loop-name-2 g l =
    record {
      over : IsOver l.fn.partial.shapes l.fn.partial.root l.fn.partial.hooks l.partial;
      plan : l.partial.plan ≡ l.fn.partial.plan;
      left :
          IsLeft (split_steps FindsChar (λ a b. b ≡ a)) (λ x. x.now) l._name-iterator
          (IsThrough (g.H.Hooks.means l.fn.partial.hooks) l.fn.partial.shapes l.fn.partial.root l.fn.partial.state
          (leaving (slice_split (λ b. b == 46) l.key) l.value) (slice_split (λ b. b == 46) l.key) l.partial.state);
      tokens : (t : ℕ) → holds l.partial t ≡ 0;
      ledger : l.ledger ≡ l.fn.ledger;
    }
