use Rattle.std.proofs.Common.{◌≡◌, ℕ}
use Rattle.std.specs.Iterator.Adapters.{enumerate_source, enumerate_count}
use Rattle.std.specs.Str.Iter.{lines_steps}
use Rattle.std.specs.Str.Lines.{lines}
use Rattle.fr_partial.specs.Builder.{holds}
use Rattle.fr_example.proofs.LoadingCalls.{IsOver}
use Rattle.fr_example.proofs.LoadingEnds.{IsReading}
use Rattle.fr_example.proofs.LoadingTexts.{IsLeft}
use Rattle.fr_example.proofs.loader.load.Given as goal

-- The lines so far were taken.
abbrev pub invariant-loop-before : goal.invariant-loop-before
invariant-loop-before g l =
    record {
      can : (goal.iterator-loop-before g).can_next l.before-iterator;
      finite : (goal.iterator-loop-before g).is_finite l.before-iterator;
      over : IsOver l.table l.fn.root.0 l.fn.hooks l.partial;
      left :
          IsLeft lines_steps (λ x. x.now) (enumerate_source l.before-iterator)
          (IsReading (g.H.Hooks.means l.fn.hooks) l.table l.fn.root.0 (lines l.text) (enumerate_count l.before-iterator) l.partial.state);
      tokens : (t : ℕ) → holds l.partial t ≡ 0;
      ledger : l.ledger ≡ l.fn.ledger;
    }
