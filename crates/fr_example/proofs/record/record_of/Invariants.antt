use Rattle.std.proofs.Common.{◌≡◌, ℕ, ◌++◌, length}
use Rattle.std.specs.Vec.Iter.{into_iter_items, into_iter_len}
use Rattle.fr_partial.specs.Builder.{holds}
use Rattle.fr_example.proofs.Loop.{IsFilled}
use Rattle.fr_example.proofs.record.record_of.Given as goal

-- The struct is filled with the pairs so far, none of which was refused.
abbrev pub invariant-loop-pair : goal.invariant-loop-pair
invariant-loop-pair g l =
    record {
      pairs : l.fn.pairs ≡ l.yielded ++ into_iter_items l.pair-iterator;
      left : into_iter_len l.pair-iterator ≡ length (into_iter_items l.pair-iterator);
      shapes : l.partial.shapes ≡ l.table;
      hooks : l.partial.hooks ≡ l.fn.hooks;
      root : l.partial.root ≡ l.fn.root.0;
      filled : IsFilled l.table l.fn.root.0 l.fn.string.0 l.yielded l.partial.state;
      tokens : (t : ℕ) → holds l.partial t ≡ 0;
      ledger : l.ledger ≡ l.fn.ledger;
    }
