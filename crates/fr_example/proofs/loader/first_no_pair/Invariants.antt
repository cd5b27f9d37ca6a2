use Rattle.std.proofs.Common.{◌≡◌}
use Rattle.std.specs.Str.Lines.{lines}
use Rattle.std.specs.Str.Iter.{lines_steps}
use Rattle.std.specs.Iterator.Adapters.{enumerate_source, enumerate_count}
use Rattle.fr_example.specs.Loading.{first_no_pair}
use Rattle.fr_example.proofs.LoadingTexts.{IsLeft, found_from}
use Rattle.fr_example.proofs.loader.first_no_pair.Given as goal

abbrev pub invariant-loop-before : goal.invariant-loop-before
invariant-loop-before l =
    record {
      can : goal.iterator-loop-before.can_next l.before-iterator;
      finite : goal.iterator-loop-before.is_finite l.before-iterator;
      left :
          IsLeft lines_steps (λ x. x.now) (enumerate_source l.before-iterator)
          (λ rest. found_from (enumerate_count l.before-iterator) rest ≡ first_no_pair (lines l.text));
    }
