use Rattle.std.proofs.Common.{◌≡◌, ℕ, map, take}
use Rattle.fr_values.specs.Common.{ByContents, view}
use Rattle.fr_values.proofs.Indexed.{with_value, keyed_of}
use Rattle.fr_values.proofs.value_index.sorted.Given as goal

abbrev pub invariant-loop-number : goal.invariant-loop-number
invariant-loop-number l = map keyed_of l.keyed.items ≡ map (with_value (map view l.values)) (take l.number-index l.numbers)

abbrev pub invariant-loop-entry : goal.invariant-loop-entry
invariant-loop-entry l = l.run.items ≡ map (λ (e : ByContents × ℕ). e.1) (take l.entry-index l.entry-items)
