use Rattle.std.proofs.Common.{◌∙◌, rules}
use Rattle.fr_shape.specs.declared.value.Value.TheFolds.{the_lemmas}
use Rattle.fr_shape.proofs.InTurn.{value_can_now, key_can_now, entry_can_now, values_can_next, values_next, entries_can_next, entries_next}
use Rattle.fr_shape.proofs.releasing.+releasing.Goals as goal

pub release_entries-loop-entry-preserved : goal.release_entries-loop-entry-preserved
release_entries-loop-entry-preserved t c =
    rw (c.release_value-in-loop-entry.ensures, c.release_value.ensures) record {
      can = entries_can_next c.as_slice-entry-items.result.now c.loop-entry.entry-index c.entry-item.result c.loop-entry-test.true c.entry-item.is c.loop-entry.ledger c.loop-entry.invariant.can;
      same_end = entries_next c.as_slice-entry-items.result.now c.loop-entry.entry-index c.entry-item.result c.loop-entry-test.true c.entry-item.is c.loop-entry.ledger ∙ c.loop-entry.invariant.same_end;
    }

pub release_values-loop-value-preserved : goal.release_values-loop-value-preserved
release_values-loop-value-preserved t c =
    rw c.release_value.ensures record {
      can = values_can_next c.as_slice-value-items.result.now c.loop-value.value-index c.value-item.result c.loop-value-test.true c.value-item.is c.loop-value.ledger c.loop-value.invariant.can;
      same_end = values_next c.as_slice-value-items.result.now c.loop-value.value-index c.value-item.result c.loop-value-test.true c.value-item.is c.loop-value.ledger ∙ c.loop-value.invariant.same_end;
    }

pub release_values-release_value-requires : goal.release_values-release_value-requires
release_values-release_value-requires t c = (
  search (rules, the_lemmas),
  value_can_now c.as_slice-value-items.result.now c.loop-value.value-index c.value-item.result c.loop-value-test.true c.value-item.is c.loop-value.ledger c.loop-value.invariant.can,
)

pub release_entries-release_value-requires : goal.release_entries-release_value-requires
release_entries-release_value-requires t c = (
  search (rules, the_lemmas),
  key_can_now c.as_slice-entry-items.result.now c.loop-entry.entry-index c.entry-item.result c.loop-entry-test.true c.entry-item.is c.loop-entry.ledger c.loop-entry.invariant.can,
)

pub release_entries-release_value-requires-in-loop-entry :
    goal.release_entries-release_value-requires-in-loop-entry
release_entries-release_value-requires-in-loop-entry t c = (
  search (rules, the_lemmas),
  rw c.release_value.ensures (entry_can_now c.as_slice-entry-items.result.now c.loop-entry.entry-index c.entry-item.result c.loop-entry-test.true c.entry-item.is c.loop-entry.ledger c.loop-entry.invariant.can),
)
