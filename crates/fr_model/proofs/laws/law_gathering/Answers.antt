use Rattle.fr_model.proofs.Common.{no_vals, no_entries}
use Rattle.fr_model.proofs.GatheredParts.{items_behind, none_left_behind, entries_behind, no_entry_left_behind}
use Rattle.fr_model.proofs.laws.law_gathering.Goals as goal

pub returns-clause-items : goal.returns-clause-items
returns-clause-items c = items_behind no_vals

pub returns-clause-items_out : goal.returns-clause-items_out
returns-clause-items_out c = none_left_behind no_vals

pub returns-clause-entries : goal.returns-clause-entries
returns-clause-entries c = entries_behind no_entries

pub returns-clause-entries_out : goal.returns-clause-entries_out
returns-clause-entries_out c = no_entry_left_behind no_entries
