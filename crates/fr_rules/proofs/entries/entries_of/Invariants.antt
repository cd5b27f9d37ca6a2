-- The entries so far, and then those of the fields to come, are the entries of all fields.
use Rattle.std.proofs.Common.{◌≡◌, ◌++◌, drop}
use Rattle.fr_rules.specs.Entries.{entries_of, entries_from}
use Rattle.fr_rules.proofs.entries.entries_of.Given as goal

abbrev pub invariant-loop-i : goal.invariant-loop-i
invariant-loop-i l = l.entries.items ++ entries_from l.i (drop l.i l.fields) ≡ entries_of l.fields
