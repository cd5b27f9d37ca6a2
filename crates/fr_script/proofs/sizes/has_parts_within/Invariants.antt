use Rattle.std.proofs.Common.{◌≡◌, ◌+◌, take}
use Rattle.fr_script.specs.Documents.{part_total}
use Rattle.fr_script.proofs.sizes.has_parts_within.Given as goal

-- what is left and what was counted off are together the limit
abbrev pub invariant-loop-id : goal.invariant-loop-id
invariant-loop-id l = l.left + part_total (take l.id l.table) ≡ l.limit
