use Rattle.std.proofs.Common.{take, drop}
use Rattle.fr_values.specs.Common.{Knows, keys_among}
use Rattle.fr_values.proofs.key_places.many_places.Given as goal

abbrev pub invariant-loop-i : goal.invariant-loop-i
invariant-loop-i l = Knows l.known (drop l.base (keys_among l.keys)) (take l.i (keys_among l.keys))
