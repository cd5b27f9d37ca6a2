use Rattle.std.proofs.Common.{take, drop}
use Rattle.fr_values.specs.Common.{HasKeys, keys_among}
use Rattle.fr_values.proofs.key_places.new_keys.Given as goal

abbrev pub invariant-loop-i : goal.invariant-loop-i
invariant-loop-i l = HasKeys l.new (take l.i (drop l.base (keys_among l.keys)))
