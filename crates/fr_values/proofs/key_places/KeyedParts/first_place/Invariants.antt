use Rattle.std.proofs.Common.{◌≡◌, None, take}
use Rattle.fr_values.specs.Common.{keys_among, place, same, view}
use Rattle.fr_values.proofs.key_places.KeyedParts.first_place.Given as goal

abbrev pub invariant-loop-i : goal.invariant-loop-i
invariant-loop-i l = place same (take l.i (keys_among l.self)) (view l.key.0.now) ≡ None
