use Rattle.std.proofs.Common.{◌≡◌, ◌++◌, ◌+◌, ◌≤◌, length, take, drop}
use Rattle.fr_values.specs.Common.{Knows, keys_among, places_of, same}
use Rattle.fr_values.proofs.Placed.{keys_after}
use Rattle.fr_values.proofs.key_places.places_of_keys.Given as goal

abbrev pub invariant-loop-i : goal.invariant-loop-i
invariant-loop-i l =
    let base = take l.base (keys_among l.keys) in
    let new = drop l.base (keys_among l.keys) in
    let there = keys_after same base (take l.i new) in record {
      known : Knows l.known new there;
      next : l.next ≡ length there;
      bound : l.next ≤ l.base + l.i;
      placed : l.places.items ++ places_of same there (drop l.i new) ≡ places_of same base new;
    }
