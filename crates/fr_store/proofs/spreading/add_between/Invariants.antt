use Rattle.std.proofs.Common.{◌≡◌, ◌+◌, ◌++◌, drop, length, take}
use Rattle.fr_store.specs.Common.{slots_between}
use Rattle.fr_store.proofs.spreading.add_between.Given as goal

abbrev pub invariant-loop-place : goal.invariant-loop-place
invariant-loop-place l = record {
  counted :
      l.count + length (slots_between l.fn.from l.fn.to (drop l.place-index l.rest))
      ≡ l.initial.count + length (slots_between l.fn.from l.fn.to l.places);
  added :
      take l.count l.order ++ slots_between l.fn.from l.fn.to (drop l.place-index l.rest)
      ≡ take l.initial.count l.initial.order ++ slots_between l.fn.from l.fn.to l.places;
}
