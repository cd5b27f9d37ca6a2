use Rattle.std.proofs.Common.{◌≡◌}
use Rattle.std.specs.List.{AllWithin}
use Rattle.fr_store.specs.Common.{IsNarrow, IsNoted, heap_of, slots_of}
use Rattle.fr_store.proofs.turning.note_all.Given as goal

abbrev pub invariant-loop-i : goal.invariant-loop-i
invariant-loop-i l = record {
  slots : slots_of l.places ≡ slots_of l.initial.places;
  noted : AllWithin (IsNoted (heap_of l.slots)) l.places 0 l.i;
  narrow : AllWithin IsNarrow l.places 0 l.i;
}
