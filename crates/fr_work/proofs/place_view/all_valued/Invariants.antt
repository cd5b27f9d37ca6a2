use Rattle.std.proofs.Common.{◌≡◌, drop}
use Rattle.fr_frame.specs.Heap.{heap_of}
use Rattle.fr_work.specs.PlaceViews.{all_valued}
use Rattle.fr_work.proofs.place_view.all_valued.Given as goal

abbrev pub invariant-loop-i : goal.invariant-loop-i
invariant-loop-i l = all_valued (heap_of l.slots) l.children ≡ all_valued (heap_of l.slots) (drop l.i l.children)
