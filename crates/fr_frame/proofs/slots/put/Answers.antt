use Rattle.std.proofs.Common.{arith}
use Rattle.fr_frame.specs.Common.{Slot}
use Rattle.std.proofs.lemmas.Option.{slice_get_within}
use Rattle.fr_frame.proofs.slots.put.Goals as goal

pub get_mut-requires : goal.get_mut-requires
get_mut-requires c = record {
  inside = omega (arith, c.idx.ensures.number, slice_get_within c.args.entries.now c.args.id.0 Slot.Reserved c.requires.reserved);
}
