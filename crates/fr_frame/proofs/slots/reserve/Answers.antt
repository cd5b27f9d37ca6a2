use Rattle.std.proofs.Common.{arith}
use Rattle.fr_frame.specs.RawSlots.{IsFree}
use Rattle.fr_values.specs.SliceLaws.{holds_inside}
use Rattle.fr_frame.proofs.slots.reserve.Goals as goal

pub get_mut-requires : goal.get_mut-requires
get_mut-requires c = record {
  inside = omega (arith, c.idx.ensures.number, holds_inside c.args.entries.now c.args.id.0 IsFree c.requires.free);
}
