use Rattle.std.proofs.Common.{arith}
use Rattle.fr_frame.specs.Common.{Body, given, view, with_cell}
use Rattle.fr_frame.proofs.ChangedPlaces.{shows, occur_change}
use Rattle.fr_frame.proofs.places.SlotId.put_child.Goals as goal

pub returns-clause-put : goal.returns-clause-put
returns-clause-put c =
    shows c.args.slots.now c.args.self.0 c.place_mut-place.result.now c.place_mut-place.ensures.value c.put_child.new.partial
    (λ (old : Body). with_cell old c.args.i (given (view c.args.value))) c.put_child.ensures.partial

pub returns-clause-tokens : goal.returns-clause-tokens
returns-clause-tokens c t =
    let changed = occur_change c.args.slots.now c.args.self.0 c.place_mut-place.result.now c.place_mut-place.ensures.value c.put_child.new.partial t in
    omega (arith, c.put_child.ensures.tokens t)
