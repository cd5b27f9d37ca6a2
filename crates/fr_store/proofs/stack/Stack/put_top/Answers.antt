use Rattle.std.proofs.Common.{◌∙◌, ◌-◌}
use Rattle.fr_store.proofs.stack.Stack.put_top.Goals as goal
use Rattle.std.proofs.Common.{arith}
use Rattle.fr_store.proofs.LastSlots.{put_last}

pub returns : goal.returns
returns c above n e =
    put_last c.self.inside.places.items (c.len-last.result - 1) c.args.place above n (omega arith) (c.self.view_is ∙ e)
