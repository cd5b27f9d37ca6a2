use Rattle.std.proofs.Common.{List, ap, ◌∙◌, arith}
use Rattle.fr_frame.specs.Common.{Slot, heap_of, slots_occur, slots_seen}
use Rattle.fr_frame.proofs.SingleSlots.{append_occur, append_reserved, append_shows, past_seen}
use Rattle.fr_frame.proofs.slots.Slots.append.Goals as goal

pub returns-clause-reserved : goal.returns-clause-reserved
returns-clause-reserved c =
    append_reserved c.self.inside.entries c.args.self.now c.self.view_is c.alloc.new.self c.of.result.0 c.in-Ok.ensures.appended
    (c.of.ensures.number ∙ c.in-Ok.ensures.index)

pub returns-clause-vacant : goal.returns-clause-vacant
returns-clause-vacant c =
    past_seen c.self.inside.entries c.args.self.now c.self.view_is c.of.result.0
    (omega (arith, c.of.ensures.number, c.in-Ok.ensures.index))

pub returns-clause-rest : goal.returns-clause-rest
returns-clause-rest c n =
    ap (λ (raw : List Slot). heap_of (slots_seen raw) n) c.in-Ok.ensures.appended
    ∙ append_shows c.self.inside.entries c.args.self.now c.self.view_is n

pub returns-clause-tokens : goal.returns-clause-tokens
returns-clause-tokens c t =
    ap (λ (raw : List Slot). slots_occur (slots_seen raw) t) c.in-Ok.ensures.appended
    ∙ append_occur c.self.inside.entries c.args.self.now c.self.view_is t
