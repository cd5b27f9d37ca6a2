use Rattle.std.proofs.Common.{sym, ◌∙◌}
use Rattle.fr_frame.proofs.DrainLaws.{taken_is, taken_freed}
use Rattle.fr_frame.proofs.draining.take_item.Goals as goal

pub unreachable-requires : goal.unreachable-requires
unreachable-requires c =
    let there = taken_is c.args.entries.now c.args.list.0 c.args.number c.args.slot.0 c.idx.result c.get_mut.result.now
    (sym c.holds_item.ensures ∙ c.if-not-holds_item.false) c.idx.ensures.number c.get_mut.ensures.value in
    c.in_default.not-Item there.0 (c.replace.ensures.value ∙ there.1)

pub returns-clause-freed : goal.returns-clause-freed
returns-clause-freed c =
    taken_freed c.args.entries.now c.args.list.0 c.args.number c.args.slot.0 c.idx.result c.get_mut.result.now
    (sym c.holds_item.ensures ∙ c.if-not-holds_item.false) c.idx.ensures.number c.get_mut.ensures.value
    c.replace.new.dest c.args.free.now c.replace.ensures.after
