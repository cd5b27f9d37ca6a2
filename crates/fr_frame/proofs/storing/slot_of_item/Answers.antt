use Rattle.std.proofs.Common.{◌≡◌, ℕ, ◌-◌, length, slice_get, ap, sym, ◌∙◌, arith}
use Rattle.fr_frame.specs.Common.{body_of, count_cells, held_items, option_and_then, slot_of_cell}
use Rattle.fr_frame.proofs.RawLaws.{cell_before, cell_no_list, cell_past, slot_kept, slot_taken}
use Rattle.fr_frame.proofs.storing.slot_of_item.Goals as goal

pub returns-then-i-count : goal.returns-then-i-count
returns-then-i-count c =
    sym (ap (option_and_then slot_of_cell)
    (cell_past (held_items c.args.entries.now) c.args.list.0 c.args.items.now.items (body_of c.args.partial.now) c.args.i
    (omega (arith, c.count_children-count.ensures, c.if-i-count.true))))

pub returns-then-not-is_list : goal.returns-then-not-is_list
returns-then-not-is_list c =
    c.slot_at.ensures ∙ sym (ap (option_and_then slot_of_cell)
    (cell_no_list (held_items c.args.entries.now) c.args.list.0 c.args.items.now.items (body_of c.args.partial.now) c.args.i
    (sym c.is_list.ensures ∙ c.if-not-is_list.true)))

pub returns-then-i-before : goal.returns-then-i-before
returns-then-i-before c =
    c.slot_at-then-i-before.ensures ∙ sym (ap (option_and_then slot_of_cell)
    (cell_before (held_items c.args.entries.now) c.args.list.0 c.args.items.now.items (body_of c.args.partial.now) c.args.i
    (omega (arith, c.saturating_sub-before.ensures, c.count_children-count.ensures, c.len.ensures.count, c.if-i-before.true))))

pub returns-then-holds_item : goal.returns-then-holds_item
returns-then-holds_item c =
    let before : c.saturating_sub-before.result ≡ count_cells (body_of c.args.partial.now) - length c.args.items.now.items
    = omega (arith, c.saturating_sub-before.ensures, c.count_children-count.ensures, c.len.ensures.count) in
    sym (slot_taken (held_items c.args.entries.now) c.args.list.0 c.args.items.now.items (body_of c.args.partial.now) c.args.i
    c.get-slot.result.now (sym c.is_list.ensures ∙ c.if-not-is_list.false)
    (omega (arith, c.saturating_sub-before.ensures, c.count_children-count.ensures, c.len.ensures.count, c.if-i-before.false))
    (omega (arith, c.count_children-count.ensures, c.if-i-count.false))
    (ap (λ (before : ℕ). slice_get c.args.items.now.items (c.args.i - before)) (sym before) ∙ c.get-slot.ensures.item)
    (sym c.holds_item.ensures ∙ c.if-holds_item.true))

pub returns : goal.returns
returns c =
    let before : c.saturating_sub-before.result ≡ count_cells (body_of c.args.partial.now) - length c.args.items.now.items
    = omega (arith, c.saturating_sub-before.ensures, c.count_children-count.ensures, c.len.ensures.count) in
    sym (slot_kept (held_items c.args.entries.now) c.args.list.0 c.args.items.now.items (body_of c.args.partial.now) c.args.i
    c.get-slot.result.now (sym c.is_list.ensures ∙ c.if-not-is_list.false)
    (omega (arith, c.saturating_sub-before.ensures, c.count_children-count.ensures, c.len.ensures.count, c.if-i-before.false))
    (omega (arith, c.count_children-count.ensures, c.if-i-count.false))
    (ap (λ (before : ℕ). slice_get c.args.items.now.items (c.args.i - before)) (sym before) ∙ c.get-slot.ensures.item)
    (sym c.holds_item.ensures ∙ c.if-holds_item.false))
