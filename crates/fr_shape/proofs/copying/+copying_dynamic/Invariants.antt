use Rattle.std.proofs.Common.{◌≡◌, map, take}
use Rattle.fr_shape.specs.View.{dyn_view, member_view}
use Rattle.fr_shape.proofs.copying.+copying_dynamic.Given as goal

-- the copies so far are of the items so far

abbrev pub invariant-copy_items-loop-item : goal.invariant-copy_items-loop-item
invariant-copy_items-loop-item l = map dyn_view l.copies ≡ map dyn_view (take l.item-index l.item-items)

abbrev pub invariant-copy_members-loop-member : goal.invariant-copy_members-loop-member
invariant-copy_members-loop-member l =
    map member_view l.copies ≡ map member_view (take l.member-index l.member-items)
