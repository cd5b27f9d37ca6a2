use Rattle.std.proofs.Common.{List, ◌∙◌, ap, subst, sym, arith}
use Rattle.fr_values.specs.Common.{BitSet, IndexesChildren, Value, cell, cells_of, given, view}
use Rattle.fr_values.specs.CellLaws.{same_length, has_room, cells_put, bit_set, bit_set_here}
use Rattle.fr_values.proofs.children.Children.put.Goals as goal
use Rattle.fr_values.proofs.IndexedChildren.{put_indexed}

pub set-requires : goal.set-requires
set-requires c = record { inside = has_room c.self.inside.given _ _ c.self.view_is c.args.i c.self.invariant.room c.requires }

pub replace-held-requires : goal.replace-held-requires
replace-held-requires c = omega (arith, same_length c.self.inside.given _ _ c.self.view_is)

pub returns : goal.returns
returns c = record {
  put =
      ap (cells_of c.set.new.self 0) c.replace-held.ensures.replaced
      ∙ cells_put c.self.inside.given _ _ c.self.view_is c.set.new.self c.args.i c.args.value (given (view c.args.value)) c.requires
      (λ j ne. c.set.ensures.by_index j ∙ bit_set c.args.i j _ ne)
      (ap (λ b. cell b (view c.args.value)) (c.set.ensures.by_index c.args.i ∙ bit_set_here c.args.i _));
}

pub invariant_of-self : goal.invariant_of-self
invariant_of-self c =
    subst (λ (values : List Value). IndexesChildren c.set.new.self values c.cut_at.new.base c.cut_at.new.index) (sym c.replace-held.ensures.replaced)
    (put_indexed c.self.inside.given c.set.new.self c.self.inside.parts c.self.inside.base c.cut_at.new.base c.self.inside.index
    c.cut_at.new.index c.args.i c.args.value c.self.invariant c.cut_at.ensures (ap (λ (b : BitSet). b.capacity) c.set.ensures.value)
    (λ j ne. c.set.ensures.by_index j ∙ bit_set c.args.i j _ ne))
