use Rattle.std.proofs.Common.{List, refl, sym, ◌∙◌, ap, subst, arith}
use Rattle.fr_values.specs.Common.{BitSet, IndexesChildren, Value, cells_of, in_slot, view}
use Rattle.fr_values.specs.CellLaws.{bit_unset, same_length, has_room, cells_unset, value_here, no_value_at}
use Rattle.fr_values.proofs.children.Children.hand_out.Goals as goal
use Rattle.fr_values.proofs.IndexedChildren.{put_indexed}

pub get-was_given-requires : goal.get-was_given-requires
get-was_given-requires c = record { inside = has_room c.self.inside.given _ _ c.self.view_is c.args.i c.self.invariant.room c.requires }

pub unset-requires : goal.unset-requires
unset-requires c = record { inside = has_room c.self.inside.given _ _ c.self.view_is c.args.i c.self.invariant.room c.requires }

pub replace-held-requires : goal.replace-held-requires
replace-held-requires c = omega (arith, same_length c.self.inside.given _ _ c.self.view_is)

pub returns-then-not-was_given-clause-marked : goal.returns-then-not-was_given-clause-marked
returns-then-not-was_given-clause-marked c =
    ap (cells_of c.unset.new.self 0) c.replace-held.ensures.replaced
    ∙ cells_unset c.self.inside.given _ _ c.self.view_is c.unset.new.self c.args.i c.args.mark (in_slot (view c.args.mark)) c.requires c.unset.ensures.by_index
    refl

pub returns-then-not-was_given-clause-taken : goal.returns-then-not-was_given-clause-taken
returns-then-not-was_given-clause-taken c =
    no_value_at c.self.inside.given _ _ c.self.view_is c.args.i (sym c.get-was_given.ensures.member ∙ c.if-not-was_given.true)

pub returns-clause-marked : goal.returns-clause-marked
returns-clause-marked c =
    ap (cells_of c.unset.new.self 0) c.replace-held.ensures.replaced
    ∙ cells_unset c.self.inside.given _ _ c.self.view_is c.unset.new.self c.args.i c.args.mark (in_slot (view c.args.mark)) c.requires c.unset.ensures.by_index
    refl

pub returns-clause-taken : goal.returns-clause-taken
returns-clause-taken c =
    value_here c.self.inside.given _ _ c.self.view_is c.args.i c.replace-held.result c.requires c.replace-held.ensures.held
    (sym c.get-was_given.ensures.member ∙ c.if-not-was_given.false)

pub invariant_of-self : goal.invariant_of-self
invariant_of-self c =
    subst (λ (values : List Value). IndexesChildren c.unset.new.self values c.cut_at.new.base c.cut_at.new.index) (sym c.replace-held.ensures.replaced)
    (put_indexed c.self.inside.given c.unset.new.self c.self.inside.parts c.self.inside.base c.cut_at.new.base c.self.inside.index
    c.cut_at.new.index c.args.i c.args.mark c.self.invariant c.cut_at.ensures (ap (λ (b : BitSet). b.capacity) c.unset.ensures.value)
    (λ j ne. c.unset.ensures.by_index j ∙ bit_unset c.args.i j _ ne))

pub invariant_of-self-2 : goal.invariant_of-self-2
invariant_of-self-2 c =
    subst (λ (values : List Value). IndexesChildren c.unset.new.self values c.cut_at.new.base c.cut_at.new.index) (sym c.replace-held.ensures.replaced)
    (put_indexed c.self.inside.given c.unset.new.self c.self.inside.parts c.self.inside.base c.cut_at.new.base c.self.inside.index
    c.cut_at.new.index c.args.i c.args.mark c.self.invariant c.cut_at.ensures (ap (λ (b : BitSet). b.capacity) c.unset.ensures.value)
    (λ j ne. c.unset.ensures.by_index j ∙ bit_unset c.args.i j _ ne))
