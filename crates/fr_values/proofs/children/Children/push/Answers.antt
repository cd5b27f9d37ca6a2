use Rattle.std.proofs.Common.{◌≡◌, ℕ, List, length, ap, subst, sym, ◌∙◌, arith, ◌&&◌}
use Rattle.std.specs.FinSet as finite
use Rattle.fr_values.specs.Common.{BitSet, IndexesChildren, Value, cells_of, in_slot}
use Rattle.std.specs.Prelude.{not, ◌==◌}
use Rattle.fr_values.specs.CellLaws.{bit_unset, cells_pushed}
use Rattle.fr_values.proofs.children.Children.push.Goals as goal
use Rattle.fr_values.proofs.IndexedChildren.{pushed_indexed}

pub returns-clause-added : goal.returns-clause-added
returns-clause-added c =
    let count : c.len-count.result ≡ length c.self.inside.parts = c.len-count.ensures.count in
    ap (λ (vs : List Value). cells_of c.unset.new.self 0 vs) c.in-Ok.ensures.added
    ∙ cells_pushed c.self.inside.given c.make_room.new.given c.unset.new.self c.self.inside.parts c.args.self.now c.nothing.result
    c.self.view_is c.make_room.ensures.same (subst (λ (n : ℕ). (j : ℕ) → finite.contains c.unset.new.self.members j
    ≡ (not (j == n) && finite.contains c.make_room.new.given.members j)) count c.unset.ensures.by_index)
    (ap in_slot c.nothing.ensures)

pub invariant_of-self-2 : goal.invariant_of-self-2
invariant_of-self-2 c =
    let count : c.len-count.result ≡ length c.self.inside.parts = c.len-count.ensures.count in
    let wide = ap (λ (b : BitSet). b.capacity) c.unset.ensures.value in
    subst (λ (values : List Value). IndexesChildren c.unset.new.self values c.self.inside.base c.self.inside.index) (sym c.in-Ok.ensures.added)
    (pushed_indexed c.self.inside.given c.unset.new.self c.self.inside.parts c.self.inside.base c.self.inside.index c.nothing.result
    c.self.invariant (omega (arith, count, wide, c.in_ok-make_room.ensures.room (omega (arith, count, c.self.invariant.room))))
    (λ j h. c.unset.ensures.by_index j ∙ bit_unset c.len-count.result j _ (λ e. omega (arith, h, e, count)) ∙ c.make_room.ensures.same j))
