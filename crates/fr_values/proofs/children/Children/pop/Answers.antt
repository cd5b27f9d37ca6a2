use Rattle.std.proofs.Common.{refl}
use Rattle.fr_values.proofs.SetChildren.{cells_popped, none_popped}
use Rattle.fr_values.proofs.children.Children.pop.Goals as goal
use Rattle.fr_values.proofs.IndexedChildren.{popped_indexed}

pub returns-clause-rest : goal.returns-clause-rest
returns-clause-rest c rest last is =
    cells_popped c.self.inside.given c.self.inside.parts c.pop.new.self c.args.self.now rest last _ c.self.view_is is
    refl c.pop.ensures

pub returns-clause-none : goal.returns-clause-none
returns-clause-none c is =
    none_popped c.self.inside.given c.self.inside.parts c.pop.new.self c.args.self.now _ c.self.view_is is c.pop.ensures

pub invariant_of-self : goal.invariant_of-self
invariant_of-self c =
    popped_indexed c.self.inside.given c.self.inside.parts c.pop.new.self c.self.inside.base c.cut_at.new.base
    c.self.inside.index c.cut_at.new.index c.len.result _ c.self.invariant c.cut_at.ensures c.pop.ensures c.len.ensures.count
