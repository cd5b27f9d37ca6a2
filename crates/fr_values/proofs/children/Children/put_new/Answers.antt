use Rattle.std.proofs.Common.{◌∙◌}
use Rattle.fr_values.specs.Common.{view}
use Rattle.fr_values.proofs.IndexedChildren.{grown_indexed}
use Rattle.fr_values.proofs.children.Children.put_new.Goals as goal

pub invariant_of-self : goal.invariant_of-self
invariant_of-self c =
    grown_indexed c.self.inside.given c.self.inside.parts c.self.inside.base c.grow_at.new.self c.self.inside.index c.args.self.now
    (view c.args.value) c.args.i c.self.invariant c.grow_at.ensures.grown c.requires.inside (c.self.view_is ∙ c.put.ensures.put) c.requires.new
