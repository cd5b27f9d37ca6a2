use Rattle.fr_facet.proofs.ListLaws.{popped_room, left_room, all_rose}
use Rattle.fr_facet.proofs.releasing.discard_all.Goals as goal

pub discard-requires : goal.discard-requires
discard-requires g c = record {
  room = popped_room g.T.Facet.shown c.loop-element.left.items c.pop.new.self.items c.in-Some.element c.in-Some.ensures.items
      c.loop-element.ledger c.loop-element.invariant.room;
}

pub loop-element-preserved : goal.loop-element-preserved
loop-element-preserved g c = record {
  room = left_room g.T.Facet.shown c.loop-element.left.items c.pop.new.self.items c.in-Some.element c.in-Some.ensures.items
      c.loop-element.ledger c.discard.new.ledger c.loop-element.invariant.room c.discard.ensures.released;
  completes = λ after rest.
      c.loop-element.invariant.completes after
      (all_rose g.T.Facet.shown c.loop-element.left.items c.pop.new.self.items c.in-Some.element c.in-Some.ensures.items
      c.loop-element.ledger c.discard.new.ledger after c.discard.ensures.released rest);
}
