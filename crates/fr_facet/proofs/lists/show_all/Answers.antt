use Rattle.std.proofs.Common.{◌≡◌, [], map, ap, ◌∙◌, arith}
use Rattle.std.proofs.lemmas.Grind.{common_steps}
use Rattle.fr_shape.specs.View.{view, vals_of}
use Rattle.fr_facet.proofs.ListLaws.{held, decided_next, item_room, rest_room, room_at, room_swapped, rose_from, rose_swapped, turned_kept, turned_next, turned_whole, whole_rose}
use Rattle.fr_facet.proofs.lists.show_all.Goals as goal

pub show_onto-requires : goal.show_onto-requires
show_onto-requires g c = record {
  room = item_room g.T.Facet.shown c.loop-element.left.items c.pop.new.self.items c.in-Some.element c.in-Some.ensures.items
      view (map g.T.Facet.shown c.args.elements.items) c.loop-element.values.items c.loop-element.invariant.turned
      c.loop-element.ledger
      (room_at (held (map g.T.Facet.shown c.args.elements.items)) c.loop-element.ledger c.args.ledger.now c.loop-element.invariant.unreleased c.requires.room);
}

pub give_up-requires : goal.give_up-requires
give_up-requires g c =
    let turned = turned_kept g.T.Facet.shown view (map g.T.Facet.shown c.args.elements.items) c.loop-element.left.items
    c.loop-element.values.items c.show_onto.new.values.items c.in-Err.ensures.unchanged c.loop-element.invariant.turned in
    record {
      room = room_swapped (held (map view c.show_onto.new.values.items)) (held (map g.T.Facet.shown c.pop.new.self.items)) c.show_onto.new.ledger
          (rest_room g.T.Facet.shown c.loop-element.left.items c.pop.new.self.items c.in-Some.element c.in-Some.ensures.items
          view (map g.T.Facet.shown c.args.elements.items) c.show_onto.new.values.items turned
          c.loop-element.ledger c.show_onto.new.ledger
          (room_at (held (map g.T.Facet.shown c.args.elements.items)) c.loop-element.ledger c.args.ledger.now c.loop-element.invariant.unreleased c.requires.room)
          c.in-Err.ensures.released);
    }

pub returns-in-Err-clause-released : goal.returns-in-Err-clause-released
returns-in-Err-clause-released g c =
    let turned = turned_kept g.T.Facet.shown view (map g.T.Facet.shown c.args.elements.items) c.loop-element.left.items
    c.loop-element.values.items c.show_onto.new.values.items c.in-Err.ensures.unchanged c.loop-element.invariant.turned in
    rose_from (held (map g.T.Facet.shown c.args.elements.items)) c.loop-element.ledger c.args.ledger.now c.give_up.new.ledger c.loop-element.invariant.unreleased
    (whole_rose g.T.Facet.shown c.loop-element.left.items c.pop.new.self.items c.in-Some.element c.in-Some.ensures.items
    view (map g.T.Facet.shown c.args.elements.items) c.show_onto.new.values.items turned
    c.loop-element.ledger c.show_onto.new.ledger c.give_up.new.ledger c.in-Err.ensures.released
    (rose_swapped (held (map g.T.Facet.shown c.pop.new.self.items)) (held (map view c.show_onto.new.values.items)) c.show_onto.new.ledger c.give_up.new.ledger
    c.give_up.ensures.released))

pub loop-element-preserved : goal.loop-element-preserved
loop-element-preserved g c = record {
  unreleased = c.in_default-show_onto.ensures.unreleased ∙ c.loop-element.invariant.unreleased;
  turned = turned_next g.T.Facet.shown c.loop-element.left.items c.pop.new.self.items c.in-Some.element c.in-Some.ensures.items
      view (map g.T.Facet.shown c.args.elements.items) c.loop-element.values.items c.loop-element.invariant.turned
      c.show_onto.new.values.items c.in_default-show_onto.ensures.appended;
  decided = decided_next g.T.Facet.shown c.loop-element.left.items c.pop.new.self.items c.in-Some.element c.in-Some.ensures.items
      g.T.Facet.takes (map g.T.Facet.shown c.args.elements.items) c.in_default-show_onto.ensures.taken c.loop-element.invariant.decided;
}

pub returns-clause-values : goal.returns-clause-values
returns-clause-values g c =
    let none : c.loop-element.left.items ≡ [] = grind (arith, common_steps) in
    ap vals_of
    (turned_whole g.T.Facet.shown view (map g.T.Facet.shown c.args.elements.items) c.loop-element.left.items c.loop-element.values.items
    c.reverse.new.self.items none c.reverse.ensures.items c.loop-element.invariant.turned)
