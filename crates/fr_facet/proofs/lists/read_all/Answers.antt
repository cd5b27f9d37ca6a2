use Rattle.std.proofs.Common.{◌≡◌, [], map, ap, ◌∙◌, arith}
use Rattle.std.proofs.lemmas.Grind.{common_steps}
use Rattle.fr_shape.specs.View.{view, vals_view, vals_of}
use Rattle.fr_facet.specs.Elements.{each_taken}
use Rattle.fr_facet.proofs.ListLaws.{held, decided_next, decided_none, fault_of_all, item_room, rest_room, room_at, rose_from, turned_kept, turned_next, turned_whole, whole_rose}
use Rattle.fr_facet.proofs.lists.read_all.Goals as goal
use Rattle.fr_facet.proofs.lists.read_all.Goals.{In-Err}

pub read_onto-requires : goal.read_onto-requires
read_onto-requires g c = record {
  room = item_room view c.loop-value.left.items c.pop.new.self.items c.in-Some.value c.in-Some.ensures.items
      g.T.Facet.shown (map view c.args.values.items) c.loop-value.elements.items c.loop-value.invariant.turned
      c.loop-value.ledger
      (room_at (held (map view c.args.values.items)) c.loop-value.ledger c.args.ledger.now c.loop-value.invariant.unreleased c.requires.room);
}

pub give_up-requires : goal.give_up-requires
give_up-requires g c =
    let turned = turned_kept view g.T.Facet.shown (map view c.args.values.items) c.loop-value.left.items
    c.loop-value.elements.items c.read_onto.new.elements.items c.in-Err.ensures.unchanged c.loop-value.invariant.turned in
    record {
      room = rest_room view c.loop-value.left.items c.pop.new.self.items c.in-Some.value c.in-Some.ensures.items
          g.T.Facet.shown (map view c.args.values.items) c.read_onto.new.elements.items turned
          c.loop-value.ledger c.read_onto.new.ledger
          (room_at (held (map view c.args.values.items)) c.loop-value.ledger c.args.ledger.now c.loop-value.invariant.unreleased c.requires.room)
          c.in-Err.ensures.released;
    }

pub returns-in-Err-clause-read : goal.returns-in-Err-clause-read
returns-in-Err-clause-read g c =
    fault_of_all (g.T.Facet.takes (view c.in-Some.value)) (each_taken g.T.Facet.takes (vals_view c.args.values.items)) c.in-Err.fault
    (λ refused.
    decided_none view c.loop-value.left.items c.pop.new.self.items c.in-Some.value c.in-Some.ensures.items
    g.T.Facet.takes (map view c.args.values.items) refused c.loop-value.invariant.decided)
    c.in-Err.ensures.read

pub returns-in-Err-clause-released : goal.returns-in-Err-clause-released
returns-in-Err-clause-released g c =
    let turned = turned_kept view g.T.Facet.shown (map view c.args.values.items) c.loop-value.left.items
    c.loop-value.elements.items c.read_onto.new.elements.items c.in-Err.ensures.unchanged c.loop-value.invariant.turned in
    rose_from (held (map view c.args.values.items)) c.loop-value.ledger c.args.ledger.now c.give_up.new.ledger c.loop-value.invariant.unreleased
    (whole_rose view c.loop-value.left.items c.pop.new.self.items c.in-Some.value c.in-Some.ensures.items
    g.T.Facet.shown (map view c.args.values.items) c.read_onto.new.elements.items turned
    c.loop-value.ledger c.read_onto.new.ledger c.give_up.new.ledger c.in-Err.ensures.released c.give_up.ensures.released)

pub loop-value-preserved : goal.loop-value-preserved
loop-value-preserved g c = record {
  unreleased = c.in_default-read_onto.ensures.unreleased ∙ c.loop-value.invariant.unreleased;
  turned = turned_next view c.loop-value.left.items c.pop.new.self.items c.in-Some.value c.in-Some.ensures.items
      g.T.Facet.shown (map view c.args.values.items) c.loop-value.elements.items c.loop-value.invariant.turned
      c.read_onto.new.elements.items c.in_default-read_onto.ensures.appended;
  decided = decided_next view c.loop-value.left.items c.pop.new.self.items c.in-Some.value c.in-Some.ensures.items
      g.T.Facet.takes (map view c.args.values.items) c.in_default-read_onto.ensures.read c.loop-value.invariant.decided;
}

pub returns-clause-elements : goal.returns-clause-elements
returns-clause-elements g c =
    let none : c.loop-value.left.items ≡ [] = grind (arith, common_steps) in
    ap vals_of
    (turned_whole view g.T.Facet.shown (map view c.args.values.items) c.loop-value.left.items c.loop-value.elements.items
    c.reverse.new.self.items none c.reverse.ensures.items c.loop-value.invariant.turned)
