use Rattle.std.proofs.Common.{ℕ, List, reverse, sym, subst}
use Rattle.fr_shape.specs.Released.{Room}
use Rattle.fr_shape.specs.Tokens.{occurs, vals_occur}
use Rattle.fr_shape.specs.Val.{Val}
use Rattle.fr_shape.specs.View.{vals_view}
use Rattle.fr_facet.proofs.StructParts.{first_room, first_room_then, rest_room, rest_room_then}
use Rattle.fr_facet.proofs.structs.Tuple2Parts.from_values.Goals as goal

pub from_value-requires : goal.from_value-requires
from_value-requires g c = record {
  room = first_room c.args.values.items c.pop.new.self.items c.in-Some.value c.in-Some.ensures.items c.args.ledger.now c.requires.room;
}

pub release_all-requires : goal.release_all-requires
release_all-requires g c = record {
  room = rest_room_then c.args.values.items c.pop.new.self.items c.in-Some.value c.in-Some.ensures.items
      c.args.ledger.now c.from_value.new.ledger c.requires.room c.in-Err.ensures.released;
}

pub from_values-requires : goal.from_values-requires
from_values-requires g c = record {
  room = subst (λ (ledger : List ℕ). Room (vals_occur (vals_view (reverse c.pop.new.self.items))) ledger) (sym c.in-Ok.ensures.unreleased)
      (rest_room c.args.values.items c.pop.new.self.items c.in-Some.value c.in-Some.ensures.items c.args.ledger.now c.requires.room);
}

pub discard-requires : goal.discard-requires
discard-requires g c = record {
  room = subst (λ (v : Val). Room (occurs v) c.from_values.new.ledger) (sym c.in-Ok.ensures.element)
      (first_room_then c.args.values.items c.pop.new.self.items c.in-Some.value c.in-Some.ensures.items
      c.from_value.new.ledger c.from_values.new.ledger
      (subst (λ (ledger : List ℕ). Room (vals_occur (vals_view (reverse c.args.values.items))) ledger) (sym c.in-Ok.ensures.unreleased) c.requires.room)
      c.in-Err-from_values.ensures.released);
}
