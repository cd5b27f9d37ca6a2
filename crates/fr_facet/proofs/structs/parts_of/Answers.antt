use Rattle.std.proofs.Common.{◌≡◌, rules}
use Rattle.fr_shape.specs.declared.value.Value.TheFolds.{the_lemmas}
use Rattle.fr_shape.specs.Val.{product}
use Rattle.fr_shape.specs.View.{view, vals_view}
use Rattle.fr_facet.proofs.StructParts.{turned_parts, turned_read, turned_released, turned_room}
use Rattle.fr_facet.proofs.structs.parts_of.Goals as goal

pub from_values-requires : goal.from_values-requires
from_values-requires g c =
    let shown : view c.args.value ≡ product (vals_view c.into_vec-values.result.items) = search (rules, the_lemmas) in
    record {
      room = turned_room (view c.args.value) c.into_vec-values.result.items c.reverse.new.self.items c.reverse.ensures.items shown
          c.args.ledger.now c.requires.room;
    }

pub returns-clause-parts : goal.returns-clause-parts
returns-clause-parts g c =
    let shown : view c.args.value ≡ product (vals_view c.into_vec-values.result.items) = search (rules, the_lemmas) in
    turned_parts (view c.args.value) c.into_vec-values.result.items c.reverse.new.self.items c.reverse.ensures.items shown
    g.P.Parts.shown c.from_values.result c.from_values.ensures.parts

pub returns-clause-read : goal.returns-clause-read
returns-clause-read g c =
    let shown : view c.args.value ≡ product (vals_view c.into_vec-values.result.items) = search (rules, the_lemmas) in
    turned_read (view c.args.value) c.into_vec-values.result.items c.reverse.new.self.items c.reverse.ensures.items shown
    g.P.Parts.takes c.from_values.result c.from_values.ensures.read

pub returns-clause-released : goal.returns-clause-released
returns-clause-released g c =
    let shown : view c.args.value ≡ product (vals_view c.into_vec-values.result.items) = search (rules, the_lemmas) in
    turned_released (view c.args.value) c.into_vec-values.result.items c.reverse.new.self.items c.reverse.ensures.items shown
    c.from_values.result c.args.ledger.now c.from_values.new.ledger c.from_values.ensures.released
