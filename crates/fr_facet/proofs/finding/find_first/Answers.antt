use Rattle.std.proofs.Common.{◌≡◌, rules, sym}
use Rattle.std.specs.Option.{option_map}
use Rattle.fr_shape.specs.declared.shape.Shape.{Shape}
use Rattle.fr_shape.specs.declared.shape.ShapeId.{ShapeId}
use Rattle.fr_facet.specs.Facets.{first_own}
use Rattle.fr_facet.specs.Own.{is_wanted}
use Rattle.fr_facet.proofs.FirstLaws.{first_inside, first_named}
use Rattle.fr_facet.proofs.finding.find_first.Goals as goal

pub returns : goal.returns
returns c =
    let law = first_named (λ (shape : Shape). is_wanted c.args.wanted shape.def) c.args.table.now in
    let first : option_map (λ (id : ShapeId). id.0) c.id_of.result ≡ first_own (λ _ def. is_wanted c.args.wanted def) c.args.table.now =
    rw (sym law) (search rules) in
    record { first = first; inside = first_inside (λ _ def. is_wanted c.args.wanted def) c.args.table.now _ first }
