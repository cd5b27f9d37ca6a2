use Rattle.std.proofs.Common.{◌≡◌, subst, rules}
use Rattle.fr_shape.specs.declared.value.Value.TheFolds.{the_lemmas}
use Rattle.fr_shape.specs.Released.{Room}
use Rattle.fr_shape.specs.Tokens.{occurs}
use Rattle.fr_shape.specs.Val.{Val, ptr}
use Rattle.fr_shape.specs.View.{view}
use Rattle.fr_facet.proofs.contents.BoxFacet.from_value.Goals as goal

pub read_in_box-requires : goal.read_in_box-requires
read_in_box-requires g c =
    let shown : view c.args.value ≡ ptr (view c.in-Ptr.pointee.value) = search (rules, the_lemmas) in
    record { room = subst (λ (v : Val). Room (occurs v) c.args.ledger.now) shown c.requires.room }
