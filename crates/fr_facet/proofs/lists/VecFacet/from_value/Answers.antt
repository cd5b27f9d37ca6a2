use Rattle.std.proofs.Common.{◌≡◌, subst, rules}
use Rattle.fr_shape.specs.declared.value.Value.TheFolds.{the_lemmas}
use Rattle.fr_shape.specs.Released.{Room}
use Rattle.fr_shape.specs.Tokens.{occurs}
use Rattle.fr_shape.specs.Val.{Val, list_of}
use Rattle.fr_shape.specs.View.{view, vals_view}
use Rattle.fr_facet.proofs.lists.VecFacet.from_value.Goals as goal

pub read_all-requires : goal.read_all-requires
read_all-requires g c =
    let shown : view c.args.value ≡ list_of (vals_view c.into_vec.result.items) = search (rules, the_lemmas) in
    record { room = subst (λ (v : Val). Room (occurs v) c.args.ledger.now) shown c.requires.room }
