use Rattle.std.proofs.Common.{◌≡◌, subst, rules}
use Rattle.fr_shape.specs.declared.value.Value.TheFolds.{the_lemmas}
use Rattle.fr_shape.specs.Released.{Room}
use Rattle.fr_shape.specs.Tokens.{occurs}
use Rattle.fr_shape.specs.Val.{Val, err, ok}
use Rattle.fr_shape.specs.View.{view}
use Rattle.fr_facet.proofs.contents.ResultFacet.from_value.Goals as goal

pub read_boxed-requires : goal.read_boxed-requires
read_boxed-requires g c =
    let shown : view c.args.value ≡ ok (view c.in-Ok.content.value) = search (rules, the_lemmas) in
    record { room = subst (λ (v : Val). Room (occurs v) c.args.ledger.now) shown c.requires.room }

pub read_boxed-requires-in-Err : goal.read_boxed-requires-in-Err
read_boxed-requires-in-Err g c =
    let shown : view c.args.value ≡ err (view c.in-Err.error.value) = search (rules, the_lemmas) in
    record { room = subst (λ (v : Val). Room (occurs v) c.args.ledger.now) shown c.requires.room }
