use Rattle.std.proofs.Common.{Result, subst}
use Rattle.fr_shape.specs.Released.{Room}
use Rattle.fr_shape.specs.Tokens.{occurs}
use Rattle.fr_facet.specs.Elements.{result_shown}
use Rattle.fr_facet.proofs.contents.ResultFacet.into_value.Goals as goal

pub show_boxed-requires : goal.show_boxed-requires
show_boxed-requires g c = record {
  room = subst (λ (r : Result _ _). Room (occurs (result_shown g.T.Facet.shown g.E.Facet.shown r)) c.args.ledger.now) c.in-Ok.is c.requires.room;
}

pub show_boxed-requires-in-Err : goal.show_boxed-requires-in-Err
show_boxed-requires-in-Err g c = record {
  room = subst (λ (r : Result _ _). Room (occurs (result_shown g.T.Facet.shown g.E.Facet.shown r)) c.args.ledger.now) c.in-Err.is c.requires.room;
}
