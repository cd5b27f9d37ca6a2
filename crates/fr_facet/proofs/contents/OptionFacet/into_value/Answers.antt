use Rattle.std.proofs.Common.{Option, subst}
use Rattle.fr_shape.specs.Released.{Room}
use Rattle.fr_shape.specs.Tokens.{occurs}
use Rattle.fr_facet.specs.Elements.{option_shown}
use Rattle.fr_facet.proofs.contents.OptionFacet.into_value.Goals as goal

pub show_boxed-requires : goal.show_boxed-requires
show_boxed-requires g c = record {
  room = subst (λ (o : Option _). Room (occurs (option_shown g.T.Facet.shown o)) c.args.ledger.now) c.in-Some.is c.requires.room;
}
