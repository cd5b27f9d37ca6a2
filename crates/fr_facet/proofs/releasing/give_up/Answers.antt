use Rattle.std.proofs.Common.{◌≡◌, sym, subst, rules}
use Rattle.fr_shape.specs.declared.value.Value
use Rattle.fr_shape.specs.declared.value.Value.TheFolds.{the_lemmas}
use Rattle.fr_shape.specs.Released.{Room}
use Rattle.fr_shape.specs.TokenLaws.{Room_risen}
use Rattle.fr_shape.specs.Tokens.{occurs, vals_occur}
use Rattle.fr_shape.specs.Val.{Val, list_of}
use Rattle.fr_shape.specs.View.{view, vals_view}
use Rattle.fr_facet.specs.Elements.{vals_shown}
use Rattle.fr_facet.proofs.releasing.give_up.Goals as goal

pub release-requires : goal.release-requires
release-requires g c =
    let shown : view (Value.List c.from_vec.result) ≡ list_of (vals_view c.args.values.items) = search (rules, the_lemmas) in
    record {
      room = subst (λ (v : Val). Room (occurs v) c.discard_all.new.ledger) (sym shown)
          (Room_risen (vals_occur (vals_shown g.T.Facet.shown c.args.elements.items)) (vals_occur (vals_view c.args.values.items))
          c.args.ledger.now c.discard_all.new.ledger c.requires.room c.discard_all.ensures.released);
    }
