use Rattle.std.proofs.Common.{ℕ, List, vec_len}
use Rattle.fr_shape.specs.Released.{Room, RoseBy}
use Rattle.fr_shape.specs.Tokens.{vals_occur}
use Rattle.fr_facet.specs.Elements.{vals_shown}
use Rattle.fr_facet.proofs.releasing.discard_all.Given as goal

-- what is left has room, and its release completes that of all
abbrev pub invariant-loop-element : goal.invariant-loop-element
invariant-loop-element g l = record {
  room : Room (vals_occur (vals_shown g.T.Facet.shown l.left.items)) l.ledger;
  completes : (after : List ℕ) → RoseBy (vals_occur (vals_shown g.T.Facet.shown l.left.items)) l.ledger after
      → RoseBy (vals_occur (vals_shown g.T.Facet.shown l.initial.left.items)) l.initial.ledger after;
}

abbrev pub decreases-loop-element : goal.decreases-loop-element
decreases-loop-element g l = vec_len l.left
