use Rattle.std.proofs.Common.{◌≡◌, map, vec_len}
use Rattle.fr_shape.specs.View.{view}
use Rattle.fr_facet.proofs.ListLaws.{IsDecidedBy, IsTurned}
use Rattle.fr_facet.proofs.lists.show_all.Given as goal

-- no count has changed; the elements are those that are left, and those of the values; those that are left decide
abbrev pub invariant-loop-element : goal.invariant-loop-element
invariant-loop-element g l = record {
  unreleased : l.ledger ≡ l.initial.ledger;
  turned : IsTurned g.T.Facet.shown view (map g.T.Facet.shown l.initial.left.items) l.left.items l.values.items;
  decided : IsDecidedBy g.T.Facet.shown g.T.Facet.takes (map g.T.Facet.shown l.initial.left.items) l.left.items;
}

abbrev pub decreases-loop-element : goal.decreases-loop-element
decreases-loop-element g l = vec_len l.left
