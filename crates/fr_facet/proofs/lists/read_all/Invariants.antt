use Rattle.std.proofs.Common.{◌≡◌, map, vec_len}
use Rattle.fr_shape.specs.View.{view}
use Rattle.fr_facet.proofs.ListLaws.{IsDecidedBy, IsTurned}
use Rattle.fr_facet.proofs.lists.read_all.Given as goal

-- no count has changed; the values are those that are left, and those of the elements; those that are left decide
abbrev pub invariant-loop-value : goal.invariant-loop-value
invariant-loop-value g l = record {
  unreleased : l.ledger ≡ l.initial.ledger;
  turned : IsTurned view g.T.Facet.shown (map view l.initial.left.items) l.left.items l.elements.items;
  decided : IsDecidedBy view g.T.Facet.takes (map view l.initial.left.items) l.left.items;
}

abbrev pub decreases-loop-value : goal.decreases-loop-value
decreases-loop-value g l = vec_len l.left
