use Rattle.std.proofs.Common.{Some, refl}
use Rattle.fr_facet.specs.FoundLaws.{part_found, part_missing}
use Rattle.fr_facet.specs.Own.{is_box_of}
use Rattle.fr_facet.proofs.contents.BoxFacet.find.Goals as goal

pub returns-in_err-find : goal.returns-in_err-find
returns-in_err-find g c = record {
  first = rw c.from_residual.ensures (part_missing is_box_of g.T.Facet.is_own c.args.table.now (λ def. refl) c.in_err-find.ensures.first);
  inside = rw c.from_residual.ensures tt;
}

pub returns : goal.returns
returns g c = record {
  first = part_found is_box_of g.T.Facet.is_own c.args.table.now (Some c.in_ok-find.field-0.0) _ c.in_ok-find.ensures.first
      c.find_first.ensures.first;
  inside = c.find_first.ensures.inside;
}
