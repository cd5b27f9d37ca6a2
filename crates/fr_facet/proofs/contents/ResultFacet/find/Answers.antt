use Rattle.std.proofs.Common.{None, Some, refl}
use Rattle.fr_facet.specs.Facets.{first_own}
use Rattle.fr_facet.specs.FoundLaws.{parts_found, parts_missing}
use Rattle.fr_facet.specs.Own.{is_result_of}
use Rattle.fr_facet.proofs.contents.ResultFacet.find.Goals as goal

pub returns-in_err-content : goal.returns-in_err-content
returns-in_err-content g c = record {
  first = rw c.from_residual.ensures
      (parts_missing is_result_of g.T.Facet.is_own g.E.Facet.is_own c.args.table.now None (first_own g.E.Facet.is_own c.args.table.now)
      c.in_err-content.ensures.first refl (λ def. refl));
  inside = rw c.from_residual.ensures tt;
}

pub returns-in_err-error : goal.returns-in_err-error
returns-in_err-error g c = record {
  first = rw c.from_residual-in_err-error.ensures
      (parts_missing is_result_of g.T.Facet.is_own g.E.Facet.is_own c.args.table.now (Some c.in_ok-content.content.0) None
      c.in_ok-content.ensures.first c.in_err-error.ensures.first (λ def. refl));
  inside = rw c.from_residual-in_err-error.ensures tt;
}

pub returns : goal.returns
returns g c = record {
  first = parts_found is_result_of g.T.Facet.is_own g.E.Facet.is_own c.args.table.now (Some c.in_ok-content.content.0) (Some c.in_ok-error.error.0) _
      c.in_ok-content.ensures.first c.in_ok-error.ensures.first c.find_first.ensures.first;
  inside = c.find_first.ensures.inside;
}
