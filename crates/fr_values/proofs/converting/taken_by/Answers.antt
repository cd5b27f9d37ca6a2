use Rattle.std.proofs.Common.{◌∙◌}
use Rattle.fr_values.specs.Common.{view}
use Rattle.fr_values.proofs.MadeDynamic.{fits_in_range, fits_octets}
use Rattle.fr_values.proofs.converting.taken_by.Goals as goal

pub scalar_taken-requires : goal.scalar_taken-requires
scalar_taken-requires c = record {
  in_range = fits_in_range c.args.table.now c.args.given.0 c.in-Scalar.kind (view c.args.value.now)
      (c.requires.defined ∙ c.in-Scalar.is) c.requires.fits;
}

pub list_copied-requires : goal.list_copied-requires
list_copied-requires c = record {
  octets = fits_octets c.args.table.now c.args.given.0 c.in-List.item (view c.args.value.now)
      (c.requires.defined ∙ c.in-List.is) c.requires.fits;
}
