use Rattle.fr_shape.specs.CompareLaws.{compare_total}
use Rattle.fr_shape.specs.CompareSame.{same_tied}
use Rattle.fr_shape.proofs.ordering.law_compare.Goals as goal

pub returns : goal.returns
returns c = record { total = compare_total; equal = same_tied }
