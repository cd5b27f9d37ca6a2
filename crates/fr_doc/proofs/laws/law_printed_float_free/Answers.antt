use Rattle.fr_doc.specs.FloatFree.{value_float_free}
use Rattle.fr_doc.proofs.laws.law_printed_float_free.Goals as goal

pub returns : goal.returns
returns c = record {
  float_free =
      value_float_free;
}
