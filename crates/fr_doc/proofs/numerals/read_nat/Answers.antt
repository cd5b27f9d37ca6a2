use Rattle.std.proofs.Common.{◌∙◌, sym}
use Rattle.fr_doc.proofs.ParsedForms.{nat_parses, nat_not_digits}
use Rattle.fr_doc.proofs.numerals.read_nat.Goals as goal

pub returns-then-has_digits : goal.returns-then-has_digits
returns-then-has_digits c =
    let text = rw c.as_bytes.ensures.value at c.has_digits.ensures in
    c.ok.ensures.value ∙ nat_parses c.args.text.now c.parse.result c.parse.ensures.value.0 (sym text ∙ c.if-has_digits.true)

pub returns-else-has_digits : goal.returns-else-has_digits
returns-else-has_digits c =
    let text = rw c.as_bytes.ensures.value at c.has_digits.ensures in
    sym (nat_not_digits c.args.text.now (sym text ∙ c.if-has_digits.false))
