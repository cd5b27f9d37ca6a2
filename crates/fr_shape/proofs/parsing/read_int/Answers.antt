use Rattle.std.proofs.Common.{ℤ, Some, true, false, sym, ap, ◌∙◌}
use Rattle.std.specs.Result.{result_ok}
use Rattle.fr_shape.specs.Fits.{signed_bits, in_signed}
use Rattle.fr_shape.specs.Val.{int}
use Rattle.fr_shape.proofs.Parsed.{int_kept, int_not, int_same}
use Rattle.fr_shape.proofs.parsing.read_int.Goals as goal

pub returns-then-is_in_signed : goal.returns-then-is_in_signed
returns-then-is_in_signed c =
    let same = int_same c.args.text.now c.parse.result c.in-Ok.z c.parse.ensures.value.0 c.in-Ok.is in
    ap (λ (z : ℤ). Some (int z)) same
    ∙ int_kept c.args.kind c.args.text.now c.parse.result c.in-Ok.z true c.parse.ensures.value.0 (ap result_ok c.in-Ok.is)
    (sym (ap (λ (z : ℤ). in_signed z (signed_bits c.args.kind)) same) ∙ sym c.is_in_signed.ensures ∙ c.if-is_in_signed.true)

pub returns-else-is_in_signed : goal.returns-else-is_in_signed
returns-else-is_in_signed c =
    let same = int_same c.args.text.now c.parse.result c.in-Ok.z c.parse.ensures.value.0 c.in-Ok.is in
    int_kept c.args.kind c.args.text.now c.parse.result c.in-Ok.z false c.parse.ensures.value.0 (ap result_ok c.in-Ok.is)
    (sym (ap (λ (z : ℤ). in_signed z (signed_bits c.args.kind)) same) ∙ sym c.is_in_signed.ensures ∙ c.if-is_in_signed.false)

pub returns-in-Err : goal.returns-in-Err
returns-in-Err c = int_not c.args.kind c.args.text.now c.parse.result c.parse.ensures.value.0 (ap result_ok c.in-Err.is)
