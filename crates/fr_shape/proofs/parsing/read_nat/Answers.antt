use Rattle.std.proofs.Common.{true, false, sym, ap, ◌∙◌}
use Rattle.std.specs.Result.{result_ok}
use Rattle.fr_shape.proofs.Parsed.{nat_kept, nat_not}
use Rattle.fr_shape.proofs.parsing.read_nat.Goals as goal

pub returns-then-is_in_unsigned : goal.returns-then-is_in_unsigned
returns-then-is_in_unsigned c =
    nat_kept c.args.kind c.args.text.now c.parse.result c.in-Ok.n true c.parse.ensures.value.0 (ap result_ok c.in-Ok.is)
    (sym c.is_in_unsigned.ensures ∙ c.if-is_in_unsigned.true)

pub returns-else-is_in_unsigned : goal.returns-else-is_in_unsigned
returns-else-is_in_unsigned c =
    nat_kept c.args.kind c.args.text.now c.parse.result c.in-Ok.n false c.parse.ensures.value.0 (ap result_ok c.in-Ok.is)
    (sym c.is_in_unsigned.ensures ∙ c.if-is_in_unsigned.false)

pub returns-in-Err : goal.returns-in-Err
returns-in-Err c = nat_not c.args.kind c.args.text.now c.parse.result c.parse.ensures.value.0 (ap result_ok c.in-Err.is)
