use Rattle.fr_values.proofs.MadeDynamic.{bytes_at_end}
use Rattle.fr_values.proofs.converting.bytes_in.Goals as goal

pub returns-clause-bytes : goal.returns-clause-bytes
returns-clause-bytes c =
    bytes_at_end c.as_slice-item-items.result.now c.args.items.now c.loop-item.item-index c.loop-item.bytes
    c.loop-item-test.false c.loop-item.invariant.2
