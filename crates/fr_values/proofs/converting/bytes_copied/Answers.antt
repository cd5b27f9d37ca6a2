use Rattle.fr_values.proofs.MadeDynamic.{octets_want_memory}
use Rattle.fr_values.proofs.converting.bytes_copied.Goals as goal

pub returns-in-Err-clause-refused : goal.returns-in-Err-clause-refused
returns-in-Err-clause-refused c =
    octets_want_memory c.args.value.now c.in-List.items c.args.given.0 c.in-List.is c.requires.octets
