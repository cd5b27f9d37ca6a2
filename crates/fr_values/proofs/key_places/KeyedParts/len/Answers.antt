use Rattle.std.proofs.Common.{length, ap, arith}
use Rattle.fr_values.specs.Common.{keys_among}
use Rattle.fr_values.proofs.Gathered.{both_keys}
use Rattle.fr_values.proofs.key_places.KeyedParts.len.Goals as goal

pub returns-in-Entries : goal.returns-in-Entries
returns-in-Entries c =
    omega (arith, ap (λ keys. length (keys_among keys)) c.in-Entries.is, both_keys c.in-Entries.entries.now c.in-Entries.parts.now)
