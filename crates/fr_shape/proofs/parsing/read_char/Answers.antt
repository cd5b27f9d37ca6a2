use Rattle.std.proofs.Common.{sym}
use Rattle.fr_shape.proofs.Parsed.{char_parses}
use Rattle.fr_shape.proofs.parsing.read_char.Goals as goal

pub returns : goal.returns
returns c = char_parses c.args.text.now c.parse.result c.ok.result c.utf8.text c.parse.ensures.value (sym c.ok.ensures.value)
