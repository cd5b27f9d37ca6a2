use Rattle.std.proofs.Common.{◌∙◌}
use Rattle.fr_doc.proofs.ParsedForms.{char_parses}
use Rattle.fr_doc.proofs.numerals.read_char.Goals as goal

pub returns : goal.returns
returns c = c.ok.ensures.value ∙ char_parses c.args.text.now c.parse.result c.utf8.text c.parse.ensures.value
