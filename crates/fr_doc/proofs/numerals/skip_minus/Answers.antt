use Rattle.std.proofs.Common.{None, sym, lit<}
use Rattle.std.proofs.lemmas.Str.Pattern.{strip_prefix_char}
use Rattle.fr_doc.proofs.ParsedForms.{no_minus}
use Rattle.fr_doc.proofs.numerals.skip_minus.Goals as goal

pub returns-in-None : goal.returns-in-None
returns-in-None c =
    sym (no_minus c.args.text.now (strip_prefix_char 45 c.args.text.now None c.in-None.ensures.cases (lit< tt)))
