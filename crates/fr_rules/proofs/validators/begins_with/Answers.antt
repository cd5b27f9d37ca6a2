-- Std's test of a text's beginning is the specification's.
use Rattle.std.proofs.Common.{sym, ◌∙◌}
use Rattle.std.proofs.lemmas.Str.Pattern.{starts_text}
use Rattle.fr_rules.proofs.Within.{begins-starts}
use Rattle.fr_rules.proofs.validators.begins_with.Goals as goal

pub returns : goal.returns
returns c = starts_text _ _ _ c.starts_with.ensures.cases ∙ sym (begins-starts c.args.beginning.now c.args.text.now)
