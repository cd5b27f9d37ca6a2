-- Std's search for a text finds it where the specification does.
use Rattle.std.proofs.lemmas.Str.Pattern.{contains_text}
use Rattle.fr_rules.proofs.Within.{within_tells}
use Rattle.fr_rules.proofs.validators.is_within.Goals as goal

pub returns : goal.returns
returns c = within_tells _ _ _ (contains_text _ _ _ c.contains.ensures.cases)
