-- What is asked of a field's rule.
use Rattle.std.specs.Prelude.{Bool, true, false}
use Rattle.fr_rules.specs.declared.fills.FillRule.{FillRule}

-- a hole takes a default
abbrev pub is_defaultable : FillRule → Bool
is_defaultable (FillRule.Defaultable default) = true
is_defaultable FillRule.Required = false
