-- Why no variant is selected at a place.
use Rattle.std.specs.Prelude.{ℕ, Option, Some, None}
use Rattle.fr_shape.specs.declared.error.Operation.{Operation}
use Rattle.fr_shape.specs.declared.shape.Def.{Def}
use Rattle.fr_model.specs.Variants.{selection_refusal}

-- why the variant that was found in an enum isn't selected, if it isn't
abbrev pub found_refusal : Def → (unknown : Operation) → (found : Option ℕ) → Option Operation
found_refusal def unknown (Some k) = selection_refusal def k
found_refusal def unknown None = Some unknown
