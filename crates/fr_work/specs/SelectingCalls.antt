-- Which calls select a variant.
use Rattle.std.specs.Prelude.{◌≡◌, ℕ, List, Option, None}
use Rattle.fr_shape.specs.declared.error.Operation.{Operation}
use Rattle.fr_shape.specs.declared.shape.VariantDef.{VariantDef}
use Rattle.fr_shape.specs.Hooks.{Meanings}
use Rattle.fr_model.specs.Commands.{Call}
use Rattle.fr_model.specs.Scripts.{value_brought}
use Rattle.fr_model.specs.Step.{select, step}
use Rattle.fr_moves.specs.Sites.{Site, shape_at}

-- the call brings no value, and selects the variant that is found so, or is refused with this operation where none is
pub record Selects (site : Site) (call : Call) (find : List VariantDef → Option ℕ) (unknown : Operation) : Type 0 where
  pub nothing : value_brought call ≡ None
  pub means : (hooks : Meanings) → step hooks site.shapes site.root site.state call
      ≡ select site.shapes (shape_at site) site.state find unknown
