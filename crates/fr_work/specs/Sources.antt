-- Which calls begin a conversion.
use Rattle.std.specs.Prelude.{◌≡◌, ℕ, List, Option, None, Ok}
use Rattle.fr_shape.specs.Hooks.{Meanings}
use Rattle.fr_model.specs.Commands.{Call}
use Rattle.fr_model.specs.Scripts.{value_brought}
use Rattle.fr_model.specs.Step.{begin_custom_deserialization, begin_custom_deserialization_from_shape, enters_source, step}
use Rattle.fr_model.specs.Trackers.{Conversion}
use Rattle.fr_moves.specs.Sites.{Site, shape_at}

-- the call brings no value, and begins this conversion
pub record Begins (site : Site) (call : Call) (conversion : Conversion) : Type 0 where
  pub nothing : value_brought call ≡ None
  pub means : (hooks : Meanings) → step hooks site.shapes site.root site.state call
      ≡ Ok (enters_source site.shapes (shape_at site) site.state conversion)

-- the call brings no value, and begins the conversion through the proxy that the field has for this format, or for none
pub record BeginsByField (site : Site) (call : Call) (format : Option (List ℕ)) : Type 0 where
  pub nothing : value_brought call ≡ None
  pub means : (hooks : Meanings) → step hooks site.shapes site.root site.state call
      ≡ begin_custom_deserialization site.shapes site.root (shape_at site) site.state format

-- the call brings no value, and begins the conversion through the proxy that the shape has for this format, or for none, if it has one
pub record BeginsFromShape (site : Site) (call : Call) (format : Option (List ℕ)) : Type 0 where
  pub nothing : value_brought call ≡ None
  pub means : (hooks : Meanings) → step hooks site.shapes site.root site.state call
      ≡ Ok (begin_custom_deserialization_from_shape site.shapes site.root (shape_at site) site.state format)
