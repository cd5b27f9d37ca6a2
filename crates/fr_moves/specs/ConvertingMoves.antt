-- Converting the source of a conversion, as it ends in strict mode.
use Rattle.std.specs.Prelude.{◌≡◌, ◌⊎◌, ℕ, true, false, Some, IsSome}
use Rattle.fr_shape.specs.declared.error.ReflectErrorKind.{ReflectErrorKind}
use Rattle.fr_shape.specs.Hooks.{Meanings}
use Rattle.fr_shape.specs.Look.{Table}
use Rattle.fr_shape.specs.Val.{Val}
use Rattle.fr_model.specs.Complete.{complete}
use Rattle.fr_model.specs.Places.{is_root, strict_column, up}
use Rattle.fr_model.specs.Step.{cause}
use Rattle.fr_model.specs.Tree.{Tree, change_at, is_begun_conversion, shape_in, tree_at, whole}
use Rattle.fr_plan.specs.TypePlan.{Plan}
use Rattle.fr_moves.specs.declared.parts.Frames.{Frames}
use Rattle.fr_moves.specs.CompletedPlaces.{IsLacking, IsOfUntaken}
use Rattle.fr_moves.specs.Underway.{top_place, whole_tree, Became}

-- the shape of the place above the one on top, and what stands there
abbrev pub shape_above : Frames → ℕ
shape_above frames = shape_in frames.table.now frames.root.0 (up (top_place frames)) (whole_tree frames)

abbrev pub tree_above : Frames → Tree
tree_above frames = tree_at (up (top_place frames)) (whole_tree frames)

-- the place on top is the source of a conversion
abbrev pub IsSourceOnTop : Frames → Type 0
IsSourceOnTop frames = (is_root (top_place frames) ≡ false) × (is_begun_conversion (tree_above frames) ≡ true)

-- the place above makes a value in strict mode, and is whole with it, and on top, then
pub record IsConverted (means : Meanings) (plan : Plan) (before after : Frames) : Type 0 where
  pub value : Val
  pub meant : complete strict_column means before.table.now (shape_above before) (tree_above before) ≡ Some value
  pub became : Became plan (up (top_place before)) (change_at (up (top_place before)) (λ old. whole value) (whole_tree before)) before after

-- what stands at a place of shape s is a conversion, and there was no memory: to convert its source, or to say why the value of the source,
-- or of a field in it, isn't taken
pub record NeedsMemoryToConvert (means : Meanings) (table : Table) (s : ℕ) (t : Tree) (kind : ReflectErrorKind) : Type 0 where
  pub memory : kind ≡ ReflectErrorKind.OutOfMemory
  pub needed : IsSome (complete strict_column means table s t) ⊎ IsOfUntaken (cause means table s t)

-- why a conversion that stands at a place of shape s isn't made
abbrev pub WhyUnconverted : Meanings → Table → ℕ → Tree → ReflectErrorKind → Type 0
WhyUnconverted means table s t kind = IsLacking means table s t kind ⊎ NeedsMemoryToConvert means table s t kind
