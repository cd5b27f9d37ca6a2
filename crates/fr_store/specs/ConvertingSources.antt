-- What becomes of the source of a conversion as it ends in strict mode.
use Rattle.std.specs.Prelude.{◌≡◌, ℕ, List, Some}
use Rattle.fr_shape.specs.declared.error.ReflectErrorKind.{ReflectErrorKind}
use Rattle.fr_shape.specs.Hooks.{Meanings, gives}
use Rattle.fr_shape.specs.Look.{Table}
use Rattle.fr_shape.specs.Val.{Val}
use Rattle.fr_model.specs.Conversions.{refusal_through}
use Rattle.fr_model.specs.Places.{up}
use Rattle.fr_model.specs.Trackers.{ContentKind, Conversion, as_content}
use Rattle.fr_model.specs.Tree.{Tree, change_at, shape_in, tree_at, whole}
use Rattle.fr_plan.specs.TypePlan.{Plan}
use Rattle.fr_frame.specs.declared.places.Slot.{Slot}
use Rattle.fr_store.specs.StackMoves.{HasTracker, IsOpenAt, cursor_in, tree_in_slots}
use Rattle.fr_store.specs.Turns.{root_shape}

-- what stands at the place above the one at which it works
abbrev pub tree_above : List Slot → List ℕ → Tree
tree_above slots stack = tree_at (up (cursor_in slots stack)) (tree_in_slots slots stack)

-- the shape of that place
abbrev pub shape_above : Table → Plan → List Slot → List ℕ → ℕ
shape_above table plan slots stack = shape_in table (root_shape plan) (up (cursor_in slots stack)) (tree_in_slots slots stack)

-- The place above is a conversion, whose hook made something of this value: the place is whole with it, and the builder works there.
pub record IsConvertedUp (means : Meanings) (table : Table) (plan : Plan) (before : List Slot) (stack : List ℕ) (after : List Slot) (next : List ℕ) (value : Val) : Type 0 where
  pub conversion : Conversion
  pub above : HasTracker (as_content (ContentKind.Source conversion)) (tree_above before stack)
  pub result : Val
  pub meant : means.convert table conversion.hook (shape_above table plan before stack) value ≡ gives result
  pub stands :
      IsOpenAt plan after next (up (cursor_in before stack))
      (change_at (up (cursor_in before stack)) (λ old. whole result) (tree_in_slots before stack))

-- The place above is a conversion, and this is why its hook makes nothing of this value.
pub record IsRefusedUp (means : Meanings) (table : Table) (plan : Plan) (before : List Slot) (stack : List ℕ) (value : Val) (kind : ReflectErrorKind) : Type 0 where
  pub conversion : Conversion
  pub above : HasTracker (as_content (ContentKind.Source conversion)) (tree_above before stack)
  pub refused :
      refusal_through conversion.through conversion.source (shape_above table plan before stack)
      (means.convert table conversion.hook (shape_above table plan before stack) value) ≡ Some kind
