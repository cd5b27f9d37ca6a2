-- Forms as which a place is begun for a content, and of a place that has a child: never as a map, nor so that a child is completed as it
-- is left.
use Rattle.std.proofs.Common.{◌≡◌, ℕ, true, false, refl, sym, ◌∙◌, ap}
use Rattle.fr_model.specs.Trackers.{Conversion}
use Rattle.fr_moves.specs.Common.{ContentKind, HasChild, Tracker, Tree, as_content, base_of_tracker, begun, is_around, is_map, is_map_tracker}

-- around one child
module _ (So : Tracker → Type 0) (of_some : So (as_content ContentKind.Some)) (of_ok : So (as_content ContentKind.Ok)) (of_err : So (as_content ContentKind.Err)) (of_pointer : So (as_content ContentKind.Pointer))
    (of_source : (conversion : Conversion) → So (as_content (ContentKind.Source conversion))) where
  pub of_content : (tracker : Tracker) → is_around tracker ≡ true → So tracker
  of_content (as_content ContentKind.Some) h = of_some
  of_content (as_content ContentKind.Ok) h = of_ok
  of_content (as_content ContentKind.Err) h = of_err
  of_content (as_content ContentKind.Pointer) h = of_pointer
  of_content (as_content (ContentKind.Source conversion)) h = of_source conversion
  of_content _ h = cc

pub around_base : (tracker : Tracker) → is_around tracker ≡ true → base_of_tracker tracker ≡ 0
around_base = of_content (λ tracker. base_of_tracker tracker ≡ 0) refl refl refl refl (λ conversion. refl)

pub around_map : (tracker : Tracker) → is_around tracker ≡ true → is_map_tracker tracker ≡ false
around_map = of_content (λ tracker. is_map_tracker tracker ≡ false) refl refl refl refl (λ conversion. refl)

-- what is begun so is no map
pub never_map : (tracker : Tracker) (i : ℕ) (t : Tree) → HasChild tracker i t → is_map_tracker tracker ≡ false → is_map t ≡ true → ⊥
never_map tracker i (begun made ts) has other h =
    let apart : true ≡ false = sym h ∙ ap is_map_tracker has.0 ∙ other in
    cc
never_map tracker i _ has other h = absurd has
