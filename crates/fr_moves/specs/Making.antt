-- What becomes of all that a builder works with, as a move is made.
use Rattle.std.specs.Prelude.{◌≡◌, ◌⊎◌, Result, Ok, Err}
use Rattle.fr_shape.specs.declared.error.ReflectErrorKind.{ReflectErrorKind}
use Rattle.fr_model.specs.Tree.{State}
use Rattle.fr_moves.specs.declared.parts.Parts.{Parts}
use Rattle.fr_moves.specs.Works.{site}

-- What was meant came about, while the parts are changed where they are: where it is a state, that is the state then, over the same table, root
-- and plan; where it is a refusal, that is its kind; or memory ran out.
abbrev pub IsMade : {A : Type 0} → (before after : Parts) → (meant : Result State ReflectErrorKind) → Result A ReflectErrorKind → Type 0
IsMade before after meant (Ok done) =
    (meant ≡ Ok (site after).state) × ((site after).shapes ≡ (site before).shapes) × ((site after).root ≡ (site before).root)
    × ((site after).plan ≡ (site before).plan)
IsMade before after meant (Err kind) = (kind ≡ ReflectErrorKind.OutOfMemory) ⊎ (meant ≡ Err kind)
