-- What becomes of all that a builder works with, as a move is made.
use Rattle.std.specs.Prelude.{◌≡◌, ◌≢◌, ◌⊎◌, ℕ, Result, Ok, Err, IfErr}
use Rattle.fr_shape.specs.declared.error.ReflectErrorKind.{ReflectErrorKind}
use Rattle.fr_model.specs.Tree.{State}
use Rattle.fr_work.specs.declared.reflect_error.ReflectError.{ReflectError}
use Rattle.fr_moves.specs.Sites.{Site, held_at}

-- What was meant came about: where it is a state, that is the state then, over the same table, root and plan; where it is a refusal, that is
-- the error's kind; or memory ran out.
abbrev pub IsMoved : Site → (meant : Result State ReflectErrorKind) → Result Site ReflectError → Type 0
IsMoved before meant (Ok after) =
    (meant ≡ Ok after.state) × (after.shapes ≡ before.shapes) × (after.root ≡ before.root) × (after.plan ≡ before.plan)
IsMoved before meant (Err error) = (error.kind ≡ ReflectErrorKind.OutOfMemory) ⊎ (meant ≡ Err error.kind)

-- how often a token is held then: not at all where the move was refused
abbrev pub left_at : Result Site ReflectError → ℕ → ℕ
left_at (Ok after) t = held_at after t
left_at (Err error) t = 0

-- the call isn't out of memory
abbrev pub IsNotOutOfMemory : {A : Type 0} → Result A ReflectError → Type 0
IsNotOutOfMemory result = IfErr result (λ error. error.kind ≢ ReflectErrorKind.OutOfMemory)
