-- What a reading gives, against the form that stands there.
use Rattle.std.specs.Prelude.{◌≡◌, ℕ, List, Option, Some, None, Result, Ok, Err, ⊤}
use Rattle.fr_shape.specs.declared.value.Value.{Value}
use Rattle.fr_shape.specs.declared.value.Dyn.{Dyn}
use Rattle.fr_shape.specs.Val.{Val, Dynamic}
use Rattle.fr_shape.specs.View.{view, dyn_view}
use Rattle.fr_doc.specs.declared.fault.ReadError.{ReadError}
use Rattle.fr_doc.specs.declared.read_error.Broken.{Broken}

-- what was read is seen as what the form holds; broken only where there is no form, and any part may be out of memory
abbrev pub Reads : {A X : Type 0} → (A → X) → Option X → Result A (ReadError Broken) → Type 0
Reads seen form (Ok found) = form ≡ Some (seen found)
Reads seen form (Err (ReadError.Fault broken)) = form ≡ None
Reads seen form (Err ReadError.Memory) = ⊤

-- a dynamic object's entry as plain data
abbrev pub member_view : List ℕ × Dyn → List ℕ × Dynamic
member_view m = (m.0, dyn_view m.1)

-- a map's entry as plain data
abbrev pub entry_view : Value × Value → Val × Val
entry_view e = (view e.0, view e.1)
