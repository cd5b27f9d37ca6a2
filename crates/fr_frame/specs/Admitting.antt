-- What a table says of a place whose children may be entered.
use Rattle.std.specs.Prelude.{◌≡◌, ℕ, false, Some}
use Rattle.fr_shape.specs.Look.{Table, def_of}
use Rattle.fr_model.specs.Trackers.{as_fields, is_conversion}
use Rattle.fr_model.specs.Tree.{Tree, selected}
use Rattle.fr_model.specs.Well.{IsFullAs}
use Rattle.fr_frame.specs.Heap.{as_tracker}
use Rattle.fr_frame.specs.declared.admitting.Opening.{Opening}

-- a place of shape s at which this stands may be begun so, and has as many children then; as a variant only as the one that is selected,
-- and never as a conversion
pub record Describes (table : Table) (s : ℕ) (tree : Tree) (opening : Opening) : Type 0 where
  pub begun : IsFullAs (def_of table s) (as_tracker opening.tracker) opening.count
  pub plain : is_conversion (as_tracker opening.tracker) ≡ false
  pub variant : (k : ℕ) → as_tracker opening.tracker ≡ as_fields (Some k) → selected tree ≡ Some k
