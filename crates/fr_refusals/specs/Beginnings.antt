-- How a place comes to be begun so: what of it is kept, and what it is then.
use Rattle.std.specs.Prelude.{ℕ, ◌&&◌, is_some, Option, Some, None, if◌then◌else◌}
use Rattle.fr_shape.specs.declared.shape.Def.{Def}
use Rattle.fr_model.specs.Contents.{content_of, is_entered_in_place}
use Rattle.fr_model.specs.Trackers.{Tracker, as_content, ContentKind, same_tracker}
use Rattle.fr_model.specs.Tree.{Tree, hole, entered, whole, begun, holes, Mode, strict, deferred}
use Rattle.fr_model.specs.Entering.{opened_as}
use Rattle.fr_refusals.specs.declared.beginning.Beginning.{Beginning}

-- what is kept of what stands there, where it comes to be begun so
abbrev pub kept_by : Beginning → Tracker → Tree → Option Tree
kept_by Beginning.AsItIs tracker tree = Some tree
kept_by Beginning.InPlace tracker tree = Some (opened_as tracker 1 tree)
kept_by Beginning.Anew tracker tree = None

-- the place then, of which no child was entered yet: one that starts anew has so many holes
abbrev pub begun_by : Beginning → Tracker → (count : ℕ) → Tree → Tree
begun_by Beginning.AsItIs tracker count tree = tree
begun_by Beginning.InPlace tracker count tree = opened_as tracker count tree
begun_by Beginning.Anew tracker count tree = begun tracker (holes count)

-- what is begun just so stays as it is, and anything else starts anew
abbrev pub beginning_so : Tracker → Tree → Beginning
beginning_so tracker hole = Beginning.Anew
beginning_so tracker entered = Beginning.Anew
beginning_so tracker (whole v) = Beginning.Anew
beginning_so tracker (begun made children) = if same_tracker made tracker then Beginning.AsItIs else Beginning.Anew

-- a side or a pointee: so it is in deferred mode, while in strict mode it always starts anew
abbrev pub beginning_in : Mode → Tracker → Tree → Beginning
beginning_in strict tracker tree = Beginning.Anew
beginning_in (deferred start) tracker tree = beginning_so tracker tree

-- the content of an option, which has this definition: a whole `Some` may be entered in place besides
abbrev pub beginning_of_some : Mode → (content : Def) → Tree → Beginning
beginning_of_some mode content hole = Beginning.Anew
beginning_of_some mode content entered = Beginning.Anew
beginning_of_some mode content (whole v) =
    if is_entered_in_place mode content && is_some (content_of v) then Beginning.InPlace else Beginning.Anew
beginning_of_some mode content (begun made children) = beginning_in mode (as_content ContentKind.Some) (begun made children)

-- the same where it is entered as what the option wraps: in strict mode it starts anew
abbrev pub beginning_of_inner : Mode → (content : Def) → Tree → Beginning
beginning_of_inner strict content tree = Beginning.Anew
beginning_of_inner (deferred start) content tree = beginning_of_some (deferred start) content tree
