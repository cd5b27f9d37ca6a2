-- How a builder's state and a run of the rules stand to each other, place by place.
use Rattle.std.specs.Prelude.{◌≡◌, ◌<◌, ◌∷◌, if◌then◌else◌}
use Rattle.fr_model.specs.Common.{ℕ, [], Option, Some, None, Result, Ok, Err, Def, ReflectErrorKind, is_empty_struct, Table, def_of, product, no_vals}
use Rattle.fr_model.specs.Basis.{Place, shape_at, Held, in_parts, written, just_entered, untouched, held, Progress, Tracker, as_fields, as_elements, as_content, as_items, as_entries, Tree, hole, entered, whole, begun, count_trees, tree_nth, tree_at, State, IsFullAs}

-- a place of a tree: a way from the top through begun places leads to it
abbrev pub HasPlace : Place → Tree → Type 0
HasPlace [] t = Unit {0}
HasPlace (i ∷ place) (begun tracker children) = (i < count_trees children) × HasPlace place (tree_nth i children)
HasPlace (i ∷ place) _ = ⊥

-- a place that is begun so has parts to which the journal writes: as a struct or an array
abbrev pub HasParts : Tracker → Type 0
HasParts (as_fields None) = Unit {0}
HasParts as_elements = Unit {0}
HasParts (as_fields (Some k)) = ⊥
HasParts (as_content kind) = ⊥
HasParts (as_items kind) = ⊥
HasParts (as_entries kind) = ⊥

-- a place is begun, as a struct or an array with all its children, as its definition says
abbrev pub IsBegun : Def → Tree → Type 0
IsBegun def (begun tracker children) = HasParts tracker × IsFullAs def tracker (count_trees children)
IsBegun def _ = ⊥

-- What stands in the tree at a place of this definition, by what the journal holds of it. A hole stands exactly where the
-- journal holds nothing. Where the place was only entered it is entered, but a struct without fields is whole with the
-- empty product. Where a value is written the place is whole with it, and where it has parts the place is begun.
abbrev pub StandsFor : Def → Held → Tree → Type 0
StandsFor def untouched node = node ≡ hole
StandsFor def just_entered node = node ≡ (if is_empty_struct def then whole (product no_vals) else entered)
StandsFor def (written v) node = node ≡ whole v
StandsFor def in_parts node = IsBegun def node

-- A state and a run are at the same place, in the same mode, and at each place of the tree stands what the journal holds of it.
pub record IsRelated (table : Table) (root : ℕ) (state : State) (run : Progress) : Type 0 where
  pub same_cursor : run.cursor ≡ state.cursor
  pub same_mode : run.mode ≡ state.mode
  pub each_place : (place : Place) → HasPlace place state.tree
      → StandsFor (def_of table (shape_at table root place)) (held run.notes place) (tree_at place state.tree)

-- both go on, to a state and a run that are related, or neither does
abbrev pub BothGoOn : Table → (root : ℕ) → Result State ReflectErrorKind → Option Progress → Type 0
BothGoOn table root (Ok next) (Some run) = IsRelated table root next run
BothGoOn table root (Ok next) None = ⊥
BothGoOn table root (Err kind) (Some run) = ⊥
BothGoOn table root (Err kind) None = Unit {0}
