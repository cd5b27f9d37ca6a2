-- The path of the place at which a builder works depends only on the places above it: whatever becomes of the place keeps the path,
-- entering a child adds a step, going up takes the last one away, and the end of deferred mode keeps the path.
use Rattle.std.specs.Prelude.{◌≡◌, ◌∷◌, ◌++◌}
use Rattle.fr_model.specs.Common.{ℕ, true, List, [], length, Option, Some, None, Def, Meanings, Table, def_of, PathStep}
use Rattle.fr_model.specs.Basis.{is_begun_object, step_as, step_below, steps_in, path_of, Place, up, Tracker, as_content, ContentKind, tracker_at, Tree, begun, change_at, count_below, fresh, without_source, State, cursor_shape, cursor_tree, Leads, IsInOrder}
use Rattle.fr_model.specs.Entering.{Way, enters}
use Rattle.fr_model.specs.Finish.{finished}
use Rattle.fr_model.specs.Step.{option_kept, content_kept}

-- the path has one step for each place below the root on the way to the cursor, so that only the root has none
abbrev pub PathIsAsDeep : Type 0
PathIsAsDeep = (state : State) → length (path_of state) ≡ length state.cursor

-- whatever becomes of the cursor's place, its path stays
abbrev pub ChangingKeepsThePath : Type 0
ChangingKeepsThePath =
    (state : State) (change : Tree → Tree) → steps_in state.cursor (change_at state.cursor change state.tree) ≡ path_of state

-- the path of a child of the cursor's place is that place's, and the step to the child from what the place has become
abbrev pub EnteringAddsAStep : Type 0
EnteringAddsAStep =
    (state : State) (change : Tree → Tree) (i : ℕ) → Leads state.mode state.cursor state.tree
    → steps_in (state.cursor ++ i ∷ []) (change_at state.cursor change state.tree)
    ≡ path_of state ++ step_below i (change (cursor_tree state)) ∷ []

-- the step to which a way leads on from a place of this definition: to a child as what the place is begun as tells, or will be, having
-- started anew or not; to a new item or key behind the children that are there; to the entry of a key; to the one child of what is begun
-- around it
abbrev pub step_on : Def → Tree → Way → PathStep
step_on def tree (Way.Child i) = step_as (tracker_at def (without_source def tree)) i
step_on def tree (Way.Anew i) = step_as (tracker_at def (fresh def)) i
step_on def tree Way.Item = step_as (tracker_at def tree) (count_below tree)
step_on def tree Way.Key = step_as (tracker_at def tree) (count_below tree)
step_on def tree (Way.Value i) = step_as (tracker_at def tree) i
step_on def tree (Way.Entry key) = PathStep.Entry key
step_on def tree (Way.Content tracker kept) = step_as tracker 0

-- the place is begun
abbrev pub HasBegun : Tree → Type 0
HasBegun (begun tracker children) = Unit {0}
HasBegun _ = ⊥

-- the place is begun just so
abbrev pub HasBegunAs : Tracker → Tree → Type 0
HasBegunAs tracker (begun made children) = made ≡ tracker
HasBegunAs tracker _ = ⊥

-- what is kept of a place, if anything is, is begun so
abbrev pub IsKeptAs : Tracker → (kept : Option Tree) → Type 0
IsKeptAs tracker (Some tree) = HasBegunAs tracker tree
IsKeptAs tracker None = Unit {0}

-- A way on is admitted at such a place: to an item or a key where the place is begun, to an entry where it is begun as a dynamic
-- object, and to the one child of a place that is begun around it where what is kept is begun so. To a child by its number it always is.
abbrev pub IsAdmittedOn : Tree → Way → Type 0
IsAdmittedOn tree (Way.Child i) = Unit {0}
IsAdmittedOn tree (Way.Anew i) = Unit {0}
IsAdmittedOn tree Way.Item = HasBegun tree
IsAdmittedOn tree Way.Key = HasBegun tree
IsAdmittedOn tree (Way.Value i) = Unit {0}
IsAdmittedOn tree (Way.Entry key) = is_begun_object tree ≡ true
IsAdmittedOn tree (Way.Content tracker kept) = IsKeptAs tracker kept

-- on each way that is admitted, in a state that is in order, this is the step that is added
abbrev pub EnteringAddsItsStep : Type 0
EnteringAddsItsStep =
    (table : Table) (root : ℕ) (state : State) (way : Way) → IsInOrder table root state → IsAdmittedOn (cursor_tree state) way
    → path_of (enters table (cursor_shape table root state) state way)
    ≡ path_of state ++ step_on (def_of table (cursor_shape table root state)) (cursor_tree state) way ∷ []

-- what the commands keep of a side, of what a pointer points to, of a source, and of an option is begun as what they enter
abbrev pub KeptIsAdmitted : Type 0
KeptIsAdmitted =
    (table : Table) (s : ℕ) (state : State) (tracker : Tracker)
    → IsKeptAs tracker (content_kept state tracker) × IsKeptAs (as_content ContentKind.Some) (option_kept table s state)

-- these steps lead to the place above the cursor's: where the cursor's place stays as it is, where something becomes of it, and where
-- something becomes of the place above
pub record LeadAbove (state : State) (before : List PathStep) : Type 0 where
  pub as_it_is : steps_in (up state.cursor) state.tree ≡ before
  pub changed : (change : Tree → Tree) → steps_in (up state.cursor) (change_at state.cursor change state.tree) ≡ before
  pub changed_above : (change : Tree → Tree) → steps_in (up state.cursor) (change_at (up state.cursor) change state.tree) ≡ before

-- going up takes the last step away
abbrev pub LeavingDropsAStep : Type 0
LeavingDropsAStep =
    (state : State) (before : List PathStep) (last : PathStep) → path_of state ≡ before ++ last ∷ [] → LeadAbove state before

-- the end of deferred mode keeps the path
abbrev pub FinishingKeepsThePath : Type 0
FinishingKeepsThePath =
    (hooks : Meanings) (table : Table) (s : ℕ) (cursor : Place) (tree next : Tree)
    → finished hooks table s cursor tree ≡ Some next → steps_in cursor next ≡ steps_in cursor tree
