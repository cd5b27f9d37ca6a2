-- A child of a begun place that is entered: what a way to it asks of the place.
use Rattle.std.proofs.Common.{◌≡◌, ℕ, true, refl, sym}
use Rattle.fr_model.specs.Trackers.{EntriesKind}
use Rattle.fr_moves.specs.Common.{NodeId, Plan, Tracker, Tree, as_entries, begun, child_node}
use Rattle.fr_model.specs.DynamicPlaces.{is_begun_object, is_object_tracker}
use Rattle.fr_store.specs.StackMoves.{tracker_in, HasChild, HasTracker}

pub tracker_there : (tracker : Tracker) (i : ℕ) (tree : Tree) → HasChild tracker i tree → tracker ≡ tracker_in tree
tracker_there tracker i (begun made ts) has = sym has.0
tracker_there tracker i _ has = absurd has

pub child_there : (tracker : Tracker) (i : ℕ) (tree : Tree) → HasChild tracker i tree → HasChild (tracker_in tree) i tree
child_there tracker i (begun made ts) has = (refl, has.1)
child_there tracker i _ has = absurd has

pub tracker_is : (tracker : Tracker) (tree : Tree) → HasTracker tracker tree → tracker ≡ tracker_in tree
tracker_is tracker (begun made ts) has = sym has
tracker_is tracker _ has = absurd has

pub tracker_has : (tracker : Tracker) (tree : Tree) → HasTracker tracker tree → HasTracker (tracker_in tree) tree
tracker_has tracker (begun made ts) has = refl
tracker_has tracker _ has = absurd has

-- the parts of an object are of its own node
pub object_node : (plan : Plan) (node : NodeId) (tree : Tree) (i : ℕ) → is_begun_object tree ≡ true → node ≡ child_node plan node (tracker_in tree) i
object_node plan node (begun tracker ts) i of_object = go tracker of_object
  where
    go : (tracker : Tracker) → is_object_tracker tracker ≡ true → node ≡ child_node plan node tracker i
    go (as_entries (EntriesKind.Object keys)) of_object = refl
    go (as_entries (EntriesKind.Map base)) of_object = absurd (cc)
    go _ of_object = absurd (cc)
object_node plan node _ i of_object = absurd (cc)
