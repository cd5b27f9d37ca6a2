-- The open places of a builder, as its state, and what is true of them. Only contracts here and inside `fr_work` speak of them.
use Rattle.std.specs.Prelude.{◌≡◌, ℕ, List, []}
use Rattle.fr_shape.specs.declared.shape.ShapeId.{ShapeId}
use Rattle.fr_shape.specs.Checked.{IsChecked}
use Rattle.fr_shape.specs.Look.{Table, IsIn}
use Rattle.fr_model.specs.Places.{Place}
use Rattle.fr_model.specs.Tree.{change_at, shape_in, Mode, strict, deferred, State, Tree}
use Rattle.fr_plan.specs.TypePlan.{Plan, IsPlanOf}
use Rattle.fr_frame.specs.declared.places.Slot.{Slot}
use Rattle.fr_frame.specs.Heap.{slots_occur}
use Rattle.fr_store.specs.StackMoves.{cursor_in, tree_here, tree_in_slots, IsOpenAt}
use Rattle.fr_store.specs.Stands.{IsOpen}
use Rattle.fr_store.specs.Stored.{IsKept}
use Rattle.fr_store.specs.Suited.{IsSuited}
use Rattle.fr_moves.specs.declared.parts.Frames.{Frames}
use Rattle.fr_refusals.specs.Modes.{mode_of}

-- the shape of the place at which it works
abbrev pub shape_here : Table → (root : ℕ) → List Slot → List ℕ → ℕ
shape_here table root slots stack = shape_in table root (cursor_in slots stack) (tree_in_slots slots stack)

-- the state, after so many calls
abbrev pub state_of : List Slot → List ℕ → Mode → (calls : ℕ) → State
state_of slots stack mode calls = record {
  tree = tree_in_slots slots stack;
  cursor = cursor_in slots stack;
  mode = mode;
  calls = calls;
}

-- Slots and stack stand for a tree that suits a root of this shape, with conversions that suit their places, and for a place in it, by a
-- plan of that shape over a checked table, in whatever mode.
pub record IsReady (table : Table) (root : ShapeId) (plan : Plan) (slots : List Slot) (stack : List ℕ) : Type 0 where
  pub inside : IsIn table root.0
  pub checked : IsChecked table
  pub planned : IsPlanOf table root plan
  pub shown : IsOpen plan slots stack
  pub suits : IsSuited table root.0 (tree_in_slots slots stack)

-- in strict mode nothing is stored
abbrev pub StoresNothing : Mode → (store : List ℕ) → Type 0
StoresNothing strict store = store ≡ []
StoresNothing (deferred start) store = Unit {0}

-- the place on top of the stack, its shape and what stands there
abbrev pub top_place : Frames → Place
top_place frames = cursor_in frames.slots frames.stack

abbrev pub top_shape : Frames → ℕ
top_shape frames = shape_here frames.table.now frames.root.0 frames.slots frames.stack

abbrev pub top_tree : Frames → Tree
top_tree frames = tree_here frames.slots frames.stack

-- the tree for which all places stand
abbrev pub whole_tree : Frames → Tree
whole_tree frames = tree_in_slots frames.slots frames.stack

-- how often a token is held at all places
abbrev pub held_in : Frames → ℕ → ℕ
held_in frames t = slots_occur frames.slots t

-- The open places stand for a tree and a place in it; what is stored is listed, and in strict mode nothing is.
pub record AreOpen (plan : Plan) (frames : Frames) : Type 0 where
  pub shown : IsOpen plan frames.slots frames.stack
  pub kept : IsKept frames.store frames.slots
  pub stores : StoresNothing (mode_of frames.mode) frames.store

-- So they do, and the tree suits their root by a plan of it.
pub record IsAtWork (plan : Plan) (frames : Frames) : Type 0 where
  pub ready : IsReady frames.table.now frames.root plan frames.slots frames.stack
  pub kept : IsKept frames.store frames.slots
  pub stores : StoresNothing (mode_of frames.mode) frames.store

-- there is a plan by which the open places stand for a tree and a place in it
pub record AreOpened (frames : Frames) : Type 0 where
  pub plan : Plan
  pub are_open : AreOpen plan frames

-- This place is on top then, and this is the tree; what is stored is listed, and in strict mode nothing is; and nothing else changed.
pub record Became (plan : Plan) (place : Place) (tree : Tree) (before after : Frames) : Type 0 where
  pub stands : IsOpenAt plan after.slots after.stack place tree
  pub kept : IsKept after.store after.slots
  pub stores : StoresNothing (mode_of before.mode) after.store
  pub same : after ≡ record before { slots = after.slots; stack = after.stack; store = after.store }

-- the place on top stays there, and this is made of it
abbrev pub Changed : Plan → (change : Tree → Tree) → (before after : Frames) → Type 0
Changed plan change before after =
    Became plan (top_place before) (change_at (top_place before) change (whole_tree before)) before after
