-- How slots and a stack of them stand for one tree and the place at which a builder works.
use Rattle.std.specs.Prelude.{◌≡◌, ℕ, ◌<◌, ◌≤◌, List, [], ◌∷◌, ◌++◌, Option, Some, None, IsSome}
use Rattle.fr_store.specs.Below.{AreLeftRightly, FrameOwner, Heap, Holds, Kid, Node, Place, Plan, Slot, Tree, gone, heap_of, kid_of, tree_of}
use Rattle.fr_store.specs.Ways.{slots_along, uses, LeadsUnstored}

-- The heap holds this from the root on, no slot serves twice in it, the way leads to a place and all that is off it is stored,
-- and the stack is the slots along the way. No item of a set and no part of a dynamic value is stored.
pub record Stands (plan : Plan) (heap : Heap) (stack : List ℕ) (place : Place) (top : Kid) : Type 0 where
  pub holds : Holds plan heap plan.root FrameOwner.Root 0 top
  pub once : (n : ℕ) → uses top n ≤ 1
  pub leads : LeadsUnstored place top
  pub along : stack ≡ slots_along place top
  pub left : AreLeftRightly top

-- Read off the slots and the stack.

-- what lies in the first slot of the stack
abbrev pub kid_shown : Heap → List ℕ → Kid
kid_shown heap [] = gone
kid_shown heap (slot ∷ slots) = kid_of heap slot

-- what lies in the slots of an open builder
abbrev pub kid_here : List Slot → List ℕ → Kid
kid_here slots stack = kid_shown (heap_of slots) stack

abbrev pub tree_shown : Heap → List ℕ → Tree
tree_shown heap stack = tree_of (kid_shown heap stack)

-- which child of its owner a place is
abbrev pub number_of_owner : FrameOwner → Place
number_of_owner FrameOwner.Root = []
number_of_owner (FrameOwner.Child parent i) = i ∷ []

abbrev pub number_to : Option Node → Place
number_to (Some node) = number_of_owner node.owner
number_to None = []

-- the place in the last slot of the stack, by numbers of children: each place in these slots knows its own
abbrev pub cursor_shown : Heap → List ℕ → Place
cursor_shown heap [] = []
cursor_shown heap (slot ∷ slots) = number_to (heap slot) ++ cursor_shown heap slots

-- Builders that are open, in either mode: slots and stack stand for what they show, and no slot is in use but for a place of it
-- (so that the slots hold just the tokens of the tree: MoveLaws.slots_tokens).
pub record IsOpen (plan : Plan) (slots : List Slot) (stack : List ℕ) : Type 0 where
  pub stands : Stands plan (heap_of slots) stack (cursor_shown (heap_of slots) stack) (kid_shown (heap_of slots) stack)
  -- each slot in use is that of a place of the tree
  pub all : (n : ℕ) → IsSome (heap_of slots n) → 0 < uses (kid_shown (heap_of slots) stack) n

-- by some plan the builder of these slots and this stack is open
pub record IsOpened (slots : List Slot) (stack : List ℕ) : Type 0 where
  pub plan : Plan
  pub is_open : IsOpen plan slots stack
