-- What is known of a place after its holes were filled, be it all of them or some.
use Rattle.std.specs.Prelude.{◌≡◌, ℕ, List}
use Rattle.fr_frame.specs.declared.places.Slot.{Slot}
use Rattle.fr_frame.specs.Bodies.{Body, body_occurs, IsClosed}
use Rattle.fr_frame.specs.Changes.{Becomes}
use Rattle.fr_frame.specs.Heap.{Node}

-- the place in this slot has no child in a slot of its own and the tokens that it had, and all else is as it was
pub record IsClosedAt (before after : List Slot) (n : ℕ) (at : Node) : Type 0 where
  pub body : Body
  pub closed : IsClosed body
  pub tokens : (t : ℕ) → body_occurs body t ≡ body_occurs at.body t
  pub becomes : Becomes before after n at body
