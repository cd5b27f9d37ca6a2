-- Where a place may come to be begun so.
use Rattle.std.specs.Prelude.{◌≡◌}
use Rattle.fr_model.specs.Trackers.{Tracker, as_content, ContentKind}
use Rattle.fr_model.specs.Tree.{Tree, hole, entered, whole, begun}
use Rattle.fr_frame.specs.Bodies.{MayOpen, whole_body}
use Rattle.fr_store.specs.StackMoves.{HasChild}
use Rattle.fr_refusals.specs.declared.beginning.Beginning.{Beginning}

-- a whole value stands there that has parts for the children of a place that is begun so, and holds nothing twice
abbrev pub IsWholeWith : Tracker → Tree → Type 0
IsWholeWith tracker hole = ⊥
IsWholeWith tracker entered = ⊥
IsWholeWith tracker (whole v) = MayOpen tracker (whole_body v)
IsWholeWith tracker (begun made children) = ⊥

-- a place with a content may come to be begun so around it: one that stays as it is has the content already, and in place only a
-- whole `Some` is begun
abbrev pub MayBeginAround : Beginning → Tracker → Tree → Type 0
MayBeginAround Beginning.AsItIs tracker tree = HasChild tracker 0 tree
MayBeginAround Beginning.InPlace tracker tree = IsWholeWith tracker tree × (tracker ≡ as_content ContentKind.Some)
MayBeginAround Beginning.Anew tracker tree = Unit {0}
