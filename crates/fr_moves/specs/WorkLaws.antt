-- What a builder holds is what its slots hold.
use Rattle.std.proofs.Common.{◌≡◌, ℕ, suc, List, length, ◌∙◌, ap}
use Rattle.fr_moves.specs.Common.{Frames, IsOpen, IsSound, Parts, Plan, Room, Room_same, Site, held_at, held_in, plan_in, site, slots_tokens, tree_occurs, whole_tree}
use Rattle.fr_moves.specs.StateLaws.{stack_length}

-- as contracts see it
pub held_seen : {parts : Parts} → IsSound parts → {seen : Site} → site parts ≡ seen → (t : ℕ)
    → held_in parts.frames t ≡ held_at seen t
held_seen {parts} sound view_is t = slots_tokens sound.at_work.ready.shown t ∙ ap (λ (seen : Site). held_at seen t) view_is

-- what stands in its tree has room in the ledger
pub room_tree : {plan : Plan} (frames : Frames) → IsOpen plan frames.slots frames.stack → (ledger : List ℕ)
    → Room (held_in frames) ledger → Room (tree_occurs (whole_tree frames)) ledger
room_tree {plan} frames shown ledger room =
    Room_same (held_in frames) (tree_occurs (whole_tree frames)) ledger (slots_tokens shown) room

-- a slot is open for the root, and one for each step
pub open_count : {parts : Parts} → IsSound parts → {seen : Site} → site parts ≡ seen
    → length parts.frames.stack ≡ suc (length seen.state.cursor)
open_count {parts} sound view_is =
    stack_length (plan_in parts.plan) parts.frames.slots parts.frames.stack sound.at_work.ready.shown
    ∙ ap (λ (seen : Site). suc (length seen.state.cursor)) view_is
