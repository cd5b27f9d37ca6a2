use Rattle.std.proofs.Common.{◌≡◌, ◌∙◌}
use Rattle.fr_frame.specs.Common.{Node, heap_of, is_begun_body, node_of}
use Rattle.fr_frame.proofs.OutlinedLaws.{of_outline, same_begun, same_body}
use Rattle.fr_frame.proofs.slots.Slots.is_begun.Goals as goal

pub returns : goal.returns
returns c =
    of_outline (node_of c.in-Some.place.now) (heap_of c.args.self.now c.args.id.0) (λ (at : Node). c.is_begun.result ≡ is_begun_body at.body)
    c.in-Some.ensures.place
    (λ at there same. c.is_begun.ensures.begun ∙ same_begun _ at.body (same_body (node_of c.in-Some.place.now) at same))
