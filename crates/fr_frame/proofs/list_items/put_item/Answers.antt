use Rattle.std.proofs.Common.{◌≡◌, Option, Some, None, IsSomeAnd, sym, subst}
use Rattle.fr_frame.specs.Common.{Body, Node, PartialValue, Slot, SlotId, body_of, node_in, ℕ}
use Rattle.fr_frame.specs.RawItems.{IsKeptItem}
use Rattle.fr_frame.proofs.list_items.put_item.Goals as goal

kept : (found : Option Node) (partial : PartialValue) (list : SlotId) (number : ℕ) (now : Slot)
    → IsSomeAnd found (λ (at : Node). at.body ≡ body_of partial) → IsKeptItem list number (body_of partial) now
    → IsSomeAnd found (λ (at : Node). IsKeptItem list number at.body now)
kept (Some at) partial list number now e k = subst (λ (body : Body). IsKeptItem list number body now) (sym e) k
kept None partial list number now e k = absurd e

pub returns : goal.returns
returns c =
    kept (node_in c.args.slot.now) c.take_partial-partial.result c.args.list c.args.number c.put_value.new.slot
    c.take_partial-partial.ensures.body c.put_value.ensures
