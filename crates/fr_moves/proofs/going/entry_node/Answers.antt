use Rattle.std.proofs.Common.{Bool, ap, sym, ◌∙◌}
use Rattle.fr_frame.specs.Kids.{entry_node_found}
use Rattle.fr_moves.proofs.MapLaws.{even_key, odd_value}
use Rattle.fr_moves.proofs.going.entry_node.Goals as goal

pub returns-then-i-eq0 : goal.returns-then-i-eq0
returns-then-i-eq0 c =
    c.map_key_node_id.ensures.child
    ∙ sym (ap (λ (b : Bool). entry_node_found c.args.plan.now c.args.node b) (even_key c.args.i c.if-i-eq0.true))

pub returns-else-i-eq0 : goal.returns-else-i-eq0
returns-else-i-eq0 c =
    c.map_value_node_id.ensures.child
    ∙ sym (ap (λ (b : Bool). entry_node_found c.args.plan.now c.args.node b) (odd_value c.args.i c.if-i-eq0.false))
