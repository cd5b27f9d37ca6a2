use Rattle.std.proofs.Common.{◌≡◌, length, ltb, rules, ap, ◌∙◌}
use Rattle.fr_arena.proofs.Chunks.{open_by_last}
use Rattle.fr_arena.proofs.ropes.has_room.Goals as goal

pub returns-in-len1-up : goal.returns-in-len1-up
returns-in-len1-up g c =
    let len : c.len.result ≡ length c.last-item.result.items = search rules in
    ap (λ n. ltb n c.args.size) len ∙ open_by_last c.args.size c.args.chunks.now c.last-item.result c.in-len1-up.len_at_least c.last-item.is
