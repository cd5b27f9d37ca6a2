-- Entries of a dynamic object: what one is refused for, by what the site sees.
use Rattle.std.proofs.Common.{◌≡◌, refl}
use Rattle.fr_work.specs.Common.{Def, Sees, ShapeId, Site, Table, Tree, cursor_tree, def_of, entry_refusal, shape_at}
use Rattle.fr_moves.specs.LookLaws.{AsBegun}
use Rattle.fr_work.proofs.SeenLaws.{seen_by}

begun_entry : (def : Def) → AsBegun (entry_refusal def)
begun_entry Def.Dynamic tracker ts = refl
begun_entry _ tracker ts = refl

pub entry_seen : {site : Site} {table : Table} {shape : ShapeId} {seen : Tree} → Sees site table shape seen
    → entry_refusal (def_of table shape.0) seen ≡ entry_refusal (def_of site.shapes (shape_at site)) (cursor_tree site.state)
entry_seen at = seen_by at (λ table s. entry_refusal (def_of table s)) (λ table s. begun_entry (def_of table s))
