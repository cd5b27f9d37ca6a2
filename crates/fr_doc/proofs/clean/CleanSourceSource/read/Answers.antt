use Rattle.std.proofs.Common.{◌≡◌, Some, take, drop, sym, ap, ◌∙◌}
use Rattle.std.proofs.lemmas.List.{take_rest}
use Rattle.fr_doc.proofs.Moved.{left_by_piece}
use Rattle.fr_doc.proofs.clean.CleanSourceSource.read.Goals as goal

pub returns-clause-bytes : goal.returns-clause-bytes
returns-clause-bytes c =
    let copied : take c.copy_front-n.result c.copy_front-n.new.into ≡ take c.copy_front-n.result (drop c.self.inside.position c.self.inside.bytes) =
    rw (c.as_slice.ensures.items, take_rest c.self.inside.bytes c.self.inside.position) at c.copy_front-n.ensures.copied in
    ap Some (sym c.self.view_is ∙ left_by_piece _ _ _ _ copied)
