use Rattle.std.proofs.Common.{◌≡◌, Some, take, drop, sym, ap, ◌∙◌}
use Rattle.std.proofs.lemmas.List.{take_rest}
use Rattle.fr_doc.proofs.Moved.{left_by_piece}
use Rattle.fr_doc.specs.Memory.{MemoryInput}
use Rattle.fr_doc.proofs.memory.MemSourceSource.read.Goals as goal

pub returns-clause-bytes : goal.returns-clause-bytes
returns-clause-bytes c =
    let copied : take c.copy_front-n.result c.copy_front-n.new.into ≡ take c.copy_front-n.result (drop c.self.inside.position c.self.inside.bytes) =
    rw (c.as_slice.ensures.items, take_rest c.self.inside.bytes c.self.inside.position) at c.copy_front-n.ensures.copied in
    let left : drop c.self.inside.position c.self.inside.bytes ≡ c.args.self.now.left = ap (λ (source : MemoryInput). source.left) c.self.view_is in
    ap Some (sym left ∙ left_by_piece _ _ _ _ copied)
