use Rattle.std.proofs.Common.{◌≡◌, map, drop}
use Rattle.fr_doc.specs.Keys.{is_among}
use Rattle.fr_doc.proofs.members.is_one_of.Given as goal

abbrev pub invariant-loop-other : goal.invariant-loop-other
invariant-loop-other l =
    is_among l.key (map (λ other. other.now) l.keys)
    ≡ is_among l.key (map (λ other. other.now) (drop l.other-index l.keys))
