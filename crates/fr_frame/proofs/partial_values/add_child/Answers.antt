use Rattle.std.proofs.Common.{[], ◌∷◌, refl, ap, sym, ◌∙◌}
use Rattle.fr_frame.specs.Common.{PartialValue, absent, body_occurs, body_of}
use Rattle.fr_frame.proofs.GrowLaws.{pushed_occur}
use Rattle.fr_frame.proofs.partial_values.add_child.Goals as goal

pub returns-clause-tokens : goal.returns-clause-tokens
returns-clause-tokens c t =
    pushed_occur c.push.result c.in-Begun.children (absent ∷ []) c.push.new.self t refl c.push.ensures.added c.push.ensures.refused
    ∙ sym (ap (λ (p : PartialValue). body_occurs (body_of p) t) c.in-Begun.is)
