use Rattle.std.proofs.Common.{[], ◌∷◌, refl, ap, sym, ◌∙◌}
use Rattle.fr_frame.specs.Common.{PartialValue, absent, body_occurs, body_of}
use Rattle.fr_frame.proofs.GrowLaws.{pushed_occur}
use Rattle.fr_frame.proofs.partial_values.add_entry.Goals as goal

pub returns-clause-tokens : goal.returns-clause-tokens
returns-clause-tokens c t =
    pushed_occur c.push_two.result c.in-Begun.children (absent ∷ absent ∷ []) c.push_two.new.self t refl c.push_two.ensures.added c.push_two.ensures.refused
    ∙ sym (ap (λ (p : PartialValue). body_occurs (body_of p) t) c.in-Begun.is)
