use Rattle.std.proofs.Common.{[], ◌∷◌, refl, ap, ◌∙◌}
use Rattle.fr_frame.specs.Common.{PartialValue, absent, body_occurs, body_of}
use Rattle.fr_frame.proofs.GrowLaws.{pushed_occur}
use Rattle.fr_frame.proofs.object_entries.add_entry_for.Goals as goal

pub returns-clause-tokens : goal.returns-clause-tokens
returns-clause-tokens c t =
    ap (λ (p : PartialValue). body_occurs (body_of p) t) c.put_first.ensures
    ∙ pushed_occur c.push_entry-added.result c.in-Begun.children (absent ∷ []) c.push_entry-added.new.children t refl
    c.push_entry-added.ensures.child_added c.push_entry-added.ensures.children_kept
    ∙ ap (λ (p : PartialValue). body_occurs (body_of p) t) c.in-Begun.ensures.value
