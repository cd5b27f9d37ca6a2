use Rattle.std.proofs.Common.{ℕ, List, map, sym, ap, ◌∙◌}
use Rattle.std.proofs.lemmas.List.{take_all}
use Rattle.fr_values.specs.Common.{Dyn}
use Rattle.fr_values.proofs.DynamicParts.{keys_viewed}
use Rattle.fr_values.proofs.dynamics.keys_of.Goals as goal

pub returns : goal.returns
returns c =
    let members = c.args.members.now in
    c.loop-member.invariant
    ∙ ap (map (λ (m : List ℕ × Dyn). m.0)) (take_all c.loop-member.member-index members c.loop-member-test.false)
    ∙ sym (keys_viewed members)
