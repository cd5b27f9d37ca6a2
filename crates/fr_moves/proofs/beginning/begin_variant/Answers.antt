use Rattle.std.proofs.Common.{ℕ, ap, ◌∙◌, unwrap_or, Some}
use Rattle.fr_moves.specs.Common.{Beginning, Def, Tree, as_fields, begun_by, def_of, kept_so, top_shape, top_tree, variant_anew}
use Rattle.fr_moves.specs.TrackerLaws.{variant_has}
use Rattle.fr_moves.proofs.KeepLaws.{are_open, changed_as}
use Rattle.fr_moves.proofs.BegunAroundLaws.{variant_so, on_ok}
use Rattle.fr_moves.specs.LookLaws.{so_alike}
use Rattle.fr_moves.proofs.beginning.begin_variant.Goals as goal

pub begin_so-requires-clause-are_open : goal.begin_so-requires-clause-are_open
begin_so-requires-clause-are_open c = record { plan = c.args.plan.now; are_open = are_open c.requires.at_work }

pub returns-clause-changed : goal.returns-clause-changed
returns-clause-changed c =
    let def : Def = def_of c.args.frames.now.table.now (top_shape c.args.frames.now) in
    let k : ℕ = c.args.chosen.variant in
    let here : Tree = top_tree c.args.frames.now in
    on_ok c.begin_so.result (λ done.
    changed_as (begun_by c.beginning_so-beginning.result (as_fields (Some k)) c.args.chosen.count)
    (λ old. unwrap_or (kept_so (as_fields (Some k)) here) (variant_anew def k))
    (ap (λ (b : Beginning). begun_by b (as_fields (Some k)) c.args.chosen.count here)
    (c.beginning_so-beginning.ensures.kept ∙ so_alike _ here c.place_here.ensures.partial (as_fields (Some k)))
    ∙ variant_so def k c.args.chosen.count here (variant_has def k c.args.chosen.count c.requires.count))
    (done c.args.plan.now (are_open c.requires.at_work)))
    c.begin_so.ensures.changed
