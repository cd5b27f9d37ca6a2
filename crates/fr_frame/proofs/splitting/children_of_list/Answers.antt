use Rattle.std.proofs.Common.{◌≡◌, Some, option_map, ap, sym, ◌∙◌, rules}
use Rattle.fr_frame.specs.Common.{cells_of_vals, the_lemmas, vals_view, view}
use Rattle.fr_model.specs.Places.{items_of}
use Rattle.fr_values.specs.CellLaws.{cells_of_given}
use Rattle.fr_frame.proofs.splitting.children_of_list.Goals as goal

pub returns-in-Ok-clause-parts : goal.returns-in-Ok-clause-parts
returns-in-Ok-clause-parts c =
    let shown : items_of (view c.args.value.now) ≡ Some (vals_view c.into_vec.result.items) = search (rules, the_lemmas) in
    ap (option_map cells_of_vals) shown ∙ ap Some (cells_of_given c.into_vec.result.items ∙ sym c.in-Ok.ensures.there)
