use Rattle.std.proofs.Common.{◌≡◌, Some, length, option_map, ap, sym, subst, ◌∙◌, rules}
use Rattle.fr_frame.specs.Common.{HoldsNothingTwice, cells_of_vals, set_items_of, the_lemmas, vals_view, view}
use Rattle.fr_shape.specs.Val.{set_of}
use Rattle.fr_values.specs.CellLaws.{cells_of_given}
use Rattle.fr_frame.proofs.splitting.children_of_set.Goals as goal

pub all_there-requires : goal.all_there-requires
all_there-requires c =
    let shown : view c.args.value.now ≡ set_of (vals_view c.into_vec.result.items) = search (rules, the_lemmas) in
    c.of_items-base.ensures.apart c.into_vec.result.items (ap length c.into_vec.ensures.items ∙ sym c.len.ensures.count)
    (subst HoldsNothingTwice shown c.requires.apart)

pub returns-in-Ok-clause-parts : goal.returns-in-Ok-clause-parts
returns-in-Ok-clause-parts c =
    let shown : set_items_of (view c.args.value.now) ≡ Some (vals_view c.into_vec.result.items) = search (rules, the_lemmas) in
    ap (option_map cells_of_vals) shown ∙ ap Some (cells_of_given c.into_vec.result.items ∙ sym c.in-Ok.ensures.there)
