use Rattle.std.proofs.Common.{rules, sym, subst, length}
use Rattle.std.specs.Cmp.Lexicographic.{nat_list_cmp_total}
use Rattle.std.proofs.lemmas.Fn.{always_returns_same}
use Rattle.fr_plan.specs.ShapeFields.{AreByName, name_at}
use Rattle.fr_plan.proofs.ByKey.{is_key_below, key_below, sorted_stably}
use Rattle.fr_plan.proofs.shape_fields.numbers_by_name.Goals as goal

pub returns : goal.returns
returns c =
    let total = nat_list_cmp_total in
    let key = name_at c.args.fields.now in
    subst (AreByName c.args.fields.now) (sym c.from_vec.ensures.items)
    (sorted_stably total key (length c.args.fields.now) c.in_ok-numbers.numbers.items c.sort_by.new.self.items
    c.in_ok-numbers.ensures c.in_ok-sort_by.ensures.permutation
    (c.in_ok-sort_by.ensures.sorted (is_key_below total key) (key_below total key) (always_returns_same _ _ _ (λ a r f k. search rules)))
    (c.in_ok-sort_by.ensures.stable (is_key_below total key) (key_below total key) (always_returns_same _ _ _ (λ a r f k. search rules))))
