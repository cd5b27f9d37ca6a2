use Rattle.std.proofs.Common.{rules, sym, subst, length}
use Rattle.std.specs.Cmp.Lexicographic.{nat_list_cmp_total, options_total}
use Rattle.std.proofs.lemmas.Fn.{always_returns_same}
use Rattle.fr_plan.specs.ShapeFields.{AreByFoundName, found_name_at}
use Rattle.fr_plan.proofs.ByKey.{is_key_below, key_below, sorted_stably}
use Rattle.fr_plan.proofs.variant_numbers.numbers_by_name.Goals as goal

pub returns : goal.returns
returns c =
    let total = options_total nat_list_cmp_total in
    let key = found_name_at c.args.variants.now in
    subst (AreByFoundName c.args.variants.now) (sym c.from_vec.ensures.items)
    (sorted_stably total key (length c.args.variants.now) c.in_ok-numbers.numbers.items c.sort_by.new.self.items
    c.in_ok-numbers.ensures c.in_ok-sort_by.ensures.permutation
    (c.in_ok-sort_by.ensures.sorted (is_key_below total key) (key_below total key) (always_returns_same _ _ _ (λ a r f k. search rules)))
    (c.in_ok-sort_by.ensures.stable (is_key_below total key) (key_below total key) (always_returns_same _ _ _ (λ a r f k. search rules))))
