-- The search says where the first number stands whose variant's name isn't below the sought one.
use Rattle.std.proofs.Common.{rules, slice_index_or, Some, sym, ◌∙◌, ap}
use Rattle.std.specs.Cmp.{Equal-is}
use Rattle.std.specs.Cmp.Lexicographic.{nat_list_cmp_total, options_total}
use Rattle.std.specs.Option.{option_cmp}
use Rattle.std.specs.Ordering.{is_eq}
use Rattle.std.proofs.lemmas.Bool.{true≢false}
use Rattle.std.proofs.lemmas.Fn.{always_returns_same}
use Rattle.std.proofs.lemmas.Grind.{get_or_default_zero}
use Rattle.std.proofs.lemmas.Map.Lookups.{exact_bytes}
use Rattle.fr_plan.specs.ShapeFields.{name_cmp, found_name_at}
use Rattle.fr_plan.proofs.ByKey.{exact_options, tie_of, is_below, is_partitioned, found_here, none_here, none_past}
use Rattle.fr_plan.proofs.FirstOf.{first_is_named}
use Rattle.fr_plan.proofs.variant_numbers.first_named.Goals as goal

pub returns-then-is_eq : goal.returns-then-is_eq
returns-then-is_eq c are =
    let total = options_total nat_list_cmp_total in
    let exact = exact_options exact_bytes in
    let key = found_name_at c.args.variants.now in
    let numbers = c.args.by_name.now in
    let sought = Some c.args.name.now in
    let point = c.partition_point-place.ensures.partitioned (is_below (option_cmp name_cmp) key sought) (always_returns_same _ _ _ (λ a r f k. search rules))
    (is_partitioned total exact key _ numbers are sought) in
    let number = slice_index_or numbers c.partition_point-place.result 0 in
    first_is_named c.args.variants.now c.args.name.now _
    (found_here total exact key _ numbers are sought c.partition_point-place.result point number c.if-place-by_name.true
    (sym (get_or_default_zero numbers c.partition_point-place.result number c.if-place-by_name.true))
    (exact _ _ ((Equal-is _).0 (ap is_eq (sym c.compare_name.ensures) ∙ sym c.is_eq.ensures ∙ c.if-is_eq.true))))

pub returns-else-is_eq : goal.returns-else-is_eq
returns-else-is_eq c are =
    let total = options_total nat_list_cmp_total in
    let exact = exact_options exact_bytes in
    let key = found_name_at c.args.variants.now in
    let numbers = c.args.by_name.now in
    let sought = Some c.args.name.now in
    let point = c.partition_point-place.ensures.partitioned (is_below (option_cmp name_cmp) key sought) (always_returns_same _ _ _ (λ a r f k. search rules))
    (is_partitioned total exact key _ numbers are sought) in
    let number = slice_index_or numbers c.partition_point-place.result 0 in
    first_is_named c.args.variants.now c.args.name.now _
    (none_here total exact key _ numbers are sought c.partition_point-place.result point number c.if-place-by_name.true
    (sym (get_or_default_zero numbers c.partition_point-place.result number c.if-place-by_name.true))
    (λ same.
    true≢false
    (sym (c.is_eq.ensures ∙ ap is_eq (c.compare_name.ensures ∙ tie_of total (key number) sought same)) ∙ c.if-is_eq.false)))

pub returns-else-place-by_name : goal.returns-else-place-by_name
returns-else-place-by_name c are =
    let total = options_total nat_list_cmp_total in
    let exact = exact_options exact_bytes in
    let key = found_name_at c.args.variants.now in
    let numbers = c.args.by_name.now in
    let sought = Some c.args.name.now in
    let point = c.partition_point-place.ensures.partitioned (is_below (option_cmp name_cmp) key sought) (always_returns_same _ _ _ (λ a r f k. search rules))
    (is_partitioned total exact key _ numbers are sought) in
    first_is_named c.args.variants.now c.args.name.now _
    (none_past total exact key _ numbers are sought c.partition_point-place.result point c.if-place-by_name.false)
