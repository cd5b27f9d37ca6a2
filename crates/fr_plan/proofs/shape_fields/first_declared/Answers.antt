-- The search says where the first number stands whose field's name isn't below the sought one.
use Rattle.std.proofs.Common.{rules, slice_index_or, sym, ◌∙◌}
use Rattle.std.specs.Cmp.Lexicographic.{bytes_decides, nat_list_cmp_total}
use Rattle.std.proofs.lemmas.Bool.{true≢false}
use Rattle.std.proofs.lemmas.Map.Lookups.{exact_bytes}
use Rattle.std.proofs.lemmas.Fn.{always_returns_same}
use Rattle.std.proofs.lemmas.Grind.{get_or_default_zero}
use Rattle.fr_plan.specs.ShapeFields.{name_at, name_cmp}
use Rattle.fr_plan.proofs.ByKey.{is_below, is_partitioned, found_here, none_here, none_past}
use Rattle.fr_plan.proofs.FirstOf.{first_is_declared}
use Rattle.fr_plan.proofs.shape_fields.first_declared.Goals as goal

pub returns-then-eq : goal.returns-then-eq
returns-then-eq c are =
    let total = nat_list_cmp_total in
    let exact = exact_bytes in
    let key = name_at c.args.fields.now in
    let numbers = c.args.by_name.now in
    let sought = c.args.name.now in
    let point = c.partition_point-place.ensures.partitioned (is_below name_cmp key sought) (always_returns_same _ _ _ (λ a r f k. search rules))
    (is_partitioned total exact key _ numbers are sought) in
    let number = slice_index_or numbers c.partition_point-place.result 0 in
    first_is_declared c.args.fields.now c.args.name.now _
    (found_here total exact key _ numbers are sought c.partition_point-place.result point number c.if-place-by_name.true
    (sym (get_or_default_zero numbers c.partition_point-place.result number c.if-place-by_name.true))
    (sym c.name_at.ensures ∙ (bytes_decides c.name_at.result.now c.args.name.now).0 (sym c.eq.ensures ∙ c.if-eq.true)))

pub returns-else-eq : goal.returns-else-eq
returns-else-eq c are =
    let total = nat_list_cmp_total in
    let exact = exact_bytes in
    let key = name_at c.args.fields.now in
    let numbers = c.args.by_name.now in
    let sought = c.args.name.now in
    let point = c.partition_point-place.ensures.partitioned (is_below name_cmp key sought) (always_returns_same _ _ _ (λ a r f k. search rules))
    (is_partitioned total exact key _ numbers are sought) in
    let number = slice_index_or numbers c.partition_point-place.result 0 in
    first_is_declared c.args.fields.now c.args.name.now _
    (none_here total exact key _ numbers are sought c.partition_point-place.result point number c.if-place-by_name.true
    (sym (get_or_default_zero numbers c.partition_point-place.result number c.if-place-by_name.true))
    (λ same. true≢false (sym ((bytes_decides c.name_at.result.now c.args.name.now).1 (c.name_at.ensures ∙ same)) ∙ sym c.eq.ensures ∙ c.if-eq.false)))

pub returns-else-place-by_name : goal.returns-else-place-by_name
returns-else-place-by_name c are =
    let total = nat_list_cmp_total in
    let exact = exact_bytes in
    let key = name_at c.args.fields.now in
    let numbers = c.args.by_name.now in
    let sought = c.args.name.now in
    let point = c.partition_point-place.ensures.partitioned (is_below name_cmp key sought) (always_returns_same _ _ _ (λ a r f k. search rules))
    (is_partitioned total exact key _ numbers are sought) in
    first_is_declared c.args.fields.now c.args.name.now _
    (none_past total exact key _ numbers are sought c.partition_point-place.result point c.if-place-by_name.false)
