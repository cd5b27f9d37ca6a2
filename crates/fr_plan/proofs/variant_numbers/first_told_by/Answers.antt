-- The search says where the first number stands whose variant's discriminant isn't below the sought one.
use Rattle.std.proofs.Common.{◌≡◌, ℤ, w64, rules, slice_index_or, Some, sym, ◌∙◌, ap}
use Rattle.std.specs.Cmp.{Equal-is, int_cmp_total}
use Rattle.std.specs.Cmp.Lexicographic.{options_total}
use Rattle.std.specs.Option.{option_cmp}
use Rattle.std.specs.Ordering.{int_cmp, is_eq}
use Rattle.std.proofs.lemmas.Bool.{true≢false}
use Rattle.std.proofs.lemmas.Fn.{always_returns_same}
use Rattle.std.proofs.lemmas.Grind.{get_or_default_zero}
use Rattle.std.proofs.lemmas.Int.{to_z-of_z}
use Rattle.std.proofs.lemmas.Map.Lookups.{exact_signed}
use Rattle.fr_plan.specs.ShapeFields.{discriminant_at}
use Rattle.fr_plan.proofs.ByKey.{exact_options, tie_of, is_below, is_partitioned, found_here, none_here, none_past}
use Rattle.fr_plan.proofs.FirstOf.{first_is_told_by}
use Rattle.fr_plan.proofs.variant_numbers.first_told_by.Goals as goal

pub returns-then-is_eq : goal.returns-then-is_eq
returns-then-is_eq c are =
    let total = options_total int_cmp_total in
    let exact = exact_options exact_signed in
    let key = discriminant_at c.args.variants.now in
    let numbers = c.args.by_discriminant.now in
    let sought = Some c.args.discriminant in
    let point = c.partition_point-place.ensures.partitioned (is_below (option_cmp int_cmp) key sought) (always_returns_same _ _ _ (λ a r f k. search rules))
    (is_partitioned total exact key _ numbers are sought) in
    let number = slice_index_or numbers c.partition_point-place.result 0 in
    let compares : c.compare_discriminant.result ≡ option_cmp int_cmp (key number) sought = c.compare_discriminant.ensures
    ∙ ap (λ (d : ℤ). option_cmp int_cmp (key number) (Some d)) (to_z-of_z w64 c.args.discriminant c.ranges.discriminant) in
    first_is_told_by c.args.variants.now c.args.discriminant _
    (found_here total exact key _ numbers are sought c.partition_point-place.result point number c.if-place-by_discriminant.true
    (sym (get_or_default_zero numbers c.partition_point-place.result number c.if-place-by_discriminant.true))
    (exact _ _ ((Equal-is _).0 (ap is_eq (sym compares) ∙ sym c.is_eq.ensures ∙ c.if-is_eq.true))))

pub returns-else-is_eq : goal.returns-else-is_eq
returns-else-is_eq c are =
    let total = options_total int_cmp_total in
    let exact = exact_options exact_signed in
    let key = discriminant_at c.args.variants.now in
    let numbers = c.args.by_discriminant.now in
    let sought = Some c.args.discriminant in
    let point = c.partition_point-place.ensures.partitioned (is_below (option_cmp int_cmp) key sought) (always_returns_same _ _ _ (λ a r f k. search rules))
    (is_partitioned total exact key _ numbers are sought) in
    let number = slice_index_or numbers c.partition_point-place.result 0 in
    let compares : c.compare_discriminant.result ≡ option_cmp int_cmp (key number) sought = c.compare_discriminant.ensures
    ∙ ap (λ (d : ℤ). option_cmp int_cmp (key number) (Some d)) (to_z-of_z w64 c.args.discriminant c.ranges.discriminant) in
    first_is_told_by c.args.variants.now c.args.discriminant _
    (none_here total exact key _ numbers are sought c.partition_point-place.result point number c.if-place-by_discriminant.true
    (sym (get_or_default_zero numbers c.partition_point-place.result number c.if-place-by_discriminant.true))
    (λ same.
    true≢false
    (sym (c.is_eq.ensures ∙ ap is_eq (compares ∙ tie_of total (key number) sought same)) ∙ c.if-is_eq.false)))

pub returns-else-place-by_discriminant : goal.returns-else-place-by_discriminant
returns-else-place-by_discriminant c are =
    let total = options_total int_cmp_total in
    let exact = exact_options exact_signed in
    let key = discriminant_at c.args.variants.now in
    let numbers = c.args.by_discriminant.now in
    let sought = Some c.args.discriminant in
    let point = c.partition_point-place.ensures.partitioned (is_below (option_cmp int_cmp) key sought) (always_returns_same _ _ _ (λ a r f k. search rules))
    (is_partitioned total exact key _ numbers are sought) in
    first_is_told_by c.args.variants.now c.args.discriminant _
    (none_past total exact key _ numbers are sought c.partition_point-place.result point c.if-place-by_discriminant.false)
