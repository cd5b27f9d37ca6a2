-- The search says where the first entry stands that isn't below the name.
use Rattle.std.proofs.Common.{rules, sym, ◌∙◌}
use Rattle.std.specs.Cmp.Lexicographic.{bytes_decides}
use Rattle.std.proofs.lemmas.Bool.{true≢false}
use Rattle.std.proofs.lemmas.Fn.{always_returns_same}
use Rattle.fr_rules.proofs.Variants.{is_below, is_partitioned, found_sorted, absent_sorted, absent_past}
use Rattle.fr_rules.proofs.variant_lookups.first_sorted.Goals as goal

pub returns-then-eq : goal.returns-then-eq
returns-then-eq c up =
    let name = c.args.name.now in
    let point = c.partition_point-place.ensures.partitioned (is_below name) (always_returns_same _ _ _ (λ a r f k. search rules)) (is_partitioned name c.args.entries.now up) in
    let named = (bytes_decides _ _).0 (sym c.eq.ensures ∙ c.if-eq.true) in
    found_sorted name c.args.entries.now up c.partition_point-place.result point c.index-entries-place.result c.if-place-entries.true c.index-entries-place.is
    (sym c.as_str.ensures.bytes ∙ named)

pub returns-else-eq : goal.returns-else-eq
returns-else-eq c up =
    let name = c.args.name.now in
    let point = c.partition_point-place.ensures.partitioned (is_below name) (always_returns_same _ _ _ (λ a r f k. search rules)) (is_partitioned name c.args.entries.now up) in
    absent_sorted name c.args.entries.now up c.partition_point-place.result point c.index-entries-place.result c.if-place-entries.true c.index-entries-place.is
    (λ same. true≢false (sym ((bytes_decides _ _).1 (c.as_str.ensures.bytes ∙ same)) ∙ sym c.eq.ensures ∙ c.if-eq.false))

pub returns-else-place-entries : goal.returns-else-place-entries
returns-else-place-entries c up =
    let name = c.args.name.now in
    let point = c.partition_point-place.ensures.partitioned (is_below name) (always_returns_same _ _ _ (λ a r f k. search rules)) (is_partitioned name c.args.entries.now up) in
    absent_past name c.args.entries.now up c.partition_point-place.result point c.if-place-entries.false
