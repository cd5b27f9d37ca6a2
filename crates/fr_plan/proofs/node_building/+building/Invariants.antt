use Rattle.std.proofs.Common.{◌≡◌, ◌+◌, ◌*◌, drop}
use Rattle.fr_plan.specs.Build.{build, each_built, fields_built, fields_from, variant_fields_from, none_yet}
use Rattle.fr_plan.proofs.node_building.+building.Given as goal

abbrev pub decreases-build_shape : goal.decreases-build_shape
decreases-build_shape l = 7 * l.depth

abbrev pub decreases-build_each : goal.decreases-build_each
decreases-build_each l = 7 * l.depth + 1

abbrev pub decreases-build_wrapped : goal.decreases-build_wrapped
decreases-build_wrapped l = 7 * l.depth + 2

abbrev pub decreases-build_field : goal.decreases-build_field
decreases-build_field l = 7 * l.depth + 2

abbrev pub decreases-build_fields : goal.decreases-build_fields
decreases-build_fields l = 7 * l.depth + 3

abbrev pub decreases-build_variants : goal.decreases-build_variants
decreases-build_variants l = 7 * l.depth + 4

abbrev pub decreases-build_children : goal.decreases-build_children
decreases-build_children l = 7 * l.depth + 5

abbrev pub decreases-build_new : goal.decreases-build_new
decreases-build_new l = 7 * l.depth + 6

-- what is left from here gives the whole
abbrev pub invariant-build_each-loop-id : goal.invariant-build_each-loop-id
invariant-build_each-loop-id l =
    each_built (λ then next. build l.table l.depth then next) (record { walk = l.walk; nodes = l.nodes }) (drop l.id-index l.ids)
    ≡ each_built (λ then next. build l.table l.depth then next) (none_yet l.fn.walk) l.ids

abbrev pub invariant-build_fields-loop-i : goal.invariant-build_fields-loop-i
invariant-build_fields-loop-i l =
    fields_built (λ then next. build l.table l.depth then next) (record { walk = l.walk; nodes = l.nodes })
    (fields_from l.of.shape l.of.variant l.i (drop l.i l.fields))
    ≡ fields_built (λ then next. build l.table l.depth then next) (record { walk = l.fn.walk; nodes = l.fn.nodes })
    (fields_from l.of.shape l.of.variant 0 l.fields)

abbrev pub invariant-build_variants-loop-i : goal.invariant-build_variants-loop-i
invariant-build_variants-loop-i l =
    fields_built (λ then next. build l.table l.depth then next) (record { walk = l.walk; nodes = l.nodes })
    (variant_fields_from l.id l.i (drop l.i l.variants))
    ≡ fields_built (λ then next. build l.table l.depth then next) (none_yet l.fn.walk)
    (variant_fields_from l.id 0 l.variants)
