-- The names are distinct by the fourth rule of checked tables.
use Rattle.std.proofs.Common.{◌≡◌, true, sym, subst}
use Rattle.fr_shape.specs.Checked.{names_apart, variant_names}
use Rattle.fr_tests.proofs.lookup_tests.lookup_of.Goals as goal

pub build_variant_lookup-requires : goal.build_variant_lookup-requires
build_variant_lookup-requires c = record {
  distinct =
      subst (λ def. names_apart (variant_names def) ≡ true) c.in-Enum.is
      (c.in-Ok.ensures.ok.variants 0 _ (sym c.in_ok-e.ensures.value));
}
