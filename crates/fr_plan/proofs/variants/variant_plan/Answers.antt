use Rattle.std.proofs.Common.{ap, ◌∙◌, subst, refl, List, Some}
use Rattle.fr_shape.specs.declared.shape.Field.{Field}
use Rattle.fr_plan.specs.Build.{fields_from}
use Rattle.fr_plan.specs.Plans.{NamesFields, has_flatten}
use Rattle.fr_plan.proofs.Growing.{fields_grow, lookups_added}
use Rattle.fr_plan.proofs.variants.variant_plan.Goals as goal

pub returns-clause-told : goal.returns-clause-told
returns-clause-told c =
    let P : List Field → Type 0 = λ fields.
    NamesFields c.args.table.now c.field_plans.new.lists c.args.nodes.now (fields_from c.args.id (Some c.args.number) 0 fields) c.in_ok-fields.fields in
    record {
      shape = refl;
      variant = refl;
      fields =
          fields_grow c.args.table.now c.field_plans.new.lists _
          (lookups_added c.field_plans.new.lists c.build_field_lookup.new.pool c.build_field_lookup.ensures.others_stay)
          c.args.nodes.now _ _ (subst P c.as_slice.ensures.items c.in_ok-fields.ensures.told);
      field_lookup = c.in_ok-field_lookup.ensures.lookup;
      has_flatten = c.has_flatten.ensures ∙ ap has_flatten c.as_slice-2.ensures.items;
    }
