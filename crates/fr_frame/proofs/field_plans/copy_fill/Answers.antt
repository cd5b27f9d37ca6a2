use Rattle.std.proofs.Common.{sym, ◌∙◌, ap, subst}
use Rattle.fr_frame.specs.Common.{as_fields, column_of, tokens}
use Rattle.fr_frame.proofs.FillingHoles.{IsLight, takes_light}
use Rattle.fr_frame.proofs.field_plans.copy_fill.Goals as goal

pub clone_template-requires : goal.clone_template-requires
clone_template-requires c =
    let meant = c.args.told.now.field in
    record {
      no_token = ap tokens c.value.ensures.value ∙ subst IsLight (sym c.in-Some.ensures)
          (takes_light (column_of c.args.column) c.args.table.now meant.shape.0 (as_fields meant.variant) meant.index
          c.requires.checked);
    }
