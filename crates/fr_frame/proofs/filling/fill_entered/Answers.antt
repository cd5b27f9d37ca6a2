use Rattle.std.proofs.Common.{◌≡◌, Some, sym, ◌∙◌, ap, subst}
use Rattle.fr_frame.specs.Common.{preset_of, tokens}
use Rattle.fr_shape.specs.Fills.{preset_in}
use Rattle.fr_frame.proofs.FillingHoles.{IsLight, preset_light}
use Rattle.fr_frame.proofs.filling.fill_entered.Goals as goal

pub clone_template-requires : goal.clone_template-requires
clone_template-requires c =
    let preset : preset_of c.args.table.now c.node.result.now.shape.0 ≡ Some c.in-Struct-Some.template
    = ap preset_in (sym c.in-Some.ensures.value) ∙ c.in-Struct-Some.is-1 in
    record {
      no_token = ap tokens c.value.ensures.value
          ∙ subst IsLight preset (preset_light c.args.table.now c.node.result.now.shape.0 c.requires.checked);
    }
