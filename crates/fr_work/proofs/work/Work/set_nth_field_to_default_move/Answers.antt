use Rattle.fr_work.specs.Common.{body_of, own_tree}
use Rattle.fr_work.proofs.SettingDefaults.{default_admitted, default_empty_here, default_put, default_refused, default_wanted}
use Rattle.fr_work.proofs.work.Work.set_nth_field_to_default_move.Goals as goal

pub opening_at-opening-requires : goal.opening_at-opening-requires
opening_at-opening-requires c = record {
  admitted =
      default_admitted c.place.result.0.now c.place.result.1.0 (own_tree (body_of c.place.result.2.now)) c.args.idx
      c.in-Ok.template.now c.in-Ok.ensures.told;
}

pub copy_template-requires : goal.copy_template-requires
copy_template-requires c = record {
  no_token =
      default_empty_here c.place.ensures.seen c.args.idx c.law_sound.ensures.checked c.in-Ok.template.now c.in-Ok.ensures.told;
}

pub returns-in-Err : goal.returns-in-Err
returns-in-Err c = record {
  decides =
      default_refused c.place.ensures.seen c.args.idx c.in-Err.kind c.in-Err.ensures.refused;
}

pub returns-in-Ok-copy_template : goal.returns-in-Ok-copy_template
returns-in-Ok-copy_template c = record {
  decides =
      default_put c.place.ensures.seen c.args.idx c.law_sound.ensures.checked c.in-Ok.template.now
      c.in-Ok.ensures.told c.opening_at-opening.result c.opening_at-opening.ensures.opening c.in-Ok-copy_template.value
      c.in-Ok-copy_template.ensures.copy;
}

pub returns-in-Err-copy_template : goal.returns-in-Err-copy_template
returns-in-Err-copy_template c = record {
  decides =
      default_wanted c.place.ensures.seen c.args.idx c.law_sound.ensures.checked c.in-Ok.template.now c.in-Ok.ensures.told;
}
