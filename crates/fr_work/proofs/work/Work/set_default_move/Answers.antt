use Rattle.fr_work.proofs.PutLaws.{copy_wanted, default_copied, default_missing, default_template}
use Rattle.fr_work.proofs.work.Work.set_default_move.Goals as goal

pub copy_template-requires : goal.copy_template-requires
copy_template-requires c = record {
  no_token =
      (default_template c.place.ensures.seen c.law_sound.ensures.checked c.in-Some.template.now c.in-Some.ensures.template).no_tokens;
}

pub returns-in_default : goal.returns-in_default
returns-in_default c = record {
  decides =
      default_missing c.place.ensures.seen c.in_default.ensures.template;
}

pub returns-in-Ok : goal.returns-in-Ok
returns-in-Ok c = record {
  decides =
      default_copied c.place.ensures.seen c.law_sound.ensures.checked c.in-Some.template.now c.in-Some.ensures.template c.in-Ok.value
      c.in-Ok.ensures.copy;
}

pub returns-in-Err : goal.returns-in-Err
returns-in-Err c = record {
  decides =
      copy_wanted c.place.ensures.seen c.law_sound.ensures.checked c.in-Some.template.now c.in-Some.ensures.template;
}
