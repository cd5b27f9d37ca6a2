use Rattle.fr_store.specs.Common.{as_tracker, top_in_use}
use Rattle.fr_store.proofs.ReformLaws.{marks_kept, open_reformed, stay_reformed}
use Rattle.fr_store.proofs.stack.Stack.reform.Goals as goal

pub reform-requires : goal.reform-requires
reform-requires c = record {
  in_use = top_in_use c.requires.is_open.is_open c.in-Some.ensures.last;
}

pub returns-clause-reformed : goal.returns-clause-reformed
returns-clause-reformed c plan is_open =
    open_reformed c.reform.new.slots is_open c.in-Some.ensures.last (as_tracker c.args.tracker) c.requires.tracker
    c.requires.slice c.reform.ensures.reformed

pub returns-clause-places : goal.returns-clause-places
returns-clause-places c =
    stay_reformed c.reform.new.slots c.requires.is_open.is_open c.in-Some.ensures.last (as_tracker c.args.tracker) c.requires.tracker
    c.requires.slice c.reform.ensures.reformed

pub returns-clause-marks : goal.returns-clause-marks
returns-clause-marks c =
    marks_kept c.args.slots.now c.reform.new.slots c.in-Some.place.0 (as_tracker c.args.tracker) c.reform.ensures.reformed
