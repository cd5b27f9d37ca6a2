use Rattle.fr_work.proofs.BeginLaws.{named_admitted, named_goes, named_unknown, named_unopened}
use Rattle.fr_work.proofs.work.Work.begin_field_move.Goals as goal

pub opening_at-opening-requires : goal.opening_at-opening-requires
opening_at-opening-requires c = record {
  admitted =
      named_admitted c.place.ensures.seen c.args.name.now c.in_default.ensures.refused _ c.selected.ensures.selected _
      c.field_named.ensures.number c.in-Some-field_named.i c.in-Some-field_named.is;
}

pub returns-in-Some : goal.returns-in-Some
returns-in-Some c = record {
  decides =
      named_unopened c.place.ensures.seen c.args.name.now c.in-Some.operation c.in-Some.ensures.refused;
}

pub returns-in-Some-field_named : goal.returns-in-Some-field_named
returns-in-Some-field_named c = record {
  decides =
      named_goes c.place.ensures.seen c.args.name.now c.in_default.ensures.refused _ c.selected.ensures.selected _ c.field_named.ensures.number
      c.in-Some-field_named.i c.in-Some-field_named.is c.opening_at-opening.result c.opening_at-opening.ensures.opening
      c.child_way.result c.child_way.ensures.way;
}

pub returns-in-None : goal.returns-in-None
returns-in-None c = record {
  decides =
      named_unknown c.place.ensures.seen c.args.name.now c.in_default.ensures.refused _ c.selected.ensures.selected _ c.field_named.ensures.number
      c.in-None.is;
}
