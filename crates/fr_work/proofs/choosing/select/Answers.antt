use Rattle.fr_work.proofs.ChoiceLaws.{no_enum, selected, unselected}
use Rattle.fr_work.proofs.choosing.select.Goals as goal

pub returns-in_default : goal.returns-in_default
returns-in_default c = record {
  decides =
      λ site seen at call find says is. no_enum at says c.in_default.ensures.none;
}

pub returns-in-Ok : goal.returns-in-Ok
returns-in-Ok c = record {
  decides =
      λ site seen at call find says is.
      selected at says c.in-Some.described.now c.in-Some.ensures.some c.args.found is c.in-Ok.chosen c.in-Ok.ensures.chosen
      c.in-Ok.ensures.count c.in-Ok.ensures.refused;
}

pub returns-in-Err : goal.returns-in-Err
returns-in-Err c = record {
  decides =
      λ site seen at call find says is.
      unselected at says c.in-Some.described.now c.in-Some.ensures.some c.args.found is c.in-Err.operation c.in-Err.ensures.refused;
}
