use Rattle.std.proofs.Common.{drop}
use Rattle.fr_store.specs.Common.{Conserved, Walked, slots_occur}
use Rattle.fr_store.proofs.finishing.complete_in_order.Given as goal

abbrev pub invariant-loop-place : goal.invariant-loop-place
invariant-loop-place g l = record {
  walked :
      Walked (g.H.Hooks.means l.hooks) l.table l.plan l.initial.slots l.stack l.slots l.walk (drop l.place-index l.walk);
  conserved : Conserved (slots_occur l.initial.slots) l.initial.ledger (slots_occur l.slots) l.ledger;
}
