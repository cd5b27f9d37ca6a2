use Rattle.std.proofs.Common.{drop}
use Rattle.fr_store.specs.Common.{Conserved, IsKept, slots_occur}
use Rattle.fr_store.proofs.BeneathTurns.{WalkedBeneath}
use Rattle.fr_store.proofs.store.FrameStore.complete_in_order_beneath.Given as goal

abbrev pub invariant-loop-place : goal.invariant-loop-place
invariant-loop-place g l = record {
  walked :
      WalkedBeneath (g.H.Hooks.means l.hooks) l.table l.plan l.initial.slots l.stack l.slots (drop l.place-index l.walk);
  kept : IsKept l.self l.slots;
  conserved : Conserved (slots_occur l.initial.slots) l.initial.ledger (slots_occur l.slots) l.ledger;
}
