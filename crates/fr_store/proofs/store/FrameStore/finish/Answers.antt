use Rattle.std.proofs.Common.{List, refl, sym, ap, subst}
use Rattle.fr_store.specs.Common.{NothingStored, Room_same, RoseBy_same, Slot, slots_occur, slots_tokens, stored_in, tokens_in}
use Rattle.fr_store.proofs.OpenLaws.{open_stay}
use Rattle.fr_store.proofs.HeldOrReleased.{room_left, rose_by_all}
use Rattle.fr_store.proofs.store.FrameStore.finish.Goals as goal

pub release-requires : goal.release-requires
release-requires g c = record {
  room =
      Room_same (slots_occur c.complete_all-result.new.slots) (slots_occur c.replace-rest.result)
      c.complete_all-result.new.ledger (λ t. ap (λ (slots : List Slot). slots_occur slots t) (sym c.replace-rest.ensures.value))
      (room_left c.complete_all-result.ensures.conserved (Room_same (tokens_in c.args.slots.now c.args.stack.now)
      (slots_occur c.args.slots.now) c.args.ledger.now (λ t. sym (slots_tokens c.requires.is_open t)) c.requires.room));
}

pub returns-in-Err-clause-released : goal.returns-in-Err-clause-released
returns-in-Err-clause-released g c =
    RoseBy_same (slots_occur c.args.slots.now) (tokens_in c.args.slots.now c.args.stack.now)
    c.args.ledger.now c.release.new.ledger (slots_tokens c.requires.is_open)
    (rose_by_all c.complete_all-result.ensures.conserved (RoseBy_same (slots_occur c.replace-rest.result)
    (slots_occur c.complete_all-result.new.slots) c.complete_all-result.new.ledger c.release.new.ledger
    (λ t. ap (λ (slots : List Slot). slots_occur slots t) c.replace-rest.ensures.value) c.release.ensures.released))

-- the places on the way to the one at which the builder works lie in the slots of the stack, before and after
pub returns-in-Ok-clause-in_place : goal.returns-in-Ok-clause-in_place
returns-in-Ok-clause-in_place g c =
    open_stay c.requires.is_open refl c.in-Ok.ensures.finished.stands.open_still c.in-Ok.ensures.finished.stands.cursor

pub returns-in-Err-clause-strict : goal.returns-in-Err-clause-strict
returns-in-Err-clause-strict g c =
    subst NothingStored (sym c.replace-rest.ensures.after) (λ n. ap stored_in (c.new.ensures.free n))
