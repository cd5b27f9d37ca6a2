use Rattle.std.proofs.Common.{List, ℕ, sym, subst}
use Rattle.std.proofs.lemmas.Result.{on_ok_weaker}
use Rattle.fr_store.specs.Common.{Conserved, IsKept, Slot, StoresNoMore, as_tracker, slots_occur}
use Rattle.fr_store.proofs.Outcomes.{both_refused, either_way, on_ok_each}
use Rattle.fr_store.proofs.HeldOrReleased.{conserved_by}
use Rattle.fr_store.proofs.RestartLaws.{restarts}
use Rattle.fr_store.proofs.WholeTops.{top_rooted, prune_room, pruned_in_use, put_room, set_rose}
use Rattle.fr_store.proofs.stack.Stack.restart.Goals as goal

pub prune-requires-clause-rooted : goal.prune-requires-clause-rooted
prune-requires-clause-rooted c = top_rooted c.requires.is_open.is_open c.in-Some.ensures.last

pub prune-requires-clause-room : goal.prune-requires-clause-room
prune-requires-clause-room c = prune_room c.requires.is_open.is_open c.in-Some.ensures.last c.args.ledger.now c.requires.room

pub restart-requires-clause-in_use : goal.restart-requires-clause-in_use
restart-requires-clause-in_use c =
    pruned_in_use c.requires.is_open.is_open c.in-Some.ensures.last c.prune.new.slots c.prune.ensures.pruned

pub restart-requires-clause-room : goal.restart-requires-clause-room
restart-requires-clause-room c =
    put_room c.requires.is_open.is_open c.in-Some.ensures.last c.prune.new.slots c.prune.ensures.pruned c.requires.room
    c.prune.ensures.released

pub returns-clause-restarted : goal.returns-clause-restarted
returns-clause-restarted c = on_ok_each _ c.restart.result (λ plan is_open.
    on_ok_weaker c.restart.result (λ shows. (restarts is_open c.in-Some.ensures.last c.prune.new.slots
    c.prune.ensures.pruned (as_tracker c.args.tracker) c.args.count c.requires.may_have c.requires.base c.restart.new.slots
    shows).opens) c.restart.ensures.restarted)

pub returns-clause-places : goal.returns-clause-places
returns-clause-places c =
    on_ok_weaker c.restart.result (λ shows. (restarts c.requires.is_open.is_open c.in-Some.ensures.last c.prune.new.slots
    c.prune.ensures.pruned (as_tracker c.args.tracker) c.args.count c.requires.may_have c.requires.base c.restart.new.slots
    shows).stays) c.restart.ensures.restarted

pub returns-clause-released : goal.returns-clause-released
returns-clause-released c =
    on_ok_weaker c.restart.result (λ rose. set_rose c.requires.is_open.is_open c.in-Some.ensures.last c.prune.new.slots
    c.prune.ensures.pruned c.restart.new.ledger c.prune.ensures.released rose) c.restart.ensures.released

pub returns-clause-kept : goal.returns-clause-kept
returns-clause-kept c =
    either_way c.restart.result (λ shows. (restarts c.requires.is_open.is_open c.in-Some.ensures.last c.prune.new.slots
    c.prune.ensures.pruned (as_tracker c.args.tracker) c.args.count c.requires.may_have c.requires.base c.restart.new.slots
    shows).kept c.prune.new.self c.prune.ensures.kept) (λ same. subst (λ (slots : List Slot). IsKept c.prune.new.self slots)
    (sym same) c.prune.ensures.kept) c.restart.ensures.restarted c.restart.ensures.slots_kept

pub returns-clause-marks : goal.returns-clause-marks
returns-clause-marks c =
    either_way c.restart.result (λ shows. (restarts c.requires.is_open.is_open c.in-Some.ensures.last c.prune.new.slots
    c.prune.ensures.pruned (as_tracker c.args.tracker) c.args.count c.requires.may_have c.requires.base c.restart.new.slots
    shows).marks c.prune.ensures.marks) (λ same. subst (λ (slots : List Slot). StoresNoMore c.args.slots.now slots)
    (sym same) c.prune.ensures.marks) c.restart.ensures.restarted c.restart.ensures.slots_kept

pub returns-clause-tokens : goal.returns-clause-tokens
returns-clause-tokens c =
    both_refused c.restart.result (λ slots ledger. subst (λ (s : List Slot). Conserved
    (slots_occur c.args.slots.now) c.args.ledger.now (slots_occur s) c.restart.new.ledger) (sym slots) (subst (λ (l : List ℕ).
    Conserved (slots_occur c.args.slots.now) c.args.ledger.now (slots_occur c.prune.new.slots) l) (sym ledger) (conserved_by
    (slots_occur c.args.slots.now) (slots_occur c.prune.new.slots) c.prune.ensures.tokens c.prune.ensures.released)))
    c.restart.ensures.slots_kept c.restart.ensures.ledger_kept
