use Rattle.std.proofs.Common.{◌≡◌, Some, sym, ◌∙◌}
use Rattle.fr_moves.specs.Common.{Node, Val, heap_of, value_of, view}
use Rattle.fr_moves.proofs.EndingLaws.{kept_there, on_err, on_top, room_there, rose_there}
use Rattle.fr_moves.proofs.HandingLaws.{some_then}
use Rattle.fr_moves.specs.ResultLaws.{if_ok}
use Rattle.fr_moves.proofs.ending.take_value.Goals as goal

pub into_value-requires-clause-room : goal.into_value-requires-clause-room
into_value-requires-clause-room c =
    room_there c.args.frames.now c.requires.are_open.are_open.shown c.requires.at_root c.requires.complete c.in-Some.top.0
    c.in-Some.ensures.last c.args.ledger.now c.requires.room

pub returns-clause-value : goal.returns-clause-value
returns-clause-value c =
    if_ok c.into_value.result (λ value there.
    on_top c.args.frames.now.slots c.in-Some.ensures.last (λ (at : Node). (v : Val) → value_of at.body ≡ Some v → v ≡ view value)
    (some_then (heap_of c.args.frames.now.slots c.in-Some.top.0)
    (λ (at : Node) is v held. let same : Some v ≡ Some (view value) = sym held ∙ is in cc) there)) c.into_value.ensures.value

pub returns-clause-conserved : goal.returns-clause-conserved
returns-clause-conserved c =
    if_ok c.into_value.result (λ value kept.
    kept_there c.args.frames.now c.requires.are_open.are_open.shown c.requires.at_root c.requires.complete c.in-Some.top.0
    c.in-Some.ensures.last c.into_value.new.slots (view value) c.args.ledger.now c.into_value.new.ledger
    c.into_value.ensures.tokens kept) c.into_value.ensures.conserved

pub returns-clause-released : goal.returns-clause-released
returns-clause-released c =
    on_err c.into_value.result
    (rose_there c.args.frames.now c.requires.are_open.are_open.shown c.requires.at_root c.requires.complete c.in-Some.top.0
    c.in-Some.ensures.last c.args.ledger.now c.into_value.new.ledger) c.into_value.ensures.released
