use Rattle.std.proofs.Common.{◌≡◌, Bool, not, false, true, refl, sym, ap}
use Rattle.fr_moves.specs.Common.{Change, Room, carried_by, held_in, top_tree, view, whole}
use Rattle.fr_shape.specs.TokenLaws.{Room_left}
use Rattle.fr_moves.proofs.KeepLaws.{are_open, became, kept_changed, kept_same, room_here, unchanged_as}
use Rattle.fr_moves.specs.FitLaws.{both_true}
use Rattle.fr_moves.proofs.BegunAroundLaws.{on_ok}
use Rattle.fr_moves.proofs.StayingLaws.{as_told, may_be, needs_none_so, none_carried}
use Rattle.fr_moves.proofs.staying.change_top.Goals as goal
use Rattle.fr_moves.proofs.staying.change_top.Goals.{Start}

not_true : (b : Bool) → not b ≡ true → b ≡ false
not_true false h = refl
not_true true h = cc

-- there is room without what the change carries
room : (c : Start) → Room (held_in c.args.frames.now) c.args.ledger.now
room c = Room_left (held_in c.args.frames.now) (carried_by c.args.change) c.args.ledger.now c.requires.room

pub returns-in-Nothing : goal.returns-in-Nothing
returns-in-Nothing c = record {
  changed = as_told c.in-Nothing.is (unchanged_as (are_open c.requires.at_work) (λ old. old) refl);
  memory = λ none. refl;
  tokens = none_carried c.in-Nothing.is (λ t. refl) (kept_same _ _ c.args.ledger.now (λ t. refl));
}

pub set-requires-clause-is_open : goal.set-requires-clause-is_open
set-requires-clause-is_open c = record { plan = c.args.plan.now; is_open = c.requires.at_work.ready.shown }

pub close_slice-requires-clause-are_open : goal.close_slice-requires-clause-are_open
close_slice-requires-clause-are_open c = record { plan = c.args.plan.now; are_open = are_open c.requires.at_work }

pub set-requires-clause-room : goal.set-requires-clause-room
set-requires-clause-room c = room_here _ _ _ _ c.requires.at_work.ready.shown (room (goal.at.set-requires-clause-room c).Start)

pub returns-in-Put : goal.returns-in-Put
returns-in-Put c = record {
  changed =
      as_told c.in-Put.is (became (are_open c.requires.at_work) c.set.ensures.kept c.set.ensures.marks
      (c.set.ensures.set c.args.plan.now c.requires.at_work.ready.shown));
  memory = λ none. refl;
  tokens =
      kept_changed c.requires.at_work.ready.shown (λ old. whole (view c.in-Put.value))
      (c.set.ensures.set c.args.plan.now c.requires.at_work.ready.shown) c.set.ensures.released
      (carried_by c.args.change) (λ t. sym (ap (λ (change : Change). carried_by change t) c.in-Put.is));
}

pub put_in_child-requires : goal.put_in_child-requires
put_in_child-requires c =
    let may = may_be c.in-PutChild.is c.args.frames.now c.requires.may in
    record {
      at_work = c.requires.at_work;
      opening = may.0;
      admitted = may.1;
      light = may.2;
      room = room (goal.at.put_in_child-requires c).Start;
    }

pub returns-in-PutChild : goal.returns-in-PutChild
returns-in-PutChild c = record {
  changed = on_ok c.put_in_child.result (λ done. as_told c.in-PutChild.is done) c.put_in_child.ensures.changed;
  memory = λ none. let no : false ≡ true = needs_none_so c.in-PutChild.is (top_tree c.args.frames.now) none in cc;
  tokens = none_carried c.in-PutChild.is (λ t. refl) c.put_in_child.ensures.tokens;
}

pub open_here-requires : goal.open_here-requires
open_here-requires c =
    let may = may_be c.in-Open.is c.args.frames.now c.requires.may in
    record {
      at_work = c.requires.at_work;
      may_open = may.0;
      may_have = may.1;
      base = may.2;
      room = room (goal.at.open_here-requires c).Start;
    }

pub returns-in-Open : goal.returns-in-Open
returns-in-Open c = record {
  changed = on_ok c.open_here.result (λ done. as_told c.in-Open.is done) c.open_here.ensures.changed;
  memory = λ none.
      let both = both_true _ _ (needs_none_so c.in-Open.is (top_tree c.args.frames.now) none) in
      c.open_here.ensures.memory both.0 (not_true _ both.1);
  tokens = none_carried c.in-Open.is (λ t. refl) c.open_here.ensures.tokens;
}

pub begin_variant-requires : goal.begin_variant-requires
begin_variant-requires c = record {
  at_work = c.requires.at_work;
  count = may_be c.in-Select.is c.args.frames.now c.requires.may;
  room = room (goal.at.begin_variant-requires c).Start;
}

pub returns-in-Select : goal.returns-in-Select
returns-in-Select c = record {
  changed = on_ok c.begin_variant.result (λ done. as_told c.in-Select.is done) c.begin_variant.ensures.changed;
  memory = λ none. let no : false ≡ true = needs_none_so c.in-Select.is (top_tree c.args.frames.now) none in cc;
  tokens = none_carried c.in-Select.is (λ t. refl) c.begin_variant.ensures.tokens;
}

pub begin_parts-requires-clause-room : goal.begin_parts-requires-clause-room
begin_parts-requires-clause-room c = room (goal.at.begin_parts-requires-clause-room c).Start

pub returns-in-Gather : goal.returns-in-Gather
returns-in-Gather c = record {
  changed = on_ok c.begin_parts.result (λ done. as_told c.in-Gather.is done) c.begin_parts.ensures.changed;
  memory = λ none. c.begin_parts.ensures.memory (needs_none_so c.in-Gather.is (top_tree c.args.frames.now) none);
  tokens = none_carried c.in-Gather.is (λ t. refl) c.begin_parts.ensures.tokens;
}

pub begin_slice-requires-clause-room : goal.begin_slice-requires-clause-room
begin_slice-requires-clause-room c = room (goal.at.begin_slice-requires-clause-room c).Start

pub returns-in-OpenSlice : goal.returns-in-OpenSlice
returns-in-OpenSlice c = record {
  changed = on_ok c.begin_slice.result (λ done. as_told c.in-OpenSlice.is done) c.begin_slice.ensures.changed;
  memory = λ none. let no : false ≡ true = needs_none_so c.in-OpenSlice.is (top_tree c.args.frames.now) none in cc;
  tokens = none_carried c.in-OpenSlice.is (λ t. refl) c.begin_slice.ensures.tokens;
}

pub close_slice-requires-clause-open_slice : goal.close_slice-requires-clause-open_slice
close_slice-requires-clause-open_slice c = may_be c.in-CloseSlice.is c.args.frames.now c.requires.may

pub returns-in-CloseSlice : goal.returns-in-CloseSlice
returns-in-CloseSlice c = record {
  changed = as_told c.in-CloseSlice.is (c.close_slice.ensures.changed c.args.plan.now (are_open c.requires.at_work));
  memory = λ none. refl;
  tokens = none_carried c.in-CloseSlice.is (λ t. refl) (kept_same _ _ c.args.ledger.now c.close_slice.ensures.tokens);
}
