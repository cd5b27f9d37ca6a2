use Rattle.std.proofs.Common.{◌<◌, length, set, arith, ap, sym, ◌∙◌, subst}
use Rattle.fr_values.specs.Common.{Conserved, Room, Room_fewer, Room_risen, RoseBy, Value, both, entries_occur, entries_view, occurs, view}
use Rattle.fr_values.proofs.Kept.{put_present, put_absent, pushed_conserved, put_conserved, value_fewer}
use Rattle.fr_values.proofs.gathering.put_entry.Goals as goal

pub release-requires-then-place-len : goal.release-requires-then-place-len
release-requires-then-place-len c =
    let es = c.args.entries.now.items in
    let e = c.index_mut-entry.result.now in
    let within : c.args.place < length es = omega arith in
    let rest : Room (entries_occur (entries_view es)) c.release.new.ledger =
    Room_risen (occurs (view c.args.key)) _ c.args.ledger.now c.release.new.ledger c.requires.room c.release.ensures.released in
    record {
      room = Room_fewer (occurs (view c.replace-old.result)) _ c.release.new.ledger
          (λ t. omega (arith, value_fewer es c.args.place e t within c.index_mut-entry.ensures.value, ap (λ v. occurs (view v) t) c.replace-old.ensures.value)) rest;
    }

pub returns-then-place-len-clause-put : goal.returns-then-place-len-clause-put
returns-then-place-len-clause-put c =
    let es = c.args.entries.now.items in
    let e = c.index_mut-entry.result.now in
    ap (λ v. entries_view (set es c.args.place (e.0, v))) c.replace-old.ensures.after
    ∙ put_present es (view c.args.key) c.args.value c.args.place e c.requires.placed (omega arith) c.index_mut-entry.ensures.value

pub returns-then-place-len-clause-conserved : goal.returns-then-place-len-clause-conserved
returns-then-place-len-clause-conserved c =
    let es = c.args.entries.now.items in
    let e = c.index_mut-entry.result.now in
    let within : c.args.place < length es = omega arith in
    let old : RoseBy (occurs (view e.1)) c.release.new.ledger c.release-then-place-len.new.ledger =
    subst (λ (v : Value). RoseBy (occurs (view v)) c.release.new.ledger c.release-then-place-len.new.ledger) c.replace-old.ensures.value c.release-then-place-len.ensures.released in
    subst (λ (v : Value). Conserved (both (both (occurs (view c.args.key)) (occurs (view c.args.value))) (entries_occur (entries_view es))) c.args.ledger.now (entries_occur (entries_view (set es c.args.place (e.0, v)))) c.release-then-place-len.new.ledger)
    (sym c.replace-old.ensures.after)
    (put_conserved es c.args.place e c.args.key c.args.value c.args.ledger.now c.release.new.ledger c.release-then-place-len.new.ledger within c.index_mut-entry.ensures.value c.release.ensures.released old)

pub returns-else-place-len-clause-put : goal.returns-else-place-len-clause-put
returns-else-place-len-clause-put c =
    put_absent c.args.entries.now.items _ c.args.key c.args.value c.args.place c.push_reserved.ensures.items c.requires.placed (omega arith)

pub returns-else-place-len-clause-conserved : goal.returns-else-place-len-clause-conserved
returns-else-place-len-clause-conserved c =
    pushed_conserved c.args.entries.now.items _ c.args.key c.args.value c.args.ledger.now c.push_reserved.ensures.items
