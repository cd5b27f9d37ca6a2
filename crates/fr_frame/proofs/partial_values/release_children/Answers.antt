use Rattle.std.proofs.Common.{ℕ, List, sym, subst, arith}
use Rattle.fr_frame.specs.Common.{RoseBy, value_at, value_occurs, view}
use Rattle.fr_values.specs.CellLaws.{releasing_room, releasing_step, releasing_ends, rose_not, rose_by}
use Rattle.fr_frame.proofs.partial_values.release_children.Goals as goal
use Rattle.fr_frame.proofs.partial_values.release_children.Goals.{in-Some, in-None}

pub release-requires : goal.release-requires
release-requires c = record {
  room = releasing_room c.args.children c.loop-i.children c.args.ledger.now c.loop-i.ledger c.loop-i.i c.loop-i.invariant
      (view c.in-Some.value) (omega (arith, c.loop-i.invariant.count)) c.in-Some.ensures.taken;
}

pub loop-i-preserved : goal.loop-i-preserved
loop-i-preserved c =
    elim c.match-take.branch [
      | in-Some w ↦
          let rose : RoseBy (value_occurs (value_at c.loop-i.children c.loop-i.i)) c.loop-i.ledger c.match-take.ledger
          = subst (λ (after : List ℕ). RoseBy (value_occurs (value_at c.loop-i.children c.loop-i.i)) c.loop-i.ledger after)
          (sym w.ledger-is)
          (rose_by (value_at c.loop-i.children c.loop-i.i) (view w.in-Some.value) c.loop-i.ledger w.release.new.ledger
          w.in-Some.ensures.taken w.release.ensures.released) in
          releasing_step c.args.children c.loop-i.children c.args.ledger.now c.loop-i.ledger c.loop-i.i c.loop-i.invariant
          c.take.new.self c.match-take.ledger (omega (arith, c.loop-i.invariant.count)) c.take.ensures.rest rose
      | in-None w ↦
          let rose : RoseBy (value_occurs (value_at c.loop-i.children c.loop-i.i)) c.loop-i.ledger c.match-take.ledger
          = subst (λ (after : List ℕ). RoseBy (value_occurs (value_at c.loop-i.children c.loop-i.i)) c.loop-i.ledger after)
          (sym w.ledger-is) (rose_not (value_at c.loop-i.children c.loop-i.i) c.loop-i.ledger w.in-None.ensures.taken) in
          releasing_step c.args.children c.loop-i.children c.args.ledger.now c.loop-i.ledger c.loop-i.i c.loop-i.invariant
          c.take.new.self c.match-take.ledger (omega (arith, c.loop-i.invariant.count)) c.take.ensures.rest rose
    ]

pub returns : goal.returns
returns c =
    releasing_ends c.args.children c.loop-i.children c.args.ledger.now c.loop-i.ledger c.loop-i.i c.loop-i.invariant (omega arith)
