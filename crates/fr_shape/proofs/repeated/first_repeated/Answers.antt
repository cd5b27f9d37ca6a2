use Rattle.std.proofs.Common.{◌≡◌, Bool, true, false, cond, not, ◌&&◌, take, sym, ap, ◌∙◌, arith}
use Rattle.std.specs.BTreeSet as sorted
use Rattle.std.specs.List.{list_any}
use Rattle.std.proofs.lemmas.Grind.{common_steps}
use Rattle.fr_shape.proofs.NoneTwice.{distinct_more, first_repeated_at, holds_more}
use Rattle.fr_shape.proofs.repeated.first_repeated.Goals as goal

-- the set takes a key that it lacks
pub loop-i-preserved : goal.loop-i-preserved
loop-i-preserved g c =
    let inv = c.loop-i.invariant in
    let e = c.in_ok-insert.ensures in
    let x = c.index-keys-i.result in
    let keys = c.args.keys.now in
    let i = c.loop-i.i in
    let absent : list_any (g.K.PartialEq.eq x) (take i keys) ≡ false = grind (arith, common_steps, inv.holds x, e.added, c.if-not-branch.false) in record {
      distinct = distinct_more g.met.K.Eq.laws keys i x c.loop-i-test.true c.index-keys-i.is
          ∙ (λ j. inv.distinct j && not (absent j));
      holds = λ q. holds_more g.met.K.Eq.laws keys i x c.loop-i-test.true c.index-keys-i.is q
          (sorted.contains g.K.Ord.cmp c.loop-i.earlier q) (sorted.contains g.K.Ord.cmp c.insert.new.self q)
          (e.updates.0 q ∙ ap (λ (b : Bool). cond b true (sorted.contains g.K.Ord.cmp c.loop-i.earlier q)) (sym (g.met.K.Ord.matches_eq x q)))
          (inv.holds q);
    }

-- and refuses one that it has
pub returns-then-not-branch : goal.returns-then-not-branch
returns-then-not-branch g c =
    let inv = c.loop-i.invariant in
    let e = c.in_ok-insert.ensures in
    let x = c.index-keys-i.result in
    let again : list_any (g.K.PartialEq.eq x) (take c.loop-i.i c.args.keys.now) ≡ true = grind (arith, common_steps, inv.holds x, e.added, c.if-not-branch.true) in
    first_repeated_at g.met.K.Eq.laws c.args.keys.now c.loop-i.i x c.loop-i-test.true c.index-keys-i.is inv.distinct again
