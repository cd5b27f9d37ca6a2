use Rattle.std.proofs.Common.{◌≡◌, ℕ, ◌+◌, ◌-◌, ◌/◌, ◌<◌, List, length, map, get_or, sym, ap, ◌∙◌, ⊎_elim, arith}
use Rattle.std.proofs.lemmas.Bool.{cases_lt}
use Rattle.std.proofs.lemmas.List.{length-map}
use Rattle.fr_values.specs.Common.{Greater, IsRun, Less, Val, Value, compare, same_tied, val_at, view}
use Rattle.std.specs.declared.cmp.Ordering.{Ordering}
use Rattle.std.specs.declared.cmp.Ordering.TheVariants.{Equal}
use Rattle.std.specs.Ordering.{is_eq}
use Rattle.fr_values.proofs.Indexed.{below_at, run_before, run_behind, run_lacks, val_is}
use Rattle.fr_values.proofs.value_index.find_in.Goals as goal

-- the value in the middle of what is left
module _ (values : List Value) {run : List ℕ} (is_run : IsRun (map view values) run) (k : ℕ) (h : k < length run) where
  within : get_or run k 0 < length values
  within = omega (arith, below_at is_run k h, length-map values view)

  ordered : (x : Value) (v : Val) (order : Ordering) → x ≡ get_or values (get_or run k 0) x → order ≡ compare (view x) v
      → compare (val_at (map view values) (get_or run k 0)) v ≡ order
  ordered x v order is told = ap (λ w. compare w v) (val_is values (get_or run k 0) x within is) ∙ sym told

pub bounds-values-number : goal.bounds-values-number
bounds-values-number c =
    within c.args.values.now c.requires.run (c.loop-low.low + (c.loop-low.high - c.loop-low.low) / 2)
    (omega (arith, c.loop-low.invariant.within))

pub loop-low-preserved-in-Less : goal.loop-low-preserved-in-Less
loop-low-preserved-in-Less c =
    let inv = c.loop-low.invariant in
    let m = c.loop-low.low + (c.loop-low.high - c.loop-low.low) / 2 in
    let v = view c.args.value.now in
    let h : m < length c.args.run.now = omega (arith, inv.within) in
    let less = ordered c.args.values.now c.requires.run m h c.index-values-number.result v Less c.index-values-number.is
    c.in-Less.ensures.order in
    record { ends = omega arith; within = inv.within; before = run_before c.requires.run m v h less; behind = inv.behind }

pub loop-low-preserved : goal.loop-low-preserved
loop-low-preserved c =
    let inv = c.loop-low.invariant in
    let m = c.loop-low.low + (c.loop-low.high - c.loop-low.low) / 2 in
    let v = view c.args.value.now in
    let h : m < length c.args.run.now = omega (arith, inv.within) in
    let greater = ordered c.args.values.now c.requires.run m h c.index-values-number.result v Greater c.index-values-number.is
    c.in-Greater.ensures.order in
    record { ends = omega arith; within = omega arith; before = inv.before; behind = run_behind c.requires.run m v greater }

pub returns-in-Equal-clause-found : goal.returns-in-Equal-clause-found
returns-in-Equal-clause-found c =
    within c.args.values.now c.requires.run (c.loop-low.low + (c.loop-low.high - c.loop-low.low) / 2)
    (omega (arith, c.loop-low.invariant.within))

pub returns-in-Equal-clause-same : goal.returns-in-Equal-clause-same
returns-in-Equal-clause-same c =
    let m = c.loop-low.low + (c.loop-low.high - c.loop-low.low) / 2 in
    let v = view c.args.value.now in
    let h : m < length c.args.run.now = omega (arith, c.loop-low.invariant.within) in
    same_tied (val_at (map view c.args.values.now) (get_or c.args.run.now m 0)) v
    ∙ ap is_eq (ordered c.args.values.now c.requires.run m h c.index-values-number.result v Equal c.index-values-number.is
    c.in-Equal.ensures.order)

pub returns-clause-none : goal.returns-clause-none
returns-clause-none c =
    let inv = c.loop-low.invariant in
    run_lacks (map view c.args.values.now) c.args.run.now (view c.args.value.now) (λ k h.
    ⊎_elim (λ before. ap is_eq (inv.before k before)) (λ behind. ap is_eq (inv.behind k (omega arith) h)) (cases_lt k c.loop-low.low))
