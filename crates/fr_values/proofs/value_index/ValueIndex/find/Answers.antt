use Rattle.std.proofs.Common.{◌≡◌, ℕ, ◌<◌, List, [], length, map, get_or, subst, sym, ap, ◌∙◌, arith}
use Rattle.std.proofs.lemmas.List.{length-map, take_all}
use Rattle.fr_values.specs.Common.{IsRun, has_number, is_held, runs_of, view}
use Rattle.fr_values.proofs.Indexed.{read_map, there_found, there_none, of_none, lacks_more}
use Rattle.fr_values.proofs.value_index.ValueIndex.find.Goals as goal
use Rattle.fr_values.proofs.value_index.ValueIndex.find.Goals.{After-as_slice}

-- the run that is looked at is the one of this number
this_run : (c : After-as_slice) → (c.loop-run.run-index < length (runs_of c.args.self.now))
    × (c.as_slice.result.now ≡ get_or (runs_of c.args.self.now) c.loop-run.run-index [])
this_run c =
    let runs = c.deref-run-items.result.now in
    let i = c.loop-run.run-index in
    let h : i < length runs = omega arith in
    let same = ap (map (λ run. run.items)) c.deref-run-items.ensures.value in (
      omega (arith, h, length-map runs (λ run. run.items), ap length same),
      c.as_slice.ensures.value ∙ read_map (λ run. run.items) runs i c.run-item.result [] h c.run-item.is
          ∙ ap (λ (l : List (List ℕ)). get_or l i []) same,
    )

pub find_in-found-requires : goal.find_in-found-requires
find_in-found-requires c = record {
  run = subst (IsRun (map view c.args.values.now)) (sym (this_run c).1)
      (c.requires.indexed.runs.sorted c.loop-run.run-index (this_run c).0);
}

pub returns-then-is_some-clause-there : goal.returns-then-is_some-clause-there
returns-then-is_some-clause-there c =
    there_found c.args.values.now (view c.args.value.now) c.find_in-found.result (sym c.is_some.ensures ∙ c.if-is_some.true) c.find_in-found.ensures.found c.find_in-found.ensures.same

pub loop-run-preserved : goal.loop-run-preserved
loop-run-preserved c =
    let this = this_run (goal.at.loop-run-preserved c).After-as_slice in
    let none = of_none c.find_in-found.result (sym c.is_some.ensures ∙ c.if-is_some.false) c.find_in-found.ensures.none in
    lacks_more (runs_of c.args.self.now) c.loop-run.run-index this.0 c.loop-run.invariant
    (λ n has. none n (ap (λ (l : List ℕ). has_number l n) this.1 ∙ has))

pub returns-clause-there : goal.returns-clause-there
returns-clause-there c =
    let runs = c.deref-run-items.result.now in
    let all = runs_of c.args.self.now in
    let i = c.loop-run.run-index in
    let same = ap (map (λ run. run.items)) c.deref-run-items.ensures.value in
    let end : length all ≡ length runs = sym (ap length same) ∙ length-map runs (λ run. run.items) in
    sym (there_none c.args.values.now (view c.args.value.now) (λ n h.
    c.loop-run.invariant n (ap (λ (l : List (List ℕ)). is_held l n) (take_all i all (omega arith))
    ∙ c.requires.indexed.runs.each n (omega (arith, h, length-map c.args.values.now view)))))
