use Rattle.std.proofs.Common.{◌≡◌, ℕ, ◌+◌, ◌-◌, ◌<◌, ◌++◌, ◌∷◌, [], ◌≤◌, true, List, length, map, take, drop, subst, sym, ap, ◌∙◌, rules, arith}
use Rattle.std.proofs.lemmas.List.{length-map, take-map}
use Rattle.fr_values.specs.Common.{Indexes, IsPermutation, IsRun, Value, has_number, joined, numbers_from, runs_of, view}
use Rattle.fr_values.specs.declared.value_index.ValueIndex.{ValueIndex}
use Rattle.fr_values.specs.Indexing.{AreRuns}
use Rattle.fr_values.proofs.Indexed.{numbers_after, runs_after}
use Rattle.fr_values.proofs.value_index.ValueIndex.add.Goals as goal

module _ (values : List Value) (index : ValueIndex) (end : ℕ) (ends : end ≡ length values) (more : index.len < length values)
    (indexed : Indexes index (take index.len values)) where
  as_many : length (map view values) ≡ index.len + (end - index.len)
  as_many = omega (arith, ends, more, length-map values view)

  were : AreRuns (take index.len (map view values)) (runs_of index)
  were = subst (λ vs. AreRuns vs (runs_of index)) (sym (take-map view index.len values)) indexed.runs

  numbers_are : (from : ℕ) (n : ℕ) → has_number (numbers_from index.len (end - index.len) ++ joined (drop from (runs_of index))) n ≡ true
      → n < length values
  numbers_are from n has =
      omega (arith, length-map values view, numbers_after (map view values) index.len (end - index.len) (runs_of index) from as_many were n has)

  added : (from : ℕ) (run : List ℕ) → from ≤ length (runs_of index)
      → IsPermutation (numbers_from index.len (end - index.len) ++ joined (drop from (runs_of index))) run → IsRun (map view values) run
      → AreRuns (map view values) (take from (runs_of index) ++ run ∷ [])
  added from run within moved is = runs_after (map view values) index.len (end - index.len) (runs_of index) from run as_many were moved within is

pub sorted-requires : goal.sorted-requires
sorted-requires c =
    let ends : c.in-Ok.len ≡ length c.args.values.now = search rules in record {
      below = λ n has. numbers_are c.args.values.now c.args.self.now c.in-Ok.len ends c.requires.more c.requires.indexed
          c.first_absorbed-from.result n
          (ap (λ (l : List ℕ). has_number l n) (sym (c.as_slice.ensures.value ∙ c.in_ok-numbers.ensures)) ∙ has);
    }

pub returns-clause-added : goal.returns-clause-added
returns-clause-added c =
    let ends : c.in-Ok.len ≡ length c.args.values.now = search rules in record {
      runs = subst (AreRuns (map view c.args.values.now)) (sym c.in_ok-put_run.ensures.put)
          (added c.args.values.now c.args.self.now c.in-Ok.len ends c.requires.more c.requires.indexed c.first_absorbed-from.result
          c.in_ok-run.run'.items c.first_absorbed-from.ensures
          (subst (λ (l : List ℕ). IsPermutation l c.in_ok-run.run'.items) (c.as_slice.ensures.value ∙ c.in_ok-numbers.ensures)
          c.in_ok-run.ensures.moved) c.in_ok-run.ensures.run);
      count = ends;
    }
