-- What `extend` says of the items that it took, as a run of the iterator.
use Rattle.std.proofs.Common.{◌≡◌, ℕ, ◌<◌, ◌+◌, true, false, List, [], ◌∷◌, length, Option, Some, Result, Ok, Err, refl, ap, ◌∙◌, zero, suc, ◌-◌, ◌++◌, length-append, arith}
use Rattle.std.specs.Iterator.{Drains, Yields}
use Rattle.std.specs.Iterator.Runs.{Run, YieldsRun, Trigger}
use Rattle.std.specs.List.{slice_get, slice_index_or}
use Rattle.std.specs.Option.{option_map}
use Rattle.std.specs.Result.{MatchResult, is_err}
use Rattle.fr_arena.specs.Arenas.{ForAllItems}
use Rattle.fr_arena.specs.Ranges.{indices_from}

seen : (n : ℕ) → Trigger n
unfolding Trigger
seen n = tt

reads : {A : Type 0} (xs : List A) (k : ℕ) (d : A) → k < length xs → option_map (λ y. y) (slice_get xs k) ≡ Some (slice_index_or xs k d)
reads [] k d below = absurd (omega arith)
reads (x ∷ xs) zero d below = refl
reads (x ∷ xs) (suc k) d below = reads xs k d (omega arith)

module _ {S A : Type 0} (steps : S → Option A → S → Type 0) (it : S) (xs : List A) where
  gave : Drains steps it xs → YieldsRun steps it xs true (slice_get xs)
  unfolding YieldsRun
  gave drained = ((drained.1.0, drained.1.1, λ _. (drained.0, drained.1.2)), λ k. refl)

  -- the run that gave xs and then `None`
  abbrev whole_run : Drains steps it xs → Run steps
  whole_run drained = record {
    from = it;
    items = xs;
    whole = true;
    len = length xs;
    at = slice_get xs;
    seen = seen (length xs);
    long = refl;
    reads = reads xs;
    gave = gave drained;
  }

module _ {U S A : Type 0} (becomes : U → S → Type 0) (steps : S → Option A → S → Type 0) (values : U) where
  -- where `extend` did not fail, what it says of the items holds of all of them
  pub all_items : {E : Type 0} (P : List A → Type 0) (r : Result (Unit {0}) E) → is_err r ≡ false
      → ((it : S) × (xs : List A) × becomes values it × P xs
      × MatchResult r (λ _. Drains steps it xs) (λ _. (t : S) × Yields steps it xs t))
      → ForAllItems becomes steps values P
  all_items P (Ok u) ok ran = (ran.0, ran.2, (whole_run steps ran.0 ran.1 ran.4, refl, refl, ran.3))
  all_items P (Err e) ok ran = absurd cc

  -- what holds of the items, and what follows from it
  pub items_follow : (P Q : List A → Type 0) → ((xs : List A) → P xs → Q xs) → ForAllItems becomes steps values P → ForAllItems becomes steps values Q
  items_follow P Q follows all = (all.0, all.1, (all.2.0, all.2.1, all.2.2, follows all.2.0.items all.2.3))

-- the range behind a list that grew by xs
pub range_behind : {A : Type 0} (old was now : List A) (xs : List A) (start end : ℕ) → was ≡ old → start ≡ length was → end ≡ length now → now ≡ was ++ xs
    → (now ≡ old ++ xs) × (indices_from start (end - start) ≡ indices_from (length old) (length xs))
range_behind old was now xs start end same begins ends grew =
    let len : end ≡ length was + length xs = ends ∙ ap length grew ∙ length-append was xs in
    let gap : end - start ≡ length xs = omega arith in
    (grew ∙ ap (λ l. l ++ xs) same, cc)
