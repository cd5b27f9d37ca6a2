-- Closing a place beneath the others leaves as it is what completes, what fails, and what becomes of the tree at the end.
use Rattle.std.proofs.Common.{◌≡◌, ◌≢◌, ◌+◌, ◌<◌, ◌∷◌, ◌++◌, ◌||◌, if◌then◌else◌}
use Rattle.fr_model.proofs.Common.{ℕ, zero, suc, not, is_none, List, [], Option, Some, None, refl, sym, ◌∙◌, ap, ap₂, subst, arith, option_map, option_or, ReflectErrorKind, Meanings, is_nil, Table, Val, Vals, PathStep, complete, complete_all, failing_child, hole_takes, made, valid_child, missing_child, unless_there, first_unmet, first_missing, first_invalid, lack_of_begun, Failure, failure_at, or_itself, failures, failures_among, closed, one_more_tree, closed_all, closed_but, begun_with, finished, failures_but, failures_off, IsOffTheWay, HasATurn, is_conversion, is_begun_conversion, is_closed_slice, failing_path, value_as, wholes, Bool, true, false, inl, inr, step_as, Place, deferred_column, one_more, Tracker, Tree, hole, whole, begun, Trees, no_trees, branch, for_hole, tree_nth, change_nth, child_as, count_trees}
use Rattle.fr_model.specs.FinishLaws.{Closes, closed_at, ClosingKeepsCompletion, ClosingKeepsFailures, ClosingKeepsFinish, ClosingKeepsFailuresOff}
use Rattle.fr_model.proofs.Failing.{completes_or_fails}

-- Two trees, of which neither is a hole, make the same and the same fails in them. So it may be of the children of two places.

pub record IsAlike (hooks : Meanings) (table : Table) (s : ℕ) (t u : Tree) : Type 0 where
  pub there : t ≢ hole
  pub still : u ≢ hole
  pub makes : complete deferred_column hooks table s u ≡ complete deferred_column hooks table s t
  pub fails : (path : List PathStep) → failures hooks table s path u ≡ failures hooks table s path t

pub record AreAlike (hooks : Meanings) (table : Table) (s : ℕ) (tracker : Tracker) (k : ℕ) (ts us : Trees) : Type 0 where
  pub make : complete_all deferred_column hooks table s tracker k us ≡ complete_all deferred_column hooks table s tracker k ts
  pub close : closed_all hooks table s tracker k us ≡ closed_all hooks table s tracker k ts
  pub fail : (path : List PathStep) → failures_among hooks table s tracker k path us ≡ failures_among hooks table s tracker k path ts
  pub unmet : first_unmet table s tracker k us ≡ first_unmet table s tracker k ts
  pub missed : first_missing table s tracker k us ≡ first_missing table s tracker k ts
  pub invalid : first_invalid hooks table s tracker k us ≡ first_invalid hooks table s tracker k ts

not_hole : {T : Type 0} (t : Tree) (of_hole of_other : T) → t ≢ hole → for_hole t of_hole of_other ≡ of_other
not_hole hole of_hole of_other there = absurd (there refl)
not_hole _ of_hole of_other there = refl

-- what is made of two alike
same_for : {T : Type 0} (t u : Tree) (of_hole of_t of_u : T) → t ≢ hole → u ≢ hole → of_u ≡ of_t
    → for_hole u of_hole of_u ≡ for_hole t of_hole of_t
same_for t u of_hole of_t of_u there still same = not_hole u of_hole of_u still ∙ same ∙ sym (not_hole t of_hole of_t there)

closed_alike : (hooks : Meanings) (table : Table) (s : ℕ) (t u : Tree) → IsAlike hooks table s t u
    → closed hooks table s u ≡ closed hooks table s t
closed_alike hooks table s t u alike =
    same_for t u _ _ _ alike.there alike.still (ap (λ (made : Option Val). option_map whole made) alike.makes)

taken_alike : (hooks : Meanings) (table : Table) (s : ℕ) (tracker : Tracker) (i : ℕ) (t u : Tree)
    → IsAlike hooks table (child_as table s tracker i) t u
    → for_hole u (hole_takes deferred_column table s tracker i) (complete deferred_column hooks table (child_as table s tracker i) u)
    ≡ for_hole t (hole_takes deferred_column table s tracker i) (complete deferred_column hooks table (child_as table s tracker i) t)
taken_alike hooks table s tracker i t u alike = same_for t u _ _ _ alike.there alike.still alike.makes

-- children of which the first are alike, and the others the same
alike_first : (hooks : Meanings) (table : Table) (s : ℕ) (tracker : Tracker) (k : ℕ) (t u : Tree) (ts : Trees)
    → IsAlike hooks table (child_as table s tracker k) t u → AreAlike hooks table s tracker k (branch t ts) (branch u ts)
alike_first hooks table s tracker k t u ts alike = record {
  make = ap (λ (value : Option Val). one_more (valid_child hooks table s tracker k value)
      (complete_all deferred_column hooks table s tracker (suc k) ts)) (taken_alike hooks table s tracker k t u alike);
  close = ap (λ (o : Option Tree). one_more_tree o (closed_all hooks table s tracker (suc k) ts))
      (closed_alike hooks table (child_as table s tracker k) t u alike);
  fail = λ path. ap (λ (here : List Failure). here ++ failures_among hooks table s tracker (suc k) path ts)
      (alike.fails (path ++ step_as tracker k ∷ []));
  unmet = ap (λ (kind : Option ReflectErrorKind). option_or kind (first_unmet table s tracker (suc k) ts))
      (same_for t u _ None None alike.there alike.still refl);
  missed = ap (λ (kind : Option ReflectErrorKind). option_or kind (first_missing table s tracker (suc k) ts))
      (same_for t u (unless_there (hole_takes deferred_column table s tracker k) (missing_child s tracker k)) None None
      alike.there alike.still refl);
  invalid = ap (λ (value : Option Val). option_or (failing_child hooks table s tracker k value)
      (first_invalid hooks table s tracker (suc k) ts)) (taken_alike hooks table s tracker k t u alike);
}

-- children of which the first are the same
alike_after : (hooks : Meanings) (table : Table) (s : ℕ) (tracker : Tracker) (k : ℕ) (t : Tree) (ts us : Trees)
    → AreAlike hooks table s tracker (suc k) ts us → AreAlike hooks table s tracker k (branch t ts) (branch t us)
alike_after hooks table s tracker k t ts us alike = record {
  make = ap (one_more _) alike.make;
  close = ap (one_more_tree _) alike.close;
  fail = λ path. ap (λ (rest : List Failure).
      failures hooks table (child_as table s tracker k) (path ++ step_as tracker k ∷ []) t ++ rest) (alike.fail path);
  unmet = ap (option_or _) alike.unmet;
  missed = ap (option_or _) alike.missed;
  invalid = ap (option_or _) alike.invalid;
}

-- all children with one of them changed to one alike
alike_nth : (hooks : Meanings) (table : Table) (s : ℕ) (tracker : Tracker) (d k : ℕ) (ts : Trees) (i : ℕ) (change : Tree → Tree)
    → i ≡ k + d → d < count_trees ts → IsAlike hooks table (child_as table s tracker i) (tree_nth d ts) (change (tree_nth d ts))
    → AreAlike hooks table s tracker k ts (change_nth d change ts)
alike_nth hooks table s tracker d k no_trees i change is below alike = absurd (omega arith)
alike_nth hooks table s tracker zero k (branch t ts) i change is below alike =
    let here : i ≡ k = omega arith in
    alike_first hooks table s tracker k t (change t) ts
    (subst (λ (m : ℕ). IsAlike hooks table (child_as table s tracker m) t (change t)) here alike)
alike_nth hooks table s tracker (suc d) k (branch t ts) i change is below alike =
    alike_after hooks table s tracker k t ts _
    (alike_nth hooks table s tracker d (suc k) ts i change (omega arith) (omega arith) alike)

lack_alike : (hooks : Meanings) (table : Table) (s : ℕ) (tracker : Tracker) (ts us : Trees) → AreAlike hooks table s tracker 0 ts us
    → lack_of_begun hooks table s tracker us ≡ lack_of_begun hooks table s tracker ts
lack_alike hooks table s tracker ts us alike = rw (alike.unmet, alike.missed, alike.invalid) refl

-- begun places with such children
begun_alike : (hooks : Meanings) (table : Table) (s : ℕ) (tracker : Tracker) (ts us : Trees) → AreAlike hooks table s tracker 0 ts us
    → IsAlike hooks table s (begun tracker ts) (begun tracker us)
begun_alike hooks table s tracker ts us alike = record {
  there = λ e. cc;
  still = λ e. cc;
  makes = ap (λ (values : Option Vals). made tracker values) alike.make;
  fails = λ path. ap₂ (λ (beneath : List Failure) (kind : Option ReflectErrorKind).
      or_itself beneath (failure_at (failing_path tracker path) kind))
      (alike.fail path) (lack_alike hooks table s tracker ts us alike);
}

-- a place that makes a value, and the same place whole with it
whole_alike : (hooks : Meanings) (table : Table) (s : ℕ) (t : Tree) (v : Val) → t ≢ hole
    → complete deferred_column hooks table s t ≡ Some v → IsAlike hooks table s t (whole v)
whole_alike hooks table s t v there makes = record {
  there = there;
  still = λ e. cc;
  makes = sym makes;
  fails = λ path. sym (nothing_fails path (failures hooks table s path t) (completes_or_fails hooks table s path t));
}
  where
    nothing_fails : (path : List PathStep) (fs : List Failure) → is_none (closed hooks table s t) ≡ not (is_nil fs) → fs ≡ []
    nothing_fails path [] e = refl
    nothing_fails path (f ∷ fs) e =
        let known = rw (not_hole t (Some hole) (option_map whole (complete deferred_column hooks table s t)) there, makes) at e in cc

-- the child on the way down to a place
pub below : (hooks : Meanings) (table : Table) (s i : ℕ) (here : Place) (v : Val) (tracker : Tracker) (ts : Trees)
    → Closes hooks table s (i ∷ here) v (begun tracker ts) → Closes hooks table (child_as table s tracker i) here v (tree_nth i ts)
below hooks table s i here v tracker ts closes = record { place = closes.place.1; there = closes.there; makes = closes.makes }

pub closing_alike : (hooks : Meanings) (table : Table) (s : ℕ) (here : Place) (v : Val) (tree : Tree)
    → Closes hooks table s here v tree → IsAlike hooks table s tree (closed_at here v tree)
closing_alike hooks table s [] v tree closes = whole_alike hooks table s tree v closes.there closes.makes
closing_alike hooks table s (i ∷ here) v (begun tracker ts) closes =
    begun_alike hooks table s tracker ts (change_nth i (λ child. closed_at here v child) ts)
    (alike_nth hooks table s tracker i 0 ts i (λ child. closed_at here v child) (omega arith) closes.place.0
    (closing_alike hooks table (child_as table s tracker i) here v (tree_nth i ts) (below hooks table s i here v tracker ts closes)))
closing_alike hooks table s (i ∷ here) v _ closes = absurd closes.place

pub closing_keeps_completion : ClosingKeepsCompletion
closing_keeps_completion hooks table s here v tree closes = (closing_alike hooks table s here v tree closes).makes

pub closing_keeps_failures : ClosingKeepsFailures
closing_keeps_failures hooks table s path here v tree closes = (closing_alike hooks table s here v tree closes).fails path

-- The end of deferred mode

-- of children of which one lies on the way
record AreAlikeBut (hooks : Meanings) (table : Table) (s : ℕ) (tracker : Tracker) (on_way : ℕ) (becomes : ℕ → Tree → Option Tree)
    (beneath : ℕ → List PathStep → Tree → List Failure) (k : ℕ) (ts us : Trees) : Type 0 where
  pub become : closed_but hooks table s tracker on_way becomes k us ≡ closed_but hooks table s tracker on_way becomes k ts
  pub fail : (path : List PathStep) → failures_but hooks table s tracker on_way beneath k path us
      ≡ failures_but hooks table s tracker on_way beneath k path ts

-- of a place, with a cursor beneath it
pub record FinishAlike (hooks : Meanings) (table : Table) (s : ℕ) (cursor : Place) (t u : Tree) : Type 0 where
  pub become : finished hooks table s cursor u ≡ finished hooks table s cursor t
  pub fail : (path : List PathStep) → failures_off hooks table s path cursor u ≡ failures_off hooks table s path cursor t

-- one of them is changed to one alike, and where it lies on the way the same becomes of it
but_alike : (hooks : Meanings) (table : Table) (s : ℕ) (tracker : Tracker) (on_way : ℕ) (becomes : ℕ → Tree → Option Tree)
    (beneath : ℕ → List PathStep → Tree → List Failure) (d k : ℕ) (ts : Trees) (i : ℕ) (change : Tree → Tree)
    → i ≡ k + d → d < count_trees ts → IsAlike hooks table (child_as table s tracker i) (tree_nth d ts) (change (tree_nth d ts))
    → (on_way ≡ d → (becomes (child_as table s tracker i) (change (tree_nth d ts))
    ≡ becomes (child_as table s tracker i) (tree_nth d ts))
    × ((path : List PathStep) → beneath (child_as table s tracker i) path (change (tree_nth d ts))
    ≡ beneath (child_as table s tracker i) path (tree_nth d ts)))
    → AreAlikeBut hooks table s tracker on_way becomes beneath k ts (change_nth d change ts)
but_alike hooks table s tracker on_way becomes beneath d k no_trees i change is within alike on = absurd (omega arith)
but_alike hooks table s tracker zero becomes beneath zero k (branch t ts) i change is within alike on = record {
  become = ap (λ (o : Option Tree). one_more_tree o (closed_all hooks table s tracker (suc k) ts))
      (subst (λ (m : ℕ). becomes (child_as table s tracker m) (change t) ≡ becomes (child_as table s tracker m) t) here (on refl).0);
  fail = λ path. ap (λ (fs : List Failure). fs ++ failures_among hooks table s tracker (suc k) path ts)
      (subst (λ (m : ℕ). beneath (child_as table s tracker m) (path ++ step_as tracker k ∷ []) (change t)
      ≡ beneath (child_as table s tracker m) (path ++ step_as tracker k ∷ []) t) here ((on refl).1 (path ++ step_as tracker k ∷ [])));
}
  where
    here : i ≡ k
    here = omega arith
but_alike hooks table s tracker zero becomes beneath (suc d) k (branch t ts) i change is within alike on =
    let rest = alike_nth hooks table s tracker d (suc k) ts i change (omega arith) (omega arith) alike in
    record {
      become = ap (one_more_tree (becomes (child_as table s tracker k) t)) rest.close;
      fail = λ path. ap (λ (fs : List Failure). beneath (child_as table s tracker k) (path ++ step_as tracker k ∷ []) t ++ fs)
          (rest.fail path);
    }
but_alike hooks table s tracker (suc on_way) becomes beneath zero k (branch t ts) i change is within alike on =
    record {
      become = ap (λ (o : Option Tree). one_more_tree o (closed_but hooks table s tracker on_way becomes (suc k) ts))
          (closed_alike hooks table (child_as table s tracker k) t (change t) first);
      fail = λ path. ap (λ (fs : List Failure). fs ++ failures_but hooks table s tracker on_way beneath (suc k) path ts)
          (first.fails (path ++ step_as tracker k ∷ []));
    }
  where
    first : IsAlike hooks table (child_as table s tracker k) t (change t)
    first = let here : i ≡ k = omega arith in
        subst (λ (m : ℕ). IsAlike hooks table (child_as table s tracker m) t (change t)) here alike
but_alike hooks table s tracker (suc on_way) becomes beneath (suc d) k (branch t ts) i change is within alike on =
    let rest = but_alike hooks table s tracker on_way becomes beneath d (suc k) ts i change (omega arith) (omega arith) alike
    (λ same. on (ap suc same)) in
    record {
      become = ap (one_more_tree (closed hooks table (child_as table s tracker k) t)) rest.become;
      fail = λ path. ap (λ (fs : List Failure).
          failures hooks table (child_as table s tracker k) (path ++ step_as tracker k ∷ []) t ++ fs) (rest.fail path);
    }

-- the place at the cursor, with such a child
here_alike : (hooks : Meanings) (table : Table) (s : ℕ) (tracker : Tracker) (ts us : Trees) → AreAlike hooks table s tracker 0 ts us
    → FinishAlike hooks table s [] (begun tracker ts) (begun tracker us)
here_alike hooks table s tracker ts us alike = record {
  become = ap (λ (values : Option Vals). option_map (begun_with tracker) values) alike.make;
  fail = λ path. ap₂ (λ (all beneath : List Failure). if is_conversion tracker then all else beneath)
      ((begun_alike hooks table s tracker ts us alike).fails path) (alike.fail path);
}

-- a conversion at the cursor, and the same place whole with what it makes
conversion_alike : (hooks : Meanings) (table : Table) (s : ℕ) (v : Val) (t : Tree) → is_begun_conversion t ≡ true
    → complete deferred_column hooks table s t ≡ Some v → FinishAlike hooks table s [] t (whole v)
conversion_alike hooks table s v (begun tracker ts) conversion makes = record {
  become = go (complete_all deferred_column hooks table s tracker 0 ts) makes;
  fail = λ path. (whole_alike hooks table s (begun tracker ts) v (λ e. cc) makes).fails path
      ∙ ap (λ (b : Bool). if b then failures hooks table s path (begun tracker ts)
      else failures_among hooks table s tracker 0 path ts) (sym conversion);
}
  where
    either : (b : Bool) → (b || true) ≡ true
    either true = refl
    either false = refl

    go : (values : Option Vals) → made tracker values ≡ Some v → ◌≡◌ {A = Option Tree} (Some (whole v)) (option_map (begun_with tracker) values)
    go (Some vs) e =
        let same : v ≡ value_as tracker vs = cc in
        ap (λ (u : Val). Some (whole u)) same
        ∙ ap (λ (b : Bool). Some (if b then whole (value_as tracker vs) else begun tracker (wholes vs)))
        (sym (either (is_closed_slice tracker)) ∙ ap (λ (b : Bool). is_closed_slice tracker || b) (sym conversion))
    go None e = cc
conversion_alike hooks table s v _ conversion makes = cc

-- a place above the cursor
above_alike : (hooks : Meanings) (table : Table) (s : ℕ) (tracker : Tracker) (i : ℕ) (cursor : Place) (ts us : Trees)
    → AreAlikeBut hooks table s tracker i (λ (shape : ℕ) (t : Tree). finished hooks table shape cursor t)
    (λ (shape : ℕ) (to : List PathStep) (t : Tree). failures_off hooks table shape to cursor t) 0 ts us
    → FinishAlike hooks table s (i ∷ cursor) (begun tracker ts) (begun tracker us)
above_alike hooks table s tracker i cursor ts us alike =
    record { become = ap (λ (children : Option Trees). option_map (begun tracker) children) alike.become; fail = alike.fail }

off_beneath : (c i : ℕ) (cursor here : Place) → c ≡ i → IsOffTheWay (c ∷ cursor) (i ∷ here) → IsOffTheWay cursor here
off_beneath c i cursor here same off way e = off way (ap₂ (λ (k : ℕ) (rest : Place). k ∷ rest) same e)

pub turn_beneath : (c i : ℕ) (cursor here : Place) (tracker : Tracker) (ts : Trees) → c ≡ i
    → HasATurn (c ∷ cursor) (i ∷ here) (begun tracker ts) → HasATurn cursor here (tree_nth i ts)
turn_beneath c i cursor here tracker ts same (inl off) = inl (off_beneath c i cursor here same off)
turn_beneath c i cursor here tracker ts same (inr (at, conversion)) = inr (cc, conversion)

pub finish_alike : (hooks : Meanings) (table : Table) (s : ℕ) (cursor here : Place) (v : Val) (tree : Tree)
    → Closes hooks table s here v tree → HasATurn cursor here tree → FinishAlike hooks table s cursor tree (closed_at here v tree)
finish_alike hooks table s cursor [] v tree closes (inl off) = absurd (off cursor refl)
finish_alike hooks table s cursor [] v tree closes (inr (at, conversion)) =
    subst (λ (place : Place). FinishAlike hooks table s place tree (whole v)) (sym at)
    (conversion_alike hooks table s v tree conversion closes.makes)
finish_alike hooks table s [] (i ∷ here) v (begun tracker ts) closes off =
    here_alike hooks table s tracker ts (change_nth i (λ child. closed_at here v child) ts)
    (alike_nth hooks table s tracker i 0 ts i (λ child. closed_at here v child) (omega arith) closes.place.0
    (closing_alike hooks table (child_as table s tracker i) here v (tree_nth i ts) (below hooks table s i here v tracker ts closes)))
finish_alike hooks table s (c ∷ cursor) (i ∷ here) v (begun tracker ts) closes off =
    above_alike hooks table s tracker c cursor ts (change_nth i (λ child. closed_at here v child) ts)
    (but_alike hooks table s tracker c (λ (shape : ℕ) (t : Tree). finished hooks table shape cursor t)
    (λ (shape : ℕ) (to : List PathStep) (t : Tree). failures_off hooks table shape to cursor t) i 0 ts i
    (λ child. closed_at here v child) (omega arith) closes.place.0
    (closing_alike hooks table (child_as table s tracker i) here v (tree_nth i ts) (below hooks table s i here v tracker ts closes))
    (λ same. let child = finish_alike hooks table (child_as table s tracker i) cursor here v (tree_nth i ts)
    (below hooks table s i here v tracker ts closes) (turn_beneath c i cursor here tracker ts same off) in
    (child.become, child.fail)))
finish_alike hooks table s cursor (i ∷ here) v _ closes off = absurd closes.place

pub closing_keeps_finish : ClosingKeepsFinish
closing_keeps_finish hooks table s cursor here v tree closes off = (finish_alike hooks table s cursor here v tree closes off).become

pub closing_keeps_failures_off : ClosingKeepsFailuresOff
closing_keeps_failures_off hooks table s path cursor here v tree closes off =
    (finish_alike hooks table s cursor here v tree closes off).fail path
