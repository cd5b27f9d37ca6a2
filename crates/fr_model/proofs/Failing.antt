-- At the end of deferred mode: a place off the way is closed, or something fails in it.
use Rattle.std.proofs.Common.{◌≡◌, ◌||◌, ◌∷◌, ◌++◌}
use Rattle.fr_model.proofs.Common.{ℕ, zero, suc, Bool, true, false, not, is_none, is_some, List, [], Option, Some, None, refl, sym, ◌∙◌, ap, ap₂, option_map, option_or, Field, ReflectErrorKind, DeferredRule, filled, marked_without_default, missing, by_deferred_rule, Meanings, is_nil, Table, Val, Vals, PathStep, deferred_column, child_count, one_more, each_child, fill_of_field, fill_at, step_as, Tracker, as_fields, Tree, hole, entered, whole, begun, Trees, no_trees, branch, child_as, holes, complete, complete_all, failing_child, unless_there, valid_child, hole_takes, missing_child, unmet_by, unmet_mark_of, unmet_mark, first_unmet, first_missing, first_invalid, lack_of_begun, own_lack, Failure, failing_path, failure_at, or_itself, failures, failures_among, closed}
use Rattle.fr_model.proofs.Basis.{no_made, made_or_lacks, none_valid, some_or}

-- tests

swap_or : (a b c d : Bool) → ((a || b) || (c || d)) ≡ ((a || c) || (b || d))
swap_or true b c d = refl
swap_or false true true d = refl
swap_or false true false d = refl
swap_or false false c d = refl

none_more : (value : Option Val) (values : Option Vals) → is_none (one_more value values) ≡ (is_none value || is_none values)
none_more None values = refl
none_more (Some v) None = refl
none_more (Some v) (Some vs) = refl

pub none_mapped : {T U : Type 0} (f : T → U) (o : Option T) → is_none (option_map f o) ≡ is_none o
none_mapped f (Some x) = refl
none_mapped f None = refl

pub joined_there : {X : Type 0} (xs ys : List X) → not (is_nil (xs ++ ys)) ≡ (not (is_nil xs) || not (is_nil ys))
joined_there [] ys = refl
joined_there (x ∷ xs) ys = refl

failure_there : (path : List PathStep) (lacking : Option ReflectErrorKind) → not (is_nil (failure_at path lacking)) ≡ is_some lacking
failure_there path (Some kind) = refl
failure_there path None = refl

pub itself_there : (beneath : List Failure) (path : List PathStep) (lacking : Option ReflectErrorKind)
    → not (is_nil (or_itself beneath (failure_at path lacking))) ≡ (not (is_nil beneath) || is_some lacking)
itself_there [] path lacking = failure_there path lacking
itself_there (failure ∷ beneath) path lacking = refl

-- What a place lacks of a child: the child fails beneath, or it is marked and has no default, or it is missing, or its value
-- fails a validator. And so of all of them.

abbrev pub lacks : (failed : Bool) (unmet missed invalid : Option ReflectErrorKind) → Bool
lacks failed unmet missed invalid = failed || is_some (option_or unmet (option_or missed invalid))

lacks_or : (failed : Bool) (unmet missed invalid : Option ReflectErrorKind)
    → lacks failed unmet missed invalid ≡ (failed || (is_some unmet || (is_some missed || is_some invalid)))
lacks_or failed unmet missed invalid =
    ap (λ (b : Bool). failed || b) (some_or unmet _ ∙ ap (λ (b : Bool). is_some unmet || b) (some_or missed invalid))

lacks_more : (failed : Bool) (u m f : Option ReflectErrorKind) (fails : Bool) (us ms fs : Option ReflectErrorKind)
    → (lacks failed u m f || lacks fails us ms fs) ≡ lacks (failed || fails) (option_or u us) (option_or m ms) (option_or f fs)
lacks_more failed u m f fails us ms fs =
    ap₂ (λ (a b : Bool). a || b) (lacks_or failed u m f) (lacks_or fails us ms fs) ∙ swap_or failed _ fails _
    ∙ ap (λ (b : Bool). (failed || fails) || b) (swap_or (is_some u) _ (is_some us) _
    ∙ ap₂ (λ (a b : Bool). a || b) (sym (some_or u us)) (swap_or (is_some m) (is_some f) (is_some ms) (is_some fs)
    ∙ ap₂ (λ (a b : Bool). a || b) (sym (some_or m ms)) (sym (some_or f fs)))) ∙ sym (lacks_or _ _ _ (option_or f fs))

child_and_rest : (value : Option Val) (values : Option Vals) (failed : Bool) (u m f : Option ReflectErrorKind) (fails : Bool)
    (us ms fs : Option ReflectErrorKind) → is_none value ≡ lacks failed u m f → is_none values ≡ lacks fails us ms fs
    → is_none (one_more value values) ≡ lacks (failed || fails) (option_or u us) (option_or m ms) (option_or f fs)
child_and_rest value values failed u m f fails us ms fs here there =
    none_more value values ∙ ap₂ (λ (a b : Bool). a || b) here there ∙ lacks_more failed u m f fails us ms fs

-- one child

-- a hole that is marked and has no default takes nothing
marked_field_takes_none : (table : Table) (s : ℕ) (selected : Option ℕ) (found : Option Field)
    → (is_some (unmet_mark_of table s found) || is_none (fill_of_field deferred_column table s (is_some selected) found))
    ≡ is_none (fill_of_field deferred_column table s (is_some selected) found)
marked_field_takes_none table s selected None = refl
marked_field_takes_none table s selected (Some field) = by_rule field _
  where
    by_rule : (field : Field) (rule : DeferredRule) → (is_some (unmet_by field rule) || is_none (by_deferred_rule table field rule))
        ≡ is_none (by_deferred_rule table field rule)
    by_rule field (filled template) = refl
    by_rule field marked_without_default = refl
    by_rule field missing = refl

marked_takes_none : (table : Table) (s : ℕ) (tracker : Tracker) (i : ℕ)
    → (is_some (unmet_mark table s tracker i) || is_none (hole_takes deferred_column table s tracker i))
    ≡ is_none (hole_takes deferred_column table s tracker i)
marked_takes_none table s (as_fields None) i = marked_field_takes_none table s None _
marked_takes_none table s (as_fields (Some k)) i = marked_field_takes_none table s (Some k) _
marked_takes_none table s _ i = refl

hole_lacks : (hooks : Meanings) (table : Table) (s : ℕ) (tracker : Tracker) (i : ℕ)
    → is_none (valid_child hooks table s tracker i (hole_takes deferred_column table s tracker i))
    ≡ lacks false (unmet_mark table s tracker i)
    (unless_there (hole_takes deferred_column table s tracker i) (missing_child s tracker i))
    (failing_child hooks table s tracker i (hole_takes deferred_column table s tracker i))
hole_lacks hooks table s tracker i =
    none_valid hooks table s tracker i (hole_takes deferred_column table s tracker i) ∙ go _ _ _ (marked_takes_none table s tracker i)
  where
    go : (takes : Option Val) (unmet failing : Option ReflectErrorKind) → (is_some unmet || is_none takes) ≡ is_none takes
        → (is_none takes || is_some failing) ≡ lacks false unmet (unless_there takes (missing_child s tracker i)) failing
    go (Some v) (Some kind) failing e = cc
    go (Some v) None (Some other) e = refl
    go (Some v) None None e = refl
    go None (Some kind) (Some other) e = refl
    go None (Some kind) None e = refl
    go None None (Some other) e = refl
    go None None None e = refl

child_lacks : (hooks : Meanings) (table : Table) (s : ℕ) (tracker : Tracker) (i : ℕ) (value : Option Val) (failed : Bool)
    → is_none value ≡ failed → is_none (valid_child hooks table s tracker i value)
    ≡ lacks failed None None (failing_child hooks table s tracker i value)
child_lacks hooks table s tracker i value failed e =
    none_valid hooks table s tracker i value ∙ ap (λ (b : Bool). b || is_some (failing_child hooks table s tracker i value)) e

-- an entered place is as one that is begun with holes alone

pub holes_complete : (hooks : Meanings) (table : Table) (s n i : ℕ)
    → complete_all deferred_column hooks table s (as_fields None) i (holes n)
    ≡ each_child (λ k. valid_child hooks table s (as_fields None) k (fill_at deferred_column table s k)) n i
holes_complete hooks table s zero i = refl
holes_complete hooks table s (suc n) i = ap (one_more _) (holes_complete hooks table s n (suc i))

holes_lack : (hooks : Meanings) (table : Table) (s n i : ℕ)
    → is_none (complete_all deferred_column hooks table s (as_fields None) i (holes n))
    ≡ lacks false (first_unmet table s (as_fields None) i (holes n)) (first_missing table s (as_fields None) i (holes n))
    (first_invalid hooks table s (as_fields None) i (holes n))
holes_lack hooks table s zero i = refl
holes_lack hooks table s (suc n) i =
    child_and_rest _ _ false _ _ _ false _ _
    (first_invalid hooks table s (as_fields None) (suc i) (holes n)) (hole_lacks hooks table s (as_fields None) i)
    (holes_lack hooks table s n (suc i))

pub entered_lacks : (hooks : Meanings) (table : Table) (s : ℕ)
    → is_none (complete deferred_column hooks table s entered) ≡ is_some (own_lack hooks table s entered)
entered_lacks hooks table s =
    made_or_lacks _ _ _ _ _ (no_made (as_fields None) (each_child (λ k. valid_child hooks table s (as_fields None) k _) _ 0)
    ∙ ap (λ (values : Option Vals). is_none values) (sym (holes_complete hooks table s _ 0))
    ∙ holes_lack hooks table s (child_count table s) 0)

-- places and their children

-- a child that isn't a hole
failing_rest : (hooks : Meanings) (table : Table) (s : ℕ) (tracker : Tracker) (i : ℕ) (value : Option Val) (ts : Trees)
    (path : List PathStep) (here : List Failure) → is_none value ≡ not (is_nil here)
    → is_none (complete_all deferred_column hooks table s tracker (suc i) ts)
    ≡ lacks (not (is_nil (failures_among hooks table s tracker (suc i) path ts))) (first_unmet table s tracker (suc i) ts)
    (first_missing table s tracker (suc i) ts) (first_invalid hooks table s tracker (suc i) ts)
    → is_none (one_more (valid_child hooks table s tracker i value) (complete_all deferred_column hooks table s tracker (suc i) ts))
    ≡ lacks (not (is_nil (here ++ failures_among hooks table s tracker (suc i) path ts)))
    (first_unmet table s tracker (suc i) ts) (first_missing table s tracker (suc i) ts)
    (option_or (failing_child hooks table s tracker i value) (first_invalid hooks table s tracker (suc i) ts))
failing_rest hooks table s tracker i value ts path here e rest =
    child_and_rest _ _ _ None None _ _ _ _ _ (child_lacks hooks table s tracker i value (not (is_nil here)) e) rest
    ∙ ap (λ (failed : Bool). lacks failed (first_unmet table s tracker (suc i) ts) (first_missing table s tracker (suc i) ts)
    (option_or (failing_child hooks table s tracker i value) (first_invalid hooks table s tracker (suc i) ts)))
    (sym (joined_there here (failures_among hooks table s tracker (suc i) path ts)))

mutual
  -- what isn't a hole makes no value exactly where something fails in it
  pub completes_or_fails : (hooks : Meanings) (table : Table) (s : ℕ) (path : List PathStep) (t : Tree)
      → is_none (closed hooks table s t) ≡ not (is_nil (failures hooks table s path t))
  completes_or_fails hooks table s path entered =
      none_mapped whole (complete deferred_column hooks table s entered) ∙ entered_lacks hooks table s
      ∙ sym (failure_there path (own_lack hooks table s entered))
  completes_or_fails hooks table s path (begun tracker ts) =
      none_mapped whole (complete deferred_column hooks table s (begun tracker ts))
      ∙ no_made tracker (complete_all deferred_column hooks table s tracker 0 ts)
      ∙ all_complete_or_fail hooks table s tracker 0 path ts
      ∙ sym (itself_there (failures_among hooks table s tracker 0 path ts) (failing_path tracker path) (lack_of_begun hooks table s tracker ts))
  completes_or_fails hooks table s path _ = refl

  pub all_complete_or_fail : (hooks : Meanings) (table : Table) (s : ℕ) (tracker : Tracker) (i : ℕ) (path : List PathStep)
      (ts : Trees) → is_none (complete_all deferred_column hooks table s tracker i ts)
      ≡ lacks (not (is_nil (failures_among hooks table s tracker i path ts))) (first_unmet table s tracker i ts)
      (first_missing table s tracker i ts) (first_invalid hooks table s tracker i ts)
  all_complete_or_fail hooks table s tracker i path no_trees = refl
  all_complete_or_fail hooks table s tracker i path (branch hole ts) =
      child_and_rest _ (complete_all deferred_column hooks table s tracker (suc i) ts) false (unmet_mark table s tracker i) _ _ _
      (first_unmet table s tracker (suc i) ts) (first_missing table s tracker (suc i) ts) (first_invalid hooks table s tracker (suc i) ts)
      (hole_lacks hooks table s tracker i) (all_complete_or_fail hooks table s tracker (suc i) path ts)
  all_complete_or_fail hooks table s tracker i path (branch t ts) =
      failing_rest hooks table s tracker i (complete deferred_column hooks table (child_as table s tracker i) t) ts path
      (failures hooks table (child_as table s tracker i) (path ++ step_as tracker i ∷ []) t)
      (sym (none_mapped whole (complete deferred_column hooks table (child_as table s tracker i) t))
      ∙ completes_or_fails hooks table (child_as table s tracker i) (path ++ step_as tracker i ∷ []) t)
      (all_complete_or_fail hooks table s tracker (suc i) path ts)
