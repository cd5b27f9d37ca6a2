-- Laws of trees in which a place becomes whole, for proofs: what the other places are then.
use Rattle.std.proofs.Common.{◌≡◌, ◌≢◌, ◌⊎◌, ℕ, zero, suc, ◌+◌, ◌<◌, List, [], ◌∷◌, ◌++◌, Option, Some, None, inl, inr, refl, sym, ◌∙◌, ap, subst, arith}
use Rattle.fr_store.specs.Below.{AllConversionsSuit, AreEntries, AreTouched, Closes, ClosingKeepsCompletion, ClosingKeepsFailures, ContentKind, ConversionsSuit, EntriesKind, HasPlace, IsBegunAs, IsBegunRightly, IsContent, IsTouched, ItemsKind, Meanings, PathStep, Place, SuitAll, Suits, Table, Tracker, Tree, Trees, Val, as_content, as_elements, as_entries, as_fields, as_items, begun, branch, change_at, change_nth, child_as, child_tree, closed_at, complete, count_trees, def_of, deferred_column, failures, field_as, no_trees, shape_below, shape_in, shapes_from, step_as, steps_in, tree_at, tree_nth, whole}
use Rattle.fr_shape.specs.declared.shape.Field.{Field}
use Rattle.fr_store.specs.ShapeLaws.{suits_nth}
use Rattle.fr_store.specs.Suited.{IsSuited}
use Rattle.fr_store.specs.Turns.{CompletesAsBefore}
use Rattle.fr_store.specs.WayLaws.{same_or_other}

-- Children of one place.

pub nth_changed : (i : ℕ) (change : Tree → Tree) (ts : Trees) → i < count_trees ts
    → tree_nth i (change_nth i change ts) ≡ change (tree_nth i ts)
nth_changed i change no_trees h = absurd (omega arith)
nth_changed zero change (branch t ts) h = refl
nth_changed (suc i) change (branch t ts) h = nth_changed i change ts (omega arith)

nth_beside : (i j : ℕ) (change : Tree → Tree) (ts : Trees) → i ≢ j → tree_nth j (change_nth i change ts) ≡ tree_nth j ts
nth_beside i j change no_trees ne = refl
nth_beside zero zero change (branch t ts) ne = absurd (ne refl)
nth_beside zero (suc j) change (branch t ts) ne = refl
nth_beside (suc i) zero change (branch t ts) ne = refl
nth_beside (suc i) (suc j) change (branch t ts) ne = nth_beside i j change ts (λ e. ne (ap suc e))

pub count_changed : (i : ℕ) (change : Tree → Tree) (ts : Trees) → count_trees (change_nth i change ts) ≡ count_trees ts
count_changed i change no_trees = refl
count_changed zero change (branch t ts) = refl
count_changed (suc i) change (branch t ts) = ap suc (count_changed i change ts)

-- Ways in two parts.

pub tree_append : (other way : Place) (t : Tree) → tree_at (other ++ way) t ≡ tree_at way (tree_at other t)
tree_append [] way t = refl
tree_append (i ∷ other) way t = tree_append other way (child_tree i t)

pub shape_append : (table : Table) (s : ℕ) (other way : Place) (t : Tree)
    → shape_in table s (other ++ way) t ≡ shape_in table (shape_in table s other t) way (tree_at other t)
shape_append table s [] way t = refl
shape_append table s (i ∷ other) way t = shape_append table (shape_below table s i t) other way (child_tree i t)

-- a place that makes a value is no hole, and closes with it
pub closes_with : (hooks : Meanings) (table : Table) (s : ℕ) (here : Place) {v : Val} (tree : Tree)
    → HasPlace here tree → complete deferred_column hooks table (shape_in table s here tree) (tree_at here tree) ≡ Some v
    → Closes hooks table s here v tree
closes_with hooks table s here {v} tree place makes = record {
  place = place;
  there = λ e.
      let none : None ≡ Some v = sym (ap (complete deferred_column hooks table (shape_in table s here tree)) e) ∙ makes in
      cc;
  makes = makes;
}

-- Another place, where one became whole.

-- it lies above that one, or is it
pub record LiesAbove (here other : Place) (v : Val) (tree : Tree) : Type 0 where
  pub way : Place
  pub is : here ≡ other ++ way
  pub has : HasPlace way (tree_at other tree)
  pub closes : tree_at other (closed_at here v tree) ≡ closed_at way v (tree_at other tree)

-- or the same stands there as before
abbrev pub Lies : (here other : Place) → Val → Tree → Type 0
Lies here other v tree = (tree_at other (closed_at here v tree) ≡ tree_at other tree) ⊎ LiesAbove here other v tree

-- Either way it has the shape that it had, and the same steps lead there.
pub record Stays (here other : Place) (v : Val) (tree : Tree) : Type 0 where
  pub lies : Lies here other v tree
  pub shape : (table : Table) (s : ℕ) → shape_in table s other (closed_at here v tree) ≡ shape_in table s other tree
  pub steps : steps_in other (closed_at here v tree) ≡ steps_in other tree

pub stays : (here other : Place) (v : Val) (tree : Tree) → HasPlace here tree → HasPlace other (closed_at here v tree)
    → Stays here other v tree
stays here [] v tree has still = record {
  lies = inr (record { way = here; is = refl; has = has; closes = refl });
  shape = λ table s. refl;
  steps = refl;
}
stays [] (j ∷ other) v tree has still = absurd still
stays (i ∷ here) (j ∷ other) v (begun tracker ts) has still =
    go (same_or_other i j) (λ e. stays here other v (tree_nth j ts) (subst (λ (n : ℕ). HasPlace here (tree_nth n ts)) e has.1)
    (subst (λ (t : Tree). HasPlace other t) (on_the_way e) still.1))
  where
    on_the_way : i ≡ j → tree_nth j (change_nth i (λ t. closed_at here v t) ts) ≡ closed_at here v (tree_nth j ts)
    on_the_way e =
        subst (λ (n : ℕ). tree_nth n (change_nth i (λ t. closed_at here v t) ts) ≡ closed_at here v (tree_nth n ts)) e
        (nth_changed i (λ t. closed_at here v t) ts has.0)

    up : i ≡ j → Lies here other v (tree_nth j ts) → Lies (i ∷ here) (j ∷ other) v (begun tracker ts)
    up e (inl same) = inl (ap (tree_at other) (on_the_way e) ∙ same)
    up e (inr above) =
        inr
        (record {
          way = above.way;
          is = ap (λ (p : Place). i ∷ p) above.is ∙ ap (λ (n : ℕ). n ∷ other ++ above.way) e;
          has = above.has;
          closes = ap (tree_at other) (on_the_way e) ∙ above.closes;
        })

    go : (i ≡ j) ⊎ (i ≢ j) → (i ≡ j → Stays here other v (tree_nth j ts)) → Stays (i ∷ here) (j ∷ other) v (begun tracker ts)
    go (inl e) below =
        let child = below e in
        record {
          lies = up e child.lies;
          shape = λ table s. ap (shape_in table (child_as table s tracker j) other) (on_the_way e)
              ∙ child.shape table (child_as table s tracker j);
          steps = ap (λ (steps : List PathStep). step_as tracker j ∷ steps) (ap (steps_in other) (on_the_way e) ∙ child.steps);
        }
    go (inr ne) below =
        let beside = nth_beside i j (λ t. closed_at here v t) ts ne in
        record {
          lies = inl (ap (tree_at other) beside);
          shape = λ table s. ap (shape_in table (child_as table s tracker j) other) beside;
          steps = ap (λ (steps : List PathStep). step_as tracker j ∷ steps) (ap (steps_in other) beside);
        }
stays (i ∷ here) (j ∷ other) v _ has still = absurd has

-- what stands there completes as before
pub completes_still : ClosingKeepsCompletion → ClosingKeepsFailures → {hooks : Meanings} {table : Table} {s : ℕ} {here : Place}
    (other : Place) {v : Val} {tree : Tree} → Closes hooks table s here v tree → HasPlace other (closed_at here v tree)
    → CompletesAsBefore hooks table s tree (closed_at here v tree) other
completes_still completion failing {hooks} {table} {s} {here} other {v} {tree} closing has
    = go (stays here other v tree closing.place has).lies
  where
    shape : shape_in table s other (closed_at here v tree) ≡ shape_in table s other tree
    shape = (stays here other v tree closing.place has).shape table s

    go : Lies here other v tree → CompletesAsBefore hooks table s tree (closed_at here v tree) other
    go (inl same) = record {
      value =
          ap (λ (n : ℕ). complete deferred_column hooks table n (tree_at other (closed_at here v tree))) shape
          ∙ ap (complete deferred_column hooks table (shape_in table s other tree)) same;
      failing = λ path. ap (λ (n : ℕ). failures hooks table n path (tree_at other (closed_at here v tree))) shape
          ∙ ap (failures hooks table (shape_in table s other tree) path) same;
    }
    go (inr above) =
        let at : tree_at here tree ≡ tree_at above.way (tree_at other tree)
        = ap (λ (p : Place). tree_at p tree) above.is ∙ tree_append other above.way tree in
        let of : shape_in table s here tree ≡ shape_in table (shape_in table s other tree) above.way (tree_at other tree)
        = ap (λ (p : Place). shape_in table s p tree) above.is ∙ shape_append table s other above.way tree in
        let part : Closes hooks table (shape_in table s other tree) above.way v (tree_at other tree) = record {
          place = above.has;
          there = λ e. closing.there (at ∙ e);
          makes =
              ap (λ (n : ℕ). complete deferred_column hooks table n (tree_at above.way (tree_at other tree))) (sym of)
              ∙ ap (complete deferred_column hooks table (shape_in table s here tree)) (sym at) ∙ closing.makes;
        } in
        record {
          value =
              ap (λ (n : ℕ). complete deferred_column hooks table n (tree_at other (closed_at here v tree))) shape
              ∙ ap (complete deferred_column hooks table (shape_in table s other tree)) above.closes
              ∙ completion hooks table (shape_in table s other tree) above.way v (tree_at other tree) part;
          failing = λ path. ap (λ (n : ℕ). failures hooks table n path (tree_at other (closed_at here v tree))) shape
              ∙ ap (failures hooks table (shape_in table s other tree) path) above.closes
              ∙ failing hooks table (shape_in table s other tree) path above.way v (tree_at other tree) part;
        }

-- Shapes.

suit_all : (table : Table) (s : ℕ) (tracker : Tracker) (first i m : ℕ) (change : Tree → Tree) (ts : Trees) → m ≡ first + i
    → SuitAll table (shapes_from table s tracker (count_trees ts) first) ts
    → (Suits table (child_as table s tracker m) (tree_nth i ts) → Suits table (child_as table s tracker m) (change (tree_nth i ts)))
    → SuitAll table (shapes_from table s tracker (count_trees (change_nth i change ts)) first) (change_nth i change ts)
suit_all table s tracker first i m change no_trees e all step = tt
suit_all table s tracker first zero m change (branch t ts) e all step =
    let same : m ≡ first = omega arith in (
      subst (λ (n : ℕ). Suits table (child_as table s tracker n) (change t)) same
          (step (subst (λ (n : ℕ). Suits table (child_as table s tracker n) t) (sym same) all.0)),
      all.1,
    )
suit_all table s tracker first (suc i) m change (branch t ts) e all step =
    (all.0, suit_all table s tracker (suc first) i m change ts (omega arith) all.1 step)

-- what stands at a place suits its shape
pub suits_at : (table : Table) (s : ℕ) (place : Place) (tree : Tree) → HasPlace place tree → Suits table s tree
    → Suits table (shape_in table s place tree) (tree_at place tree)
suits_at table s [] tree has suits = suits
suits_at table s (i ∷ place) (begun tracker ts) has suits =
    suits_at table (child_as table s tracker i) place (tree_nth i ts) has.1
    (suits_nth table s tracker 0 ts i i (omega arith) has.0 suits.1)
suits_at table s (i ∷ place) _ has suits = absurd has

-- where something stands at a place, something stands above it
touched_change : (place : Place) (new tree : Tree) → HasPlace place tree → IsTouched new
    → IsTouched (change_at place (λ old. new) tree)
touched_change [] new tree has touched = touched
touched_change (i ∷ place) new (begun tracker ts) has touched = tt
touched_change (i ∷ place) new _ has touched = absurd has

content_change : (i : ℕ) (change : Tree → Tree) (ts : Trees) → IsTouched (change (tree_nth i ts)) → IsContent ts
    → IsContent (change_nth i change ts)
content_change i change no_trees touched content = content
content_change zero change (branch t ts) touched content = touched
content_change (suc i) change (branch t ts) touched content = content

-- and none of the children becomes a hole
all_touched_change : (i : ℕ) (change : Tree → Tree) (ts : Trees) → IsTouched (change (tree_nth i ts)) → AreTouched ts
    → AreTouched (change_nth i change ts)
all_touched_change i change no_trees touched all = all
all_touched_change zero change (branch t ts) touched all = (touched, all.1)
all_touched_change (suc i) change (branch t ts) touched all = (all.0, all_touched_change i change ts touched all.1)

-- nor a key, nor a value
entries_change : (i : ℕ) (change : Tree → Tree) (ts : Trees) → IsTouched (change (tree_nth i ts)) → AreEntries ts
    → AreEntries (change_nth i change ts)
entries_change i change no_trees touched all = all
entries_change i change (branch key no_trees) touched all = absurd all
entries_change zero change (branch key (branch value no_trees)) touched all = touched
entries_change (suc zero) change (branch key (branch value no_trees)) touched all = all
entries_change (suc (suc i)) change (branch key (branch value no_trees)) touched all = all
entries_change zero change (branch key (branch value (branch next rest))) touched all = (touched, all.1, all.2)
entries_change (suc zero) change (branch key (branch value (branch next rest))) touched all = (all.0, touched, all.2)
entries_change (suc (suc zero)) change (branch key (branch value (branch next rest))) touched all =
    (all.0, all.1, entries_change zero change (branch next rest) touched all.2)
entries_change (suc (suc (suc i))) change (branch key (branch value (branch next rest))) touched all =
    (all.0, all.1, entries_change (suc i) change (branch next rest) touched all.2)

rightly_change : (table : Table) (s : ℕ) (tracker : Tracker) (i : ℕ) (change : Tree → Tree) (ts : Trees)
    → IsTouched (change (tree_nth i ts)) → IsBegunRightly table s tracker ts → IsBegunRightly table s tracker (change_nth i change ts)
rightly_change table s (as_fields None) i change ts touched rightly = tt
rightly_change table s as_elements i change ts touched rightly = tt
rightly_change table s (as_fields (Some k)) i change ts touched rightly = rightly
rightly_change table s (as_content ContentKind.Pointer) i change ts touched rightly = (content_change i change ts touched rightly.0, rightly.1)
rightly_change table s (as_content (ContentKind.Source conversion)) i change ts touched rightly =
    (content_change i change ts touched rightly.0, rightly.1)
rightly_change table s (as_items ItemsKind.List) i change ts touched rightly = all_touched_change i change ts touched rightly
rightly_change table s (as_items ItemsKind.Slice) i change ts touched rightly = (all_touched_change i change ts touched rightly.0, rightly.1)
rightly_change table s (as_items ItemsKind.ClosedSlice) i change ts touched rightly =
    (all_touched_change i change ts touched rightly.0, rightly.1)
rightly_change table s (as_items ItemsKind.Set) i change ts touched rightly = all_touched_change i change ts touched rightly
rightly_change table s (as_entries (EntriesKind.Map base)) i change ts touched rightly = entries_change i change ts touched rightly
rightly_change table s (as_items ItemsKind.Array) i change ts touched rightly = all_touched_change i change ts touched rightly
rightly_change table s (as_entries (EntriesKind.Object keys)) i change ts touched rightly =
    (all_touched_change i change ts touched rightly.0, rightly.1)
rightly_change table s _ i change ts touched rightly = content_change i change ts touched rightly

-- something else that suits the place's shape is put there
pub suits_change : (table : Table) (s : ℕ) (place : Place) (new tree : Tree) → HasPlace place tree → Suits table s tree
    → IsTouched new → Suits table (shape_in table s place tree) new → Suits table s (change_at place (λ old. new) tree)
suits_change table s [] new tree has suits touched is = is
suits_change table s (i ∷ place) new (begun tracker ts) has suits touched is = (
  subst (λ (n : ℕ). IsBegunAs (def_of table s) tracker n) (sym (count_changed i (λ t. change_at place (λ old. new) t) ts))
      suits.0,
  suit_all table s tracker 0 i i (λ t. change_at place (λ old. new) t) ts (omega arith) suits.1
      (λ child. suits_change table (child_as table s tracker i) place new (tree_nth i ts) has.1 child touched is),
  rightly_change table s tracker i (λ t. change_at place (λ old. new) t) ts
      (touched_change place new (tree_nth i ts) has.1 touched) suits.2,
)
suits_change table s (i ∷ place) new _ has suits touched is = absurd has

-- Conversions.

convert_all : (table : Table) (s : ℕ) (tracker : Tracker) (first i m : ℕ) (change : Tree → Tree) (ts : Trees) → m ≡ first + i
    → AllConversionsSuit table s tracker first ts
    → (ConversionsSuit table (child_as table s tracker m) (field_as (def_of table s) tracker m) (tree_nth i ts)
    → ConversionsSuit table (child_as table s tracker m) (field_as (def_of table s) tracker m) (change (tree_nth i ts)))
    → AllConversionsSuit table s tracker first (change_nth i change ts)
convert_all table s tracker first i m change no_trees e all step = tt
convert_all table s tracker first zero m change (branch t ts) e all step =
    let same : m ≡ first = omega arith in (
      subst (λ (n : ℕ). ConversionsSuit table (child_as table s tracker n) (field_as (def_of table s) tracker n) (change t)) same (step (subst
          (λ (n : ℕ). ConversionsSuit table (child_as table s tracker n) (field_as (def_of table s) tracker n) t) (sym same) all.0)),
      all.1,
    )
convert_all table s tracker first (suc i) m change (branch t ts) e all step =
    (all.0, convert_all table s tracker (suc first) i m change ts (omega arith) all.1 step)

-- where a place becomes whole, each conversion suits its place still
pub converts_closed : (table : Table) (s : ℕ) (field : Option Field) (here : Place) (v : Val) (tree : Tree)
    → ConversionsSuit table s field tree → ConversionsSuit table s field (closed_at here v tree)
converts_closed table s field [] v tree converts = tt
converts_closed table s field (i ∷ here) v (begun tracker ts) converts = (
  converts.0,
  convert_all table s tracker 0 i i (λ t. closed_at here v t) ts (omega arith) converts.1
      (λ child. converts_closed table (child_as table s tracker i) (field_as (def_of table s) tracker i) here v (tree_nth i ts) child),
)
converts_closed table s field (i ∷ here) v _ converts = tt

-- and the tree keeps to what it is to keep to, where the value fits the place's shape
pub suited_closed : (table : Table) (s : ℕ) (here : Place) (v : Val) (tree : Tree) → HasPlace here tree → IsSuited table s tree
    → Suits table (shape_in table s here tree) (whole v) → IsSuited table s (closed_at here v tree)
suited_closed table s here v tree has suited fits = record {
  suits = suits_change table s here (whole v) tree has suited.suits tt fits;
  conversions = converts_closed table s None here v tree suited.conversions;
}
