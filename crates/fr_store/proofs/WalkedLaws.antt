-- Laws of a walk, for proofs: it begins, goes on by a turn, is refused, or comes to its end.
use Rattle.std.proofs.Common.{◌≡◌, ◌≢◌, ◌⊎◌, ◌+◌, ◌<◌, drop, length, ℕ, true, false, List, [], ◌∷◌, ◌++◌, append-nil, append_assoc, get_or, Some, None, inl, inr, refl, sym, ◌∙◌, ap, subst}
use Rattle.fr_store.specs.Common.{All, AreInWalkOrder, AreStoredAt, Contains, EachFailureHasItsPlace, Failure, FinishesOrRefuses, FirstByWalkIs, HasPlace, HasTurned, IsChecked, IsHeldUp, IsLackingAt, IsLawful, IsOpen, IsStoredAt, IsSuited, IsWalk, KeepsTheRest, LackingFails, LeadsUnstored, MayTurn, Meanings, Place, Plan, ReflectErrorKind, Slot, StoppedByTurns, Table, Tree, Val, Walked, change_at, closed_at, cursor_in, deferred_column, done_at, failures_off, finished, first_by_walk, heap_of, kind_of, leads_reach, marked, own_lack, root_shape, same_or_other, shape_in, steps_in, stored_in, tree_at, tree_in_slots, turn_of, whole}
use Rattle.std.proofs.lemmas.List.{drop_more}
use Rattle.std.proofs.lemmas.List.Elements.{All-tail, Contains-get_or}
use Rattle.fr_model.specs.Complete.{complete}
use Rattle.fr_model.specs.Finish.{finish_cause}
use Rattle.fr_model.specs.FinishLaws.{ClosingKeepsFailuresOff}
use Rattle.fr_model.specs.Laws.{CompletesOrFails, CompletingFits}
use Rattle.fr_store.proofs.ClosingLaws.{stays}
use Rattle.fr_store.specs.Turning.{kid_here, next_place}
use Rattle.fr_store.specs.Turns.{CompletesAsBefore, KeepThoseLeft, Turned}
use Rattle.fr_store.proofs.DueLaws.{done_has, due, head as due_head, left_next, only_here, suits_next}
use Rattle.fr_store.proofs.HeadLaws.{Head, stored_among}
use Rattle.fr_store.proofs.HeldLaws.{first_fails, held_by_first, leads_deferred}
use Rattle.fr_store.proofs.OffLaws.{reach_place}

-- Turns, one after another.

pub as_before_again : {means : Meanings} {table : Table} {s : ℕ} {before now next : Tree} {place : Place}
    → CompletesAsBefore means table s before now place → CompletesAsBefore means table s now next place
    → CompletesAsBefore means table s before next place
as_before_again first second = record {
  value = second.value ∙ first.value;
  failing = λ path. second.failing path ∙ first.failing path;
}

-- what is stored after a turn was stored before
still_marked : {means : Meanings} {table : Table} {plan : Plan} {before : List Slot} {stack : List ℕ} {after : List Slot} {n : ℕ}
    → HasTurned means table plan before stack after n → (m : ℕ) → marked (heap_of after) m ≡ true → marked (heap_of before) m ≡ true
still_marked {before = before} {after = after} {n = n} turned m is = go (same_or_other m n)
  where
    go : (m ≡ n) ⊎ (m ≢ n) → marked (heap_of before) m ≡ true
    go (inl e) =
        let none : false ≡ true = sym (ap stored_in turned.free) ∙ ap (marked (heap_of after)) (sym e) ∙ is in
        absurd (cc)
    go (inr ne) = sym (turned.marks m ne) ∙ is

module _ (means : Meanings) (table : Table) (s : ℕ) where
  -- what stands at the place that is done at the turn of this one makes this value
  abbrev Makes : Tree → Place → Val → Type 0
  Makes tree place v =
      complete deferred_column means table (shape_in table s (done_at place tree) tree) (tree_at (done_at place tree) tree) ≡ Some v

  -- the tree once the place that is done at the turn of this one is whole with the value
  abbrev with_done : Place → Val → Tree → Tree
  with_done place v tree = change_at (done_at place tree) (λ old. whole v) tree

  -- one place more had its turn
  turned_more : (before : Tree) (done : List Place) (now : Tree) (place : Place) (v : Val) (next : Tree)
      → Turned means table s before done now → Makes now place v → next ≡ with_done place v now
      → Turned means table s before (done ++ place ∷ []) next
  turned_more before [] now place v next turned makes is = (
    v,
    subst (λ (t : Tree). Makes t place v) turned makes,
    is ∙ ap (with_done place v) turned,
  )
  turned_more before (first ∷ done) now place v next turned makes is =
      (turned.0, turned.1, turned_more (with_done first turned.0 before) done now place v next turned.2 makes is)

  module _ (start : Tree) where
    -- of the places that are left each completes as at the start
    kept_now : (before : Tree) (done left : List Place) (now : Tree) → KeepThoseLeft means table s start before done left
        → Turned means table s before done now → All (CompletesAsBefore means table s start now) left
    kept_now before [] left now kept turned =
        subst (λ (t : Tree). All (CompletesAsBefore means table s start t) left) (sym turned) kept
    kept_now before (first ∷ done) left now kept turned =
        kept_now (with_done first turned.0 before) done left now (kept.1 turned.0 turned.1) turned.2

    -- so it is after one turn more
    kept_more : (before : Tree) (done left : List Place) (now : Tree) (place : Place) (v : Val) (next : Tree)
        → KeepThoseLeft means table s start before done (place ∷ left) → Turned means table s before done now → Makes now place v
        → next ≡ with_done place v now → All (CompletesAsBefore means table s start next) left
        → KeepThoseLeft means table s start before (done ++ place ∷ []) left
    kept_more before [] left now place v next kept turned makes is after = (
      kept,
      λ w same.
          let both : Some w ≡ Some v = sym same ∙ subst (λ (t : Tree). Makes t place v) turned makes in
          let value : w ≡ v = cc in
          subst (λ (t : Tree). All (CompletesAsBefore means table s start t) left)
          (is ∙ ap (λ (x : Val). with_done place x now) (sym value) ∙ ap (with_done place w) turned) after,
    )
    kept_more before (first ∷ done) left now place v next kept turned makes is after = (
      subst (λ (l : List Place). All (CompletesAsBefore means table s start before) (first ∷ l))
          (sym (append_assoc done (place ∷ []) left)) kept.0,
      λ w same.
          let both : Some turned.0 ≡ Some w = sym turned.1 ∙ same in
          let value : turned.0 ≡ w = cc in
          subst (λ (x : Val). KeepThoseLeft means table s start (with_done first x before) (done ++ place ∷ []) left)
          value (kept_more (with_done first turned.0 before) done left now place v next
          (kept.1 turned.0 turned.1) turned.2 makes is after),
    )

module _ {means : Meanings} {table : Table} {plan : Plan} {before : List Slot} {stack : List ℕ} where
  -- the walk begins
  pub walk_begins : {walk : List ℕ} → IsOpen plan before stack → IsSuited table (root_shape plan) (tree_in_slots before stack)
      → IsWalk (kid_here before stack) walk → Walked means table plan before stack before walk walk
  walk_begins open_now suits first = record {
    first = first;
    still = open_now;
    cursor = refl;
    suits = suits;
    left = first;
    done = [];
    split = refl;
    turned = refl;
    kept = λ i d h. record { value = refl; failing = λ path. refl };
    here = record { value = refl; failing = λ path. refl };
    path = refl;
    finish = refl;
    failing = λ path. refl;
    marks = λ n is. is;
  }

  -- it stopped at the first place that is left, at whose turn something is lacking
  pub stopped_at : {now : List Slot} {walk rest : List ℕ} (walked : Walked means table plan before stack now walk rest)
      {kind : ReflectErrorKind} (here : Place)
      → turn_of here (tree_in_slots now stack) ≡ next_place walked.left.places (cursor_in before stack)
      → own_lack means table (shape_in table (root_shape plan) here (tree_in_slots now stack)) (tree_at here (tree_in_slots now stack))
      ≡ Some kind → StoppedByTurns means table plan before stack kind
  stopped_at {now} {walk} walked here turn lacks = record {
    done = walked.done;
    left = walked.left.places;
    order = subst (AreInWalkOrder (tree_in_slots before stack)) walked.split walked.first.order;
    all = λ slot place stored. subst (λ (l : List Place). Contains l place) walked.split (walked.first.all slot place stored);
    each = λ place found. stored_among (kid_here before stack) walk walked.first.places place walked.first.stored
        (subst (λ (l : List Place). Contains l place) (sym walked.split) found);
    tree = tree_in_slots now stack;
    turned = walked.turned;
    kept = walked.kept;
    here = here;
    turn = turn;
    lacks = lacks;
  }

  -- the next place of the walk
  pub walk_next : {now : List Slot} (walk : List ℕ) (i : ℕ) → i < length walk → Walked means table plan before stack now walk (drop i walk)
      → Walked means table plan before stack now walk (get_or walk i 0 ∷ drop (i + 1) walk)
  walk_next {now} walk i h walked = subst (Walked means table plan before stack now walk) (drop_more walk i 0 h) walked

  module _ {now : List Slot} {walk rest : List ℕ} {n : ℕ} (walked : Walked means table plan before stack now walk (n ∷ rest)) where
    abbrev head : Head (kid_here now stack) n rest walked.left.places
    head = due_head walked.still [] (cursor_in now stack) refl walked.left

    -- the next place may have its turn
    pub head_due : MayTurn now stack n
    head_due = due walked.still [] (cursor_in now stack) refl walked.left

    -- there is no other place in its slot
    same_place : (place : Place) → IsStoredAt (kid_here now stack) n place → place ≡ head.place
    same_place place stored = only_here walked.still [] (cursor_in now stack) refl walked.left place stored

    abbrev start : Tree
    start = tree_in_slots before stack

    abbrev tree : Tree
    tree = tree_in_slots now stack

    abbrev cursor : Place
    cursor = cursor_in before stack

    abbrev AsBefore : Tree → Tree → Place → Type 0
    AsBefore one other place = CompletesAsBefore means table (root_shape plan) one other place

    abbrev Keeps : (done left : List Place) → Type 0
    Keeps done left = KeepThoseLeft means table (root_shape plan) start start done left

    -- it had its turn
    pub walk_goes_on : CompletingFits → IsLawful means → IsChecked table → {next : List Slot} → HasTurned means table plan now stack next n
        → KeepsTheRest means table plan now stack next → Walked means table plan before stack next walk rest
    walk_goes_on fitting lawful checked {next} turned keeps = record {
      first = walked.first;
      still = turned.stands.open_still;
      cursor = turned.stands.cursor ∙ walked.cursor;
      suits = suits_next walked.still [] (cursor_in now stack) refl walked.left turned fitting lawful checked walked.suits;
      left = on.0;
      done = walked.done ++ head.place ∷ [];
      split =
          walked.split ∙ ap (λ (ps : List Place). walked.done ++ ps) head.is
          ∙ sym (append_assoc walked.done (head.place ∷ []) head.places)
          ∙ ap (λ (ps : List Place). (walked.done ++ head.place ∷ []) ++ ps) (sym on.1);
      turned =
          turned_more means table (root_shape plan) start walked.done tree head.place turned.value (tree_in_slots next stack)
          walked.turned makes next_is;
      kept =
          subst (Keeps (walked.done ++ head.place ∷ [])) (sym on.1)
          (kept_more means table (root_shape plan) start start walked.done head.places tree head.place turned.value
          (tree_in_slots next stack) kept_head walked.turned makes next_is as_before);
      here = as_before_again walked.here (subst (AsBefore tree (tree_in_slots next stack)) walked.cursor keeps.cursor);
      path = steps_on ∙ walked.path;
      finish =
          subst (λ (p : Place). finished means table (root_shape plan) p (tree_in_slots next stack)
          ≡ finished means table (root_shape plan) p tree) walked.cursor keeps.finish ∙ walked.finish;
      failing = λ path. subst (λ (p : Place). failures_off means table (root_shape plan) path p (tree_in_slots next stack)
          ≡ failures_off means table (root_shape plan) path p tree) walked.cursor (keeps.failing path) ∙ walked.failing path;
      marks = λ m is. walked.marks m (still_marked turned m is);
    }
      where
        same : turned.place ≡ head.place
        same = same_place turned.place turned.stored

        on : (left : IsWalk (kid_here next stack) rest) × (left.places ≡ head.places)
        on = left_next walked.still [] (cursor_in now stack) refl walked.left turned

        makes : Makes means table (root_shape plan) tree head.place turned.value
        makes = subst (λ (p : Place). Makes means table (root_shape plan) tree p turned.value) same turned.meant

        next_is : tree_in_slots next stack ≡ with_done means table (root_shape plan) head.place turned.value tree
        next_is =
            turned.stands.built ∙ ap (λ (p : Place). with_done means table (root_shape plan) p turned.value tree) same

        kept_head : Keeps walked.done (head.place ∷ head.places)
        kept_head = subst (Keeps walked.done) head.is walked.kept

        -- those that are still left complete as before this turn, and so as at the start
        as_before : All (AsBefore start (tree_in_slots next stack)) head.places
        as_before i d h =
            let place : Place = get_or head.places i d in
            let first = All-tail (AsBefore start tree) head.place head.places
            (kept_now means table (root_shape plan) start start walked.done (head.place ∷ head.places) tree kept_head
            walked.turned) in
            let lies = stored_among (kid_here next stack) rest head.places place
            (subst (λ (l : List Place). AreStoredAt (kid_here next stack) rest l) on.1 on.0.stored)
            (Contains-get_or head.places i d h) in
            as_before_again (first i d h) (keeps.still lies.0 place lies.1)

        -- the cursor's place is one of the tree still, and the same steps lead there
        has_cursor : HasPlace cursor (closed_at (done_at turned.place tree) turned.value tree)
        has_cursor =
            subst (λ (t : Tree). HasPlace cursor t) turned.stands.built (reach_place cursor (kid_here next stack)
            (leads_reach cursor [] (kid_here next stack) (subst (λ (p : Place). LeadsUnstored p (kid_here next stack))
            (turned.stands.cursor ∙ walked.cursor ∙ sym (append-nil cursor)) turned.stands.open_still.stands.leads)))

        steps_on : steps_in cursor (tree_in_slots next stack) ≡ steps_in cursor tree
        steps_on =
            ap (steps_in cursor) turned.stands.built ∙ (stays (done_at turned.place tree) cursor turned.value tree
            (done_has walked.still [] (cursor_in now stack) refl walked.left turned) has_cursor).steps

    -- something is lacking at its turn
    module _ {kind : ReflectErrorKind} (lacks : IsLackingAt means table plan now stack n kind) where
      turn_first : turn_of lacks.here tree ≡ head.place
      turn_first = lacks.turn ∙ same_place lacks.place lacks.stored

      -- it is what fails first
      pub walk_held_up : EachFailureHasItsPlace → LackingFails → ClosingKeepsFailuresOff → CompletesOrFails → FirstByWalkIs
          → FinishesOrRefuses → IsOpen plan before stack → IsHeldUp means table plan before stack kind
      walk_held_up each lacking closing fails_all first refuses open_first = record { unfinished = held.0; cause = held.1 }
        where
          fails : kind_of (first_by_walk (failures_off means table (root_shape plan) [] (cursor_in now stack) tree)) ≡ Some kind
          fails =
              ap kind_of (first_fails means table (root_shape plan) [] (kid_here now stack) (cursor_in now stack)
              walked.still.stands.leads walked.still.stands.left walked.suits.suits n rest walked.left head lacks.here turn_first kind
              lacks.incomplete lacks.lacks each lacking closing fails_all first)

          as_at_first : failures_off means table (root_shape plan) [] (cursor_in now stack) tree
              ≡ failures_off means table (root_shape plan) [] cursor start
          as_at_first =
              ap (λ (p : Place). failures_off means table (root_shape plan) [] p tree) walked.cursor ∙ walked.failing []

          held : (finished means table (root_shape plan) cursor start ≡ None)
              × (kind ≡ finish_cause means table (root_shape plan) cursor start)
          held =
              held_by_first refuses means table (root_shape plan) cursor start kind
              (leads_deferred 0 cursor (kid_here before stack) open_first.stands.leads)
              (ap (λ (fs : List Failure). kind_of (first_by_walk fs)) (sym as_at_first) ∙ fails)

      -- there it stopped
      pub walk_stopped : StoppedByTurns means table plan before stack kind
      walk_stopped =
          stopped_at walked lacks.here (turn_first ∙ sym (ap (λ (l : List Place). next_place l cursor) head.is)) lacks.lacks
