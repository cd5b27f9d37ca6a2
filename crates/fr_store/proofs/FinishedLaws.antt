-- Laws of the end of deferred mode, for proofs: all stored places had their turn, nothing is stored, and the place at which the
-- builder works is finished.
use Rattle.std.proofs.Common.{◌≡◌, ◌≢◌, ℕ, Bool, true, false, List, [], ◌∷◌, ◌++◌, append-nil, option_map, Some, refl, sym, ◌∙◌, ap, subst}
use Rattle.fr_store.specs.Common.{AreInWalkOrder, Contains, FinishesOrRefuses, HasPlace, IsHeldUp, IsOpen, IsOpenAt, Kid, LacksHere, LeadsUnstored, Meanings, NoneStored, NothingStored, PathStep, Place, Plan, ReflectErrorKind, Slot, StoppedByTurns, Table, Tree, Walked, at, begun_plot, change_at, cursor_in, failures_off, heap_of, hole, is_begun_conversion, kid_at, leads_at, leads_reach, marked, own_lack, root_shape, shape_in, steps_in, stored_here, strict, tree_at, tree_in_slots, tree_of, tree_of_at}
use Rattle.fr_model.specs.FailingLaws.{FinishOfDone, NothingFailsOfDone}
use Rattle.fr_model.specs.Finish.{finished_here}
use Rattle.fr_model.specs.Well.{Leads}
use Rattle.fr_store.specs.WayLaws.{marked_at}
use Rattle.fr_store.specs.Turning.{CameByTurns, FinishedHere, kid_here, next_place}
use Rattle.fr_store.specs.Turns.{IsFinished, KeepThoseLeft}
use Rattle.fr_store.proofs.FailLaws.{fails_itself, none_here, same_lack}
use Rattle.fr_store.proofs.FailTurns.{turn_itself}
use Rattle.fr_store.proofs.PlainLaws.{open_plain}
use Rattle.fr_store.proofs.HeldLaws.{held_by_last, leads_deferred, leads_strict, walk_over}
use Rattle.fr_store.proofs.HeadLaws.{stored_among}
use Rattle.fr_store.proofs.WalkedLaws.{stopped_at}
use Rattle.fr_store.proofs.StoredLaws.{stored_place}
use Rattle.fr_store.proofs.OffLaws.{reach_place}

-- what stands at the end of the way is no hole
leads_there : (place : Place) (k : Kid) → LeadsUnstored place k → tree_at place (tree_of k) ≢ hole
leads_there place k leads e =
    go (kid_at place k) (leads_at place [] k (subst (λ (p : Place). LeadsUnstored p k) (sym (append-nil place)) leads))
    (tree_of_at place k ∙ e)
  where
    go : (x : Kid) → LeadsUnstored [] x → tree_of x ≡ hole → ⊥
    go (at slot stored (begun_plot tracker kids)) l is = cc
    go (at slot stored _) l is = cc
    go _ l is = absurd l

-- All had their turn.
module _ {means : Meanings} {table : Table} {plan : Plan} {before : List Slot} {stack : List ℕ} {now : List Slot} {walk : List ℕ}
    (walked : Walked means table plan before stack now walk []) where
  none_left : walked.left.places ≡ []
  none_left = (walk_over walked.left).0

  none_stored : NoneStored (kid_here now stack)
  none_stored = (walk_over walked.left).1

  -- nothing is marked any more
  pub nothing_left : NothingStored now
  nothing_left n = go (marked (heap_of now) n) refl
    where
      not_stored : (x : Kid) → NoneStored x → stored_here x ≡ true → ⊥
      not_stored (at slot stored plot) all is = let both : false ≡ true = sym all.0 ∙ is in cc
      not_stored _ all is = cc

      go : (mark : Bool) → marked (heap_of now) n ≡ mark → marked (heap_of now) n ≡ false
      go false e = e
      go true e =
          let lies = stored_place walked.still.stands walked.still.all n e in
          absurd (not_stored (kid_at (lies.0 ++ lies.1 ∷ []) (kid_here now stack))
          (marked_at false (lies.0 ++ lies.1 ∷ []) (kid_here now stack) none_stored) lies.3)

  leads_now : LeadsUnstored (cursor_in before stack) (kid_here now stack)
  leads_now = subst (λ (p : Place). LeadsUnstored p (kid_here now stack)) walked.cursor walked.still.stands.leads

  -- none of the children of the place at which the builder works is in a slot, so that it is no conversion
  plain_now : is_begun_conversion (tree_at (cursor_in before stack) (tree_in_slots now stack)) ≡ false
  plain_now =
      subst (λ (p : Place). is_begun_conversion (tree_at p (tree_in_slots now stack)) ≡ false) walked.cursor
      (open_plain walked.still nothing_left table walked.suits.suits)

  strict_now : Leads strict (cursor_in before stack) (tree_in_slots now stack)
  strict_now = leads_strict (cursor_in before stack) (kid_here now stack) plain_now leads_now none_stored

  -- said of the place at which the builder works now, it is of the one at which it worked
  module _ (So : Place → Tree → Type 0) where
    said_now : So (cursor_in now stack) (tree_in_slots now stack) → So (cursor_in before stack) (tree_in_slots now stack)
    said_now so = subst (λ (p : Place). So p (tree_in_slots now stack)) walked.cursor so

  module _ {after : List Slot} (ends : FinishedHere means table plan now stack after) where
    meant_now : finished_here means table (shape_in table (root_shape plan) (cursor_in before stack) (tree_in_slots now stack))
        (tree_at (cursor_in before stack) (tree_in_slots now stack)) ≡ Some ends.tree
    meant_now =
        said_now
        (λ p t. finished_here means table (shape_in table (root_shape plan) p t) (tree_at p t) ≡ Some ends.tree) ends.meant

    stands_now : IsOpenAt plan after stack (cursor_in before stack)
        (change_at (cursor_in before stack) (λ old. ends.tree) (tree_in_slots now stack))
    stands_now = said_now (λ p t. IsOpenAt plan after stack p (change_at p (λ old. ends.tree) t)) ends.stands

    -- the end came about
    pub is_finished : FinishOfDone → IsFinished means table plan before stack after stack
    is_finished done = record {
      tree = change_at (cursor_in before stack) (λ old. ends.tree) (tree_in_slots now stack);
      meant =
          sym walked.finish ∙ done means table (root_shape plan) (cursor_in before stack) (tree_in_slots now stack) strict_now
          ∙ ap (option_map (λ (here : Tree). change_at (cursor_in before stack) (λ old. here) (tree_in_slots now stack)))
          meant_now;
      stands = stands_now;
    }

    all_done : walked.first.places ≡ walked.done
    all_done = walked.split ∙ ap (λ (ps : List Place). walked.done ++ ps) none_left ∙ append-nil walked.done

    -- turn by turn
    pub came_by_turns : CameByTurns means table plan before stack after stack
    came_by_turns = record {
      done = walked.done;
      order = subst (AreInWalkOrder (tree_in_slots before stack)) all_done walked.first.order;
      all = λ slot place stored. subst (λ (ps : List Place). Contains ps place) all_done (walked.first.all slot place stored);
      each = λ place found. stored_among (kid_here before stack) walk walked.first.places place walked.first.stored
          (subst (λ (ps : List Place). Contains ps place) (sym all_done) found);
      tree = tree_in_slots now stack;
      turned = walked.turned;
      kept =
          subst (λ (l : List Place). KeepThoseLeft means table (root_shape plan) (tree_in_slots before stack)
          (tree_in_slots before stack) walked.done l) none_left walked.kept;
      here = ends.tree;
      finishes = meant_now;
      last = stands_now.built;
    }

  -- the place at which the builder works lacks something
  module _ (refuses : FinishesOrRefuses) (nothing : NothingFailsOfDone) (open_first : IsOpen plan before stack)
      {kind : ReflectErrorKind} (lacks : LacksHere means table plan now stack kind) where
    abbrev to : List PathStep
    to = [] ++ steps_in (cursor_in before stack) (tree_in_slots before stack)

    none_now : (path : List PathStep)
        → failures_off means table (root_shape plan) path (cursor_in before stack) (tree_in_slots now stack) ≡ []
    none_now path = nothing means table (root_shape plan) path (cursor_in before stack) (tree_in_slots now stack) strict_now

    none_before : (path : List PathStep)
        → failures_off means table (root_shape plan) path (cursor_in before stack) (tree_in_slots before stack) ≡ []
    none_before path = sym (walked.failing path) ∙ none_now path

    lacks_now : own_lack means table (shape_in table (root_shape plan) (cursor_in before stack) (tree_in_slots now stack))
        (tree_at (cursor_in before stack) (tree_in_slots now stack)) ≡ Some kind
    lacks_now = said_now (λ p t. own_lack means table (shape_in table (root_shape plan) p t) (tree_at p t) ≡ Some kind) lacks

    has : (k : Kid) → LeadsUnstored (cursor_in before stack) k → HasPlace (cursor_in before stack) (tree_of k)
    has k leads =
        reach_place (cursor_in before stack) k (leads_reach (cursor_in before stack) [] k
        (subst (λ (p : Place). LeadsUnstored p k) (sym (append-nil (cursor_in before stack))) leads))

    -- so it did at the start
    lacks_before : own_lack means table (shape_in table (root_shape plan) (cursor_in before stack) (tree_in_slots before stack))
        (tree_at (cursor_in before stack) (tree_in_slots before stack)) ≡ Some kind
    lacks_before =
        same_lack to (own_lack means table (shape_in table (root_shape plan) (cursor_in before stack) (tree_in_slots before
        stack)) (tree_at (cursor_in before stack) (tree_in_slots before stack))) (own_lack means table (shape_in table (root_shape
        plan) (cursor_in before stack) (tree_in_slots now stack)) (tree_at (cursor_in before stack) (tree_in_slots now stack)))
        (sym (fails_itself means table (shape_in table (root_shape plan) (cursor_in before stack) (tree_in_slots before stack))
        to (tree_at (cursor_in before stack) (tree_in_slots before stack)) (leads_there (cursor_in before stack) (kid_here before
        stack) open_first.stands.leads) (none_here means table (root_shape plan) [] (cursor_in before stack) (tree_in_slots
        before stack) (has (kid_here before stack) open_first.stands.leads) refl (none_before []))) ∙ sym (walked.here.failing to)
        ∙ fails_itself means table (shape_in table (root_shape plan) (cursor_in before stack) (tree_in_slots now stack)) to
        (tree_at (cursor_in before stack) (tree_in_slots now stack)) (leads_there (cursor_in before stack) (kid_here now stack)
        leads_now) (none_here means table (root_shape plan) [] (cursor_in before stack) (tree_in_slots now stack)
        (has (kid_here now stack) leads_now) (sym walked.path) (none_now []))) ∙ lacks_now

    pub held_here : IsHeldUp means table plan before stack kind
    held_here =
        let held = held_by_last refuses means table (root_shape plan) (cursor_in before stack) (tree_in_slots before stack) kind
        (leads_deferred 0 (cursor_in before stack) (kid_here before stack) open_first.stands.leads) (none_before [])
        lacks_before in
        record { unfinished = held.0; cause = held.1 }

    -- there it stopped
    pub stopped_here : StoppedByTurns means table plan before stack kind
    stopped_here =
        stopped_at walked (cursor_in before stack) (turn_itself (cursor_in before stack) (tree_in_slots now stack) plain_now
        ∙ sym (ap (λ (l : List Place). next_place l (cursor_in before stack)) none_left)) lacks_now
