-- The turns of the places that lie beneath the one at which a builder works, one after another.
use Rattle.std.proofs.Common.{◌≡◌, ◌≢◌, ◌↔◌, Bool, inl, inr, ℕ, zero, suc, ◌+◌, ◌<◌, ◌≤◌, drop, get_or, length, true, false, List, [], ◌∷◌, ◌++◌, append-nil, Some, None, refl, sym, ◌∙◌, ap, ap₂, subst, arith}
use Rattle.fr_store.specs.Common.{AllMarked, AtCursor, Contains, EachFailureHasItsPlace, Failure, FirstByWalkIs, FrameOwner, HasTurned, IsChecked, IsClosed, IsHeldUpHere, IsKept, IsLackingAt, IsLast, IsLawful, IsOpen, IsPlaced, IsStoredAt, IsSuited, IsWalk, KeepsTheRest, Kid, Kids, LackingFails, LeadsUnstored, MayTurn, Meanings, Node, PathStep, Place, Plan, Reaches, ReflectErrorKind, Slot, StayPutButBeneath, Suits, Table, Top, Tree, at, begun_plot, body_in, closed_at, cursor_in, deferred_column, done_at, first_by_walk, heap_of, is_begun_conversion, kid, kid_at, kid_here, kid_nth, kid_on_top, leads_at, left_at, marked, no_kids, open_reach, open_top, own_lack, put_at, put_nth, root_shape, shape_in, slot_at, slot_here, so_top, steps_in, stored_here, stored_in, strict, tree_at, tree_here, tree_in_slots, tree_of, tree_of_at, tree_put_at, turn_of, up, uses, uses_at}
use Rattle.std.proofs.lemmas.List.{drop_more}
use Rattle.fr_store.specs.MoveLaws.{top_node}
use Rattle.fr_model.specs.Failing.{failures}
use Rattle.fr_model.specs.Complete.{complete}
use Rattle.fr_model.specs.FinishLaws.{Closes, ClosingKeepsCompletion, ClosingKeepsFailuresOff, ClosingKeepsFinish}
use Rattle.std.specs.Prelude.{if◌then◌else◌}
use Rattle.fr_model.specs.Laws.{CompletesOrFails, CompletingFits}
use Rattle.fr_store.specs.Beneath.{IsCompleteBeneath, completed_beneath, shape_here}
use Rattle.fr_store.proofs.ClosingLaws.{closes_with, shape_append, suits_at, tree_append}
use Rattle.fr_store.specs.TopLaws.{closed_by_marks}
use Rattle.fr_store.specs.Turns.{CompletesAsBefore}
use Rattle.fr_store.specs.WayLaws.{put_at_twice}
use Rattle.fr_store.proofs.BeneathMeant.{IsUnder, nothing_left, same_within}
use Rattle.fr_store.proofs.FailLaws.{cause_is, fails_beneath, none_made}
use Rattle.fr_store.proofs.DueLaws.{done_has, done_same, due, due_at, due_kid, head as due_head, kid_next, left_next, only_here, part_next, same as due_same, stored as due_stored, suits_next}
use Rattle.fr_store.proofs.FailTurns.{turn_within}
use Rattle.fr_store.proofs.PlainLaws.{plain_at}
use Rattle.fr_store.proofs.HeadLaws.{Head}
use Rattle.fr_store.proofs.HeldLaws.{closed_cursor, first_fails, walk_over}
use Rattle.fr_store.proofs.StoredMarks.{kept_but}
use Rattle.fr_store.proofs.OpenLaws.{open_stay}
use Rattle.fr_store.proofs.PlacesInSlots.{leads_here, mark_at}
use Rattle.fr_store.proofs.WalkLaws.{placed_stored}
use Rattle.fr_store.proofs.PlacesBeside.{stay_but_beneath}
use Rattle.fr_store.proofs.WalkedLaws.{as_before_again}
use Rattle.fr_store.proofs.OffLaws.{off_stored, reach_place}

-- What lies at a place, put there, changes nothing.

put_nth_same : (i : ℕ) (ks : Kids) → put_nth i (kid_nth i ks) ks ≡ ks
put_nth_same i no_kids = refl
put_nth_same zero (kid k ks) = refl
put_nth_same (suc i) (kid k ks) = ap (λ (xs : Kids). kid k xs) (put_nth_same i ks)

put_same : (place : Place) (k : Kid) → Reaches place k → put_at place (kid_at place k) k ≡ k
put_same [] k reach = refl
put_same (i ∷ place) (at slot stored (begun_plot tracker kids)) reach =
    ap (λ (x : Kid). at slot stored (begun_plot tracker (put_nth i x kids))) (put_same place (kid_nth i kids) reach.1)
    ∙ ap (λ (ks : Kids). at slot stored (begun_plot tracker ks)) (put_nth_same i kids)
put_same (i ∷ place) _ reach = absurd reach

-- the place that is done at a turn beneath a place lies beneath it, or is that place and a conversion
done_under : (here : Place) (tree : Tree) → here ≢ [] → IsUnder (done_at here tree) tree
done_under here tree low = go (is_begun_conversion (tree_at (up here) tree)) refl
  where
    above : (p : Place) → is_begun_conversion (tree_at p tree) ≡ true → IsUnder p tree
    above [] e = inr e
    above (i ∷ p) e = inl (λ same. cc)

    go : (b : Bool) → is_begun_conversion (tree_at (up here) tree) ≡ b → IsUnder (if b then up here else here) tree
    go false e = inl low
    go true e = above (up here) e

-- The place on top of an open builder, and what lies beneath it.
module _ {plan : Plan} {slots : List Slot} {stack : List ℕ} (open_now : IsOpen plan slots stack) where
  pub leads_on_top : LeadsUnstored [] (kid_on_top slots stack)
  leads_on_top =
      leads_at (cursor_in slots stack) [] (kid_here slots stack)
      (subst (λ (p : Place). LeadsUnstored p (kid_here slots stack)) (sym (append-nil (cursor_in slots stack))) open_now.stands.leads)

  pub once_on_top : (n : ℕ) → uses (kid_on_top slots stack) n ≤ 1
  once_on_top n = omega (arith, uses_at (cursor_in slots stack) (kid_here slots stack) n, open_now.stands.once n)

  pub placed_on_top : IsPlaced (kid_here slots stack) (cursor_in slots stack)
  placed_on_top = record {
    reaches = open_reach open_now;
    here = leads_here [] (kid_on_top slots stack) leads_on_top;
  }

-- What became of it so far: the places of a walk over what lies beneath are left, and all else is as it was.
pub record WalkedBeneath (means : Meanings) (table : Table) (plan : Plan) (before : List Slot) (stack : List ℕ) (now : List Slot) (rest : List ℕ) : Type 0 where
  pub still : IsOpen plan now stack
  pub cursor : cursor_in now stack ≡ cursor_in before stack
  pub suits : IsSuited table (root_shape plan) (tree_in_slots now stack)
  pub left : IsWalk (kid_on_top now stack) rest
  pub beside : kid_here now stack ≡ put_at (cursor_in before stack) (kid_on_top now stack) (kid_here before stack)
  pub here :
      CompletesAsBefore means table (root_shape plan) (tree_in_slots before stack) (tree_in_slots now stack)
      (cursor_in before stack)
  pub meant :
      completed_beneath means table (shape_here table plan now stack) (tree_here now stack)
      ≡ completed_beneath means table (shape_here table plan before stack) (tree_here before stack)

pub beneath_begins : {means : Meanings} {table : Table} {plan : Plan} {before : List Slot} {stack walk : List ℕ}
    → IsOpen plan before stack → IsSuited table (root_shape plan) (tree_in_slots before stack) → IsWalk (kid_on_top before stack) walk
    → WalkedBeneath means table plan before stack before walk
beneath_begins {plan} {before} {stack} open_first suits left = record {
  still = open_first;
  cursor = refl;
  suits = suits;
  left = left;
  beside = sym (put_same (cursor_in before stack) (kid_here before stack) (open_reach open_first));
  here = record { value = refl; failing = λ path. refl };
  meant = refl;
}

-- the next place of the walk
pub beneath_next : {means : Meanings} {table : Table} {plan : Plan} {before now : List Slot} {stack : List ℕ} (walk : List ℕ) (i : ℕ)
    → i < length walk → WalkedBeneath means table plan before stack now (drop i walk)
    → WalkedBeneath means table plan before stack now (get_or walk i 0 ∷ drop (i + 1) walk)
beneath_next {means} {table} {plan} {before} {now} {stack} walk i h walked =
    subst (WalkedBeneath means table plan before stack now) (drop_more walk i 0 h) walked

module _ {means : Meanings} {table : Table} {plan : Plan} {before : List Slot} {stack : List ℕ} (open_first : IsOpen plan before stack) where
  module _ {now : List Slot} {rest : List ℕ} {n : ℕ} (walked : WalkedBeneath means table plan before stack now (n ∷ rest)) where
    abbrev k : Kid
    k = kid_here now stack

    abbrev x : Kid
    x = kid_on_top now stack

    on : cursor_in now stack ≡ cursor_in now stack ++ []
    on = sym (append-nil (cursor_in now stack))

    abbrev head : Head (kid_on_top now stack) n rest walked.left.places
    head = due_head walked.still (cursor_in now stack) [] on walked.left

    -- where it lies
    abbrev here : Place
    here = cursor_in now stack ++ head.place

    leads : LeadsUnstored [] (kid_on_top now stack)
    leads = leads_on_top walked.still

    stored : IsStoredAt (kid_here now stack) n here
    stored = due_stored walked.still (cursor_in now stack) [] on walked.left

    -- it may have its turn
    pub beneath_due : MayTurn now stack n
    beneath_due = due walked.still (cursor_in now stack) [] on walked.left

    -- it is stored
    pub beneath_marked : marked (heap_of now) n ≡ true
    beneath_marked =
        ap (marked (heap_of now)) (sym (ap slot_here stored.is)) ∙ mark_at plan (heap_of now) plan.root FrameOwner.Root
        0 walked.still.stands.holds (placed_stored stored) ∙ ap stored_here stored.is

    -- it had its turn
    module _ {next : List Slot} (turned : HasTurned means table plan now stack next n) where
      same : turned.place ≡ here
      same = due_same walked.still (cursor_in now stack) [] on walked.left turned

      -- the place that is done then
      abbrev at_place : Place
      at_place = due_at walked.still (cursor_in now stack) [] on walked.left

      abbrev new : Kid
      new = put_at at_place (due_kid walked.still (cursor_in now stack) [] on walked.left turned.value) (kid_on_top now stack)

      top_next : kid_on_top next stack ≡ new
      top_next =
          ap (λ (p : Place). kid_at p (kid_here next stack)) turned.stands.cursor
          ∙ part_next walked.still (cursor_in now stack) [] on walked.left turned

      left_top : IsWalk (kid_on_top next stack) rest
      left_top =
          subst (λ (p : Place). IsWalk (kid_at p (kid_here next stack)) rest) (sym turned.stands.cursor)
          (left_next walked.still (cursor_in now stack) [] on walked.left turned).0

      beside_next : kid_here next stack ≡ put_at (cursor_in before stack) (kid_on_top next stack) (kid_here before stack)
      beside_next =
          kid_next walked.still (cursor_in now stack) [] on walked.left turned
          ∙ ap (λ (p : Place). put_at p new (kid_here now stack)) walked.cursor
          ∙ ap (put_at (cursor_in before stack) new) walked.beside
          ∙ put_at_twice (cursor_in before stack) (kid_on_top now stack) new (kid_here before stack)
          (open_reach open_first)
          ∙ ap (λ (y : Kid). put_at (cursor_in before stack) y (kid_here before stack)) (sym top_next)

      below : head.place ≢ []
      below e = off_stored [] head.place x leads head.stored.is [] (sym e ∙ sym (append-nil head.place))

      under : IsUnder at_place (tree_at (cursor_in now stack) (tree_in_slots now stack))
      under =
          subst (IsUnder at_place) (tree_of_at (cursor_in now stack) (kid_here now stack)) (done_under head.place (tree_of x) below)

      -- the same is to come of what lies at the top
      meant_next : ClosingKeepsFinish → ClosingKeepsCompletion
          → completed_beneath means table (shape_here table plan next stack) (tree_here next stack)
          ≡ completed_beneath means table (shape_here table plan now stack) (tree_here now stack)
      meant_next closing completion =
          ap₂ (λ (p : Place) (t : Tree). completed_beneath means table (shape_in table (root_shape plan) p t) (tree_at p t))
          turned.stands.cursor (turned.stands.built ∙ ap (λ (p : Place). closed_at p turned.value (tree_in_slots now stack))
          (done_same walked.still (cursor_in now stack) [] on walked.left turned))
          ∙ same_within means table closing completion (root_shape plan) (cursor_in now stack) at_place turned.value (tree_in_slots
          now stack) under (subst (λ (p : Place). Closes means table (root_shape plan) p turned.value (tree_in_slots now stack))
          (done_same walked.still (cursor_in now stack) [] on walked.left turned)
          (closes_with means table (root_shape plan) (done_at turned.place (tree_in_slots now stack)) (tree_in_slots now stack)
          (done_has walked.still (cursor_in now stack) [] on walked.left turned) turned.meant))

      pub beneath_goes_on : CompletingFits → IsLawful means → IsChecked table → ClosingKeepsFinish → ClosingKeepsCompletion
          → KeepsTheRest means table plan now stack next → WalkedBeneath means table plan before stack next rest
      beneath_goes_on fitting lawful checked closing completion keeps = record {
        still = turned.stands.open_still;
        cursor = turned.stands.cursor ∙ walked.cursor;
        suits =
            suits_next walked.still (cursor_in now stack) [] on walked.left turned fitting lawful checked walked.suits;
        left = left_top;
        beside = beside_next;
        here = as_before_again walked.here (subst
            (λ (p : Place). CompletesAsBefore means table (root_shape plan) (tree_in_slots now stack) (tree_in_slots next stack) p)
            walked.cursor keeps.cursor);
        meant = meant_next closing completion ∙ walked.meant;
      }

      -- it is taken out of the store, and all others that are stored are in it
      pub beneath_kept : (store store_next : List ℕ) → IsKept store now
          → ((m : ℕ) → Contains store_next m ↔ (Contains store m × (m ≢ n))) → IsKept store_next next
      beneath_kept store store_next kept less =
          kept_but store store_next now next n kept (ap stored_in turned.free) turned.marks less

    abbrev tree : Tree
    tree = tree_in_slots now stack

    abbrev shape : ℕ
    shape = shape_here table plan now stack

    -- something is lacking at its turn: that fails first
    pub beneath_held_up : EachFailureHasItsPlace → LackingFails → ClosingKeepsFailuresOff → FirstByWalkIs → CompletesOrFails
        → {kind : ReflectErrorKind} → IsLackingAt means table plan now stack n kind → IsHeldUpHere means table plan before stack kind
    beneath_held_up each lacking closing first fails {kind} lacks = record {
      incomplete =
          none_made fails means table (shape_here table plan before stack) [] (tree_here before stack) (first_before []);
      cause = λ path. cause_is means table (shape_here table plan before stack) path (tree_here before stack) (first_before path);
    }
      where
        failure_of : List PathStep → Failure
        failure_of path = record { path = path ++ steps_in head.place (tree_of x); kind = kind }

        tree_on_top : tree_of x ≡ tree_at (cursor_in now stack) tree
        tree_on_top = tree_of_at (cursor_in now stack) (kid_here now stack)

        -- where it is lacking, seen from the top
        within : (way : Place) × (lacks.here ≡ cursor_in now stack ++ way) × (turn_of way (tree_of x) ≡ head.place)
        within =
            turn_within (cursor_in now stack) head.place lacks.here (kid_here now stack)
            (λ e. off_stored [] head.place x leads head.stored.is [] (sym e ∙ sym (append-nil head.place)))
            (lacks.turn ∙ only_here walked.still (cursor_in now stack) [] on walked.left lacks.place lacks.stored)

        -- so it is of what stands there, seen from the top
        seen : (So : ℕ → Tree → Type 0) → So (shape_in table (root_shape plan) lacks.here tree) (tree_at lacks.here tree)
            → So (shape_in table shape within.0 (tree_of x)) (tree_at within.0 (tree_of x))
        seen So so =
            subst (λ (t : Tree). So (shape_in table shape within.0 t) (tree_at within.0 t)) (sym tree_on_top)
            (subst (λ (t : Tree). So (shape_in table shape within.0 (tree_at (cursor_in now stack) tree)) t)
            (tree_append (cursor_in now stack) within.0 tree)
            (subst (λ (m : ℕ). So m (tree_at (cursor_in now stack ++ within.0) tree))
            (shape_append table (root_shape plan) (cursor_in now stack) within.0 tree)
            (subst (λ (p : Place). So (shape_in table (root_shape plan) p tree) (tree_at p tree)) within.1 so)))

        suits_on_top : Suits table shape (tree_of x)
        suits_on_top =
            subst (Suits table shape) (sym tree_on_top) (suits_at table (root_shape plan) (cursor_in now stack) tree
            (reach_place (cursor_in now stack) (kid_here now stack) (open_reach walked.still)) walked.suits.suits)

        first_now : (path : List PathStep)
            → first_by_walk (failures means table shape path (tree_at (cursor_in now stack) tree)) ≡ Some (failure_of path)
        first_now path =
            let off = first_fails means table shape path x [] leads (left_at (cursor_in now stack) (kid_here now stack)
            walked.still.stands.left) suits_on_top n rest walked.left head within.0 within.2 kind
            (seen (λ m t. complete deferred_column means table m t ≡ None) lacks.incomplete)
            (seen (λ m t. own_lack means table m t ≡ Some kind) lacks.lacks) each lacking closing fails first in
            ap (λ (t : Tree). first_by_walk (failures means table shape path t)) (sym tree_on_top)
            ∙ ap first_by_walk (fails_beneath means table shape path (tree_of x) off) ∙ off

        first_before : (path : List PathStep)
            → first_by_walk (failures means table (shape_here table plan before stack) path (tree_here before stack))
            ≡ Some (failure_of path)
        first_before path =
            ap first_by_walk (sym (walked.here.failing path)) ∙ ap (λ (p : Place). first_by_walk
            (failures means table (shape_in table (root_shape plan) p tree) path (tree_at p tree))) (sym walked.cursor) ∙ first_now path

  -- What isn't beneath stays in its slot.
  pub beneath_stays : {now : List Slot} {rest : List ℕ} → WalkedBeneath means table plan before stack now rest
      → StayPutButBeneath (cursor_in before stack) (kid_here before stack) (kid_here now stack)
  beneath_stays {now} walked =
      subst (λ (y : Kid). StayPutButBeneath (cursor_in before stack) (kid_here before stack) y) (sym walked.beside)
      (stay_but_beneath (cursor_in before stack) (kid_here before stack) (open_reach open_first) old.is
      (top.is ∙ ap (λ (s : ℕ). at s false top.plot) same_slot))
    where
      old : Top plan (heap_of before) stack (cursor_in before stack) (kid_here before stack)
      old = open_top open_first

      top : Top plan (heap_of now) stack (cursor_in now stack) (kid_here now stack)
      top = open_top walked.still

      same_slot : top.slot ≡ old.slot
      same_slot =
          let stays = open_stay open_first refl walked.still walked.cursor (cursor_in before stack) [] (sym (append-nil (cursor_in before stack))) (placed_on_top open_first) in
          sym (ap slot_here top.is)
          ∙ ap (λ (p : Place). slot_at (kid_here now stack) p) walked.cursor ∙ stays.1 ∙ ap slot_here old.is

  -- Nothing is left.
  module _ {now : List Slot} (walked : WalkedBeneath means table plan before stack now []) where
    closed_now : IsClosed (body_in (open_top walked.still).plot)
    closed_now =
        let top = open_top walked.still in
        closed_by_marks top.plot top.stored (subst (AllMarked false) top.is (walk_over walked.left).1).1

    top_is : tree_of (kid_on_top now stack) ≡ tree_here now stack
    top_is = tree_of_at (cursor_in now stack) (kid_here now stack)

    done_now : AtCursor strict (tree_here now stack)
    done_now =
        let top = open_top walked.still in
        subst (AtCursor strict) (ap tree_of (sym top.is) ∙ top_is) (closed_cursor top.plot closed_now
        (plain_at table (root_shape plan) (cursor_in now stack) (kid_here now stack) walked.suits.suits walked.still.stands.left
        (open_reach walked.still) top.is closed_now))

    pub beneath_complete : IsCompleteBeneath means table plan before stack now
    unfolding top_node
    beneath_complete = record {
      tree = tree_of (kid_on_top now stack);
      meant =
          sym walked.meant ∙ nothing_left means table (shape_here table plan now stack) (tree_here now stack) done_now
          ∙ ap (λ (t : Tree). Some t) (sym top_is);
      stands = record {
        open_still = walked.still;
        cursor = walked.cursor;
        built =
            ap tree_of walked.beside ∙ tree_put_at (cursor_in before stack) (kid_on_top now stack) (kid_here before stack);
      };
      as_before = walked.here;
      closed = λ m last. so_top walked.still last (λ (it : Node). IsClosed it.body) (closed_top_node m last);
      suits = walked.suits;
    }
      where
        closed_top_node : (m : ℕ) (last : IsLast stack m) → IsClosed (top_node walked.still last).body
        closed_top_node m last = closed_now
