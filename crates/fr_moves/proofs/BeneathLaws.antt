-- The place on top, once all that was left beneath it is completed: it is what it was, and no child of it is in a slot.
use Rattle.std.proofs.Common.{◌≡◌, ◌⊎◌, ℕ, suc, List, [], ◌∷◌, Some, inl, inr, refl, sym, ◌∙◌, ap, subst, false}
use Rattle.fr_moves.specs.Common.{Became, Body, Cell, Frames, HoldsItsValue, IsAtWork, IsKept, IsLast, LookupPathsAgree, LookupsAgree, Meanings, Node, PathStep, Place, Plan, ReflectErrorKind, Rules, Slot, StoresNothing, IsSuited, Table, Tracker, Tree, absent, begun_body, change_at, complete, entered_body, given, mode_of, own_tree, placed, shape_in, shape_of, top_place, top_shape, top_tree, tree_at, trees_of, whole_body, whole_tree}
use Rattle.fr_model.specs.Failing.{Failure, failure_at, failures, failures_among, first_by_walk, own_lack}
use Rattle.fr_model.specs.Finish.{kind_of}
use Rattle.fr_model.specs.Places.{deferred_column}
use Rattle.fr_model.specs.Step.{cause_by, or_missing}
use Rattle.fr_frame.specs.Bodies.{IsClosed, is_conversion_body}
use Rattle.fr_frame.specs.Changes.{IfInUse}
use Rattle.fr_frame.specs.Defaults.{WhyNotDefault}
use Rattle.fr_store.specs.Beneath.{IsCompleteBeneath, IsHeldUpHere}
use Rattle.fr_store.specs.Turns.{root_shape, CompletesAsBefore}
use Rattle.fr_moves.specs.CompletedPlaces.{IsHeldUpAt}
use Rattle.fr_moves.proofs.EndingLaws.{here, here_so, own_is, plain, shape_is, IsTop}
use Rattle.fr_moves.specs.PlaceLaws.{root_is}
use Rattle.fr_moves.proofs.TopBodyLaws.{top_body}
use Rattle.fr_moves.proofs.KeepLaws.{became_after}
use Rattle.fr_moves.specs.PlaceLaws.{here_along}
use Rattle.fr_moves.specs.TreeLaws.{changed_twice, shape_stays}
use Rattle.fr_plan.specs.ReachLaws.{NodesAreReached, ReachedHaveNodes}

-- Where all children of a place are whole or not there, it fails by itself alone.

none_fails : (hooks : Meanings) (table : Table) (s : ℕ) (tracker : Tracker) (i : ℕ) (path : List PathStep) (cells : List Cell)
    → failures_among hooks table s tracker i path (trees_of cells) ≡ []
none_fails hooks table s tracker i path [] = refl
none_fails hooks table s tracker i path (absent ∷ cells) = none_fails hooks table s tracker (suc i) path cells
none_fails hooks table s tracker i path (given v ∷ cells) = none_fails hooks table s tracker (suc i) path cells
none_fails hooks table s tracker i path (placed n ∷ cells) = none_fails hooks table s tracker (suc i) path cells

fails_itself : (hooks : Meanings) (table : Table) (s : ℕ) (path : List PathStep) (body : Body) (kind : ReflectErrorKind)
    → is_conversion_body body ≡ false → own_lack hooks table s (own_tree body) ≡ Some kind
    → failures hooks table s path (own_tree body) ≡ failure_at path (Some kind)
fails_itself hooks table s path entered_body kind plain e = ap (failure_at path) e
fails_itself hooks table s path (whole_body v) kind plain e = cc
fails_itself hooks table s path (begun_body tracker cells) kind plain e =
    rw (none_fails hooks table s tracker 0 path cells, plain) (ap (failure_at path) e)

caused_by_itself : (hooks : Meanings) (table : Table) (s : ℕ) (path : List PathStep) (body : Body) (kind : ReflectErrorKind)
    → is_conversion_body body ≡ false → own_lack hooks table s (own_tree body) ≡ Some kind
    → kind ≡ cause_by deferred_column hooks table s path (own_tree body)
caused_by_itself hooks table s path body kind plain e =
    sym (ap (λ (fs : List Failure). or_missing s (kind_of (first_by_walk fs))) (fails_itself hooks table s path body kind plain e))

-- Of the place on top, and of the open places once all that was left beneath it is completed: it may be completed then, in this slot; why
-- it makes no value then is why it makes none; and the value that it holds in the end is the one that it makes.
pub record IsBeneath (means : Meanings) (plan : Plan) (frames between : Frames) (n : ℕ) : Type 0 where
  pub top : IsTop plan between n
  pub why : (kind : ReflectErrorKind)
      → IfInUse between.slots n (λ (at : Node). WhyNotDefault means frames.table.now (shape_of plan at.node) at.body kind)
      → (kind ≡ ReflectErrorKind.OutOfMemory) ⊎ IsHeldUpAt means frames.table.now (top_shape frames) (top_tree frames) kind
  pub holds : (last : Frames) → HoldsItsValue Rules.Deferred means plan between last
      → HoldsItsValue Rules.Deferred means plan frames last

module _ (paths : LookupPathsAgree) {plan : Plan} {frames : Frames} (at_work : IsAtWork plan frames) (means : Meanings) where
  root : root_shape plan ≡ frames.root.0
  root = root_is paths at_work.ready.checked at_work.ready.inside at_work.ready.planned

  -- it is held up there
  pub held_up_here : (kind : ReflectErrorKind) → IsHeldUpHere means frames.table.now plan frames.slots frames.stack kind
      → IsHeldUpAt means frames.table.now (top_shape frames) (top_tree frames) kind
  held_up_here kind held =
      subst (λ (s : ℕ). IsHeldUpAt means frames.table.now (shape_in frames.table.now s (top_place frames) (whole_tree frames))
      (top_tree frames) kind) root (record { incomplete = held.incomplete; cause_is = held.cause })

  module _ (agree : LookupsAgree) (reached : NodesAreReached) (nodes : ReachedHaveNodes) {after : List Slot} (done : IsCompleteBeneath means frames.table.now plan frames.slots frames.stack after)
      (store : List ℕ) (kept : IsKept store after) (stores : StoresNothing (mode_of frames.mode) store) {n : ℕ}
      (last : IsLast frames.stack n) where
    -- the open places then
    abbrev then : Frames
    then = record frames { slots = after; store = store }

    became_then : Became plan (top_place frames) (change_at (top_place frames) (λ old. done.tree) (whole_tree frames)) frames then
    became_then = record { stands = done.stands; kept = kept; stores = stores; same = refl }

    at_work_then : IsAtWork plan then
    at_work_then = record {
      ready = record {
        inside = at_work.ready.inside;
        checked = at_work.ready.checked;
        planned = at_work.ready.planned;
        shown = done.stands.open_still;
        suits = subst (λ (s : ℕ). IsSuited frames.table.now s (whole_tree then)) root done.suits;
      };
      kept = kept;
      stores = stores;
    }

    top_then : IsTop plan then n
    unfolding at_work_then
    top_then = record {
      at_work = at_work_then;
      last = last;
      shut = top_body plan after frames.stack done.stands.open_still IsClosed done.closed;
      along = here_along agree paths reached nodes frames.table.now frames.root plan after frames.stack at_work_then.ready;
    }

    shape_same : top_shape then ≡ top_shape frames
    shape_same =
        ap (λ (p : Place). shape_in frames.table.now frames.root.0 p (whole_tree then)) done.stands.cursor
        ∙ ap (shape_in frames.table.now frames.root.0 (top_place frames)) done.stands.built
        ∙ shape_stays frames.table.now frames.root.0 (top_place frames) (λ old. done.tree) (whole_tree frames)

    as_before : CompletesAsBefore means frames.table.now frames.root.0 (whole_tree frames) (whole_tree then) (top_place frames)
    as_before =
        subst
        (λ (s : ℕ). CompletesAsBefore means frames.table.now s (whole_tree frames) (whole_tree then) (top_place frames)) root
        done.as_before

    completes_same : complete deferred_column means frames.table.now (top_shape then) (top_tree then)
        ≡ complete deferred_column means frames.table.now (top_shape frames) (top_tree frames)
    completes_same =
        ap (λ (p : Place). complete deferred_column means frames.table.now
        (shape_in frames.table.now frames.root.0 p (whole_tree then)) (tree_at p (whole_tree then))) done.stands.cursor
        ∙ as_before.value

    cause_same : (path : List PathStep) → cause_by deferred_column means frames.table.now (top_shape then) path (top_tree then)
        ≡ cause_by deferred_column means frames.table.now (top_shape frames) path (top_tree frames)
    cause_same path =
        ap (λ (fs : List Failure). or_missing (top_shape then) (kind_of (first_by_walk fs))) (ap
        (λ (p : Place). failures means frames.table.now (shape_in frames.table.now frames.root.0 p (whole_tree then)) path
        (tree_at p (whole_tree then))) done.stands.cursor ∙ as_before.failing path) ∙ ap (λ (s : ℕ). or_missing s
        (kind_of (first_by_walk (failures means frames.table.now (top_shape frames) path (top_tree frames))))) shape_same

    why_then : (kind : ReflectErrorKind)
        → IfInUse after n (λ (at : Node). WhyNotDefault means frames.table.now (shape_of plan at.node) at.body kind)
        → (kind ≡ ReflectErrorKind.OutOfMemory) ⊎ IsHeldUpAt means frames.table.now (top_shape frames) (top_tree frames) kind
    why_then kind why =
        elim (here_so top_then (λ (at : Node). WhyNotDefault means frames.table.now (shape_of plan at.node) at.body kind) why) [
          | inl lacking ↦ inr
              (record {
                incomplete =
                    sym completes_same
                    ∙ ap (complete deferred_column means frames.table.now (top_shape then)) (sym (own_is top_then)) ∙ ap
                    (λ (s : ℕ). complete deferred_column means frames.table.now s (own_tree (here top_then).body))
                    (sym (shape_is top_then)) ∙ lacking.incomplete;
                cause_is = λ path.
                    caused_by_itself means frames.table.now (shape_of plan (here top_then).node) path (here top_then).body kind
                    (plain top_then) lacking.lacks ∙ ap
                    (λ (s : ℕ). cause_by deferred_column means frames.table.now s path (own_tree (here top_then).body))
                    (shape_is top_then)
                    ∙ ap (cause_by deferred_column means frames.table.now (top_shape then) path) (own_is top_then)
                    ∙ cause_same path;
              })
          | inr wants ↦ inl wants.memory
        ]

    holds_then : (last : Frames) → HoldsItsValue Rules.Deferred means plan then last
        → HoldsItsValue Rules.Deferred means plan frames last
    holds_then last holds = record {
      value = holds.value;
      meant = sym completes_same ∙ holds.meant;
      now = holds.now;
      changed =
          subst (λ (t : Tree). Became plan (top_place frames) t frames last)
          (changed_twice (top_place frames) (λ old. holds.now) (λ old. done.tree) (whole_tree frames))
          (became_after (λ p. p) (λ p t. change_at p (λ old. holds.now) t) became_then holds.changed);
      held = holds.held;
      unboxed = λ none. cc;
    }

    pub beneath : IsBeneath means plan frames then n
    beneath = record { top = top_then; why = why_then; holds = holds_then }
