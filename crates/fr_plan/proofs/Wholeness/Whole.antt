-- Over a checked table, what is planned of a root in range is whole.
use Rattle.std.proofs.Common.{◌≡◌, ◌≢◌, sym, refl, subst, ℕ, suc, zero, ◌<◌, false, length, replicate, slice_get, arith, Option, Some}
use Rattle.std.specs.Result.{MatchResult}
use Rattle.std.proofs.lemmas.List.{length-replicate}
use Rattle.std.proofs.lemmas.List.Elements.{All-weaker}
use Rattle.std.proofs.lemmas.Option.{none-some, slice_get_within}
use Rattle.std.proofs.lemmas.Result.{MatchResult-at_ok}
use Rattle.fr_shape.specs.declared.shape.ShapeId.{ShapeId}
use Rattle.fr_shape.specs.Checked.{IsChecked}
use Rattle.fr_shape.specs.Look.{Table, IsIn}
use Rattle.fr_shape.specs.Plannable.{at_root}
use Rattle.fr_plan.specs.declared.nodes.NodeId.{NodeId}
use Rattle.fr_plan.specs.declared.outlines.Mark.{Mark}
use Rattle.fr_plan.specs.declared.outlines.Walk.{Walk}
use Rattle.fr_plan.specs.Build.{Built, Made, build_by, build, start_of, planned}
use Rattle.fr_plan.specs.PlanLaws.{HasOwn, IsComplete, PlansAreComplete}
use Rattle.fr_plan.proofs.Wholeness.Marks.{slice_get-replicate, is_unseen, unseen_in, unseen_at_most, IsBegun}
use Rattle.fr_plan.proofs.Wholeness.Sound.{IsThere, IsSound, IsBlamed}
use Rattle.fr_plan.proofs.Wholeness.Adding.{IsFinished}
use Rattle.fr_plan.proofs.Wholeness.ShapesKept.{new_kept, build_kept}
use Rattle.fr_plan.proofs.Wholeness.Ranges.{reached_in_range}

pub slice_get-replicate_in : {X : Type 0} (n i : ℕ) (x : X) → i < n → slice_get (replicate n x) i ≡ Some x
slice_get-replicate_in zero i x inside = absurd (omega (arith, inside))
slice_get-replicate_in (suc n) zero x inside = refl
slice_get-replicate_in (suc n) (suc i) x inside = slice_get-replicate_in n i x (omega (arith, inside))

module _ (table : Table) (root : ShapeId) where
  start_sound : IsSound table root (start_of table)
  start_sound = record {
    marks = length-replicate (length table) Mark.Unseen;
    done =
        λ id node at.
        let is : Mark.Unseen ≡ Mark.Done node =
        slice_get-replicate (length table) id.0 Mark.Unseen (Mark.Done node) at in
        absurd (cc);
    begun = λ i outline at. absurd (none-some outline at);
    nodes = λ i outline at. absurd (none-some outline at);
  }

  start_few : unseen_in (start_of table).marks < suc (length table)
  start_few =
      omega (arith, unseen_at_most (replicate (length table) Mark.Unseen), length-replicate (length table) Mark.Unseen)

  module _ (checked : IsChecked table) (inside : IsIn table root.0) where
    unseen_by : (mark : Option Mark) (fresh : Walk → ShapeId → Built Made) (walk : Walk) (P : Made → Type 0)
        → mark ≡ Some Mark.Unseen → MatchResult (fresh walk root) P (IsBlamed table root)
        → MatchResult (build_by mark fresh walk root) P (IsBlamed table root)
    unseen_by mark fresh walk P is told =
        let Q : Option Mark → Type 0 = λ m. MatchResult (build_by m fresh walk root) P (IsBlamed table root) in
        subst Q (sym is) told

    -- the root's own node is the last, or a shape that it reaches is refused
    pub root_finished : MatchResult (planned table root) (IsFinished table root (start_of table) root) (IsBlamed table root)
    root_finished =
        let unseen : slice_get (start_of table).marks root.0 ≡ Some Mark.Unseen =
        slice_get-replicate_in (length table) root.0 Mark.Unseen inside in
        unseen_by (slice_get (start_of table).marks root.0) _ (start_of table) _ unseen
        (new_kept table root (length table) (λ then next. build table (length table) then next)
        (build_kept table root (λ id reached. reached_in_range table checked inside reached) (length table)) (start_of table) root
        (slice_get table root.0) refl start_sound start_few unseen at_root)

  module _ (made : Made) (fin : IsFinished table root (start_of table) root made) where
    none_building : (i : ℕ) → slice_get made.walk.marks i ≢ Some Mark.Building
    none_building i at =
        let is : Mark.Unseen ≡ Mark.Building =
        slice_get-replicate (length table) i Mark.Unseen Mark.Building (fin.kept.keeps.building i at) in
        absurd (cc)

    resolved : (id : ShapeId) (mark : Mark) → slice_get made.walk.marks id.0 ≡ Some mark → is_unseen mark ≡ false
        → HasOwn made.walk id
    resolved id Mark.Unseen at seen = absurd (cc)
    resolved id Mark.Building at seen = absurd (none_building id.0 at)
    resolved id (Mark.Done node) at seen = record { node = node; mark = at; own = fin.kept.sound.done id node at }

    inside_of : (node : NodeId) → IsThere made.walk.nodes node → node.0 < length made.walk.nodes
    inside_of node there = slice_get_within made.walk.nodes node.0 there.outline there.here

    pub begun_resolved : (id : ShapeId) → IsBegun made.walk.marks id.0 → HasOwn made.walk id
    begun_resolved id begun = resolved id begun.mark begun.here begun.seen

    pub whole : IsComplete table root made
    whole = record {
      marks = fin.kept.sound.marks;
      root_mark = fin.mark;
      last = fin.last;
      finished = none_building;
      done = fin.kept.sound.done;
      nodes =
          λ i outline at.
          let right = fin.kept.sound.nodes i outline at in
          record {
            resolved = begun_resolved outline.shape (fin.kept.sound.begun i outline at);
            linked = right.linked;
            children = All-weaker (IsThere made.walk.nodes) _ inside_of outline.children right.children;
            sources = All-weaker (IsThere made.walk.nodes) _ inside_of outline.sources right.sources;
            reached = right.reached;
          };
    }

pub plans_are_complete : PlansAreComplete
plans_are_complete table root made checked inside is =
    whole table root made
    (MatchResult-at_ok (IsFinished table root (start_of table) root) (IsBlamed table root) made is
    (root_finished table root checked inside))
