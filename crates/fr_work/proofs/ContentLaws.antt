-- Entering a content, a side or a pointee: what it means.
use Rattle.std.proofs.Common.{◌≡◌, ℕ, Bool, true, false, Option, Some, None, Ok, inl, inr, refl, sym, ◌∙◌, ap, subst}
use Rattle.fr_work.specs.Common.{Beginning, Call, ComesTo, ContentKind, Def, IsFullAs, Meanings, Mode, Move, Operation, Sees, ShapeId, Site, Table, Tracker, Tree, Way, as_content, as_tracker, beginning_in, beginning_of_some, content_shape, cursor_tree, def_of, is_around, is_option, is_result, pointer_refusal, points_to_slice, shape_at, side_call, step, beginning_of_inner}
use Rattle.fr_model.specs.Entering.{Way as Onward, enters}
use Rattle.fr_model.specs.Scripts.{value_brought}
use Rattle.fr_model.specs.Step.{begin_side, content_kept}
use Rattle.fr_model.specs.Well.{HasContent, PointsTo}
use Rattle.fr_frame.specs.declared.places.Tracker.{Tracker as Started}
use Rattle.fr_refusals.specs.Beginnings.{kept_by}
use Rattle.fr_work.specs.Sides.{IsSide}
use Rattle.fr_moves.specs.MayBeginAs.{MayBeginAround}
use Rattle.fr_moves.specs.TrackerLaws.{IsFullTree, full_tree}
use Rattle.fr_work.proofs.DecidingLaws.{goes}
use Rattle.fr_work.proofs.ChildrenByLooks.{begun_inner, begun_some}
use Rattle.fr_work.proofs.SeenLaws.{in_seen, seen_by}
use Rattle.fr_moves.specs.StateLaws.{IsSiteInOrder}
use Rattle.fr_model.specs.Trackers.{Conversion}
use Rattle.fr_work.specs.Sources.{Begins}
use Rattle.fr_work.proofs.KeptLaws.{kept_in_is, may_begin_in}
use Rattle.fr_moves.specs.SuitLaws.{suits_here}

pub full_here : (site : Site) → IsSiteInOrder site → IsFullTree (def_of site.shapes (shape_at site)) (cursor_tree site.state)
full_here site ordered = full_tree site.shapes (shape_at site) (cursor_tree site.state) (suits_here site ordered)

-- Either side of a result.

by_side : (P : Tracker → Type 0) → P (as_content ContentKind.Ok) → P (as_content ContentKind.Err) → (tracker : Tracker) → IsSide tracker → P tracker
by_side P of_ok of_err tracker (inl ok) = subst P (sym ok) of_ok
by_side P of_ok of_err tracker (inr err) = subst P (sym err) of_err

-- which side it is, the call tells
pub side_called : (site : Site) (hooks : Meanings) (tracker : Tracker) → IsSide tracker
    → step hooks site.shapes site.root site.state (side_call tracker) ≡ begin_side site.shapes (shape_at site) site.state tracker
side_called site hooks tracker side =
    by_side
    (λ (f : Tracker). step hooks site.shapes site.root site.state (side_call f) ≡ begin_side site.shapes (shape_at site) site.state f)
    refl refl tracker side

pub side_brings : (tracker : Tracker) → IsSide tracker → value_brought (side_call tracker) ≡ None
side_brings tracker side = by_side (λ (f : Tracker). value_brought (side_call f) ≡ None) refl refl tracker side

pub side_around : (tracker : Tracker) → IsSide tracker → is_around tracker ≡ true
side_around tracker side = by_side (λ (f : Tracker). is_around f ≡ true) refl refl tracker side

has_sides : (def : Def) → is_result def ≡ true → HasContent def ContentKind.Ok 1 × HasContent def ContentKind.Err 1
has_sides (Def.Result t e) h = (refl, refl)
has_sides _ h = cc

pub side_full : (def : Def) (tracker : Tracker) → IsSide tracker → is_result def ≡ true → IsFullAs def tracker 1
side_full def tracker side h = by_side (λ (f : Tracker). IsFullAs def f 1) (has_sides def h).0 (has_sides def h).1 tracker side

-- The content is entered where just that is kept which the call keeps.
pub content_goes : (site : Site) (call : Call) (tracker : Started) (beginning wanted : Beginning) (kept : Option Tree)
    → value_brought call ≡ None → is_around (as_tracker tracker) ≡ true
    → IsFullAs (def_of site.shapes (shape_at site)) (as_tracker tracker) 1 → beginning ≡ wanted
    → MayBeginAround wanted (as_tracker tracker) (cursor_tree site.state)
    → kept_by wanted (as_tracker tracker) (cursor_tree site.state) ≡ kept
    → ((hooks : Meanings) → step hooks site.shapes site.root site.state call
    ≡ Ok (enters site.shapes (shape_at site) site.state (Onward.Content (as_tracker tracker) kept)))
    → ComesTo site call (Move.Go (Way.Content tracker beginning))
content_goes site call tracker beginning wanted kept none around full is may kept_is means =
    goes site call (Way.Content tracker beginning) none
    (around, full, subst (λ (b : Beginning). MayBeginAround b (as_tracker tracker) (cursor_tree site.state)) (sym is) may) (λ hooks.
    means hooks
    ∙ ap (λ (k : Option Tree). Ok (enters site.shapes (shape_at site) site.state (Onward.Content (as_tracker tracker) k)))
    (sym (ap (λ (b : Beginning). kept_by b (as_tracker tracker) (cursor_tree site.state)) is ∙ kept_is)))

-- The source of a conversion is entered.
pub source_goes : (site : Site) → IsSiteInOrder site → (call : Call) (conversion : Conversion) → Begins site call conversion
    → (tracker : Started) → as_tracker tracker ≡ as_content (ContentKind.Source conversion) → (beginning : Beginning)
    → beginning ≡ beginning_in site.state.mode (as_tracker tracker) (cursor_tree site.state)
    → ComesTo site call (Move.Go (Way.Content tracker beginning))
source_goes site ordered call conversion begins tracker is beginning wanted =
    let around : is_around (as_tracker tracker) ≡ true = ap is_around is in
    content_goes site call tracker beginning (beginning_in site.state.mode (as_tracker tracker) (cursor_tree site.state))
    (content_kept site.state (as_tracker tracker)) begins.nothing around
    (subst (λ (f : Tracker). IsFullAs (def_of site.shapes (shape_at site)) f 1) (sym is) refl) wanted
    (may_begin_in site.state.mode (as_tracker tracker) around (def_of site.shapes (shape_at site)) (cursor_tree site.state)
    (full_here site ordered)) (kept_in_is site.state.mode (as_tracker tracker) (cursor_tree site.state)) (λ hooks.
    begins.means hooks
    ∙ ap (λ (f : Tracker). Ok (enters site.shapes (shape_at site) site.state (Onward.Content f (content_kept site.state f))))
    (sym is))

-- A place of such a definition has one content.

pub option_full : (def : Def) → is_option def ≡ true → IsFullAs def (as_content ContentKind.Some) 1
option_full (Def.Option t) h = refl
option_full _ h = cc

pub pointer_full : (table : Table) (def : Def) → pointer_refusal table def ≡ None → IsFullAs def (as_content ContentKind.Pointer) 1
pointer_full table (Def.Pointer pointer) e = go pointer.constructible pointer.pointee refl refl
  where
    go : (b : Bool) (pointee : Option ShapeId) → pointer.constructible ≡ b → pointer.pointee ≡ pointee
        → PointsTo pointer.pointee 1
    go true (Some s) h is = rw is refl
    go true None h is = let no : Some Operation.PointerWithoutPointee ≡ None = rw (h, is) at e in cc
    go false pointee h is = let no : Some Operation.PointerNotConstructible ≡ None = rw h at e in cc
pointer_full table _ e = cc

-- By what the site sees.

module _ {site : Site} {table : Table} {shape : ShapeId} {seen : Tree} (at : Sees site table shape seen) where
  pub pointer_seen : pointer_refusal table (def_of table shape.0)
      ≡ pointer_refusal site.shapes (def_of site.shapes (shape_at site))
  pointer_seen = seen_by at (λ table s tree. pointer_refusal table (def_of table s)) (λ table s tracker ts. refl)

  pub slice_seen : points_to_slice table (def_of table shape.0) ≡ points_to_slice site.shapes (def_of site.shapes (shape_at site))
  slice_seen = seen_by at (λ table s tree. points_to_slice table (def_of table s)) (λ table s tracker ts. refl)

  -- what is kept
  module _ (mode : Mode) (beginning : Beginning) (same_mode : mode ≡ site.state.mode) where
    pub some_wanted : (content : ℕ) → content ≡ content_shape (def_of table shape.0)
        → beginning ≡ beginning_of_some mode (def_of table content) seen → beginning
        ≡ beginning_of_some site.state.mode (def_of site.shapes (content_shape (def_of site.shapes (shape_at site))))
        (cursor_tree site.state)
    some_wanted content content_is is =
        is ∙ ap (λ (m : Mode). beginning_of_some m (def_of table content) seen) same_mode
        ∙ ap (λ (n : ℕ). beginning_of_some site.state.mode (def_of table n) seen) content_is
        ∙ seen_by at (λ table s. beginning_of_some site.state.mode (def_of table (content_shape (def_of table s))))
        (λ table s. begun_some site.state.mode (def_of table (content_shape (def_of table s))))

    pub inner_wanted : (content : ℕ) → content ≡ content_shape (def_of table shape.0)
        → beginning ≡ beginning_of_inner mode (def_of table content) seen → beginning
        ≡ beginning_of_inner site.state.mode (def_of site.shapes (content_shape (def_of site.shapes (shape_at site))))
        (cursor_tree site.state)
    inner_wanted content content_is is =
        is ∙ ap (λ (m : Mode). beginning_of_inner m (def_of table content) seen) same_mode
        ∙ ap (λ (n : ℕ). beginning_of_inner site.state.mode (def_of table n) seen) content_is
        ∙ seen_by at (λ table s. beginning_of_inner site.state.mode (def_of table (content_shape (def_of table s))))
        (λ table s. begun_inner site.state.mode (def_of table (content_shape (def_of table s))))

    pub in_wanted : (tracker : Tracker) → beginning ≡ beginning_in mode tracker seen
        → beginning ≡ beginning_in site.state.mode tracker (cursor_tree site.state)
    in_wanted tracker is = is ∙ ap (λ (m : Mode). beginning_in m tracker seen) same_mode ∙ in_seen at site.state.mode tracker
