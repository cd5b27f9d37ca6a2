-- What `begin_inner` comes to, or why it is refused.
use Rattle.std.proofs.Common.{◌≡◌, ℕ, Bool, true, false, slice_get, Option, Some, None, Ok, refl, sym, ◌∙◌, ap, subst}
use Rattle.fr_work.specs.Common.{Beginning, Call, ComesTo, Def, Describes, IsFullAs, IsRefused, Mode, Meanings, Move, Opening, Operation, ReflectErrorKind, Sees, ShapeId, Site, Table, Tree, Way, as_tracker, at_shape, beginning_of_inner, content_shape, cursor_tree, def_of, entered, field_refusal, fresh, is_option, shape_at, step}
use Rattle.fr_shape.specs.declared.shape.HookId.{HookId}
use Rattle.fr_model.specs.Conversions.{by_wrapper, convert_in, source_in}
use Rattle.fr_model.specs.Step.{begins_converted, begins_inner, enters_source, inner_option_kept}
use Rattle.fr_model.specs.Trackers.{Conversion}
use Rattle.fr_work.specs.Sources.{Begins}
use Rattle.fr_frame.specs.declared.places.ContentKind.{ContentKind as Begun}
use Rattle.fr_frame.specs.declared.places.Tracker.{Tracker as Started}
use Rattle.fr_moves.specs.AnewLaws.{fresh_refusal}
use Rattle.fr_work.proofs.ContentLaws.{content_goes, full_here, inner_wanted, option_full}
use Rattle.fr_work.proofs.DecidingLaws.{admitted, cannot, goes}
use Rattle.fr_work.proofs.KeptLaws.{inner_kept_is, may_begin_inner}
use Rattle.fr_work.proofs.SeenLaws.{def_seen, seen_by}
use Rattle.fr_moves.specs.StateLaws.{IsSiteInOrder}

module _ {site : Site} {table : Table} {shape : ShapeId} {seen : Tree} (at : Sees site table shape seen) where
  -- what the place wraps, or is built from, and the hook that converts from that, as the site sees them
  source_seen : source_in (slice_get table shape.0) ≡ source_in (slice_get site.shapes (shape_at site))
  source_seen = seen_by at (λ table s tree. source_in (slice_get table s)) (λ table s tracker ts. refl)

  convert_seen : convert_in (slice_get table shape.0) ≡ convert_in (slice_get site.shapes (shape_at site))
  convert_seen = seen_by at (λ table s tree. convert_in (slice_get table s)) (λ table s tracker ts. refl)

  inner_is : (source : Option ShapeId) (convert : Option HookId) → source ≡ source_in (slice_get table shape.0)
      → convert ≡ convert_in (slice_get table shape.0) → (hooks : Meanings)
      → step hooks site.shapes site.root site.state Call.BeginInner
      ≡ begins_inner site.shapes (shape_at site) site.state source convert
  inner_is source convert source_is convert_is hooks =
      ap (λ (x : Option ShapeId). begins_inner site.shapes (shape_at site) site.state x
      (convert_in (slice_get site.shapes (shape_at site)))) (sym (source_is ∙ source_seen))
      ∙ ap (begins_inner site.shapes (shape_at site) site.state source) (sym (convert_is ∙ convert_seen))

  module _ (source : ShapeId) (source_is : Some source ≡ source_in (slice_get table shape.0)) where
    -- no hook converts: the place starts anew
    module _ (unconverted : None ≡ convert_in (slice_get table shape.0)) where
      refusal_anew : field_refusal (def_of table shape.0) entered 0
          ≡ field_refusal (def_of site.shapes (shape_at site)) (fresh (def_of site.shapes (shape_at site))) 0
      refusal_anew = ap (λ (def : Def). field_refusal def entered 0) (def_seen at) ∙ fresh_refusal (def_of site.shapes (shape_at site)) 0

      pub inner_anew : (opening : Opening) → Describes table shape.0 entered opening
          → None ≡ field_refusal (def_of table shape.0) entered 0
          → ComesTo site Call.BeginInner (Move.Go (Way.Anew 0 opening))
      inner_anew opening says may =
          let so = may ∙ refusal_anew in
          goes site Call.BeginInner (Way.Anew 0 opening) refl (
            record {
              begun = subst (λ (def : Def). IsFullAs def (as_tracker opening.tracker) opening.count) (def_seen at) says.begun;
              variant = λ k is. let no : None ≡ Some k = says.variant k is in cc;
              plain = says.plain;
            },
            sym so,
          ) (λ hooks. inner_is (Some source) None source_is unconverted hooks ∙ admitted (ap (at_shape (shape_at site)) so))

      pub inner_refused : (operation : Operation) → Some operation ≡ field_refusal (def_of table shape.0) entered 0
          → IsRefused site Call.BeginInner (ReflectErrorKind.OperationFailed shape operation)
      inner_refused operation is =
          cannot at Call.BeginInner _ operation (λ hooks. inner_is (Some source) None source_is unconverted hooks)
          (is ∙ refusal_anew)

    -- a hook does: an option is entered as one, any other place as a conversion
    module _ (hook : HookId) (convert_is : Some hook ≡ convert_in (slice_get table shape.0)) where
      begins_so : (of_option : Bool) → is_option (def_of table shape.0) ≡ of_option → (hooks : Meanings)
          → step hooks site.shapes site.root site.state Call.BeginInner
          ≡ Ok (begins_converted site.shapes (shape_at site) site.state of_option (by_wrapper hook source))
      begins_so of_option is hooks =
          inner_is (Some source) (Some hook) source_is convert_is hooks
          ∙ ap (λ (b : Bool). Ok (begins_converted site.shapes (shape_at site) site.state b (by_wrapper hook source)))
          (ap is_option (sym (def_seen at)) ∙ is)

      pub inner_converts : is_option (def_of table shape.0) ≡ false → (conversion : Conversion) → conversion ≡ by_wrapper hook source
          → Begins site Call.BeginInner conversion
      inner_converts other conversion same = record {
        nothing = refl;
        means = λ hooks. begins_so false other hooks
            ∙ ap (λ (c : Conversion). Ok (enters_source site.shapes (shape_at site) site.state c)) (sym same);
      }

      pub inner_option : IsSiteInOrder site → is_option (def_of table shape.0) ≡ true → (mode : Mode) → mode ≡ site.state.mode
          → (content : ℕ) → content ≡ content_shape (def_of table shape.0) → (beginning : Beginning)
          → beginning ≡ beginning_of_inner mode (def_of table content) seen
          → ComesTo site Call.BeginInner (Move.Go (Way.Content (Started.Content Begun.Some) beginning))
      inner_option ordered option mode same_mode content content_is beginning is =
          let def = def_of site.shapes (shape_at site) in
          let around = def_of site.shapes (content_shape def) in
          content_goes site Call.BeginInner (Started.Content Begun.Some) beginning
          (beginning_of_inner site.state.mode around (cursor_tree site.state))
          (inner_option_kept site.shapes (shape_at site) site.state site.state.mode) refl refl
          (option_full def (ap is_option (sym (def_seen at)) ∙ option)) (inner_wanted at mode beginning same_mode content content_is is)
          (may_begin_inner site.state.mode around def (cursor_tree site.state) (full_here site ordered))
          (inner_kept_is site.shapes (shape_at site) site.state) (begins_so true option)
