-- A walk stays sound as a shape is finished by its own node.
use Rattle.std.proofs.Common.{◌≡◌, ◌∙◌, ap, sym, refl, subst, ℕ, inl, inr, [], ◌∷◌, ◌++◌, length, set, slice_get, arith, Some}
use Rattle.std.proofs.lemmas.List.{length-set, length-append}
use Rattle.std.proofs.lemmas.Option.{same_Some}
use Rattle.fr_shape.specs.declared.shape.ShapeId.{ShapeId}
use Rattle.fr_shape.specs.Look.{Table}
use Rattle.fr_plan.specs.declared.nodes.NodeId.{NodeId}
use Rattle.fr_plan.specs.declared.outlines.Outline.{Outline}
use Rattle.fr_plan.specs.declared.outlines.Role.{Role}
use Rattle.fr_plan.specs.declared.outlines.Mark.{Mark}
use Rattle.fr_plan.specs.declared.outlines.Walk.{Walk}
use Rattle.fr_plan.specs.Build.{with_node, with_shape_mark, done}
use Rattle.fr_plan.specs.PlanLaws.{IsOwnNode}
use Rattle.fr_plan.proofs.Wholeness.Marks.{slice_get_last, slice_get-set_same, slice_get-set_other, IsBegun, unseen_fewer, unseen_finished}
use Rattle.fr_plan.proofs.Wholeness.Sound.{IsRight, IsSound, Keeps, own_stays}
use Rattle.fr_plan.proofs.Wholeness.Adding.{same_or_other, same_id, begun_set, written, building_before, added_stays, begun_added, right_added, IsFinished}

module _ (table : Table) (root : ShapeId) (start walk : Walk) (id : ShapeId) (outline : Outline)
    (unseen : slice_get start.marks id.0 ≡ Some Mark.Unseen) (keeps : Keeps (with_shape_mark start id Mark.Building) walk)
    (sound : IsSound table root walk) (right : IsRight table root walk.nodes outline) (shape : outline.shape ≡ id)
    (role : outline.role ≡ Role.Own) where
  begun_there : IsBegun walk.marks id.0
  begun_there =
      keeps.begun id.0 (record {
        mark = Mark.Building;
        here = slice_get-set_same start.marks id.0 Mark.Building Mark.Unseen unseen;
        seen = refl;
      })

  done_after : (other : ShapeId) (number : NodeId)
      → slice_get (set walk.marks id.0 (Mark.Done (record { 0 = length walk.nodes }))) other.0 ≡ Some (Mark.Done number)
      → IsOwnNode (walk.nodes ++ outline ∷ []) number other
  done_after other number mark =
      elim (same_or_other id.0 other.0) [
        | inl same ↦
            let own : NodeId = record { 0 = length walk.nodes } in
            let is : Mark.Done own ≡ Mark.Done number =
            same_Some (Mark.Done own) (Mark.Done number)
            (sym (written walk.marks id.0 (Mark.Done own) begun_there)
            ∙ ap (slice_get (set walk.marks id.0 (Mark.Done own))) (sym same) ∙ mark) in
            let named : own ≡ number = cc in
            let P : NodeId → Type 0 = λ n. IsOwnNode (walk.nodes ++ outline ∷ []) n other in
            subst P named (record {
              outline = outline;
              here = slice_get_last walk.nodes outline;
              shape = shape ∙ same_id id other same;
              role = role;
            })
        | inr apart ↦
            own_stays walk.nodes (walk.nodes ++ outline ∷ []) (added_stays walk.nodes outline) number other
            (sound.done other number (sym (slice_get-set_other walk.marks id.0 other.0 _ apart) ∙ mark))
      ]

  begun_own : IsBegun (set walk.marks id.0 (Mark.Done (record { 0 = length walk.nodes }))) outline.shape.0
  begun_own = record {
    mark = Mark.Done (record { 0 = length walk.nodes });
    here =
        ap (slice_get (set walk.marks id.0 (Mark.Done (record { 0 = length walk.nodes })))) (ap (λ (i : ShapeId). i.0) shape)
        ∙ written walk.marks id.0 (Mark.Done (record { 0 = length walk.nodes })) begun_there;
    seen = refl;
  }

  building_after : (i : ℕ)
      → slice_get (set walk.marks id.0 (Mark.Done (record { 0 = length walk.nodes }))) i ≡ Some Mark.Building
      → slice_get start.marks i ≡ Some Mark.Building
  building_after i at =
      let own : Mark = Mark.Done (record { 0 = length walk.nodes }) in
      let before = building_before walk.marks id.0 own (λ (same : own ≡ Mark.Building). absurd (cc)) begun_there i at in
      sym (slice_get-set_other start.marks id.0 i Mark.Building before.0) ∙ keeps.building i before.1

  pub finished : IsFinished table root start id (done id (with_node walk outline))
  finished = record {
    kept = record {
      sound = record {
        marks = length-set walk.marks id.0 _ ∙ sound.marks;
        done = done_after;
        begun =
            begun_added walk.nodes outline _
            (λ i there at. begun_set walk.marks id.0 _ refl there.shape.0 (sound.begun i there at)) begun_own;
        nodes = right_added table root walk.nodes outline sound.nodes right;
      };
      keeps = record {
        nodes = record {
          each = λ i there at. (added_stays walk.nodes outline).each i there (keeps.nodes.each i there at);
        };
        building = building_after;
        begun =
            λ i begun.
            begun_set walk.marks id.0 _ refl i (keeps.begun i (begun_set start.marks id.0 Mark.Building refl i begun));
        unseen =
            omega (
              arith,
              unseen_finished walk.marks id.0 (record { 0 = length walk.nodes }),
              keeps.unseen,
              unseen_fewer start.marks id.0 unseen,
            );
      };
      node = record { outline = outline; here = slice_get_last walk.nodes outline; shape = shape };
    };
    mark = written walk.marks id.0 _ begun_there;
    last = sym (length-append walk.nodes (outline ∷ []));
  }
