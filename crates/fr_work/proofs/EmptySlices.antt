-- A pointer to no items: it fits, and what it means to put one.
use Rattle.std.proofs.Common.{◌≡◌, ℕ, Bool, true, false, Option, Some, None, Ok, Err, if◌then◌else◌, inl, inr, refl, sym, ◌∙◌, ap}
use Rattle.fr_work.specs.Common.{Call, Change, ComesTo, Def, IsRefused, Move, Operation, ReflectErrorKind, ShapeId, Site, Table, Val, Value, def_of, fits, list_of, no_vals, occurs, shape_at, view}
use Rattle.fr_shape.specs.declared.shape.KnownPointer.{KnownPointer}
use Rattle.fr_shape.specs.declared.shape.PointerDef.{PointerDef}
use Rattle.fr_shape.specs.Val.{ptr}
use Rattle.fr_model.specs.Contents.{is_slice}
use Rattle.fr_model.specs.Items.{shared_slice_by, shared_slice_refusal}
use Rattle.fr_model.specs.Step.{puts, set_empty_shared_slice}
use Rattle.fr_values.proofs.MadeDynamic.{settled_plain}
use Rattle.fr_work.proofs.PutLaws.{admits}
use Rattle.fr_work.proofs.SeenLaws.{shape_of_number}

no_items_fit : (table : Table) (s : ℕ) → is_slice (def_of table s) ≡ true → fits table s (list_of no_vals) ≡ true
no_items_fit table s is = go (def_of table s) refl is
  where
    go : (def : Def) → def_of table s ≡ def → is_slice def ≡ true → fits table s (list_of no_vals) ≡ true
    go (Def.Slice t) e h = rw (settled_plain table s (Def.Slice t) e (λ other. cc)) refl
    go _ e h = cc

slice_so : (b : Bool) → ◌≡◌ {A = Option Operation} (if b then None else Some Operation.PointeeNotSlice) None → b ≡ true
slice_so true e = refl
slice_so false e = cc

points_fit : (table : Table) (s : ℕ) (pointer : PointerDef) → def_of table s ≡ Def.Pointer pointer
    → shared_slice_by table pointer.known pointer.pointee ≡ None → fits table s (ptr (list_of no_vals)) ≡ true
points_fit table s pointer e may = go pointer.known pointer.pointee refl may
  where
    go : (known : Option KnownPointer) (pointee : Option ShapeId) → pointer.pointee ≡ pointee
        → shared_slice_by table known pointee ≡ None → fits table s (ptr (list_of no_vals)) ≡ true
    go (Some KnownPointer.SharedReference) (Some t) is none =
        rw (settled_plain table s (Def.Pointer pointer) e (λ other. cc), is)
        (no_items_fit table t.0 (slice_so (is_slice (def_of table t.0)) none))
    go (Some KnownPointer.SharedReference) None is none = cc
    go _ pointee is none = cc

pub no_slice_fits : (table : Table) (s : ℕ) → shared_slice_refusal table (def_of table s) ≡ None
    → fits table s (ptr (list_of no_vals)) ≡ true
no_slice_fits table s may = go (def_of table s) refl may
  where
    go : (def : Def) → def_of table s ≡ def → shared_slice_refusal table def ≡ None → fits table s (ptr (list_of no_vals)) ≡ true
    go (Def.Pointer pointer) e none = points_fit table s pointer e none
    go _ e none = cc

-- What it comes to, by what the site sees.
module _ (site : Site) (table : Table) (shape : ShapeId) (table_is : table ≡ site.shapes)
    (shape_is : shape.0 ≡ shape_at site) where
  pub shared_seen : shared_slice_refusal table (def_of table shape.0)
      ≡ shared_slice_refusal site.shapes (def_of site.shapes (shape_at site))
  shared_seen =
      ap (λ (t : Table). shared_slice_refusal t (def_of t shape.0)) table_is
      ∙ ap (λ (s : ℕ). shared_slice_refusal site.shapes (def_of site.shapes s)) shape_is

  pub shared_refused : (operation : Operation) → shared_slice_refusal table (def_of table shape.0) ≡ Some operation
      → IsRefused site Call.SetEmptySharedSlice (ReflectErrorKind.OperationFailed shape operation)
  shared_refused operation e =
      inl (
        (λ out. cc),
        λ hooks. rw (sym shared_seen ∙ e)
            (ap (λ (s : ShapeId). Err (ReflectErrorKind.OperationFailed s operation)) (shape_of_number site shape shape_is)),
      )

  module _ (is : shared_slice_refusal table (def_of table shape.0) ≡ None) where
    here : shared_slice_refusal site.shapes (def_of site.shapes (shape_at site)) ≡ None
    here = sym shared_seen ∙ is

    meant_so : set_empty_shared_slice site.shapes (shape_at site) site.state ≡ Ok (puts site.state (ptr (list_of no_vals)))
    meant_so = rw here refl

    pub no_slice_put : (value : Value) → view value ≡ ptr (list_of no_vals)
        → ComesTo site Call.SetEmptySharedSlice (Move.Stay (Change.Put value))
    no_slice_put value same = record {
      fitting = tt;
      same_tokens = λ t. sym (ap (λ (v : Val). occurs v t) same);
      may = ap (fits site.shapes (shape_at site)) same ∙ no_slice_fits site.shapes (shape_at site) here;
      late = λ late. cc;
      means = λ hooks. meant_so ∙ ap (λ (v : Val). Ok (puts site.state v)) (sym same);
    }

    -- where there is no memory for it
    pub no_slice_wanted : IsRefused site Call.SetEmptySharedSlice ReflectErrorKind.OutOfMemory
    no_slice_wanted = inr (refl, λ hooks. admits meant_so)
