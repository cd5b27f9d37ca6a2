-- Validators of children that are all there, by what a plan says of their fields.
use Rattle.std.proofs.Common.{◌≡◌, ℕ, List, false, Option, Some, None, IsSome, slice_get, sym, ◌∙◌, ap}
use Rattle.fr_frame.specs.Common.{AreTold, Cell, Field, FieldPlan, Meanings, Plan, ReflectErrorKind, Table, Val, as_fields, def_of, failing_child, first_asked, first_invalid, has_validators, refused_of, trees_of, values_of}
use Rattle.fr_model.specs.Complete.{failing_field}
use Rattle.fr_frame.specs.Filling.{IsToldAt}
use Rattle.fr_frame.proofs.AskLaws.{fails, invalid_is, there_passes, there_same}
use Rattle.fr_frame.proofs.LacksByChildren.{field_fails, passes_all}

-- what the plan tells of the validators of child i is asked of its value
abbrev pub refuses : Meanings → Plan → List FieldPlan → ℕ → (own : Option Val) → Option ReflectErrorKind
refuses means plan told i own = refused_of means plan (slice_get told i) own

module _ (means : Meanings) (table : Table) (plan : Plan) (s : ℕ) (selected : Option ℕ) (cs : List Cell) (there : IsSome (values_of cs)) where
  pub valid_is : (told : List FieldPlan) → AreTold table plan s selected told
      → first_invalid means table s (as_fields selected) 0 (trees_of cs) ≡ first_asked (refuses means plan told) 0 cs
  valid_is told are =
      invalid_is means table s (as_fields selected) 0 cs
      ∙ there_same (fails means table s (as_fields selected)) (refuses means plan told)
      (λ i v. sym (one i v (slice_get told i) (are.each i))) 0 cs there
    where
      one : (i : ℕ) (v : Val) (found : Option FieldPlan) → IsToldAt table plan s selected i found
          → refused_of means plan found (Some v) ≡ failing_child means table s (as_fields selected) i (Some v)
      one i v (Some told) is = field_fails is means v
      one i v None is = sym (ap (λ (field : Option Field). failing_field means table s selected i field (Some v)) is)

  -- where no field has a validator none fails
  pub all_valid : has_validators (def_of table s) selected ≡ false → first_invalid means table s (as_fields selected) 0 (trees_of cs) ≡ None
  all_valid none =
      invalid_is means table s (as_fields selected) 0 cs
      ∙ there_passes (fails means table s (as_fields selected)) (λ i v. passes_all means table s selected none i v) 0 cs there
