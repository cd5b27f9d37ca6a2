-- What a form's error tells: that there is no plan, every bad field, or why the whole is refused.
use Rattle.std.proofs.Common.{◌≡◌, ℕ, List, [], ◌∷◌, ◌++◌, append_assoc, Option, Some, None, Result, Err, refl, sym, ◌∙◌, ap}
use Rattle.std.proofs.lemmas.List.{append-nil}
use Rattle.std.specs.List.{cons_option}
use Rattle.std.specs.Option.{option_map}
use Rattle.std.specs.Result.{result_err}
use Rattle.fr_shape.specs.declared.error.AllocError.{AllocError}
use Rattle.fr_shape.specs.declared.error.PlanError.{PlanError}
use Rattle.fr_shape.specs.declared.error.ReflectErrorKind.{ReflectErrorKind}
use Rattle.fr_shape.specs.Hooks.{Meanings}
use Rattle.fr_shape.specs.Look.{Table}
use Rattle.fr_shape.specs.Val.{Val}
use Rattle.fr_model.specs.Run.{Refusal}
use Rattle.fr_model.specs.Tree.{State, initial}
use Rattle.fr_partial.specs.Builder.{Builder}
use Rattle.fr_work.specs.declared.reflect_error.ReflectError.{ReflectError}
use Rattle.fr_work.specs.Starting.{RefusedWith}
use Rattle.fr_example.specs.declared.form.BadField.{BadField}
use Rattle.fr_example.specs.declared.form.FormError.{FormError}
use Rattle.fr_example.specs.declared.record.Pair.{Pair}
use Rattle.fr_example.specs.Forms.{bad_fields, fault_of, parses_field, refused_for, refused, without_plan, IsNoPlan, IsOutcomeOfForm, NamesBad, TellsNoPlan}
use Rattle.fr_example.specs.Outcomes.{IsOutcome}

-- No plan

-- what refuses a builder is that there is no plan
pub no_plan : (refusal : Option AllocError) (why : PlanError) → RefusedWith {A = ℕ} refusal (Err why) → IsNoPlan refusal (without_plan why)
no_plan refusal (PlanError.Alloc error) told = told
no_plan refusal PlanError.OutOfMemory told = tt

pub tells_no_plan : (refusal : Option AllocError) (error : FormError) → IsNoPlan refusal error → TellsNoPlan refusal (Err error)
tells_no_plan refusal (FormError.NoPlan error) told = told
tells_no_plan refusal (FormError.Bad named) told = absurd told
tells_no_plan refusal (FormError.Refused error) told = absurd told
tells_no_plan refusal FormError.OutOfMemory told = tt

pub no_plan_no_bad : (refusal : Option AllocError) (bad : List BadField) (error : FormError) → IsNoPlan refusal error → NamesBad bad (Err error)
no_plan_no_bad refusal bad (FormError.NoPlan error) told = tt
no_plan_no_bad refusal bad (FormError.Bad named) told = absurd told
no_plan_no_bad refusal bad (FormError.Refused error) told = absurd told
no_plan_no_bad refusal bad FormError.OutOfMemory told = tt

pub no_plan_no_run : (refusal : Option AllocError) (meant : Result Val Refusal) (error : FormError) → IsNoPlan refusal error
    → IsOutcomeOfForm meant (Err error)
no_plan_no_run refusal meant (FormError.NoPlan error) told = tt
no_plan_no_run refusal meant (FormError.Bad named) told = absurd told
no_plan_no_run refusal meant (FormError.Refused error) told = absurd told
no_plan_no_run refusal meant FormError.OutOfMemory told = tt

-- A refusal of the builder

planned_for : (refusal : Option AllocError) (kind : ReflectErrorKind) (error : ReflectError) → refusal ≡ None
    → TellsNoPlan refusal (Err (refused_for kind error))
planned_for refusal ReflectErrorKind.OutOfMemory error none = tt
planned_for refusal _ error none = none

pub planned_refused : (refusal : Option AllocError) (error : ReflectError) → refusal ≡ None → TellsNoPlan refusal (Err (refused error))
planned_refused refusal error none = planned_for refusal error.kind error none

none_bad_for : (bad : List BadField) (kind : ReflectErrorKind) (error : ReflectError) → bad ≡ []
    → NamesBad bad (Err (refused_for kind error))
none_bad_for bad ReflectErrorKind.OutOfMemory error none = tt
none_bad_for bad _ error none = none

pub none_bad_refused : (bad : List BadField) (error : ReflectError) → bad ≡ [] → NamesBad bad (Err (refused error))
none_bad_refused bad error none = none_bad_for bad error.kind error none

outcome_for : (meant : Result Val Refusal) (kind : ReflectErrorKind) (error : ReflectError) → error.kind ≡ kind → IsOutcome meant (Err error)
    → IsOutcomeOfForm meant (Err (refused_for kind error))
outcome_for meant ReflectErrorKind.OutOfMemory error is outcome = tt
outcome_for meant _ error is outcome = (λ memory. cc, outcome)

pub outcome_refused : (meant : Result Val Refusal) (error : ReflectError) → IsOutcome meant (Err error)
    → IsOutcomeOfForm meant (Err (refused error))
outcome_refused meant error outcome = outcome_for meant error.kind error refl outcome

-- Bad fields

module _ (hooks : Meanings) (table : Table) (root : ℕ) where
  -- bad ones that were found, and those among the pairs that are left, are all
  abbrev pub AreAll : (all bad : List BadField) → (left : List Pair) → Type 0
  AreAll all bad left = all ≡ bad ++ bad_fields hooks table root left

  -- a pair is good
  pub none_more : (all bad : List BadField) (left rest : List Pair) (pair : Pair)
      → AreAll all bad left → left ≡ pair ∷ rest → fault_of hooks table root pair ≡ None → AreAll all bad rest
  none_more all bad left rest pair are is good =
      are ∙ ap (λ (ps : List Pair). bad ++ bad_fields hooks table root ps) is
      ∙ ap
      (λ (fault : Option ReflectErrorKind).
      bad ++ cons_option (option_map (λ (kind : ReflectErrorKind). record { name = pair.name; kind = kind }) fault)
      (bad_fields hooks table root rest))
      good

  -- a pair is bad
  pub one_more : (all bad : List BadField) (left rest : List Pair) (pair : Pair) (kind : ReflectErrorKind) (name : List ℕ)
      → AreAll all bad left → left ≡ pair ∷ rest → fault_of hooks table root pair ≡ Some kind → name ≡ pair.name
      → AreAll all (bad ++ record { name = name; kind = kind } ∷ []) rest
  one_more all bad left rest pair kind name are is why named =
      are ∙ ap (λ (ps : List Pair). bad ++ bad_fields hooks table root ps) is
      ∙ ap
      (λ (fault : Option ReflectErrorKind).
      bad ++ cons_option (option_map (λ (kind : ReflectErrorKind). record { name = pair.name; kind = kind }) fault)
      (bad_fields hooks table root rest))
      why
      ∙ ap (λ (n : List ℕ). bad ++ record { name = n; kind = kind } ∷ bad_fields hooks table root rest) (sym named)
      ∙ sym (append_assoc bad (record { name = name; kind = kind } ∷ []) (bad_fields hooks table root rest))

  -- none is left
  pub no_more : (all bad : List BadField) (left : List Pair) → AreAll all bad left → left ≡ [] → all ≡ bad
  no_more all bad left are none =
      are ∙ ap (λ (ps : List Pair). bad ++ bad_fields hooks table root ps) none ∙ append-nil bad

-- what a builder at which nothing was put finds of a pair is what is meant
pub tried : {H : Type 0} (hooks own : Meanings) (table : Table) (root : ℕ) (trial : Builder H) (pair : Pair) (fault : Option ReflectErrorKind)
    → own ≡ hooks → trial.shapes ≡ table → trial.root ≡ root → trial.state ≡ initial table root
    → fault ≡ result_err (parses_field own trial.shapes trial.root trial.state pair) → fault_of hooks table root pair ≡ fault
tried hooks own table root trial pair fault means shapes at_root begun is =
    sym
    (is
    ∙ ap (λ (h : Meanings). result_err (parses_field h trial.shapes trial.root trial.state pair)) means
    ∙ ap (λ (t : Table). result_err (parses_field hooks t trial.root trial.state pair)) shapes
    ∙ ap (λ (r : ℕ). result_err (parses_field hooks table r trial.state pair)) at_root
    ∙ ap (λ (s : State). result_err (parses_field hooks table root s pair)) begun)
