-- What lines come to: where a line is refused, and where all were taken.
use Rattle.std.proofs.Common.{◌≡◌, ◌⊎◌, inl, inr, ℕ, ◌+◌, ◌++◌, List, [], ◌∷◌, length, Option, None, Result, Ok, Err, IfErr, refl, sym, ◌∙◌, ap, subst, arith}
use Rattle.std.specs.Prelude.{flat_map}
use Rattle.fr_shape.specs.declared.error.AllocError.{AllocError}
use Rattle.fr_shape.specs.declared.error.PlanError.{PlanError}
use Rattle.fr_shape.specs.declared.error.ReflectErrorKind.{ReflectErrorKind}
use Rattle.fr_shape.specs.Hooks.{Meanings}
use Rattle.fr_shape.specs.Look.{Table}
use Rattle.fr_shape.specs.Val.{Val}
use Rattle.fr_model.specs.Commands.{Call}
use Rattle.fr_model.specs.Paths.{path_of}
use Rattle.fr_model.specs.Run.{Refusal, refused_at, run_from, full_run, alloc_refusal, unless_alloc, numbered, and_then}
use Rattle.fr_model.specs.Step.{step, build}
use Rattle.fr_model.specs.Sequences.{AllLeadTo}
use Rattle.fr_model.specs.Tree.{State, initial}
use Rattle.fr_partial.specs.Builder.{Builder, IsBuild, IsCall}
use Rattle.fr_work.specs.BuiltValue.{BuiltValue}
use Rattle.fr_work.specs.Starting.{RefusedWith}
use Rattle.fr_work.specs.declared.reflect_error.ReflectError.{ReflectError}
use Rattle.fr_example.specs.Meant.{kind_of}
use Rattle.fr_example.specs.Loading.{calls_of_line, calls_of_lines, script_of, IsOfLine, IsAfterLines}
use Rattle.fr_partial.specs.Several.{StopsAtOne}
use Rattle.fr_example.specs.Outcomes.{IsOutcome}
use Rattle.fr_example.proofs.LoadingCalls.{IsOver, same_step}
use Rattle.fr_example.proofs.LoadingRuns.{lead_on, runs_behind, run_refused, script_stops, is_of_line, calls_of_all}

-- The lines so far were taken, so many, and led to a state.
pub record IsReading (hooks : Meanings) (table : Table) (root : ℕ) (all : List (List ℕ)) (count : ℕ) (now : State) (rest : List (List ℕ)) : Type 0 where
  pub done : List (List ℕ)
  pub in_order : all ≡ done ++ rest
  pub counted : count ≡ length done
  pub led : AllLeadTo hooks table root (initial table root) (calls_of_lines done) now

-- want of memory is told at any time
pub memory_told : (meant : Result Val Refusal) (error : ReflectError) → error.kind ≡ ReflectErrorKind.OutOfMemory → IsOutcome meant (Err error)
memory_told (Ok v) error memory = memory
memory_told (Err refusal) error memory = inl memory

-- what is told of a refusal
pub record IsTold (So : Refusal → Type 0) (meant : Result Val Refusal) (error : ReflectError) : Type 0 where
  pub outcome : IsOutcome meant (Err error)
  pub number : (error.kind ≡ ReflectErrorKind.OutOfMemory) ⊎ IfErr meant So

no_memory : (So : Refusal → Type 0) (meant : Result Val Refusal) (error : ReflectError) → error.kind ≡ ReflectErrorKind.OutOfMemory
    → IsTold So meant error
no_memory So meant error memory = record { outcome = memory_told meant error memory; number = inl memory }

refusal_told : (So : Refusal → Type 0) (meant : Result Val Refusal) (error : ReflectError) (n : ℕ) (at : State)
    → meant ≡ Err (refused_at n at error.kind) → error.path ≡ path_of at → So (refused_at n at error.kind) → IsTold So meant error
refusal_told So meant error n at e path so =
    subst (λ (m : Result Val Refusal). IsTold So m error) (sym e) (record { outcome = inr (refl, path); number = inr so })

module _ (hooks : Meanings) (table : Table) (root : ℕ) (all : List (List ℕ)) (planned : alloc_refusal table root ≡ None) where
  -- there is a builder
  runs : full_run hooks table root (script_of all) ≡ run_from hooks table root 0 (initial table root) (script_of all)
  runs =
      ap (λ (refusal : Option AllocError). unless_alloc refusal (run_from hooks table root 0 (initial table root) (script_of all))) planned

  -- a call is refused, which the others of the script lead to
  told_refused : (So : Refusal → Type 0) (made : List Call) (stopped : Call) (unmade : List Call) (at : State) (error : ReflectError)
      → script_of all ≡ made ++ stopped ∷ unmade → AllLeadTo hooks table root (initial table root) made at
      → (error.kind ≡ ReflectErrorKind.OutOfMemory) ⊎ (step hooks table root at stopped ≡ Err error.kind)
      → error.path ≡ path_of at → So (refused_at (0 + length made) at error.kind)
      → IsTold So (full_run hooks table root (script_of all)) error
  told_refused So made stopped unmade at error in_order led (inl memory) path so =
      no_memory So (full_run hooks table root (script_of all)) error memory
  told_refused So made stopped unmade at error in_order led (inr refused) path so =
      refusal_told So (full_run hooks table root (script_of all)) error (0 + length made) at
      (runs
      ∙ ap (λ (calls : List Call). run_from hooks table root 0 (initial table root) calls) in_order
      ∙ run_refused hooks table root 0 made stopped unmade (initial table root) at error.kind led refused)
      path so

  -- a line is refused
  pub line_told : {H : Type 0} (means : H → Meanings) (given : H) (n : ℕ) (before : Builder H) (line : List ℕ) (rest : List (List ℕ)) (error : ReflectError)
      → means given ≡ hooks → IsOver table root given before
      → IsReading hooks table root all n before.state (line ∷ rest)
      → StopsAtOne (means before.hooks) before (calls_of_line line) error
      → IsTold (IsOfLine all (n + 1)) (full_run hooks table root (script_of all)) error
  line_told means given n before line rest error is over reading stops =
      told_refused (IsOfLine all (n + 1)) (calls_of_lines reading.done ++ stops.made) stops.stopped
      (stops.unmade ++ flat_map calls_of_line rest ++ Call.FinishDeferred ∷ []) stops.at error
      (script_stops all reading.done line rest stops.made stops.stopped stops.unmade reading.in_order stops.in_order)
      (lead_on hooks table root (calls_of_lines reading.done) stops.made (initial table root) before.state stops.at reading.led led)
      (refused stops.refused) stops.path
      (subst (λ (m : ℕ). IsOfLine all (m + 1) (refused_at (0 + length (calls_of_lines reading.done ++ stops.made)) stops.at error.kind))
      (sym reading.counted)
      (is_of_line all reading.done line rest stops.made stops.stopped stops.unmade stops.at error.kind reading.in_order stops.in_order))
    where
      same : means before.hooks ≡ hooks
      same = ap means over.hooks ∙ is

      led : AllLeadTo hooks table root before.state stops.made stops.at
      led =
          subst (λ (h : Meanings). AllLeadTo h table root before.state stops.made stops.at) same
          (subst (λ (t : Table). AllLeadTo (means before.hooks) t root before.state stops.made stops.at) over.shapes
          (subst (λ (r : ℕ). AllLeadTo (means before.hooks) before.shapes r before.state stops.made stops.at) over.root stops.led))

      refused : (error.kind ≡ ReflectErrorKind.OutOfMemory)
          ⊎ (step (means before.hooks) before.shapes before.root stops.at stops.stopped ≡ Err error.kind)
          → (error.kind ≡ ReflectErrorKind.OutOfMemory) ⊎ (step hooks table root stops.at stops.stopped ≡ Err error.kind)
      refused (inl memory) = inl memory
      refused (inr e) =
          inr (
          sym (
          ap (λ (h : Meanings). step h before.shapes before.root stops.at stops.stopped) same
          ∙ ap (λ (t : Table). step hooks t before.root stops.at stops.stopped) over.shapes
          ∙ ap (λ (r : ℕ). step hooks table r stops.at stops.stopped) over.root
          )
          ∙ e
          )

  -- all lines were taken
  at_end : {n : ℕ} {now : State} → IsReading hooks table root all n now [] → AllLeadTo hooks table root (initial table root) (calls_of_lines all) now
  at_end {n} {now} reading =
      subst (λ (ls : List (List ℕ)). AllLeadTo hooks table root (initial table root) (calls_of_lines ls) now)
      (sym (reading.in_order ∙ no_more reading.done)) reading.led
    where
      no_more : (done : List (List ℕ)) → done ++ [] ≡ done
      no_more [] = refl
      no_more (line ∷ done) = ap (λ (ls : List (List ℕ)). line ∷ ls) (no_more done)

  after_lines : (m : ℕ) (at : State) (kind : ReflectErrorKind) → IsAfterLines all (refused_at (0 + length (calls_of_lines all) + m) at kind)
  after_lines m at kind = omega (arith, calls_of_all all)

  -- a call that the builder meets so, over what was given
  over_given : {H : Type 0} (means : H → Meanings) (given : H) (before : Builder H) (call : Call) → means given ≡ hooks → IsOver table root given before
      → step hooks table root before.state call ≡ step (means before.hooks) before.shapes before.root before.state call
  over_given means given before call is over =
      ap (λ (h : Meanings). step h table root before.state call) (sym is) ∙ same_step means table root given before call over

  -- and the end of deferred mode is refused
  pub finish_told : {H : Type 0} (means : H → Meanings) (given : H) (n : ℕ) (before : Builder H) (error : ReflectError) (old new : List ℕ)
      → means given ≡ hooks → IsOver table root given before → IsReading hooks table root all n before.state []
      → IsCall (means before.hooks) before Call.FinishDeferred (Err error) old new
      → IsTold (IsAfterLines all) (full_run hooks table root (script_of all)) error
  finish_told means given n before error old new is over reading owed =
      told_refused (IsAfterLines all) (calls_of_lines all) Call.FinishDeferred [] before.state error refl (at_end reading)
      (refused owed.step) owed.path
      (subst (λ (m : ℕ). IsAfterLines all (refused_at m before.state error.kind)) (omega arith) (after_lines 0 before.state error.kind))
    where
      refused : (error.kind ≡ ReflectErrorKind.OutOfMemory)
          ⊎ (step (means before.hooks) before.shapes before.root before.state Call.FinishDeferred ≡ Err error.kind)
          → (error.kind ≡ ReflectErrorKind.OutOfMemory) ⊎ (step hooks table root before.state Call.FinishDeferred ≡ Err error.kind)
      refused (inl memory) = inl memory
      refused (inr e) = inr (over_given means given before Call.FinishDeferred is over ∙ e)

  -- or it ends: then the root is built, or not
  module _ {H : Type 0} (means : H → Meanings) (given : H) (n : ℕ) (before after : Builder H) (old new : List ℕ) (is : means given ≡ hooks) (over : IsOver table root given before) (reading : IsReading hooks table root all n before.state []) (owed : IsCall (means before.hooks) before Call.FinishDeferred (Ok after) old new) where
    run_to_end : full_run hooks table root (script_of all)
        ≡ numbered (0 + length (calls_of_lines all) + 1) after.state (build hooks table root after.state)
    run_to_end =
        runs
        ∙ runs_behind hooks table root 0 (calls_of_lines all) (Call.FinishDeferred ∷ []) (initial table root) before.state (at_end reading)
        ∙ ap
        (λ (o : Result State ReflectErrorKind). and_then (0 + length (calls_of_lines all)) before.state o (λ next. run_from hooks table root (0 + length (calls_of_lines all) + 1) next []))
        (over_given means given before Call.FinishDeferred is over ∙ owed.step.0)

    build_given : build hooks table root after.state ≡ build (means after.hooks) after.shapes after.root after.state
    build_given =
        sym (
        ap (λ (h : Meanings). build h after.shapes after.root after.state) (ap means (owed.step.3 ∙ over.hooks) ∙ is)
        ∙ ap (λ (t : Table). build hooks t after.root after.state) (owed.step.1 ∙ over.shapes)
        ∙ ap (λ (r : ℕ). build hooks table r after.state) (owed.step.2 ∙ over.root)
        )

    pub value_told : (built : BuiltValue) (old' new' : List ℕ) → IsBuild (means after.hooks) after (Ok built) old' new'
        → IsOutcome (full_run hooks table root (script_of all)) (Ok built)
    value_told built old' new' owed_last =
        subst (λ (m : Result Val Refusal). IsOutcome m (Ok built))
        (sym (run_to_end ∙ ap (λ (r : Result Val ReflectErrorKind). numbered (0 + length (calls_of_lines all) + 1) after.state r) (build_given ∙ owed_last.built.0)))
        refl

    pub build_told : (error : ReflectError) (old' new' : List ℕ) → IsBuild (means after.hooks) after (Err error) old' new'
        → IsTold (IsAfterLines all) (full_run hooks table root (script_of all)) error
    build_told error old' new' owed_last = go owed_last.built
      where
        go : (error.kind ≡ ReflectErrorKind.OutOfMemory) ⊎ (build (means after.hooks) after.shapes after.root after.state ≡ Err error.kind)
            → IsTold (IsAfterLines all) (full_run hooks table root (script_of all)) error
        go (inl memory) = no_memory (IsAfterLines all) (full_run hooks table root (script_of all)) error memory
        go (inr e) =
            refusal_told (IsAfterLines all) (full_run hooks table root (script_of all)) error (0 + length (calls_of_lines all) + 1) after.state
            (run_to_end ∙ ap (λ (r : Result Val ReflectErrorKind). numbered (0 + length (calls_of_lines all) + 1) after.state r) (build_given ∙ e))
            owed_last.path (after_lines 1 after.state error.kind)

-- there is no builder
pub unplanned_told : (hooks : Meanings) (table : Table) (root : ℕ) (script : List Call) (why : PlanError)
    → RefusedWith {A = Unit {0}} (alloc_refusal table root) (Err why)
    → IsOutcome (full_run hooks table root script) (Err (record { kind = kind_of why; path = [] }))
unplanned_told hooks table root script (PlanError.Alloc error) refused =
    subst (λ (m : Result Val Refusal). IsOutcome m (Err (record { kind = ReflectErrorKind.Alloc error; path = [] })))
    (sym (ap (λ (refusal : Option AllocError). unless_alloc refusal (run_from hooks table root 0 (initial table root) script)) refused))
    (inr (refl, refl))
unplanned_told hooks table root script PlanError.OutOfMemory refused =
    memory_told (full_run hooks table root script) (record { kind = ReflectErrorKind.OutOfMemory; path = [] }) refl
