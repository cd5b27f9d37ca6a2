-- How a run goes on behind the calls for one field of a form, and what it comes to.
use Rattle.std.proofs.Common.{◌≡◌, inl, inr, ℕ, ◌+◌, ◌*◌, ◌<◌, suc, List, [], ◌∷◌, length, get_or, drop, Option, None, Result, Ok, Err, refl, sym, ◌∙◌, ap, subst, add-one, arith}
use Rattle.std.proofs.Math.Seq.{drop-cons}
use Rattle.fr_shape.specs.declared.error.AllocError.{AllocError}
use Rattle.fr_shape.specs.declared.error.ReflectErrorKind.{ReflectErrorKind}
use Rattle.fr_shape.specs.Hooks.{Meanings}
use Rattle.fr_shape.specs.Look.{Table}
use Rattle.fr_shape.specs.Val.{Val}
use Rattle.fr_model.specs.Commands.{Call}
use Rattle.fr_model.specs.Run.{Refusal, alloc_refusal, and_then, numbered, run_from, unless_alloc, full_run}
use Rattle.fr_model.specs.Step.{step, build}
use Rattle.fr_model.specs.Tree.{State, initial}
use Rattle.fr_work.specs.declared.reflect_error.ReflectError.{ReflectError}
use Rattle.fr_partial.specs.Builder.{Builder, IsBuilt, TellsPlaceBefore}
use Rattle.fr_work.specs.BuiltValue.{BuiltValue}
use Rattle.fr_example.specs.declared.record.Pair.{Pair}
use Rattle.fr_example.specs.Forms.{FailsFilling, fills_field, form_script}
use Rattle.fr_example.specs.Outcomes.{IsOutcome}
use Rattle.fr_example.specs.Putting.{then_call, FailsAfter}

-- whatever was meant, memory may run out
no_memory : (meant : Result Val Refusal) (error : ReflectError) → error.kind ≡ ReflectErrorKind.OutOfMemory → IsOutcome meant (Err error)
no_memory (Ok v) error memory = memory
no_memory (Err refusal) error memory = inl memory

module _ (hooks : Meanings) (table : Table) (root : ℕ) where
  -- Calls that fail

  -- what a run comes to whose next call fails
  fails_at : (n : ℕ) (here : State) (call : Call) (calls : List Call) (error : ReflectError)
      → FailsAfter hooks table root (Ok here) call error → IsOutcome (run_from hooks table root n here (call ∷ calls)) (Err error)
  fails_at n here call calls error (there, inl memory) = no_memory (run_from hooks table root n here (call ∷ calls)) error memory
  fails_at n here call calls error (there, inr e) =
      subst
      (λ (r : Result State ReflectErrorKind).
      IsOutcome (and_then n here r (λ next. run_from hooks table root (n + 1) next calls)) (Err error))
      (sym e) (inr (refl, there))

  -- the same of one that comes after another
  fails_second : (n : ℕ) (here : State) (done : Result State ReflectErrorKind) (call : Call) (calls : List Call) (error : ReflectError)
      → FailsAfter hooks table root done call error
      → IsOutcome (and_then n here done (λ next. run_from hooks table root (n + 1) next (call ∷ calls))) (Err error)
  fails_second n here (Ok next) call calls error fails = fails_at (n + 1) next call calls error fails
  fails_second n here (Err kind) call calls error fails = absurd fails

  -- and after two others
  fails_third : (n : ℕ) (here : State) (done : Result State ReflectErrorKind) (second call : Call) (calls : List Call) (error : ReflectError)
      → FailsAfter hooks table root (then_call hooks table root done second) call error
      → IsOutcome (and_then n here done (λ next. run_from hooks table root (n + 1) next (second ∷ call ∷ calls))) (Err error)
  fails_third n here (Ok next) second call calls error fails =
      fails_second (n + 1) next (step hooks table root next second) call calls error fails
  fails_third n here (Err kind) second call calls error fails = absurd fails

  pub fails_filling : (n : ℕ) (here : State) (pair : Pair) (pairs : List Pair) (error : ReflectError)
      → FailsFilling hooks table root here pair error
      → IsOutcome (run_from hooks table root n here (form_script (pair ∷ pairs))) (Err error)
  fails_filling n here pair pairs error (inl (inl fails)) =
      fails_at n here (Call.BeginField pair.name) (Call.ParseFromStr pair.text ∷ Call.End ∷ form_script pairs) error fails
  fails_filling n here pair pairs error (inl (inr fails)) =
      fails_second n here (step hooks table root here (Call.BeginField pair.name)) (Call.ParseFromStr pair.text)
      (Call.End ∷ form_script pairs) error fails
  fails_filling n here pair pairs error (inr fails) =
      fails_third n here (step hooks table root here (Call.BeginField pair.name)) (Call.ParseFromStr pair.text) Call.End
      (form_script pairs) error fails

  -- Calls that are done

  goes_on : (n : ℕ) (here after : State) (done : Result State ReflectErrorKind) (calls : List Call) → done ≡ Ok after
      → and_then n here done (λ next. run_from hooks table root (n + 1) next calls) ≡ run_from hooks table root (n + 1) after calls
  goes_on n here after done calls is =
      ap (λ (r : Result State ReflectErrorKind). and_then n here r (λ next. run_from hooks table root (n + 1) next calls)) is

  goes_on_second : (n : ℕ) (here after : State) (done : Result State ReflectErrorKind) (call : Call) (calls : List Call)
      → then_call hooks table root done call ≡ Ok after
      → and_then n here done (λ next. run_from hooks table root (n + 1) next (call ∷ calls))
      ≡ run_from hooks table root (n + 1 + 1) after calls
  goes_on_second n here after (Ok next) call calls is = goes_on (n + 1) next after (step hooks table root next call) calls is
  goes_on_second n here after (Err kind) call calls is = cc

  goes_on_third : (n : ℕ) (here after : State) (done : Result State ReflectErrorKind) (second call : Call) (calls : List Call)
      → then_call hooks table root (then_call hooks table root done second) call ≡ Ok after
      → and_then n here done (λ next. run_from hooks table root (n + 1) next (second ∷ call ∷ calls))
      ≡ run_from hooks table root (n + 1 + 1 + 1) after calls
  goes_on_third n here after (Ok next) second call calls is =
      goes_on_second (n + 1) next after (step hooks table root next second) call calls is
  goes_on_third n here after (Err kind) second call calls is = cc

  -- the field is filled, and the run goes on with the others
  pub fills_on : (i : ℕ) (here after : State) (pair : Pair) (pairs : List Pair)
      → fills_field hooks table root here pair ≡ Ok after
      → run_from hooks table root (3 * i) here (form_script (pair ∷ pairs))
      ≡ run_from hooks table root (3 * (i + 1)) after (form_script pairs)
  fills_on i here after pair pairs is =
      let three : 3 * i + 1 + 1 + 1 ≡ 3 * (i + 1) = omega arith in
      goes_on_third (3 * i) here after (step hooks table root here (Call.BeginField pair.name)) (Call.ParseFromStr pair.text)
      Call.End (form_script pairs) is
      ∙ ap (λ (n : ℕ). run_from hooks table root n after (form_script pairs)) three

  -- The end

  is_outcome_of_build : {H : Type 0} (n : ℕ) (before : Builder H) (meant : Result Val ReflectErrorKind) (result : Result BuiltValue ReflectError)
      → before.shapes ≡ table → before.root ≡ root
      → build hooks table root before.state ≡ meant
      → IsBuilt hooks before result → TellsPlaceBefore before result
      → IsOutcome (numbered n before.state meant) result
  is_outcome_of_build n before meant (Ok built) shapes at_root is (so, calls) place =
      let told : build hooks table root before.state ≡ Ok built.value
      = ap (λ (r : ℕ). build hooks table r before.state) (sym at_root)
      ∙ ap (λ (t : Table). build hooks t before.root before.state) (sym shapes) ∙ so in
      subst (λ (r : Result Val ReflectErrorKind). IsOutcome (numbered n before.state r) (Ok built)) (sym told ∙ is) refl
  is_outcome_of_build n before meant (Err error) shapes at_root is (inl memory) place = no_memory (numbered n before.state meant) error memory
  is_outcome_of_build n before meant (Err error) shapes at_root is (inr so) place =
      let told : build hooks table root before.state ≡ Err error.kind
      = ap (λ (r : ℕ). build hooks table r before.state) (sym at_root)
      ∙ ap (λ (t : Table). build hooks t before.root before.state) (sym shapes) ∙ so in
      subst (λ (r : Result Val ReflectErrorKind). IsOutcome (numbered n before.state r) (Err error)) (sym told ∙ is) (inr (refl, place))

-- a run at its end comes to what is built
pub builds : {H : Type 0} (hooks own : Meanings) (table : Table) (root n : ℕ) (before : Builder H) (result : Result BuiltValue ReflectError)
    → own ≡ hooks → before.shapes ≡ table → before.root ≡ root
    → IsBuilt own before result → TellsPlaceBefore before result
    → IsOutcome (run_from hooks table root n before.state []) result
builds hooks own table root n before result means shapes at_root built place =
    is_outcome_of_build hooks table root n before (build hooks table root before.state) result shapes at_root refl
    (subst (λ (h : Meanings). IsBuilt h before result) means built) place

-- The whole

-- where there is a plan, the run of a builder at which nothing was put is the whole run
pub whole_run : {H : Type 0} (hooks own : Meanings) (table : Table) (root : ℕ) (calls : List Call) (before : Builder H)
    (result : Result BuiltValue ReflectError) → own ≡ hooks → before.shapes ≡ table → before.root ≡ root
    → before.state ≡ initial table root → alloc_refusal table root ≡ None
    → IsOutcome (run_from own before.shapes before.root 0 before.state calls) result
    → IsOutcome (full_run hooks table root calls) result
whole_run hooks own table root calls before result means shapes at_root begun planned =
    subst (λ (meant : Result Val Refusal). IsOutcome meant result)
    (ap (λ (h : Meanings). run_from h before.shapes before.root 0 before.state calls) means
    ∙ ap (λ (t : Table). run_from hooks t before.root 0 before.state calls) shapes
    ∙ ap (λ (r : ℕ). run_from hooks table r 0 before.state calls) at_root
    ∙ ap (λ (s : State). run_from hooks table root 0 s calls) begun
    ∙ sym (ap (λ (refusal : Option AllocError). unless_alloc refusal (run_from hooks table root 0 (initial table root) calls)) planned))

-- The pairs that are left

-- the next one, and those behind it
pub next_of : (pairs : List Pair) (i : ℕ) (pair : Pair) → i < length pairs → pair ≡ get_or pairs i pair
    → drop i pairs ≡ pair ∷ drop (i + 1) pairs
next_of pairs i pair below is =
    drop-cons pairs i pair below ∙ ap (λ (p : Pair). p ∷ drop (suc i) pairs) (sym is)
    ∙ ap (λ (k : ℕ). pair ∷ drop k pairs) (sym (add-one i))

-- One field, by a builder over the same hooks, table and root

module _ {H : Type 0} (hooks own : Meanings) (table : Table) (root i : ℕ) (before : Builder H) (pairs : List Pair) (pair : Pair) (means : own ≡ hooks) (shapes : before.shapes ≡ table) (at_root : before.root ≡ root) (below : i < length pairs) (is : pair ≡ get_or pairs i pair) where
  -- the run goes on
  pub one_filled : (after : State) → fills_field own before.shapes before.root before.state pair ≡ Ok after
      → run_from hooks table root (3 * (i + 1)) after (form_script (drop (i + 1) pairs))
      ≡ run_from hooks table root (3 * i) before.state (form_script (drop i pairs))
  one_filled after filled =
      let here : fills_field hooks table root before.state pair ≡ Ok after
      = sym
      (ap (λ (h : Meanings). fills_field h before.shapes before.root before.state pair) means
      ∙ ap (λ (t : Table). fills_field hooks t before.root before.state pair) shapes
      ∙ ap (λ (r : ℕ). fills_field hooks table r before.state pair) at_root)
      ∙ filled in
      sym (fills_on hooks table root i before.state after pair (drop (i + 1) pairs) here)
      ∙ ap (λ (ps : List Pair). run_from hooks table root (3 * i) before.state (form_script ps)) (sym (next_of pairs i pair below is))

  -- or ends
  pub one_failed : (meant : Result Val Refusal) (error : ReflectError) → FailsFilling own before.shapes before.root before.state pair error
      → run_from hooks table root (3 * i) before.state (form_script (drop i pairs)) ≡ meant → IsOutcome meant (Err error)
  one_failed meant error fails run =
      let here : FailsFilling hooks table root before.state pair error
      = subst (λ (r : ℕ). FailsFilling hooks table r before.state pair error) at_root
      (subst (λ (t : Table). FailsFilling hooks t before.root before.state pair error) shapes
      (subst (λ (h : Meanings). FailsFilling h before.shapes before.root before.state pair error) means fails)) in
      subst (λ (r : Result Val Refusal). IsOutcome r (Err error))
      (ap (λ (ps : List Pair). run_from hooks table root (3 * i) before.state (form_script ps)) (sym (next_of pairs i pair below is)) ∙ run)
      (fails_filling hooks table root (3 * i) before.state pair (drop (i + 1) pairs) error here)

-- and where none is left, the value is built
pub all_filled : {H : Type 0} (hooks own : Meanings) (table : Table) (root i : ℕ) (before : Builder H) (pairs : List Pair)
    (meant : Result Val Refusal) (result : Result BuiltValue ReflectError) → own ≡ hooks → before.shapes ≡ table → before.root ≡ root
    → drop i pairs ≡ [] → run_from hooks table root (3 * i) before.state (form_script (drop i pairs)) ≡ meant
    → IsBuilt own before result → TellsPlaceBefore before result → IsOutcome meant result
all_filled hooks own table root i before pairs meant result means shapes at_root none run built place =
    subst (λ (r : Result Val Refusal). IsOutcome r result)
    (ap (λ (ps : List Pair). run_from hooks table root (3 * i) before.state (form_script ps)) (sym none) ∙ run)
    (builds hooks own table root (3 * i) before result means shapes at_root built place)
