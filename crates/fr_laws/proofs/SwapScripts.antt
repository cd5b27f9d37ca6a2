-- Whole scripts in which two excursions are swapped.
use Rattle.std.proofs.Common.{◌≡◌, ◌≢◌, ◌+◌, ◌∷◌, ◌++◌}
use Rattle.fr_model.proofs.Common.{ℕ, List, [], length, length-append, append_assoc, Option, Some, None, Result, Ok, Err, refl, sym, ap, ap₂, ◌∙◌, arith, Meanings, ReflectErrorKind, Table, Val, Call, Tree, deferred, State, initial, change_at, step, run_from, and_then, unless_alloc, alloc_refusal, Refusal}
use Rattle.fr_shape.specs.declared.error.AllocError.{AllocError}
use Rattle.fr_laws.specs.SwapLaws.{IsAtParts, IsExcursion, MayBeExcursion, Swaps, SwappedScriptsAgree, AreSameOrRefused, TriedScriptsAgree}
use Rattle.fr_model.specs.Sequences.{IsAdmittedThen, AllLeadTo}
use Rattle.fr_laws.proofs.BesideStep.{with_tree, BothStay, both, neither}
use Rattle.fr_laws.proofs.Excursions.{then_runs, runs, calls_after}
use Rattle.fr_laws.proofs.Swaps.{exc_runs, may_exc, other_of, excursed, gone_is, gone_by, may_be_begun, swaps, excursions_swap}

-- two outcomes are the same
same_agree : (one other : Result Val Refusal) → one ≡ other → AreSameOrRefused one other
same_agree (Ok v) (Ok w) e = cc
same_agree (Err one) (Err other) e = tt
same_agree (Ok v) (Err other) e = cc
same_agree (Err one) (Ok w) e = cc

abbrev IsRefused : Result Val Refusal → Type 0
IsRefused (Ok v) = ⊥
IsRefused (Err refusal) = Unit {0}

refused_agree : (one other : Result Val Refusal) → IsRefused one → IsRefused other → AreSameOrRefused one other
refused_agree (Err one) (Err other) refused both_refused = tt
refused_agree (Ok v) other refused both_refused = absurd refused
refused_agree (Err one) (Ok w) refused both_refused = absurd both_refused

-- the second of two outcomes, where the first is a refusal
record Stops (outcome : Result State ReflectErrorKind) : Type 0 where
  kind : ReflectErrorKind
  is : outcome ≡ Err kind

stops_of : {beside : Tree → Tree} {calls : ℕ} {Stay : State → Type 0} {one other : Result State ReflectErrorKind}
    → BothStay beside calls Stay one other → (kind : ReflectErrorKind) → one ≡ Err kind → Stops other
stops_of (both next stays) kind e = cc
stops_of (neither one other) kind e = record { kind = other; is = refl }

module _ (hooks : Meanings) (table : Table) (root : ℕ) where
  lead_runs : (commands : List Call) (state last : State) → AllLeadTo hooks table root state commands last
      → runs hooks table root state commands ≡ Ok last
  lead_runs [] state last leads = ap Ok leads
  lead_runs (command ∷ commands) state last leads = go (λ next. lead_runs commands next last) (step hooks table root state command) leads
    where
      go : ((next : State) → AllLeadTo hooks table root next commands last → runs hooks table root next commands ≡ Ok last)
          → (outcome : Result State ReflectErrorKind) → IsAdmittedThen outcome (λ next. AllLeadTo hooks table root next commands last)
          → then_runs outcome (λ next. runs hooks table root next commands) ≡ Ok last
      go again (Ok next) leads = again next leads
      go again (Err kind) leads = absurd leads

  -- commands and more of them

  runs_on : (commands others : List Call) (state last : State) → runs hooks table root state commands ≡ Ok last
      → runs hooks table root state (commands ++ others) ≡ runs hooks table root last others
  runs_on [] others state last e =
      let same : state ≡ last = cc in ap (λ (u : State). runs hooks table root u others) same
  runs_on (command ∷ commands) others state last e =
      go (λ next. runs_on commands others next last) (step hooks table root state command) e
    where
      go : ((next : State) → runs hooks table root next commands ≡ Ok last
          → runs hooks table root next (commands ++ others) ≡ runs hooks table root last others)
          → (outcome : Result State ReflectErrorKind) → then_runs outcome (λ next. runs hooks table root next commands) ≡ Ok last
          → then_runs outcome (λ next. runs hooks table root next (commands ++ others)) ≡ runs hooks table root last others
      go again (Ok next) e = again next e
      go again (Err kind) e = cc

  runs_stop : (commands others : List Call) (state : State) (kind : ReflectErrorKind) → runs hooks table root state commands ≡ Err kind
      → runs hooks table root state (commands ++ others) ≡ Err kind
  runs_stop [] others state kind e = cc
  runs_stop (command ∷ commands) others state kind e =
      go (λ next. runs_stop commands others next kind) (step hooks table root state command) e
    where
      go : ((next : State) → runs hooks table root next commands ≡ Err kind → runs hooks table root next (commands ++ others) ≡ Err kind)
          → (outcome : Result State ReflectErrorKind) → then_runs outcome (λ next. runs hooks table root next commands) ≡ Err kind
          → then_runs outcome (λ next. runs hooks table root next (commands ++ others)) ≡ Err kind
      go again (Ok next) e = again next e
      go again (Err other) e = cc

  -- the run goes on from the state to which the first commands lead
  run_on : (commands others : List Call) (n : ℕ) (state last : State) → runs hooks table root state commands ≡ Ok last
      → run_from hooks table root n state (commands ++ others) ≡ run_from hooks table root (n + length commands) last others
  run_on [] others n state last e =
      let same : state ≡ last = cc in
      let none : n ≡ n + length {A = Call} [] = omega arith in
      ap₂ (λ (m : ℕ) (u : State). run_from hooks table root m u others) none same
  run_on (command ∷ commands) others n state last e =
      go (λ next. run_on commands others (n + 1) next last) (step hooks table root state command) e
    where
      go : ((next : State) → runs hooks table root next commands ≡ Ok last
          → run_from hooks table root (n + 1) next (commands ++ others) ≡ run_from hooks table root (n + 1 + length commands) last others)
          → (outcome : Result State ReflectErrorKind) → then_runs outcome (λ next. runs hooks table root next commands) ≡ Ok last
          → and_then n state outcome (λ next. run_from hooks table root (n + 1) next (commands ++ others))
          ≡ run_from hooks table root (n + length (command ∷ commands)) last others
      go again (Ok next) e =
          again next e ∙ ap (λ (m : ℕ). run_from hooks table root m last others)
          (let one_more : n + 1 + length commands ≡ n + length (command ∷ commands) = omega arith in one_more)
      go again (Err kind) e = cc

  -- and is refused where they are
  run_stops : (commands others : List Call) (n : ℕ) (state : State) (kind : ReflectErrorKind)
      → runs hooks table root state commands ≡ Err kind → IsRefused (run_from hooks table root n state (commands ++ others))
  run_stops [] others n state kind e = cc
  run_stops (command ∷ commands) others n state kind e =
      go (λ next. run_stops commands others (n + 1) next kind) (step hooks table root state command) e
    where
      go : ((next : State) → runs hooks table root next commands ≡ Err kind
          → IsRefused (run_from hooks table root (n + 1) next (commands ++ others)))
          → (outcome : Result State ReflectErrorKind) → then_runs outcome (λ next. runs hooks table root next commands) ≡ Err kind
          → IsRefused (and_then n state outcome (λ next. run_from hooks table root (n + 1) next (commands ++ others)))
      go again (Ok next) e = again next e
      go again (Err other) e = tt

  -- commands in two orders that lead to the same state
  same_run : (before one other after : List Call) (from state last : State) → runs hooks table root from before ≡ Ok state
      → runs hooks table root state (one ++ other) ≡ Ok last → runs hooks table root state (other ++ one) ≡ Ok last
      → run_from hooks table root 0 from (before ++ one ++ other ++ after) ≡ run_from hooks table root 0 from (before ++ other ++ one ++ after)
  same_run before one other after from state last before_runs one_first other_first =
      run_on (before ++ one ++ other) after 0 from last (in_order one other one_first)
      ∙ ap (λ (m : ℕ). run_from hooks table root m last after) same
      ∙ sym (run_on (before ++ other ++ one) after 0 from last (in_order other one other_first))
    where
      in_order : (first second : List Call) → runs hooks table root state (first ++ second) ≡ Ok last
          → runs hooks table root from (before ++ first ++ second) ≡ Ok last
      in_order first second e =
          ap (runs hooks table root from) (append_assoc before first second) ∙ runs_on before (first ++ second) from state before_runs ∙ e

      long : (first second : List Call) → length (before ++ first ++ second) ≡ length before + length first + length second
      long first second = rw (length-append (before ++ first) second, length-append before first)

      same : 0 + length (before ++ one ++ other) ≡ 0 + length (before ++ other ++ one)
      same = let one_long = long one other in let other_long = long other one in omega arith

  both_stop : (before one other after : List Call) (from state : State) (kind : ReflectErrorKind) → runs hooks table root from before ≡ Ok state
      → runs hooks table root state (one ++ other) ≡ Err kind → IsRefused (run_from hooks table root 0 from (before ++ one ++ other ++ after))
  both_stop before one other after from state kind before_runs stops =
      run_stops (before ++ one ++ other) after 0 from kind
      (ap (runs hooks table root from) (append_assoc before one other) ∙ runs_on before (one ++ other) from state before_runs ∙ stops)

  -- Two that may be excursions, in either order: both orders lead to the same state, or neither leads anywhere.
  data BothOrders (state : State) (one other : List Call) : Type 0 where
    both_lead : (last : State) → runs hooks table root state (one ++ other) ≡ Ok last → runs hooks table root state (other ++ one) ≡ Ok last
        → BothOrders state one other
    neither_leads : (kind other_kind : ReflectErrorKind) → runs hooks table root state (one ++ other) ≡ Err kind
        → runs hooks table root state (other ++ one) ≡ Err other_kind → BothOrders state one other

  excursions_lead : (i j : ℕ) (state after_one last : State) (one other : List Call) → IsExcursion hooks table root i state one after_one
      → IsExcursion hooks table root j after_one other last → runs hooks table root state (one ++ other) ≡ Ok last
  excursions_lead i j state after_one last one other one_exc other_exc =
      runs_on one other state after_one (exc_runs hooks table root i state after_one one one_exc)
      ∙ exc_runs hooks table root j after_one last other other_exc

  swapped_lead : (i j : ℕ) (state last : State) (one other : List Call) → (swapped : Swaps hooks table root i j state one other last)
      → runs hooks table root state (other ++ one) ≡ Ok last
  swapped_lead i j state last one other swapped =
      runs_on other one state swapped.after_other (exc_runs hooks table root j state swapped.after_other other swapped.other_first)
      ∙ exc_runs hooks table root i swapped.after_other last one swapped.one_then

  tried : (state : State) (start : ℕ) → state.mode ≡ deferred start → IsAtParts table root state → (i j : ℕ) → i ≢ j → (one other : List Call)
      → MayBeExcursion hooks table root i state one → MayBeExcursion hooks table root j state other → BothOrders state one other
  tried state start mode parts i j apart one other one_may other_may =
      go (runs hooks table root state one) (runs hooks table root state other) refl refl
    where
      apart_back : j ≢ i
      apart_back e = apart (sym e)

      -- what the second comes to after the first
      then_stops : (k l : ℕ) → k ≢ l → (first second : List Call) (after : State) (kind : ReflectErrorKind)
          → MayBeExcursion hooks table root k state first → MayBeExcursion hooks table root l state second
          → runs hooks table root state first ≡ Ok after → runs hooks table root state second ≡ Err kind
          → Stops (runs hooks table root state (first ++ second))
      then_stops k l distinct first second after kind first_may second_may comes stops =
          let may_open = may_be_begun hooks table root state start mode parts k first after
          (may_exc hooks table root k state after first first_may comes) in
          let gone = gone_by hooks table root state start mode parts k l distinct first after may_open first_may comes in
          let is = gone_is hooks table root state start mode parts k first after gone in
          let now = excursed hooks table root state start mode parts l k (λ e. distinct (sym e)) gone.change (calls_after first state.calls) second
          may_open second_may in
          let stopped = stops_of now.outcome kind stops in
          record {
            kind = stopped.kind;
            is = runs_on first second state after comes ∙ ap (λ (u : State). runs hooks table root u second) is ∙ stopped.is;
          }

      go : (first second : Result State ReflectErrorKind) → runs hooks table root state one ≡ first → runs hooks table root state other ≡ second
          → BothOrders state one other
      go (Ok after_one) (Ok after_other) one_comes other_comes =
          let one_exc = may_exc hooks table root i state after_one one one_may one_comes in
          let may_open = may_be_begun hooks table root state start mode parts i one after_one one_exc in
          let gone = gone_by hooks table root state start mode parts i j apart one after_one may_open one_may one_comes in
          let is = gone_is hooks table root state start mode parts i one after_one gone in
          let now = excursed hooks table root state start mode parts j i apart_back gone.change (calls_after one state.calls) other may_open other_may in
          let comes = other_of now.outcome after_other other_comes in
          let last = with_tree (λ (u : Tree). change_at (state.cursor ++ i ∷ []) gone.change u) (calls_after other (calls_after one state.calls)) after_other in
          let other_exc = may_exc hooks table root j after_one last other (rw is now.may)
          (ap (λ (u : State). runs hooks table root u other) is ∙ comes) in
          both_lead last (excursions_lead i j state after_one last one other one_exc other_exc)
          (swapped_lead i j state last one other (swaps hooks table root state start mode parts i j after_one last one other apart one_exc other_exc))
      go (Ok after_one) (Err kind) one_comes other_stops =
          let stopped = then_stops i j apart one other after_one kind one_may other_may one_comes other_stops in
          neither_leads stopped.kind kind stopped.is (runs_stop other one state kind other_stops)
      go (Err kind) (Ok after_other) one_stops other_comes =
          let stopped = then_stops j i apart_back other one after_other kind other_may one_may other_comes one_stops in
          neither_leads kind stopped.kind (runs_stop one other state kind one_stops) stopped.is
      go (Err kind) (Err other_kind) one_stops other_stops =
          neither_leads kind other_kind (runs_stop one other state kind one_stops) (runs_stop other one state other_kind other_stops)

pub swapped_scripts_agree : SwappedScriptsAgree
swapped_scripts_agree hooks table root start i j state after_one last before one other after leads mode parts apart one_exc other_exc =
    let swapped = excursions_swap hooks table root start i j state after_one last one other mode parts apart one_exc other_exc in
    ap (unless_alloc (alloc_refusal table root))
    (same_run hooks table root before one other after (initial table root) state last
    (lead_runs hooks table root before (initial table root) state leads)
    (excursions_lead hooks table root i j state after_one last one other one_exc other_exc)
    (swapped_lead hooks table root i j state last one other swapped))

pub tried_scripts_agree : TriedScriptsAgree
tried_scripts_agree hooks table root start i j state before one other after leads mode parts apart one_may other_may =
    by_plan (alloc_refusal table root) (tried hooks table root state start mode parts i j apart one other one_may other_may)
  where
    first : runs hooks table root (initial table root) before ≡ Ok state
    first = lead_runs hooks table root before (initial table root) state leads

    by_plan : (refusal : Option AllocError) → BothOrders hooks table root state one other
        → AreSameOrRefused (unless_alloc refusal (run_from hooks table root 0 (initial table root) (before ++ one ++ other ++ after)))
        (unless_alloc refusal (run_from hooks table root 0 (initial table root) (before ++ other ++ one ++ after)))
    by_plan (Some error) orders = tt
    by_plan None (both_lead last one_first other_first) =
        same_agree _ _ (same_run hooks table root before one other after (initial table root) state last first one_first other_first)
    by_plan None (neither_leads kind other_kind one_stops other_stops) =
        refused_agree _ _ (both_stop hooks table root before one other after (initial table root) state kind first one_stops)
        (both_stop hooks table root before other one after (initial table root) state other_kind first other_stops)
