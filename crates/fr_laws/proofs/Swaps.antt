-- Two excursions into different children of a place, in either order.
use Rattle.std.proofs.Common.{◌≡◌, ◌≢◌, ◌+◌, ◌∷◌, ◌++◌}
use Rattle.fr_model.proofs.Common.{ℕ, List, [], Option, Some, None, Result, Ok, Err, refl, sym, ap, ap₂, subst, ◌∙◌, inr, arith, Def, Meanings, ReflectErrorKind, Operation, Table, def_of, Call, Place, Tree, Mode, deferred, State, change_at, cursor_shape, cursor_tree, one_more_call, unless_refused, at_shape, step, removed, replaced, dropped_with_source}
use Rattle.fr_laws.specs.SwapLaws.{IsAtParts, EntersChild, IfAdmittedThen, ComesBackTo, MayComeBackTo, IsExcursion, MayBeExcursion, Swaps, ExcursionsSwap}
use Rattle.fr_model.specs.Sequences.{IsAdmittedThen, removed_by_all, dropped_then}
use Rattle.fr_laws.proofs.Beside.{changed_twice, changes_beside}
use Rattle.fr_laws.proofs.BesideStep.{Lies, with_tree, BothStay, both, neither}
use Rattle.fr_laws.proofs.Entries.{enters_so, IsOpenable, openable, entering_refusal, opened_tree, entry, entered_state, first_is, other_state, other_enters, enters_back, other_refusal, other_entered, entered_no_set, entering_drops, apart_drops, other_apart, base_tree, refused_anew, IsEntering}
use Rattle.fr_laws.proofs.Excursions.{then_runs, runs, calls_after, map_stay, Gone, comes_may, comes_runs, may_comes, Mirrored, mirrors, may_back}

-- what both outcomes tell

stay_of : {beside : Tree → Tree} {calls : ℕ} {Stay : State → Type 0} {one other : Result State ReflectErrorKind}
    → BothStay beside calls Stay one other → (last : State) → one ≡ Ok last → Stay last
stay_of {Stay = Stay} (both next stays) last e = subst Stay (let same : next ≡ last = cc in same) stays
stay_of (neither kind other) last e = cc

pub other_of : {beside : Tree → Tree} {calls : ℕ} {Stay : State → Type 0} {one other : Result State ReflectErrorKind}
    → BothStay beside calls Stay one other → (last : State) → one ≡ Ok last → other ≡ Ok (with_tree beside calls last)
other_of {beside = beside} {calls = calls} (both next stays) last e =
    let same : next ≡ last = cc in ap (λ (state : State). Ok (with_tree beside calls state)) same
other_of (neither kind other) last e = cc

-- the first outcome, where the second is a state
record First (beside : Tree → Tree) (calls : ℕ) (one : Result State ReflectErrorKind) (last : State) : Type 0 where
  first : State
  is : one ≡ Ok first
  last_is : with_tree beside calls first ≡ last

first_of_both : {beside : Tree → Tree} {calls : ℕ} {Stay : State → Type 0} {one other : Result State ReflectErrorKind}
    → BothStay beside calls Stay one other → (last : State) → other ≡ Ok last → First beside calls one last
first_of_both (both next stays) last e = record { first = next; is = refl; last_is = cc }
first_of_both (neither kind other) last e = cc

pub same_state : (one other : State) → one.tree ≡ other.tree → one.cursor ≡ other.cursor → one.mode ≡ other.mode → one.calls ≡ other.calls
    → one ≡ other
same_state one other tree cursor mode calls =
    ap₂ (λ (u : Tree) (place : Place). record { tree = u; cursor = place; mode = one.mode; calls = one.calls }) tree cursor
    ∙ ap₂ (λ (m : Mode) (n : ℕ). record { tree = other.tree; cursor = other.cursor; mode = m; calls = n }) mode calls

-- calls

one_more_after : (commands : List Call) (calls : ℕ) → calls_after commands (one_more_call calls) ≡ one_more_call (calls_after commands calls)
one_more_after [] calls = refl
one_more_after (command ∷ commands) calls = one_more_after commands (one_more_call calls)

calls_swap : (one other : List Call) (calls : ℕ) → calls_after one (calls_after other calls) ≡ calls_after other (calls_after one calls)
calls_swap [] other calls = refl
calls_swap (command ∷ one) other calls =
    ap (calls_after one) (sym (one_more_after other calls)) ∙ calls_swap one other (one_more_call calls)

-- what is dropped first, and then
added : {first dropped other_first later other_later : ℕ} → first ≡ dropped → other_first ≡ 0 → other_later ≡ later
    → first + later ≡ dropped + (other_first + other_later)
added first_is none same = omega arith

-- An excursion, where no other child was changed before and where one was.

module _ (hooks : Meanings) (table : Table) (root : ℕ) where
  pub exc_may : (i : ℕ) (state last : State) (commands : List Call) → IsExcursion hooks table root i state commands last
      → MayBeExcursion hooks table root i state commands
  exc_may i state last [] exc = absurd exc
  exc_may i state last (command ∷ commands) exc = (exc.0, go (step hooks table root state command) exc.1)
    where
      go : (outcome : Result State ReflectErrorKind)
          → IsAdmittedThen outcome (λ next. ComesBackTo state.cursor hooks table root next commands last)
          → IfAdmittedThen outcome (λ next. MayComeBackTo state.cursor hooks table root next commands)
      go (Ok next) then = comes_may hooks table root state.cursor commands next last then
      go (Err kind) then = tt

  pub exc_runs : (i : ℕ) (state last : State) (commands : List Call) → IsExcursion hooks table root i state commands last
      → runs hooks table root state commands ≡ Ok last
  exc_runs i state last [] exc = absurd exc
  exc_runs i state last (command ∷ commands) exc = go (step hooks table root state command) exc.1
    where
      go : (outcome : Result State ReflectErrorKind)
          → IsAdmittedThen outcome (λ next. ComesBackTo state.cursor hooks table root next commands last)
          → then_runs outcome (λ next. runs hooks table root next commands) ≡ Ok last
      go (Ok next) then = comes_runs hooks table root state.cursor commands next last then
      go (Err kind) then = absurd then

  pub may_exc : (i : ℕ) (state last : State) (commands : List Call) → MayBeExcursion hooks table root i state commands
      → runs hooks table root state commands ≡ Ok last → IsExcursion hooks table root i state commands last
  may_exc i state last [] may e = absurd may
  may_exc i state last (command ∷ commands) may e = (may.0, go (step hooks table root state command) may.1 e)
    where
      go : (outcome : Result State ReflectErrorKind)
          → IfAdmittedThen outcome (λ next. MayComeBackTo state.cursor hooks table root next commands)
          → then_runs outcome (λ next. runs hooks table root next commands) ≡ Ok last
          → IsAdmittedThen outcome (λ next. ComesBackTo state.cursor hooks table root next commands last)
      go (Ok next) then e = may_comes hooks table root state.cursor commands next last then e
      go (Err kind) then e = cc

  module _ (state : State) (start : ℕ) (mode : state.mode ≡ deferred start) (parts : IsAtParts table root state) where
    abbrev s : ℕ
    s = cursor_shape table root state

    abbrev def : Def
    def = def_of table s

    abbrev begun_tree : Tree
    begun_tree = opened_tree table root state

    -- the state in which child j was changed
    abbrev other : ℕ → (Tree → Tree) → ℕ → State
    other j f calls = other_state table root state parts j f calls

    abbrev beside : ℕ → (Tree → Tree) → Tree → Tree
    beside j f u = change_at (state.cursor ++ j ∷ []) f u

    -- what comes of the commands of an excursion into child i, from the state and from that where child j was changed
    pub record Excursed (i j : ℕ) (f : Tree → Tree) (calls : ℕ) (commands : List Call) : Type 0 where
      pub may : MayBeExcursion hooks table root i (other j f calls) commands
      pub outcome : BothStay (λ (u : Tree). change_at (state.cursor ++ j ∷ []) f u) (calls_after commands calls)
          (Gone state.cursor i start begun_tree state.calls commands) (runs hooks table root state commands)
          (runs hooks table root (other j f calls) commands)
      pub drops : (last : State) → runs hooks table root state commands ≡ Ok last → (t : ℕ)
          → removed_by_all hooks table root state commands t
          ≡ dropped_with_source state t + removed_by_all hooks table root (other j f calls) commands t

    other_step : (i j : ℕ) → i ≢ j → (f : Tree → Tree) (calls : ℕ) (command : Call) → IsOpenable def (base_tree table root state)
        → EntersChild table s i (cursor_tree state) command → step hooks table root (other j f calls) command
        ≡ unless_refused (at_shape s (entering_refusal def (cursor_tree state) command))
        (with_tree (λ (u : Tree). change_at (state.cursor ++ j ∷ []) f u) (one_more_call calls) (entered_state table root state i))
    other_step i j apart f calls command may so =
        first_is hooks table root (other j f calls) i command
        (other_enters table root state parts j f calls i command so)
        ∙ ap₂ unless_refused (other_refusal table root state parts j f calls command may)
        (other_entered table root state parts j f calls i apart)

    lies : (i : ℕ) → Lies state.cursor i (state.cursor ++ i ∷ [])
    lies i = record { way = []; is = refl }

    pub excursed : (i j : ℕ) → i ≢ j → (f : Tree → Tree) (calls : ℕ) (commands : List Call) → IsOpenable def (base_tree table root state)
        → MayBeExcursion hooks table root i state commands → Excursed i j f calls commands
    excursed i j apart f calls [] may_open may = absurd may
    excursed i j apart f calls (command ∷ commands) may_open may =
        go (at_shape s (entering_refusal def (cursor_tree state) command)) (first_is hooks table root state i command may.0)
        (other_step i j apart f calls command may_open may.0)
      where
        go : (refusal : Option ReflectErrorKind)
            → step hooks table root state command ≡ unless_refused refusal (entered_state table root state i)
            → step hooks table root (other j f calls) command
            ≡ unless_refused refusal (with_tree (beside j f) (one_more_call calls) (entered_state table root state i))
            → Excursed i j f calls (command ∷ commands)
        go (Some kind) is other_is = record {
          may = (other_enters table root state parts j f calls i command may.0, rw other_is tt);
          outcome = rw (is, other_is) (neither kind kind);
          drops = λ last e t. let never = rw is at e in cc;
        }
        go None is other_is = record {
          may = (other_enters table root state parts j f calls i command may.0, rw other_is rest.may);
          outcome = rw (is, other_is) (map_stay further rest.outcome);
          drops = λ last e t.
              let first_drops = entering_drops hooks table root (cursor_shape table root state) state command entering t in
              let other_drops : replaced hooks table root (cursor_shape table root (other j f calls)) (other j f calls) command t ≡ 0
              = entering_drops hooks table root (cursor_shape table root (other j f calls)) (other j f calls) command entering t
              ∙ apart_drops (other j f calls) (other_apart table root state parts j f calls) t in
              let later_drops = rest.drops last (rw is at e) t in
              rw (is, other_is) (added first_drops other_drops later_drops);
        }
          where
            entering : IsEntering command
            entering = enters_so table s i (cursor_tree state) command may.0

            then : MayComeBackTo state.cursor hooks table root (entered_state table root state i) commands
            then = rw is at may.1

            rest : Mirrored hooks table root state.cursor i j apart f start commands (entered_state table root state i) (one_more_call calls)
            rest =
                mirrors hooks table root state.cursor i j apart f start commands (entered_state table root state i) (one_more_call calls)
                (inr (lies i)) mode (entered_no_set table root state i parts) then

            further : (last : State)
                → Gone state.cursor i start (entered_state table root state i).tree (one_more_call state.calls) commands last
                → Gone state.cursor i start begun_tree state.calls (command ∷ commands) last
            further last gone = record {
              change = λ child. gone.change (entry table root state i child);
              tree_is = gone.tree_is ∙ changed_twice (state.cursor ++ i ∷ []) gone.change (entry table root state i) begun_tree;
              mode_is = gone.mode_is;
              calls_are = gone.calls_are;
              cursor_is = gone.cursor_is;
            }

    -- and back
    excursed_back : (i j : ℕ) → i ≢ j → (f : Tree → Tree) (calls : ℕ) (commands : List Call) → IsOpenable def (base_tree table root state)
        → MayBeExcursion hooks table root i (other j f calls) commands → MayBeExcursion hooks table root i state commands
    excursed_back i j apart f calls [] may_open may = absurd may
    excursed_back i j apart f calls (command ∷ commands) may_open may =
        let so = enters_back table root state parts j f calls i command may.0 in (
          so,
          go (at_shape s (entering_refusal def (cursor_tree state) command)) (first_is hooks table root state i command so)
              (other_step i j apart f calls command may_open so),
        )
      where
        go : (refusal : Option ReflectErrorKind)
            → step hooks table root state command ≡ unless_refused refusal (entered_state table root state i)
            → step hooks table root (other j f calls) command
            ≡ unless_refused refusal (with_tree (beside j f) (one_more_call calls) (entered_state table root state i))
            → IfAdmittedThen (step hooks table root state command) (λ next. MayComeBackTo state.cursor hooks table root next commands)
        go (Some kind) is other_is = rw is tt
        go None is other_is =
            rw is (may_back hooks table root state.cursor i j apart f start commands (entered_state table root state i) (one_more_call calls)
            (inr (lies i)) mode (entered_no_set table root state i parts) (rw other_is at may.1))

    -- a state that an excursion led to is the one in which that child was changed
    pub gone_is : (i : ℕ) (commands : List Call) (last : State) → (gone : Gone state.cursor i start begun_tree state.calls commands last)
        → last ≡ other i gone.change (calls_after commands state.calls)
    gone_is i commands last gone = same_state _ _ gone.tree_is gone.cursor_is (gone.mode_is ∙ sym mode) gone.calls_are

    -- an excursion is admitted only where the place may be begun
    pub may_be_begun : (i : ℕ) (commands : List Call) (last : State) → IsExcursion hooks table root i state commands last → IsOpenable def (base_tree table root state)
    may_be_begun i [] last exc = absurd exc
    may_be_begun i (command ∷ commands) last exc =
        go (entering_refusal def (cursor_tree state) command) refl (first_is hooks table root state i command exc.0)
      where
        go : (refusal : Option Operation) → entering_refusal def (cursor_tree state) command ≡ refusal
            → step hooks table root state command ≡ unless_refused (at_shape s refusal) (entered_state table root state i)
            → IsOpenable def (base_tree table root state)
        go None admitted is = openable def (base_tree table root state) command (enters_so table s i (cursor_tree state) command exc.0)
            (refused_anew def (cursor_tree state) command parts ∙ admitted)
        go (Some operation) refused is = let never = rw is at exc.1 in absurd never

    -- what one excursion did by itself
    pub gone_by : (i j : ℕ) → i ≢ j → (commands : List Call) (last : State) → IsOpenable def (base_tree table root state)
        → MayBeExcursion hooks table root i state commands → runs hooks table root state commands ≡ Ok last
        → Gone state.cursor i start begun_tree state.calls commands last
    gone_by i j apart commands last may_open may e = stay_of (excursed i j apart (λ child. child) 0 commands may_open may).outcome last e

    -- both in either order

    -- the one excursion after the other comes to the state to which the other comes after the one
    same_last : (i j : ℕ) → i ≢ j → (one others : List Call) (after_one after_other : State)
        → (gone : Gone state.cursor i start begun_tree state.calls one after_one)
        → (other_gone : Gone state.cursor j start begun_tree state.calls others after_other)
        → with_tree (beside j other_gone.change) (calls_after one (calls_after others state.calls)) after_one
        ≡ with_tree (beside i gone.change) (calls_after others (calls_after one state.calls)) after_other
    same_last i j apart one others after_one after_other gone other_gone =
        same_state _ _ (
        ap (beside j other_gone.change) gone.tree_is
        ∙ sym (changes_beside i j apart [] other_gone.change gone.change state.cursor begun_tree)
        ∙ ap (beside i gone.change) (sym other_gone.tree_is)
        ) (gone.cursor_is ∙ sym other_gone.cursor_is) (gone.mode_is ∙ sym other_gone.mode_is) (calls_swap one others state.calls)

    drops_append : (commands others : List Call) (from last : State) → runs hooks table root from commands ≡ Ok last → (t : ℕ)
        → removed_by_all hooks table root from (commands ++ others) t
        ≡ removed_by_all hooks table root from commands t + removed_by_all hooks table root last others t
    drops_append [] others from last e t =
        let same : from ≡ last = cc in
        ap (λ (state : State). removed_by_all hooks table root state others t) same ∙ omega arith
    drops_append (command ∷ commands) others from last e t =
        go (λ next. drops_append commands others next last) (step hooks table root from command) e (removed hooks table root from command t)
      where
        go : ((next : State) → runs hooks table root next commands ≡ Ok last → (t : ℕ)
            → removed_by_all hooks table root next (commands ++ others) t
            ≡ removed_by_all hooks table root next commands t + removed_by_all hooks table root last others t)
            → (outcome : Result State ReflectErrorKind) → then_runs outcome (λ next. runs hooks table root next commands) ≡ Ok last → (first : ℕ)
            → first + dropped_then outcome (λ next. removed_by_all hooks table root next (commands ++ others) t)
            ≡ first + dropped_then outcome (λ next. removed_by_all hooks table root next commands t) + removed_by_all hooks table root last others t
        go again (Ok next) e first = let rest = again next e t in omega arith
        go again (Err kind) e first = cc

    pub swaps : (i j : ℕ) (after_one last : State) (one others : List Call) → i ≢ j → IsExcursion hooks table root i state one after_one
        → IsExcursion hooks table root j after_one others last → Swaps hooks table root i j state one others last
    swaps i j after_one last one others apart one_exc other_exc = record {
      after_other = from.first;
      other_first = may_exc j state from.first others other_may from.is;
      one_then = may_exc i from.first last one (rw other_is one_now.may) then_is;
      same_removed = λ t. drops_append one others state after_one one_runs t
          ∙ (let ones = one_now.drops after_one one_runs t in
          let others_drop = other_now.drops from.first from.is t in
          let after_ones = ap (λ (u : State). removed_by_all hooks table root u others t) one_is in
          let after_others = ap (λ (u : State). removed_by_all hooks table root u one t) other_is in
          omega arith)
          ∙ sym (drops_append others one state from.first from.is t);
    }
      where
        apart_back : j ≢ i
        apart_back e = apart (sym e)

        may_open : IsOpenable def (base_tree table root state)
        may_open = may_be_begun i one after_one one_exc

        one_may : MayBeExcursion hooks table root i state one
        one_may = exc_may i state after_one one one_exc

        one_runs : runs hooks table root state one ≡ Ok after_one
        one_runs = exc_runs i state after_one one one_exc

        one_gone : Gone state.cursor i start begun_tree state.calls one after_one
        one_gone = gone_by i j apart one after_one may_open one_may one_runs

        one_is : after_one ≡ other i one_gone.change (calls_after one state.calls)
        one_is = gone_is i one after_one one_gone

        other_may : MayBeExcursion hooks table root j state others
        other_may =
            excursed_back j i apart_back one_gone.change (calls_after one state.calls) others may_open
            (rw one_is at (exc_may j after_one last others other_exc))

        other_now : Excursed j i one_gone.change (calls_after one state.calls) others
        other_now = excursed j i apart_back one_gone.change (calls_after one state.calls) others may_open other_may

        from : First (beside i one_gone.change) (calls_after others (calls_after one state.calls)) (runs hooks table root state others) last
        from = first_of_both other_now.outcome last (rw one_is at (exc_runs j after_one last others other_exc))

        other_gone : Gone state.cursor j start begun_tree state.calls others from.first
        other_gone = gone_by j i apart_back others from.first may_open other_may from.is

        other_is : from.first ≡ other j other_gone.change (calls_after others state.calls)
        other_is = gone_is j others from.first other_gone

        one_now : Excursed i j other_gone.change (calls_after others state.calls) one
        one_now = excursed i j apart other_gone.change (calls_after others state.calls) one may_open one_may

        then_is : runs hooks table root from.first one ≡ Ok last
        then_is =
            ap (λ (u : State). runs hooks table root u one) other_is ∙ other_of one_now.outcome after_one one_runs
            ∙ ap Ok (same_last i j apart one others after_one from.first one_gone other_gone ∙ from.last_is)

pub excursions_swap : ExcursionsSwap
excursions_swap hooks table root start i j state after_one last one other mode parts apart one_exc other_exc =
    swaps hooks table root state start mode parts i j after_one last one other apart one_exc other_exc
