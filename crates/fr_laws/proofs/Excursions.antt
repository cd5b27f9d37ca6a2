-- Commands beneath one child of a place, until the cursor is at that place again: what they do, and that they do the same where another
-- child was changed before.
use Rattle.std.proofs.Common.{◌≡◌, ◌≢◌, ◌+◌, ◌∷◌, ◌++◌, ◌⊎◌}
use Rattle.fr_model.proofs.Common.{ℕ, false, List, [], Result, Ok, Err, refl, sym, ap, ap₂, ◌∙◌, inl, inr, Meanings, ReflectErrorKind, Table, Call, Place, Tree, deferred, State, tree_at, change_at, one_more_call, is_set, step}
use Rattle.fr_laws.specs.SwapLaws.{IfAdmittedThen, ComesBackTo, MayComeBackTo}
use Rattle.fr_model.specs.Sequences.{IsAdmittedThen, removed_by_all}
use Rattle.fr_laws.proofs.Beside.{above_kept, set_above, left_as_it_is, changed_twice}
use Rattle.fr_laws.proofs.BesideStep.{Lies, with_tree, Stays, BothStay, both, neither, beside_step, beside_step_drops}

-- the commands in order, up to the first that is refused

abbrev pub then_runs : Result State ReflectErrorKind → (State → Result State ReflectErrorKind) → Result State ReflectErrorKind
then_runs (Ok next) rest = rest next
then_runs (Err kind) rest = Err kind

abbrev pub runs : Meanings → Table → ℕ → State → List Call → Result State ReflectErrorKind
runs hooks table root state [] = Ok state
runs hooks table root state (command ∷ commands) =
    then_runs (step hooks table root state command) (λ next. runs hooks table root next commands)

-- how many calls are counted after them
abbrev pub calls_after : List Call → ℕ → ℕ
calls_after [] calls = calls
calls_after (command ∷ commands) calls = calls_after commands (one_more_call calls)

pub map_stay : {beside : Tree → Tree} {calls : ℕ} {Stay Other : State → Type 0} {one other : Result State ReflectErrorKind}
    → ((next : State) → Stay next → Other next) → BothStay beside calls Stay one other → BothStay beside calls Other one other
map_stay further (both next stays) = both next (further next stays)
map_stay further (neither kind other) = neither kind other

-- commands that began in such a state changed only what stands at child i of the place, and came back to it
pub record Gone (here : Place) (i start : ℕ) (tree : Tree) (calls : ℕ) (commands : List Call) (last : State) : Type 0 where
  pub change : Tree → Tree
  pub tree_is : last.tree ≡ change_at (here ++ i ∷ []) change tree
  pub mode_is : last.mode ≡ deferred start
  pub calls_are : last.calls ≡ calls_after commands calls
  pub cursor_is : last.cursor ≡ here

module _ (hooks : Meanings) (table : Table) (root : ℕ) (here : Place) where
  pub comes_may : (commands : List Call) (state last : State) → ComesBackTo here hooks table root state commands last
      → MayComeBackTo here hooks table root state commands
  comes_may [] state last back = back.0
  comes_may (command ∷ commands) state last back = (back.0, back.1, go (λ next. comes_may commands next last) (step hooks table root state command) back.2)
    where
      go : ((next : State) → ComesBackTo here hooks table root next commands last → MayComeBackTo here hooks table root next commands)
          → (outcome : Result State ReflectErrorKind) → IsAdmittedThen outcome (λ next. ComesBackTo here hooks table root next commands last)
          → IfAdmittedThen outcome (λ next. MayComeBackTo here hooks table root next commands)
      go again (Ok next) then = again next then
      go again (Err kind) then = tt

  pub comes_runs : (commands : List Call) (state last : State) → ComesBackTo here hooks table root state commands last
      → runs hooks table root state commands ≡ Ok last
  comes_runs [] state last back = ap Ok back.1
  comes_runs (command ∷ commands) state last back =
      go (λ next. comes_runs commands next last) (step hooks table root state command) back.2
    where
      go : ((next : State) → ComesBackTo here hooks table root next commands last → runs hooks table root next commands ≡ Ok last)
          → (outcome : Result State ReflectErrorKind) → IsAdmittedThen outcome (λ next. ComesBackTo here hooks table root next commands last)
          → then_runs outcome (λ next. runs hooks table root next commands) ≡ Ok last
      go again (Ok next) then = again next then
      go again (Err kind) then = absurd then

  pub may_comes : (commands : List Call) (state last : State) → MayComeBackTo here hooks table root state commands
      → runs hooks table root state commands ≡ Ok last → ComesBackTo here hooks table root state commands last
  may_comes [] state last back e = (back, cc)
  may_comes (command ∷ commands) state last back e =
      (back.0, back.1, go (λ next. may_comes commands next last) (step hooks table root state command) back.2 e)
    where
      go : ((next : State) → MayComeBackTo here hooks table root next commands → runs hooks table root next commands ≡ Ok last
          → ComesBackTo here hooks table root next commands last)
          → (outcome : Result State ReflectErrorKind) → IfAdmittedThen outcome (λ next. MayComeBackTo here hooks table root next commands)
          → then_runs outcome (λ next. runs hooks table root next commands) ≡ Ok last
          → IsAdmittedThen outcome (λ next. ComesBackTo here hooks table root next commands last)
      go again (Ok next) then e = again next then e
      go again (Err kind) then e = cc

-- The commands run alike where another child was changed before.
module _ (hooks : Meanings) (table : Table) (root : ℕ) (here : Place) (i j : ℕ) (apart : i ≢ j) (f : Tree → Tree) (start : ℕ) where
  abbrev beside : Tree → Tree
  beside u = change_at (here ++ j ∷ []) f u

  pub record Mirrored (commands : List Call) (state : State) (other_calls : ℕ) : Type 0 where
    pub may : MayComeBackTo here hooks table root (with_tree beside other_calls state) commands
    pub outcome : BothStay beside (calls_after commands other_calls) (Gone here i start state.tree state.calls commands)
        (runs hooks table root state commands) (runs hooks table root (with_tree beside other_calls state) commands)
    pub drops : (last : State) → runs hooks table root state commands ≡ Ok last → (t : ℕ)
        → removed_by_all hooks table root (with_tree beside other_calls state) commands t
        ≡ removed_by_all hooks table root state commands t

  pub mirrors : (commands : List Call) (state : State) (other_calls : ℕ) → (state.cursor ≡ here) ⊎ Lies here i state.cursor
      → state.mode ≡ deferred start → is_set (tree_at here state.tree) ≡ false
      → MayComeBackTo here hooks table root state commands → Mirrored commands state other_calls
  mirrors [] state other_calls lies mode no_set back = record {
    may = back;
    outcome = both state (record {
      change = λ child. child;
      tree_is = sym (left_as_it_is (here ++ i ∷ []) (λ child. child) state.tree refl);
      mode_is = mode;
      calls_are = refl;
      cursor_is = back;
    });
    drops = λ last e t. refl;
  }
  mirrors (command ∷ commands) state other_calls (inl is) mode no_set back = absurd (back.0 is)
  mirrors (command ∷ commands) state other_calls (inr lies) mode no_set back =
      go (mirrors commands) _ _ refl refl (beside_step hooks table root here i j apart f state start other_calls command back.1 lies mode no_set) back.2
    where
      go : ((next : State) (calls : ℕ) → (next.cursor ≡ here) ⊎ Lies here i next.cursor → next.mode ≡ deferred start
          → is_set (tree_at here next.tree) ≡ false → MayComeBackTo here hooks table root next commands → Mirrored commands next calls)
          → (one other : Result State ReflectErrorKind) → step hooks table root state command ≡ one
          → step hooks table root (with_tree beside other_calls state) command ≡ other
          → BothStay beside (one_more_call other_calls) (Stays here i (deferred start) state.tree state.calls) one other
          → IfAdmittedThen one (λ next. MayComeBackTo here hooks table root next commands)
          → Mirrored (command ∷ commands) state other_calls
      go again _ _ is other_is (both next stays) then = record {
        may = (back.0, back.1, rw other_is rest.may);
        outcome = rw (is, other_is) (map_stay further rest.outcome);
        drops = λ last e t. rw (is, other_is) (ap₂ (λ (m n : ℕ). m + n)
            (beside_step_drops hooks table root here i j apart f state start other_calls command back.1 lies mode no_set t)
            (rest.drops last (rw is at e) t));
      }
        where
          no_set_then : is_set (tree_at here next.tree) ≡ false
          no_set_then = rw stays.tree_is (above_kept is_set set_above here i [] stays.change state.tree ∙ no_set)

          rest : Mirrored commands next (one_more_call other_calls)
          rest = again next (one_more_call other_calls) stays.cursor_is stays.mode_is no_set_then then

          further : (last : State) → Gone here i start next.tree next.calls commands last
              → Gone here i start state.tree state.calls (command ∷ commands) last
          further last gone = record {
            change = λ child. gone.change (stays.change child);
            tree_is = gone.tree_is ∙ ap (change_at (here ++ i ∷ []) gone.change) stays.tree_is
                ∙ changed_twice (here ++ i ∷ []) gone.change stays.change state.tree;
            mode_is = gone.mode_is;
            calls_are = gone.calls_are ∙ ap (calls_after commands) stays.calls_are;
            cursor_is = gone.cursor_is;
          }
      go again _ _ is other_is (neither kind other) then = record {
        may = (back.0, back.1, rw other_is tt);
        outcome = rw (is, other_is) (neither kind other);
        drops = λ last e t. let never = rw is at e in cc;
      }

  -- and back: where they lead back to the place after that change, they do so without it
  pub may_back : (commands : List Call) (state : State) (other_calls : ℕ) → (state.cursor ≡ here) ⊎ Lies here i state.cursor
      → state.mode ≡ deferred start → is_set (tree_at here state.tree) ≡ false
      → MayComeBackTo here hooks table root (with_tree beside other_calls state) commands → MayComeBackTo here hooks table root state commands
  may_back [] state other_calls lies mode no_set back = back
  may_back (command ∷ commands) state other_calls (inl is) mode no_set back = absurd (back.0 is)
  may_back (command ∷ commands) state other_calls (inr lies) mode no_set back = (
    back.0,
    back.1,
    go (may_back commands) _ _ (beside_step hooks table root here i j apart f state start other_calls command back.1 lies mode no_set) back.2,
  )
    where
      go : ((next : State) (calls : ℕ) → (next.cursor ≡ here) ⊎ Lies here i next.cursor → next.mode ≡ deferred start
          → is_set (tree_at here next.tree) ≡ false → MayComeBackTo here hooks table root (with_tree beside calls next) commands
          → MayComeBackTo here hooks table root next commands)
          → (one other : Result State ReflectErrorKind)
          → BothStay beside (one_more_call other_calls) (Stays here i (deferred start) state.tree state.calls) one other
          → IfAdmittedThen other (λ next. MayComeBackTo here hooks table root next commands)
          → IfAdmittedThen one (λ next. MayComeBackTo here hooks table root next commands)
      go again _ _ (both next stays) then =
          again next (one_more_call other_calls) stays.cursor_is stays.mode_is
          (rw stays.tree_is (above_kept is_set set_above here i [] stays.change state.tree ∙ no_set)) then
      go again _ _ (neither kind other) then = tt
