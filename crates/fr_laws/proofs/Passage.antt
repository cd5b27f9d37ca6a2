-- The end of deferred mode, and what is built then; and that what is left of an orderly deferred run is sound.
use Rattle.std.proofs.Common.{◌≡◌, ◌+◌, ◌∷◌, ◌++◌, if◌then◌else◌}
use Rattle.fr_model.proofs.Common.{ℕ, suc, Bool, true, false, not, [], append-nil, Option, Some, None, option_map, Result, Ok, Err, refl, sym, ◌∙◌, ap, subst, ReflectErrorKind, Invariant, Meanings, Table, Val, Vals, no_vals, Call, Place, is_root, deferred_column, strict_column, Tracker, as_fields, as_elements, as_content, as_items, as_entries, ContentKind, ItemsKind, Tree, hole, entered, whole, begun, Trees, no_trees, branch, wholes, change_at, strict, deferred, State, cursor_shape, cursor_tree, one_more_call, complete, complete_all, valid_child, failing_child, unless_failing, made, value_as, is_set_item, is_open_slice, closed_slice, item_ended, takes_item, leaves, finished, finished_here, begun_with, is_made_whole, step, built, violates, numbered, run_from}
use Rattle.fr_model.proofs.Basis.{one_more_is}
use Rattle.fr_model.proofs.Templates.{is_not, some_is}
use Rattle.fr_shape.specs.Invariants.{keeps_invariants}
use Rattle.fr_laws.proofs.PassageTrees.{IsStraight, IsRight, way_right, no_hole}
use Rattle.fr_laws.proofs.PassageSteps.{Does, Doing, BothDo, does_itself, look_itself, change_is}
use Rattle.fr_laws.proofs.PassageMoves.{DirectWay, leads_does}
use Rattle.fr_laws.proofs.PassageRuns.{IsLocal, command_does}
use Rattle.fr_laws.proofs.PassageSound.{Makes, SoundHere, SoundOff, done_sound, sound_here, sound_before, sound_at, left_makes, left_sound, taken_sound}
use Rattle.fr_laws.proofs.PassageEnds.{closed_same, closed_fills}
use Rattle.fr_laws.proofs.PassagePairs.{state_right, state_direct, bare}
use Rattle.fr_laws.proofs.PassageCloses.{EndCase, at_slice, at_the_root, at_item, at_other, end_case, IsOpenSlice, open_slice_is, strict_root, later_slice, later_item, later_other, leads_up, leads_taken, leads_closed, below_root}
use Rattle.fr_laws.specs.Passage.{IsDirect, fills, fills_none, finish_fills, enters_new_or_hole, works_at_entered}
use Rattle.fr_model.specs.Step.{closes}

-- The end of deferred mode, and what is built then

module _ (hooks : Meanings) (table : Table) where
  -- what is taken once is taken again
  valid_again : (s : ℕ) (tracker : Tracker) (i : ℕ) (value : Option Val) (w : Val) → IsStraight table s tracker
      → valid_child hooks table s tracker i value ≡ Some w → valid_child hooks table s tracker i (Some w) ≡ Some w
  valid_again s (as_fields chosen) i value w straight e = go (failing_child hooks table s (as_fields chosen) i value) refl e
    where
      go : (failing : Option ReflectErrorKind) → failing_child hooks table s (as_fields chosen) i value ≡ failing → unless_failing failing value ≡ Some w
          → valid_child hooks table s (as_fields chosen) i (Some w) ≡ Some w
      go (Some kind) none e = cc
      go None none e = rw (ap (failing_child hooks table s (as_fields chosen) i) (sym e) ∙ none) refl
  valid_again s (as_content (ContentKind.Source conversion)) i value w straight e = absurd straight
  valid_again s (as_content ContentKind.Some) i value w straight e = refl
  valid_again s (as_content ContentKind.Ok) i value w straight e = refl
  valid_again s (as_content ContentKind.Err) i value w straight e = refl
  valid_again s (as_content ContentKind.Pointer) i value w straight e = refl
  valid_again s as_elements i value w straight e = refl
  valid_again s (as_items kind) i value w straight e = refl
  valid_again s (as_entries kind) i value w straight e = refl

  wholes_complete : (s : ℕ) (tracker : Tracker) (i : ℕ) (ts : Trees) (vs : Vals) → IsStraight table s tracker
      → complete_all deferred_column hooks table s tracker i ts ≡ Some vs → complete_all strict_column hooks table s tracker i (wholes vs) ≡ Some vs
  wholes_complete s tracker i no_trees vs straight e =
      let none : no_vals ≡ vs = cc in subst (λ (ws : Vals). complete_all strict_column hooks table s tracker i (wholes ws) ≡ Some ws) none refl
  wholes_complete s tracker i (branch t ts) vs straight e =
      let parts = one_more_is _ (complete_all deferred_column hooks table s tracker (suc i) ts) vs e in
      subst (λ (ws : Vals). complete_all strict_column hooks table s tracker i (wholes ws) ≡ Some ws) (sym parts.same)
      (rw (valid_again s tracker i _ parts.head straight parts.head_is, wholes_complete s tracker (suc i) ts parts.tail straight parts.tail_is) refl)

  -- what becomes of the root makes the same
  pub record Finishes (s : ℕ) (t : Tree) (w : Val) : Type 0 where
    pub tree : Tree
    pub is : finished_here hooks table s t ≡ Some tree
    pub makes : complete strict_column hooks table s tree ≡ Some w

  finishes_so : (s : ℕ) (t : Tree) (w : Val) → IsRight table s t → complete deferred_column hooks table s t ≡ Some w → Finishes s t w
  finishes_so s hole w right e = absurd right
  finishes_so s entered w right e = record { tree = whole w; is = ap (option_map whole) e; makes = refl }
  finishes_so s (whole v) w right e = record { tree = whole v; is = refl; makes = e }
  finishes_so s (begun tracker ts) w right e = go (complete_all deferred_column hooks table s tracker 0 ts) refl e
    where
      by_kind : (vs : Vals) (b : Bool) → is_made_whole tracker ≡ b → complete_all deferred_column hooks table s tracker 0 ts ≡ Some vs
          → value_as tracker vs ≡ w → Finishes s (begun tracker ts) w
      by_kind vs true made_whole all same = record {
        tree = whole (value_as tracker vs);
        is = ap (option_map (begun_with tracker)) all ∙ ap (λ (b : Bool). Some (if b then whole (value_as tracker vs) else begun tracker (wholes vs))) made_whole;
        makes = ap Some same;
      }
      by_kind vs false made_whole all same = record {
        tree = begun tracker (wholes vs);
        is = ap (option_map (begun_with tracker)) all ∙ ap (λ (b : Bool). Some (if b then whole (value_as tracker vs) else begun tracker (wholes vs))) made_whole;
        makes = ap (made tracker) (wholes_complete s tracker 0 ts vs right.1 all) ∙ ap Some same;
      }

      go : (values : Option Vals) → complete_all deferred_column hooks table s tracker 0 ts ≡ values → made tracker values ≡ Some w
          → Finishes s (begun tracker ts) w
      go (Some vs) all e = by_kind vs (is_made_whole tracker) refl all cc
      go None all e = cc

  finishes_none : (s : ℕ) (t : Tree) → IsRight table s t → complete deferred_column hooks table s t ≡ None → finished_here hooks table s t ≡ None
  finishes_none s hole right e = absurd right
  finishes_none s entered right e = ap (option_map whole) e
  finishes_none s (whole v) right e = cc
  finishes_none s (begun tracker ts) right e = go (complete_all deferred_column hooks table s tracker 0 ts) refl e
    where
      go : (values : Option Vals) → complete_all deferred_column hooks table s tracker 0 ts ≡ values → made tracker values ≡ None
          → finished_here hooks table s (begun tracker ts) ≡ None
      go (Some vs) all e = cc
      go None all e = ap (option_map (begun_with tracker)) all

-- Runs

pub ok_val : {A B : Type 0} (a b : A) → ◌≡◌ {A = Result A B} (Ok a) (Ok b) → a ≡ b
ok_val a b e = cc

module _ (hooks : Meanings) (table : Table) (root : ℕ) where
  -- what is built of a value
  abbrev pub outcome : Val → Result Val ReflectErrorKind
  outcome w = if keeps_invariants hooks.check table root w then Ok w else Err (violates Invariant.TypeInvariant)

  -- deferred mode ends at the root, where this is made
  pub finish_makes : (m : ℕ) (state : State) (w v : Val) → state.cursor ≡ [] → state.mode ≡ deferred 0 → IsRight table root state.tree
      → complete deferred_column hooks table root state.tree ≡ Some w → outcome w ≡ Ok v
      → run_from hooks table root m state (Call.FinishDeferred ∷ []) ≡ Ok v
  finish_makes m state w v at mode right makes built_so =
      let finish = finishes_so hooks table root state.tree w right makes in
      rw (mode, at, finish.is, finish.makes)
      (ap (numbered (m + 1) (record { tree = finish.tree; cursor = []; mode = strict; calls = one_more_call state.calls })) built_so)

  pub record Finished (state : State) (v : Val) : Type 0 where
    pub at : state.cursor ≡ []
    pub makes : Makes hooks table root state.tree
    pub built_so : outcome makes.value ≡ Ok v

  -- and where it ends with a value it does so
  pub finish_ends : (m : ℕ) (state : State) (v : Val) → state.mode ≡ deferred 0 → DirectWay table root state.cursor state.tree
      → fills_none table root (cursor_shape table root state) state Call.FinishDeferred ≡ true
      → run_from hooks table root m state (Call.FinishDeferred ∷ []) ≡ Ok v → Finished state v
  finish_ends m state v mode leads none ok = go (finished hooks table root state.cursor state.tree) refl
    where
      after : Tree → State
      after tree = record state { tree = tree; mode = strict; calls = one_more_call state.calls }

      outcome_is : (value : Option Val) (tree : Tree) → numbered (m + 1) (after tree) (built hooks table root tree value) ≡ Ok v
          → (w : Val) × (value ≡ Some w) × (outcome w ≡ Ok v)
      outcome_is (Some w) tree e = (w, refl, by (outcome w) refl e)
        where
          by : (r : Result Val ReflectErrorKind) → outcome w ≡ r → numbered (m + 1) (after tree) r ≡ Ok v → outcome w ≡ Ok v
          by (Ok u) is e = is ∙ ap Ok (ok_val u v e)
          by (Err kind) is e = cc
      outcome_is None tree e = cc

      right : IsRight table root state.tree
      right = way_right table (IsDirect table) root state.cursor state.tree leads

      root_is : (place : Place) → is_root place ≡ true → place ≡ []
      root_is [] e = refl
      root_is (i ∷ place) e = cc

      at_root : (tree : Tree) (value : Option Val) → state.cursor ≡ [] → finished hooks table root state.cursor state.tree ≡ Some tree
          → complete deferred_column hooks table root state.tree ≡ value
          → numbered (m + 1) (after tree) (built hooks table root tree (complete strict_column hooks table root tree)) ≡ Ok v → Finished state v
      at_root tree (Some w) at is made_is e =
          let finish = finishes_so hooks table root state.tree w right made_is in
          let ends : finished_here hooks table root state.tree ≡ Some tree = subst (λ (place : Place). finished hooks table root place state.tree ≡ Some tree) at is in
          let same : tree ≡ finish.tree = some_is tree finish.tree (sym ends ∙ finish.is) in
          let made_then : complete strict_column hooks table root tree ≡ Some w = ap (complete strict_column hooks table root) same ∙ finish.makes in
          let built_then = outcome_is (complete strict_column hooks table root tree) tree e in
          let known : w ≡ built_then.0 = some_is w built_then.0 (sym made_then ∙ built_then.1) in
          record {
            at = at;
            makes = record {
              value = w;
              is = made_is;
              fills_none = is_not _ (subst (λ (place : Place). not (finish_fills table root place state.tree) ≡ true) at none);
            };
            built_so = subst (λ (u : Val). outcome u ≡ Ok v) (sym known) built_then.2;
          }
      at_root tree None at is made_is e =
          let ends : finished_here hooks table root state.tree ≡ Some tree = subst (λ (place : Place). finished hooks table root place state.tree ≡ Some tree) at is in
          let never = sym ends ∙ finishes_none hooks table root state.tree right made_is in cc

      by_root : (b : Bool) → is_root state.cursor ≡ b → (tree : Tree) → finished hooks table root state.cursor state.tree ≡ Some tree
          → numbered (m + 1) (after tree) (if b then built hooks table root tree (complete strict_column hooks table root tree) else Err (violates Invariant.BuildOpenFrames)) ≡ Ok v
          → Finished state v
      by_root true root_now tree is e = at_root tree (complete deferred_column hooks table root state.tree) (root_is state.cursor root_now) is refl e
      by_root false root_now tree is e = cc

      go : (end : Option Tree) → finished hooks table root state.cursor state.tree ≡ end → Finished state v
      go (Some tree) is = by_root (is_root state.cursor) refl tree is (rw (mode, is) at ok)
      go None is = let never = rw (mode, is) at ok in cc

  -- Looking ahead: what is left of a deferred run is sound

  -- what a command makes of such a state
  pub record Before (state next : State) : Type 0 where
    pub mode : next.mode ≡ deferred 0
    pub leads : DirectWay table root next.cursor next.tree
    pub sound : SoundOff hooks table root next.cursor next.tree → SoundOff hooks table root state.cursor state.tree

  -- and of the place that it ends
  pub record Ended (state next : State) : Type 0 where
    pub before : Before state next
    pub makes : SoundOff hooks table root next.cursor next.tree
        → Makes hooks table (cursor_shape table root state) (cursor_tree state)

  changed_before : (state : State) (way : Place) (m : Tree) → DirectWay table root state.cursor state.tree
      → Does table (cursor_shape table root state) (cursor_tree state) (cursor_tree state) way m m
      → SoundOff hooks table root (state.cursor ++ way) (change_at state.cursor (λ old. m) state.tree)
      → SoundOff hooks table root state.cursor state.tree
  changed_before state way m leads is =
      sound_before hooks table (IsDirect table) root state.cursor way state.tree m leads
      (done_sound hooks table (cursor_shape table root state) (cursor_tree state) way m is)

  pub local_before : (state next : State) (command : Call) → state.mode ≡ deferred 0 → DirectWay table root state.cursor state.tree → IsLocal command
      → enters_new_or_hole table root (cursor_shape table root state) state command ≡ true
      → works_at_entered table (cursor_shape table root state) state command ≡ true
      → step hooks table root state command ≡ Ok next → Before state next
  local_before state next command mode leads local enters works ok =
      go (subst (λ (r : Result State ReflectErrorKind). BothDo table (cursor_shape table root state) state state r r) ok
      (command_does hooks table root (cursor_shape table root state) state state
      (look_itself _ (cursor_tree state) (no_hole table _ _ right)) right right (state_direct hooks table root state leads)
      (bare hooks table root state leads) (bare hooks table root state leads) command local enters works))
    where
      right : IsRight table (cursor_shape table root state) (cursor_tree state)
      right = state_right hooks table root state leads

      go : Doing table (cursor_shape table root state) state state next next → Before state next
      go doing =
          let is = does_itself table (cursor_shape table root state) (cursor_tree state) (cursor_tree state) doing.way doing.m doing.n doing.is in
          rw doing.left (record {
            mode = mode;
            leads = leads_does table root state doing.way doing.m doing.m leads is;
            sound = changed_before state doing.way doing.m leads is;
          })

  pub end_before : (state next : State) → state.mode ≡ deferred 0 → DirectWay table root state.cursor state.tree
      → fills_none table root (cursor_shape table root state) state Call.End ≡ true
      → step hooks table root state Call.End ≡ Ok next → Ended state next
  end_before state next mode leads none ok = go (end_case state)
    where
      s : ℕ
      s = cursor_shape table root state

      by_slice : is_open_slice (cursor_tree state) ≡ true → Ended state (closes state)
      by_slice e = record {
        before = record {
          mode = mode;
          leads = leads_closed hooks table root state e leads;
          sound = λ sound. before (makes sound) sound;
        };
        makes = makes;
      }
        where
          slice : IsOpenSlice (cursor_tree state)
          slice = open_slice_is (cursor_tree state) e

          there : SoundOff hooks table root state.cursor (change_at state.cursor closed_slice state.tree)
              → SoundOff hooks table root state.cursor (change_at state.cursor (λ old. closed_slice (cursor_tree state)) state.tree)
          there sound = subst (λ (w : Tree). SoundOff hooks table root state.cursor w) (change_is state.cursor closed_slice state.tree) sound

          makes : SoundOff hooks table root state.cursor (change_at state.cursor closed_slice state.tree)
              → Makes hooks table (cursor_shape table root state) (cursor_tree state)
          makes sound =
              let at_end = sound_at hooks table (IsDirect table) root state.cursor state.tree (closed_slice (cursor_tree state)) leads (there sound) in
              let closed : SoundHere hooks table (cursor_shape table root state) (begun (as_items ItemsKind.ClosedSlice) slice.items)
              = subst (λ (w : Tree). SoundHere hooks table (cursor_shape table root state) (closed_slice w)) slice.is at_end in
              let whole_slice = closed.1 refl in
              subst (λ (w : Tree). Makes hooks table (cursor_shape table root state) w) (sym slice.is) (record {
                value = whole_slice.value;
                is = closed_same hooks table deferred_column (cursor_shape table root state) slice.items ∙ whole_slice.is;
                fills_none = closed_fills hooks table (cursor_shape table root state) 0 slice.items ∙ whole_slice.fills_none;
              })

          before : Makes hooks table (cursor_shape table root state) (cursor_tree state)
              → SoundOff hooks table root state.cursor (change_at state.cursor closed_slice state.tree)
              → SoundOff hooks table root state.cursor state.tree
          before made_here sound =
              sound_before hooks table (IsDirect table) root state.cursor [] state.tree (closed_slice (cursor_tree state)) leads
              (λ after. sound_here hooks table (cursor_shape table root state) (cursor_tree state) made_here)
              (subst (λ (place : Place). SoundOff hooks table root place (change_at state.cursor (λ old. closed_slice (cursor_tree state)) state.tree))
              (sym (append-nil state.cursor)) (there sound))

      by_item : (value : Option Val) → complete deferred_column hooks table (cursor_shape table root state) (cursor_tree state) ≡ value
          → is_open_slice (cursor_tree state) ≡ false → is_root state.cursor ≡ false → is_set_item state ≡ true
          → item_ended deferred_column hooks table (cursor_shape table root state) state value ≡ Ok next → Ended state next
      by_item (Some v) is e f g ok =
          let fills_nothing : not (if true then fills table (cursor_shape table root state) (cursor_tree state) else false) ≡ true = rw (mode, e, g) at none in
          let makes : Makes hooks table (cursor_shape table root state) (cursor_tree state)
          = record { value = v; is = is; fills_none = is_not _ fills_nothing } in
          rw (sym (ok_val (takes_item state v) next ok)) (record {
            before = record {
              mode = mode;
              leads = leads_taken hooks table root state v g leads;
              sound = λ sound. taken_sound hooks table (IsDirect table) root state.cursor v state.tree (below_root state.cursor f) leads g makes sound;
            };
            makes = λ sound. makes;
          })
      by_item None is e f g ok = cc

      go : EndCase state → Ended state next
      go (at_slice e) =
          subst (λ (after : State). Ended state after) (ok_val (closes state) next (sym (later_slice hooks table root state mode e) ∙ ok)) (by_slice e)
      go (at_the_root e f) = let never = sym ok ∙ strict_root hooks table root state e f in cc
      go (at_item e f g) =
          by_item (complete deferred_column hooks table (cursor_shape table root state) (cursor_tree state)) refl e f g
          (sym (later_item hooks table root state mode e f g) ∙ ok)
      go (at_other e f g) =
          subst (λ (after : State). Ended state after) (ok_val (leaves state) next (sym (later_other hooks table root state mode leads e f g) ∙ ok)) (record {
            before = record {
              mode = mode;
              leads = leads_up hooks table root state.cursor state.tree leads;
              sound = λ sound. left_sound hooks table (IsDirect table) root state.cursor state.tree (below_root state.cursor f) leads sound;
            };
            makes = λ sound. left_makes hooks table (IsDirect table) root state.cursor state.tree (below_root state.cursor f) leads sound;
          })
