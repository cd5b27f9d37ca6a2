-- An orderly run gives the same value in strict mode and in deferred mode.
use Rattle.std.proofs.Common.{◌≡◌, ◌+◌, ◌∷◌, ◌++◌, ◌&&◌, ◌⊎◌, inl, inr}
use Rattle.fr_model.proofs.Common.{ℕ, Bool, true, false, not, List, [], Option, Some, None, Result, Ok, Err, refl, sym, ◌∙◌, ap, subst, ReflectErrorKind, AllocError, Meanings, Table, Val, Call, Place, is_root, deferred_column, strict_column, strict, deferred, State, initial, cursor_shape, cursor_tree, complete, step, built, numbered, run_from, full_run, alloc_refusal}
use Rattle.fr_model.proofs.Templates.{both_true, is_not}
use Rattle.fr_laws.proofs.PassageTrees.{way_right}
use Rattle.fr_laws.proofs.PassageSides.{IsBeside, Along, makes_same, fills_none_strictly}
use Rattle.fr_laws.proofs.PassageMoves.{DirectWay, fresh_right, fresh_beside}
use Rattle.fr_laws.proofs.PassageRuns.{IsLocal}
use Rattle.fr_laws.proofs.PassageSound.{Makes, SoundOff, sound_here}
use Rattle.fr_laws.proofs.PassagePairs.{Pair, BothPair, pair_beside, pair_shape, local_forth, local_back}
use Rattle.fr_laws.proofs.PassageCloses.{both_end, end_completes}
use Rattle.fr_laws.proofs.Passage.{ok_val, outcome, finish_makes, finish_ends, Before, local_before, end_before}
use Rattle.fr_laws.specs.Passage.{IsDirect, fills, fills_none, enters_new_or_hole, works_at_entered, is_orderly_at, and_so_on, is_orderly_from, is_mode_call, has_no_mode_calls, between_mode_calls, StrictPasses, DeferredPasses}

-- a command that doesn't change the mode ends a place, or does neither
local_or_end : (command : Call) → is_mode_call command ≡ false → IsLocal command ⊎ (command ≡ Call.End)
local_or_end Call.End none = inr refl
local_or_end Call.BeginDeferred none = cc
local_or_end Call.FinishDeferred none = cc
local_or_end _ none = inl tt

-- the script and then the end of deferred mode
abbrev and_finish : List Call → List Call
and_finish script = script ++ Call.FinishDeferred ∷ []

module _ (hooks : Meanings) (table : Table) (root : ℕ) where
  pub record IsOrderlyAt (state : State) (command : Call) : Type 0 where
    pub enters : enters_new_or_hole table root (cursor_shape table root state) state command ≡ true
    pub works : works_at_entered table (cursor_shape table root state) state command ≡ true
    pub fills : fills_none table root (cursor_shape table root state) state command ≡ true

  orderly_parts : (state : State) (command : Call) → is_orderly_at table root (cursor_shape table root state) state command ≡ true
      → IsOrderlyAt state command
  orderly_parts state command orderly =
      let s = cursor_shape table root state in
      let two = both_true (enters_new_or_hole table root s state command && works_at_entered table s state command) (fills_none table root s state command) orderly in
      let one = both_true (enters_new_or_hole table root s state command) (works_at_entered table s state command) two.0 in
      record { enters = one.0; works = one.1; fills = two.1 }

  step_before : (state next : State) (command : Call) → state.mode ≡ deferred 0 → DirectWay table root state.cursor state.tree
      → is_mode_call command ≡ false → IsOrderlyAt state command → step hooks table root state command ≡ Ok next → Before hooks table root state next
  step_before state next command mode leads none orderly ok = go (local_or_end command none)
    where
      go : IsLocal command ⊎ (command ≡ Call.End) → Before hooks table root state next
      go (inl local) = local_before hooks table root state next command mode leads local orderly.enters orderly.works ok
      go (inr is) =
          (end_before hooks table root state next mode leads
          (subst (λ (one : Call). fills_none table root (cursor_shape table root state) state one ≡ true) is orderly.fills)
          (subst (λ (one : Call). step hooks table root state one ≡ Ok next) is ok)).before

  ahead : (script : List Call) (m : ℕ) (state : State) (v : Val) → state.mode ≡ deferred 0 → DirectWay table root state.cursor state.tree
      → has_no_mode_calls script ≡ true → is_orderly_from hooks table root state (and_finish script) ≡ true
      → run_from hooks table root m state (and_finish script) ≡ Ok v → SoundOff hooks table root state.cursor state.tree
  ahead [] m state v mode leads none orderly ok =
      let here = orderly_parts state Call.FinishDeferred (both_true (is_orderly_at table root (cursor_shape table root state) state Call.FinishDeferred) _ orderly).0 in
      let ends = finish_ends hooks table root m state v mode leads here.fills ok in
      subst (λ (place : Place). SoundOff hooks table root place state.tree) (sym ends.at) (sound_here hooks table root state.tree ends.makes)
  ahead (command ∷ script) m state v mode leads none orderly ok =
      go (step hooks table root state command) refl
      (λ next deferred_still leads orderly ok. ahead script (m + 1) next v deferred_still leads rest_none.1 orderly ok)
    where
      rest_none : (not (is_mode_call command) ≡ true) × (has_no_mode_calls script ≡ true)
      rest_none = both_true (not (is_mode_call command)) (has_no_mode_calls script) none

      parts : (is_orderly_at table root (cursor_shape table root state) state command ≡ true)
          × (and_so_on (step hooks table root state command) (λ next. is_orderly_from hooks table root next (and_finish script)) ≡ true)
      parts = both_true (is_orderly_at table root (cursor_shape table root state) state command) _ orderly

      go : (r : Result State ReflectErrorKind) → step hooks table root state command ≡ r
          → ((next : State) → next.mode ≡ deferred 0 → DirectWay table root next.cursor next.tree
          → is_orderly_from hooks table root next (and_finish script) ≡ true → run_from hooks table root (m + 1) next (and_finish script) ≡ Ok v
          → SoundOff hooks table root next.cursor next.tree) → SoundOff hooks table root state.cursor state.tree
      go (Ok next) is rest =
          let before = step_before state next command mode leads (is_not _ rest_none.0) (orderly_parts state command parts.0) is in
          before.sound (rest next before.mode before.leads (rw is at parts.1) (rw is at ok))
      go (Err kind) is rest = let never = rw is at ok in cc

  -- the roots beside one another
  at_root : (one other : State) → Pair hooks table root one other → one.cursor ≡ [] → IsBeside hooks table root one.tree other.tree
  at_root one other pair at =
      subst (λ (place : Place). Along hooks table root place (IsBeside hooks table) one.tree other.tree) at pair.along

  -- `build` in strict mode
  builds : (n : ℕ) (state : State) (w v : Val) → state.mode ≡ strict → state.cursor ≡ [] → complete strict_column hooks table root state.tree ≡ Some w
      → outcome hooks table root w ≡ Ok v → run_from hooks table root n state [] ≡ Ok v
  builds n state w v mode at made built_so =
      rw (mode, at, made) (ap (numbered n (record { tree = state.tree; cursor = []; mode = strict; calls = state.calls })) built_so)

  -- the place that ends makes the same on both sides
  ends_pair : (one other : State) (v : Val) → Pair hooks table root one other
      → fills table (cursor_shape table root one) (cursor_tree one) ≡ false
      → (complete strict_column hooks table (cursor_shape table root one) (cursor_tree one) ≡ Some v)
      → BothPair hooks table root (step hooks table root one Call.End) (step hooks table root other Call.End)
  ends_pair one other v pair none is =
      both_end hooks table root one other v pair is
      (sym (ap (λ (s : ℕ). complete deferred_column hooks table s (cursor_tree other)) (pair_shape hooks table root one other pair))
      ∙ sym (makes_same hooks table (cursor_shape table root one) (cursor_tree one) (cursor_tree other) (pair_beside hooks table root one other pair) none) ∙ is)

  forth : (script : List Call) (n m : ℕ) (one other : State) (v : Val) → Pair hooks table root one other → has_no_mode_calls script ≡ true
      → is_orderly_from hooks table root one script ≡ true → run_from hooks table root n one script ≡ Ok v
      → run_from hooks table root m other (and_finish script) ≡ Ok v
  forth [] n m one other v pair none orderly ok = by_root (is_root one.cursor) refl
    where
      root_is : (place : Place) → is_root place ≡ true → place ≡ []
      root_is [] e = refl
      root_is (i ∷ place) e = cc

      outcome_is : (w : Val) → numbered n one (outcome hooks table root w) ≡ Ok v → outcome hooks table root w ≡ Ok v
      outcome_is w e = go (outcome hooks table root w) refl e
        where
          go : (r : Result Val ReflectErrorKind) → outcome hooks table root w ≡ r → numbered n one r ≡ Ok v → outcome hooks table root w ≡ Ok v
          go (Ok u) is e = is ∙ ap Ok (ok_val u v e)
          go (Err kind) is e = cc

      by_value : (value : Option Val) → complete strict_column hooks table root one.tree ≡ value → one.cursor ≡ []
          → not (fills table root one.tree) ≡ true
          → numbered n one (built hooks table root one.tree value) ≡ Ok v → run_from hooks table root m other (Call.FinishDeferred ∷ []) ≡ Ok v
      by_value (Some w) is at unfilled e =
          finish_makes hooks table root m other w v (sym pair.same ∙ at) pair.deferredly
          (way_right table (IsDirect table) root other.cursor other.tree pair.leads')
          (sym (makes_same hooks table root one.tree other.tree (at_root one other pair at) (is_not _ unfilled)) ∙ is) (outcome_is w e)
      by_value None is at unfilled e = cc

      by_root : (b : Bool) → is_root one.cursor ≡ b → run_from hooks table root m other (Call.FinishDeferred ∷ []) ≡ Ok v
      by_root true root_now =
          by_value (complete strict_column hooks table root one.tree) refl (root_is one.cursor root_now)
          (rw (pair.strictly, root_now) at orderly) (rw (pair.strictly, root_now) at ok)
      by_root false root_now = let never = rw (pair.strictly, root_now) at ok in cc
  forth (command ∷ script) n m one other v pair none orderly ok =
      go (step hooks table root one command) (step hooks table root other command) refl refl
      (λ next after pair orderly ok. forth script (n + 1) (m + 1) next after v pair rest_none.1 orderly ok)
    where
      rest_none : (not (is_mode_call command) ≡ true) × (has_no_mode_calls script ≡ true)
      rest_none = both_true (not (is_mode_call command)) (has_no_mode_calls script) none

      parts : (is_orderly_at table root (cursor_shape table root one) one command ≡ true)
          × (and_so_on (step hooks table root one command) (λ next. is_orderly_from hooks table root next script) ≡ true)
      parts = both_true (is_orderly_at table root (cursor_shape table root one) one command) _ orderly

      here : IsOrderlyAt one command
      here = orderly_parts one command parts.0

      steps : (next : State) → step hooks table root one command ≡ Ok next
          → BothPair hooks table root (step hooks table root one command) (step hooks table root other command)
      steps next is = by_kind (local_or_end command (is_not _ rest_none.0))
        where
          by_kind : IsLocal command ⊎ (command ≡ Call.End) → BothPair hooks table root (step hooks table root one command) (step hooks table root other command)
          by_kind (inl local) = local_forth hooks table root one other command pair local here.enters here.works
          by_kind (inr end) =
              let fine : fills_none table root (cursor_shape table root one) one Call.End ≡ true
              = subst (λ (call : Call). fills_none table root (cursor_shape table root one) one call ≡ true) end here.fills in
              let unfilled : not (fills table (cursor_shape table root one) (cursor_tree one)) ≡ true = rw pair.strictly at fine in
              let made = end_completes hooks table root one next pair.strictly pair.leads
              (subst (λ (call : Call). step hooks table root one call ≡ Ok next) end is) in
              subst (λ (call : Call). BothPair hooks table root (step hooks table root one call) (step hooks table root other call)) (sym end)
              (ends_pair one other made.0 pair (is_not _ unfilled) made.1)

      go : (r q : Result State ReflectErrorKind) → step hooks table root one command ≡ r → step hooks table root other command ≡ q
          → ((next after : State) → Pair hooks table root next after → is_orderly_from hooks table root next script ≡ true
          → run_from hooks table root (n + 1) next script ≡ Ok v → run_from hooks table root (m + 1) after (and_finish script) ≡ Ok v)
          → run_from hooks table root m other (and_finish (command ∷ script)) ≡ Ok v
      go (Ok next) (Ok after) is is' rest = rw is' (rest next after (rw (is, is') at (steps next is)) (rw is at parts.1) (rw is at ok))
      go (Ok next) (Err kind) is is' rest = absurd (rw (is, is') at (steps next is))
      go (Err kind) q is is' rest = let never = rw is at ok in cc

  back : (script : List Call) (n m : ℕ) (one other : State) (v : Val) → Pair hooks table root one other → has_no_mode_calls script ≡ true
      → is_orderly_from hooks table root other (and_finish script) ≡ true → run_from hooks table root m other (and_finish script) ≡ Ok v
      → run_from hooks table root n one script ≡ Ok v
  back [] n m one other v pair none orderly ok =
      let here = orderly_parts other Call.FinishDeferred (both_true (is_orderly_at table root (cursor_shape table root other) other Call.FinishDeferred) _ orderly).0 in
      let ends = finish_ends hooks table root m other v pair.deferredly pair.leads' here.fills ok in
      let at = pair.same ∙ ends.at in
      let beside = at_root one other pair at in
      builds n one ends.makes.value v pair.strictly at
      (makes_same hooks table root one.tree other.tree beside (fills_none_strictly hooks table root one.tree other.tree beside ends.makes.fills_none)
      ∙ ends.makes.is) ends.built_so
  back (command ∷ script) n m one other v pair none orderly ok =
      go (step hooks table root one command) (step hooks table root other command) refl refl
      (λ next after pair orderly ok. back script (n + 1) (m + 1) next after v pair rest_none.1 orderly ok)
    where
      rest_none : (not (is_mode_call command) ≡ true) × (has_no_mode_calls script ≡ true)
      rest_none = both_true (not (is_mode_call command)) (has_no_mode_calls script) none

      parts : (is_orderly_at table root (cursor_shape table root other) other command ≡ true)
          × (and_so_on (step hooks table root other command) (λ next. is_orderly_from hooks table root next (and_finish script)) ≡ true)
      parts = both_true (is_orderly_at table root (cursor_shape table root other) other command) _ orderly

      here : IsOrderlyAt other command
      here = orderly_parts other command parts.0

      steps : (after : State) → step hooks table root other command ≡ Ok after
          → BothPair hooks table root (step hooks table root one command) (step hooks table root other command)
      steps after is = by_kind (local_or_end command (is_not _ rest_none.0))
        where
          sound : (before : Before hooks table root other after) → SoundOff hooks table root after.cursor after.tree
          sound before = ahead script (m + 1) after v before.mode before.leads rest_none.1 (rw is at parts.1) (rw is at ok)

          by_kind : IsLocal command ⊎ (command ≡ Call.End) → BothPair hooks table root (step hooks table root one command) (step hooks table root other command)
          by_kind (inl local) = local_back hooks table root one other command pair local here.enters here.works
          by_kind (inr end) =
              let ended = end_before hooks table root other after pair.deferredly pair.leads'
              (subst (λ (call : Call). fills_none table root (cursor_shape table root other) other call ≡ true) end here.fills)
              (subst (λ (call : Call). step hooks table root other call ≡ Ok after) end is) in
              let makes : Makes hooks table (cursor_shape table root one) (cursor_tree other)
              = subst (λ (s : ℕ). Makes hooks table s (cursor_tree other)) (sym (pair_shape hooks table root one other pair)) (ended.makes (sound ended.before)) in
              let beside = pair_beside hooks table root one other pair in
              let unfilled = fills_none_strictly hooks table (cursor_shape table root one) (cursor_tree one) (cursor_tree other) beside makes.fills_none in
              subst (λ (call : Call). BothPair hooks table root (step hooks table root one call) (step hooks table root other call)) (sym end)
              (ends_pair one other makes.value pair unfilled
              (makes_same hooks table (cursor_shape table root one) (cursor_tree one) (cursor_tree other) beside unfilled ∙ makes.is))

      go : (r q : Result State ReflectErrorKind) → step hooks table root one command ≡ r → step hooks table root other command ≡ q
          → ((next after : State) → Pair hooks table root next after → is_orderly_from hooks table root after (and_finish script) ≡ true
          → run_from hooks table root (m + 1) after (and_finish script) ≡ Ok v → run_from hooks table root (n + 1) next script ≡ Ok v)
          → run_from hooks table root n one (command ∷ script) ≡ Ok v
      go (Ok next) (Ok after) is is' rest = rw is (rest next after (rw (is, is') at (steps after is')) (rw is' at parts.1) (rw is' at ok))
      go (Err kind) (Ok after) is is' rest = absurd (rw (is, is') at (steps after is'))
      go r (Err kind) is is' rest = let never = rw is' at ok in cc

  -- the first states, before and after deferred mode has begun
  first_pair : IsDirect table root → Pair hooks table root (initial table root) (record (initial table root) { mode = deferred 0; calls = 1 })
  first_pair direct = record {
    same = refl;
    strictly = refl;
    deferredly = refl;
    leads = (direct, fresh_right table root root);
    leads' = (direct, fresh_right table root root);
    along = fresh_beside hooks table root root;
  }

pub strict_passes : StrictPasses
strict_passes hooks table root script v direct none orderly ok = go (alloc_refusal table root) refl
  where
    go : (refusal : Option AllocError) → alloc_refusal table root ≡ refusal → full_run hooks table root (between_mode_calls script) ≡ Ok v
    go None is = rw is (forth hooks table root script 0 1 _ _ v (first_pair hooks table root direct) none orderly (rw is at ok))
    go (Some error) is = let never = rw is at ok in cc

pub deferred_passes : DeferredPasses
deferred_passes hooks table root script v direct none orderly ok = go (alloc_refusal table root) refl
  where
    go : (refusal : Option AllocError) → alloc_refusal table root ≡ refusal → full_run hooks table root script ≡ Ok v
    go None is = rw is (back hooks table root script 0 1 _ _ v (first_pair hooks table root direct) none orderly (rw is at ok))
    go (Some error) is = let never = rw is at ok in cc
