-- A state in strict mode beside one in deferred mode, and what each command makes of them.
use Rattle.std.proofs.Common.{◌≡◌, ◌<◌, ◌≤◌, ◌++◌, ◌⊎◌, inl, inr}
use Rattle.fr_model.proofs.Common.{ℕ, zero, suc, Bool, true, false, None, Result, Ok, Err, refl, sym, ◌∙◌, ap, subst, arith, Def, ReflectErrorKind, Meanings, Table, def_of, Call, Place, Tracker, Tree, hole, entered, whole, begun, Trees, tree_nth, tree_at, change_at, count_trees, child_as, shape_in, strict, deferred, State, cursor_shape, cursor_tree, cursor_field, is_hole, is_set_tracker, step}
use Rattle.fr_laws.proofs.PassageTrees.{IsRight, way_end, nth_past}
use Rattle.fr_laws.proofs.PassageSides.{IsOffBeside, AreBeside, IsBeside, Along, along_end, along_shape, along_put}
use Rattle.fr_laws.proofs.PassageSteps.{HaveSameHoles, LookSame, Does, does, BothDo, does_swapped, does_itself}
use Rattle.fr_laws.proofs.PassageShapes.{IsDirectHere, direct_here, way_unproxied}
use Rattle.fr_laws.proofs.PassageMoves.{DirectWay, leads_does, does_beside}
use Rattle.fr_laws.proofs.PassageRuns.{IsLocal, command_does}
use Rattle.fr_laws.specs.Passage.{IsDirect, enters_new_or_hole, works_at_entered}
use Rattle.fr_model.specs.Conversions.{field_has_proxies}
use Rattle.fr_model.specs.Step.{step_at}

-- holes

off_holes : (hooks : Meanings) (table : Table) (of_set : Bool) (s : ℕ) (t u : Tree) → IsOffBeside hooks table of_set s t u → is_hole t ≡ is_hole u
off_holes hooks table of_set s hole hole beside = refl
off_holes hooks table of_set s hole entered beside = absurd beside
off_holes hooks table of_set s hole (whole w) beside = absurd beside
off_holes hooks table of_set s hole (begun other us) beside = absurd beside
off_holes hooks table true s (whole v) u beside = sym (ap is_hole beside)
off_holes hooks table false s (whole v) hole beside = cc
off_holes hooks table false s (whole v) entered beside = refl
off_holes hooks table false s (whole v) (whole w) beside = refl
off_holes hooks table false s (whole v) (begun other us) beside = refl
off_holes hooks table of_set s entered u beside = absurd beside
off_holes hooks table of_set s (begun tracker ts) u beside = absurd beside

decide : (j n : ℕ) → (j < n) ⊎ (n ≤ j)
decide j zero = inr (omega arith)
decide zero (suc n) = inl (omega arith)
decide (suc j) (suc n) = go (decide j n)
  where
    go : (j < n) ⊎ (n ≤ j) → (suc j < suc n) ⊎ (suc n ≤ suc j)
    go (inl below) = inl (omega (arith, below))
    go (inr past) = inr (omega (arith, past))

beside_holes : (hooks : Meanings) (table : Table) (s : ℕ) (tracker : Tracker) (ts us : Trees) → AreBeside hooks table s tracker ts us
    → HaveSameHoles ts us
beside_holes hooks table s tracker ts us all = record { count = all.count; each = λ j. go j (decide j (count_trees ts)) }
  where
    go : (j : ℕ) → (j < count_trees ts) ⊎ (count_trees ts ≤ j) → is_hole (tree_nth j ts) ≡ is_hole (tree_nth j us)
    go j (inl below) = off_holes hooks table (is_set_tracker tracker) (child_as table s tracker j) _ _ (all.each j below)
    go j (inr past) =
        let count = all.count in
        ap is_hole (nth_past j ts past) ∙ sym (ap is_hole (nth_past j us (omega (arith, count, past))))

beside_look : (hooks : Meanings) (table : Table) (s : ℕ) (t u : Tree) → IsBeside hooks table s t u → LookSame (def_of table s) t u
beside_look hooks table s entered entered beside = tt
beside_look hooks table s (whole v) (whole w) beside = tt
beside_look hooks table s (whole v) (begun other us) beside = (beside.0, beside.1)
beside_look hooks table s (begun tracker ts) (begun other us) beside = (beside.0, beside_holes hooks table s tracker ts us beside.1)
beside_look hooks table s hole u beside = absurd beside
beside_look hooks table s _ _ beside = absurd beside

pub look_swapped : (def : Def) (t u : Tree) → LookSame def t u → LookSame def u t
look_swapped def entered entered look = tt
look_swapped def (whole v) (whole w) look = tt
look_swapped def (whole v) (begun other us) look = look
look_swapped def (begun other us) (whole v) look = look
look_swapped def (begun tracker ts) (begun other us) look = (sym look.0, record { count = sym look.1.count; each = λ j. sym (look.1.each j) })
look_swapped def hole u look = absurd look
look_swapped def _ _ look = absurd look

module _ (hooks : Meanings) (table : Table) (root : ℕ) where
  abbrev pub here : State → ℕ
  here state = cursor_shape table root state

  -- the two states are at the same place, one in strict mode and one in deferred mode from the start
  pub record Pair (one other : State) : Type 0 where
    pub same : one.cursor ≡ other.cursor
    pub strictly : one.mode ≡ strict
    pub deferredly : other.mode ≡ deferred 0
    pub leads : DirectWay table root one.cursor one.tree
    pub leads' : DirectWay table root other.cursor other.tree
    pub along : Along hooks table root one.cursor (IsBeside hooks table) one.tree other.tree

  abbrev pub BothPair : Result State ReflectErrorKind → Result State ReflectErrorKind → Type 0
  BothPair (Ok one) (Ok other) = Pair one other
  BothPair (Err kind) (Err why) = Unit {0}
  BothPair _ _ = ⊥

  pub pair_beside : (one other : State) → Pair one other → IsBeside hooks table (here one) (cursor_tree one) (cursor_tree other)
  pair_beside one other pair =
      subst (λ (place : Place). IsBeside hooks table (here one) (cursor_tree one) (tree_at place other.tree)) pair.same
      (along_end hooks table root one.cursor (IsBeside hooks table) one.tree other.tree pair.along)

  pub pair_shape : (one other : State) → Pair one other → here one ≡ here other
  pair_shape one other pair =
      along_shape hooks table root one.cursor (IsBeside hooks table) one.tree other.tree pair.along
      ∙ ap (λ (place : Place). shape_in table root place other.tree) pair.same

  pub pair_look : (one other : State) → Pair one other → LookSame (def_of table (here one)) (cursor_tree one) (cursor_tree other)
  pair_look one other pair = beside_look hooks table (here one) (cursor_tree one) (cursor_tree other) (pair_beside one other pair)

  pub state_right : (state : State) → DirectWay table root state.cursor state.tree → IsRight table (here state) (cursor_tree state)
  state_right state leads = (way_end table (IsDirect table) root state.cursor state.tree leads).1

  pub state_direct : (state : State) → DirectWay table root state.cursor state.tree → IsDirectHere table (here state)
  state_direct state leads = direct_here table (here state) (way_end table (IsDirect table) root state.cursor state.tree leads).0

  pub pair_right : (one other : State) → Pair one other → IsRight table (here one) (cursor_tree other)
  pair_right one other pair =
      subst (λ (s : ℕ). IsRight table s (cursor_tree other)) (sym (pair_shape one other pair)) (state_right other pair.leads')

  -- what is done to both
  pub pair_does : (one other : State) (way : Place) (m n : Tree) → Pair one other
      → Does table (here one) (cursor_tree one) (cursor_tree other) way m n → Pair (does one way m) (does other way n)
  pair_does one other way m n pair is =
      let swapped = does_swapped table (here one) (cursor_tree one) (cursor_tree other) way m n (pair_look one other pair) is in
      record {
        same = ap (λ (place : Place). place ++ way) pair.same;
        strictly = pair.strictly;
        deferredly = pair.deferredly;
        leads = leads_does table root one way m m pair.leads (does_itself table (here one) _ _ way m n is);
        leads' = leads_does table root other way n n pair.leads'
            (subst (λ (s : ℕ). Does table s (cursor_tree other) (cursor_tree other) way n n) (pair_shape one other pair)
            (does_itself table (here one) _ _ way n m swapped));
        along = subst (λ (place : Place). Along hooks table root (one.cursor ++ way) (IsBeside hooks table) (change_at one.cursor (λ old. m) one.tree)
            (change_at place (λ old. n) other.tree)) pair.same
            (along_put hooks table root one.cursor way (IsBeside hooks table) (IsBeside hooks table) one.tree other.tree m n pair.along
            (does_beside hooks table (here one) (cursor_tree one) (cursor_tree other) way m n (pair_beside one other pair) is));
      }

  pub bare : (state : State) → DirectWay table root state.cursor state.tree → field_has_proxies (cursor_field table root state) ≡ false
  bare state leads = way_unproxied table root None state.cursor state.tree leads refl

  -- a command that neither ends a place nor changes the mode, orderly in strict mode
  pub local_forth : (one other : State) (command : Call) → Pair one other → IsLocal command
      → enters_new_or_hole table root (here one) one command ≡ true → works_at_entered table (here one) one command ≡ true
      → BothPair (step hooks table root one command) (step hooks table root other command)
  local_forth one other command pair local enters works =
      subst (λ (s : ℕ). BothPair (step hooks table root one command) (step_at hooks table root s other command)) (pair_shape one other pair)
      (go _ _ (command_does hooks table root (here one) one other (pair_look one other pair) (state_right one pair.leads) (pair_right one other pair)
      (state_direct one pair.leads) (bare one pair.leads) (bare other pair.leads') command local enters works))
    where
      go : (next after : Result State ReflectErrorKind) → BothDo table (here one) one other next after → BothPair next after
      go (Ok next) (Ok after) doing = rw (doing.left, doing.right) (pair_does one other doing.way doing.m doing.n pair doing.is)
      go (Err kind) (Err why) doing = tt
      go (Ok next) (Err kind) doing = absurd doing
      go (Err kind) (Ok after) doing = absurd doing

  -- and orderly in deferred mode
  pub local_back : (one other : State) (command : Call) → Pair one other → IsLocal command
      → enters_new_or_hole table root (here other) other command ≡ true → works_at_entered table (here other) other command ≡ true
      → BothPair (step hooks table root one command) (step hooks table root other command)
  local_back one other command pair local enters works =
      let same = sym (pair_shape one other pair) in
      subst (λ (s : ℕ). BothPair (step hooks table root one command) (step_at hooks table root s other command)) (pair_shape one other pair)
      (go _ _ (command_does hooks table root (here one) other one
      (look_swapped (def_of table (here one)) (cursor_tree one) (cursor_tree other) (pair_look one other pair)) (pair_right one other pair) (state_right one pair.leads)
      (state_direct one pair.leads) (bare other pair.leads') (bare one pair.leads) command local
      (subst (λ (s : ℕ). enters_new_or_hole table root s other command ≡ true) same enters)
      (subst (λ (s : ℕ). works_at_entered table s other command ≡ true) same works)))
    where
      go : (after next : Result State ReflectErrorKind) → BothDo table (here one) other one after next → BothPair next after
      go (Ok after) (Ok next) doing =
          rw (doing.left, doing.right) (pair_does one other doing.way doing.n doing.m pair
          (does_swapped table (here one) (cursor_tree other) (cursor_tree one) doing.way doing.m doing.n
          (look_swapped (def_of table (here one)) (cursor_tree one) (cursor_tree other) (pair_look one other pair)) doing.is))
      go (Err kind) (Err why) doing = tt
      go (Ok next) (Err kind) doing = absurd doing
      go (Err kind) (Ok after) doing = absurd doing
