-- What `end` makes of a state in strict mode and of one beside it in deferred mode.
use Rattle.std.proofs.Common.{◌≡◌, ◌≢◌, ◌∷◌}
use Rattle.fr_model.proofs.Common.{ℕ, Bool, true, false, [], append-nil, length, nat_lt, lt-ltb, Option, Some, None, Result, Ok, Err, refl, sym, ◌∙◌, ap, subst, arith, Def, ReflectErrorKind, Invariant, Meanings, Table, def_of, Val, Place, is_root, deferred_column, strict_column, as_items, ItemsKind, Tree, hole, entered, whole, begun, Trees, tree_at, change_at, shape_in, strict, deferred, State, cursor_shape, cursor_tree, complete, is_set, is_set_item, is_source_place, is_dynamic_part, is_open_slice, closed_slice, up, number_in, with_ended_item, puts, puts_made, puts_and_leaves, ended, item_ended, takes_item, leaves, violates, TakesItemsAs}
use Rattle.fr_laws.proofs.PassageTrees.{IsRight, way_end, way_put, way_up}
use Rattle.fr_laws.proofs.PassageSides.{is_pointer, IsBeside, Along}
use Rattle.fr_laws.proofs.PassageSteps.{LookSame, change_is}
use Rattle.fr_laws.proofs.PassageCommands.{open_too}
use Rattle.fr_laws.proofs.PassageMoves.{DirectWay}
use Rattle.fr_laws.proofs.PassageEnds.{right_apart, along_changed, parents_same, left_along, taken_along, closed_same}
use Rattle.fr_laws.proofs.PassagePairs.{Pair, BothPair, pair_shape, pair_look, pair_right, state_right, look_swapped}
use Rattle.fr_laws.specs.Passage.{IsDirect}
use Rattle.fr_model.specs.Step.{end, closes}

-- at which place it ends
pub data EndCase (state : State) : Type 0 where
  at_slice : is_open_slice (cursor_tree state) ≡ true → EndCase state
  at_the_root : is_open_slice (cursor_tree state) ≡ false → is_root state.cursor ≡ true → EndCase state
  at_item : is_open_slice (cursor_tree state) ≡ false → is_root state.cursor ≡ false → is_set_item state ≡ true → EndCase state
  at_other : is_open_slice (cursor_tree state) ≡ false → is_root state.cursor ≡ false → is_set_item state ≡ false → EndCase state

pub end_case : (state : State) → EndCase state
end_case state = go (is_open_slice (cursor_tree state)) (is_root state.cursor) (is_set_item state) refl refl refl
  where
    go : (open_too root item : Bool) → is_open_slice (cursor_tree state) ≡ open_too → is_root state.cursor ≡ root → is_set_item state ≡ item
        → EndCase state
    go true root item e f g = at_slice e
    go false true item e f g = at_the_root e f
    go false false true e f g = at_item e f g
    go false false false e f g = at_other e f g

pub below_root : (place : Place) → is_root place ≡ false → place ≢ []
below_root [] e is = cc
below_root (i ∷ place) e is = cc

below_start : (place : Place) → is_root place ≡ false → nat_lt 0 (length place) ≡ true
below_start [] e = cc
below_start (i ∷ place) e = lt-ltb 0 (length (i ∷ place)) (omega arith)

pub record IsOpenSlice (t : Tree) : Type 0 where
  pub items : Trees
  pub is : t ≡ begun (as_items ItemsKind.Slice) items

pub open_slice_is : (t : Tree) → is_open_slice t ≡ true → IsOpenSlice t
open_slice_is (begun (as_items ItemsKind.Slice) ts) e = record { items = ts; is = refl }
open_slice_is (begun _ ts) e = cc
open_slice_is _ e = cc

open_same : (def : Def) (t u : Tree) → LookSame def t u → is_open_slice t ≡ is_open_slice u
open_same def t u look = go (is_open_slice t) (is_open_slice u) refl refl
  where
    go : (a b : Bool) → is_open_slice t ≡ a → is_open_slice u ≡ b → is_open_slice t ≡ is_open_slice u
    go true b e f = e ∙ sym (open_too def t u look e)
    go false true e f = open_too def u t (look_swapped def t u look) f ∙ sym f
    go false false e f = e ∙ sym f

slice_pointer : (def : Def) → TakesItemsAs def ItemsKind.Slice → is_pointer def ≡ true
slice_pointer (Def.Pointer pointer) takes = refl
slice_pointer _ takes = absurd takes

closed_right : (table : Table) (s : ℕ) (t : Tree) → is_open_slice t ≡ true → IsRight table s t → IsRight table s (closed_slice t)
closed_right table s t open_now right = go t (open_slice_is t open_now) right
  where
    takes : (def : Def) → TakesItemsAs def ItemsKind.Slice → TakesItemsAs def ItemsKind.ClosedSlice
    takes (Def.Pointer pointer) h = tt
    takes _ h = absurd h

    go : (t : Tree) → IsOpenSlice t → IsRight table s t → IsRight table s (closed_slice t)
    go t slice right =
        let there : IsRight table s (begun (as_items ItemsKind.Slice) slice.items) = subst (IsRight table s) slice.is right in
        rw slice.is (takes (def_of table s) there.0, there.1)

set_right : (table : Table) (s i : ℕ) (v : Val) (t : Tree) → is_set t ≡ true → IsRight table s t → IsRight table s (with_ended_item i v t)
set_right table s i v (begun (as_items ItemsKind.Set) ts) set right = right
set_right table s i v (begun _ ts) set right = cc
set_right table s i v hole set right = absurd right
set_right table s i v entered set right = right
set_right table s i v (whole w) set right = right

module _ (hooks : Meanings) (table : Table) (root : ℕ) where
  pub leads_changed : (place : Place) (t m : Tree) → DirectWay table root place t → IsRight table (shape_in table root place t) m
      → DirectWay table root place (change_at place (λ old. m) t)
  leads_changed place t m leads right =
      subst (λ (there : Place). DirectWay table root there (change_at place (λ old. m) t)) (append-nil place)
      (way_put table (IsDirect table) root place [] t m leads ((way_end table (IsDirect table) root place t leads).0, right))

  pub leads_up : (place : Place) (t : Tree) → DirectWay table root place t → DirectWay table root (up place) t
  leads_up place t leads = way_up table (IsDirect table) root place t leads

  pub no_source : (state : State) → DirectWay table root state.cursor state.tree → is_source_place state ≡ false
  no_source state leads =
      (right_apart table _ _ (way_end table (IsDirect table) root (up state.cursor) state.tree (leads_up state.cursor state.tree leads)).1).0

  pub no_part : (state : State) → DirectWay table root state.cursor state.tree → is_dynamic_part state ≡ false
  no_part state leads =
      (right_apart table _ _ (way_end table (IsDirect table) root (up state.cursor) state.tree (leads_up state.cursor state.tree leads)).1).1

  parent_right : (state : State) → DirectWay table root state.cursor state.tree
      → IsRight table (shape_in table root (up state.cursor) state.tree) (tree_at (up state.cursor) state.tree)
  parent_right state leads = (way_end table (IsDirect table) root (up state.cursor) state.tree (leads_up state.cursor state.tree leads)).1

  pub leads_taken : (state : State) (v : Val) → is_set_item state ≡ true → DirectWay table root state.cursor state.tree
      → DirectWay table root (up state.cursor) (change_at (up state.cursor) (with_ended_item (number_in state.cursor) v) state.tree)
  leads_taken state v set leads =
      subst (λ (w : Tree). DirectWay table root (up state.cursor) w) (sym (change_is (up state.cursor) (with_ended_item (number_in state.cursor) v) state.tree))
      (leads_changed (up state.cursor) state.tree _ (leads_up state.cursor state.tree leads)
      (set_right table _ (number_in state.cursor) v _ set (parent_right state leads)))

  pub leads_closed : (state : State) → is_open_slice (cursor_tree state) ≡ true → DirectWay table root state.cursor state.tree
      → DirectWay table root state.cursor (change_at state.cursor closed_slice state.tree)
  leads_closed state open_now leads =
      subst (λ (w : Tree). DirectWay table root state.cursor w) (sym (change_is state.cursor closed_slice state.tree))
      (leads_changed state.cursor state.tree _ leads (closed_right table _ _ open_now (state_right hooks table root state leads)))

  -- what it makes of a state in strict mode

  abbrev Ending : State → Result State ReflectErrorKind
  Ending state = end hooks table root (cursor_shape table root state) state

  abbrev strictly_made : State → Option Val
  strictly_made state = complete strict_column hooks table (cursor_shape table root state) (cursor_tree state)

  abbrev made_later : State → Option Val
  made_later state = complete deferred_column hooks table (cursor_shape table root state) (cursor_tree state)

  strict_slice : (state : State) → state.mode ≡ strict → is_open_slice (cursor_tree state) ≡ true
      → Ending state ≡ puts_made hooks table (cursor_shape table root state) state (strictly_made state)
  strict_slice state mode e = rw (e, mode) refl

  pub strict_root : (state : State) → is_open_slice (cursor_tree state) ≡ false → is_root state.cursor ≡ true
      → Ending state ≡ Err (violates Invariant.EndAtRoot)
  strict_root state e f = rw (e, f) refl

  strict_item : (state : State) → state.mode ≡ strict → is_open_slice (cursor_tree state) ≡ false → is_root state.cursor ≡ false
      → is_set_item state ≡ true → Ending state ≡ item_ended strict_column hooks table (cursor_shape table root state) state (strictly_made state)
  strict_item state mode e f g = rw (e, f, mode, g) refl

  strict_other : (state : State) → state.mode ≡ strict → DirectWay table root state.cursor state.tree → is_open_slice (cursor_tree state) ≡ false
      → is_root state.cursor ≡ false → is_set_item state ≡ false
      → Ending state ≡ ended hooks table (cursor_shape table root state) state (strictly_made state)
  strict_other state mode leads e f g = rw (e, f, mode, g, no_source state leads) refl

  -- and in deferred mode

  pub later_slice : (state : State) → state.mode ≡ deferred 0 → is_open_slice (cursor_tree state) ≡ true → Ending state ≡ Ok (closes state)
  later_slice state mode e = rw (e, mode) refl

  pub later_item : (state : State) → state.mode ≡ deferred 0 → is_open_slice (cursor_tree state) ≡ false → is_root state.cursor ≡ false
      → is_set_item state ≡ true → Ending state ≡ item_ended deferred_column hooks table (cursor_shape table root state) state (made_later state)
  later_item state mode e f g = rw (e, f, mode, below_start state.cursor f, g) refl

  pub later_other : (state : State) → state.mode ≡ deferred 0 → DirectWay table root state.cursor state.tree → is_open_slice (cursor_tree state) ≡ false
      → is_root state.cursor ≡ false → is_set_item state ≡ false → Ending state ≡ Ok (leaves state)
  later_other state mode leads e f g = rw (e, f, mode, below_start state.cursor f, g, no_part state leads) refl

  -- in strict mode it goes on only where the place completes
  pub end_completes : (state next : State) → state.mode ≡ strict → DirectWay table root state.cursor state.tree → Ending state ≡ Ok next
      → (v : Val) × (strictly_made state ≡ Some v)
  end_completes state next mode leads ok = go (strictly_made state) refl
    where
      go : (value : Option Val) → strictly_made state ≡ value → (v : Val) × (strictly_made state ≡ Some v)
      go (Some v) is = (v, is)
      go None is = absurd (by_case (end_case state))
        where
          by_case : EndCase state → ⊥
          by_case (at_slice e) = let none = sym ok ∙ strict_slice state mode e ∙ ap (puts_made hooks table _ state) is in cc
          by_case (at_the_root e f) = let none = sym ok ∙ strict_root state e f in cc
          by_case (at_item e f g) = let none = sym ok ∙ strict_item state mode e f g ∙ ap (item_ended strict_column hooks table _ state) is in cc
          by_case (at_other e f g) = let none = sym ok ∙ strict_other state mode leads e f g ∙ ap (ended hooks table _ state) is in cc

  -- where the place makes the same in both
  pub both_end : (one other : State) (v : Val) → Pair hooks table root one other → strictly_made one ≡ Some v → made_later other ≡ Some v
      → BothPair hooks table root (Ending one) (Ending other)
  both_end one other v pair is is' = go (end_case one)
    where
      look : LookSame (def_of table (cursor_shape table root one)) (cursor_tree one) (cursor_tree other)
      look = pair_look hooks table root one other pair

      opens_too : (b : Bool) → is_open_slice (cursor_tree one) ≡ b → is_open_slice (cursor_tree other) ≡ b
      opens_too b e = sym (open_same _ (cursor_tree one) (cursor_tree other) look) ∙ e

      root_too : (b : Bool) → is_root one.cursor ≡ b → is_root other.cursor ≡ b
      root_too b e = ap is_root (sym pair.same) ∙ e

      item_too : (b : Bool) → is_root one.cursor ≡ false → is_set_item one ≡ b → is_set_item other ≡ b
      item_too b f e =
          ap (λ (place : Place). is_set (tree_at (up place) other.tree)) (sym pair.same)
          ∙ sym (parents_same hooks table root one.cursor (IsBeside hooks table) one.tree other.tree (below_root one.cursor f) pair.along) ∙ e

      makes : complete deferred_column hooks table (cursor_shape table root one) (cursor_tree other) ≡ Some v
      makes = ap (λ (s : ℕ). complete deferred_column hooks table s (cursor_tree other)) (pair_shape hooks table root one other pair) ∙ is'

      makes_here : complete deferred_column hooks table (shape_in table root one.cursor one.tree) (tree_at one.cursor other.tree) ≡ Some v
      makes_here = ap (λ (place : Place). complete deferred_column hooks table (cursor_shape table root one) (tree_at place other.tree)) pair.same ∙ makes

      shut_beside : IsOpenSlice (cursor_tree other) → is_open_slice (cursor_tree one) ≡ true
          → IsBeside hooks table (cursor_shape table root one) (whole v) (closed_slice (cursor_tree other))
      shut_beside slice e =
          let right : IsRight table (cursor_shape table root one) (begun (as_items ItemsKind.Slice) slice.items)
          = subst (IsRight table (cursor_shape table root one)) slice.is (pair_right hooks table root one other pair) in
          subst (λ (w : Tree). IsBeside hooks table (cursor_shape table root one) (whole v) (closed_slice w)) (sym slice.is) (
            refl,
            slice_pointer (def_of table (cursor_shape table root one)) right.0,
            sym (closed_same hooks table deferred_column (cursor_shape table root one) slice.items)
                ∙ ap (complete deferred_column hooks table (cursor_shape table root one)) (sym slice.is) ∙ makes,
          )

      closing : is_open_slice (cursor_tree one) ≡ true → Pair hooks table root (puts one v) (closes other)
      closing e = record {
        same = pair.same;
        strictly = pair.strictly;
        deferredly = pair.deferredly;
        leads = leads_changed one.cursor one.tree (whole v) pair.leads tt;
        leads' = leads_closed other (opens_too true e) pair.leads';
        along = subst (λ (place : Place). Along hooks table root one.cursor (IsBeside hooks table) (change_at one.cursor (λ old. whole v) one.tree)
            (change_at place closed_slice other.tree)) pair.same
            (subst (λ (w : Tree). Along hooks table root one.cursor (IsBeside hooks table) (change_at one.cursor (λ old. whole v) one.tree) w)
            (sym (change_is one.cursor closed_slice other.tree))
            (along_changed hooks table root one.cursor (IsBeside hooks table) (IsBeside hooks table) one.tree other.tree (whole v)
            (closed_slice (tree_at one.cursor other.tree)) pair.along
            (subst (λ (place : Place). IsBeside hooks table (cursor_shape table root one) (whole v) (closed_slice (tree_at place other.tree))) (sym pair.same)
            (shut_beside (open_slice_is (cursor_tree other) (opens_too true e)) e))));
      }

      taking : is_root one.cursor ≡ false → is_set_item one ≡ true → Pair hooks table root (takes_item one v) (takes_item other v)
      taking f g = record {
        same = ap up pair.same;
        strictly = pair.strictly;
        deferredly = pair.deferredly;
        leads = leads_taken one v g pair.leads;
        leads' = leads_taken other v (item_too true f g) pair.leads';
        along = subst (λ (place : Place). Along hooks table root (up one.cursor) (IsBeside hooks table)
            (change_at (up one.cursor) (with_ended_item (number_in one.cursor) v) one.tree)
            (change_at (up place) (with_ended_item (number_in place) v) other.tree)) pair.same
            (taken_along hooks table root one.cursor one.tree other.tree v (below_root one.cursor f) pair.along g);
      }

      leaving : is_root one.cursor ≡ false → is_set_item one ≡ false → Pair hooks table root (puts_and_leaves one v) (leaves other)
      leaving f g = record {
        same = ap up pair.same;
        strictly = pair.strictly;
        deferredly = pair.deferredly;
        leads = leads_up one.cursor _ (leads_changed one.cursor one.tree (whole v) pair.leads tt);
        leads' = leads_up other.cursor other.tree pair.leads';
        along = left_along hooks table root one.cursor one.tree other.tree v (below_root one.cursor f) pair.along makes_here
            (ap (λ (place : Place). is_set (tree_at (up place) other.tree)) pair.same ∙ item_too false f g);
      }

      go : EndCase one → BothPair hooks table root (Ending one) (Ending other)
      go (at_slice e) =
          rw (strict_slice one pair.strictly e, later_slice other pair.deferredly (opens_too true e), is) (closing e)
      go (at_the_root e f) = rw (strict_root one e f, strict_root other (opens_too false e) (root_too true f)) tt
      go (at_item e f g) =
          rw (strict_item one pair.strictly e f g, later_item other pair.deferredly (opens_too false e) (root_too false f) (item_too true f g), is, is') (taking f g)
      go (at_other e f g) =
          rw (
            strict_other one pair.strictly pair.leads e f g,
            later_other other pair.deferredly pair.leads' (opens_too false e) (root_too false f) (item_too false f g),
            is,
          ) (leaving f g)
