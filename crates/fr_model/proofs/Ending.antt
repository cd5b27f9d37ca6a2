-- The cursor goes up: from a place that becomes whole with what it makes, and from an item that its set takes.
use Rattle.std.proofs.Common.{◌≡◌, ◌+◌, if◌then◌else◌, ◌∷◌}
use Rattle.fr_model.proofs.Common.{ℕ, zero, suc, Bool, true, false, [], Some, refl, sym, ap, subst, arith, IsChecked, fits, Meanings, Table, occurs, Val, is_set, has_same, without_nth, and_item, with_ended_item, leaves_item_out, number_in, complete, dropped_by_completing, Place, Column, is_root, up, is_set_item, takes_item, above, puts, as_items, ItemsKind, Tree, whole, begun, Trees, no_trees, branch, tree_nth, tree_at, change_at, and_last, shape_in, child_as, count_trees, tree_occurs, trees_occur, Mode, strict, deferred, State, cursor_shape, cursor_tree, AreTouched, IsTouched, Suits, AllOff, OffBut, Leads, BeganAbove, IsInOrder}
use Rattle.fr_model.proofs.Basis.{LawfulIn, completing_makes, may_work, leads_child, Made, suits_at, suits_changed, off_change, leads_left, leads_deferred, made_at, whole_off, SuitFrom, change_holds}
use Rattle.fr_model.proofs.Collections.{all_last}
use Rattle.fr_model.proofs.BegunItems.{last_suits, last_touched, last_holds}
use Rattle.fr_model.proofs.Wholes.{either_way}

-- Above the cursor, where whatever stands there may be half done

abbrev loosened : Mode → Mode
loosened strict = deferred 0
loosened (deferred start) = deferred start

leads_above : (mode : Mode) (here : Place) (t : Tree) → Leads mode here t → Leads (loosened mode) (up here) t
leads_above strict here t leads = leads_left 0 here t (leads_deferred 0 here t leads)
leads_above (deferred start) here t leads = leads_left start here t leads

-- What is converted as its source ends

-- the place above is whole, and the cursor goes up to it
leads_converted : (mode : Mode) (here : Place) (t : Tree) (v : Val) → is_root here ≡ false → Leads mode here t
    → Leads mode (up here) (change_at (up here) (λ old. whole v) t)
leads_converted mode [] t v root leads = cc
leads_converted mode (i ∷ []) t v root leads = tt
leads_converted mode (i ∷ j ∷ here) (begun tracker ts) v root leads =
    off_change mode i (λ child. Leads mode (j ∷ here) child) (λ child. Leads mode _ child)
    (λ child. change_at _ (λ old. whole v) child) ts (λ child. leads_converted mode (j ∷ here) _ v refl child) leads
leads_converted mode (i ∷ j ∷ here) _ v root leads = absurd leads

-- what the place above makes
pub made_above : (column : Column) (hooks : Meanings) (table : Table) (root : ℕ) (state : State) (v : Val)
    → LawfulIn hooks (cursor_tree (above state)) → IsChecked table
    → complete column hooks table (cursor_shape table root (above state)) (cursor_tree (above state)) ≡ Some v
    → IsInOrder table root state → Made table (cursor_shape table root (above state))
    (λ k. dropped_by_completing column hooks table (cursor_shape table root (above state)) (cursor_tree (above state)) k)
    (λ k. tree_occurs (cursor_tree (above state)) k) v
made_above column hooks table root state v lawful checked e order =
    completing_makes column hooks table (cursor_tree (above state)) (cursor_shape table root (above state)) v lawful checked
    (suits_at (loosened state.mode) table root (up state.cursor) state.tree
    (leads_above state.mode state.cursor state.tree order.leads) order.suits) e

pub converted_in_order : (column : Column) (hooks : Meanings) (table : Table) (root : ℕ) (state : State) (v : Val)
    → LawfulIn hooks (cursor_tree (above state)) → IsChecked table → is_root state.cursor ≡ false
    → BeganAbove state.mode (up state.cursor)
    → complete column hooks table (cursor_shape table root (above state)) (cursor_tree (above state)) ≡ Some v
    → IsInOrder table root state → IsInOrder table root (puts (above state) v)
converted_in_order column hooks table root state v lawful checked below began e order =
    let made = made_above column hooks table root state v lawful checked e order in
    record {
      suits = suits_changed (loosened state.mode) table root (up state.cursor) state.tree (λ old. whole v)
          (leads_above state.mode state.cursor state.tree order.leads) order.suits tt made.fit;
      leads = leads_converted state.mode state.cursor state.tree v below order.leads;
      began = began;
    }

pub converted_holds : (state : State) (v : Val) (token : ℕ) → Leads state.mode state.cursor state.tree
    → tree_occurs (puts (above state) v).tree token + tree_occurs (cursor_tree (above state)) token
    ≡ tree_occurs state.tree token + occurs v token
converted_holds state v token leads =
    change_holds _ _ state.tree (λ old. whole v) token (leads_above state.mode state.cursor state.tree leads)

-- An item of a set

pub record ItemAt (table : Table) (s : ℕ) (here : Place) (t : Tree) : Type 0 where
  pub children : Trees
  pub is : tree_at (up here) t ≡ begun (as_items ItemsKind.Set) children
  pub item : tree_at here t ≡ tree_nth (number_in here) children
  pub shape : shape_in table s here t ≡ child_as table (shape_in table s (up here) t) (as_items ItemsKind.Set) (number_in here)

pub item_at : (mode : Mode) (table : Table) (s : ℕ) (here : Place) (t : Tree) → is_root here ≡ false
    → is_set (tree_at (up here) t) ≡ true → Leads mode here t → ItemAt table s here t
item_at mode table s [] t root of_set leads = cc
item_at mode table s (i ∷ []) (begun (as_items ItemsKind.Set) ts) root of_set leads =
    record { children = ts; is = refl; item = refl; shape = refl }
item_at mode table s (i ∷ []) (begun _ ts) root of_set leads = cc
item_at mode table s (i ∷ []) _ root of_set leads = absurd leads
item_at mode table s (i ∷ j ∷ here) (begun tracker ts) root of_set leads =
    let below = item_at mode table _ (j ∷ here) _ refl of_set (leads_child mode i (λ child. Leads mode (j ∷ here) child) ts leads) in
    record { children = below.children; is = below.is; item = below.item; shape = below.shape }
item_at mode table s (i ∷ j ∷ here) _ root of_set leads = absurd leads

-- the set without it, and with its value

next_suits : (table : Table) (s k : ℕ) (ts : Trees) → SuitFrom table s (as_items ItemsKind.Set) (suc k) ts → SuitFrom table s (as_items ItemsKind.Set) k ts
next_suits table s k no_trees suit = tt
next_suits table s k (branch t ts) suit = (suit.0, next_suits table s (suc k) ts suit.1)

without_suits : (table : Table) (s i k : ℕ) (ts : Trees) → SuitFrom table s (as_items ItemsKind.Set) k ts
    → SuitFrom table s (as_items ItemsKind.Set) k (without_nth i ts)
without_suits table s i k no_trees suit = tt
without_suits table s zero k (branch t ts) suit = next_suits table s k ts suit.1
without_suits table s (suc i) k (branch t ts) suit = (suit.0, without_suits table s i (suc k) ts suit.1)

without_touched : (i : ℕ) (ts : Trees) → AreTouched ts → AreTouched (without_nth i ts)
without_touched i no_trees touched = tt
without_touched zero (branch t ts) touched = touched.1
without_touched (suc i) (branch t ts) touched = (touched.0, without_touched i ts touched.1)

without_off : (mode : Mode) (i : ℕ) (Below : Tree → Type 0) (ts : Trees) → OffBut mode i Below ts → AllOff mode (without_nth i ts)
without_off mode i Below no_trees off = absurd off
without_off mode zero Below (branch t ts) off = off.1
without_off mode (suc i) Below (branch t ts) off = (off.0, without_off mode i Below ts off.1)

without_holds : (i : ℕ) (ts : Trees) (token : ℕ)
    → trees_occur (without_nth i ts) token + tree_occurs (tree_nth i ts) token ≡ trees_occur ts token
without_holds i no_trees token = refl
without_holds zero (branch t ts) token = omega arith
without_holds (suc i) (branch t ts) token = let rest = without_holds i ts token in omega arith

with_suits : (table : Table) (s : ℕ) (ts : Trees) (v : Val) → fits table (child_as table s (as_items ItemsKind.Set) (count_trees ts)) v ≡ true
    → SuitFrom table s (as_items ItemsKind.Set) 0 ts → SuitFrom table s (as_items ItemsKind.Set) 0 (and_item ts v)
with_suits table s ts v fit suit =
    either_way (SuitFrom table s (as_items ItemsKind.Set) 0) ts v suit
    (last_suits table s (as_items ItemsKind.Set) (count_trees ts) 0 ts (whole v) (omega arith) suit fit)

with_touched : (ts : Trees) (v : Val) → AreTouched ts → AreTouched (and_item ts v)
with_touched ts v touched = either_way AreTouched ts v touched (last_touched ts (whole v) touched tt)

with_off : (mode : Mode) (ts : Trees) (v : Val) → AllOff mode ts → AllOff mode (and_item ts v)
with_off mode ts v off = either_way (AllOff mode) ts v off (all_last mode ts (whole v) (whole_off mode v) off)

with_holds : (ts : Trees) (v : Val) (token : ℕ)
    → trees_occur (and_item ts v) token + (if has_same v ts then occurs v token else 0) ≡ trees_occur ts token + occurs v token
with_holds ts v token = go _
  where
    go : (b : Bool) → trees_occur (if b then ts else and_last ts (whole v)) token + (if b then occurs v token else 0)
        ≡ trees_occur ts token + occurs v token
    go true = refl
    go false = let last = last_holds ts (whole v) token in omega arith

-- the cursor goes up from it
leads_took : (mode : Mode) (here : Place) (t : Tree) (v : Val) → is_root here ≡ false → is_set (tree_at (up here) t) ≡ true
    → Leads mode here t
    → Leads mode (up here) (change_at (up here) (with_ended_item (number_in here) v) t)
leads_took mode [] t v root of_set leads = cc
leads_took mode (i ∷ []) (begun (as_items ItemsKind.Set) ts) v root of_set leads =
    (may_work mode _ refl, with_off mode _ v (without_off mode i (λ child. Leads mode [] child) ts leads))
leads_took mode (i ∷ []) (begun _ ts) v root of_set leads = cc
leads_took mode (i ∷ []) _ v root of_set leads = absurd leads
leads_took mode (i ∷ j ∷ here) (begun tracker ts) v root of_set leads =
    off_change mode i (λ child. Leads mode (j ∷ here) child) (λ child. Leads mode _ child)
    (λ child. change_at _ (with_ended_item (number_in (j ∷ here)) v) child) ts
    (λ child. leads_took mode (j ∷ here) _ v refl of_set child) leads
leads_took mode (i ∷ j ∷ here) _ v root of_set leads = absurd leads

pub took_in_order : (column : Column) (hooks : Meanings) (table : Table) (root : ℕ) (state : State) (v : Val)
    → LawfulIn hooks (cursor_tree state) → IsChecked table → is_root state.cursor ≡ false → is_set_item state ≡ true → BeganAbove state.mode (up state.cursor)
    → complete column hooks table (cursor_shape table root state) (cursor_tree state) ≡ Some v
    → IsInOrder table root state → IsInOrder table root (takes_item state v)
took_in_order column hooks table root state v lawful checked below of_set began e order = record {
  suits = suits_changed (loosened state.mode) table root (up state.cursor) state.tree
      (with_ended_item (number_in state.cursor) v) above order.suits
      (subst (λ (u : Tree). IsTouched (with_ended_item (number_in state.cursor) v u)) (sym at.is) tt)
      (subst (λ (u : Tree). Suits table set_shape (with_ended_item (number_in state.cursor) v u)) (sym at.is) (
        there.0,
        with_suits table set_shape (without_nth (number_in state.cursor) at.children) v (rw at.shape at made.fit)
            (without_suits table set_shape (number_in state.cursor) 0 at.children there.1),
        with_touched (without_nth (number_in state.cursor) at.children) v
            (without_touched (number_in state.cursor) at.children there.2),
      ));
  leads = leads_took state.mode state.cursor state.tree v below of_set order.leads;
  began = began;
}
  where
    above : Leads (loosened state.mode) (up state.cursor) state.tree
    above = leads_above state.mode state.cursor state.tree order.leads

    at : ItemAt table root state.cursor state.tree
    at = item_at state.mode table root state.cursor state.tree below of_set order.leads

    set_shape : ℕ
    set_shape = shape_in table root (up state.cursor) state.tree

    made : Made table (cursor_shape table root state)
        (λ k. dropped_by_completing column hooks table (cursor_shape table root state) (cursor_tree state) k)
        (λ k. tree_occurs (cursor_tree state) k) v
    made = made_at column hooks table root state v lawful checked e order

    there : Suits table set_shape (begun (as_items ItemsKind.Set) at.children)
    there =
        subst (λ (u : Tree). Suits table set_shape u) at.is
        (suits_at (loosened state.mode) table root (up state.cursor) state.tree above order.suits)

-- and the set holds its value in its place, or leaves it out
pub took_holds : (table : Table) (root : ℕ) (state : State) (v : Val) (token : ℕ) → is_root state.cursor ≡ false
    → is_set_item state ≡ true → Leads state.mode state.cursor state.tree → tree_occurs (takes_item state v).tree token
    + (if leaves_item_out (number_in state.cursor) v (tree_at (up state.cursor) state.tree) then occurs v token else 0)
    + tree_occurs (cursor_tree state) token ≡ tree_occurs state.tree token + occurs v token
took_holds table root state v token below of_set leads =
    let there = change_holds _ _ state.tree (with_ended_item i v) token (leads_above state.mode state.cursor state.tree leads) in
    let changed : tree_occurs (with_ended_item i v set) token + (if leaves_item_out i v set then occurs v token else 0)
    + tree_occurs (cursor_tree state) token ≡ tree_occurs set token + occurs v token = subst
    (λ (u : Tree). tree_occurs (with_ended_item i v u) token + (if leaves_item_out i v u then occurs v token else 0)
    + tree_occurs (cursor_tree state) token ≡ tree_occurs u token + occurs v token) (sym at.is) of_children in
    omega arith
  where
    i : ℕ
    i = number_in state.cursor

    set : Tree
    set = tree_at (up state.cursor) state.tree

    at : ItemAt table root state.cursor state.tree
    at = item_at state.mode table root state.cursor state.tree below of_set leads

    of_children : trees_occur (and_item (without_nth i at.children) v) token
        + (if has_same v (without_nth i at.children) then occurs v token else 0) + tree_occurs (cursor_tree state) token
        ≡ trees_occur at.children token + occurs v token
    of_children =
        let item : tree_occurs (cursor_tree state) token ≡ tree_occurs (tree_nth i at.children) token
        = ap (λ (u : Tree). tree_occurs u token) at.item in
        omega (arith, without_holds i at.children token, with_holds (without_nth i at.children) v token)
