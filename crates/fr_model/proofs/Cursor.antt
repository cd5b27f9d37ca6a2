-- The place to which a cursor leads, and a tree that is changed there.
use Rattle.std.proofs.Common.{◌≡◌, ◌<◌, ◌≤◌, ◌∷◌, ◌++◌}
use Rattle.fr_model.proofs.Common.{ℕ, zero, suc, true, false, is_begun_conversion, without_source, [], append-nil, length, length-append, Some, refl, sym, subst, arith, None, IsChecked, Meanings, Table, def_of, Val, fits, Place, Column, up, shape_at, as_fields, as_elements, Tree, hole, whole, begun, Trees, no_trees, branch, tree_nth, Tracker, change_nth, tree_at, change_at, shape_in, child_as, tree_occurs, Mode, strict, deferred, State, cursor_shape, cursor_tree, one_more_call, initial, dropped_by_completing, complete, Way, enter_child, enters, puts, puts_and_leaves, leaves, Journal, HasParts, IsBegunAs, IsTouched, Suits, AllOff, MayWorkAt, AtCursor, OffBut, Leads, BeganAbove, IsInOrder}
use Rattle.fr_model.proofs.Agreement.{Agrees, agree_nth, begun_count, leads_within, leads_child}
use Rattle.fr_model.proofs.JournalBelow.{down}
use Rattle.fr_model.proofs.CompletedFits.{LawfulIn, Made, completing_makes}
use Rattle.fr_model.proofs.Plain.{AllPlain, plain_child}
use Rattle.fr_model.proofs.Structs.{count_change, suit_change, suit_nth}
use Rattle.fr_model.proofs.Opening.{without_source_at, without_source_suits, Enterable, Entry, entry, fresh_suits, fresh_at_cursor, rightly_changed, whole_off, all_deferred}

-- what stands at the cursor

pub at_cursor : (mode : Mode) (here : Place) (t : Tree) → Leads mode here t → AtCursor mode (tree_at here t)
at_cursor mode [] t leads = leads
at_cursor mode (i ∷ here) (begun tracker ts) leads =
    at_cursor mode here _ (leads_child mode i (λ child. Leads mode here child) ts leads)
at_cursor mode (i ∷ here) _ leads = absurd leads

pub suits_at : (mode : Mode) (table : Table) (s : ℕ) (here : Place) (t : Tree) → Leads mode here t → Suits table s t
    → Suits table (shape_in table s here t) (tree_at here t)
suits_at mode table s [] t leads suits = suits
suits_at mode table s (i ∷ here) (begun tracker ts) leads suits =
    suits_at mode table _ here _
    (leads_child mode i (λ child. Leads mode here child) ts leads) (suit_nth table s tracker i 0 ts i (omega arith) suits.1)
suits_at mode table s (i ∷ here) _ leads suits = absurd leads

-- the places above the cursor's have parts to which the journal writes
abbrev pub PartsAlong : Place → Tree → Type 0
PartsAlong [] t = Unit {0}
PartsAlong (i ∷ here) (begun tracker ts) = HasParts tracker × PartsAlong here (tree_nth i ts)
PartsAlong (i ∷ here) _ = ⊥

pub parts_along : (mode : Mode) (table : Table) (s : ℕ) (here : Place) (t : Tree) (notes : Journal) → Leads mode here t
    → Agrees table s notes t → PartsAlong here t
parts_along mode table s [] t notes leads agrees = tt
parts_along mode table s (i ∷ here) (begun tracker ts) notes leads agrees = (
  agrees.2,
  parts_along mode table _ here _ (down i notes) (leads_child mode i (λ child. Leads mode here child) ts leads)
      (agree_nth table s tracker i 0 ts i notes (omega arith) (leads_within mode i (λ child. Leads mode here child) ts leads)
      agrees.1),
)
parts_along mode table s (i ∷ here) _ notes leads agrees = absurd leads

pub same_shape : (table : Table) (s : ℕ) (here : Place) (t : Tree) → PartsAlong here t → shape_at table s here ≡ shape_in table s here t
same_shape table s [] t along = refl
same_shape table s (i ∷ here) (begun (as_fields None) ts) along = same_shape table _ here _ along.1
same_shape table s (i ∷ here) (begun as_elements ts) along = same_shape table _ here _ along.1
same_shape table s (i ∷ here) (begun _ ts) along = absurd along.0
same_shape table s (i ∷ here) _ along = absurd along

-- and each shape that the place's shape reaches is plain
pub plain_at : (mode : Mode) (table : Table) (s : ℕ) (here : Place) (t : Tree) → PartsAlong here t → Leads mode here t
    → Suits table s t → AllPlain table s → AllPlain table (shape_in table s here t)
plain_at mode table s [] t along leads suits plain = plain
plain_at mode table s (i ∷ here) (begun tracker ts) along leads suits plain =
    let count = begun_count _ tracker _ along.0 suits.0 in
    let within = leads_within mode i (λ child. Leads mode here child) ts leads in
    plain_at mode table (child_as table s tracker i) here _ along.1 (leads_child mode i (λ child. Leads mode here child) ts leads)
    (suit_nth table s tracker i 0 ts i (omega arith) suits.1) (plain_child table s tracker i along.0 (omega arith) plain)
plain_at mode table s (i ∷ here) _ along leads suits plain = absurd leads

-- a place to which the cursor leads is no hole
pub leads_touched : (mode : Mode) (here : Place) (t : Tree) → Leads mode here t → IsTouched t
leads_touched mode [] hole leads = absurd leads
leads_touched mode [] _ leads = tt
leads_touched mode (i ∷ here) (begun tracker ts) leads = tt
leads_touched mode (i ∷ here) _ leads = absurd leads

-- a change there

-- what was touched stays so
changed_touched : (mode : Mode) (here : Place) (t : Tree) (change : Tree → Tree) → Leads mode here t
    → IsTouched (change (tree_at here t)) → IsTouched (change_at here change t)
changed_touched mode [] t change leads touched = touched
changed_touched mode (i ∷ here) (begun tracker ts) change leads touched = tt
changed_touched mode (i ∷ here) _ change leads touched = absurd leads

pub suits_changed : (mode : Mode) (table : Table) (s : ℕ) (here : Place) (t : Tree) (change : Tree → Tree) → Leads mode here t
    → Suits table s t → IsTouched (change (tree_at here t))
    → Suits table (shape_in table s here t) (change (tree_at here t)) → Suits table s (change_at here change t)
suits_changed mode table s [] t change leads suits touched changed = changed
suits_changed mode table s (i ∷ here) (begun tracker ts) change leads suits touched changed = (
  subst (λ (n : ℕ). IsBegunAs (def_of table s) tracker n) (sym (count_change i (λ child. change_at here change child) ts)) suits.0,
  suit_change table s tracker i 0 ts i (λ child. change_at here change child) (omega arith) suits.1
      (λ child. suits_changed mode table _ here _ change (leads_child mode i (λ c. Leads mode here c) ts leads) child touched changed),
  rightly_changed table s tracker ts i (λ child. change_at here change child)
      (changed_touched mode here _ change (leads_child mode i (λ c. Leads mode here c) ts leads) touched) suits.2,
)
suits_changed mode table s (i ∷ here) _ change leads suits touched changed = absurd leads

pub off_change : (mode : Mode) (i : ℕ) (Below After : Tree → Type 0) (change : Tree → Tree) (ts : Trees)
    → (Below (tree_nth i ts) → After (change (tree_nth i ts))) → OffBut mode i Below ts → OffBut mode i After (change_nth i change ts)
off_change mode i Below After change no_trees step off = absurd off
off_change mode zero Below After change (branch t ts) step off = (step off.0, off.1)
off_change mode (suc i) Below After change (branch t ts) step off = (off.0, off_change mode i Below After change ts step off.1)

-- the cursor goes on from there
pub leads_on : (mode : Mode) (here way : Place) (t : Tree) (change : Tree → Tree) → Leads mode here t
    → Leads mode way (change (tree_at here t)) → Leads mode (here ++ way) (change_at here change t)
leads_on mode [] way t change leads on = on
leads_on mode (i ∷ here) way (begun tracker ts) change leads on =
    off_change mode i (λ child. Leads mode here child) (λ child. Leads mode _ child)
    (λ child. change_at here change child) ts (λ child. leads_on mode here way _ change child on) leads
leads_on mode (i ∷ here) way _ change leads on = absurd leads

whole_among : (mode : Mode) (i : ℕ) (Below : Tree → Type 0) (v : Val) (ts : Trees) → OffBut mode i Below ts
    → AllOff mode (change_nth i (λ old. whole v) ts)
whole_among mode i Below v no_trees off = absurd off
whole_among mode zero Below v (branch t ts) off = (whole_off mode v, off.1)
whole_among mode (suc i) Below v (branch t ts) off = (off.0, whole_among mode i Below v ts off.1)

-- the place above is no conversion, to which strict mode doesn't go up
abbrev pub MayGoUp : Mode → Place → Tree → Type 0
MayGoUp strict here t = is_begun_conversion (tree_at (up here) t) ≡ false
MayGoUp (deferred start) here t = Unit {0}

-- the cursor may go up to what is no conversion, and in deferred mode to anything
pub may_go_up : (mode : Mode) (here : Place) (t : Tree) → is_begun_conversion (tree_at (up here) t) ≡ false → MayGoUp mode here t
may_go_up strict here t apart = apart
may_go_up (deferred start) here t apart = tt

pub may_go_deferred : (mode : Mode) (start : ℕ) (here : Place) (t : Tree) → mode ≡ deferred start → MayGoUp mode here t
may_go_deferred strict start here t is = cc
may_go_deferred (deferred from) start here t is = tt

works_above : (mode : Mode) (i : ℕ) (tracker : Tracker) (ts : Trees) → MayGoUp mode (i ∷ []) (begun tracker ts) → MayWorkAt mode tracker
works_above strict i tracker ts may = may
works_above (deferred start) i tracker ts may = tt

goes_below : (mode : Mode) (i j : ℕ) (here : Place) (tracker : Tracker) (ts : Trees) → MayGoUp mode (i ∷ j ∷ here) (begun tracker ts)
    → MayGoUp mode (j ∷ here) (tree_nth i ts)
goes_below strict i j here tracker ts may = may
goes_below (deferred start) i j here tracker ts may = tt

-- the cursor goes up from a place that is now whole
pub leads_up : (mode : Mode) (here : Place) (t : Tree) (v : Val) → MayGoUp mode here t → Leads mode here t
    → Leads mode (up here) (change_at here (λ old. whole v) t)
leads_up mode [] t v may leads = tt
leads_up mode (i ∷ []) (begun tracker ts) v may leads =
    (works_above mode i tracker ts may, whole_among mode i (λ child. Leads mode [] child) v ts leads)
leads_up mode (i ∷ []) _ v may leads = absurd leads
leads_up mode (i ∷ j ∷ here) (begun tracker ts) v may leads =
    off_change mode i (λ child. Leads mode (j ∷ here) child) (λ child. Leads mode _ child)
    (λ child. change_at (j ∷ here) (λ old. whole v) child) ts
    (λ child. leads_up mode (j ∷ here) _ v (goes_below mode i j here tracker ts may) child) leads
leads_up mode (i ∷ j ∷ here) _ v may leads = absurd leads

-- what lies off the way in either mode does so in deferred mode
off_deferred : (mode : Mode) (start i : ℕ) (Below After : Tree → Type 0) (ts : Trees)
    → (Below (tree_nth i ts) → After (tree_nth i ts)) → OffBut mode i Below ts → OffBut (deferred start) i After ts
off_deferred mode start i Below After no_trees step off = absurd off
off_deferred mode start zero Below After (branch t ts) step off = (step off.0, all_deferred start ts)
off_deferred mode start (suc i) Below After (branch t ts) step off = (tt, off_deferred mode start i Below After ts step off.1)

-- in deferred mode the cursor goes up from a place that is left as it is
pub leads_left : (start : ℕ) (here : Place) (t : Tree) → Leads (deferred start) here t → Leads (deferred start) (up here) t
leads_left start [] t leads = leads
leads_left start (i ∷ []) (begun tracker ts) leads = (tt, all_deferred start ts)
leads_left start (i ∷ []) _ leads = absurd leads
leads_left start (i ∷ j ∷ here) (begun tracker ts) leads =
    off_deferred (deferred start) start i (λ child. Leads (deferred start) (j ∷ here) child)
    (λ child. Leads (deferred start) _ child) ts (λ child. leads_left start (j ∷ here) _ child) leads
leads_left start (i ∷ j ∷ here) _ leads = absurd leads

-- deferred mode begins

strict_all : (start : ℕ) (t : Tree) → AtCursor strict t → AtCursor (deferred start) t
strict_all start hole at = absurd at
strict_all start (begun tracker ts) at = (tt, all_deferred start ts)
strict_all start _ at = tt

pub leads_deferred : (start : ℕ) (here : Place) (t : Tree) → Leads strict here t → Leads (deferred start) here t
leads_deferred start [] t leads = strict_all start t leads
leads_deferred start (i ∷ here) (begun tracker ts) leads =
    off_deferred strict start i (λ child. Leads strict here child) (λ child. Leads (deferred start) here child) ts
    (λ child. leads_deferred start here _ child) leads
leads_deferred start (i ∷ here) _ leads = absurd leads

-- where deferred mode began

began_below : (mode : Mode) (here : Place) (i : ℕ) → BeganAbove mode here → BeganAbove mode (here ++ i ∷ [])
began_below strict here i began = tt
began_below (deferred start) here i began = rw (length-append here (i ∷ [])) (omega (arith, began))

pub up_long : (here : Place) → length here ≤ suc (length (up here))
up_long [] = omega arith
up_long (i ∷ []) = omega arith
up_long (i ∷ j ∷ here) = let below = up_long (j ∷ here) in omega arith

pub began_up : (mode : Mode) (start : ℕ) (here : Place) → mode ≡ deferred start → start < length here → BeganAbove mode (up here)
began_up strict start here is deeper = tt
began_up (deferred from) start here is deeper = let same : from ≡ start = cc in omega (arith, deeper, up_long here)

pub began_strict : (mode : Mode) (here : Place) → mode ≡ strict → BeganAbove mode here
began_strict strict here is = tt
began_strict (deferred start) here is = cc

-- states in order

pub start_in_order : (table : Table) (root : ℕ) → IsInOrder table root (initial table root)
start_in_order table root = record { suits = fresh_suits table root; leads = fresh_at_cursor strict _; began = tt }

-- what stands at the cursor, which starts anew where it is a conversion
abbrev pub started : Table → (root : ℕ) → State → Tree
started table root state = without_source (def_of table (cursor_shape table root state)) (cursor_tree state)

pub entry_at : (table : Table) (root : ℕ) (state : State) (i : ℕ)
    → Enterable table (cursor_shape table root state) i (started table root state) → IsInOrder table root state
    → Entry state.mode table (cursor_shape table root state) i (started table root state)
    (enter_child table (cursor_shape table root state) i (started table root state))
entry_at table root state i enterable order =
    entry state.mode table _ i _ enterable
    (without_source_at state.mode _ _ (at_cursor state.mode state.cursor state.tree order.leads))
    (without_source_suits table _ _ (suits_at state.mode table root state.cursor state.tree order.leads order.suits))

-- the place at the cursor becomes another that suits its shape and may be the cursor's
pub changed_in_order : (table : Table) (root : ℕ) (state : State) (change : Tree → Tree)
    → Suits table (cursor_shape table root state) (change (cursor_tree state)) → AtCursor state.mode (change (cursor_tree state))
    → IsInOrder table root state
    → IsInOrder table root (record state { tree = change_at state.cursor change state.tree; calls = one_more_call state.calls })
changed_in_order table root state change suits at order = record {
  suits = suits_changed state.mode table root state.cursor state.tree change order.leads order.suits
      (leads_touched state.mode [] (change (cursor_tree state)) at) suits;
  leads = subst (λ (place : Place). Leads state.mode place (change_at state.cursor change state.tree))
      (append-nil state.cursor) (leads_on state.mode state.cursor [] state.tree change order.leads at);
  began = order.began;
}

-- and the cursor goes to its child i
pub moved_in_order : (table : Table) (root : ℕ) (state : State) (i : ℕ) (change : Tree → Tree)
    → Suits table (cursor_shape table root state) (change (cursor_tree state))
    → Leads state.mode (i ∷ []) (change (cursor_tree state)) → IsInOrder table root state → IsInOrder table root (record state {
      tree = change_at state.cursor change state.tree;
      cursor = state.cursor ++ i ∷ [];
      calls = one_more_call state.calls;
    })
moved_in_order table root state i change suits leads order = record {
  suits = suits_changed state.mode table root state.cursor state.tree change order.leads order.suits
      (leads_touched state.mode (i ∷ []) (change (cursor_tree state)) leads) suits;
  leads = leads_on state.mode state.cursor (i ∷ []) state.tree change order.leads leads;
  began = began_below state.mode state.cursor i order.began;
}

pub begun_in_order : (table : Table) (root : ℕ) (state : State) (i : ℕ)
    → Enterable table (cursor_shape table root state) i (started table root state) → IsInOrder table root state
    → IsInOrder table root (enters table (cursor_shape table root state) state (Way.Child i))
begun_in_order table root state i enterable order =
    let child = entry_at table root state i enterable order in moved_in_order table root state i _ child.suits child.leads order

pub put_in_order : (table : Table) (root : ℕ) (state : State) (v : Val)
    → fits table (cursor_shape table root state) v ≡ true → IsInOrder table root state → IsInOrder table root (puts state v)
put_in_order table root state v fit order = changed_in_order table root state (λ old. whole v) fit tt order

-- what the place at the cursor makes
pub made_at : (column : Column) (hooks : Meanings) (table : Table) (root : ℕ) (state : State) (v : Val)
    → LawfulIn hooks (cursor_tree state) → IsChecked table → complete column hooks table (cursor_shape table root state) (cursor_tree state) ≡ Some v → IsInOrder table root state
    → Made table (cursor_shape table root state)
    (λ k. dropped_by_completing column hooks table (cursor_shape table root state) (cursor_tree state) k)
    (λ k. tree_occurs (cursor_tree state) k) v
made_at column hooks table root state v lawful checked e order =
    completing_makes column hooks table (cursor_tree state) (cursor_shape table root state) v lawful checked
    (suits_at state.mode table root state.cursor state.tree order.leads order.suits) e

-- what the place makes stands there, and the cursor goes up
pub completed_in_order : (column : Column) (hooks : Meanings) (table : Table) (root : ℕ) (state : State) (v : Val)
    → LawfulIn hooks (cursor_tree state) → IsChecked table → BeganAbove state.mode (up state.cursor) → MayGoUp state.mode state.cursor state.tree
    → complete column hooks table (cursor_shape table root state) (cursor_tree state) ≡ Some v
    → IsInOrder table root state → IsInOrder table root (puts_and_leaves state v)
completed_in_order column hooks table root state v lawful checked began may e order =
    let made = made_at column hooks table root state v lawful checked e order in
    record {
      suits = suits_changed state.mode table root state.cursor state.tree (λ old. whole v) order.leads order.suits tt made.fit;
      leads = leads_up state.mode state.cursor state.tree v may order.leads;
      began = began;
    }

-- a place is left as it is
pub left_in_order : (table : Table) (root start : ℕ) (state : State) → state.mode ≡ deferred start
    → start < length state.cursor → IsInOrder table root state → IsInOrder table root (leaves state)
left_in_order table root start state is deeper order =
    record { suits = order.suits; leads = of_mode state.mode is order.leads; began = began_up state.mode start state.cursor is deeper }
  where
    of_mode : (mode : Mode) → mode ≡ deferred start → Leads mode state.cursor state.tree → Leads mode (up state.cursor) state.tree
    of_mode strict is leads = cc
    of_mode (deferred from) is leads = leads_left from state.cursor state.tree leads

-- deferred mode begins at the cursor
abbrev pub defers : State → State
defers state = record state { mode = deferred (length state.cursor); calls = one_more_call state.calls }

pub deferred_in_order : (table : Table) (root : ℕ) (state : State) → state.mode ≡ strict → IsInOrder table root state
    → IsInOrder table root (defers state)
deferred_in_order table root state is order = record {
  suits = order.suits;
  leads = leads_deferred (length state.cursor) state.cursor state.tree
      (subst (λ (mode : Mode). Leads mode state.cursor state.tree) is order.leads);
  began = omega arith;
}
