-- The path of the place at which a builder works: where that place is changed, the cursor goes on, and each way on adds its step, or up.
use Rattle.std.proofs.Common.{◌≡◌, ◌<◌, ◌∷◌, ◌++◌, if◌then◌else◌}
use Rattle.fr_model.proofs.Common.{ℕ, zero, suc, List, [], length, refl, ◌∙◌, ap, arith, PathStep, LeadAbove, step_as, step_below, steps_in, path_of, Place, up, Tree, hole, begun, Trees, no_trees, branch, tree_nth, child_tree, change_nth, tree_at, change_at, count_trees, Mode, State, cursor_tree, Leads, Bool, true, false, Option, Some, None, unwrap_or, option_map, Def, fits, Table, def_of, Val, Vals, unit, product, list_of, set_of, map_of, around, content_anew, kept_in, kept_option, kept_so, and_entry, entry_found, is_begun_object, number_or_last, Way, enter_child, entered_on, number_on, opened, opened_value, parts_as, EnteringAddsItsStep, HasBegun, HasBegunAs, IsAdmittedOn, IsKeptAs, KeptIsAdmitted, step_on, Tracker, as_content, ContentKind, as_entries, EntriesKind, tracker_of, tracker_at, over_base, entered, whole, change_child, strict, deferred, cursor_shape, Suits, AtCursor}
use Rattle.fr_model.proofs.Agreement.{leads_within, leads_child}
use Rattle.fr_model.proofs.Becoming.{kept_so_is}
use Rattle.fr_model.proofs.Basis.{without_source_at, without_source_suits, fresh_at_cursor, fresh_suits, at_cursor, suits_at, settled_as, found_at, key_last}

pub as_deep : (here : Place) (t : Tree) → length (steps_in here t) ≡ length here
as_deep [] t = refl
as_deep (i ∷ here) (begun tracker ts) = ap suc (as_deep here (tree_nth i ts))
as_deep (i ∷ here) _ = ap suc (as_deep here hole)

-- the place itself is changed

steps_nth : (here : Place) (change : Tree → Tree) → ((t : Tree) → steps_in here (change t) ≡ steps_in here t) → (i : ℕ)
    (ts : Trees) → steps_in here (tree_nth i (change_nth i change ts)) ≡ steps_in here (tree_nth i ts)
steps_nth here change keeps i no_trees = refl
steps_nth here change keeps zero (branch t ts) = keeps t
steps_nth here change keeps (suc i) (branch t ts) = steps_nth here change keeps i ts

pub steps_kept : (here : Place) (change : Tree → Tree) (t : Tree) → steps_in here (change_at here change t) ≡ steps_in here t
steps_kept [] change t = refl
steps_kept (i ∷ here) change (begun tracker ts) =
    ap (λ (steps : List PathStep). step_as tracker i ∷ steps)
    (steps_nth here (λ child. change_at here change child) (λ child. steps_kept here change child) i ts)
steps_kept (i ∷ here) change _ = refl

-- a place above is changed

pub changed_nth : (i : ℕ) (change : Tree → Tree) (ts : Trees) → i < count_trees ts
    → tree_nth i (change_nth i change ts) ≡ change (tree_nth i ts)
changed_nth i change no_trees below = absurd (omega arith)
changed_nth zero change (branch t ts) below = refl
changed_nth (suc i) change (branch t ts) below = changed_nth i change ts (omega arith)

steps_on : (mode : Mode) (here way : Place) (t : Tree) (change : Tree → Tree) → Leads mode here t
    → steps_in (here ++ way) (change_at here change t) ≡ steps_in here t ++ steps_in way (change (tree_at here t))
steps_on mode [] way t change leads = refl
steps_on mode (i ∷ here) way (begun tracker ts) change leads =
    ap (λ (steps : List PathStep). step_as tracker i ∷ steps) (ap (steps_in _)
    (changed_nth i (λ child. change_at here change child) ts (leads_within mode i (λ child. Leads mode here child) ts leads))
    ∙ steps_on mode here way _ change (leads_child mode i (λ child. Leads mode here child) ts leads))
steps_on mode (i ∷ here) way _ change leads = absurd leads

pub enter_adds : (state : State) (change : Tree → Tree) (i : ℕ) → Leads state.mode state.cursor state.tree
    → steps_in (state.cursor ++ i ∷ []) (change_at state.cursor change state.tree)
    ≡ path_of state ++ step_below i (change (cursor_tree state)) ∷ []
enter_adds state change i leads = steps_on state.mode state.cursor (i ∷ []) state.tree change leads

-- the cursor goes up

-- all steps but the last
abbrev front : List PathStep → List PathStep
front [] = []
front (step ∷ []) = []
front (step ∷ next ∷ steps) = step ∷ front (next ∷ steps)

front_of : (before : List PathStep) (last : PathStep) → front (before ++ last ∷ []) ≡ before
front_of [] last = refl
front_of (step ∷ []) last = refl
front_of (step ∷ next ∷ steps) last = ap (λ (rest : List PathStep). step ∷ rest) (front_of (next ∷ steps) last)

steps_up : (here : Place) (t : Tree) → steps_in (up here) t ≡ front (steps_in here t)
steps_up [] t = refl
steps_up (i ∷ []) t = refl
steps_up (i ∷ j ∷ here) t = ap (λ (steps : List PathStep). step_below i t ∷ steps) (steps_up (j ∷ here) (child_tree i t))

pub leave_drops : (state : State) (before : List PathStep) (last : PathStep) → path_of state ≡ before ++ last ∷ [] → LeadAbove state before
leave_drops state before last is =
    record {
      as_it_is = above;
      changed = λ change. steps_up state.cursor _ ∙ ap front (steps_kept state.cursor change state.tree ∙ is) ∙ front_of before last;
      changed_above = λ change. steps_kept _ change state.tree ∙ above;
    }
  where
    above : steps_in (up state.cursor) state.tree ≡ before
    above = steps_up state.cursor state.tree ∙ ap front is ∙ front_of before last

-- a child as it is

changed_below : (i : ℕ) (change : Tree → Tree) (t : Tree) → step_below i (change_child i change t) ≡ step_below i t
changed_below i change hole = refl
changed_below i change _ = refl

-- a whole array is a product, a whole list and a whole set have items, and a whole map has entries
without_parts : (table : Table) (s i : ℕ) (def : Def) (v : Val) → def_of table s ≡ def → fits table s v ≡ true
    → parts_as (tracker_of def) v ≡ None → PathStep.Field i ≡ step_as (over_base (tracker_of def) v) i
without_parts table s i (Def.Array item n) (product vs) is fit none = cc
without_parts table s i (Def.Array item n) unit is fit none = cc
without_parts table s i (Def.Array item n) _ is fit none = let absent = rw (settled_as table s is refl) at fit in cc
without_parts table s i (Def.List item) (list_of vs) is fit none = cc
without_parts table s i (Def.List item) unit is fit none = cc
without_parts table s i (Def.List item) _ is fit none = let absent = rw (settled_as table s is refl) at fit in cc
without_parts table s i (Def.Set item) (set_of vs) is fit none = cc
without_parts table s i (Def.Set item) unit is fit none = cc
without_parts table s i (Def.Set item) _ is fit none = let absent = rw (settled_as table s is refl) at fit in cc
without_parts table s i (Def.Map key item) (map_of es) is fit none = cc
without_parts table s i (Def.Map key item) unit is fit none = cc
without_parts table s i (Def.Map key item) _ is fit none = let absent = rw (settled_as table s is refl) at fit in cc
without_parts table s i _ v is fit none = refl

opened_below : (mode : Mode) (table : Table) (s i : ℕ) (t : Tree) → AtCursor mode t → Suits table s t
    → step_below i (opened (def_of table s) t) ≡ step_as (tracker_at (def_of table s) t) i
opened_below mode table s i hole at suits = absurd at
opened_below mode table s i entered at suits = refl
opened_below mode table s i (begun tracker ts) at suits = refl
opened_below mode table s i (whole v) at suits = of_parts _ refl
  where
    of_parts : (parts : Option Vals) → parts_as (tracker_of (def_of table s)) v ≡ parts
        → step_below i (opened_value (tracker_of (def_of table s)) v parts) ≡ step_as (over_base (tracker_of (def_of table s)) v) i
    of_parts (Some vs) is = refl
    of_parts None none = without_parts table s i (def_of table s) v refl suits none

child_below : (mode : Mode) (table : Table) (s i : ℕ) (t : Tree) → AtCursor mode t → Suits table s t
    → step_below i (enter_child table s i t) ≡ step_as (tracker_at (def_of table s) t) i
child_below mode table s i t at suits = changed_below i _ _ ∙ opened_below mode table s i t at suits

-- an entry of a dynamic object

entry_below : (table : Table) (s : ℕ) (keys : List (List ℕ)) (children : Trees) (key : List ℕ) (found : Option ℕ)
    → entry_found key keys ≡ found
    → step_below (number_or_last found (length keys)) (and_entry table s key (as_entries (EntriesKind.Object keys)) children found)
    ≡ PathStep.Entry key
entry_below table s keys children key (Some i) is = ap PathStep.Entry (found_at key keys i is).is
entry_below table s keys children key None is = ap PathStep.Entry (key_last key keys)

object_below : (table : Table) (s : ℕ) (key : List ℕ) (t : Tree) → is_begun_object t ≡ true
    → step_below (number_on (Way.Entry key) t) (entered_on table s (Way.Entry key) t) ≡ PathStep.Entry key
object_below table s key (begun (as_entries (EntriesKind.Object keys)) ts) is = entry_below table s keys ts key _ refl
object_below table s key _ is = cc

-- an item, a key, and what is begun around one child

item_below : (table : Table) (s : ℕ) (t : Tree) → HasBegun t
    → step_below (number_on Way.Item t) (entered_on table s Way.Item t) ≡ step_on (def_of table s) t Way.Item
item_below table s (begun tracker ts) has = refl
item_below table s _ has = absurd has

key_below : (table : Table) (s : ℕ) (t : Tree) → HasBegun t
    → step_below (number_on Way.Key t) (entered_on table s Way.Key t) ≡ step_on (def_of table s) t Way.Key
key_below table s (begun tracker ts) has = refl
key_below table s _ has = absurd has

begun_below : (tracker : Tracker) (t : Tree) → HasBegunAs tracker t → step_below 0 t ≡ step_as tracker 0
begun_below tracker (begun made ts) same = ap (λ (known : Tracker). step_as known 0) same
begun_below tracker _ has = absurd has

content_below : (table : Table) (s : ℕ) (tracker : Tracker) (kept : Option Tree) → IsKeptAs tracker kept
    → step_below 0 (unwrap_or kept (content_anew table s tracker)) ≡ step_as tracker 0
content_below table s tracker (Some t) has = begun_below tracker t has
content_below table s tracker None has = refl

-- on each way

way_below : (mode : Mode) (table : Table) (s : ℕ) (t : Tree) (way : Way) → AtCursor mode t → Suits table s t
    → IsAdmittedOn t way → step_below (number_on way t) (entered_on table s way t) ≡ step_on (def_of table s) t way
way_below mode table s t (Way.Child i) at suits admitted =
    child_below mode table s i _ (without_source_at mode (def_of table s) t at) (without_source_suits table s t suits)
way_below mode table s t (Way.Anew i) at suits admitted =
    child_below mode table s i _ (fresh_at_cursor mode (def_of table s)) (fresh_suits table s)
way_below mode table s t Way.Item at suits admitted = item_below table s t admitted
way_below mode table s t Way.Key at suits admitted = key_below table s t admitted
way_below mode table s t (Way.Value i) at suits admitted = child_below mode table s i t at suits
way_below mode table s t (Way.Entry key) at suits admitted = object_below table s key t admitted
way_below mode table s t (Way.Content tracker kept) at suits admitted = content_below table s tracker kept admitted

pub enter_way_adds : EnteringAddsItsStep
enter_way_adds table root state way order admitted =
    enter_adds state _ _ order.leads
    ∙ ap (λ (step : PathStep). path_of state ++ step ∷ []) (way_below state.mode table here (cursor_tree state) way
    (at_cursor state.mode state.cursor state.tree order.leads)
    (suits_at state.mode table root state.cursor state.tree order.leads order.suits) admitted)
  where
    here : ℕ
    here = cursor_shape table root state

-- what the commands keep

so_kept : (tracker : Tracker) (t : Tree) (kept : Option Tree) → kept_so tracker t ≡ kept → IsKeptAs tracker kept
so_kept tracker t None is = tt
so_kept tracker t (Some tree) is = let to = kept_so_is tracker t tree is in rw to.same refl

in_kept : (mode : Mode) (tracker : Tracker) (t : Tree) → IsKeptAs tracker (kept_in mode tracker t)
in_kept strict tracker t = tt
in_kept (deferred start) tracker t = so_kept tracker t (kept_so tracker t) refl

some_kept : (mode : Mode) (content : Def) (t : Tree) → IsKeptAs (as_content ContentKind.Some) (kept_option mode content t)
some_kept mode content (begun tracker ts) = in_kept mode _ _
some_kept mode content (whole v) = go _ _
  where
    go : (b : Bool) (held : Option Val)
        → IsKeptAs (as_content ContentKind.Some) (if b then option_map (λ (u : Val). around (as_content ContentKind.Some) (whole u)) held else None)
    go true (Some u) = refl
    go true None = tt
    go false held = tt
some_kept mode content _ = tt

pub kept_is_admitted : KeptIsAdmitted
kept_is_admitted table s state tracker = (in_kept state.mode tracker _, some_kept state.mode _ _)
