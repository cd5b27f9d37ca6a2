-- What lies around the cursor rests: no pointer to a slice is open there, and what a set or a dynamic value has there is whole, as is
-- the base of a map.
use Rattle.std.proofs.Common.{◌≡◌, ◌<◌, ◌∷◌, ◌++◌}
use Rattle.fr_model.proofs.Common.{ℕ, zero, suc, true, false, [], Option, Some, None, refl, sym, ap, subst, arith, Def, ShapeId, fits, Table, def_of, Val, Vals, set_of, map_of, no_vals, first, is_set, without_nth, with_ended_item, number_in, with_key, is_begun_dynamic, with_item, is_open_slice, closed_slice, Place, is_root, up, count_children, parts_as, opened_value, opened, enter, enter_child, Tracker, as_fields, as_elements, as_items, ItemsKind, as_entries, EntriesKind, tracker_of, tracker_at, over_base, Tree, hole, entered, whole, begun, Trees, no_trees, branch, tree_nth, change_nth, change_child, tree_at, change_at, child_as, and_last, count_trees, count_below, holes, wholes, fresh, Suits, AreDone, Rests, AllRest, RestBut, IsBehindBase, RestsAround}
use Rattle.fr_model.proofs.Wholes.{base_begun, base_without, base_last, done_none, behind_all, without_changed, without_last, done_but, done_left, done_put, done_with, either_way}
use Rattle.fr_model.proofs.TokensInTrees.{fresh_is}
use Rattle.fr_model.proofs.Structs.{settled_as}
use Rattle.fr_model.proofs.Templates.{both_true}

-- what rests, rests around any place in it

pub rests_here : (t : Tree) → Rests t → RestsAround [] t
rests_here (begun tracker ts) rests = (rests.1, rests.2)
rests_here _ rests = tt

pub holes_rest : (n : ℕ) → AllRest (holes n)
holes_rest zero = tt
holes_rest (suc n) = (tt, holes_rest n)

pub wholes_rest : (vs : Vals) → AllRest (wholes vs)
wholes_rest no_vals = tt
wholes_rest (first v vs) = (tt, wholes_rest vs)

pub fresh_rests : (def : Def) → Rests (fresh def)
fresh_rests def = fresh_is Rests def (λ e. tt) (λ e. tt)

-- one child is the cursor's
pub rest_but : (i : ℕ) (ts : Trees) → AllRest ts → RestBut i (λ child. RestsAround [] child) ts
rest_but i no_trees rest = tt
rest_but zero (branch t ts) rest = (rests_here t rest.0, rest.1)
rest_but (suc i) (branch t ts) rest = (rest.0, rest_but i ts rest.1)

-- A change at the cursor

-- a change of the child that is the cursor's, of which something is known
rest_changed : (i : ℕ) (Below After : Tree → Type 0) (change : Tree → Tree) (ts : Trees)
    → (Below (tree_nth i ts) → After (change (tree_nth i ts))) → RestBut i Below ts → RestBut i After (change_nth i change ts)
rest_changed i Below After change no_trees step rest = tt
rest_changed zero Below After change (branch t ts) step rest = (step rest.0, rest.1)
rest_changed (suc i) Below After change (branch t ts) step rest = (rest.0, rest_changed i Below After change ts step rest.1)

-- what is done with beside that child
pub done_beside : (tracker : Tracker) (i : ℕ) (change : Tree → Tree) (ts : Trees) → AreDone tracker (without_nth i ts)
    → AreDone tracker (without_nth i (change_nth i change ts))
done_beside tracker i change ts done = subst (AreDone tracker) (sym (without_changed i change ts)) done

pub rest_on : (here way : Place) (t : Tree) (change : Tree → Tree)
    → (RestsAround [] (tree_at here t) → RestsAround way (change (tree_at here t))) → RestsAround here t
    → RestsAround (here ++ way) (change_at here change t)
rest_on [] way t change step rests = step rests
rest_on (i ∷ here) way (begun tracker ts) change step rests = (
  done_beside tracker i (λ child. change_at here change child) ts rests.0,
  rest_changed i (λ child. RestsAround here child) (λ child. RestsAround _ child)
      (λ child. change_at here change child) ts (λ below. rest_on here way _ change step below) rests.1,
  rests.2,
)
rest_on (i ∷ here) way _ change step rests = tt

-- The cursor goes up from a place that isn't open

shut_rests : (t : Tree) → is_open_slice t ≡ false → RestsAround [] t → Rests t
shut_rests (begun (as_items ItemsKind.Slice) ts) shut rests = cc
shut_rests (begun _ ts) shut rests = (tt, rests.0, rests.1)
shut_rests _ shut rests = tt

all_rest : (i : ℕ) (ts : Trees) → is_open_slice (tree_nth i ts) ≡ false → RestBut i (λ child. RestsAround [] child) ts → AllRest ts
all_rest i no_trees shut rest = tt
all_rest zero (branch t ts) shut rest = (shut_rests t shut rest.0, rest.1)
all_rest (suc i) (branch t ts) shut rest = (rest.0, all_rest i ts shut rest.1)

rest_same : (i : ℕ) (Below After : Tree → Type 0) (ts : Trees) → (Below (tree_nth i ts) → After (tree_nth i ts))
    → RestBut i Below ts → RestBut i After ts
rest_same i Below After no_trees step rest = tt
rest_same zero Below After (branch t ts) step rest = (step rest.0, rest.1)
rest_same (suc i) Below After (branch t ts) step rest = (rest.0, rest_same i Below After ts step rest.1)

-- and that is left as it is: it is no item of a set and no part of a dynamic value
pub rest_up : (here : Place) (t : Tree) → is_open_slice (tree_at here t) ≡ false → is_set (tree_at (up here) t) ≡ false
    → is_begun_dynamic (tree_at (up here) t) ≡ false → RestsAround here t → RestsAround (up here) t
rest_up [] t shut no_set no_part rests = rests
rest_up (i ∷ []) (begun tracker ts) shut no_set no_part rests =
    (done_left tracker i ts no_set no_part rests.2 rests.0, all_rest i ts shut rests.1)
rest_up (i ∷ []) _ shut no_set no_part rests = tt
rest_up (i ∷ j ∷ here) (begun tracker ts) shut no_set no_part rests = (
  rests.0,
  rest_same i (λ child. RestsAround (j ∷ here) child) (λ child. RestsAround _ child) ts
      (λ below. rest_up (j ∷ here) _ shut no_set no_part below) rests.1,
  rests.2,
)
rest_up (i ∷ j ∷ here) _ shut no_set no_part rests = tt

-- and that is now whole: it is no item of a set

put_one : (i : ℕ) (v : Val) (Below : Tree → Type 0) (ts : Trees) → RestBut i Below ts → AllRest (change_nth i (λ old. whole v) ts)
put_one i v Below no_trees rest = tt
put_one zero v Below (branch t ts) rest = (tt, rest.1)
put_one (suc i) v Below (branch t ts) rest = (rest.0, put_one i v Below ts rest.1)

pub rest_put_up : (here : Place) (t : Tree) (v : Val) → is_set (tree_at (up here) t) ≡ false → RestsAround here t
    → RestsAround (up here) (change_at here (λ old. whole v) t)
rest_put_up [] t v no_set rests = tt
rest_put_up (i ∷ []) (begun tracker ts) v no_set rests =
    (done_put tracker i v ts no_set rests.2 rests.0, put_one i v (λ child. RestsAround [] child) ts rests.1)
rest_put_up (i ∷ []) _ v no_set rests = tt
rest_put_up (i ∷ j ∷ here) (begun tracker ts) v no_set rests = (
  done_beside tracker i (λ child. change_at (j ∷ here) (λ old. whole v) child) ts rests.0,
  rest_changed i (λ child. RestsAround (j ∷ here) child) (λ child. RestsAround _ child)
      (λ child. change_at (j ∷ here) (λ old. whole v) child) ts (λ below. rest_put_up (j ∷ here) _ v no_set below) rests.1,
  rests.2,
)
rest_put_up (i ∷ j ∷ here) _ v no_set rests = tt

-- and that was an item of a set, which takes its value

last_rest : (ts : Trees) (last : Tree) → AllRest ts → Rests last → AllRest (and_last ts last)
last_rest no_trees last rest here = (here, tt)
last_rest (branch t ts) last rest here = (rest.0, last_rest ts last rest.1 here)

without_rest : (i : ℕ) (Below : Tree → Type 0) (ts : Trees) → RestBut i Below ts → AllRest (without_nth i ts)
without_rest i Below no_trees rest = tt
without_rest zero Below (branch t ts) rest = rest.1
without_rest (suc i) Below (branch t ts) rest = (rest.0, without_rest i Below ts rest.1)

pub rest_took : (here : Place) (t : Tree) (v : Val) → is_root here ≡ false → RestsAround here t
    → RestsAround (up here) (change_at (up here) (with_ended_item (number_in here) v) t)
rest_took [] t v below rests = cc
rest_took (i ∷ []) (begun tracker ts) v below rests = (
  done_with tracker _ v rests.0,
  let rest = without_rest i (λ child. RestsAround [] child) ts rests.1 in either_way AllRest _ v rest (last_rest _ (whole v) rest tt),
)
rest_took (i ∷ []) _ v below rests = tt
rest_took (i ∷ j ∷ here) (begun tracker ts) v below rests = (
  done_beside tracker i (λ child. change_at _ (with_ended_item (number_in (j ∷ here)) v) child) ts rests.0,
  rest_changed i (λ child. RestsAround (j ∷ here) child) (λ child. RestsAround _ child)
      (λ child. change_at _ (with_ended_item (number_in (j ∷ here)) v) child) ts
      (λ there. rest_took (j ∷ here) _ v refl there) rests.1,
  rests.2,
)
rest_took (i ∷ j ∷ here) _ v below rests = tt

-- and that was a source: the place above it is whole
pub rest_converted : (here : Place) (t : Tree) (v : Val) → RestsAround here t → RestsAround (up here) (change_at (up here) (λ old. whole v) t)
rest_converted [] t v rests = tt
rest_converted (i ∷ []) t v rests = tt
rest_converted (i ∷ j ∷ here) (begun tracker ts) v rests = (
  done_beside tracker i (λ child. change_at _ (λ old. whole v) child) ts rests.0,
  rest_changed i (λ child. RestsAround (j ∷ here) child) (λ child. RestsAround _ child)
      (λ child. change_at _ (λ old. whole v) child) ts (λ there. rest_converted (j ∷ here) _ v there) rests.1,
  rests.2,
)
rest_converted (i ∷ j ∷ here) _ v rests = tt

-- What the commands make of the place at the cursor

value_rests : (tracker : Tracker) (v : Val) (parts : Option Vals) → ((ts : Trees) → AreDone (over_base tracker v) ts)
    → RestsAround [] (opened_value tracker v parts)
value_rests tracker v (Some vs) done = (done _, wholes_rest vs)
value_rests tracker v None done = tt

set_rests : (table : Table) (s : ℕ) (item : ShapeId) (v : Val) → def_of table s ≡ Def.Set item → fits table s v ≡ true
    → RestsAround [] (opened_value (as_items ItemsKind.Set) v (parts_as (as_items ItemsKind.Set) v))
set_rests table s item (set_of vs) is fit =
    let both = both_true _ _ (rw (settled_as table s is refl) at fit) in
    (record { values = vs; are = refl; once = both.1 }, wholes_rest vs)
set_rests table s item _ is fit = tt

map_rests : (table : Table) (s : ℕ) (key item : ShapeId) (v : Val) → def_of table s ≡ Def.Map key item → fits table s v ≡ true
    → RestsAround [] (opened_value (as_entries (EntriesKind.Map 0)) v (parts_as (as_entries (EntriesKind.Map 0)) v))
map_rests table s key item (map_of es) is fit =
    let both = both_true _ _ (rw (settled_as table s is refl) at fit) in (base_begun es both.1, wholes_rest _)
map_rests table s key item _ is fit = tt

pub opened_rests : (table : Table) (s : ℕ) (t : Tree) → Suits table s t → RestsAround [] t → RestsAround [] (opened (def_of table s) t)
opened_rests table s hole suits rests = tt
opened_rests table s entered suits rests = (holes_done _, holes_rest _)
  where
    holes_done : (def : Def) → AreDone (tracker_of def) (holes (count_children def))
    holes_done (Def.Set item) = done_none (as_items ItemsKind.Set) refl
    holes_done (Def.Map key item) = done_none (as_entries (EntriesKind.Map 0)) refl
    holes_done _ = tt
opened_rests table s (whole v) suits rests = go _ refl
  where
    go : (def : Def) → def_of table s ≡ def → RestsAround [] (opened_value (tracker_of def) v (parts_as (tracker_of def) v))
    go (Def.Set item) is = set_rests table s item v is suits
    go (Def.Array item n) is = value_rests as_elements v (parts_as as_elements v) (λ ts. tt)
    go (Def.List item) is = value_rests (as_items ItemsKind.List) v (parts_as (as_items ItemsKind.List) v) (λ ts. tt)
    go (Def.Map key item) is = map_rests table s key item v is suits
    go _ is = value_rests (as_fields None) v (parts_as (as_fields None) v) (λ ts. tt)
opened_rests table s (begun made ts) suits rests = rests

enter_rests : (def : Def) (t : Tree) → RestsAround [] t → RestsAround [] (enter def t)
enter_rests def hole rests = rests_here (fresh def) (fresh_rests def)
enter_rests def (begun tracker ts) rests = rests
enter_rests def _ rests = tt

-- a child of the place, where that is begun, that isn't in its base
abbrev IsBehindIn : Tree → ℕ → Type 0
IsBehindIn (begun tracker ts) i = IsBehindBase tracker i
IsBehindIn _ i = Unit {0}

opened_behind : (def : Def) (t : Tree) (i : ℕ) → IsBehindBase (tracker_at def t) i → IsBehindIn (opened def t) i
opened_behind def hole i behind = tt
opened_behind def entered i behind = behind
opened_behind def (whole v) i behind = go _
  where
    go : (parts : Option Vals) → IsBehindIn (opened_value (tracker_of def) v parts) i
    go (Some vs) = behind
    go None = tt
opened_behind def (begun tracker ts) i behind = behind

entered_rests : (i : ℕ) (def : Def) (t : Tree) → IsBehindIn t i → RestsAround [] t → RestsAround (i ∷ []) (change_child i (enter def) t)
entered_rests i def (begun tracker ts) behind rests = (
  done_beside tracker i (enter def) ts (done_but tracker i ts behind rests.0),
  rest_changed i (λ child. RestsAround [] child) (λ child. RestsAround [] child) (enter def) ts (enter_rests def _)
      (rest_but i ts rests.1),
  behind,
)
entered_rests i def _ behind rests = tt

pub enter_child_rests : (table : Table) (s i : ℕ) (t : Tree) → Suits table s t
    → IsBehindBase (tracker_at (def_of table s) t) i → RestsAround [] t → RestsAround (i ∷ []) (enter_child table s i t)
enter_child_rests table s i t suits behind rests =
    entered_rests i _ _ (opened_behind (def_of table s) t i behind) (opened_rests table s t suits rests)

pub put_among : (i : ℕ) (v : Val) (ts : Trees) → AllRest ts → AllRest (change_nth i (λ old. whole v) ts)
put_among i v ts rest = put_one i v (λ child. RestsAround [] child) ts (rest_but i ts rest)

pub last_rests : (ts : Trees) (last : Tree) → AllRest ts → RestsAround [] last
    → RestBut (count_trees ts) (λ child. RestsAround [] child) (and_last ts last)
last_rests no_trees last rest here = (here, tt)
last_rests (branch t ts) last rest here = (rest.0, last_rests ts last rest.1 here)

pub item_rests : (table : Table) (s : ℕ) (t : Tree) → RestsAround [] t → RestsAround (count_below t ∷ []) (with_item table s t)
item_rests table s (begun tracker ts) rests =
    let shape = child_as table s tracker _ in (
      subst (AreDone tracker) (sym (without_last ts _)) rests.0,
      last_rests ts _ rests.1 (rests_here (fresh (def_of table shape)) (fresh_rests (def_of table shape))),
      behind_all tracker ts rests.0,
    )
item_rests table s _ rests = tt

last_but : (i : ℕ) (Below : Tree → Type 0) (ts : Trees) (last : Tree) → i < count_trees ts → Rests last → RestBut i Below ts
    → RestBut i Below (and_last ts last)
last_but i Below no_trees last within here rest = absurd (omega arith)
last_but zero Below (branch t ts) last within here rest = (rest.0, last_rest ts last rest.1 here)
last_but (suc i) Below (branch t ts) last within here rest = (rest.0, last_but i Below ts last (omega arith) here rest.1)

pub count_last : (ts : Trees) (last : Tree) → count_trees (and_last ts last) ≡ suc (count_trees ts)
count_last no_trees last = refl
count_last (branch t ts) last = ap suc (count_last ts last)

-- a map with one more key
pub key_rests : (table : Table) (s base : ℕ) (ts : Trees) → RestsAround [] (begun (as_entries (EntriesKind.Map base)) ts)
    → RestsAround (count_trees ts ∷ []) (with_key table s (begun (as_entries (EntriesKind.Map base)) ts))
key_rests table s base ts rests =
    let last = fresh _ in
    let count = count_last ts last in
    let behind = behind_all (as_entries (EntriesKind.Map base)) ts rests.0 in (
      base_without base _ _ behind (base_last base (and_last ts last) hole (base_last base ts last rests.0)),
      last_but _ (λ child. RestsAround [] child) _ hole (omega arith) tt (last_rests ts last rests.1
          (rests_here last (fresh_rests (def_of table (child_as table s (as_entries (EntriesKind.Map base)) (count_trees ts)))))),
      behind,
    )

pub closed_rests : (t : Tree) → RestsAround [] t → RestsAround [] (closed_slice t)
closed_rests (begun tracker ts) rests = (tt, rests.1)
closed_rests _ rests = tt
