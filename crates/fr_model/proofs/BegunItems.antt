-- Lists, arrays and pointers to slices: what is begun suits its shape and holds what was there, and so it is with one more item.
use Rattle.std.proofs.Common.{◌≡◌, ◌+◌, if◌then◌else◌, ◌∷◌}
use Rattle.fr_model.proofs.Common.{IsBegunAs, IsBegunRightly, ℕ, suc, leb-true, nat_le, Bool, true, false, [], Option, Some, None, refl, sym, subst, arith, option_or, Def, KnownPointer, ShapeId, Operation, fits, all_fit, points_at, Table, def_of, is_dynamic, Val, Vals, unit, list_of, ptr, no_vals, first, set_item_refusal, is_slice, init_array_refusal, whole_array_refusal, begun_item_refusal, item_refusal, with_item, is_open_slice, closed_slice, shared_slice_by, shared_slice_refusal, array_limit, opened, at_shape, init_list_refusal, Tracker, as_elements, as_items, ItemsKind, Tree, hole, entered, whole, begun, Trees, no_trees, branch, and_last, child_as, count_trees, count_below, wholes, fresh, tree_occurs, trees_occur, Mode, IsTouched, AreTouched, Suits, AllOff, AtCursor, OffBut}
use Rattle.fr_model.proofs.Becoming.{Placed, closed_suits}
use Rattle.fr_model.proofs.Basis.{may_work, enter_touched, fresh_suits, fresh_at_cursor, holes_off, wholes_off, SuitFrom, count_holes, holes_suit, settled_as, both_true, fresh_holds, wholes_touched}

-- A list or an array is begun

-- items of one shape, each of which fits
pub items_suit : (table : Table) (s : ℕ) (tracker : Tracker) (item : ℕ) → ((i : ℕ) → child_as table s tracker i ≡ item) → (i : ℕ)
    (vs : Vals) → all_fit table item vs ≡ true → SuitFrom table s tracker i (wholes vs)
items_suit table s tracker item same i no_vals fit = tt
items_suit table s tracker item same i (first v vs) fit =
    let both = both_true _ _ fit in (rw (same i) both.0, items_suit table s tracker item same (suc i) vs both.1)

whole_list : (mode : Mode) (table : Table) (s : ℕ) (item : ShapeId) (v : Val) → def_of table s ≡ Def.List item
    → fits table s v ≡ true → Placed mode table s [] (opened (Def.List item) (whole v))
whole_list mode table s item (list_of vs) is fit =
    let items : all_fit table item.0 vs ≡ true = rw (settled_as table s is refl) at fit in
    record { suits = ((rw is tt, tt), items_suit table s (as_items ItemsKind.List) item.0 (λ i. rw is refl) 0 vs items, wholes_touched vs); leads = (may_work mode _ refl, wholes_off mode vs) }
whole_list mode table s item unit is fit = cc
whole_list mode table s item _ is fit = let none = rw (settled_as table s is refl) at fit in cc

pub list_opens : (mode : Mode) (table : Table) (s : ℕ) (t : Tree) → is_dynamic (def_of table s) ≡ false
    → init_list_refusal s (def_of table s) t ≡ None → Placed mode table s [] t → Placed mode table s [] (opened (def_of table s) t)
list_opens mode table s t other e there = go (def_of table s) t refl other e there
  where
    go : (def : Def) (t : Tree) → def_of table s ≡ def → is_dynamic def ≡ false → init_list_refusal s def t ≡ None
        → Placed mode table s [] t → Placed mode table s [] (opened def t)
    go def (begun tracker ts) is other e there = there
    go def hole is other e there = absurd there.leads
    go (Def.List item) entered is other e there = record { suits = ((rw is tt, tt), tt, tt); leads = (may_work mode _ refl, tt) }
    go (Def.List item) (whole v) is other e there = whole_list mode table s item v is there.suits
    go _ _ is other e there = cc

pub array_opens : (mode : Mode) (table : Table) (s : ℕ) (t : Tree) → at_shape s (init_array_refusal (def_of table s) t) ≡ None
    → Placed mode table s [] t → Placed mode table s [] (opened (def_of table s) t)
array_opens mode table s t e there = go (def_of table s) t refl e there
  where
    few : (item : ShapeId) (n : ℕ) (t : Tree) (b : Bool) → nat_le n array_limit ≡ b → def_of table s ≡ Def.Array item n
        → at_shape s (option_or (if b then None else Some Operation.ArrayTooLarge) (whole_array_refusal t)) ≡ None
        → Placed mode table s [] t → Placed mode table s [] (opened (Def.Array item n) t)
    few item n hole b small is e there = absurd there.leads
    few item n (begun tracker ts) b small is e there = there
    few item n entered true small is e there =
        let count = count_holes n in
        let limit = leb-true n array_limit small in
        record { suits = ((rw is count, omega (arith, count, limit)), holes_suit table s as_elements 0 n, tt); leads = (may_work mode _ refl, holes_off mode n) }
    few item n (whole v) true small is e there = cc
    few item n _ false small is e there = cc

    go : (def : Def) (t : Tree) → def_of table s ≡ def → at_shape s (init_array_refusal def t) ≡ None → Placed mode table s [] t
        → Placed mode table s [] (opened def t)
    go (Def.Array item n) t is e there = few item n t (nat_le n array_limit) refl is e there
    go _ _ is e there = cc

-- An item is added

-- a place begun so takes items
abbrev pub TakesItems : Tracker → Type 0
TakesItems (as_items ItemsKind.List) = Unit {0}
TakesItems (as_items ItemsKind.Slice) = Unit {0}
TakesItems (as_items ItemsKind.Set) = Unit {0}
TakesItems (as_items ItemsKind.Array) = Unit {0}
TakesItems _ = ⊥

pub record TakesAnItem (t : Tree) : Type 0 where
  pub tracker : Tracker
  pub children : Trees
  pub is : t ≡ begun tracker children
  pub takes : TakesItems tracker

pub takes_an_item : (def : Def) (t : Tree) → item_refusal def t ≡ None → TakesAnItem t
takes_an_item def (begun tracker ts) e = go tracker e
  where
    go : (tracker : Tracker) → begun_item_refusal def tracker ≡ None → TakesAnItem (begun tracker ts)
    go (as_items ItemsKind.List) e = record { tracker = as_items ItemsKind.List; children = ts; is = refl; takes = tt }
    go (as_items ItemsKind.Slice) e = record { tracker = as_items ItemsKind.Slice; children = ts; is = refl; takes = tt }
    go (as_items ItemsKind.Array) e = record { tracker = as_items ItemsKind.Array; children = ts; is = refl; takes = tt }
    go _ e = cc
takes_an_item def _ e = cc

pub takes_a_set_item : (def : Def) (t : Tree) → set_item_refusal def t ≡ None → TakesAnItem t
takes_a_set_item (Def.Set item) (begun (as_items ItemsKind.Set) ts) e = record { tracker = as_items ItemsKind.Set; children = ts; is = refl; takes = tt }
takes_a_set_item (Def.Set item) (begun _ ts) e = cc
takes_a_set_item (Def.Set item) _ e = cc
takes_a_set_item _ t e = cc

pub last_suits : (table : Table) (s : ℕ) (tracker : Tracker) (k i : ℕ) (ts : Trees) (last : Tree) → k ≡ i + count_trees ts
    → SuitFrom table s tracker i ts → Suits table (child_as table s tracker k) last → SuitFrom table s tracker i (and_last ts last)
last_suits table s tracker k i no_trees last is suit here =
    (subst (λ (n : ℕ). Suits table (child_as table s tracker n) last) (omega arith) here, tt)
last_suits table s tracker k i (branch t ts) last is suit here =
    (suit.0, last_suits table s tracker k (suc i) ts last (omega arith) suit.1 here)

pub last_touched : (ts : Trees) (last : Tree) → AreTouched ts → IsTouched last → AreTouched (and_last ts last)
last_touched no_trees last touched here = (here, tt)
last_touched (branch t ts) last touched here = (touched.0, last_touched ts last touched.1 here)

pub last_leads : (mode : Mode) (ts : Trees) (last : Tree) → AllOff mode ts → AtCursor mode last
    → OffBut mode (count_trees ts) (λ child. AtCursor mode child) (and_last ts last)
last_leads mode no_trees last off here = (here, tt)
last_leads mode (branch t ts) last off here = (off.0, last_leads mode ts last off.1 here)

pub last_holds : (ts : Trees) (last : Tree) (t : ℕ) → trees_occur (and_last ts last) t ≡ trees_occur ts t + tree_occurs last t
last_holds no_trees last t = omega arith
last_holds (branch tree ts) last t = let rest = last_holds ts last t in omega arith

-- what takes items may have any number of them, and one more touched item
more_begun : (def : Def) (tracker : Tracker) (m n : ℕ) → TakesItems tracker → IsBegunAs def tracker m → IsBegunAs def tracker n
more_begun def (as_items ItemsKind.List) m n takes begun_as = begun_as
more_begun def (as_items ItemsKind.Slice) m n takes begun_as = begun_as
more_begun def (as_items ItemsKind.Set) m n takes begun_as = begun_as
more_begun def (as_items ItemsKind.Array) m n takes begun_as = begun_as
more_begun def _ m n takes begun_as = absurd takes

last_rightly : (table : Table) (s : ℕ) (tracker : Tracker) (ts : Trees) (last : Tree) → TakesItems tracker
    → IsBegunRightly table s tracker ts → IsTouched last → IsBegunRightly table s tracker (and_last ts last)
last_rightly table s (as_items ItemsKind.List) ts last takes rightly here = last_touched ts last rightly here
last_rightly table s (as_items ItemsKind.Slice) ts last takes rightly here = (last_touched ts last rightly.0 here, rightly.1)
last_rightly table s (as_items ItemsKind.Set) ts last takes rightly here = last_touched ts last rightly here
last_rightly table s (as_items ItemsKind.Array) ts last takes rightly here = last_touched ts last rightly here
last_rightly table s _ ts last takes rightly here = absurd takes

-- the place with one more item, to which the cursor may go
pub item_placed : (mode : Mode) (table : Table) (s : ℕ) (t : Tree) → TakesAnItem t → Placed mode table s [] t
    → Placed mode table s (count_below t ∷ []) (with_item table s t)
item_placed mode table s t takes there =
    subst (λ (u : Tree). Placed mode table s (count_below u ∷ []) (with_item table s u)) (sym takes.is)
    (go takes.tracker takes.children takes.takes (subst (λ (u : Tree). Placed mode table s [] u) takes.is there))
  where
    go : (tracker : Tracker) (ts : Trees) → TakesItems tracker → Placed mode table s [] (begun tracker ts)
        → Placed mode table s (count_trees ts ∷ []) (with_item table s (begun tracker ts))
    go tracker ts takes there =
        let shape = child_as table s tracker (count_trees ts) in
        let item = fresh (def_of table shape) in
        record {
          suits = (
            more_begun (def_of table s) tracker (count_trees ts) (count_trees (and_last ts item)) takes there.suits.0,
            last_suits table s tracker (count_trees ts) 0 ts item (omega arith) there.suits.1 (fresh_suits table shape),
            last_rightly table s tracker ts item takes there.suits.2 (enter_touched (def_of table shape) hole),
          );
          leads = last_leads mode ts item there.leads.1 (fresh_at_cursor mode (def_of table shape));
        }

pub item_holds : (table : Table) (s : ℕ) (t : Tree) (token : ℕ) → tree_occurs (with_item table s t) token ≡ tree_occurs t token
item_holds table s (begun tracker ts) token =
    let shape = child_as table s tracker (count_trees ts) in
    omega (arith, last_holds ts (fresh (def_of table shape)) token, fresh_holds (def_of table shape) token)
item_holds table s _ token = refl

-- Pointers to slices

-- a pointer to a slice that is open is closed
pub slice_closes : (mode : Mode) (table : Table) (s : ℕ) (t : Tree) → is_open_slice t ≡ true → Placed mode table s [] t
    → Placed mode table s [] (closed_slice t)
slice_closes mode table s (begun (as_items ItemsKind.Slice) ts) e there =
    record { suits = closed_suits table s ts there.suits; leads = (may_work mode _ refl, there.leads.1) }
slice_closes mode table s _ e there = cc

pub closed_holds : (t : Tree) (token : ℕ) → tree_occurs (closed_slice t) token ≡ tree_occurs t token
closed_holds hole token = refl
closed_holds _ token = refl

-- an empty borrowed slice fits where it may be put
pub shared_fits : (table : Table) (s : ℕ) → shared_slice_refusal table (def_of table s) ≡ None → fits table s (ptr (list_of no_vals)) ≡ true
shared_fits table s e = go _ refl e
  where
    of_slice : (t : ShapeId) (def : Def) → def_of table t.0 ≡ def
        → (if is_slice def then None else Some Operation.PointeeNotSlice) ≡ None → fits table t.0 (list_of no_vals) ≡ true
    of_slice t (Def.Slice item) to e = rw (settled_as table t.0 to refl) refl
    of_slice t _ to e = cc

    by_known : (known : Option KnownPointer) (pointee : Option ShapeId) → shared_slice_by table known pointee ≡ None
        → points_at pointee (λ t. fits table t (list_of no_vals)) ≡ true
    by_known (Some KnownPointer.SharedReference) (Some t) e = of_slice t _ refl e
    by_known (Some KnownPointer.SharedReference) None e = cc
    by_known (Some KnownPointer.Box) pointee e = cc
    by_known _ pointee e = cc

    go : (def : Def) → def_of table s ≡ def → shared_slice_refusal table def ≡ None → fits table s (ptr (list_of no_vals)) ≡ true
    go (Def.Pointer pointer) is e = rw (settled_as table s is refl) (by_known pointer.known pointer.pointee e)
    go _ is e = cc
