-- Conversions in a tree that is changed: each is still one that there is to its place.
use Rattle.std.proofs.Common.{◌≡◌, ◌+◌, ◌∷◌}
use Rattle.fr_model.proofs.Common.{ℕ, zero, suc, true, [], Option, Some, None, refl, sym, subst, arith, Field, Def, Table, def_of, List, Val, Vals, no_vals, first, is_set, without_nth, with_ended_item, with_item, with_key, with_entry, and_entry, entry_found, opened, opened_value, parts_as, enter, enter_child, is_open_slice, closed_slice, Place, Tracker, as_items, ItemsKind, as_entries, EntriesKind, tracker_of, over_base, Tree, hole, entered, whole, begun, Trees, no_trees, branch, tree_nth, change_nth, change_child, tree_at, change_at, and_last, child_as, field_as, field_along, shape_in, count_trees, wholes, holes, fresh, ConversionSuits, ConversionsSuit, AllConversionsSuit}
use Rattle.fr_model.proofs.TokensInTrees.{fresh_is}
use Rattle.fr_model.proofs.Wholes.{either_way}

pub fresh_converts : (table : Table) (s : ℕ) (field : Option Field) (def : Def) → ConversionsSuit table s field (fresh def)
fresh_converts table s field def = fresh_is (ConversionsSuit table s field) def (λ e. tt) (λ e. tt)

module _ (table : Table) (s : ℕ) where
  -- Children

  pub wholes_convert : (tracker : Tracker) (i : ℕ) (vs : Vals) → AllConversionsSuit table s tracker i (wholes vs)
  wholes_convert tracker i no_vals = tt
  wholes_convert tracker i (first v vs) = (tt, wholes_convert tracker (suc i) vs)

  pub holes_convert : (tracker : Tracker) (i n : ℕ) → AllConversionsSuit table s tracker i (holes n)
  holes_convert tracker i zero = tt
  holes_convert tracker i (suc n) = (tt, holes_convert tracker (suc i) n)

  -- those of a place that is begun otherwise, with the same shapes and fields
  pub convert_alike : (one other : Tracker) → ((i : ℕ) → child_as table s one i ≡ child_as table s other i)
      → ((i : ℕ) → field_as (def_of table s) one i ≡ field_as (def_of table s) other i) → (i : ℕ) (ts : Trees)
      → AllConversionsSuit table s one i ts → AllConversionsSuit table s other i ts
  convert_alike one other shapes fields i no_trees all = tt
  convert_alike one other shapes fields i (branch t ts) all = (
    subst (λ (f : Option Field). ConversionsSuit table (child_as table s other i) f t) (fields i)
        (subst (λ (shape : ℕ). ConversionsSuit table shape (field_as (def_of table s) one i) t) (shapes i) all.0),
    convert_alike one other shapes fields (suc i) ts all.1,
  )

  change_converts : (tracker : Tracker) (d k : ℕ) (ts : Trees) (i : ℕ) (change : Tree → Tree) → i ≡ k + d → AllConversionsSuit table s tracker k ts
      → (ConversionsSuit table (child_as table s tracker i) (field_as (def_of table s) tracker i) (tree_nth d ts)
      → ConversionsSuit table (child_as table s tracker i) (field_as (def_of table s) tracker i) (change (tree_nth d ts)))
      → AllConversionsSuit table s tracker k (change_nth d change ts)
  change_converts tracker d k no_trees i change is all step = tt
  change_converts tracker zero k (branch t ts) i change is all step =
      let here : i ≡ k = omega arith in (
        subst (λ (m : ℕ). ConversionsSuit table (child_as table s tracker m) (field_as (def_of table s) tracker m) (change t)) here
            (step (subst (λ (m : ℕ). ConversionsSuit table (child_as table s tracker m) (field_as (def_of table s) tracker m) t) (sym here) all.0)),
        all.1,
      )
  change_converts tracker (suc d) k (branch t ts) i change is all step =
      (all.0, change_converts tracker d (suc k) ts i change (omega arith) all.1 step)

  last_converts : (tracker : Tracker) (n k : ℕ) (ts : Trees) (last : Tree) → n ≡ k + count_trees ts → AllConversionsSuit table s tracker k ts
      → ConversionsSuit table (child_as table s tracker n) (field_as (def_of table s) tracker n) last → AllConversionsSuit table s tracker k (and_last ts last)
  last_converts tracker n k no_trees last is all here =
      let same : n ≡ k = omega arith in
      (subst (λ (m : ℕ). ConversionsSuit table (child_as table s tracker m) (field_as (def_of table s) tracker m) last) same here, tt)
  last_converts tracker n k (branch t ts) last is all here = (all.0, last_converts tracker n (suc k) ts last (omega arith) all.1 here)

  -- The place at the cursor

  module _ (field : Option Field) where
    child_converts : (t : Tree) (i : ℕ) (change : Tree → Tree)
        → ((shape : ℕ) (f : Option Field) (u : Tree) → ConversionsSuit table shape f u → ConversionsSuit table shape f (change u))
        → ConversionsSuit table s field t → ConversionsSuit table s field (change_child i change t)
    child_converts (begun tracker ts) i change step converts =
        (converts.0, change_converts tracker i 0 ts i change (omega arith) converts.1 (step _ _ _))
    child_converts _ i change step converts = tt

    -- a place of any definition is begun as no conversion, but where it is to be one
    of_definition : (def : Def) → ConversionSuits table s field (tracker_of def)
    of_definition (Def.Array t n) = tt
    of_definition _ = tt

    over_definition : (def : Def) (v : Val) → ConversionSuits table s field (over_base (tracker_of def) v)
    over_definition (Def.Map key item) v = tt
    over_definition _ v = tt

    pub opened_converts : (def : Def) (t : Tree) → ConversionsSuit table s field t → ConversionsSuit table s field (opened def t)
    opened_converts def hole converts = tt
    opened_converts def entered converts = (of_definition def, holes_convert (tracker_of def) 0 _)
    opened_converts def (whole v) converts = go (parts_as (tracker_of def) v)
      where
        go : (parts : Option Vals) → ConversionsSuit table s field (opened_value (tracker_of def) v parts)
        go (Some vs) = (over_definition def v, wholes_convert _ 0 vs)
        go None = tt
    opened_converts def (begun tracker ts) converts = converts

    enter_converts : (def : Def) (shape : ℕ) (f : Option Field) (t : Tree) → ConversionsSuit table shape f t → ConversionsSuit table shape f (enter def t)
    enter_converts def shape f hole converts = fresh_converts table shape f def
    enter_converts def shape f _ converts = converts

    pub enter_child_converts : (i : ℕ) (t : Tree) → ConversionsSuit table s field t → ConversionsSuit table s field (enter_child table s i t)
    enter_child_converts i t converts =
        child_converts (opened (def_of table s) t) i _ (enter_converts _) (opened_converts (def_of table s) t converts)

    pub put_child_converts : (i : ℕ) (v : Val) (t : Tree) → ConversionsSuit table s field t
        → ConversionsSuit table s field (change_child i (λ old. whole v) (opened (def_of table s) t))
    put_child_converts i v t converts =
        child_converts (opened (def_of table s) t) i (λ old. whole v) (λ shape f u c. tt) (opened_converts (def_of table s) t converts)

    pub item_converts : (t : Tree) → ConversionsSuit table s field t → ConversionsSuit table s field (with_item table s t)
    item_converts (begun tracker ts) converts =
        (converts.0, last_converts tracker (count_trees ts) 0 ts _ (omega arith) converts.1 (fresh_converts table _ _ _))
    item_converts _ converts = tt

    pub key_converts : (t : Tree) → ConversionsSuit table s field t → ConversionsSuit table s field (with_key table s t)
    key_converts (begun tracker ts) converts = (
      converts.0,
      last_converts tracker (suc (count_trees ts)) 0 (and_last ts (fresh _)) hole (one_more ts _)
          (last_converts tracker (count_trees ts) 0 ts _ (omega arith) converts.1 (fresh_converts table _ _ _)) tt,
    )
      where
        one_more : (ts : Trees) (last : Tree) → suc (count_trees ts) ≡ 0 + count_trees (and_last ts last)
        one_more no_trees last = omega arith
        one_more (branch t ts) last = let rest = one_more ts last in omega arith
    key_converts _ converts = tt

    pub entry_converts : (key : List ℕ) (keys : List (List ℕ)) (ts : Trees) → ConversionsSuit table s field (begun (as_entries (EntriesKind.Object keys)) ts)
        → ConversionsSuit table s field (with_entry table s key (begun (as_entries (EntriesKind.Object keys)) ts))
    entry_converts key keys ts converts = go (entry_found key keys)
      where
        go : (found : Option ℕ) → ConversionsSuit table s field (and_entry table s key (as_entries (EntriesKind.Object keys)) ts found)
        go (Some i) = converts
        go None = (
          tt,
          convert_alike (as_entries (EntriesKind.Object keys)) _ (λ i. refl) (λ i. refl) 0 _
              (last_converts (as_entries (EntriesKind.Object keys)) (count_trees ts) 0 ts _ (omega arith) converts.1
              (fresh_converts table _ _ _)),
        )

    pub shut_converts : (t : Tree) → is_open_slice t ≡ true → ConversionsSuit table s field t → ConversionsSuit table s field (closed_slice t)
    shut_converts (begun (as_items ItemsKind.Slice) ts) is_open converts =
        (tt, convert_alike (as_items ItemsKind.Slice) (as_items ItemsKind.ClosedSlice) (λ i. refl) (λ i. refl) 0 ts converts.1)
    shut_converts _ is_open converts = cc

    -- a set that takes an item

    next_converts : (k : ℕ) (ts : Trees) → AllConversionsSuit table s (as_items ItemsKind.Set) (suc k) ts
        → AllConversionsSuit table s (as_items ItemsKind.Set) k ts
    next_converts k no_trees all = tt
    next_converts k (branch t ts) all = (all.0, next_converts (suc k) ts all.1)

    without_converts : (i k : ℕ) (ts : Trees) → AllConversionsSuit table s (as_items ItemsKind.Set) k ts
        → AllConversionsSuit table s (as_items ItemsKind.Set) k (without_nth i ts)
    without_converts i k no_trees all = tt
    without_converts zero k (branch t ts) all = next_converts k ts all.1
    without_converts (suc i) k (branch t ts) all = (all.0, without_converts i (suc k) ts all.1)

    pub took_converts : (i : ℕ) (v : Val) (t : Tree) → is_set t ≡ true → ConversionsSuit table s field t
        → ConversionsSuit table s field (with_ended_item i v t)
    took_converts i v (begun (as_items ItemsKind.Set) ts) of_set converts =
        let others = without_converts i 0 ts converts.1 in (
          tt,
          either_way (AllConversionsSuit table s (as_items ItemsKind.Set) 0) (without_nth i ts) v others
              (last_converts (as_items ItemsKind.Set) (count_trees (without_nth i ts)) 0 (without_nth i ts) (whole v) (omega arith) others tt),
        )
    took_converts i v (begun _ ts) of_set converts = cc
    took_converts i v _ of_set converts = cc

-- a tree that is changed at a place
pub converts_changed : (table : Table) (s : ℕ) (field : Option Field) (here : Place) (t : Tree) (change : Tree → Tree)
    → ConversionsSuit table s field t → (ConversionsSuit table (shape_in table s here t) (field_along table s field here t) (tree_at here t)
    → ConversionsSuit table (shape_in table s here t) (field_along table s field here t) (change (tree_at here t)))
    → ConversionsSuit table s field (change_at here change t)
converts_changed table s field [] t change converts step = step converts
converts_changed table s field (i ∷ here) (begun tracker ts) change converts step = (
  converts.0,
  change_converts table s tracker i 0 ts i (λ child. change_at here change child) (omega arith) converts.1
      (λ child. converts_changed table (child_as table s tracker i) _ here (tree_nth i ts) change child step),
)
converts_changed table s field (i ∷ here) _ change converts step = tt
