-- Maps and sets: how they come to be begun, what a key, a value and an item add, and what each is refused for.
use Rattle.std.proofs.Common.{◌≡◌, ℕ, zero, suc, ◌%◌, Bool, true, false, Some, None, refl, ap, arith}
use Rattle.fr_moves.specs.Common.{Def, EntriesKind, HasChild, HasItems, IsFullAs, Operation, Table, Tracker, Tree, Trees, and_last, as_entries, begun, branch, change_child, child_as, child_tree, count_trees, def_of, enter, fresh, hole, is_map, is_map_tracker, lacks_value, no_trees, tree_nth, value_refusal}
use Rattle.fr_model.specs.Collections.{ends_in_hole, is_hole, with_key}
use Rattle.fr_model.specs.Places.{is_key}
use Rattle.fr_model.specs.Step.{enter_child}
use Rattle.fr_store.specs.StackMoves.{with_key_of}
use Rattle.fr_moves.proofs.BegunListLaws.{by_items}

-- Keys and values.

pub has_map : (tracker : Tracker) (count : ℕ) (tree : Tree) → HasItems tracker count tree → is_map_tracker tracker ≡ true
    → is_map tree ≡ true
has_map = by_items (λ tracker count tree. is_map_tracker tracker ≡ true → is_map tree ≡ true) (λ made ts h. h)

-- there is room for a key and a value behind its children
pub more_entries : (def : Def) (n : ℕ) (tracker : Tracker) → is_map_tracker tracker ≡ true → IsFullAs def tracker n
    → IsFullAs def tracker (suc (suc n))
more_entries (Def.Map key item) n (as_entries (EntriesKind.Map base)) h full = full
more_entries _ n (as_entries (EntriesKind.Map base)) h full = absurd full
more_entries def n _ h full = cc

-- a new entry, whose key has this definition
pub key_so : (table : Table) (s : ℕ) (def : Def) (tracker : Tracker) (count : ℕ) (tree : Tree) → HasItems tracker count tree
    → def ≡ def_of table (child_as table s tracker count) → with_key_of def tree ≡ with_key table s tree
key_so table s def =
    by_items (λ tracker count tree. def ≡ def_of table (child_as table s tracker count) → with_key_of def tree ≡ with_key table s tree)
    (λ made ts is. ap (λ (d : Def). begun made (and_last (and_last ts (fresh d)) hole)) is)

-- the last child is there
pub has_last : (tracker : Tracker) (i : ℕ) (tree : Tree) → HasItems tracker (suc i) tree → HasChild tracker i tree
has_last tracker i (begun made ts) has = (has.0, omega (arith, has.1))
has_last tracker i _ has = has

-- where a value is lacking, it is the last child
a_hole : (t : Tree) → is_hole t ≡ true → t ≡ hole
a_hole hole h = refl
a_hole _ h = cc

last_hole : (ts : Trees) (i : ℕ) → ends_in_hole ts ≡ true → count_trees ts ≡ suc i → tree_nth i ts ≡ hole
last_hole no_trees i h is = cc
last_hole (branch t no_trees) zero h is = a_hole t h
last_hole (branch t no_trees) (suc i) h is = absurd (omega (arith, is))
last_hole (branch t (branch u ts)) zero h is = absurd (omega (arith, is))
last_hole (branch t (branch u ts)) (suc i) h is = last_hole (branch u ts) i h (omega (arith, is))

lacking : (tree : Tree) → value_refusal tree ≡ None → lacks_value tree ≡ true
lacking tree may = go (is_map tree) (lacks_value tree) refl refl
  where
    go : (b c : Bool) → is_map tree ≡ b → lacks_value tree ≡ c → lacks_value tree ≡ true
    go true true e h = h
    go true false e h = let no : Some Operation.ValueBeforeKey ≡ None = rw (e, h) at may in cc
    go false c e h = let no : Some Operation.ValueBeforeKey ≡ None = rw e at may in cc

pub value_lacks : (tracker : Tracker) (i : ℕ) (tree : Tree) → HasItems tracker (suc i) tree → value_refusal tree ≡ None
    → child_tree i tree ≡ hole
value_lacks tracker i (begun made ts) has may = last_hole ts i (lacking (begun made ts) may) has.1
value_lacks tracker i _ has may = refl

-- the value is entered, of this definition
pub value_so : (table : Table) (s i : ℕ) (def : Def) (tracker : Tracker) (count : ℕ) (tree : Tree) → HasItems tracker count tree
    → def ≡ def_of table (child_as table s tracker i) → change_child i (enter def) tree ≡ enter_child table s i tree
value_so table s i def =
    by_items (λ tracker count tree.
    def ≡ def_of table (child_as table s tracker i) → change_child i (enter def) tree ≡ enter_child table s i tree)
    (λ made ts is. ap (λ (d : Def). change_child i (enter d) (begun made ts)) is)

-- Which children are keys.

pub even_key : (i : ℕ) → i % 2 ≡ 0 → is_key i ≡ true
even_key zero even = refl
even_key (suc zero) even = absurd (omega arith)
even_key (suc (suc i)) even = even_key i (omega arith)

pub odd_value : (i : ℕ) → ¬ (i % 2 ≡ 0) → is_key i ≡ false
odd_value zero odd = absurd (odd refl)
odd_value (suc zero) odd = refl
odd_value (suc (suc i)) odd = odd_value i (λ even. odd (omega arith))
