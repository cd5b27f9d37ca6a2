-- Children that are whole, of which one is left out or put in, or comes behind the others; so those of a map's base, which stays in front
-- of its other children; and what a begun place is done with.
use Rattle.std.proofs.Common.{◌≡◌, ◌+◌, ◌<◌, ◌≤◌, if◌then◌else◌, ◌&&◌, ◌||◌}
use Rattle.fr_model.proofs.Common.{ℕ, zero, suc, Bool, true, false, refl, sym, ◌∙◌, ap, ap₂, arith, count_vals, same, none_twice, keys, Val, Vals, Entries, no_vals, first, no_entries, entry, ends_in_hole, without_nth, and_item, count_entries, in_turn, Tree, whole, Trees, no_trees, branch, and_last, count_trees, wholes, in_front, IsBase, not, subst, is_among, is_set_tracker, has_same, is_dynamic_tracker, and_last_val, Tracker, as_items, ItemsKind, as_entries, EntriesKind, base_of_tracker, change_nth, AreValues, AreItems, AreDone, IsBehindBase}
use Rattle.fr_model.proofs.Templates.{both_true, both_false, is_not}
use Rattle.fr_model.proofs.GatheredParts.{apart_last as val_apart_last, same_is_there}

-- the trees begin with these values, each of them whole
pub record StartsWith (vs : Vals) (ts : Trees) : Type 0 where
  pub rest : Trees
  pub are : ts ≡ in_front vs rest

pub starts_on : (t : Tree) (v : Val) (ts : Trees) (vs : Vals) → t ≡ whole v → StartsWith vs ts → StartsWith (first v vs) (branch t ts)
starts_on t v ts vs head tail = record { rest = tail.rest; are = ap₂ branch head tail.are }

turns_counted : (es : Entries) → count_vals (in_turn es) ≡ count_entries es + count_entries es
turns_counted no_entries = refl
turns_counted (entry k v es) = let rest = turns_counted es in omega arith

-- a base has a key and a value for each entry
pub base_long : (base : ℕ) (ts : Trees) (is : IsBase base ts) → count_vals (in_turn is.entries) ≡ base + base
base_long base ts is = let turns = turns_counted is.entries in omega (arith, turns, is.count)

-- where other trees begin with them too, these have the base
pub base_there : (base : ℕ) (ts us : Trees) (is : IsBase base ts) → StartsWith (in_turn is.entries) us → IsBase base us
base_there base ts us is there = record { entries = is.entries; rest = there.rest; count = is.count; are = there.are; once = is.once }

-- Any trees begin with no entries, and what is begun with the entries of a map begins with those.

pub base_none : (ts : Trees) → IsBase 0 ts
base_none ts = record { entries = no_entries; rest = ts; count = refl; are = refl; once = refl }

wholes_in_front : (vs : Vals) → wholes vs ≡ in_front vs no_trees
wholes_in_front no_vals = refl
wholes_in_front (first v vs) = ap (branch (whole v)) (wholes_in_front vs)

pub base_begun : (es : Entries) → none_twice (keys es) ≡ true → IsBase (count_entries es) (wholes (in_turn es))
base_begun es once = record { entries = es; rest = no_trees; count = refl; are = wholes_in_front (in_turn es); once = once }

-- A child behind the base is left out, or there again

front_without : (i : ℕ) (vs : Vals) (rest : Trees) → count_vals vs ≤ i → StartsWith vs (without_nth i (in_front vs rest))
front_without i no_vals rest behind = record { rest = without_nth i rest; are = refl }
front_without zero (first v vs) rest behind = absurd (omega arith)
front_without (suc i) (first v vs) rest behind = starts_on (whole v) v _ vs refl (front_without i vs rest (omega arith))

pub base_without : (base i : ℕ) (ts : Trees) → base + base ≤ i → IsBase base ts → IsBase base (without_nth i ts)
base_without base i ts behind is =
    let long = base_long base ts is in
    let there = front_without i _ is.rest (omega arith) in
    base_there base ts _ is (record { rest = there.rest; are = ap (without_nth i) is.are ∙ there.are })

front_with : (i : ℕ) (vs : Vals) (ts rest : Trees) → count_vals vs ≤ i → without_nth i ts ≡ in_front vs rest → StartsWith vs ts
front_with i no_vals ts rest behind e = record { rest = ts; are = refl }
front_with i (first v vs) no_trees rest behind e = cc
front_with zero (first v vs) (branch t ts) rest behind e = absurd (omega arith)
front_with (suc i) (first v vs) (branch t ts) rest behind e =
    let head : t ≡ whole v = cc in
    let tail : without_nth i ts ≡ in_front vs rest = cc in
    starts_on t v ts vs head (front_with i vs ts rest (omega arith) tail)

pub base_with : (base i : ℕ) (ts : Trees) → base + base ≤ i → IsBase base (without_nth i ts) → IsBase base ts
base_with base i ts behind is =
    let long = base_long base _ is in base_there base _ ts is (front_with i _ ts is.rest (omega arith) is.are)

-- Another child comes behind them

front_last : (vs : Vals) (rest : Trees) (last : Tree) → and_last (in_front vs rest) last ≡ in_front vs (and_last rest last)
front_last no_vals rest last = refl
front_last (first v vs) rest last = ap (branch (whole v)) (front_last vs rest last)

pub base_last : (base : ℕ) (ts : Trees) (last : Tree) → IsBase base ts → IsBase base (and_last ts last)
base_last base ts last is =
    base_there base ts _ is
    (record { rest = and_last is.rest last; are = ap (λ (us : Trees). and_last us last) is.are ∙ front_last _ is.rest last })

-- what holds of the items, and of those with the value behind them, holds of the items that the value is added to
pub either_way : (Are : Trees → Type 0) (ts : Trees) (v : Val) → Are ts → Are (and_last ts (whole v)) → Are (and_item ts v)
either_way Are ts v same more = go (has_same v ts)
  where
    go : (b : Bool) → Are (if b then ts else and_last ts (whole v))
    go true = same
    go false = more

pub base_item : (base : ℕ) (ts : Trees) (v : Val) → IsBase base ts → IsBase base (and_item ts v)
base_item base ts v is = either_way (IsBase base) ts v is (base_last base ts (whole v) is)

-- There are as many children, and more where one of them is a hole

front_long : (vs : Vals) (rest : Trees) → count_vals vs ≤ count_trees (in_front vs rest)
front_long no_vals rest = omega arith
front_long (first v vs) rest = let more = front_long vs rest in omega arith

pub base_within : (base : ℕ) (ts : Trees) → IsBase base ts → base + base ≤ count_trees ts
base_within base ts is =
    let long = base_long base ts is in
    let same : count_trees ts ≡ count_trees _ = ap count_trees is.are in
    omega (arith, front_long (in_turn is.entries) is.rest)

front_hole : (vs : Vals) (rest : Trees) → ends_in_hole (in_front vs rest) ≡ true → count_vals vs < count_trees (in_front vs rest)
front_hole no_vals no_trees e = cc
front_hole no_vals (branch t ts) e = omega arith
front_hole (first v no_vals) no_trees e = cc
front_hole (first v no_vals) (branch t ts) e = omega arith
front_hole (first v (first w vs)) rest e = let more = front_hole (first w vs) rest e in omega arith

pub base_hole : (base i : ℕ) (ts : Trees) → IsBase base ts → ends_in_hole ts ≡ true → suc i ≡ count_trees ts → base + base ≤ i
base_hole base i ts is e last =
    let long = base_long base ts is in
    let same : count_trees ts ≡ count_trees _ = ap count_trees is.are in
    omega (arith, front_hole (in_turn is.entries) is.rest (ap ends_in_hole (sym is.are) ∙ e))

-- The keys of a base are apart

pub base_apart : (k v l w : Val) (rest : Trees)
    → IsBase 2 (branch (whole k) (branch (whole v) (branch (whole l) (branch (whole w) rest)))) → same k l ≡ true → ⊥
base_apart k v l w rest is twice = go is.entries is.rest is.count is.are is.once
  where
    go : (es : Entries) (others : Trees) → count_entries es ≡ 2
        → branch (whole k) (branch (whole v) (branch (whole l) (branch (whole w) rest))) ≡ in_front (in_turn es) others
        → none_twice (keys es) ≡ true → ⊥
    go no_entries others count are once = cc
    go (entry a b no_entries) others count are once = cc
    go (entry a b (entry c d es)) others count are once =
        let one : a ≡ k = cc in
        let two : c ≡ l = cc in
        let again : same a c ≡ true = rw (one, two) twice in
        let not_once = rw again at once in
        cc

-- tests

pub neither_true : (a b : Bool) → a ≡ false → b ≡ false → (a || b) ≡ false
neither_true a b e f = rw (e, f) refl

pub both_hold : (a b : Bool) → a ≡ true → b ≡ true → (a && b) ≡ true
both_hold a b e f = rw (e, f) refl

-- one value is left out

abbrev pub without_val : ℕ → Vals → Vals
without_val i no_vals = no_vals
without_val zero (first v vs) = vs
without_val (suc i) (first v vs) = first v (without_val i vs)

pub wholes_without : (i : ℕ) (vs : Vals) → without_nth i (wholes vs) ≡ wholes (without_val i vs)
wholes_without i no_vals = refl
wholes_without zero (first v vs) = refl
wholes_without (suc i) (first v vs) = ap (branch (whole v)) (wholes_without i vs)

among_without : (v : Val) (i : ℕ) (vs : Vals) → is_among v vs ≡ false → is_among v (without_val i vs) ≡ false
among_without v i no_vals e = refl
among_without v zero (first w ws) e = (both_false (same v w) _ e).1
among_without v (suc i) (first w ws) e =
    let both = both_false (same v w) _ e in neither_true (same v w) _ both.0 (among_without v i ws both.1)

pub once_without : (i : ℕ) (vs : Vals) → none_twice vs ≡ true → none_twice (without_val i vs) ≡ true
once_without i no_vals e = refl
once_without zero (first v vs) e = (both_true _ _ e).1
once_without (suc i) (first v vs) e =
    let both = both_true _ _ e in
    both_hold _ _ (ap not (among_without v i vs (is_not (is_among v vs) both.0))) (once_without i vs both.1)

-- one comes behind the others

wholes_last : (vs : Vals) (v : Val) → and_last (wholes vs) (whole v) ≡ wholes (and_last_val vs v)
wholes_last no_vals v = refl
wholes_last (first u us) v = ap (branch (whole u)) (wholes_last us v)

-- trees without one

pub without_changed : (i : ℕ) (change : Tree → Tree) (ts : Trees) → without_nth i (change_nth i change ts) ≡ without_nth i ts
without_changed i change no_trees = refl
without_changed zero change (branch t ts) = refl
without_changed (suc i) change (branch t ts) = ap (branch t) (without_changed i change ts)

pub without_last : (ts : Trees) (last : Tree) → without_nth (count_trees ts) (and_last ts last) ≡ ts
without_last no_trees last = refl
without_last (branch t ts) last = ap (branch t) (without_last ts last)

-- one is put in among whole ones
put_between : (i : ℕ) (v : Val) (ts : Trees) (vs : Vals) → without_nth i ts ≡ wholes vs → AreValues (change_nth i (λ old. whole v) ts)
put_between i v no_trees vs e = record { values = no_vals; are = refl }
put_between zero v (branch t ts) vs e = record { values = first v vs; are = ap (branch (whole v)) e }
put_between (suc i) v (branch t ts) no_vals e = cc
put_between (suc i) v (branch t ts) (first w ws) e =
    let head : t ≡ whole w = cc in
    let tail : without_nth i ts ≡ wholes ws = cc in
    let rest = put_between i v ts ws tail in
    record { values = first w rest.values; are = ap₂ branch head rest.are }

-- what a begun place is done with

pub done_none : (tracker : Tracker) → base_of_tracker tracker ≡ 0 → AreDone tracker no_trees
done_none (as_items ItemsKind.Set) none = record { values = no_vals; are = refl; once = refl }
done_none (as_items ItemsKind.Array) none = record { values = no_vals; are = refl }
done_none (as_entries (EntriesKind.Object keys)) none = record { values = no_vals; are = refl }
done_none (as_entries (EntriesKind.Map base)) none = subst (λ (n : ℕ). IsBase n no_trees) (sym none) (base_none no_trees)
done_none _ none = tt

-- a child that comes behind all that is done with is behind the base
pub behind_all : (tracker : Tracker) (ts : Trees) → AreDone tracker ts → IsBehindBase tracker (count_trees ts)
behind_all (as_entries (EntriesKind.Map base)) ts done = base_within base ts done
behind_all _ ts done = tt

pub done_but : (tracker : Tracker) (i : ℕ) (ts : Trees) → IsBehindBase tracker i → AreDone tracker ts → AreDone tracker (without_nth i ts)
done_but (as_items ItemsKind.Set) i ts behind done = record {
  values = without_val i done.values;
  are = ap (without_nth i) done.are ∙ wholes_without i done.values;
  once = once_without i done.values done.once;
}
done_but (as_items ItemsKind.Array) i ts behind done =
    record { values = without_val i done.values; are = ap (without_nth i) done.are ∙ wholes_without i done.values }
done_but (as_entries (EntriesKind.Object keys)) i ts behind done =
    record { values = without_val i done.values; are = ap (without_nth i) done.are ∙ wholes_without i done.values }
done_but (as_entries (EntriesKind.Map base)) i ts behind done = base_without base i ts behind done
done_but _ i ts behind done = tt

-- what is neither a set nor a dynamic value is done with all its children once it is so with all but one, which isn't in its base
pub done_left : (tracker : Tracker) (i : ℕ) (ts : Trees) → is_set_tracker tracker ≡ false → is_dynamic_tracker tracker ≡ false
    → IsBehindBase tracker i → AreDone tracker (without_nth i ts) → AreDone tracker ts
done_left (as_items ItemsKind.Set) i ts no_set no_part behind done = cc
done_left (as_items ItemsKind.Array) i ts no_set no_part behind done = cc
done_left (as_entries (EntriesKind.Object keys)) i ts no_set no_part behind done = cc
done_left (as_entries (EntriesKind.Map base)) i ts no_set no_part behind done = base_with base i ts behind done
done_left _ i ts no_set no_part behind done = tt

pub done_put : (tracker : Tracker) (i : ℕ) (v : Val) (ts : Trees) → is_set_tracker tracker ≡ false → IsBehindBase tracker i
    → AreDone tracker (without_nth i ts) → AreDone tracker (change_nth i (λ old. whole v) ts)
done_put (as_items ItemsKind.Set) i v ts no_set behind done = cc
done_put (as_items ItemsKind.Array) i v ts no_set behind done = put_between i v ts done.values done.are
done_put (as_entries (EntriesKind.Object keys)) i v ts no_set behind done = put_between i v ts done.values done.are
done_put (as_entries (EntriesKind.Map base)) i v ts no_set behind done =
    base_with base i (change_nth i (λ old. whole v) ts) behind (subst (IsBase base) (sym (without_changed i (λ old. whole v) ts)) done)
done_put _ i v ts no_set behind done = tt

values_with : (ts : Trees) (v : Val) → AreValues ts → AreValues (and_item ts v)
values_with ts v done = either_way AreValues ts v done (record {
  values = and_last_val done.values v;
  are = ap (λ (items : Trees). and_last items (whole v)) done.are ∙ wholes_last done.values v;
})

items_with : (ts : Trees) (v : Val) → AreItems ts → AreItems (and_item ts v)
items_with ts v done = go _ refl
  where
    go : (b : Bool) → has_same v ts ≡ b → AreItems (if b then ts else and_last ts (whole v))
    go true e = done
    go false e = record {
      values = and_last_val done.values v;
      are = ap (λ (items : Trees). and_last items (whole v)) done.are ∙ wholes_last done.values v;
      once = val_apart_last done.values v done.once (sym (same_is_there v done.values) ∙ ap (has_same v) (sym done.are) ∙ e);
    }

pub done_with : (tracker : Tracker) (ts : Trees) (v : Val) → AreDone tracker ts → AreDone tracker (and_item ts v)
done_with (as_items ItemsKind.Set) ts v done = items_with ts v done
done_with (as_items ItemsKind.Array) ts v done = values_with ts v done
done_with (as_entries (EntriesKind.Object keys)) ts v done = values_with ts v done
done_with (as_entries (EntriesKind.Map base)) ts v done = base_item base ts v done
done_with _ ts v done = tt
