-- What values that come one after the other make: they fit, no two are `same`, and it holds what they hold but for what is left out, which
-- is nothing of distinct ones.
use Rattle.std.proofs.Common.{◌≡◌, ◌+◌, ◌&&◌, ◌||◌, if◌then◌else◌, ◌∷◌}
use Rattle.fr_model.proofs.Common.{ℕ, Bool, true, false, not, List, [], refl, ◌∙◌, ap, arith, Def, fits, all_fit, entries_fit, lacks_key, keys_once, all_keys_once, members_keys_once, Table, settled, same, is_among, none_twice, keys, occurs, vals_occur, entries_occur, Val, Vals, Entries, unit, dyn, no_vals, first, no_entries, entry, dynamic_in, dynamics_in, members_in, lacks, keys_apart, is_there, and_last_val, with_item_in, items_in, items_left_out, with_entry_in, entry_leaves_out, entries_in, entries_left_out, sym, has_same, in_turn, wholes}
use Rattle.fr_model.proofs.Templates.{both_true, both_false, is_not}

-- no two are `same`

apart_here : (u v : Val) (there : Vals) → not (is_among u there) ≡ true → same u v ≡ false → not (is_among u (and_last_val there v)) ≡ true
apart_here u v no_vals h e = rw e refl
apart_here u v (first w there) h e = go (same u w) h (λ h. apart_here u v there h e)
  where
    go : (b : Bool) → not (b || is_among u there) ≡ true → (not (is_among u there) ≡ true → not (is_among u (and_last_val there v)) ≡ true)
        → not (b || is_among u (and_last_val there v)) ≡ true
    go true h rest = cc
    go false h rest = rest h

pub apart_last : (there : Vals) (v : Val) → none_twice there ≡ true → is_there v there ≡ false → none_twice (and_last_val there v) ≡ true
apart_last no_vals v h e = refl
apart_last (first u there) v h e =
    let both = both_true _ _ h in
    let apart = both_false (same u v) _ e in
    rw (apart_here u v there both.0 apart.0, apart_last there v both.1 apart.1) refl

item_apart : (there : Vals) (v : Val) → none_twice there ≡ true → none_twice (with_item_in there v) ≡ true
item_apart there v h = go _ refl
  where
    go : (b : Bool) → is_there v there ≡ b → none_twice (if b then there else and_last_val there v) ≡ true
    go true is = h
    go false is = apart_last there v h is

pub items_apart : (there vs : Vals) → none_twice there ≡ true → none_twice (items_in there vs) ≡ true
items_apart there no_vals h = h
items_apart there (first v vs) h = items_apart (with_item_in there v) vs (item_apart there v h)

keys_with : (there : Entries) (k v : Val) → keys (with_entry_in there k v) ≡ with_item_in (keys there) k
keys_with no_entries k v = refl
keys_with (entry l w there) k v = go (same l k) (keys_with there k v)
  where
    in_front : (b : Bool) (some others : Vals) → first l (if b then some else others) ≡ (if b then first l some else first l others)
    in_front true some others = refl
    in_front false some others = refl

    go : (b : Bool) → keys (with_entry_in there k v) ≡ with_item_in (keys there) k
        → keys (if b then entry l v there else entry l w (with_entry_in there k v))
        ≡ (if b || is_there k (keys there) then first l (keys there) else first l (and_last_val (keys there) k))
    go true rest = refl
    go false rest = ap (first l) rest ∙ in_front _ (keys there) _

pub entries_apart : (there : Entries) (vs : Vals) → none_twice (keys there) ≡ true → none_twice (keys (entries_in there vs)) ≡ true
entries_apart there (first k (first v vs)) h =
    entries_apart (with_entry_in there k v) vs (rw (keys_with there k v) (item_apart (keys there) k h))
entries_apart there _ h = h

-- they fit

last_fits : (table : Table) (s : ℕ) (there : Vals) (v : Val) → all_fit table s there ≡ true → fits table s v ≡ true
    → all_fit table s (and_last_val there v) ≡ true
last_fits table s no_vals v h e = rw e refl
last_fits table s (first u there) v h e =
    let both = both_true _ (all_fit table s there) h in rw (both.0, last_fits table s there v both.1 e) refl

pub items_fit : (table : Table) (s : ℕ) (there vs : Vals) → all_fit table s there ≡ true → all_fit table s vs ≡ true
    → all_fit table s (items_in there vs) ≡ true
items_fit table s there no_vals h e = h
items_fit table s there (first v vs) h e = items_fit table s (with_item_in there v) vs (go (is_there v there)) both.1
  where
    both : (fits table s v ≡ true) × (all_fit table s vs ≡ true)
    both = both_true _ _ e

    go : (b : Bool) → all_fit table s (if b then there else and_last_val there v) ≡ true
    go true = h
    go false = last_fits table s there v h both.0

pub entry_fits : (table : Table) (a b : ℕ) (there : Entries) (k v : Val) → entries_fit table a b there ≡ true
    → fits table a k ≡ true → fits table b v ≡ true → entries_fit table a b (with_entry_in there k v) ≡ true
entry_fits table a b no_entries k v h of_key of_value = rw (of_key, of_value) refl
entry_fits table a b (entry l w there) k v h of_key of_value = go (same l k) (entry_fits table a b there k v others.1 of_key of_value)
  where
    others : ((fits table a l && fits table b w) ≡ true) × (entries_fit table a b there ≡ true)
    others = both_true _ _ h

    front : (fits table a l ≡ true) × (fits table b w ≡ true)
    front = both_true (fits table a l) (fits table b w) others.0

    go : (c : Bool) → entries_fit table a b (with_entry_in there k v) ≡ true
        → entries_fit table a b (if c then entry l v there else entry l w (with_entry_in there k v)) ≡ true
    go true rest = rw (front.0, of_value, others.1) refl
    go false rest = rw (front.0, front.1, rest) refl

-- dynamic values

dynamic_fits : (table : Table) (s : ℕ) (v : Val) → settled table s ≡ Def.Dynamic → fits table s v ≡ true → keys_once (dynamic_in v) ≡ true
dynamic_fits table s (dyn d) is fit = rw is at fit
dynamic_fits table s unit is fit = cc
dynamic_fits table s _ is fit = let none = rw is at fit in cc

dynamic_holds : (table : Table) (s : ℕ) (v : Val) (t : ℕ) → settled table s ≡ Def.Dynamic → fits table s v ≡ true → occurs v t ≡ 0
dynamic_holds table s (dyn d) t is fit = refl
dynamic_holds table s unit t is fit = refl
dynamic_holds table s _ t is fit = let none = rw is at fit in cc

pub elements_once : (table : Table) (s : ℕ) (vs : Vals) → settled table s ≡ Def.Dynamic → all_fit table s vs ≡ true
    → all_keys_once (dynamics_in vs) ≡ true
elements_once table s no_vals is fit = refl
elements_once table s (first v vs) is fit =
    let both = both_true _ _ fit in rw (dynamic_fits table s v is both.0, elements_once table s vs is both.1) refl

lacks_member : (key : List ℕ) (keys : List (List ℕ)) (vs : Vals) → lacks key keys ≡ true → lacks_key key (members_in keys vs) ≡ true
lacks_member key [] vs h = refl
lacks_member key (other ∷ keys) no_vals h = refl
lacks_member key (other ∷ keys) (first v vs) h =
    let both = both_true _ (lacks key keys) h in rw (both.0, lacks_member key keys vs both.1) refl

pub members_once : (table : Table) (s : ℕ) (keys : List (List ℕ)) (vs : Vals) → settled table s ≡ Def.Dynamic
    → keys_apart keys ≡ true → all_fit table s vs ≡ true → members_keys_once (members_in keys vs) ≡ true
members_once table s [] vs is apart fit = refl
members_once table s (key ∷ keys) no_vals is apart fit = refl
members_once table s (key ∷ keys) (first v vs) is apart fit =
    let both = both_true _ _ fit in
    let other = both_true _ _ apart in
    rw (lacks_member key keys vs other.0, dynamic_fits table s v is both.0, members_once table s keys vs is other.1 both.1) refl

pub dynamics_hold : (table : Table) (s : ℕ) (vs : Vals) (t : ℕ) → settled table s ≡ Def.Dynamic → all_fit table s vs ≡ true
    → vals_occur vs t ≡ 0
dynamics_hold table s no_vals t is fit = refl
dynamics_hold table s (first v vs) t is fit =
    let both = both_true _ _ fit in
    omega (arith, dynamic_holds table s v t is both.0, dynamics_hold table s vs t is both.1)

-- what they hold

last_holds : (there : Vals) (v : Val) (t : ℕ) → vals_occur (and_last_val there v) t ≡ vals_occur there t + occurs v t
last_holds no_vals v t = omega arith
last_holds (first u there) v t = let rest = last_holds there v t in omega arith

pub items_hold : (there vs : Vals) (t : ℕ)
    → vals_occur (items_in there vs) t + items_left_out there vs t ≡ vals_occur there t + vals_occur vs t
items_hold there no_vals t = refl
items_hold there (first v vs) t = go _ (λ those. items_hold those vs t)
  where
    go : (b : Bool) → ((those : Vals) → vals_occur (items_in those vs) t + items_left_out those vs t ≡ vals_occur those t + vals_occur vs t)
        → vals_occur (items_in (if b then there else and_last_val there v) vs) t
        + ((if b then occurs v t else 0) + items_left_out (if b then there else and_last_val there v) vs t)
        ≡ vals_occur there t + (occurs v t + vals_occur vs t)
    go true each = let rest = each there in omega arith
    go false each = omega (arith, each (and_last_val there v), last_holds there v t)

entry_holds : (there : Entries) (k v : Val) (t : ℕ) → entries_occur (with_entry_in there k v) t + entry_leaves_out there k t
    ≡ entries_occur there t + (occurs k t + occurs v t)
entry_holds no_entries k v t = omega arith
entry_holds (entry l w there) k v t = go (same l k) (entry_holds there k v t)
  where
    go : (b : Bool) → entries_occur (with_entry_in there k v) t + entry_leaves_out there k t
        ≡ entries_occur there t + (occurs k t + occurs v t)
        → entries_occur (if b then entry l v there else entry l w (with_entry_in there k v)) t
        + (if b then occurs k t + occurs w t else entry_leaves_out there k t)
        ≡ entries_occur (entry l w there) t + (occurs k t + occurs v t)
    go true rest = omega arith
    go false rest = omega arith

pub entries_hold : (there : Entries) (vs : Vals) (t : ℕ)
    → entries_occur (entries_in there vs) t + entries_left_out there vs t ≡ entries_occur there t + vals_occur vs t
entries_hold there no_vals t = refl
entries_hold there (first k no_vals) t = omega arith
entries_hold there (first k (first v vs)) t = omega (arith, entry_holds there k v t, entries_hold (with_entry_in there k v) vs t)

-- Items

-- some values and others behind them
abbrev joined : Vals → Vals → Vals
joined no_vals vs = vs
joined (first u us) vs = first u (joined us vs)

joined_none : (us : Vals) → joined us no_vals ≡ us
joined_none no_vals = refl
joined_none (first u us) = ap (first u) (joined_none us)

pushed : (us : Vals) (v : Val) (vs : Vals) → joined (and_last_val us v) vs ≡ joined us (first v vs)
pushed no_vals v vs = refl
pushed (first u us) v vs = ap (first u) (pushed us v vs)

not_among : (u : Val) (us : Vals) (v : Val) (vs : Vals) → is_among u (joined us (first v vs)) ≡ false → same u v ≡ false
not_among u no_vals v vs e = (both_false (same u v) (is_among u vs) e).0
not_among u (first w us) v vs e = not_among u us v vs (both_false (same u w) (is_among u (joined us (first v vs))) e).1

-- of distinct values none is there among those in front of it
new_behind : (us : Vals) (v : Val) (vs : Vals) → none_twice (joined us (first v vs)) ≡ true → is_there v us ≡ false
new_behind no_vals v vs apart = refl
new_behind (first u us) v vs apart =
    let parts = both_true _ _ apart in
    let here = not_among u us v vs (is_not (is_among u (joined us (first v vs))) parts.0) in
    let others = new_behind us v vs parts.1 in
    λ j. here j || others j

pub items_behind : (us vs : Vals) → none_twice (joined us vs) ≡ true → items_in us vs ≡ joined us vs
items_behind us no_vals apart = sym (joined_none us)
items_behind us (first v vs) apart =
    ap (λ (b : Bool). items_in (if b then us else and_last_val us v) vs) (new_behind us v vs apart)
    ∙ items_behind _ vs (ap none_twice (pushed us v vs) ∙ apart) ∙ pushed us v vs

pub none_left_behind : (us vs : Vals) (t : ℕ) → none_twice (joined us vs) ≡ true → items_left_out us vs t ≡ 0
none_left_behind us no_vals t apart = refl
none_left_behind us (first v vs) t apart =
    let new = new_behind us v vs apart in
    let here = ap (λ (b : Bool). if b then occurs v t else 0) new in
    let others = ap (λ (b : Bool). items_left_out (if b then us else and_last_val us v) vs t) new
    ∙ none_left_behind _ vs t (ap none_twice (pushed us v vs) ∙ apart) in
    λ j. here j + others j

-- Entries

abbrev joined_entries : Entries → Entries → Entries
joined_entries no_entries es = es
joined_entries (entry k v there) es = entry k v (joined_entries there es)

abbrev and_last_entry : Entries → (key value : Val) → Entries
and_last_entry no_entries k v = entry k v no_entries
and_last_entry (entry l w there) k v = entry l w (and_last_entry there k v)

joined_no_entries : (there : Entries) → joined_entries there no_entries ≡ there
joined_no_entries no_entries = refl
joined_no_entries (entry k v there) = ap (entry k v) (joined_no_entries there)

pushed_entry : (there : Entries) (k v : Val) (es : Entries)
    → joined_entries (and_last_entry there k v) es ≡ joined_entries there (entry k v es)
pushed_entry no_entries k v es = refl
pushed_entry (entry l w there) k v es = ap (entry l w) (pushed_entry there k v es)

keys_joined : (there es : Entries) → keys (joined_entries there es) ≡ joined (keys there) (keys es)
keys_joined no_entries es = refl
keys_joined (entry k v there) es = ap (first k) (keys_joined there es)

new_key : (there : Entries) (k v : Val) (es : Entries) → none_twice (keys (joined_entries there (entry k v es))) ≡ true
    → is_there k (keys there) ≡ false
new_key there k v es apart = new_behind (keys there) k (keys es) (ap none_twice (sym (keys_joined there _)) ∙ apart)

-- an entry with a new key comes last, and leaves nothing out

added : (there : Entries) (k v : Val) → is_there k (keys there) ≡ false → with_entry_in there k v ≡ and_last_entry there k v
added no_entries k v new = refl
added (entry l w there) k v new =
    let parts = both_false (same l k) _ new in
    ap (λ (b : Bool). if b then entry l v there else entry l w (with_entry_in there k v)) parts.0
    ∙ ap (entry l w) (added there k v parts.1)

leaves_none : (there : Entries) (k : Val) (t : ℕ) → is_there k (keys there) ≡ false → entry_leaves_out there k t ≡ 0
leaves_none no_entries k t new = refl
leaves_none (entry l w there) k t new =
    let parts = both_false (same l k) _ new in
    ap (λ (b : Bool). if b then occurs k t + occurs w t else entry_leaves_out there k t) parts.0 ∙ leaves_none there k t parts.1

pub entries_behind : (there es : Entries) → none_twice (keys (joined_entries there es)) ≡ true
    → entries_in there (in_turn es) ≡ joined_entries there es
entries_behind there no_entries apart = sym (joined_no_entries there)
entries_behind there (entry k v es) apart =
    ap (λ (here : Entries). entries_in here (in_turn es)) (added there k v (new_key there k v es apart)) ∙ entries_behind _ es
    (ap (λ (all : Entries). none_twice (keys all)) (pushed_entry there k v es) ∙ apart) ∙ pushed_entry there k v es

pub no_entry_left_behind : (there es : Entries) (t : ℕ) → none_twice (keys (joined_entries there es)) ≡ true
    → entries_left_out there (in_turn es) t ≡ 0
no_entry_left_behind there no_entries t apart = refl
no_entry_left_behind there (entry k v es) t apart =
    let here = leaves_none there k t (new_key there k v es apart) in
    let others = ap (λ (all : Entries). entries_left_out all (in_turn es) t) (added there k v (new_key there k v es apart))
    ∙ no_entry_left_behind _ es t (ap (λ (all : Entries). none_twice (keys all)) (pushed_entry there k v es) ∙ apart) in
    λ j. here j + others j

-- among whole places a value has its like exactly where it has one among their values
pub same_is_there : (v : Val) (vs : Vals) → has_same v (wholes vs) ≡ is_there v vs
same_is_there v no_vals = refl
same_is_there v (first u vs) = ap (λ (b : Bool). same u v || b) (same_is_there v vs)
