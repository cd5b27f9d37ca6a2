-- Sets and maps: what is begun suits its shape, and so it is with one more key.
use Rattle.std.proofs.Common.{◌≡◌, if◌then◌else◌, ◌∷◌}
use Rattle.fr_model.proofs.Common.{ℕ, zero, suc, Bool, true, false, [], Some, None, refl, sym, subst, arith, Def, ShapeId, Operation, fits, entries_fit, Table, def_of, is_dynamic, none_twice, keys, Val, Entries, unit, set_of, map_of, no_entries, entry, is_hole, ends_in_hole, key_refusal, value_refusal, with_key, last_of, count_entries, is_key, in_turn, opened, init_map_refusal, init_set_refusal, as_items, ItemsKind, as_entries, EntriesKind, Tree, hole, entered, whole, begun, Trees, no_trees, branch, and_last, child_as, count_trees, count_below, wholes, fresh, tree_occurs, Mode, HasEntries, IsTouched, AreEntries, Suits, IsOff, AllOff, AtCursor, OffBut}
use Rattle.fr_model.proofs.Becoming.{Placed}
use Rattle.fr_model.proofs.BegunItems.{items_suit, last_suits, last_leads, last_holds}
use Rattle.fr_model.proofs.Basis.{Enterable, a_value, may_work, enter_touched, fresh_suits, fresh_at_cursor, hole_off, wholes_off, count_last, SuitFrom, settled_as, both_true, fresh_holds, wholes_touched, odd_next}

-- A set is begun

whole_set : (mode : Mode) (table : Table) (s : ℕ) (item : ShapeId) (v : Val) → def_of table s ≡ Def.Set item
    → fits table s v ≡ true → Placed mode table s [] (opened (Def.Set item) (whole v))
whole_set mode table s item (set_of vs) is fit =
    let both = both_true _ _ (rw (settled_as table s is refl) at fit) in
    record { suits = ((rw is tt, tt), items_suit table s (as_items ItemsKind.Set) item.0 (λ i. rw is refl) 0 vs both.0, wholes_touched vs); leads = (may_work mode _ refl, wholes_off mode vs) }
whole_set mode table s item unit is fit = cc
whole_set mode table s item _ is fit = let none = rw (settled_as table s is refl) at fit in cc

pub set_opens : (mode : Mode) (table : Table) (s : ℕ) (t : Tree) → init_set_refusal s (def_of table s) t ≡ None
    → Placed mode table s [] t → Placed mode table s [] (opened (def_of table s) t)
set_opens mode table s t e there = go (def_of table s) t refl e there
  where
    go : (def : Def) (t : Tree) → def_of table s ≡ def → init_set_refusal s def t ≡ None → Placed mode table s [] t
        → Placed mode table s [] (opened def t)
    go def (begun tracker ts) is e there = there
    go def hole is e there = absurd there.leads
    go (Def.Set item) entered is e there = record { suits = ((rw is tt, tt), tt, tt); leads = (may_work mode _ refl, tt) }
    go (Def.Set item) (whole v) is e there = whole_set mode table s item v is there.suits
    go _ _ is e there = cc

-- A map is begun

turns_suit : (table : Table) (s : ℕ) (key item : ShapeId) → def_of table s ≡ Def.Map key item → (base i : ℕ) → is_key i ≡ true
    → (es : Entries) → entries_fit table key.0 item.0 es ≡ true → SuitFrom table s (as_entries (EntriesKind.Map base)) i (wholes (in_turn es))
turns_suit table s key item is base i even no_entries fit = tt
turns_suit table s key item is base i even (entry k v es) fit =
    let first = both_true _ _ fit in
    let both = both_true _ _ first.0 in
    let of_key : child_as table s (as_entries (EntriesKind.Map base)) i ≡ key.0 = rw (is, even) refl in
    let of_value : child_as table s (as_entries (EntriesKind.Map base)) (suc i) ≡ item.0 = rw (is, odd_next i even) refl in
    (rw of_key both.0, (rw of_value both.1, turns_suit table s key item is base (suc (suc i)) even es first.1))

turns_count : (es : Entries) → is_key (count_trees (wholes (in_turn es))) ≡ true
turns_count no_entries = refl
turns_count (entry k v es) = turns_count es

turns_are : (es : Entries) → AreEntries (wholes (in_turn es))
turns_are (entry k v (entry l w es)) = (tt, tt, turns_are (entry l w es))
turns_are _ = tt

whole_map : (mode : Mode) (table : Table) (s : ℕ) (key item : ShapeId) (v : Val) → def_of table s ≡ Def.Map key item
    → fits table s v ≡ true → Placed mode table s [] (opened (Def.Map key item) (whole v))
whole_map mode table s key item (map_of es) is fit =
    let both = both_true (entries_fit table key.0 item.0 es) (none_twice (keys es)) (rw (settled_as table s is refl) at fit) in
    record {
      suits = ((rw is (turns_count es), tt), turns_suit table s key item is (count_entries es) 0 refl es both.0, turns_are es);
      leads = (may_work mode _ refl, wholes_off mode (in_turn es));
    }
whole_map mode table s key item unit is fit = cc
whole_map mode table s key item _ is fit = let none = rw (settled_as table s is refl) at fit in cc

pub map_opens : (mode : Mode) (table : Table) (s : ℕ) (t : Tree) → is_dynamic (def_of table s) ≡ false
    → init_map_refusal s (def_of table s) t ≡ None → Placed mode table s [] t → Placed mode table s [] (opened (def_of table s) t)
map_opens mode table s t other e there = go (def_of table s) t refl other e there
  where
    go : (def : Def) (t : Tree) → def_of table s ≡ def → is_dynamic def ≡ false → init_map_refusal s def t ≡ None
        → Placed mode table s [] t → Placed mode table s [] (opened def t)
    go def (begun tracker ts) is other e there = there
    go def hole is other e there = absurd there.leads
    go (Def.Map key item) entered is other e there = record { suits = ((rw is refl, tt), tt, tt); leads = (may_work mode _ refl, tt) }
    go (Def.Map key item) (whole v) is other e there = whole_map mode table s key item v is there.suits
    go _ _ is other e there = cc

-- A key is added

pub record IsMap (t : Tree) (lacking : Bool) : Type 0 where
  pub base : ℕ
  pub children : Trees
  pub is : t ≡ begun (as_entries (EntriesKind.Map base)) children
  pub ends : ends_in_hole children ≡ lacking

pub takes_a_key : (t : Tree) → key_refusal t ≡ None → IsMap t false
takes_a_key (begun (as_entries (EntriesKind.Map base)) ts) e = record { base = base; children = ts; is = refl; ends = go _ e }
  where
    go : (lacking : Bool) → (if lacking then Some Operation.KeyBeforeValue else None) ≡ None → lacking ≡ false
    go true e = cc
    go false e = refl
takes_a_key _ e = cc

pub takes_a_value : (t : Tree) → value_refusal t ≡ None → IsMap t true
takes_a_value (begun (as_entries (EntriesKind.Map base)) ts) e = record { base = base; children = ts; is = refl; ends = go _ e }
  where
    go : (lacking : Bool) → (if lacking then None else Some Operation.ValueBeforeKey) ≡ None → lacking ≡ true
    go true e = refl
    go false e = cc
takes_a_value _ e = cc

more_entries : (def : Def) (base n : ℕ) → HasEntries def (EntriesKind.Map base) n → HasEntries def (EntriesKind.Map base) (suc (suc n))
more_entries (Def.Map key item) base n has = has
more_entries _ base n has = absurd has

no_hole : (t : Tree) → is_hole t ≡ false → IsTouched t
no_hole hole e = cc
no_hole _ e = tt

entries_more : (ts : Trees) (key : Tree) → IsTouched key → ends_in_hole ts ≡ false → AreEntries ts
    → AreEntries (and_last (and_last ts key) hole)
entries_more no_trees key touched ends are = touched
entries_more (branch k no_trees) key touched ends are = absurd are
entries_more (branch k (branch v no_trees)) key touched ends are = (are, no_hole v ends, touched)
entries_more (branch k (branch v (branch next rest))) key touched ends are =
    (are.0, are.1, entries_more (branch next rest) key touched ends are.2)

pub all_last : (mode : Mode) (ts : Trees) (last : Tree) → IsOff mode last → AllOff mode ts → AllOff mode (and_last ts last)
all_last mode no_trees last here off = (here, tt)
all_last mode (branch t ts) last here off = (off.0, all_last mode ts last here off.1)

off_last : (mode : Mode) (i : ℕ) (Below : Tree → Type 0) (ts : Trees) (last : Tree) → IsOff mode last → OffBut mode i Below ts
    → OffBut mode i Below (and_last ts last)
off_last mode i Below no_trees last here off = absurd off
off_last mode zero Below (branch t ts) last here off = (off.0, all_last mode ts last here off.1)
off_last mode (suc i) Below (branch t ts) last here off = (off.0, off_last mode i Below ts last here off.1)

-- the map with one more key, to which the cursor may go
pub key_placed : (mode : Mode) (table : Table) (s base : ℕ) (ts : Trees) → ends_in_hole ts ≡ false
    → Placed mode table s [] (begun (as_entries (EntriesKind.Map base)) ts) → Placed mode table s (count_trees ts ∷ []) (with_key table s (begun (as_entries (EntriesKind.Map base)) ts))
key_placed mode table s base ts ends there =
    let shape = child_as table s (as_entries (EntriesKind.Map base)) (count_trees ts) in
    let key = fresh _ in
    let once = count_last ts key in
    let twice = count_last (and_last ts key) hole in
    let counted : suc (suc (count_trees ts)) ≡ count_trees _ = omega arith in
    record {
      suits = (
        (subst (HasEntries _ _) counted (more_entries (def_of table s) base (count_trees ts) there.suits.0.0), tt),
        last_suits table s (as_entries (EntriesKind.Map base)) (suc (count_trees ts)) 0 (and_last ts key) hole (omega arith)
            (last_suits table s (as_entries (EntriesKind.Map base)) (count_trees ts) 0 ts key (omega arith) there.suits.1 (fresh_suits table shape)) tt,
        entries_more ts key (enter_touched (def_of table shape) hole) ends there.suits.2,
      );
      leads = off_last mode (count_trees ts) (λ child. AtCursor mode child) (and_last ts key) hole (hole_off mode)
          (last_leads mode ts key there.leads.1 (fresh_at_cursor mode (def_of table shape)));
    }

pub key_holds : (table : Table) (s base : ℕ) (ts : Trees) (token : ℕ)
    → tree_occurs (with_key table s (begun (as_entries (EntriesKind.Map base)) ts)) token ≡ tree_occurs (begun (as_entries (EntriesKind.Map base)) ts) token
key_holds table s base ts token =
    let shape = child_as table s (as_entries (EntriesKind.Map base)) (count_trees ts) in
    let key = fresh (def_of table shape) in
    omega (arith, last_holds (and_last ts key) hole token, last_holds ts key token, fresh_holds (def_of table shape) token)

-- The value of the last entry is entered

last_there : (ts : Trees) → ends_in_hole ts ≡ true → suc (last_of (count_trees ts)) ≡ count_trees ts
last_there no_trees e = cc
last_there (branch t ts) e = refl

pub value_enterable : (table : Table) (s : ℕ) (t : Tree) → IsMap t true → Suits table s t → Enterable table s (last_of (count_below t)) t
value_enterable table s t here suits =
    subst (λ (u : Tree). Enterable table s (last_of (count_below u)) u) (sym here.is)
    (go _ refl (subst (λ (u : Tree). Suits table s u) here.is suits).0.0)
  where
    go : (def : Def) → def_of table s ≡ def → HasEntries def (EntriesKind.Map here.base) (count_trees here.children)
        → Enterable table s (last_of (count_trees here.children)) (begun (as_entries (EntriesKind.Map here.base)) here.children)
    go (Def.Map key item) is has = a_value key item is here.base here.children refl (last_there here.children here.ends) here.ends
    go _ is has = absurd has
