-- Dynamic values: what is made of a value of another shape, and as places, what is kept of one that is begun, and an object with one more
-- entry.
use Rattle.std.proofs.Common.{◌≡◌, if◌then◌else◌, ◌<◌, ◌∷◌, ◌++◌}
use Rattle.fr_model.proofs.Common.{encode_utf8, ℕ, Bool, true, false, List, Option, Some, None, Ok, Err, refl, arith, option_map, Operation, Def, ScalarKind, keys_once, Table, occurs, vals_occur, Val, Vals, bool, char, int, nat, text, list_of, no_vals, first, Dynamic, dyn_bool, dyn_int, dyn_nat, dyn_text, dyn_bytes, or_not_dynamic, from_bool, from_char, from_int, from_nat, from_text, byte_before, bytes_of, from_bytes, from_scalar, converted, zero, suc, [], length, length-append, sym, ap, subst, fits, all_keys_once, members_keys_once, def_of, is_dynamic, dyn, Dynamics, Members, dyn_array, dyn_object, no_dynamics, first_dynamic, no_members, member, is_begun_object, array_of, object_of, array_anew, object_anew, kept_array, kept_object, entry_refusal, entry_found, entry_number, number_or_last, and_entry, with_entry, element_vals, member_vals, member_keys, elements_in, members_of_object, dynamic_in, as_items, ItemsKind, as_entries, EntriesKind, Tree, hole, whole, begun, Trees, no_trees, branch, and_last, count_trees, wholes, fresh, tree_occurs, trees_occur, Mode, strict, deferred, TakesItemsAs, HasEntries, IsTouched, AreTouched, AreDone, Suits, RestsAround, IsOff, AllOff, AtCursor, OffBut}
use Rattle.fr_model.proofs.Becoming.{stays_kept, Placed, Becoming, IsKept, becoming}
use Rattle.fr_model.proofs.BegunItems.{last_suits, last_touched, last_leads, last_holds}
use Rattle.fr_model.proofs.Converts.{wholes_convert}
use Rattle.fr_model.proofs.Basis.{may_work, apart_last, found_at, member_keys_apart, enter_touched, fresh_suits, fresh_at_cursor, wholes_off, all_deferred, rests_here, wholes_rest, fresh_rests, rest_but, last_rests, count_last, SuitFrom, settled_as, both_true, fresh_holds, opened_holds, done_but, done_none, without_last, wholes_touched, suit_alike}

-- no object in the dynamic value has a key twice, and the value of which it was made holds no token
pub record IsTaken (v : Val) (d : Dynamic) : Type 0 where
  pub once : keys_once d ≡ true
  pub holds : (t : ℕ) → occurs v t ≡ 0

of_bool : (v : Val) (d : Dynamic) → or_not_dynamic (from_bool v) ≡ Ok d → IsTaken v d
of_bool (bool b) d e = let same : dyn_bool b ≡ d = cc in rw (← same) (record { once = refl; holds = λ t. refl })
of_bool _ d e = cc

of_char : (v : Val) (d : Dynamic) → or_not_dynamic (from_char v) ≡ Ok d → IsTaken v d
of_char (char c) d e = let same : dyn_text (encode_utf8 c) ≡ d = cc in rw (← same) (record { once = refl; holds = λ t. refl })
of_char _ d e = cc

of_int : (v : Val) (d : Dynamic) → or_not_dynamic (from_int v) ≡ Ok d → IsTaken v d
of_int (int i) d e = let same : dyn_int i ≡ d = cc in rw (← same) (record { once = refl; holds = λ t. refl })
of_int _ d e = cc

of_nat : (v : Val) (d : Dynamic) → or_not_dynamic (from_nat v) ≡ Ok d → IsTaken v d
of_nat (nat n) d e = let same : dyn_nat n ≡ d = cc in rw (← same) (record { once = refl; holds = λ t. refl })
of_nat _ d e = cc

of_text : (v : Val) (d : Dynamic) → or_not_dynamic (from_text v) ≡ Ok d → IsTaken v d
of_text (text codes) d e = let same : dyn_text codes ≡ d = cc in rw (← same) (record { once = refl; holds = λ t. refl })
of_text _ d e = cc

bytes_hold : (vs : Vals) (bytes : List ℕ) (t : ℕ) → bytes_of vs ≡ Some bytes → vals_occur vs t ≡ 0
bytes_hold no_vals bytes t e = refl
bytes_hold (first (nat n) vs) bytes t e = go _ e (λ rest is. bytes_hold vs rest t is)
  where
    go : (found : Option (List ℕ)) → byte_before (nat n) found ≡ Some bytes
        → ((rest : List ℕ) → found ≡ Some rest → vals_occur vs t ≡ 0) → vals_occur (first (nat n) vs) t ≡ 0
    go (Some rest) e others = let none = others rest refl in omega arith
    go None e others = cc
bytes_hold (first _ vs) bytes t e = cc

of_list : (v : Val) (d : Dynamic) → or_not_dynamic (from_bytes v) ≡ Ok d → IsTaken v d
of_list (list_of vs) d e = go _ refl e
  where
    go : (found : Option (List ℕ)) → bytes_of vs ≡ found → or_not_dynamic (option_map dyn_bytes found) ≡ Ok d → IsTaken (list_of vs) d
    go (Some bytes) is e =
        let same : dyn_bytes bytes ≡ d = cc in rw (← same) (record { once = refl; holds = λ t. bytes_hold vs bytes t is })
    go None is e = cc
of_list _ d e = cc

of_scalar : (kind : ScalarKind) (v : Val) (d : Dynamic) → from_scalar kind v ≡ Ok d → IsTaken v d
of_scalar ScalarKind.Bool v d e = of_bool v d e
of_scalar ScalarKind.Char v d e = of_char v d e
of_scalar ScalarKind.U8 v d e = of_nat v d e
of_scalar ScalarKind.U16 v d e = of_nat v d e
of_scalar ScalarKind.U32 v d e = of_nat v d e
of_scalar ScalarKind.U64 v d e = of_nat v d e
of_scalar ScalarKind.USize v d e = of_nat v d e
of_scalar ScalarKind.String v d e = of_text v d e
of_scalar ScalarKind.I128 v d e = cc
of_scalar ScalarKind.U128 v d e = cc
of_scalar ScalarKind.CowStr v d e = cc
of_scalar _ v d e = of_int v d e

pub converted_is : (table : Table) (s : ℕ) (def : Def) (v : Val) (d : Dynamic) → converted table s def v ≡ Ok d → IsTaken v d
converted_is table s (Def.Scalar kind) v d e = of_scalar kind v d e
converted_is table s Def.Str v d e = of_text v d e
converted_is table s (Def.List t) v d e = go _ _ e
  where
    go : (takes byte : Bool) → (if takes then (if byte then or_not_dynamic (from_bytes v) else Err Operation.NotDynamic)
        else Err Operation.NotDynamic) ≡ Ok d → IsTaken v d
    go true true e = of_list v d e
    go true false e = cc
    go false byte e = cc
converted_is table s _ v d e = cc

pub dynamic_def : (def : Def) → is_dynamic def ≡ true → def ≡ Def.Dynamic
dynamic_def Def.Dynamic e = refl
dynamic_def _ e = cc

is_dynamic_def : (def : Def) → def ≡ Def.Dynamic → TakesItemsAs def ItemsKind.Array
is_dynamic_def def is = rw is tt

has_keys : (def : Def) (keys : List (List ℕ)) (n : ℕ) → def ≡ Def.Dynamic → n ≡ length keys → HasEntries def (EntriesKind.Object keys) n
has_keys def keys n is counted = rw is counted

keys_had : (def : Def) (keys : List (List ℕ)) (n : ℕ) → HasEntries def (EntriesKind.Object keys) n → (def ≡ Def.Dynamic) × (n ≡ length keys)
keys_had Def.Dynamic keys n has = (refl, has)
keys_had _ keys n has = absurd has

-- An array is begun

elements_suit : (table : Table) (s : ℕ) → def_of table s ≡ Def.Dynamic → (i : ℕ) (ds : Dynamics) → all_keys_once ds ≡ true
    → SuitFrom table s (as_items ItemsKind.Array) i (wholes (element_vals ds))
elements_suit table s is i no_dynamics once = tt
elements_suit table s is i (first_dynamic d ds) once =
    let both = both_true _ _ once in (rw (settled_as table s is refl) both.0, elements_suit table s is (suc i) ds both.1)

whole_array_keeps : (mode : Mode) (table : Table) (s : ℕ) (v : Val) (kept : Tree) → def_of table s ≡ Def.Dynamic
    → fits table s v ≡ true → option_map array_of (elements_in (dynamic_in v)) ≡ Some kept → IsKept mode table s [] (whole v) kept
whole_array_keeps mode table s (dyn (dyn_array ds)) kept is fit e =
    let same : array_of ds ≡ kept = cc in
    let once : all_keys_once ds ≡ true = rw (settled_as table s is refl) at fit in
    rw (← same) (record {
      placed = record {
        suits = ((is_dynamic_def _ is, tt), elements_suit table s is 0 ds once, wholes_touched _);
        leads = (may_work mode _ refl, wholes_off mode _);
      };
      rest = λ rested. (record { values = element_vals ds; are = refl }, wholes_rest _);
      hold = λ t. opened_holds (as_items ItemsKind.Array) 0 (whole (dyn (dyn_array ds))) t;
      converts = λ field there. (tt, wholes_convert table s (as_items ItemsKind.Array) 0 (element_vals ds));
    })
whole_array_keeps mode table s (dyn _) kept is fit e = cc
whole_array_keeps mode table s _ kept is fit e = cc

kept_array_keeps : (mode : Mode) (table : Table) (s : ℕ) (t kept : Tree) → def_of table s ≡ Def.Dynamic → AtCursor mode t
    → Suits table s t → kept_array t ≡ Some kept → IsKept mode table s [] t kept
kept_array_keeps mode table s (whole v) kept is at suits e = whole_array_keeps mode table s v kept is suits e
kept_array_keeps mode table s (begun (as_items ItemsKind.Array) ts) kept is at suits e = stays_kept mode table s _ kept suits at e
kept_array_keeps mode table s _ kept is at suits e = cc

pub array_becomes : (mode : Mode) (table : Table) (s : ℕ) (t : Tree) → def_of table s ≡ Def.Dynamic → AtCursor mode t
    → Suits table s t → Becoming mode table s [] t (kept_array t) array_anew
array_becomes mode table s t is at suits =
    becoming mode table s [] t _ array_anew (λ tree e. kept_array_keeps mode table s t tree is at suits e)
    (record { suits = ((is_dynamic_def _ is, tt), tt, tt); leads = (may_work mode _ refl, tt) }) (done_none (as_items ItemsKind.Array) refl, tt)
    (λ token. refl)

-- An object is begun

members_suit : (table : Table) (s : ℕ) (keys : List (List ℕ)) → def_of table s ≡ Def.Dynamic → (i : ℕ) (ms : Members)
    → members_keys_once ms ≡ true → SuitFrom table s (as_entries (EntriesKind.Object keys)) i (wholes (member_vals ms))
members_suit table s keys is i no_members once = tt
members_suit table s keys is i (member key d ms) once =
    let first = both_true _ _ once in
    let both = both_true _ _ first.0 in
    (rw (settled_as table s is refl) both.1, members_suit table s keys is (suc i) ms first.1)

members_counted : (ms : Members) → count_trees (wholes (member_vals ms)) ≡ length (member_keys ms)
members_counted no_members = refl
members_counted (member key d ms) = ap suc (members_counted ms)

whole_object_keeps : (mode : Mode) (table : Table) (s : ℕ) (v : Val) (kept : Tree) → def_of table s ≡ Def.Dynamic
    → fits table s v ≡ true → option_map object_of (members_of_object (dynamic_in v)) ≡ Some kept → IsKept mode table s [] (whole v) kept
whole_object_keeps mode table s (dyn (dyn_object ms)) kept is fit e =
    let same : object_of ms ≡ kept = cc in
    let once : members_keys_once ms ≡ true = rw (settled_as table s is refl) at fit in
    rw (← same) (record {
      placed = record {
        suits = (
          (has_keys _ _ _ is (members_counted ms), tt),
          members_suit table s (member_keys ms) is 0 ms once,
          (wholes_touched _, member_keys_apart ms once),
        );
        leads = (may_work mode _ refl, wholes_off mode _);
      };
      rest = λ rested. (record { values = member_vals ms; are = refl }, wholes_rest _);
      hold = λ t. opened_holds (as_entries (EntriesKind.Object [])) 0 (whole (dyn (dyn_object ms))) t;
      converts = λ field there. (tt, wholes_convert table s (as_entries (EntriesKind.Object (member_keys ms))) 0 (member_vals ms));
    })
whole_object_keeps mode table s (dyn _) kept is fit e = cc
whole_object_keeps mode table s _ kept is fit e = cc

kept_object_keeps : (mode : Mode) (table : Table) (s : ℕ) (t kept : Tree) → def_of table s ≡ Def.Dynamic → AtCursor mode t
    → Suits table s t → kept_object t ≡ Some kept → IsKept mode table s [] t kept
kept_object_keeps mode table s (whole v) kept is at suits e = whole_object_keeps mode table s v kept is suits e
kept_object_keeps mode table s (begun (as_entries (EntriesKind.Object keys)) ts) kept is at suits e = stays_kept mode table s _ kept suits at e
kept_object_keeps mode table s _ kept is at suits e = cc

pub object_becomes : (mode : Mode) (table : Table) (s : ℕ) (t : Tree) → def_of table s ≡ Def.Dynamic → AtCursor mode t
    → Suits table s t → Becoming mode table s [] t (kept_object t) object_anew
object_becomes mode table s t is at suits =
    becoming mode table s [] t _ object_anew (λ tree e. kept_object_keeps mode table s t tree is at suits e)
    (record { suits = ((has_keys _ [] 0 is refl, tt), tt, (tt, refl)); leads = (may_work mode _ refl, tt) })
    (done_none (as_entries (EntriesKind.Object [])) refl, tt) (λ token. refl)

-- An entry is begun

pub record IsObject (t : Tree) : Type 0 where
  pub keys : List (List ℕ)
  pub children : Trees
  pub is : t ≡ begun (as_entries (EntriesKind.Object keys)) children

object_is : (t : Tree) → is_begun_object t ≡ true → IsObject t
object_is (begun (as_entries (EntriesKind.Object keys)) ts) e = record { keys = keys; children = ts; is = refl }
object_is (begun _ ts) e = cc
object_is _ e = cc

pub takes_an_entry : (def : Def) (t : Tree) → entry_refusal def t ≡ None → IsObject t
takes_an_entry Def.Dynamic t e = go _ refl e
  where
    go : (b : Bool) → is_begun_object t ≡ b → (if b then None else Some Operation.EntryBeforeInitMap) ≡ None → IsObject t
    go true is e = object_is t is
    go false is e = cc
takes_an_entry _ t e = cc

touched_off : (mode : Mode) (t : Tree) → IsOff mode t → IsTouched t → AtCursor mode t
touched_off mode hole off touched = absurd touched
touched_off strict (begun tracker ts) off touched = absurd off
touched_off (deferred start) (begun tracker ts) off touched = (tt, all_deferred start ts)
touched_off mode _ off touched = tt

there_leads : (mode : Mode) (i : ℕ) (ts : Trees) → i < count_trees ts → AllOff mode ts → AreTouched ts
    → OffBut mode i (λ child. AtCursor mode child) ts
there_leads mode i no_trees within off touched = absurd (omega arith)
there_leads mode zero (branch t ts) within off touched = (touched_off mode t off.0 touched.0, off.1)
there_leads mode (suc i) (branch t ts) within off touched = (off.0, there_leads mode i ts (omega arith) off.1 touched.1)

-- the object with the entry, to which the cursor may go
pub entry_placed : (mode : Mode) (table : Table) (s : ℕ) (key : List ℕ) (keys : List (List ℕ)) (ts : Trees)
    → Placed mode table s [] (begun (as_entries (EntriesKind.Object keys)) ts)
    → Placed mode table s (entry_number key (begun (as_entries (EntriesKind.Object keys)) ts) ∷ [])
    (with_entry table s key (begun (as_entries (EntriesKind.Object keys)) ts))
entry_placed mode table s key keys ts there = go _ refl
  where
    had : (def_of table s ≡ Def.Dynamic) × (count_trees ts ≡ length keys)
    had = keys_had _ keys _ there.suits.0.0

    go : (found : Option ℕ) → entry_found key keys ≡ found → Placed mode table s (number_or_last found (length keys) ∷ [])
        (and_entry table s key (as_entries (EntriesKind.Object keys)) ts found)
    go (Some i) is =
        let at = found_at key keys i is in
        record { suits = there.suits; leads = there_leads mode i ts (omega (arith, at.below, had.1)) there.leads.1 there.suits.2.0 }
    go None none =
        let last = fresh _ in
        let counted = count_last ts last in
        let long = length-append keys (key ∷ []) in
        record {
          suits = (
            (has_keys _ _ _ had.0 (omega (arith, counted, long, had.1)), tt),
            suit_alike table s (as_entries (EntriesKind.Object keys)) (as_entries (EntriesKind.Object (keys ++ key ∷ []))) (λ i. refl) 0 _
                (last_suits table s (as_entries (EntriesKind.Object keys)) (count_trees ts) 0 ts last (omega arith) there.suits.1 (fresh_suits table s)),
            (last_touched ts last there.suits.2.0 (enter_touched (def_of table s) hole), apart_last key keys none there.suits.2.1),
          );
          leads = subst (λ (n : ℕ). OffBut mode n (λ child. AtCursor mode child) (and_last ts last)) had.1
              (last_leads mode ts last there.leads.1 (fresh_at_cursor mode (def_of table s)));
        }

pub entry_holds : (table : Table) (s : ℕ) (key : List ℕ) (keys : List (List ℕ)) (ts : Trees) (token : ℕ)
    → tree_occurs (with_entry table s key (begun (as_entries (EntriesKind.Object keys)) ts)) token ≡ trees_occur ts token
entry_holds table s key keys ts token = go _
  where
    go : (found : Option ℕ) → tree_occurs (and_entry table s key (as_entries (EntriesKind.Object keys)) ts found) token ≡ trees_occur ts token
    go (Some i) = refl
    go None = omega (arith, last_holds ts (fresh (def_of table s)) token, fresh_holds (def_of table s) token)

pub entry_rests : (table : Table) (s : ℕ) (key : List ℕ) (keys : List (List ℕ)) (ts : Trees)
    → Suits table s (begun (as_entries (EntriesKind.Object keys)) ts) → RestsAround [] (begun (as_entries (EntriesKind.Object keys)) ts)
    → RestsAround (entry_number key (begun (as_entries (EntriesKind.Object keys)) ts) ∷ [])
    (with_entry table s key (begun (as_entries (EntriesKind.Object keys)) ts))
entry_rests table s key keys ts suits rests = go _
  where
    had : (def_of table s ≡ Def.Dynamic) × (count_trees ts ≡ length keys)
    had = keys_had _ keys _ suits.0.0

    go : (found : Option ℕ)
        → RestsAround (number_or_last found (length keys) ∷ []) (and_entry table s key (as_entries (EntriesKind.Object keys)) ts found)
    go (Some i) = (done_but (as_entries (EntriesKind.Object keys)) i ts tt rests.0, rest_but i ts rests.1, tt)
    go None =
        let last = fresh _ in
        subst (λ (n : ℕ). RestsAround (n ∷ []) (begun (as_entries (EntriesKind.Object (keys ++ key ∷ []))) (and_last ts last))) had.1 (
          subst (AreDone (as_entries (EntriesKind.Object keys))) (sym (without_last ts last)) rests.0,
          last_rests ts last rests.1 (rests_here last (fresh_rests (def_of table s))),
          tt,
        )
