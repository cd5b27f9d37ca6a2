-- One more entry or item, at its place.
use Rattle.std.proofs.Common.{◌≡◌, ℕ, zero, suc, ◌+◌, ◌<◌, ◌≤◌, Bool, true, false, ◌||◌, cond, List, [], ◌∷◌, ◌++◌, length, get_or, set, drop, refl, sym, ap, ◌∙◌, arith}
use Rattle.std.proofs.lemmas.List.{drop-drop}
use Rattle.fr_values.specs.Common.{Conserved, Entries, Room, Room_fewer, RoseBy, Val, Value, both, entries_occur, entries_view, entry, entry_place, entry_places, first, is_there, item_place, occurs, same, vals_occur, vals_view, view, with_entry_in, with_item_in}
use Rattle.fr_shape.specs.TokenLaws.{Room_conserved}
use Rattle.fr_model.specs.Gathering.{and_last_val}

-- Items

item_there : (xs : List Value) (v : Val) → item_place (vals_view xs) v < length xs → is_there v (vals_view xs) ≡ true
item_there [] v h = absurd (omega (arith, h))
item_there (x ∷ xs) v h = by (item_there xs v) (same (view x) v) h
  where
    by : (item_place (vals_view xs) v < length xs → is_there v (vals_view xs) ≡ true) → (b : Bool) → cond b 0 (suc (item_place (vals_view xs) v)) < suc (length xs) → b || is_there v (vals_view xs) ≡ true
    by more true h = refl
    by more false h = more (omega (arith, h))

item_new : (xs : List Value) (v : Val) → length xs ≤ item_place (vals_view xs) v → is_there v (vals_view xs) ≡ false
item_new [] v h = refl
item_new (x ∷ xs) v h = by (item_new xs v) (same (view x) v) h
  where
    by : (length xs ≤ item_place (vals_view xs) v → is_there v (vals_view xs) ≡ false) → (b : Bool) → suc (length xs) ≤ cond b 0 (suc (item_place (vals_view xs) v)) → b || is_there v (vals_view xs) ≡ false
    by more true h = absurd (omega (arith, h))
    by more false h = more (omega (arith, h))

last_is : (xs : List Value) (x : Value) → and_last_val (vals_view xs) (view x) ≡ vals_view (xs ++ x ∷ [])
last_is [] x = refl
last_is (y ∷ xs) x = ap (first (view y)) (last_is xs x)

-- one that is there changes nothing
pub keep_present : (xs : List Value) (x : Value) (p : ℕ) → p ≡ item_place (vals_view xs) (view x) → p < length xs → vals_view xs ≡ with_item_in (vals_view xs) (view x)
keep_present xs x p at h =
    sym (ap (λ b. cond b (vals_view xs) (and_last_val (vals_view xs) (view x))) (item_there xs (view x) (omega (arith, at, h))))

-- a new one comes behind the others
pub keep_absent : (xs new : List Value) (x : Value) (p : ℕ) → new ≡ xs ++ x ∷ [] → p ≡ item_place (vals_view xs) (view x) → length xs ≤ p → vals_view new ≡ with_item_in (vals_view xs) (view x)
keep_absent xs new x p pushed at h =
    ap vals_view pushed ∙ sym (last_is xs x)
    ∙ sym (ap (λ b. cond b (vals_view xs) (and_last_val (vals_view xs) (view x))) (item_new xs (view x) (omega (arith, at, h))))

pub occur_push : (xs : List Value) (x : Value) (t : ℕ) → vals_occur (vals_view (xs ++ x ∷ [])) t ≡ occurs (view x) t + vals_occur (vals_view xs) t
occur_push [] x t = refl
occur_push (y ∷ xs) x t = omega (arith, occur_push xs x t)

pub kept_conserved : (xs new : List Value) (x : Value) (ledger : List ℕ) → new ≡ xs ++ x ∷ [] → Conserved (both (occurs (view x)) (vals_occur (vals_view xs))) ledger (vals_occur (vals_view new)) ledger
kept_conserved xs new x ledger pushed = record {
  same_length = refl;
  kept_or_released = λ t. omega (arith, occur_push xs x t, ap (λ l. vals_occur (vals_view l) t) pushed);
  none_falls = λ t. omega arith;
}

-- Entries

-- an entry whose key is there takes the new value
pub put_present : (es : List (Value × Value)) (k : Val) (v : Value) (p : ℕ) (e : Value × Value) → p ≡ entry_place (entries_view es) k → p < length es → e ≡ get_or es p e → entries_view (set es p (e.0, v)) ≡ with_entry_in (entries_view es) k (view v)
put_present [] k v p e at h is = absurd (omega (arith, h))
put_present (d ∷ es) k v p e at h is = by (put_present es k v) (same (view d.0) k) p at h is
  where
    by : ((p : ℕ) (e : Value × Value) → p ≡ entry_place (entries_view es) k → p < length es → e ≡ get_or es p e → entries_view (set es p (e.0, v)) ≡ with_entry_in (entries_view es) k (view v)) → (b : Bool) (p : ℕ) → p ≡ cond b 0 (suc (entry_place (entries_view es) k)) → p < suc (length es) → e ≡ get_or (d ∷ es) p e → entries_view (set (d ∷ es) p (e.0, v)) ≡ cond b (entry (view d.0) (view v) (entries_view es)) (entry (view d.0) (view d.1) (with_entry_in (entries_view es) k (view v)))
    by more true zero at h is = ap (λ (x : Value × Value). entry (view x.0) (view v) (entries_view es)) is
    by more true (suc p) at h is = absurd (omega (arith, at))
    by more false zero at h is = absurd (omega (arith, at))
    by more false (suc p) at h is = ap (entry (view d.0) (view d.1)) (more p e (omega (arith, at)) (omega (arith, h)) is)

-- a new one comes behind the others
pub put_absent : (es new : List (Value × Value)) (k v : Value) (p : ℕ) → new ≡ es ++ (k, v) ∷ [] → p ≡ entry_place (entries_view es) (view k) → length es ≤ p → entries_view new ≡ with_entry_in (entries_view es) (view k) (view v)
put_absent es new k v p pushed at h = ap entries_view pushed ∙ behind es (omega (arith, at, h))
  where
    behind : (es : List (Value × Value)) → length es ≤ entry_place (entries_view es) (view k) → entries_view (es ++ (k, v) ∷ []) ≡ with_entry_in (entries_view es) (view k) (view v)
    behind [] h = refl
    behind (d ∷ es) h = by (behind es) (same (view d.0) (view k)) h
      where
        by : (length es ≤ entry_place (entries_view es) (view k) → entries_view (es ++ (k, v) ∷ []) ≡ with_entry_in (entries_view es) (view k) (view v)) → (b : Bool) → suc (length es) ≤ cond b 0 (suc (entry_place (entries_view es) (view k))) → entry (view d.0) (view d.1) (entries_view (es ++ (k, v) ∷ [])) ≡ cond b (entry (view d.0) (view v) (entries_view es)) (entry (view d.0) (view d.1) (with_entry_in (entries_view es) (view k) (view v)))
        by more true h = absurd (omega (arith, h))
        by more false h = ap (entry (view d.0) (view d.1)) (more (omega (arith, h)))

entries_push : (es : List (Value × Value)) (k v : Value) (t : ℕ) → entries_occur (entries_view (es ++ (k, v) ∷ [])) t ≡ occurs (view k) t + occurs (view v) t + entries_occur (entries_view es) t
entries_push [] k v t = omega arith
entries_push (d ∷ es) k v t = omega (arith, entries_push es k v t)

-- how often a token stands in entries, one of which took a new value
occur_set : (es : List (Value × Value)) (p : ℕ) (e : Value × Value) (v : Value) (t : ℕ) → p < length es → e ≡ get_or es p e → entries_occur (entries_view (set es p (e.0, v))) t + occurs (view e.1) t ≡ entries_occur (entries_view es) t + occurs (view v) t
occur_set [] p e v t h is = absurd (omega (arith, h))
occur_set (d ∷ es) zero e v t h is =
    omega (arith, ap (λ (x : Value × Value). occurs (view x.0) t) is, ap (λ (x : Value × Value). occurs (view x.1) t) is)
occur_set (d ∷ es) (suc p) e v t h is = omega (arith, occur_set es p e v t (omega (arith, h)) is)

pub pushed_conserved : (es new : List (Value × Value)) (k v : Value) (ledger : List ℕ) → new ≡ es ++ (k, v) ∷ [] → Conserved (both (both (occurs (view k)) (occurs (view v))) (entries_occur (entries_view es))) ledger (entries_occur (entries_view new)) ledger
pushed_conserved es new k v ledger pushed = record {
  same_length = refl;
  kept_or_released = λ t. omega (arith, entries_push es k v t, ap (λ l. entries_occur (entries_view l) t) pushed);
  none_falls = λ t. omega arith;
}

-- the new key and the old value were released
pub put_conserved : (es : List (Value × Value)) (p : ℕ) (e : Value × Value) (k v : Value) (before between after : List ℕ) → p < length es → e ≡ get_or es p e → RoseBy (occurs (view k)) before between → RoseBy (occurs (view e.1)) between after → Conserved (both (both (occurs (view k)) (occurs (view v))) (entries_occur (entries_view es))) before (entries_occur (entries_view (set es p (e.0, v)))) after
put_conserved es p e k v before between after h is r s = record {
  same_length = s.same_length ∙ r.same_length;
  kept_or_released = λ t. omega (arith, r.each t, s.each t, occur_set es p e v t h is);
  none_falls = λ t. omega (arith, r.each t, s.each t);
}

-- a value stands among entries at most as often as they hold it
pub value_fewer : (es : List (Value × Value)) (p : ℕ) (e : Value × Value) (t : ℕ) → p < length es → e ≡ get_or es p e → occurs (view e.1) t ≤ entries_occur (entries_view es) t
value_fewer [] p e t h is = absurd (omega (arith, h))
value_fewer (d ∷ es) zero e t h is = omega (arith, ap (λ (x : Value × Value). occurs (view x.1) t) is)
value_fewer (d ∷ es) (suc p) e t h is = omega (arith, value_fewer es p e t (omega (arith, h)) is)

-- there is room for the first of what is left
pub room_first : (held : ℕ → ℕ) (before : List ℕ) (others : ℕ → ℕ) (after : List ℕ) (x : Value) (xs ys : List Value) → xs ≡ x ∷ ys → Room held before → Conserved held before (both others (vals_occur (vals_view xs))) after → Room (occurs (view x)) after
room_first held before others after x xs ys is room c =
    Room_fewer (occurs (view x)) (both others (vals_occur (vals_view xs))) after
    (λ t. omega (arith, ap (λ l. vals_occur (vals_view l) t) is))
    (Room_conserved held before (both others (vals_occur (vals_view xs))) after c room)

-- the first two of what is left became an entry
pub entry_conserved : (held : ℕ → ℕ) (before : List ℕ) (es new : Entries) (between after : List ℕ) (k v : Value) (rest last : List Value) → rest ≡ k ∷ (v ∷ last) → Conserved held before (both (entries_occur es) (vals_occur (vals_view rest))) between → Conserved (both (both (occurs (view k)) (occurs (view v))) (entries_occur es)) between (entries_occur new) after → Conserved held before (both (entries_occur new) (vals_occur (vals_view last))) after
entry_conserved held before es new between after k v rest last is c d = record {
  same_length = d.same_length ∙ c.same_length;
  kept_or_released = λ t. omega (arith, c.kept_or_released t, d.kept_or_released t, ap (λ l. vals_occur (vals_view l) t) is);
  none_falls = λ t. omega (arith, c.none_falls t, d.none_falls t);
}

-- the place of the next entry, and of those behind it
pub placed_next : (es new : Entries) (k v : Value) (rest last : List Value) (places : List ℕ) (i : ℕ) → rest ≡ k ∷ (v ∷ last) → new ≡ with_entry_in es (view k) (view v) → drop i places ≡ entry_places es (vals_view rest) → drop (i + 1) places ≡ entry_places new (vals_view last)
placed_next es new k v rest last places i is put placed =
    sym (drop-drop 1 i places) ∙ ap (drop 1) (placed ∙ ap (λ l. entry_places es (vals_view l)) is)
    ∙ ap (λ l. entry_places l (vals_view last)) (sym put)
