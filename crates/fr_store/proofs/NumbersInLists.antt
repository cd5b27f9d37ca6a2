-- Lists of numbers and, under each number, where it stands in the list.
use Rattle.std.proofs.Common.{◌≡◌, ◌≢◌, ◌⊎◌, ◌↔◌, ℕ, zero, suc, ◌+◌, ◌<◌, ◌≤◌, List, [], ◌∷◌, ◌++◌, length, set, get_or, nat_eq, slice_get, Some, Contains, length-set, inl, inr, refl, sym, ◌∙◌, ap, subst, arith}
use Rattle.std.proofs.lemmas.List.{length-map, get_or_default, get_or_append_left, get_or_push, get_or-set_same, get_or-set_other, length_push, map_push, map-set}
use Rattle.std.proofs.lemmas.Option.{get_or_from_slice_get, slice_get-get_or, slice_get_within}
use Rattle.fr_store.specs.Common.{AreOnce, StoredPlace, counts_if, counts_in, counts_other, counts_same, same_or_other, slot_of, slots_of}
use Rattle.fr_store.specs.Numbers.{IsIndexed}
use Rattle.fr_store.proofs.PairLaws.{in_counted, indexed_once, later_in, room_below}

-- Reading.

get_set_same : (xs : List ℕ) (n x : ℕ) → n < length xs → slice_get (set xs n x) n ≡ Some x
get_set_same xs n x h =
    slice_get-get_or (set xs n x) n x (omega (arith, length-set xs n x)) ∙ ap (λ (y : ℕ). Some y) (get_or-set_same xs n x x h)

get_set_other : (xs : List ℕ) (n x m : ℕ) → m ≢ n → slice_get (set xs n x) m ≡ slice_get xs m
get_set_other (y ∷ xs) zero x zero apart = absurd (apart refl)
get_set_other (y ∷ xs) (suc n) x (suc m) apart = get_set_other xs n x m (λ e. apart (ap suc e))
get_set_other _ n x m apart = refl

-- How often a number stands in a list.

counted_in : (n : ℕ) (xs : List ℕ) → 0 < counts_in n xs → Contains xs n
counted_in n [] h = absurd (omega arith)
counted_in n (x ∷ xs) h = go (same_or_other x n) (counted_in n xs)
  where
    go : (x ≡ n) ⊎ (x ≢ n) → (0 < counts_in n xs → Contains xs n) → Contains (x ∷ xs) n
    go (inl e) rest = (0, omega arith, e)
    go (inr ne) rest = later_in x n xs (rest (omega (arith, h, counts_other x n ne)))

counts_put : (n : ℕ) (xs : List ℕ) (p y : ℕ) → p < length xs
    → counts_in n (set xs p y) + counts_if (nat_eq (get_or xs p 0) n) ≡ counts_in n xs + counts_if (nat_eq y n)
counts_put n [] p y h = absurd (omega arith)
counts_put n (x ∷ xs) zero y h = omega arith
counts_put n (x ∷ xs) (suc p) y h = omega (arith, counts_put n xs p y (omega arith))

counts_push : (n : ℕ) (xs : List ℕ) (y : ℕ) → counts_in n (xs ++ y ∷ []) ≡ counts_in n xs + counts_if (nat_eq y n)
counts_push n [] y = omega arith
counts_push n (x ∷ xs) y = omega (arith, counts_push n xs y)

-- where one number is taken out of different ones, the others are left
taken : (all rest : List ℕ) (place : ℕ) → AreOnce all
    → ((n : ℕ) → counts_in n all ≡ counts_in n rest + counts_if (nat_eq place n))
    → (n : ℕ) → Contains rest n ↔ (Contains all n × (n ≢ place))
taken all rest place once counts n = (
  λ found. (
    counted_in n all (omega (arith, counts n, in_counted n rest found)),
    λ e.
        let one : counts_if (nat_eq place n) ≡ 1 = ap (λ (m : ℕ). counts_if (nat_eq place m)) e ∙ counts_same place in
        omega (arith, counts n, once n, in_counted n rest found),
  ),
  λ both.
      counted_in n rest (omega (arith, counts n, in_counted n all both.0, counts_other place n (λ e. both.1 (sym e)))),
)

-- Where a number stands.

pub stands_at : (all positions : List ℕ) (n : ℕ) → IsIndexed all positions → (found : Contains all n)
    → slice_get positions n ≡ Some found.0
stands_at all positions n indexed found =
    ap (slice_get positions) (sym (get_or_default all found.0 0 n found.1 ∙ found.2)) ∙ indexed found.0 found.1

-- so it is where the list got no other number and the positions say all that they said
pub indexed_still : (all before after : List ℕ) → ((n i : ℕ) → slice_get before n ≡ Some i → slice_get after n ≡ Some i)
    → IsIndexed all before → IsIndexed all after
indexed_still all before after kept indexed i h = kept (get_or all i 0) i (indexed i h)

-- no number is in the list twice
pub index_once : (all positions : List ℕ) → IsIndexed all positions → AreOnce all
index_once all positions indexed = indexed_once all positions 0 (λ i h. indexed i h ∙ ap (λ (m : ℕ). Some m) (omega arith))

-- One more number.
module _ (all positions : List ℕ) (n : ℕ) (indexed : IsIndexed all positions) where
  pub indexed_more : ¬ Contains all n → n < length positions → IsIndexed (all ++ n ∷ []) (set positions n (length all))
  indexed_more apart room i h = go (same_or_other i (length all))
    where
      long : length (all ++ n ∷ []) ≡ length all + 1
      long = length_push all n

      go : (i ≡ length all) ⊎ (i ≢ length all) → slice_get (set positions n (length all)) (get_or (all ++ n ∷ []) i 0) ≡ Some i
      go (inl e) =
          ap (slice_get (set positions n (length all))) (get_or_push all n 0 i (sym e))
          ∙ get_set_same positions n (length all) room ∙ ap (λ (k : ℕ). Some k) (sym e)
      go (inr ne) =
          let inside : i < length all = omega (arith, long) in
          let here : get_or (all ++ n ∷ []) i 0 ≡ get_or all i 0 = get_or_append_left all (n ∷ []) 0 i inside in
          ap (slice_get (set positions n (length all))) here ∙ get_set_other positions n (length all) (get_or all i 0)
          (λ e. apart (i, inside, get_or_default all i n 0 inside ∙ e)) ∙ indexed i inside

-- One number less: the last one comes into its stead, or is the one.
module _ (front positions : List ℕ) (last : ℕ) (indexed : IsIndexed (front ++ last ∷ []) positions) where
  long : length (front ++ last ∷ []) ≡ length front + 1
  long = length_push front last

  first : (i d : ℕ) → i < length front → get_or (front ++ last ∷ []) i d ≡ get_or front i d
  first i d h = get_or_append_left front (last ∷ []) d i h

  last_at : slice_get positions last ≡ Some (length front)
  last_at =
      ap (slice_get positions) (sym (get_or_push front last 0 (length front) refl)) ∙ indexed (length front) (omega (arith, long))

  first_at : (i : ℕ) → i < length front → slice_get positions (get_or front i 0) ≡ Some i
  first_at i h = ap (slice_get positions) (sym (first i 0 h)) ∙ indexed i (omega (arith, long))

  isn't_last : (i : ℕ) → i < length front → get_or front i 0 ≢ last
  isn't_last i h e =
      let same : Some i ≡ Some (length front) = sym (first_at i h) ∙ ap (slice_get positions) e ∙ last_at in
      let is : i ≡ length front = cc in
      omega arith

  pub last_inside : last < length positions
  last_inside = slice_get_within positions last (length front) last_at

  pub indexed_front : IsIndexed front positions
  indexed_front = first_at

  module _ (p : ℕ) (inside : p < length front) where
    pub indexed_less : IsIndexed (set front p last) (set positions last p)
    indexed_less i h = go (same_or_other i p)
      where
        within : i < length front
        within = omega (arith, length-set front p last)

        go : (i ≡ p) ⊎ (i ≢ p) → slice_get (set positions last p) (get_or (set front p last) i 0) ≡ Some i
        go (inl e) =
            ap (λ (k : ℕ). slice_get (set positions last p) (get_or (set front p last) k 0)) e
            ∙ ap (slice_get (set positions last p)) (get_or-set_same front p last 0 inside)
            ∙ get_set_same positions last p last_inside ∙ ap (λ (k : ℕ). Some k) (sym e)
        go (inr ne) =
            ap (slice_get (set positions last p)) (get_or-set_other front p i last 0 ne)
            ∙ get_set_other positions last p (get_or front i 0) (isn't_last i within) ∙ first_at i within

-- The same of slots, as the store has them: p is what stands under the number of the place that is taken out.
module _ (slots front : List StoredPlace) (positions : List ℕ) (last : StoredPlace) (place : ℕ) (p : ℕ) (items : slots ≡ front ++ last ∷ [])
    (indexed : IsIndexed (slots_of slots) positions) (found : Contains (slots_of slots) place)
    (is : p ≡ get_or positions place p) where
  all : slots_of slots ≡ slots_of front ++ slot_of last ∷ []
  all = ap slots_of items ∙ map_push slot_of front last

  indexed_so : IsIndexed (slots_of front ++ slot_of last ∷ []) positions
  indexed_so = subst (λ (l : List ℕ). IsIndexed l positions) all indexed

  found_so : Contains (slots_of front ++ slot_of last ∷ []) place
  found_so = subst (λ (l : List ℕ). Contains l place) all found

  found_at : p ≡ found_so.0
  found_at =
      is ∙ get_or_from_slice_get positions place found_so.0 p
      (stands_at (slots_of front ++ slot_of last ∷ []) positions place indexed_so found_so)

  long_so : length (slots_of front ++ slot_of last ∷ []) ≡ length (slots_of front) + 1
  long_so = length_push (slots_of front) (slot_of last)

  count : length (slots_of front) ≡ length front
  count = length-map front slot_of

  pub slots_front : IsIndexed (slots_of front) positions
  slots_front = indexed_front (slots_of front) positions (slot_of last) indexed_so

  pub slots_rest_front : length front ≤ p → (n : ℕ) → Contains (slots_of front) n ↔ (Contains (slots_of slots) n × (n ≢ place))
  slots_rest_front past =
      let held : slot_of last ≡ place
      = sym (get_or_push (slots_of front) (slot_of last) place found_so.0 (omega (arith, count, long_so, found_at, found_so.1)))
      ∙ found_so.2 in
      taken (slots_of slots) (slots_of front) place (index_once (slots_of slots) positions indexed) (λ n.
      let whole = ap (counts_in n) all in
      let same = ap (λ (x : ℕ). counts_if (nat_eq x n)) held in
      omega (arith, counts_push n (slots_of front) (slot_of last)))

  pub slots_less : p < length front → IsIndexed (slots_of (set front p last)) (set positions (slot_of last) p)
  slots_less inside =
      subst (λ (l : List ℕ). IsIndexed l (set positions (slot_of last) p)) (sym (map-set slot_of front p last))
      (indexed_less (slots_of front) positions (slot_of last) indexed_so p (omega (arith, count)))

  pub slots_rest_less : p < length front
      → (n : ℕ) → Contains (slots_of (set front p last)) n ↔ (Contains (slots_of slots) n × (n ≢ place))
  slots_rest_less inside =
      let within : p < length (slots_of front) = omega (arith, count) in
      let held : get_or (slots_of front) p 0 ≡ place = ap (λ (k : ℕ). get_or (slots_of front) k 0) found_at
      ∙ get_or_default (slots_of front) found_so.0 0 place (omega (arith, count, found_at))
      ∙ sym (get_or_append_left (slots_of front) (slot_of last ∷ []) place found_so.0 (omega (arith, count, found_at)))
      ∙ found_so.2 in
      taken (slots_of slots) (slots_of (set front p last)) place (index_once (slots_of slots) positions indexed) (λ n.
      let whole = ap (counts_in n) all in
      let rest = ap (counts_in n) (map-set slot_of front p last) in
      let same = ap (λ (x : ℕ). counts_if (nat_eq x n)) held in
      omega (arith, counts_push n (slots_of front) (slot_of last), counts_put n (slots_of front) p (slot_of last) within))

-- The same of slots of which there is one more.
pub slots_more : (slots after : List StoredPlace) (positions : List ℕ) (place : StoredPlace) (at : ℕ) → after ≡ slots ++ place ∷ []
    → at ≡ length slots → IsIndexed (slots_of slots) positions → ¬ Contains (slots_of slots) (slot_of place)
    → slot_of place < length positions → IsIndexed (slots_of after) (set positions (slot_of place) at)
slots_more slots after positions place at items is indexed apart room =
    let all : slots_of after ≡ slots_of slots ++ slot_of place ∷ [] = ap slots_of items ∙ map_push slot_of slots place in
    let count : length (slots_of slots) ≡ at = length-map slots slot_of ∙ sym is in
    subst (λ (l : List ℕ). IsIndexed l (set positions (slot_of place) at)) (sym all)
    (subst (λ (k : ℕ). IsIndexed (slots_of slots ++ slot_of place ∷ []) (set positions (slot_of place) k)) count
    (indexed_more (slots_of slots) positions (slot_of place) indexed apart room))

-- Positions have an entry for each.
pub room_indexed : (all positions : List ℕ) → IsIndexed all positions → length all ≤ length positions
room_indexed all positions indexed =
    room_below all (length positions) (index_once all positions indexed)
    (λ n at. slice_get_within positions n at.0 (stands_at all positions n indexed at))
