-- The indices at which words have a 1, as a finite set.
use Rattle.std.proofs.Common.{◌≡◌, ℕ, zero, suc, ◌+◌, ◌*◌, ◌/◌, ◌%◌, ◌^◌, ◌<◌, ◌≤◌, Bool, true, false, cond, not, ◌&&◌, ◌||◌, ltb, eqb, List, length, get_or, replicate, bit_and, bit_or, w64, refl, sym, ap, ◌∙◌, subst, inl, inr, arith}
use Rattle.std.specs.FinSet as set
use Rattle.std.specs.FinSet.{same_set, contains-empty, contains-insert, contains-remove, nat_cmp-IsAntisymmetric}
use Rattle.std.specs.Cmp.{nat_cmp_total, unsigned_tied}
use Rattle.std.specs.Int.{bit_at, bit_not}
use Rattle.std.specs.List.{slice_set as set_at}
use Rattle.std.specs.Ordering.{nat_cmp}
use Rattle.std.proofs.lemmas.Bool.{false≢true, cases_lt, cases_eq, ne_eqb, eq-eqb, le-ltb}
use Rattle.std.proofs.lemmas.Bool.Decides.{nat_tests}
use Rattle.std.proofs.lemmas.List.{get_or-set_same, get_or-set_other, get_or_past, get_or-replicate, length-set, length-replicate}
use Rattle.std.proofs.lemmas.Nat.Bits.{bit_at-zero, bit_at_set_same, bit_at_set_other, bit_at_clear_same, bit_at_clear_other, shr_and_one}
use Rattle.fr_arena.specs.BitSets.{BitSet, IsWithinCapacity, all_below}
use Rattle.fr_arena.specs.Words.{is_one, has_index, members_below, members_of, capacity_of, bit_set_of}

-- ---- what `contains` answers

pub inserted : (s : set.FinSet nat_cmp) (k q : ℕ) → set.contains (set.insert s k) q ≡ (eqb q k || set.contains s q)
inserted s k q = contains-insert nat_cmp_total s k q ∙ ap (λ b. b || set.contains s q) (unsigned_tied q k)

pub removed : (s : set.FinSet nat_cmp) (k q : ℕ) → set.contains (set.remove s k) q ≡ (not (eqb q k) && set.contains s q)
removed s k q = contains-remove nat_cmp_total s k q ∙ ap (λ b. not b && set.contains s q) (unsigned_tied q k)

one_more : (n q : ℕ) → (eqb q n || ltb q n) ≡ ltb q (suc n)
one_more n q = grind (arith, nat_tests)

more_in : (n q : ℕ) (h : Bool) → (q ≡ n → h ≡ true) → (eqb q n || (ltb q n && h)) ≡ (ltb q (suc n) && h)
more_in n q true is = grind (arith, nat_tests)
more_in n q false is = grind (arith, nat_tests)

more_out : (n q : ℕ) (h : Bool) → (q ≡ n → h ≡ false) → (ltb q n && h) ≡ (ltb q (suc n) && h)
more_out n q true is = grind (arith, nat_tests)
more_out n q false is = grind (arith, nat_tests)

pub contains-all_below : (n q : ℕ) → set.contains (all_below n) q ≡ ltb q n
unfolding all_below
contains-all_below zero q = contains-empty nat_cmp q ∙ sym (le-ltb q 0 (omega arith))
contains-all_below (suc n) q = inserted (all_below n) n q ∙ ap (λ b. eqb q n || b) (contains-all_below n q) ∙ one_more n q

contains-members_below : (words : List ℕ) (n q : ℕ) → set.contains (members_below words n) q ≡ (ltb q n && has_index words q)
unfolding members_below
contains-members_below words zero q = contains-empty nat_cmp q ∙ ap (λ b. b && has_index words q) (sym (le-ltb q 0 (omega arith)))
contains-members_below words (suc n) q =
    let before = contains-members_below words n q in
    let there : q ≡ n → has_index words q ≡ has_index words n = λ e. ap (has_index words) e in
    elim (has_index words n) as (λ b. has_index words n ≡ b → set.contains (cond b (set.insert (members_below words n) n) (members_below words n)) q ≡ (ltb q (suc n) && has_index words q)) [
      | true ↦ λ is. inserted (members_below words n) n q ∙ ap (λ b. eqb q n || b) before ∙ more_in n q (has_index words q) (λ e. there e ∙ is)
      | false ↦ λ is. before ∙ more_out n q (has_index words q) (λ e. there e ∙ is)
    ] refl

past : (words : List ℕ) (q : ℕ) → capacity_of words ≤ q → has_index words q ≡ false
past words q above =
    let outside : length words ≤ q / 64 = omega arith in
    let nothing : get_or words (q / 64) 0 ≡ 0 = get_or_past words (q / 64) 0 outside in
    ap (λ w. is_one w (q % 64)) nothing ∙ ap (λ b. eqb b 1) (bit_at-zero (q % 64))

within : (n q : ℕ) (h : Bool) → (n ≤ q → h ≡ false) → (ltb q n && h) ≡ h
within n q true is = grind (arith, nat_tests)
within n q false is = grind (arith, nat_tests)

pub contains-members_of : (words : List ℕ) (q : ℕ) → set.contains (members_of words) q ≡ has_index words q
unfolding members_of
contains-members_of words q = contains-members_below words (capacity_of words) q ∙ within (capacity_of words) q (has_index words q) (past words q)

-- ---- two sets with the same members

pub members_are : (words : List ℕ) (s : set.FinSet nat_cmp) → ((q : ℕ) → has_index words q ≡ set.contains s q) → members_of words ≡ s
members_are words s same = same_set nat_cmp_total nat_cmp-IsAntisymmetric (members_of words) s (λ q. contains-members_of words q ∙ same q)

-- ---- one word written

-- the words have p's indices, where the word written has those of its place and the others had theirs
pub written : (words : List ℕ) (at word : ℕ) (p : ℕ → Bool) → at < length words
    → ((bit : ℕ) → bit < 64 → is_one word bit ≡ p (64 * at + bit))
    → ((q : ℕ) → (q / 64 ≡ at → ⊥) → has_index words q ≡ p q)
    → (q : ℕ) → has_index (set_at words at word) q ≡ p q
written words at word p inside here elsewhere q =
    elim (cases_eq (q / 64) at) as (λ _. has_index (set_at words at word) q ≡ p q) [
      | inl e ↦
          let new : get_or (set_at words at word) (q / 64) 0 ≡ word = subst (λ k. get_or (set_at words at word) k 0 ≡ word) (sym e) (get_or-set_same words at word 0 inside) in
          let place : 64 * at + q % 64 ≡ q = omega arith in
          let small : q % 64 < 64 = omega arith in
          ap (λ w. is_one w (q % 64)) new ∙ here (q % 64) small ∙ ap p place
      | inr ne ↦ ap (λ w. is_one w (q % 64)) (get_or-set_other words at (q / 64) word 0 ne) ∙ elsewhere q ne
    ]

-- the index of a bit of a word
pub at_bit : (words : List ℕ) (a b : ℕ) → b < 64 → has_index words (64 * a + b) ≡ is_one (get_or words a 0) b
at_bit words a b small =
    let word : (64 * a + b) / 64 ≡ a = omega arith in
    let bit : (64 * a + b) % 64 ≡ b = omega arith in
    ap (λ k. is_one (get_or words k 0) ((64 * a + b) % 64)) word ∙ ap (λ k. is_one (get_or words a 0) k) bit

-- where the word of i is written, and only bit i changes, to one
module _ (words : List ℕ) (i word : ℕ) (inside : i < capacity_of words) where
  abbrev old_word : ℕ
  old_word = get_or words (i / 64) 0

  within_words : i / 64 < length words
  within_words = omega arith

  pub put_in : bit_at word (i % 64) ≡ 1 → ((bit : ℕ) → bit < 64 → (bit ≡ i % 64 → ⊥) → bit_at word bit ≡ bit_at old_word bit)
      → members_of (set_at words (i / 64) word) ≡ set.insert (members_of words) i
  put_in one others = members_are _ _ (λ q.
      written words (i / 64) word (λ q. eqb q i || has_index words q) within_words
      (λ bit small. elim (cases_eq bit (i % 64)) as (λ _. is_one word bit ≡ (eqb (64 * (i / 64) + bit) i || has_index words (64 * (i / 64) + bit))) [
        | inl e ↦
            let at_i : eqb (64 * (i / 64) + bit) i ≡ true = eq-eqb _ _ (omega arith) in
            ap (λ b. eqb (bit_at word b) 1) e ∙ ap (λ n. eqb n 1) one ∙ sym (ap (λ b. b || has_index words (64 * (i / 64) + bit)) at_i)
        | inr ne ↦
            let not_i : eqb (64 * (i / 64) + bit) i ≡ false = ne_eqb _ _ (λ same. ne (omega arith)) in
            ap (λ n. eqb n 1) (others bit small ne) ∙ sym (at_bit words (i / 64) bit small)
            ∙ sym (ap (λ b. b || has_index words (64 * (i / 64) + bit)) not_i)
      ])
      (λ r away. sym (ap (λ b. b || has_index words r) (ne_eqb r i (λ same. away (ap (λ n. n / 64) same)))))
      q
      ∙ sym (inserted (members_of words) i q ∙ ap (λ b. eqb q i || b) (contains-members_of words q)))

  pub put_out : bit_at word (i % 64) ≡ 0 → ((bit : ℕ) → bit < 64 → (bit ≡ i % 64 → ⊥) → bit_at word bit ≡ bit_at old_word bit)
      → members_of (set_at words (i / 64) word) ≡ set.remove (members_of words) i
  put_out none others = members_are _ _ (λ q.
      written words (i / 64) word (λ q. not (eqb q i) && has_index words q) within_words
      (λ bit small. elim (cases_eq bit (i % 64)) as (λ _. is_one word bit ≡ (not (eqb (64 * (i / 64) + bit) i) && has_index words (64 * (i / 64) + bit))) [
        | inl e ↦
            let at_i : eqb (64 * (i / 64) + bit) i ≡ true = eq-eqb _ _ (omega arith) in
            ap (λ b. eqb (bit_at word b) 1) e ∙ ap (λ n. eqb n 1) none ∙ sym (ap (λ b. not b && has_index words (64 * (i / 64) + bit)) at_i)
        | inr ne ↦
            let not_i : eqb (64 * (i / 64) + bit) i ≡ false = ne_eqb _ _ (λ same. ne (omega arith)) in
            ap (λ n. eqb n 1) (others bit small ne) ∙ sym (at_bit words (i / 64) bit small)
            ∙ sym (ap (λ b. not b && has_index words (64 * (i / 64) + bit)) not_i)
      ])
      (λ r away. sym (ap (λ b. not b && has_index words r) (ne_eqb r i (λ same. away (ap (λ n. n / 64) same)))))
      q
      ∙ sym (removed (members_of words) i q ∙ ap (λ b. not (eqb q i) && b) (contains-members_of words q)))

-- `|= 1 << i`, and `&= !(1 << i)`
module _ (words : List ℕ) (i : ℕ) (inside : i < capacity_of words) where
  small_bit : i % 64 < 64
  small_bit = omega arith

  pub bit_set : members_of (set_at words (i / 64) (bit_or (get_or words (i / 64) 0) (1 * 2 ^ (i % 64) % 2 ^ 64))) ≡ set.insert (members_of words) i
  bit_set = put_in words i _ inside (bit_at_set_same w64 _ (i % 64) small_bit) (λ bit _ ne. bit_at_set_other w64 _ (i % 64) small_bit bit ne)

  pub bit_unset : members_of (set_at words (i / 64) (bit_and (get_or words (i / 64) 0) (bit_not w64 (1 * 2 ^ (i % 64) % 2 ^ 64)))) ≡ set.remove (members_of words) i
  bit_unset = put_out words i _ inside (bit_at_clear_same w64 _ (i % 64) small_bit) (λ bit small ne. bit_at_clear_other w64 _ (i % 64) small_bit bit small ne)

-- ---- what the calls answer, over the value that contracts see

-- the words stand for a set with this capacity and these members
pub stands_for : (words : List ℕ) (b : BitSet) → capacity_of words ≡ b.capacity → members_of words ≡ b.members → bit_set_of words ≡ b
stands_for words b capacity members = λ i. record { capacity = capacity i; members = members i }

module _ (before : BitSet) (old new : List ℕ) (index word : ℕ) (view : bit_set_of old ≡ before) (inside : index < before.capacity) (read : word ≡ get_or old (index / 64) 0) where
  old_inside : index < capacity_of old
  old_inside = rw (ap (λ (b : BitSet). b.capacity) view) inside

  same_capacity : (at w : ℕ) → new ≡ set_at old at w → capacity_of new ≡ before.capacity
  same_capacity at w put = ap capacity_of put ∙ ap (λ n. 64 * n) (length-set old at w) ∙ ap (λ (b : BitSet). b.capacity) view

  pub set_is : new ≡ set_at old (index / 64) (bit_or word (1 * 2 ^ (index % 64) % 2 ^ 64)) → bit_set_of new ≡ record before { members = set.insert before.members index }
  set_is put = stands_for new _ (same_capacity _ _ put)
      (ap members_of put ∙ ap (λ w. members_of (set_at old (index / 64) (bit_or w (1 * 2 ^ (index % 64) % 2 ^ 64)))) read
      ∙ bit_set old index old_inside ∙ ap (λ (b : BitSet). set.insert b.members index) view)

  pub unset_is : new ≡ set_at old (index / 64) (bit_and word (bit_not w64 (1 * 2 ^ (index % 64) % 2 ^ 64))) → bit_set_of new ≡ record before { members = set.remove before.members index }
  unset_is put = stands_for new _ (same_capacity _ _ put)
      (ap members_of put ∙ ap (λ w. members_of (set_at old (index / 64) (bit_and w (bit_not w64 (1 * 2 ^ (index % 64) % 2 ^ 64))))) read
      ∙ bit_unset old index old_inside ∙ ap (λ (b : BitSet). set.remove b.members index) view)

  pub set_by_index : new ≡ set_at old (index / 64) (bit_or word (1 * 2 ^ (index % 64) % 2 ^ 64))
      → (other : ℕ) → set.contains (bit_set_of new).members other ≡ (eqb other index || set.contains before.members other)
  set_by_index put other = ap (λ (b : BitSet). set.contains b.members other) (set_is put) ∙ inserted before.members index other

  pub unset_by_index : new ≡ set_at old (index / 64) (bit_and word (bit_not w64 (1 * 2 ^ (index % 64) % 2 ^ 64)))
      → (other : ℕ) → set.contains (bit_set_of new).members other ≡ (not (eqb other index) && set.contains before.members other)
  unset_by_index put other = ap (λ (b : BitSet). set.contains b.members other) (unset_is put) ∙ removed before.members index other

module _ (b : BitSet) (words : List ℕ) (view : bit_set_of words ≡ b) where
  pub get_is : (index word : ℕ) → word ≡ get_or words (index / 64) 0 → eqb (bit_and (word / 2 ^ (index % 64)) 1) 1 ≡ set.contains b.members index
  get_is index word read =
      ap (λ n. eqb n 1) (shr_and_one word (index % 64)) ∙ ap (λ w. is_one w (index % 64)) read
      ∙ sym (contains-members_of words index) ∙ ap (λ (s : BitSet). set.contains s.members index) view

  pub within_capacity : IsWithinCapacity b
  within_capacity index member =
      elim (cases_lt index (capacity_of words)) [
        | inl below ↦ rw (← ap (λ (s : BitSet). s.capacity) view) below
        | inr above ↦
            let absent : set.contains b.members index ≡ false = ap (λ (s : BitSet). set.contains s.members index) (sym view) ∙ contains-members_of words index ∙ past words index above in
            absurd (false≢true (sym absent ∙ member))
      ]

-- no bit of a zero is one
pub no_members : (n : ℕ) → members_of (replicate n 0) ≡ set.empty
no_members n = members_are (replicate n 0) _ (λ q.
    let zero_there : get_or (replicate n 0) (q / 64) 0 ≡ 0 = elim (cases_lt (q / 64) n) [
      | inl below ↦ get_or-replicate n (q / 64) 0 0 below
      | inr above ↦ get_or_past (replicate n 0) (q / 64) 0 (rw length-replicate above)
    ] in
    ap (λ w. is_one w (q % 64)) zero_there ∙ ap (λ m. eqb m 1) (bit_at-zero (q % 64)) ∙ sym (contains-empty nat_cmp q))

-- an empty set, index by index
pub none_by_index : (s : set.FinSet nat_cmp) → s ≡ set.empty → (index : ℕ) → set.contains s index ≡ false
none_by_index s empty index = ap (λ t. set.contains t index) empty ∙ contains-empty nat_cmp index
