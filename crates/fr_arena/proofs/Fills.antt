-- The loops of a bit set over the words of the numbers below a count.
use Rattle.std.proofs.Common.{◌≡◌, ℕ, ◌+◌, ◌-◌, ◌*◌, ◌/◌, ◌^◌, ◌<◌, ◌≤◌, min, Bool, true, false, ◌&&◌, ◌||◌, ltb, eqb, List, length, get_or, bit_and, bit_or, refl, sym, ap, ◌∙◌, subst, inl, inr, arith}
use Rattle.std.specs.FinSet as set
use Rattle.std.specs.FinSet.{same_set, contains-union, nat_cmp-IsAntisymmetric}
use Rattle.std.specs.Cmp.{nat_cmp_total}
use Rattle.std.specs.Int.{bit_at, div_ceil}
use Rattle.std.specs.List.{slice_set as set_at}
use Rattle.std.proofs.lemmas.Bool.{cases_lt, eqb-true, lt-ltb, le-ltb}
use Rattle.std.proofs.lemmas.Bool.Decides.{nat_tests}
use Rattle.std.proofs.lemmas.List.{length-set}
use Rattle.std.proofs.lemmas.Nat.Bits.{bit_at-lt, bit_at_and, bit_at_or, bit_at_ones, bit_at_ones_above, same_from_bits}
use Rattle.fr_arena.specs.BitSets.{BitSet, HasAllBelow, all_below}
use Rattle.fr_arena.specs.Words.{is_one, has_index, members_of, capacity_of, bit_set_of}
use Rattle.fr_arena.proofs.Members.{at_bit, written, contains-members_of, contains-all_below, stands_for}

-- the word at a place, of all numbers below the count
abbrev pub wanted : ℕ → ℕ → ℕ
wanted count at = 2 ^ min (count - 64 * at) 64 - 1

-- ---- a word against the low ones

low_ones_in : (w k : ℕ) → bit_and w (2 ^ k - 1) ≡ 2 ^ k - 1 → (b : ℕ) → b < k → bit_at w b ≡ 1
low_ones_in w k e b below =
    let both : min (bit_at w b) (bit_at (2 ^ k - 1) b) ≡ bit_at (2 ^ k - 1) b = sym (bit_at_and w (2 ^ k - 1) b) ∙ ap (λ n. bit_at n b) e in
    let one : bit_at (2 ^ k - 1) b ≡ 1 = bit_at_ones k b below in
    let bit : bit_at w b < 2 = bit_at-lt w b in
    omega arith

low_ones_from : (w k : ℕ) → ((b : ℕ) → b < k → bit_at w b ≡ 1) → bit_and w (2 ^ k - 1) ≡ 2 ^ k - 1
low_ones_from w k ones = same_from_bits _ _ (λ i. bit_at_and w (2 ^ k - 1) i ∙ elim (cases_lt i k) as (λ _. min (bit_at w i) (bit_at (2 ^ k - 1) i) ≡ bit_at (2 ^ k - 1) i) [
  | inl below ↦
      let one : bit_at w i ≡ 1 = ones i below in
      let low : bit_at (2 ^ k - 1) i ≡ 1 = bit_at_ones k i below in
      omega arith
  | inr above ↦
      let none : bit_at (2 ^ k - 1) i ≡ 0 = bit_at_ones_above k i above in
      omega arith
])

-- ---- `all_set`

-- the numbers below the count in the words before `at` are there
pub record AreThere (words : List ℕ) (count at : ℕ) : Type 0 where
  pub each : (q : ℕ) → q < count → q < 64 * at → has_index words q ≡ true

pub none_there : (words : List ℕ) (count : ℕ) → AreThere words count 0
none_there words count = record { each = λ q _ below. absurd (omega arith) }

pub more_there : (words : List ℕ) (count at word mask : ℕ) → word ≡ get_or words at 0 → mask ≡ wanted count at → bit_and word mask ≡ mask
    → AreThere words count at → AreThere words count (at + 1)
more_there words count at word mask read is full there = record {
  each = λ q below near. elim (cases_lt q (64 * at)) as (λ _. has_index words q ≡ true) [
    | inl before ↦ there.each q below before
    | inr here ↦
        let b : ℕ = q - 64 * at in
        let place : 64 * at + b ≡ q = omega arith in
        let small : b < 64 = omega arith in
        let low : b < min (count - 64 * at) 64 = omega arith in
        let one : bit_at word b ≡ 1 = low_ones_in word (min (count - 64 * at) 64) (subst (λ m. bit_and word m ≡ m) is full) b low in
        ap (has_index words) (sym place) ∙ at_bit words at b small ∙ ap (λ w. is_one w b) (sym read) ∙ ap (λ n. eqb n 1) one
  ];
}

pub all_there : (words : List ℕ) (b : BitSet) (count at : ℕ) → bit_set_of words ≡ b → div_ceil count 64 ≤ at → AreThere words count at → HasAllBelow count b
all_there words b count at view end there q below =
    let near : q < 64 * at = omega arith in
    ap (λ (s : BitSet). set.contains s.members q) (sym view) ∙ contains-members_of words q ∙ there.each q below near

pub not_there : (words : List ℕ) (b : BitSet) (count at word mask : ℕ) → bit_set_of words ≡ b → word ≡ get_or words at 0 → mask ≡ wanted count at
    → (bit_and word mask ≡ mask → ⊥) → HasAllBelow count b → ⊥
not_there words b count at word mask view read is lacks all = lacks (subst (λ m. bit_and word m ≡ m) (sym is) (low_ones_from word (min (count - 64 * at) 64) (λ bit low.
    let small : bit < 64 = omega arith in
    let below : 64 * at + bit < count = omega arith in
    let member : has_index words (64 * at + bit) ≡ true = sym (contains-members_of words (64 * at + bit)) ∙ ap (λ (s : BitSet). set.contains s.members (64 * at + bit)) view ∙ all (64 * at + bit) below in
    eqb-true (bit_at word bit) 1 (ap (λ w. is_one w bit) read ∙ sym (at_bit words at bit small) ∙ member))))

-- ---- `set_all`

-- the numbers below the count in the words before `at` were added
pub record AreAdded (words : List ℕ) (before : BitSet) (count at : ℕ) : Type 0 where
  pub capacity : capacity_of words ≡ before.capacity
  pub members : (q : ℕ) → has_index words q ≡ ((ltb q count && ltb q (64 * at)) || set.contains before.members q)

-- the loop stays within the words
pub within_words : (words : List ℕ) (before : BitSet) (count at end : ℕ) → AreAdded words before count at → at < end → end ≡ div_ceil count 64 → count ≤ before.capacity → at < length words
within_words words before count at end added below is room =
    let capacity : 64 * length words ≡ before.capacity = added.capacity in
    omega arith

nothing_new : (q count : ℕ) (m : Bool) → m ≡ ((ltb q count && ltb q (64 * 0)) || m)
nothing_new q count true = grind (arith, nat_tests)
nothing_new q count false = grind (arith, nat_tests)

pub none_added : (words : List ℕ) (before : BitSet) (count : ℕ) → bit_set_of words ≡ before → AreAdded words before count 0
none_added words before count view = record {
  capacity = ap (λ (s : BitSet). s.capacity) view;
  members = λ q. sym (contains-members_of words q) ∙ ap (λ (s : BitSet). set.contains s.members q) view ∙ nothing_new q count (set.contains before.members q);
}

-- the test of one bit, where the word is written and elsewhere
here_new : (word count at b : ℕ) (old m : Bool) → b < 64 → is_one word b ≡ old → old ≡ ((ltb (64 * at + b) count && ltb (64 * at + b) (64 * at)) || m)
    → is_one (bit_or word (wanted count at)) b ≡ ((ltb (64 * at + b) count && ltb (64 * at + b) (64 * (at + 1))) || m)
here_new word count at b old m small was is =
    elim (cases_lt (64 * at + b) count) as (λ _. is_one (bit_or word (wanted count at)) b ≡ ((ltb (64 * at + b) count && ltb (64 * at + b) (64 * (at + 1))) || m)) [
      | inl below ↦
          let low : bit_at (wanted count at) b ≡ 1 = bit_at_ones (min (count - 64 * at) 64) b (omega arith) in
          let bit : bit_at word b < 2 = bit_at-lt word b in
          let new : bit_at (bit_or word (wanted count at)) b ≡ 1 = bit_at_or word (wanted count at) b ∙ (omega arith) in
          ap (λ n. eqb n 1) new ∙ sym (ap (λ t. (t && ltb (64 * at + b) (64 * (at + 1))) || m) (lt-ltb _ _ below) ∙ ap (λ t. t || m) (lt-ltb _ _ (omega arith)))
      | inr above ↦
          let none : bit_at (wanted count at) b ≡ 0 = bit_at_ones_above (min (count - 64 * at) 64) b (omega arith) in
          let same : bit_at (bit_or word (wanted count at)) b ≡ bit_at word b = bit_at_or word (wanted count at) b ∙ (omega arith) in
          let past : ltb (64 * at + b) count ≡ false = le-ltb _ _ above in
          ap (λ n. eqb n 1) same ∙ was ∙ is ∙ ap (λ t. (t && ltb (64 * at + b) (64 * at)) || m) past ∙ sym (ap (λ t. (t && ltb (64 * at + b) (64 * (at + 1))) || m) past)
    ]

elsewhere_same : (q count at : ℕ) (m : Bool) → (q / 64 ≡ at → ⊥) → ((ltb q count && ltb q (64 * at)) || m) ≡ ((ltb q count && ltb q (64 * (at + 1))) || m)
elsewhere_same q count at m away =
    let same : ltb q (64 * at) ≡ ltb q (64 * (at + 1)) = elim (cases_lt q (64 * at)) [
      | inl before ↦ lt-ltb _ _ before ∙ sym (lt-ltb _ _ (omega arith))
      | inr after ↦
          let far : 64 * (at + 1) ≤ q = elim (cases_lt q (64 * (at + 1))) [ inl near ↦ absurd (away (omega arith)) | inr past ↦ past ] in
          le-ltb _ _ after ∙ sym (le-ltb _ _ far)
    ] in
    ap (λ t. (ltb q count && t) || m) same

pub more_added : (words new : List ℕ) (before : BitSet) (count at word mask : ℕ) → at < length words → word ≡ get_or words at 0 → mask ≡ wanted count at
    → new ≡ set_at words at (bit_or word mask) → AreAdded words before count at → AreAdded new before count (at + 1)
more_added words new before count at word mask inside read is written_mask added = let put : new ≡ set_at words at (bit_or word (wanted count at)) = written_mask ∙ ap (λ m. set_at words at (bit_or word m)) is in record {
  capacity = ap capacity_of put ∙ ap (λ n. 64 * n) (length-set words at (bit_or word (wanted count at))) ∙ added.capacity;
  members = λ q. ap (λ ws. has_index ws q) put
      ∙ written words at (bit_or word (wanted count at)) (λ r. (ltb r count && ltb r (64 * (at + 1))) || set.contains before.members r) inside
      (λ b small. here_new word count at b _ _ small (ap (λ w. is_one w b) read ∙ sym (at_bit words at b small)) (added.members (64 * at + b)))
      (λ r away. added.members r ∙ elsewhere_same r count at _ away)
      q;
}

pub all_added : (words : List ℕ) (before : BitSet) (count at : ℕ) → div_ceil count 64 ≤ at → AreAdded words before count at
    → (q : ℕ) → set.contains (members_of words) q ≡ (ltb q count || set.contains before.members q)
all_added words before count at end added q = contains-members_of words q ∙ added.members q ∙ ap (λ t. t || set.contains before.members q) (both q)
  where
    both : (q : ℕ) → (ltb q count && ltb q (64 * at)) ≡ ltb q count
    both q = elim (cases_lt q count) [
      | inl below ↦ ap (λ t. t && ltb q (64 * at)) (lt-ltb _ _ below) ∙ lt-ltb _ _ (omega arith) ∙ sym (lt-ltb _ _ below)
      | inr above ↦ ap (λ t. t && ltb q (64 * at)) (le-ltb _ _ above) ∙ sym (le-ltb _ _ above)
    ]

either_order : (x y : Bool) → (x || y) ≡ (y || x)
either_order true true = refl
either_order true false = refl
either_order false true = refl
either_order false false = refl

pub union_of : (words : List ℕ) (before : BitSet) (count at : ℕ) → div_ceil count 64 ≤ at → AreAdded words before count at
    → bit_set_of words ≡ record before { members = set.union before.members (all_below count) }
union_of words before count at end added = stands_for words _ added.capacity
    (same_set nat_cmp_total nat_cmp-IsAntisymmetric _ _ (λ q.
    all_added words before count at end added q ∙ either_order (ltb q count) (set.contains before.members q)
    ∙ ap (λ t. set.contains before.members q || t) (sym (contains-all_below count q))
    ∙ sym (contains-union nat_cmp_total before.members (all_below count) q)))
