-- What the base and the index of a begun place tell of its children, and have with one more of them.
use Rattle.std.proofs.Common.{◌≡◌, ℕ, zero, suc, ◌+◌, ◌<◌, ◌≤◌, ◌≢◌, min, Bool, true, false, List, [], ◌∷◌, ◌++◌, length, take, drop, get_or, set, slice_get, slice_range, Some, None, inl, inr, refl, sym, ap, subst, ◌∙◌, ⊎_elim, arith, ◌||◌}
use Rattle.std.proofs.lemmas.Bool.{cases_lt}
use Rattle.std.proofs.lemmas.List.{length-set, length-take, length-take-le, length_push, take-append-drop, take-append-le, take-set, take-take}
use Rattle.std.proofs.lemmas.Option.{same_Some}
use Rattle.std.proofs.lemmas.Slice.{between_is}
use Rattle.std.specs.FinSet as finite
use Rattle.fr_values.specs.Common.{AreApart, Base, BitSet, Cell, Indexes, IndexesChildren, Val, Value, cell, cells_of, count_in_base, given, has_same_cell, is_same_cell, is_there, same, vals_view, value_of_cell, view}
use Rattle.std.specs.Option.{option_map}
use Rattle.fr_values.specs.Bases.{IsGrown}
use Rattle.fr_values.specs.ChildIndex.{AreCutAt}
use Rattle.fr_values.specs.declared.value_index.ValueIndex.{ValueIndex}
use Rattle.fr_values.proofs.BaseLaws.{cut_count, neither, one_more_apart, still_apart, uncut}
use Rattle.fr_values.specs.CellLaws.{cells_get, cells_length, in_slot_no_value}
use Rattle.fr_values.specs.SliceLaws.{element, set_gets}

-- An index and a base of the first values.

pub count_is : (bits : BitSet) (values : List Value) (base : Base) (index : ValueIndex) (n : ℕ) → IndexesChildren bits values base index
    → ((vs : List Value) → Indexes index vs → n ≡ length vs) → n ≡ index.len
count_is bits values base index n is counted =
    counted (take index.len values) is.just ∙ length-take-le index.len values (omega (arith, is.within, is.apart.within))

-- they stay, as far as they are not cut, where values begin alike, and bits too
pub still_indexed : (bits other : BitSet) (vs ws : List Value) (base fewer : Base) (index cut : ValueIndex) (n : ℕ)
    → IndexesChildren bits vs base index → AreCutAt n base fewer index cut → length ws ≤ other.capacity → count_in_base fewer ≤ length ws
    → take n ws ≡ take n vs → ((j : ℕ) → j < n → finite.contains other.members j ≡ finite.contains bits.members j)
    → IndexesChildren other ws fewer cut
still_indexed bits other vs ws base fewer index cut n is so room inside alike same =
    let counts = cut_count n base fewer so.cut in
    let within = so.within is.within in record {
      room = room;
      there = λ j h. same j (omega (arith, h, counts.0)) ∙ is.there j (omega (arith, h, counts.1));
      apart = still_apart n base fewer vs ws so.cut alike inside is.apart;
      within = within;
      just =
          subst (Indexes cut) (sym (take-take cut.len n vs (omega (arith, within, counts.0))) ∙ ap (take cut.len) (sym alike)
          ∙ take-take cut.len n ws (omega (arith, within, counts.0))) (so.kept vs is.just);
    }

-- nothing is cut
pub not_cut : (base : Base) (index : ValueIndex) (n : ℕ) → count_in_base base ≤ n → AreCutAt n base base index index
not_cut base index n h = record { cut = uncut n base h; within = λ i. i; kept = λ vs e. e }

-- one value changes
pub put_indexed : (bits other : BitSet) (values : List Value) (base fewer : Base) (index cut : ValueIndex) (i : ℕ) (x : Value)
    → IndexesChildren bits values base index → AreCutAt i base fewer index cut → other.capacity ≡ bits.capacity
    → ((j : ℕ) → j ≢ i → finite.contains other.members j ≡ finite.contains bits.members j)
    → IndexesChildren other (set values i x) fewer cut
put_indexed bits other values base fewer index cut i x is so room same =
    let counts = cut_count i base fewer so.cut in
    let long = length-set values i x in
    still_indexed bits other values (set values i x) base fewer index cut i is so (omega (arith, long, room, is.room))
    (omega (arith, long, counts.1, is.apart.within)) (take-set values i x)
    (λ j h. same j (λ e. omega (arith, h, e)))

-- one comes behind the others
pub pushed_indexed : (bits other : BitSet) (values : List Value) (base : Base) (index : ValueIndex) (x : Value)
    → IndexesChildren bits values base index → length values < other.capacity
    → ((j : ℕ) → j < length values → finite.contains other.members j ≡ finite.contains bits.members j)
    → IndexesChildren other (values ++ x ∷ []) base index
pushed_indexed bits other values base index x is room same =
    let long = length_push values x in
    still_indexed bits other values (values ++ x ∷ []) base base index index (length values) is
    (not_cut base index (length values) is.apart.within) (omega (arith, long, room)) (omega (arith, long, is.apart.within))
    (take-append-le (length values) values (x ∷ []) (omega arith)) same

-- the last one goes
pub popped_indexed : (bits : BitSet) (values rest : List Value) (base fewer : Base) (index cut : ValueIndex) (n m : ℕ)
    → IndexesChildren bits values base index → AreCutAt n base fewer index cut → rest ≡ take m values → n ≡ length rest
    → IndexesChildren bits rest fewer cut
popped_indexed bits values rest base fewer index cut n m is so e count =
    let counts = cut_count n base fewer so.cut in
    let long : length rest ≡ min m (length values) = ap length e ∙ length-take m values in
    still_indexed bits bits values rest base fewer index cut n is so (omega (arith, long, is.room)) (omega (arith, count, counts.0))
    (ap (take n) e ∙ take-take n m values (omega (arith, count, long))) (λ j h. refl)

-- an index of nothing
pub none_indexed : (bits : BitSet) (values : List Value) (base : Base) (index : ValueIndex) → length values ≤ bits.capacity
    → ((j : ℕ) → j < count_in_base base → finite.contains bits.members j ≡ true) → AreApart base values → Indexes index []
    → IndexesChildren bits values base index
none_indexed bits values base index room there apart e = record {
  room = room;
  there = there;
  apart = apart;
  within = omega (arith, e.count);
  just = subst (λ (n : ℕ). Indexes index (take n values)) (sym e.count) e;
}

-- What it tells.

either_or : (a b c : Bool) → a || (b || c) ≡ (a || b) || c
either_or true b c = refl
either_or false b c = refl

-- the value of a child is `same`: of one of the first, that are there, or of a later one
first_or_later : (bits : BitSet) (i : ℕ) (vs : List Value) (n : ℕ) (v : Val)
    → ((j : ℕ) → i ≤ j → j < i + n → finite.contains bits.members j ≡ true)
    → has_same_cell v (cells_of bits i vs) ≡ (is_there v (vals_view (take n vs)) || has_same_cell v (drop n (cells_of bits i vs)))
first_or_later bits i [] zero v all = refl
first_or_later bits i [] (suc n) v all = refl
first_or_later bits i (w ∷ vs) zero v all = refl
first_or_later bits i (w ∷ vs) (suc n) v all =
    ap (λ (b : Bool). is_same_cell v (cell b (view w)) || has_same_cell v (cells_of bits (suc i) vs)) (all i (omega arith) (omega arith))
    ∙ ap (λ (b : Bool). same (view w) v || b) (first_or_later bits (suc i) vs n v (λ j h k. all j (omega arith) (omega arith)))
    ∙ either_or (same (view w) v) (is_there v (vals_view (take n vs))) (has_same_cell v (drop n (cells_of bits (suc i) vs)))

there_append : (v : Val) (vs ws : List Value) → is_there v (vals_view (vs ++ ws)) ≡ (is_there v (vals_view vs) || is_there v (vals_view ws))
there_append v [] ws = refl
there_append v (w ∷ vs) ws =
    ap (λ (b : Bool). same (view w) v || b) (there_append v vs ws)
    ∙ either_or (same (view w) v) (is_there v (vals_view vs)) (is_there v (vals_view ws))

abbrev pub there_of : Val → List Value → Bool
there_of v vs = is_there v (vals_view vs)

-- it is so of one that the index has, of a later one of the base, or of one behind
module _ (bits : BitSet) (values : List Value) (base : Base) (index : ValueIndex) (cs : List Cell) (v : Val) (i n : ℕ)
    (is : IndexesChildren bits values base index) (seen : cells_of bits 0 values ≡ cs) (indexed : i ≡ index.len) (count : n ≡ count_in_base base) where
  parted : has_same_cell v cs ≡ (there_of v (take i values) || (there_of v (slice_range values i n) || has_same_cell v (drop n cs)))
  parted =
      subst (λ (ds : List Cell). has_same_cell v ds ≡ (there_of v (take n values) || has_same_cell v (drop n ds))) seen
      (first_or_later bits 0 values n v (λ j h k. is.there j (omega (arith, k, count))))
      ∙ ap (λ (b : Bool). b || has_same_cell v (drop n cs)) (ap (there_of v) (sym (take-append-drop i (take n values)))
      ∙ there_append v (take i (take n values)) (drop i (take n values))
      ∙ (λ j. there_of v (take-take i n values (omega (arith, indexed, count, is.within)) j) || there_of v (sym (between_is values i n) j)))
      ∙ sym (either_or (there_of v (take i values)) (there_of v (slice_range values i n)) (has_same_cell v (drop n cs)))

  pub found_first : there_of v (take i values) ≡ true → has_same_cell v cs ≡ true
  found_first e = parted ∙ ap (λ (b : Bool). b || (there_of v (slice_range values i n) || has_same_cell v (drop n cs))) e

  pub found_between : there_of v (take i values) ≡ false → there_of v (slice_range values i n) ≡ true → has_same_cell v cs ≡ true
  found_between e f = parted ∙ (λ j. e j || (f j || has_same_cell v (drop n cs)))

  pub found_behind : there_of v (take i values) ≡ false → there_of v (slice_range values i n) ≡ false → has_same_cell v cs ≡ has_same_cell v (drop n cs)
  found_behind e f = parted ∙ (λ j. e j || (f j || has_same_cell v (drop n cs)))

-- One more item.

-- no value before it is `same` as what is put there
apart_before : (bits : BitSet) (k n : ℕ) (vs : List Value) (cs : List Cell) (c : Cell) (v : Val) → cells_of bits k vs ≡ set cs n c
    → ((j : ℕ) → k ≤ j → j < k + n → finite.contains bits.members j ≡ true) → has_same_cell v cs ≡ false
    → is_there v (vals_view (take n vs)) ≡ false
apart_before bits k zero vs cs c v seen all e = refl
apart_before bits k (suc n) [] cs c v seen all e = refl
apart_before bits k (suc n) (w ∷ vs) [] c v seen all e = cc
apart_before bits k (suc n) (w ∷ vs) (d ∷ cs) c v seen all e =
    let here : cell (finite.contains bits.members k) (view w) ≡ d = ap (λ (l : List Cell). get_or l 0 d) seen in
    let is : given (view w) ≡ d = sym (ap (λ (b : Bool). cell b (view w)) (all k (omega arith) (omega arith))) ∙ here in
    let both = neither (is_same_cell v d) (has_same_cell v cs) e in
    let new : same (view w) v ≡ false = ap (is_same_cell v) is ∙ both.0 in
    let others = apart_before bits (suc k) n vs cs c v (ap (drop 1) seen) (λ j h l. all j (omega arith) (omega arith)) both.1 in
    λ j. new j || others j

-- a child that is there is given, with this value
is_given : (b : Bool) (v w : Val) → cell b w ≡ given v → (b ≡ true) × (w ≡ v)
is_given true v w e = (refl, cc)
is_given false v w e = let no : None ≡ Some v = sym (in_slot_no_value w) ∙ ap value_of_cell e in cc

pub grown_indexed : (bits : BitSet) (values : List Value) (base grown : Base) (index : ValueIndex) (cs : List Cell) (v : Val) (i : ℕ)
    → IndexesChildren bits values base index → IsGrown i base grown → i < length cs → cells_of bits 0 values ≡ set cs i (given v)
    → has_same_cell v cs ≡ false → IndexesChildren bits values grown index
grown_indexed bits values base grown index cs v i is (inl same) inside seen e = subst (λ (b : Base). IndexesChildren bits values b index) (sym same) is
grown_indexed bits values base grown index cs v i is (inr more) inside seen e =
    subst (λ (b : Base). IndexesChildren bits values b index) (sym more.1) (record {
      room = is.room;
      there = there;
      apart = one_more_apart i values x.0 within x.1 (ap (λ (u : Val). is_there u (vals_view (take i values))) told.1
          ∙ apart_before bits 0 i values cs (given v) v seen (λ j h l. before j (omega arith)) e) were.apart;
      within = omega (arith, were.within);
      just = were.just;
    })
  where
    were : IndexesChildren bits values (Base.Items i) index
    were = subst (λ (b : Base). IndexesChildren bits values b index) more.0 is

    before : (j : ℕ) → j < i → finite.contains bits.members j ≡ true
    before j h = were.there j h

    within : i < length values
    within = omega (arith, inside, sym (cells_length bits 0 values) ∙ ap length seen ∙ length-set cs i (given v))

    x : (x : Value) × (slice_get values i ≡ Some x)
    x = element values i within

    told : (finite.contains bits.members (0 + i) ≡ true) × (view x.0 ≡ v)
    told =
        let was = element cs i inside in
        is_given (finite.contains bits.members (0 + i)) v (view x.0)
        (same_Some (cell (finite.contains bits.members (0 + i)) (view x.0)) (given v) (sym (cells_get bits 0 values i
        ∙ ap (option_map (λ (w : Value). cell (finite.contains bits.members (0 + i)) (view w))) x.1)
        ∙ ap (λ (l : List Cell). slice_get l i) seen ∙ set_gets cs i was.0 (given v) was.1))

    there : (j : ℕ) → j < i + 1 → finite.contains bits.members j ≡ true
    there j h = ⊎_elim (before j) (λ behind. let this : j ≡ 0 + i = omega (arith, behind, h) in
        ap (finite.contains bits.members) this ∙ told.0) (cases_lt j i)
