-- Children side by side: what a change of one value or of one bit does to the list that contracts see.
use Rattle.std.proofs.Common.{◌≡◌, ◌≢◌, ◌⊎◌, ℕ, zero, suc, ◌+◌, ◌<◌, ◌≤◌, Bool, true, false, List, [], ◌∷◌, ◌++◌, length, map, replicate, Option, Some, None, IsSome, slice_get, slice_index, set, length-set, option_map, inl, inr, refl, sym, ◌∙◌, ap, subst, arith, ◌&&◌, ◌||◌, ◌↔◌}
use Rattle.std.specs.FinSet as finite
use Rattle.fr_values.specs.Common.{All, BitSet, Cell, Room, Room_fewer, Room_risen, Room_same, RoseBy, Val, Vals, Value, absent, both, cell, cell_occurs, cells_occur, cells_of, cells_of_vals, first, given, in_slot, is_some, no_vals, occurs, one_more, option_and_then, placed, slot_in_cells, slot_of_cell, unit, vals_occur, vals_view, value_at, value_occurs, value_of_cell, values_of, view}
use Rattle.std.specs.Prelude.{not, ◌==◌, IsTrue, get_or}
use Rattle.std.proofs.lemmas.Grind.{common_steps}
use Rattle.std.proofs.lemmas.Bool.Decides.{nat_tests}
use Rattle.std.proofs.lemmas.List.Elements.{All-head, All-tail}
use Rattle.std.proofs.lemmas.Option.{same_Some}
use Rattle.fr_arena.specs.BitSets.{HasAllBelow}
use Rattle.fr_shape.specs.Val.{token}
use Rattle.fr_shape.specs.TokenLaws.{nothing, RoseBy_nothing, RoseBy_same}
use Rattle.fr_values.specs.SliceLaws.{element, got, is_set, number_cases, set_gets, set_keeps}

pub cells_length : (bits : BitSet) (i : ℕ) (vs : List Value) → length (cells_of bits i vs) ≡ length vs
cells_length bits i [] = refl
cells_length bits i (v ∷ vs) = ap suc (cells_length bits (suc i) vs)

-- the child of a number
pub cells_get : (bits : BitSet) (i : ℕ) (vs : List Value) (k : ℕ)
    → slice_get (cells_of bits i vs) k ≡ option_map (λ (v : Value). cell (finite.contains bits.members (i + k)) (view v)) (slice_get vs k)
cells_get bits i [] k = refl
cells_get bits i (v ∷ vs) zero =
    let here : i ≡ i + 0 = omega arith in
    ap (λ (n : ℕ). Some (cell (finite.contains bits.members n) (view v))) here
cells_get bits i (v ∷ vs) (suc k) =
    let here : suc i + k ≡ i + suc k = omega arith in
    cells_get bits (suc i) vs k
    ∙ ap (λ (n : ℕ). option_map (λ (x : Value). cell (finite.contains bits.members n) (view x)) (slice_get vs k)) here

-- none there
pub cells_absent : (bits : BitSet) (i : ℕ) (vs : List Value)
    → ((j : ℕ) → finite.contains bits.members j ≡ false) → All (λ (v : Value). view v ≡ unit) vs
    → cells_of bits i vs ≡ replicate (length vs) absent
cells_absent bits i [] clear gone = refl
cells_absent bits i (v ∷ vs) clear gone =
    let here : view v ≡ unit = All-head (λ (x : Value). view x ≡ unit) v vs gone in
    let rest = cells_absent bits (suc i) vs clear (All-tail (λ (x : Value). view x ≡ unit) v vs gone) in
    λ j. cell (clear i j) (here j) ∷ rest j

-- all there
pub cells_given : (bits : BitSet) (i : ℕ) (vs : List Value)
    → ((j : ℕ) → i ≤ j → j < i + length vs → finite.contains bits.members j ≡ true)
    → cells_of bits i vs ≡ map (λ (v : Value). given (view v)) vs
cells_given bits i [] full = refl
cells_given bits i (v ∷ vs) full =
    let here = full i (omega arith) (omega arith) in
    let rest = cells_given bits (suc i) vs (λ j h k. full j (omega arith) (omega arith)) in
    λ j. cell (here j) (view v) ∷ rest j

pub in_slot_no_value : (v : Val) → value_of_cell (in_slot v) ≡ None
in_slot_no_value (token n) = refl
in_slot_no_value _ = refl

-- bits

pub bit_set : (i j : ℕ) (old : Bool) → j ≢ i → (j == i || old) ≡ old
bit_set i j old ne = grind (arith, common_steps, nat_tests)

pub bit_set_here : (i : ℕ) (old : Bool) → (i == i || old) ≡ true
bit_set_here i old = grind (arith, common_steps, nat_tests)

pub bit_unset : (i j : ℕ) (old : Bool) → j ≢ i → (not (j == i) && old) ≡ old
bit_unset i j old ne = grind (arith, common_steps, nat_tests)

bit_unset_here : (i : ℕ) (old : Bool) → (not (i == i) && old) ≡ false
bit_unset_here i old = grind (arith, common_steps, nat_tests)

-- The same of what contracts see.
module _ (bits : BitSet) (vs : List Value) (cs : List Cell) (seen : cells_of bits 0 vs ≡ cs) where
  pub same_length : length cs ≡ length vs
  same_length = sym (ap length seen) ∙ cells_length bits 0 vs

  pub has_room : (k : ℕ) → length vs ≤ bits.capacity → k < length cs → k < bits.capacity
  has_room k room h = omega (arith, same_length)

  cell_at : (k : ℕ) → slice_get cs k ≡ option_map (λ (v : Value). cell (finite.contains bits.members k) (view v)) (slice_get vs k)
  cell_at k =
      let here : 0 + k ≡ k = omega arith in
      ap (λ (ds : List Cell). slice_get ds k) (sym seen) ∙ cells_get bits 0 vs k
      ∙ ap (λ (n : ℕ). option_map (λ (v : Value). cell (finite.contains bits.members n) (view v)) (slice_get vs k)) here

  -- what a child is, by its bit and by what is stored for it
  module _ (k : ℕ) (v : Value) (inside : k < length cs) (is : v ≡ get_or vs k v) where
    cell_is : (b : Bool) → finite.contains bits.members k ≡ b → slice_get cs k ≡ Some (cell b (view v))
    cell_is b bit =
        cell_at k ∙ ap (option_map (λ (x : Value). cell (finite.contains bits.members k) (view x))) (got vs k v (omega (arith, same_length)) is)
        ∙ ap (λ (c : Bool). Some (cell c (view v))) bit

    pub value_here : finite.contains bits.members k ≡ true → Some (view v) ≡ value_at cs k
    value_here bit = sym (ap (option_and_then value_of_cell) (cell_is true bit))

    pub slot_here : finite.contains bits.members k ≡ false → slot_of_cell (in_slot (view v)) ≡ slot_in_cells cs k
    slot_here bit = sym (ap (option_and_then slot_of_cell) (cell_is false bit))

  pub no_value_at : (k : ℕ) → finite.contains bits.members k ≡ false → None ≡ value_at cs k
  no_value_at k bit = sym (ap (option_and_then value_of_cell) (cell_at k) ∙ rw bit (none (slice_get vs k)))
    where
      none : (found : Option Value) → option_and_then value_of_cell (option_map (λ (v : Value). in_slot (view v)) found) ≡ None
      none (Some v) = in_slot_no_value (view v)
      none None = refl

  pub no_slot_at : (k : ℕ) → finite.contains bits.members k ≡ true → None ≡ slot_in_cells cs k
  no_slot_at k bit = sym (ap (option_and_then slot_of_cell) (cell_at k) ∙ rw bit (none (slice_get vs k)))
    where
      none : (found : Option Value) → option_and_then slot_of_cell (option_map (λ (v : Value). given (view v)) found) ≡ None
      none (Some v) = refl
      none None = refl

  -- one child changed
  module _ (other : BitSet) (k : ℕ) (v : Value) (c : Cell) (inside : k < length cs) where
    pub cells_put : ((j : ℕ) → j ≢ k → finite.contains other.members j ≡ finite.contains bits.members j)
        → cell (finite.contains other.members k) (view v) ≡ c → cells_of other 0 (set vs k v) ≡ set cs k c
    cells_put same is =
        let was : (d : Cell) × (slice_get cs k ≡ Some d) = element cs k inside in
        let stored : (x : Value) × (slice_get vs k ≡ Some x) = element vs k (omega (arith, same_length)) in
        is_set (cells_of other 0 (set vs k v)) cs k was.0 c was.1
        (changed k ∙ ap (option_map (λ (x : Value). cell (finite.contains other.members k) (view x))) (set_gets vs k stored.0 v stored.1)
        ∙ ap (λ (d : Cell). Some d) is)
        (λ j ne. changed j ∙ (λ i. option_map (λ (x : Value). cell (same j ne i) (view x)) (set_keeps vs k v j ne i)) ∙ sym (cell_at j))
      where
        changed : (j : ℕ) → slice_get (cells_of other 0 (set vs k v)) j
            ≡ option_map (λ (x : Value). cell (finite.contains other.members j) (view x)) (slice_get (set vs k v) j)
        changed j =
            let here : 0 + j ≡ j = omega arith in
            cells_get other 0 (set vs k v) j
            ∙ ap (λ (n : ℕ). option_map (λ (x : Value). cell (finite.contains other.members n) (view x)) (slice_get (set vs k v) j)) here

    -- whose bit is unset
    pub cells_unset : ((j : ℕ) → finite.contains other.members j ≡ (not (j == k) && finite.contains bits.members j)) → in_slot (view v) ≡ c
        → cells_of other 0 (set vs k v) ≡ set cs k c
    cells_unset unset is =
        cells_put (λ j ne. unset j ∙ bit_unset k j (finite.contains bits.members j) ne)
        (ap (λ (b : Bool). cell b (view v)) (unset k ∙ bit_unset_here k (finite.contains bits.members k)) ∙ is)

-- Whether all are there.

pub none_more : (o : Option Val) → one_more o None ≡ None
none_more (Some v) = refl
none_more None = refl

-- all of these bits are set, and all values are there; or one bit isn't set, and a value is missing
abbrev AllOrNot : BitSet → ℕ → List Value → Type 0
AllOrNot bits i vs =
    (((j : ℕ) → i ≤ j → j < i + length vs → finite.contains bits.members j ≡ true) × (values_of (cells_of bits i vs) ≡ Some (vals_view vs)))
    ⊎ (((j : ℕ) × (i ≤ j) × (j < i + length vs) × (finite.contains bits.members j ≡ false)) × (values_of (cells_of bits i vs) ≡ None))

all_or_not : (bits : BitSet) (i : ℕ) (vs : List Value) → AllOrNot bits i vs
all_or_not bits i [] = inl (λ j l h. absurd (omega arith), refl)
all_or_not bits i (v ∷ vs) = go (finite.contains bits.members i) refl (all_or_not bits (suc i) vs)
  where
    go : (b : Bool) → finite.contains bits.members i ≡ b → AllOrNot bits (suc i) vs → AllOrNot bits i (v ∷ vs)
    go false e rest = inr ((i, omega arith, omega arith, e), rw (e, in_slot_no_value) refl)
    go true e (inr (one, none)) = inr ((one.0, omega (arith, one.1), omega (arith, one.2), one.3), rw (e, none) refl)
    go true e (inl (all, is)) = inl (bit, rw (e, is) refl)
      where
        bit : (j : ℕ) → i ≤ j → j < i + suc (length vs) → finite.contains bits.members j ≡ true
        bit j low high = elim (number_cases j i) [
          | inl same ↦ ap (finite.contains bits.members) same ∙ e
          | inr other ↦ all j (omega (arith, other)) (omega arith)
        ]

module _ (bits : BitSet) (vs : List Value) (cs : List Cell) (seen : cells_of bits 0 vs ≡ cs) where
  missing : values_of (cells_of bits 0 vs) ≡ None → IsSome (values_of cs) → ⊥
  missing none h = let no : false ≡ true = sym (ap is_some (ap values_of (sym seen) ∙ none)) ∙ h in cc

  -- values that are all there are those that are kept, and all their bits are set
  pub values_are : IsSome (values_of cs) → values_of cs ≡ Some (vals_view vs)
  values_are h = elim (all_or_not bits 0 vs) [ inl all ↦ ap values_of (sym seen) ∙ all.1 | inr some ↦ absurd (missing some.1 h) ]

  pub bits_by : IsSome (values_of cs) → (j : ℕ) → j < length vs → finite.contains bits.members j ≡ true
  bits_by h j high = elim (all_or_not bits 0 vs) [
    | inl all ↦ all.0 j (omega arith) (omega arith)
    | inr some ↦ absurd (missing some.1 h)
  ]

  -- whether all bits below the count are set is whether all values are there
  pub all_set_is : (b : Bool) → (IsTrue b ↔ HasAllBelow (length vs) bits) → b ≡ is_some (values_of cs)
  all_set_is b h = elim (all_or_not bits 0 vs) [
    | inl all ↦ h.1 (λ j k. all.0 j (omega arith) (omega (arith, k))) ∙ sym (ap is_some (ap values_of (sym seen) ∙ all.1))
    | inr some ↦ unset some.0 b h.0 ∙ sym (ap is_some (ap values_of (sym seen) ∙ some.1))
  ]
    where
      unset : (j : ℕ) × (0 ≤ j) × (j < 0 + length vs) × (finite.contains bits.members j ≡ false) → (b : Bool)
          → (IsTrue b → HasAllBelow (length vs) bits) → b ≡ false
      unset one false all = refl
      unset one true all = let no : true ≡ false = sym (all refl one.0 (omega (arith, one.2))) ∙ one.3 in cc

-- children that are all there are what their values say
pub cells_by_values : (cs : List Cell) (vs : List Value) → values_of cs ≡ Some (vals_view vs)
    → cs ≡ map (λ (v : Value). given (view v)) vs
cells_by_values [] [] e = refl
cells_by_values [] (v ∷ vs) e = cc
cells_by_values (given u ∷ cs) vs e = go (values_of cs) refl (λ ws. cells_by_values cs ws) vs e
  where
    go : (rest : Option Vals) → values_of cs ≡ rest
        → ((ws : List Value) → values_of cs ≡ Some (vals_view ws) → cs ≡ map (λ (v : Value). given (view v)) ws)
        → (vs : List Value) → one_more (Some u) rest ≡ Some (vals_view vs) → given u ∷ cs ≡ map (λ (v : Value). given (view v)) vs
    go None is so vs e = let no : None ≡ Some (vals_view vs) = e in cc
    go (Some us) is so [] e = let no : Some (first u us) ≡ Some no_vals = e in cc
    go (Some us) is so (v ∷ vs) e =
        let both_are : Some (first u us) ≡ Some (first (view v) (vals_view vs)) = e in
        let here : u ≡ view v = cc in
        let others : us ≡ vals_view vs = cc in
        let rest = so vs (is ∙ ap (λ (ws : Vals). Some ws) others) in
        λ j. given (here j) ∷ rest j
cells_by_values (_ ∷ cs) vs e = let no : None ≡ Some (vals_view vs) = e in cc

-- Tokens of children.

abbrev pub AreCleared : List Cell → ℕ → Type 0
AreCleared cs n = (k : ℕ) → k < n → (t : ℕ) → value_occurs (value_at cs k) t ≡ 0

pub occur_set : (cs : List Cell) (k : ℕ) (c d : Cell) (t : ℕ) → slice_get cs k ≡ Some c
    → cells_occur (set cs k d) t + cell_occurs c t ≡ cells_occur cs t + cell_occurs d t
occur_set [] k c d t e = cc
occur_set (x ∷ cs) zero c d t e =
    let same : x ≡ c = cc in
    let here : cell_occurs x t ≡ cell_occurs c t = ap (λ (y : Cell). cell_occurs y t) same in
    omega arith
occur_set (x ∷ cs) (suc k) c d t e = omega (arith, occur_set cs k c d t e)

pub cell_value_occurs : (c : Cell) (t : ℕ) → cell_occurs c t ≡ value_occurs (value_of_cell c) t
cell_value_occurs absent t = refl
cell_value_occurs _ t = refl

-- a child whose value is taken
pub occur_taken : (cs : List Cell) (k : ℕ) (d : Cell) (t : ℕ) → k < length cs
    → cells_occur (set cs k d) t + value_occurs (value_at cs k) t ≡ cells_occur cs t + cell_occurs d t
occur_taken cs k d t h =
    let at : (c : Cell) × (slice_get cs k ≡ Some c) = element cs k h in
    let value : value_occurs (value_at cs k) t ≡ cell_occurs at.0 t
    = ap (λ (o : Option Cell). value_occurs (option_and_then value_of_cell o) t) at.1 ∙ sym (cell_value_occurs at.0 t) in
    omega (arith, occur_set cs k at.0 d t at.1)

pub values_occur : (cs : List Cell) (vs : Vals) (t : ℕ) → values_of cs ≡ Some vs → cells_occur cs t ≡ vals_occur vs t
values_occur [] vs t e = let same : no_vals ≡ vs = cc in ap (λ (us : Vals). vals_occur us t) same
values_occur (given v ∷ cs) vs t e = go (values_of cs) refl e (λ us. values_occur cs us t)
  where
    go : (rest : Option Vals) → values_of cs ≡ rest → one_more (Some v) rest ≡ Some vs
        → ((us : Vals) → values_of cs ≡ Some us → cells_occur cs t ≡ vals_occur us t) → occurs v t + cells_occur cs t ≡ vals_occur vs t
    go (Some us) is e more =
        let all : first v us ≡ vs = same_Some (first v us) vs e in
        ap (λ (n : ℕ). occurs v t + n) (more us is) ∙ ap (λ (ws : Vals). vals_occur ws t) all
    go None is e more = let no : None ≡ Some vs = e in cc
values_occur (_ ∷ cs) vs t e = let no : None ≡ Some vs = e in cc

-- nothing is left where all are cleared
pub all_cleared : (cs : List Cell) (t : ℕ) → AreCleared cs (length cs) → cells_occur cs t ≡ 0
all_cleared [] t h = refl
all_cleared (c ∷ cs) t h =
    let here : cell_occurs c t ≡ 0 = cell_value_occurs c t ∙ h 0 (omega arith) t in
    let rest : cells_occur cs t ≡ 0 = all_cleared cs t (λ k l u. h (suc k) (omega arith) u) in
    omega arith

pub cleared_more : (cs : List Cell) (n : ℕ) → n < length cs → AreCleared cs n → AreCleared (set cs n absent) (n + 1)
cleared_more cs n h c k l t = go cs n h k l (c k)
  where
    go : (cs : List Cell) (n : ℕ) → n < length cs → (k : ℕ) → k < n + 1 → (k < n → (u : ℕ) → value_occurs (value_at cs k) u ≡ 0)
        → value_occurs (value_at (set cs n absent) k) t ≡ 0
    go [] n h k l c = absurd (omega arith)
    go (x ∷ cs) zero h zero l c = refl
    go (x ∷ cs) zero h (suc k) l c = absurd (omega arith)
    go (x ∷ cs) (suc n) h zero l c = c (omega arith) t
    go (x ∷ cs) (suc n) h (suc k) l c = go cs n (omega arith) k (omega arith) (λ m u. c (omega arith) u)

-- Releasing one child after the other: those before n are released.
pub record Releasing (all now : List Cell) (before ledger : List ℕ) (n : ℕ) : Type 0 where
  pub count : length now ≡ length all
  pub same_length : length ledger ≡ length before
  pub released : (t : ℕ) → slice_index ledger t + cells_occur now t ≡ slice_index before t + cells_occur all t
  pub room : Room (cells_occur now) ledger
  pub cleared : AreCleared now n

module _ (all now : List Cell) (before ledger : List ℕ) (n : ℕ) (so_far : Releasing all now before ledger n) where
  taken_out : (t : ℕ) → n < length now → cells_occur (set now n absent) t + value_occurs (value_at now n) t ≡ cells_occur now t
  taken_out t h = omega (arith, occur_taken now n absent t h)

  pub releasing_room : (v : Val) → n < length now → Some v ≡ value_at now n → Room (occurs v) ledger
  releasing_room v h e =
      Room_fewer (occurs v) (cells_occur now) ledger
      (λ t. let is : occurs v t ≡ value_occurs (value_at now n) t = ap (λ (o : Option Val). value_occurs o t) e in
      omega (arith, taken_out t h)) so_far.room

  pub releasing_step : (next : List Cell) (after : List ℕ) → n < length now → next ≡ set now n absent
      → RoseBy (value_occurs (value_at now n)) ledger after → Releasing all next before after (n + 1)
  releasing_step next after h e rose =
      subst (λ (cs : List Cell). Releasing all cs before after (n + 1)) (sym e)
      (record {
        count = length-set now n absent ∙ so_far.count;
        same_length = rose.same_length ∙ so_far.same_length;
        released = λ t. omega (arith, taken_out t h, rose.each t, so_far.released t);
        room =
            Room_risen (value_occurs (value_at now n)) (cells_occur (set now n absent)) ledger after
            (Room_same (cells_occur now) (both (value_occurs (value_at now n)) (cells_occur (set now n absent))) ledger
            (λ t. omega (arith, taken_out t h)) so_far.room) rose;
        cleared = cleared_more now n h so_far.cleared;
      })

  pub releasing_ends : length all ≤ n → RoseBy (cells_occur all) before ledger
  releasing_ends h = record {
    same_length = so_far.same_length;
    each = λ t.
        let none : cells_occur now t ≡ 0 = all_cleared now t (λ k l u. so_far.cleared k (omega (arith, so_far.count)) u) in
        omega (arith, so_far.released t);
  }

pub rose_not : (o : Option Val) (ledger : List ℕ) → None ≡ o → RoseBy (value_occurs o) ledger ledger
rose_not o ledger e =
    RoseBy_same nothing (value_occurs o) ledger ledger (λ t. ap (λ (p : Option Val). value_occurs p t) e) (RoseBy_nothing ledger)

pub rose_by : (o : Option Val) (v : Val) (ledger after : List ℕ) → Some v ≡ o → RoseBy (occurs v) ledger after
    → RoseBy (value_occurs o) ledger after
rose_by o v ledger after e rose =
    RoseBy_same (occurs v) (value_occurs o) ledger after (λ t. ap (λ (p : Option Val). value_occurs p t) e) rose

-- the parts of a value as children
pub cells_of_given : (vs : List Value) → cells_of_vals (vals_view vs) ≡ map (λ (v : Value). given (view v)) vs
cells_of_given [] = refl
cells_of_given (v ∷ vs) = ap (λ (cs : List Cell). given (view v) ∷ cs) (cells_of_given vs)

-- One more child behind the others.

cells_more : (bits other : BitSet) (i : ℕ) (vs : List Value) (v : Value) (c : Cell)
    → ((j : ℕ) → j ≢ i + length vs → finite.contains other.members j ≡ finite.contains bits.members j)
    → cell (finite.contains other.members (i + length vs)) (view v) ≡ c
    → cells_of other i (vs ++ v ∷ []) ≡ cells_of bits i vs ++ c ∷ []
cells_more bits other i [] v c same is =
    let here : i ≡ i + 0 = omega arith in
    ap (λ (n : ℕ). cell (finite.contains other.members n) (view v) ∷ []) here ∙ ap (λ (d : Cell). d ∷ []) is
cells_more bits other i (w ∷ vs) v c same is =
    let here : suc i + length vs ≡ i + suc (length vs) = omega arith in
    let bit = same i (let ne : i ≢ i + suc (length vs) = omega arith in ne) in
    let rest = cells_more bits other (suc i) vs v c (λ j h. same j (let ne : j ≢ i + suc (length vs) = omega arith in ne))
    (ap (λ (n : ℕ). cell (finite.contains other.members n) (view v)) here ∙ is) in
    λ j. cell (bit j) (view w) ∷ rest j

pub cells_pushed : (bits wide other : BitSet) (vs : List Value) (cs : List Cell) (v : Value) → cells_of bits 0 vs ≡ cs
    → ((j : ℕ) → finite.contains wide.members j ≡ finite.contains bits.members j)
    → ((j : ℕ) → finite.contains other.members j ≡ (not (j == length vs) && finite.contains wide.members j))
    → in_slot (view v) ≡ absent → cells_of other 0 (vs ++ v ∷ []) ≡ cs ++ absent ∷ []
cells_pushed bits wide other vs cs v e same unset gone =
    let here : 0 + length vs ≡ length vs = omega arith in
    cells_more bits other 0 vs v absent (λ j ne. unset j
    ∙ bit_unset (length vs) j (finite.contains wide.members j) (let other_one : j ≢ length vs = omega arith in other_one)
    ∙ same j) (ap (λ (n : ℕ). cell (finite.contains other.members n) (view v)) here
    ∙ ap (λ (b : Bool). cell b (view v)) (unset (length vs) ∙ bit_unset_here (length vs) (finite.contains wide.members (length vs)))
    ∙ gone) ∙ ap (λ (ds : List Cell). ds ++ absent ∷ []) e

-- the child whose slot is known
pub slot_child : (cs : List Cell) (i n : ℕ) → Some n ≡ slot_in_cells cs i → slice_get cs i ≡ Some (placed n)
slot_child cs i n e = go (slice_get cs i) e
  where
    go : (found : Option Cell) → Some n ≡ option_and_then slot_of_cell found → found ≡ Some (placed n)
    go (Some (placed m)) e = let is : m ≡ n = cc in ap (λ (k : ℕ). Some (placed k)) is
    go None e = cc
    go _ e = cc
