-- A set's children: one that moves behind the others, and the search for a value that is `same`.
use Rattle.std.proofs.Common.{◌≡◌, ◌≢◌, ℕ, zero, suc, ◌+◌, ◌-◌, ◌<◌, ◌≤◌, Bool, true, false, List, [], ◌∷◌, ◌++◌, length, drop, take, Option, Some, None, slice_get, set, refl, sym, ◌∙◌, ap, subst, arith, if◌then◌else◌, ◌||◌}
use Rattle.std.specs.FinSet as finite
use Rattle.fr_values.specs.Common.{BitSet, Cell, Conserved, RoseBy, Val, Value, absent, and_item_cell, cell, cell_occurs, cells_occur, cells_of, given, has_same_cell, is_same_cell, occurs, option_and_then, placed, same, slot_in_cells, slot_of_cell, value_at, value_of_cell, view, without_cell}
use Rattle.fr_values.specs.Cells.{swapped}
use Rattle.fr_values.specs.CellLaws.{same_length}
use Rattle.fr_values.specs.SliceLaws.{element, set_keeps}
use Rattle.fr_values.specs.SliceLaws.{set_as_was}
use Rattle.std.proofs.lemmas.List.{length_push, set_at, take_at}

-- these children with one more, of this number
abbrev pub with_one : (n : ℕ) → Cell → List Cell → List Cell
with_one zero c cs = c ∷ cs
with_one (suc n) c [] = c ∷ []
with_one (suc n) c (d ∷ cs) = d ∷ with_one n c cs

-- which moves back behind the next one
pub one_next : (n : ℕ) (c : Cell) (cs : List Cell) → n < length cs → swapped n (with_one n c cs) ≡ with_one (suc n) c cs
one_next zero c [] h = absurd (omega arith)
one_next zero c (d ∷ cs) h = refl
one_next (suc n) c [] h = absurd (omega arith)
one_next (suc n) c (d ∷ cs) h = ap (λ (l : List Cell). d ∷ l) (one_next n c cs (omega arith))

pub one_length : (n : ℕ) (c : Cell) (cs : List Cell) → length (with_one n c cs) ≡ suc (length cs)
one_length zero c cs = refl
one_length (suc n) c [] = refl
one_length (suc n) c (d ∷ cs) = ap suc (one_length n c cs)

pub one_get : (n : ℕ) (c : Cell) (cs : List Cell) → n ≤ length cs → slice_get (with_one n c cs) n ≡ Some c
one_get zero c cs h = refl
one_get (suc n) c [] h = absurd (omega arith)
one_get (suc n) c (d ∷ cs) h = one_get n c cs (omega arith)

pub one_last : (n : ℕ) (c : Cell) (cs : List Cell) → length cs ≤ n → with_one n c cs ≡ cs ++ c ∷ []
one_last zero c [] h = refl
one_last zero c (d ∷ cs) h = absurd (omega arith)
one_last (suc n) c [] h = refl
one_last (suc n) c (d ∷ cs) h = ap (λ (l : List Cell). d ∷ l) (one_last n c cs (omega arith))

pub one_back : (n : ℕ) (c : Cell) (cs : List Cell) → slice_get cs n ≡ Some c → with_one n c (without_cell n cs) ≡ cs
one_back n c [] e = cc
one_back zero c (d ∷ cs) e = let is : c ≡ d = cc in ap (λ (x : Cell). x ∷ cs) is
one_back (suc n) c (d ∷ cs) e = ap (λ (l : List Cell). d ∷ l) (one_back n c cs e)

pub without_length : (i : ℕ) (cs : List Cell) (c : Cell) → slice_get cs i ≡ Some c → suc (length (without_cell i cs)) ≡ length cs
without_length i [] c e = cc
without_length zero (d ∷ cs) c e = refl
without_length (suc i) (d ∷ cs) c e = ap suc (without_length i cs c e)

cells_taken : (bits : BitSet) (i : ℕ) (vs : List Value) (n : ℕ) → cells_of bits i (take n vs) ≡ take n (cells_of bits i vs)
cells_taken bits i [] zero = refl
cells_taken bits i [] (suc n) = refl
cells_taken bits i (v ∷ vs) zero = refl
cells_taken bits i (v ∷ vs) (suc n) =
    ap (λ (l : List Cell). cell (finite.contains bits.members i) (view v) ∷ l) (cells_taken bits (suc i) vs n)

pub cells_popped : (bits : BitSet) (vs fewer : List Value) (cs rest : List Cell) (last : Cell) (n : ℕ) → cells_of bits 0 vs ≡ cs
    → cs ≡ rest ++ last ∷ [] → n ≡ length vs → fewer ≡ take (n - 1) vs → cells_of bits 0 fewer ≡ rest
cells_popped bits vs fewer cs rest last n e is count popped =
    ap (cells_of bits 0) popped ∙ cells_taken bits 0 vs (n - 1) ∙ ap (take (n - 1)) (e ∙ is) ∙ take_at rest (last ∷ []) (n - 1)
    (omega (arith, count, same_length bits vs cs e, ap length is, length_push rest last))

-- where there are none, there are none then
pub none_popped : (bits : BitSet) (vs fewer : List Value) (cs : List Cell) (n : ℕ) → cells_of bits 0 vs ≡ cs → cs ≡ []
    → fewer ≡ take n vs → cells_of bits 0 fewer ≡ []
none_popped bits [] fewer cs zero e is popped = ap (cells_of bits 0) popped
none_popped bits [] fewer cs (suc n) e is popped = ap (cells_of bits 0) popped
none_popped bits (v ∷ vs) fewer cs n e is popped = let none : cells_of bits 0 (v ∷ vs) ≡ [] = e ∙ is in cc

-- a child that isn't there and the next one

move_given : (cs : List Cell) (i : ℕ) (c : Cell) → slice_get cs i ≡ Some absent → slice_get cs (suc i) ≡ Some c
    → set (set cs (suc i) absent) i c ≡ swapped i cs
move_given [] i c e f = cc
move_given (d ∷ []) zero c e f = cc
move_given (d ∷ x ∷ cs) zero c e f =
    let here : d ≡ absent = cc in
    let next : x ≡ c = cc in
    ap (λ (y : Cell). c ∷ y ∷ cs) (sym here) ∙ ap (λ (y : Cell). y ∷ d ∷ cs) (sym next)
move_given (d ∷ []) (suc i) c e f = cc
move_given (d ∷ x ∷ cs) (suc i) c e f = ap (λ (l : List Cell). d ∷ l) (move_given (x ∷ cs) i c e f)

move_nothing : (cs : List Cell) (i : ℕ) → slice_get cs i ≡ Some absent → slice_get cs (suc i) ≡ Some absent
    → set cs (suc i) absent ≡ swapped i cs
move_nothing cs i e f =
    let other : i ≢ suc i = omega arith in
    sym (set_as_was (set cs (suc i) absent) i absent (set_keeps cs (suc i) absent i other ∙ e)) ∙ move_given cs i absent e f

-- the same of the number of the next one
pub moved_given : (cs : List Cell) (i next : ℕ) (c : Cell) → next ≡ suc i → slice_get cs i ≡ Some absent → slice_get cs next ≡ Some c
    → set (set cs next absent) i c ≡ swapped i cs
moved_given cs i next c is e =
    subst (λ (n : ℕ). slice_get cs n ≡ Some c → set (set cs n absent) i c ≡ swapped i cs) (sym is) (move_given cs i c e)

pub moved_nothing : (cs : List Cell) (i next : ℕ) → next ≡ suc i → slice_get cs i ≡ Some absent → slice_get cs next ≡ Some absent
    → set cs next absent ≡ swapped i cs
moved_nothing cs i next is e =
    subst (λ (n : ℕ). slice_get cs n ≡ Some absent → set cs n absent ≡ swapped i cs) (sym is) (move_nothing cs i e)

-- what a child is whose value is known

pub value_child : (cs : List Cell) (i : ℕ) (v : Val) → Some v ≡ value_at cs i → slice_get cs i ≡ Some (given v)
value_child cs i v e = go (slice_get cs i) e
  where
    go : (found : Option Cell) → Some v ≡ option_and_then value_of_cell found → found ≡ Some (given v)
    go (Some (given u)) e = let is : u ≡ v = cc in ap (λ (x : Val). Some (given x)) is
    go None e = cc
    go _ e = cc

pub no_child : (cs : List Cell) (i : ℕ) → i < length cs → None ≡ slot_in_cells cs i → None ≡ value_at cs i → slice_get cs i ≡ Some absent
no_child cs i h e f =
    let at = element cs i h in
    at.1 ∙ ap (λ (c : Cell). Some c) (go at.0 (e ∙ ap (option_and_then slot_of_cell) at.1) (f ∙ ap (option_and_then value_of_cell) at.1))
  where
    go : (c : Cell) → None ≡ slot_of_cell c → None ≡ value_of_cell c → c ≡ absent
    go absent e f = refl
    go (given v) e f = cc
    go (placed n) e f = cc

-- The search.

pub same_without : (v : Val) (i : ℕ) (cs : List Cell) → slice_get cs i ≡ Some absent
    → has_same_cell v (without_cell i cs) ≡ has_same_cell v cs
same_without v i [] e = refl
same_without v zero (c ∷ cs) e =
    let is : absent ≡ c = cc in
    ap (λ (d : Cell). is_same_cell v d || has_same_cell v cs) is
same_without v (suc i) (c ∷ cs) e = ap (λ (b : Bool). is_same_cell v c || b) (same_without v i cs e)

drop_here : (i : ℕ) (cs : List Cell) (c : Cell) → slice_get cs i ≡ Some c → drop i cs ≡ c ∷ drop (suc i) cs
drop_here i [] c e = cc
drop_here zero (d ∷ cs) c e = let is : d ≡ c = cc in ap (λ (x : Cell). x ∷ cs) is
drop_here (suc i) (d ∷ cs) c e = drop_here i cs c e

same_pushed : (v : Val) (cs : List Cell) → has_same_cell v (cs ++ absent ∷ []) ≡ has_same_cell v cs
same_pushed v [] = refl
same_pushed v (c ∷ cs) = ap (λ (b : Bool). is_same_cell v c || b) (same_pushed v cs)

-- moving a child that isn't there to the end changes nothing of that
pub same_moved : (v : Val) (i : ℕ) (cs moved : List Cell) → slice_get cs i ≡ Some absent → moved ≡ without_cell i cs ++ absent ∷ []
    → has_same_cell v moved ≡ has_same_cell v cs
same_moved v i cs moved e is = ap (has_same_cell v) is ∙ same_pushed v (without_cell i cs) ∙ same_without v i cs e

pub next_number : (i : ℕ) → suc i ≡ i + 1
next_number i = omega arith

pub value_same : (v u : Val) (cs : List Cell) (i : ℕ) (c : Cell) → Some u ≡ value_at cs i → slice_get cs i ≡ Some c
    → same u v ≡ is_same_cell v c
value_same v u cs i c e g =
    let so : Some (given u) ≡ Some c = sym (value_child cs i u e) ∙ g in
    let is : given u ≡ c = cc in
    ap (is_same_cell v) is

pub none_same : (v : Val) (cs : List Cell) (i : ℕ) (c : Cell) → None ≡ value_at cs i → slice_get cs i ≡ Some c → false ≡ is_same_cell v c
none_same v cs i (given u) e g = let no : None ≡ Some u = e ∙ ap (option_and_then value_of_cell) g in cc
none_same v cs i _ e g = refl

pub same_here : (v : Val) (cs : List Cell) (i : ℕ) (b : Bool) → i < length cs
    → ((c : Cell) → slice_get cs i ≡ Some c → b ≡ is_same_cell v c) → b ≡ true → has_same_cell v (drop i cs) ≡ true
same_here v cs i b h is so =
    let at : (c : Cell) × (slice_get cs i ≡ Some c) = element cs i h in
    ap (has_same_cell v) (drop_here i cs at.0 at.1)
    ∙ ap (λ (d : Bool). d || has_same_cell v (drop (suc i) cs)) (sym (is at.0 at.1) ∙ so)

pub same_later : (v : Val) (cs : List Cell) (i : ℕ) (b : Bool) → i < length cs
    → ((c : Cell) → slice_get cs i ≡ Some c → b ≡ is_same_cell v c) → b ≡ false
    → has_same_cell v (drop i cs) ≡ has_same_cell v (drop (i + 1) cs)
same_later v cs i b h is so =
    let at : (c : Cell) × (slice_get cs i ≡ Some c) = element cs i h in
    ap (has_same_cell v) (drop_here i cs at.0 at.1)
    ∙ ap (λ (d : Bool). d || has_same_cell v (drop (suc i) cs)) (sym (is at.0 at.1) ∙ so)
    ∙ ap (λ (k : ℕ). has_same_cell v (drop k cs)) (next_number i)

-- What comes of it, and its tokens.

pub there_already : (v : Val) (i : ℕ) (cs : List Cell) → slice_get cs i ≡ Some absent → has_same_cell v cs ≡ true
    → without_cell i cs ≡ and_item_cell (without_cell i cs) v
there_already v i cs e is =
    ap (λ (b : Bool). if b then without_cell i cs else without_cell i cs ++ given v ∷ []) (sym (same_without v i cs e ∙ is))

pub comes_last : (v : Val) (i : ℕ) (cs moved : List Cell) (last : ℕ) → slice_get cs i ≡ Some absent → has_same_cell v cs ≡ false
    → moved ≡ without_cell i cs ++ absent ∷ [] → last ≡ length (without_cell i cs)
    → set moved last (given v) ≡ and_item_cell (without_cell i cs) v
comes_last v i cs moved last e is moved_is last_is =
    ap (λ (l : List Cell). set l last (given v)) moved_is
    ∙ ap (λ (k : ℕ). set (without_cell i cs ++ absent ∷ []) k (given v)) last_is ∙ set_at (without_cell i cs) absent [] (given v) (length (without_cell i cs)) refl
    ∙ ap (λ (b : Bool). if b then without_cell i cs else without_cell i cs ++ given v ∷ []) (sym (same_without v i cs e ∙ is))

without_occurs : (i : ℕ) (cs : List Cell) (t : ℕ) → slice_get cs i ≡ Some absent → cells_occur (without_cell i cs) t ≡ cells_occur cs t
without_occurs i [] t e = refl
without_occurs zero (c ∷ cs) t e =
    let is : absent ≡ c = cc in
    let none : 0 ≡ cell_occurs c t = ap (λ (d : Cell). cell_occurs d t) is in
    omega (arith, none)
without_occurs (suc i) (c ∷ cs) t e = ap (λ (n : ℕ). cell_occurs c t + n) (without_occurs i cs t e)

last_occurs : (cs : List Cell) (v : Val) (t : ℕ) → cells_occur (cs ++ given v ∷ []) t ≡ cells_occur cs t + occurs v t
last_occurs [] v t = omega arith
last_occurs (c ∷ cs) v t = omega (arith, last_occurs cs v t)

pub item_released : (v : Val) (i : ℕ) (cs new : List Cell) (before after : List ℕ) → slice_get cs i ≡ Some absent
    → new ≡ without_cell i cs → RoseBy (occurs v) before after
    → Conserved (λ t. cells_occur cs t + occurs v t) before (cells_occur new) after
item_released v i cs new before after e is rose = record {
  same_length = rose.same_length;
  kept_or_released = λ t. omega (arith, rose.each t, without_occurs i cs t e, ap (λ (l : List Cell). cells_occur l t) is);
  none_falls = λ t. omega (arith, rose.each t);
}

pub item_kept : (v : Val) (i : ℕ) (cs new : List Cell) (ledger : List ℕ) → slice_get cs i ≡ Some absent
    → new ≡ without_cell i cs ++ given v ∷ [] → Conserved (λ t. cells_occur cs t + occurs v t) ledger (cells_occur new) ledger
item_kept v i cs new ledger e is = record {
  same_length = refl;
  kept_or_released = λ t.
      omega (
        arith,
        without_occurs i cs t e,
        last_occurs (without_cell i cs) v t,
        ap (λ (l : List Cell). cells_occur l t) is,
      );
  none_falls = λ t. omega arith;
}

pub comes_behind : (v : Val) (i : ℕ) (cs new : List Cell) → slice_get cs i ≡ Some absent → has_same_cell v cs ≡ false
    → new ≡ and_item_cell (without_cell i cs) v → new ≡ without_cell i cs ++ given v ∷ []
comes_behind v i cs new e is new_is =
    new_is ∙ ap (λ (b : Bool). if b then without_cell i cs else without_cell i cs ++ given v ∷ []) (same_without v i cs e ∙ is)
