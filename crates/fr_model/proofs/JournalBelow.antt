-- A journal as one child of a place sees it, with places counted from that child on.
use Rattle.std.proofs.Common.{◌≡◌, ◌-◌, ◌≤◌, ◌==◌, if◌then◌else◌, ◌∷◌, ◌++◌}
use Rattle.fr_model.proofs.Common.{ℕ, zero, suc, Bool, true, false, [], Option, refl, ◌∙◌, ap, ap₂, arith, Table, def_of, Val, Vals, Place, Column, child_shape, part, part_at, one_more, product_of, each_child, fill_at, Note, entered_at, wrote_at, Journal, beside, standing, Held, in_parts, written, just_entered, untouched, after_write, at_least_entered, after_entry, held, longest, entered_value, by_held, by_parts, child_makes, completes_within}

-- the notes that bear on child i: those at it or beneath it, and what was written above it
abbrev pub down : ℕ → Journal → Journal
down i [] = []
down i (entered_at [] ∷ notes) = down i notes
down i (entered_at (j ∷ place) ∷ notes) = if j == i then entered_at place ∷ down i notes else down i notes
down i (wrote_at [] v ∷ notes) = wrote_at [] (part v i) ∷ down i notes
down i (wrote_at (j ∷ place) v ∷ notes) = if j == i then wrote_at place v ∷ down i notes else down i notes

-- the same for the place that this way leads to
abbrev pub along : Place → Journal → Journal
along [] notes = notes
along (i ∷ here) notes = along here (down i notes)

pub held_down : (i : ℕ) (notes : Journal) (here : Place) → held notes (i ∷ here) ≡ held (down i notes) here
held_down i [] here = refl
held_down i (entered_at [] ∷ notes) here = held_down i notes here
held_down i (entered_at (j ∷ place) ∷ notes) here =
    elim (j == i) as (λ b. after_entry (if b then standing place here else beside) (held notes (i ∷ here))
    ≡ held (if b then entered_at place ∷ down i notes else down i notes) here) [
      | true ↦ ap (after_entry _) (held_down i notes here)
      | false ↦ held_down i notes here
    ]
held_down i (wrote_at [] v ∷ notes) here = refl
held_down i (wrote_at (j ∷ place) v ∷ notes) here =
    elim (j == i) as (λ b. after_write v (if b then standing place here else beside) (held notes (i ∷ here))
    ≡ held (if b then wrote_at place v ∷ down i notes else down i notes) here) [
      | true ↦ ap (after_write v _) (held_down i notes here)
      | false ↦ held_down i notes here
    ]

-- completing

pub each_same : (f g : ℕ → Option Val) (count i : ℕ) → ((k : ℕ) → f k ≡ g k) → each_child f count i ≡ each_child g count i
each_same f g zero i same = refl
each_same f g (suc count) i same = ap₂ one_more (same i) (each_same f g count (suc i) same)

-- the value of child k of a place of shape s
abbrev pub child_value : Column → Table → ℕ → Journal → ℕ → Place → ℕ → Option Val
child_value column table steps notes s here k =
    child_makes (held notes (here ++ k ∷ [])) (fill_at column table s k)
    (completes_within column table steps notes (child_shape table s k) (here ++ k ∷ []))

pub completes_down : (column : Column) (table : Table) (steps : ℕ) (notes : Journal) (s i : ℕ) (here : Place)
    → completes_within column table steps notes s (i ∷ here) ≡ completes_within column table steps (down i notes) s here
completes_down column table zero notes s i here = refl
completes_down column table (suc steps) notes s i here =
    ap₂ (λ (h : Held) (parts : Option Val). by_held h parts (entered_value column table s)) (held_down i notes here)
    (ap (λ (values : Option Vals). by_parts (def_of table s) (product_of values)) (each_same _ _
    _ 0 (λ k. ap₂ (λ (h : Held) (own : Option Val). child_makes h (fill_at column table s k) own)
    (held_down i notes (here ++ k ∷ [])) (completes_down column table steps notes (child_shape table s k) i (here ++ k ∷ [])))))

pub completes_along : (column : Column) (table : Table) (steps : ℕ) (notes : Journal) (s : ℕ) (here : Place)
    → completes_within column table steps notes s here ≡ completes_within column table steps (along here notes) s []
completes_along column table steps notes s [] = refl
completes_along column table steps notes s (i ∷ here) =
    completes_down column table steps notes s i here ∙ completes_along column table steps (down i notes) s here

pub held_along : (notes : Journal) (here : Place) → held notes here ≡ held (along here notes) []
held_along notes [] = refl
held_along notes (i ∷ here) = held_down i notes here ∙ held_along (down i notes) here

-- how far a journal reaches

longest_or : (b : Bool) (note : Note) (notes : Journal) (most : ℕ) → longest (note ∷ notes) ≤ most → longest notes ≤ most
    → longest (if b then note ∷ notes else notes) ≤ most
longest_or true note notes most more fewer = more
longest_or false note notes most more fewer = fewer

pub longest_down : (i : ℕ) (notes : Journal) → longest (down i notes) ≤ longest notes - 1
longest_down i [] = omega arith
longest_down i (entered_at [] ∷ notes) = let rest = longest_down i notes in omega arith
longest_down i (entered_at (j ∷ place) ∷ notes) =
    let rest = longest_down i notes in longest_or (j == i) (entered_at place) (down i notes) _ (omega arith) (omega arith)
longest_down i (wrote_at [] v ∷ notes) = let rest = longest_down i notes in omega arith
longest_down i (wrote_at (j ∷ place) v ∷ notes) =
    let rest = longest_down i notes in longest_or (j == i) (wrote_at place v) (down i notes) _ (omega arith) (omega arith)

pub longest_along : (here : Place) (notes : Journal) → longest (along here notes) ≤ longest notes
longest_along [] notes = omega arith
longest_along (i ∷ here) notes =
    let below = longest_along here (down i notes) in let once = longest_down i notes in omega arith

least_parts : (h : Held) → at_least_entered h ≡ in_parts → h ≡ in_parts
least_parts untouched e = cc
least_parts _ e = e

pub parts_long : (notes : Journal) → held notes [] ≡ in_parts → 1 ≤ longest notes
parts_long [] e = cc
parts_long (entered_at [] ∷ notes) e =
    let rest = parts_long notes (least_parts (held notes []) e) in omega arith
parts_long (entered_at (j ∷ place) ∷ notes) e = omega arith
parts_long (wrote_at [] v ∷ notes) e = cc
parts_long (wrote_at (j ∷ place) v ∷ notes) e = omega arith

-- what a place that has no parts says of the places beneath

abbrev pub IsLow : Held → Type 0
IsLow untouched = Unit {0}
IsLow just_entered = Unit {0}
IsLow _ = ⊥

least_low : (h : Held) → IsLow (at_least_entered h) → IsLow h
least_low untouched low = tt
least_low _ low = low

pub untouched_below : (i : ℕ) (notes : Journal) (here : Place) → IsLow (held notes []) → held notes (i ∷ here) ≡ untouched
untouched_below i [] here low = refl
untouched_below i (entered_at [] ∷ notes) here low = untouched_below i notes here (least_low (held notes []) low)
untouched_below i (entered_at (j ∷ place) ∷ notes) here low = absurd low
untouched_below i (wrote_at [] v ∷ notes) here low = absurd low
untouched_below i (wrote_at (j ∷ place) v ∷ notes) here low = absurd low

least_written : (h : Held) (v : Val) → at_least_entered h ≡ written v → h ≡ written v
least_written untouched v e = cc
least_written _ v e = e

pub written_below : (i : ℕ) (notes : Journal) (here : Place) (v : Val) → held notes [] ≡ written v
    → held notes (i ∷ here) ≡ written (part_at (part v i) here)
written_below i [] here v e = cc
written_below i (entered_at [] ∷ notes) here v e = written_below i notes here v (least_written (held notes []) v e)
written_below i (entered_at (j ∷ place) ∷ notes) here v e = cc
written_below i (wrote_at [] u ∷ notes) here v e =
    let same : u ≡ v = cc in ap (λ (w : Val). written (part_at (part w i) here)) same
written_below i (wrote_at (j ∷ place) u ∷ notes) here v e = cc
