-- A generated script runs to a value, by its journal.
use Rattle.std.proofs.Common.{◌≡◌, ℕ, zero, suc, ◌+◌, ◌-◌, ◌<◌, ◌≤◌, ◌==◌, ◌&&◌, Bool, true, false, cond, max, List, [], ◌∷◌, ◌++◌, Option, Some, None, length, refl, ap, sym, ◌∙◌, subst, arith, eqb-true, append_assoc, if◌then◌else◌}
use Rattle.std.proofs.Math.Nat.{mod-lt}
use Rattle.fr_shape.specs.Val.{Val, Vals, nat, token, product, no_vals, first}
use Rattle.fr_model.specs.Commands.{Call}
use Rattle.fr_model.specs.Tree.{deferred, strict}
use Rattle.fr_model.specs.Places.{part_at, Column, strict_column, deferred_column, child_shape, fill_at, one_more, product_of}
use Rattle.fr_model.specs.Journal.{Note, entered_at, wrote_at, Journal, Progress, rules, rule, Held, untouched, written, in_parts, held, standing, after_write, after_entry, covers, beneath, beside, longest, journal_run, outcome, initial_progress, child_makes, by_held, completes_within, both_notes, each_notes, writing, finish_notes, then_rules, finishes_with, just_entered}
use Rattle.fr_script.specs.Generator.{grid_table, grid, change, steps, step_calls, cell_of, field_of, put_in, last_changes, generated, latest, cell_value, value_of_cell, grid_value}

-- a run at the root, in deferred mode from there
abbrev pub at_root : Journal → Progress
at_root notes = record { notes = notes; cursor = []; mode = deferred 0 }

-- what a change notes, newest first
abbrev pub change_notes : (cell field : ℕ) → Val → Journal → Journal
change_notes cell field v notes =
    wrote_at (cell ∷ field ∷ []) v ∷ entered_at (cell ∷ field ∷ []) ∷ entered_at (cell ∷ []) ∷ notes

abbrev pub shape_in : (field : ℕ) → ℕ
shape_in field = if field == 2 then 1 else 0

abbrev pub value_in : (field step : ℕ) → Val
value_in field step = if field == 2 then token (step - 1) else nat step

-- a change of the grid goes on at the root, with what it notes
abbrev ChangeGoesOn : (cell field : ℕ) → Type 0
ChangeGoesOn cell field =
    (v : Val) (notes : Journal) (rest : List Call)
    → rules grid_table grid (at_root notes) (change cell field (Call.Set (shape_in field) v) ++ rest)
    ≡ rules grid_table grid (at_root (change_notes cell field v notes)) rest

below_three : (P : ℕ → Type 0) → P 0 → P 1 → P 2 → (n : ℕ) → n < 3 → P n
below_three P a b c zero h = a
below_three P a b c (suc zero) h = b
below_three P a b c (suc (suc zero)) h = c
below_three P a b c (suc (suc (suc n))) h = absurd (omega (arith, h))

below_eight : (P : ℕ → Type 0) → P 0 → P 1 → P 2 → P 3 → P 4 → P 5 → P 6 → P 7 → (n : ℕ) → n < 8 → P n
below_eight P a b c d e f g h zero less = a
below_eight P a b c d e f g h (suc zero) less = b
below_eight P a b c d e f g h (suc (suc zero)) less = c
below_eight P a b c d e f g h (suc (suc (suc zero))) less = d
below_eight P a b c d e f g h (suc (suc (suc (suc zero)))) less = e
below_eight P a b c d e f g h (suc (suc (suc (suc (suc zero))))) less = f
below_eight P a b c d e f g h (suc (suc (suc (suc (suc (suc zero)))))) less = g
below_eight P a b c d e f g h (suc (suc (suc (suc (suc (suc (suc zero))))))) less = h
below_eight P a b c d e f g h (suc (suc (suc (suc (suc (suc (suc (suc n)))))))) less = absurd (omega (arith, less))

row : (cell : ℕ) → ChangeGoesOn cell 0 → ChangeGoesOn cell 1 → ChangeGoesOn cell 2 → (field : ℕ) → field < 3 → ChangeGoesOn cell field
row cell = below_three (ChangeGoesOn cell)

pub change_goes_on : (cell field : ℕ) → cell < 8 → field < 3 → ChangeGoesOn cell field
change_goes_on cell field inside of_cell =
    below_eight (λ c. (f : ℕ) → f < 3 → ChangeGoesOn c f)
    (row 0 (λ v notes rest. refl) (λ v notes rest. refl) (λ v notes rest. refl))
    (row 1 (λ v notes rest. refl) (λ v notes rest. refl) (λ v notes rest. refl))
    (row 2 (λ v notes rest. refl) (λ v notes rest. refl) (λ v notes rest. refl))
    (row 3 (λ v notes rest. refl) (λ v notes rest. refl) (λ v notes rest. refl))
    (row 4 (λ v notes rest. refl) (λ v notes rest. refl) (λ v notes rest. refl))
    (row 5 (λ v notes rest. refl) (λ v notes rest. refl) (λ v notes rest. refl))
    (row 6 (λ v notes rest. refl) (λ v notes rest. refl) (λ v notes rest. refl))
    (row 7 (λ v notes rest. refl) (λ v notes rest. refl) (λ v notes rest. refl))
    cell inside field of_cell

-- The steps

-- what the first so many steps note
abbrev pub step_notes : ℕ → Journal
step_notes zero = initial_progress.notes
step_notes (suc step) =
    change_notes (cell_of (suc step)) (field_of (suc step)) (value_in (field_of (suc step)) (suc step)) (step_notes step)

put_is_set : (field step : ℕ) → put_in field step ≡ Call.Set (shape_in field) (value_in field step)
put_is_set field step = go (field == 2)
  where
    go : (b : Bool) → cond b (Call.Set 1 (token (step - 1))) (Call.Set 0 (nat step)) ≡ Call.Set (cond b 1 0) (cond b (token (step - 1)) (nat step))
    go true = refl
    go false = refl

step_goes_on : (step : ℕ) (notes : Journal) (rest : List Call)
    → rules grid_table grid (at_root notes) (step_calls step ++ rest)
    ≡ rules grid_table grid (at_root (change_notes (cell_of step) (field_of step) (value_in (field_of step) step) notes)) rest
step_goes_on step notes rest =
    subst (λ (put : Call). rules grid_table grid (at_root notes) (change (cell_of step) (field_of step) put ++ rest)
    ≡ rules grid_table grid (at_root (change_notes (cell_of step) (field_of step) (value_in (field_of step) step) notes)) rest)
    (sym (put_is_set (field_of step) step))
    (change_goes_on (cell_of step) (field_of step) (mod-lt _ (omega arith)) (mod-lt _ (omega arith)) (value_in (field_of step) step) notes rest)

pub steps_go_on : (count : ℕ) (rest : List Call)
    → rules grid_table grid (at_root initial_progress.notes) (steps count ++ rest) ≡ rules grid_table grid (at_root (step_notes count)) rest
steps_go_on zero rest = refl
steps_go_on (suc count) rest =
    ap (rules grid_table grid (at_root initial_progress.notes)) (append_assoc (steps count) (step_calls (suc count)) rest)
    ∙ steps_go_on count (step_calls (suc count) ++ rest) ∙ step_goes_on (suc count) (step_notes count) rest

-- What the steps leave

abbrev number_held : ℕ → Held
number_held zero = untouched
number_held (suc step) = written (nat (suc step))

combine : (a b : Bool) (v : Val) (field : ℕ) (before : Held)
    → after_write v (cond a (cond b (covers []) beside) beside)
    (after_entry (cond a (cond b (covers []) beside) beside) (after_entry (cond a (covers (field ∷ [])) beside) before))
    ≡ cond (a && b) (written v) before
combine true true v field untouched = refl
combine true true v field (written w) = refl
combine true true v field in_parts = refl
combine true true v field just_entered = refl
combine true false v field before = refl
combine false b v field before = refl

choose : (b : Bool) (v : Val) (step m : ℕ) (before : Held) → (b ≡ true → v ≡ nat (suc step)) → before ≡ number_held m
    → cond b (written v) before ≡ number_held (cond b (suc step) m)
choose true v step m before value same = ap written (value refl)
choose false v step m before value same = same

second : (a b : Bool) → (a && b) ≡ true → b ≡ true
second true b both = both
second false b both = cc

is_number : (changed field step : ℕ) → field < 2 → (changed == field) ≡ true → value_in changed step ≡ nat step
is_number changed zero step less same = subst (λ (n : ℕ). value_in n step ≡ nat step) (sym (eqb-true changed 0 same)) refl
is_number changed (suc zero) step less same = subst (λ (n : ℕ). value_in n step ≡ nat step) (sym (eqb-true changed 1 same)) refl
is_number changed (suc (suc field)) step less same = absurd (omega (arith, less))

pub held_of_steps : (cell field : ℕ) → field < 2 → (count : ℕ)
    → held (step_notes count) (cell ∷ field ∷ []) ≡ number_held (latest cell field count)
held_of_steps cell field less zero = refl
held_of_steps cell field less (suc step) =
    combine (cell_of (suc step) == cell) (field_of (suc step) == field) (value_in (field_of (suc step)) (suc step)) field
    (held (step_notes step) (cell ∷ field ∷ []))
    ∙ choose ((cell_of (suc step) == cell) && (field_of (suc step) == field)) (value_in (field_of (suc step)) (suc step)) step
    (latest cell field step) (held (step_notes step) (cell ∷ field ∷ []))
    (λ both. is_number (field_of (suc step)) field (suc step) less (second _ _ both))
    (held_of_steps cell field less step)

-- The last changes, and the end of deferred mode

abbrev closed_notes : ℕ → Journal → Journal
closed_notes count notes =
    change_notes 7 2 (token (count + 7)) (change_notes 6 2 (token (count + 6))
    (change_notes 5 2 (token (count + 5)) (change_notes 4 2 (token (count + 4))
    (change_notes 3 2 (token (count + 3)) (change_notes 2 2 (token (count + 2))
    (change_notes 1 2 (token (count + 1)) (change_notes 0 2 (token (count + 0)) notes)))))))

last_go_on : (count : ℕ) (notes : Journal)
    → rules grid_table grid (at_root notes) (last_changes count 8 ++ Call.FinishDeferred ∷ [])
    ≡ rules grid_table grid (at_root (closed_notes count notes)) (Call.FinishDeferred ∷ [])
last_go_on count notes = refl

abbrev number_makes : Held → Option Val
number_makes h = child_makes h (Some (nat 0)) (by_held h None None)

abbrev cell_makes : (x y : Held) → Val → Option Val
cell_makes x y r = product_of (one_more (number_makes x) (one_more (number_makes y) (one_more (Some r) (Some no_vals))))

cell_makes_numbers : (x y : ℕ) (r : Val) → cell_makes (number_held x) (number_held y) r ≡ Some (cell_value x y r)
cell_makes_numbers zero zero r = refl
cell_makes_numbers zero (suc y) r = refl
cell_makes_numbers (suc x) zero r = refl
cell_makes_numbers (suc x) (suc y) r = refl

cell_made : (count cell : ℕ)
    → cell_makes (held (step_notes count) (cell ∷ 0 ∷ [])) (held (step_notes count) (cell ∷ 1 ∷ [])) (token (count + cell))
    ≡ Some (cell_value (latest cell 0 count) (latest cell 1 count) (token (count + cell)))
cell_made count cell =
    ap (λ (x : Held). cell_makes x (held (step_notes count) (cell ∷ 1 ∷ [])) (token (count + cell)))
    (held_of_steps cell 0 (omega arith) count)
    ∙ ap (λ (y : Held). cell_makes (number_held (latest cell 0 count)) y (token (count + cell)))
    (held_of_steps cell 1 (omega arith) count)
    ∙ cell_makes_numbers (latest cell 0 count) (latest cell 1 count) (token (count + cell))

-- what is noted of the cells, as far down as this
abbrev closing_with : (depth : ℕ) → Journal → Option Journal
closing_with depth notes =
    each_notes (λ i. writing (i ∷ []) (child_makes (held notes (i ∷ [])) (fill_at deferred_column grid_table grid i)
    (completes_within deferred_column grid_table depth notes (child_shape grid_table grid i) (i ∷ [])))) 8 0

abbrev noted : (a b c d e f g h : Option Val) → Option Journal
noted a b c d e f g h =
    both_notes (writing (0 ∷ []) a) (both_notes (writing (1 ∷ []) b) (both_notes (writing (2 ∷ []) c)
    (both_notes (writing (3 ∷ []) d) (both_notes (writing (4 ∷ []) e) (both_notes (writing (5 ∷ []) f)
    (both_notes (writing (6 ∷ []) g) (both_notes (writing (7 ∷ []) h) (Some []))))))))

closes : (count depth : ℕ) (notes : Journal) → closing_with (suc (suc (suc depth))) (closed_notes count notes)
    ≡ noted (cell_makes (held notes (0 ∷ 0 ∷ [])) (held notes (0 ∷ 1 ∷ [])) (token (count + 0)))
    (cell_makes (held notes (1 ∷ 0 ∷ [])) (held notes (1 ∷ 1 ∷ [])) (token (count + 1)))
    (cell_makes (held notes (2 ∷ 0 ∷ [])) (held notes (2 ∷ 1 ∷ [])) (token (count + 2)))
    (cell_makes (held notes (3 ∷ 0 ∷ [])) (held notes (3 ∷ 1 ∷ [])) (token (count + 3)))
    (cell_makes (held notes (4 ∷ 0 ∷ [])) (held notes (4 ∷ 1 ∷ [])) (token (count + 4)))
    (cell_makes (held notes (5 ∷ 0 ∷ [])) (held notes (5 ∷ 1 ∷ [])) (token (count + 5)))
    (cell_makes (held notes (6 ∷ 0 ∷ [])) (held notes (6 ∷ 1 ∷ [])) (token (count + 6)))
    (cell_makes (held notes (7 ∷ 0 ∷ [])) (held notes (7 ∷ 1 ∷ [])) (token (count + 7)))
closes count depth notes = refl

abbrev all_noted : (count : ℕ) → Journal
all_noted count =
    wrote_at (0 ∷ []) (value_of_cell count 0) ∷ wrote_at (1 ∷ []) (value_of_cell count 1)
    ∷ wrote_at (2 ∷ []) (value_of_cell count 2) ∷ wrote_at (3 ∷ []) (value_of_cell count 3)
    ∷ wrote_at (4 ∷ []) (value_of_cell count 4) ∷ wrote_at (5 ∷ []) (value_of_cell count 5)
    ∷ wrote_at (6 ∷ []) (value_of_cell count 6) ∷ wrote_at (7 ∷ []) (value_of_cell count 7) ∷ []

noted_all : (a b c d e f g h : Option Val) (s t u v w x y z : Val)
    → a ≡ Some s → b ≡ Some t → c ≡ Some u → d ≡ Some v → e ≡ Some w → f ≡ Some x → g ≡ Some y → h ≡ Some z
    → noted a b c d e f g h
    ≡ Some (wrote_at (0 ∷ []) s ∷ wrote_at (1 ∷ []) t ∷ wrote_at (2 ∷ []) u ∷ wrote_at (3 ∷ []) v
    ∷ wrote_at (4 ∷ []) w ∷ wrote_at (5 ∷ []) x ∷ wrote_at (6 ∷ []) y ∷ wrote_at (7 ∷ []) z ∷ [])
noted_all a b c d e f g h s t u v w x y z p q i j k l m n = rw (p, q, i, j, k, l, m, n) refl

notes_of_cells : (count depth : ℕ) → closing_with (suc (suc (suc depth))) (closed_notes count (step_notes count)) ≡ Some (all_noted count)
notes_of_cells count depth =
    closes count depth (step_notes count)
    ∙ noted_all _ _ _ _ _ _ _ _ (value_of_cell count 0) (value_of_cell count 1) (value_of_cell count 2) (value_of_cell count 3)
    (value_of_cell count 4) (value_of_cell count 5) (value_of_cell count 6) (value_of_cell count 7)
    (cell_made count 0) (cell_made count 1) (cell_made count 2) (cell_made count 3)
    (cell_made count 4) (cell_made count 5) (cell_made count 6) (cell_made count 7)

two_deep : (n : ℕ) → max 2 n ≡ suc (suc (max 2 n - 2))
two_deep n = omega arith

one_deep : (n : ℕ) → max 1 n ≡ suc (max 1 n - 1)
one_deep n = omega arith

finish_notes_of : (count : ℕ) (notes : Journal)
    → finish_notes grid_table (closed_notes count notes) grid [] [] ≡ closing_with (suc (longest (closed_notes count notes))) (closed_notes count notes)
finish_notes_of count notes = refl

finishes : (count : ℕ) → finish_notes grid_table (closed_notes count (step_notes count)) grid [] [] ≡ Some (all_noted count)
finishes count =
    finish_notes_of count (step_notes count)
    ∙ ap (λ (depth : ℕ). closing_with (suc depth) (closed_notes count (step_notes count))) (two_deep _)
    ∙ notes_of_cells count (longest (closed_notes count (step_notes count)) - 2)

-- the value of what is noted then
whole_grid : (s t u v w x y z : Val) (depth : ℕ) (notes : Journal)
    → completes_within strict_column grid_table (suc (suc depth))
    (wrote_at (0 ∷ []) s ∷ wrote_at (1 ∷ []) t ∷ wrote_at (2 ∷ []) u ∷ wrote_at (3 ∷ []) v
    ∷ wrote_at (4 ∷ []) w ∷ wrote_at (5 ∷ []) x ∷ wrote_at (6 ∷ []) y ∷ wrote_at (7 ∷ []) z ∷ notes) grid []
    ≡ Some (product (first s (first t (first u (first v (first w (first x (first y (first z no_vals)))))))))
whole_grid s t u v w x y z depth notes = refl

-- all but the first of them
abbrev later_noted : (count : ℕ) → Journal → Journal
later_noted count notes =
    wrote_at (1 ∷ []) (value_of_cell count 1)
    ∷ wrote_at (2 ∷ []) (value_of_cell count 2) ∷ wrote_at (3 ∷ []) (value_of_cell count 3)
    ∷ wrote_at (4 ∷ []) (value_of_cell count 4) ∷ wrote_at (5 ∷ []) (value_of_cell count 5)
    ∷ wrote_at (6 ∷ []) (value_of_cell count 6) ∷ wrote_at (7 ∷ []) (value_of_cell count 7) ∷ notes

made_of_noted : (count : ℕ) (notes : Journal)
    → completes_within strict_column grid_table (suc (max 1 (longest (later_noted count notes)))) (all_noted count ++ notes) grid []
    ≡ Some (grid_value count)
made_of_noted count notes =
    ap (λ (depth : ℕ). completes_within strict_column grid_table (suc depth) (all_noted count ++ notes) grid [])
    (one_deep (longest (later_noted count notes)))
    ∙ whole_grid (value_of_cell count 0) (value_of_cell count 1) (value_of_cell count 2) (value_of_cell count 3)
    (value_of_cell count 4) (value_of_cell count 5) (value_of_cell count 6) (value_of_cell count 7)
    (max 1 (longest (later_noted count notes)) - 1) notes

abbrev run_with : (count : ℕ) → Option Journal → Option Val
run_with count added = outcome grid_table grid (then_rules (finishes_with (at_root (closed_notes count (step_notes count))) added) (λ next. Some next))

made_of : (count : ℕ) → run_with count (Some (all_noted count)) ≡ Some (grid_value count)
made_of count = made_of_noted count (closed_notes count (step_notes count))

pub makes_grid : (count : ℕ) → journal_run grid_table grid (generated count) ≡ Some (grid_value count)
makes_grid count =
    ap (outcome grid_table grid)
    (steps_go_on count (last_changes count 8 ++ Call.FinishDeferred ∷ []) ∙ last_go_on count (step_notes count))
    ∙ ap (run_with count) (finishes count) ∙ made_of count
