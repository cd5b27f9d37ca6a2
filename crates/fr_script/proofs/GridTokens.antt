-- A generated script is valid, and all its tokens but eight are released.
use Rattle.std.proofs.Common.{◌≡◌, ℕ, zero, suc, ◌+◌, ◌-◌, ◌*◌, ◌<◌, ◌≤◌, ◌≢◌, ◌==◌, ◌&&◌, ◌^◌, Bool, true, false, cond, List, [], ◌∷◌, ◌++◌, Option, Some, None, length, replicate, slice_index, nat_eq, nat_lt, refl, ap, sym, ◌∙◌, subst, arith, length-append, if◌then◌else◌}
use Rattle.std.proofs.lemmas.Bool.{eqb-true, eq-eqb, ne_eqb, lt-ltb, ltb-true, ltb-false}
use Rattle.std.proofs.Math.ListN.{length-replicate}
use Rattle.fr_shape.specs.Fits.{fits}
use Rattle.fr_shape.specs.Tokens.{occurs}
use Rattle.fr_shape.specs.Val.{Val, nat, token}
use Rattle.fr_model.specs.Commands.{Call, IsFieldCall, IsFieldScript}
use Rattle.fr_model.specs.Scripts.{IsFitting, AllFitting, IsValid, brings, brought, tokens_of}
use Rattle.fr_script.specs.Reports.{released_from}
use Rattle.fr_script.specs.Generator.{grid_table, grid, change, steps, step_calls, cell_of, field_of, put_in, last_changes, generated, latest, grid_value}
use Rattle.fr_script.specs.Summaries.{tokens_in, sum_of_grid}

-- Field scripts

fields_append : (a b : List Call) → IsFieldScript a → IsFieldScript b → IsFieldScript (a ++ b)
fields_append [] b p q = q
fields_append (x ∷ a) b p q = (p.0, fields_append a b p.1 q)

put_is_field : (field step : ℕ) → IsFieldCall (put_in field step)
put_is_field field step = go (field == 2)
  where
    go : (b : Bool) → IsFieldCall (cond b (Call.Set 1 (token (step - 1))) (Call.Set 0 (nat step)))
    go true = tt
    go false = tt

change_fields : (cell field : ℕ) (put : Call) → IsFieldCall put → IsFieldScript (change cell field put)
change_fields cell field put is = (tt, (tt, (is, (tt, (tt, tt)))))

steps_fields : (count : ℕ) → IsFieldScript (steps count)
steps_fields zero = tt
steps_fields (suc count) =
    fields_append (steps count) (step_calls (suc count)) (steps_fields count)
    (change_fields (cell_of (suc count)) (field_of (suc count)) (put_in (field_of (suc count)) (suc count)) (put_is_field (field_of (suc count)) (suc count)))

last_fields : (count cells : ℕ) → IsFieldScript (last_changes count cells)
last_fields count zero = tt
last_fields count (suc cell) =
    fields_append (last_changes count cell) (change cell 2 (Call.Set 1 (token (count + cell)))) (last_fields count cell)
    (change_fields cell 2 (Call.Set 1 (token (count + cell))) tt)

pub generated_fields : (count : ℕ) → IsFieldScript (generated count)
generated_fields count = (
  tt,
  fields_append (steps count) (last_changes count 8 ++ Call.FinishDeferred ∷ []) (steps_fields count)
      (fields_append (last_changes count 8) (Call.FinishDeferred ∷ []) (last_fields count 8) (tt, tt)),
)

-- Fitting values

fitting_append : (a b : List Call) → AllFitting grid_table a → AllFitting grid_table b → AllFitting grid_table (a ++ b)
fitting_append [] b p q = q
fitting_append (x ∷ a) b p q = (p.0, fitting_append a b p.1 q)

put_fits : (field step : ℕ) → step < 2 ^ 32 → IsFitting grid_table (put_in field step)
put_fits field step small = go (field == 2)
  where
    go : (b : Bool) → IsFitting grid_table (cond b (Call.Set 1 (token (step - 1))) (Call.Set 0 (nat step)))
    go true = (omega arith, refl)
    go false = (omega arith, lt-ltb step (2 ^ 32) small)

change_fits : (cell field : ℕ) (put : Call) → IsFitting grid_table put → AllFitting grid_table (change cell field put)
change_fits cell field put is = (tt, (tt, (is, (tt, (tt, tt)))))

steps_fit : (count : ℕ) → count < 2 ^ 32 → AllFitting grid_table (steps count)
steps_fit zero small = tt
steps_fit (suc count) small =
    fitting_append (steps count) (step_calls (suc count)) (steps_fit count (omega (arith, small)))
    (change_fits (cell_of (suc count)) (field_of (suc count)) (put_in (field_of (suc count)) (suc count))
    (put_fits (field_of (suc count)) (suc count) small))

last_fit : (count cells : ℕ) → AllFitting grid_table (last_changes count cells)
last_fit count zero = tt
last_fit count (suc cell) =
    fitting_append (last_changes count cell) (change cell 2 (Call.Set 1 (token (count + cell)))) (last_fit count cell)
    (change_fits cell 2 (Call.Set 1 (token (count + cell))) (omega arith, refl))

generated_fits : (count : ℕ) → count < 2 ^ 32 → AllFitting grid_table (generated count)
generated_fits count small = (
  tt,
  fitting_append (steps count) (last_changes count 8 ++ Call.FinishDeferred ∷ []) (steps_fit count small)
      (fitting_append (last_changes count 8) (Call.FinishDeferred ∷ []) (last_fit count 8) (tt, tt)),
)

-- Tokens

brought_append : (a b : List Call) (t : ℕ) → brought (a ++ b) t ≡ brought a t + brought b t
brought_append [] b t = omega arith
brought_append (x ∷ a) b t = omega (arith, brought_append a b t)

change_brings : (cell field : ℕ) (put : Call) (t : ℕ) → brought (change cell field put) t ≡ brings put t
change_brings cell field put t = omega arith

one_at_most : (s t : ℕ) → occurs (token s) t ≤ 1
one_at_most s t = go (nat_eq s t)
  where
    go : (b : Bool) → cond b 1 0 ≤ 1
    go true = omega arith
    go false = omega arith

none_elsewhere : (s t : ℕ) → (s ≡ t → ⊥) → occurs (token s) t ≡ 0
none_elsewhere s t other = let no : nat_eq s t ≡ false = ne_eqb s t other in rw no refl

put_once : (field step t : ℕ) → brings (put_in field (suc step)) t ≤ 1
put_once field step t = go (field == 2)
  where
    go : (b : Bool) → brings (cond b (Call.Set 1 (token (suc step - 1))) (Call.Set 0 (nat (suc step)))) t ≤ 1
    go true = one_at_most (suc step - 1) t
    go false = omega arith

put_elsewhere : (field step t : ℕ) → (step ≡ t → ⊥) → brings (put_in field (suc step)) t ≡ 0
put_elsewhere field step t other = go (field == 2)
  where
    go : (b : Bool) → brings (cond b (Call.Set 1 (token (suc step - 1))) (Call.Set 0 (nat (suc step)))) t ≡ 0
    go true = none_elsewhere (suc step - 1) t (λ same. other (omega (arith, same)))
    go false = refl

step_brings : (count t : ℕ) → brought (steps (suc count)) t ≡ brought (steps count) t + brings (put_in (field_of (suc count)) (suc count)) t
step_brings count t =
    brought_append (steps count) (step_calls (suc count)) t
    ∙ ap (λ (n : ℕ). brought (steps count) t + n)
    (change_brings (cell_of (suc count)) (field_of (suc count)) (put_in (field_of (suc count)) (suc count)) t)

steps_beyond : (count t : ℕ) → count ≤ t → brought (steps count) t ≡ 0
steps_beyond zero t beyond = refl
steps_beyond (suc count) t beyond =
    let before : brought (steps count) t ≡ 0 = steps_beyond count t (omega (arith, beyond)) in
    let here : brings (put_in (field_of (suc count)) (suc count)) t ≡ 0
    = put_elsewhere (field_of (suc count)) count t (λ same. omega (arith, same, beyond)) in
    omega (arith, step_brings count t, before, here)

steps_once : (count t : ℕ) → brought (steps count) t ≤ 1
steps_once zero t = omega arith
steps_once (suc count) t = go (nat_eq count t) refl (steps_once count t)
  where
    go : (b : Bool) → nat_eq count t ≡ b → brought (steps count) t ≤ 1 → brought (steps (suc count)) t ≤ 1
    go true same once =
        let is : count ≡ t = eqb-true count t same in
        omega (arith, step_brings count t, steps_beyond count t (omega (arith, is)), put_once (field_of (suc count)) count t)
    go false other once =
        let none : brings (put_in (field_of (suc count)) (suc count)) t ≡ 0
        = put_elsewhere (field_of (suc count)) count t (λ same. let yes : nat_eq count t ≡ true = eq-eqb count t same in absurd cc) in
        omega (arith, step_brings count t, once, none)

last_brings : (count cell t : ℕ) → brought (last_changes count (suc cell)) t ≡ brought (last_changes count cell) t + occurs (token (count + cell)) t
last_brings count cell t =
    brought_append (last_changes count cell) (change cell 2 (Call.Set 1 (token (count + cell)))) t
    ∙ ap (λ (n : ℕ). brought (last_changes count cell) t + n) (change_brings cell 2 (Call.Set 1 (token (count + cell))) t)

last_before : (count cells t : ℕ) → t < count → brought (last_changes count cells) t ≡ 0
last_before count zero t before = refl
last_before count (suc cell) t before =
    omega (
      arith,
      last_brings count cell t,
      last_before count cell t before,
      none_elsewhere (count + cell) t (λ same. omega (arith, same, before)),
    )

last_beyond : (count cells t : ℕ) → count + cells ≤ t → brought (last_changes count cells) t ≡ 0
last_beyond count zero t beyond = refl
last_beyond count (suc cell) t beyond =
    omega (
      arith,
      last_brings count cell t,
      last_beyond count cell t (omega (arith, beyond)),
      none_elsewhere (count + cell) t (λ same. omega (arith, same, beyond)),
    )

last_once : (count cells t : ℕ) → brought (last_changes count cells) t ≤ 1
last_once count zero t = omega arith
last_once count (suc cell) t = go (nat_eq (count + cell) t) refl (last_once count cell t)
  where
    go : (b : Bool) → nat_eq (count + cell) t ≡ b → brought (last_changes count cell) t ≤ 1
        → brought (last_changes count (suc cell)) t ≤ 1
    go true same once =
        let is : count + cell ≡ t = eqb-true (count + cell) t same in
        omega (arith, last_brings count cell t, last_beyond count cell t (omega (arith, is)), one_at_most (count + cell) t)
    go false other once =
        let none : occurs (token (count + cell)) t ≡ 0
        = none_elsewhere (count + cell) t (λ same. let yes : nat_eq (count + cell) t ≡ true = eq-eqb (count + cell) t same in absurd cc) in
        omega (arith, last_brings count cell t, once, none)

generated_brings : (count t : ℕ) → brought (generated count) t ≡ brought (steps count) t + brought (last_changes count 8) t
generated_brings count t =
    let last : brought (last_changes count 8 ++ Call.FinishDeferred ∷ []) t ≡ brought (last_changes count 8) t + brought (Call.FinishDeferred ∷ []) t
    = brought_append (last_changes count 8) (Call.FinishDeferred ∷ []) t in
    let all : brought (steps count ++ (last_changes count 8 ++ Call.FinishDeferred ∷ [])) t
    ≡ brought (steps count) t + brought (last_changes count 8 ++ Call.FinishDeferred ∷ []) t
    = brought_append (steps count) (last_changes count 8 ++ Call.FinishDeferred ∷ []) t in
    let nothing : brought (Call.FinishDeferred ∷ []) t ≡ 0 = refl in
    omega (arith, last, all, nothing)

generated_once : (count t : ℕ) → brought (generated count) t ≤ 1
generated_once count t = go (nat_lt t count) refl
  where
    go : (b : Bool) → nat_lt t count ≡ b → brought (generated count) t ≤ 1
    go true less =
        omega (arith, generated_brings count t, last_before count 8 t (ltb-true t count less), steps_once count t)
    go false more =
        omega (arith, generated_brings count t, steps_beyond count t (ltb-false t count more), last_once count 8 t)

generated_known : (count t : ℕ) → 0 < brought (generated count) t → t < count + 8
generated_known count t some = go (nat_lt t (count + 8)) refl
  where
    go : (b : Bool) → nat_lt t (count + 8) ≡ b → t < count + 8
    go true less = ltb-true t (count + 8) less
    go false more =
        let far : count + 8 ≤ t = ltb-false t (count + 8) more in
        absurd (omega (arith, some, generated_brings count t, steps_beyond count t (omega (arith, far)), last_beyond count 8 t far))

get_zeros : (n t : ℕ) → slice_index (replicate n 0) t ≡ 0
get_zeros zero t = refl
get_zeros (suc n) zero = refl
get_zeros (suc n) (suc t) = get_zeros n t

pub generated_valid : (count : ℕ) → count < 2 ^ 32 → IsValid grid_table (generated count) (replicate (count + 8) 0)
generated_valid count small = record {
  fitting = generated_fits count small;
  once = generated_once count;
  known = λ t some. subst (λ (n : ℕ). t < n) (sym (length-replicate (count + 8) 0)) (generated_known count t some);
  unreleased = λ t some. get_zeros (count + 8) t;
}

-- what the value holds are the last tokens
pub value_holds : (count t : ℕ) → occurs (grid_value count) t ≡ brought (last_changes count 8) t
value_holds count t =
    omega (
      arith,
      last_brings count 0 t,
      last_brings count 1 t,
      last_brings count 2 t,
      last_brings count 3 t,
      last_brings count 4 t,
      last_brings count 5 t,
      last_brings count 6 t,
      last_brings count 7 t,
    )

pub generated_length : (count : ℕ) → length (generated count) ≡ 5 * count + 42
generated_length count =
    let all : length (steps count ++ (last_changes count 8 ++ Call.FinishDeferred ∷ []))
    ≡ length (steps count) + length (last_changes count 8 ++ Call.FinishDeferred ∷ [])
    = length-append (steps count) (last_changes count 8 ++ Call.FinishDeferred ∷ []) in
    let last : length (last_changes count 8 ++ Call.FinishDeferred ∷ []) ≡ 41 = refl in
    omega (arith, all, last, steps_length count)
  where
    steps_length : (n : ℕ) → length (steps n) ≡ 5 * n
    steps_length zero = refl
    steps_length (suc n) =
        let more : length (steps n ++ step_calls (suc n)) ≡ length (steps n) + length (step_calls (suc n))
        = length-append (steps n) (step_calls (suc n)) in
        let five : length (step_calls (suc n)) ≡ 5 = refl in
        omega (arith, more, five, steps_length n)

-- Sums

latest_within : (cell field count : ℕ) → latest cell field count ≤ count
latest_within cell field zero = omega arith
latest_within cell field (suc step) =
    go ((cell_of (suc step) == cell) && (field_of (suc step) == field)) (latest_within cell field step)
  where
    go : (b : Bool) → latest cell field step ≤ step → cond b (suc step) (latest cell field step) ≤ suc step
    go true within = omega arith
    go false within = omega (arith, within)

pub sum_within : (count : ℕ) → sum_of_grid (grid_value count) ≤ 16 * count
sum_within count =
    omega (
      arith,
      latest_within 0 0 count,
      latest_within 0 1 count,
      latest_within 1 0 count,
      latest_within 1 1 count,
      latest_within 2 0 count,
      latest_within 2 1 count,
      latest_within 3 0 count,
      latest_within 3 1 count,
      latest_within 4 0 count,
      latest_within 4 1 count,
      latest_within 5 0 count,
      latest_within 5 1 count,
      latest_within 6 0 count,
      latest_within 6 1 count,
      latest_within 7 0 count,
      latest_within 7 1 count,
    )

-- What is released

abbrev total : (ℕ → ℕ) → (t count : ℕ) → ℕ
total f t zero = 0
total f t (suc count) = f t + total f (t + 1) count

-- as many tokens are released as are brought and not answered
released_total : (brings answers f : ℕ → ℕ) → ((k : ℕ) → brings k - answers k ≡ f k) → ((k : ℕ) → f k ≤ 1) → (count t : ℕ)
    → length (released_from brings answers t count) ≡ total f t count
released_total brings answers f are once zero t = refl
released_total brings answers f are once (suc count) t =
    go (f t) refl (once t) (released_total brings answers f are once count (t + 1))
  where
    go : (n : ℕ) → f t ≡ n → n ≤ 1
        → length (released_from brings answers (t + 1) count) ≡ total f (t + 1) count
        → length (released_from brings answers t (suc count)) ≡ total f t (suc count)
    go zero is low rest =
        let no : (brings t - answers t == 1) ≡ false = rw (are t, is) refl in
        rw no (omega (arith, rest, is))
    go (suc zero) is low rest =
        let yes : (brings t - answers t == 1) ≡ true = rw (are t, is) refl in
        rw yes (omega (arith, rest, is))
    go (suc (suc n)) is low rest = absurd (omega (arith, low))

total_sum : (f g h : ℕ → ℕ) → ((k : ℕ) → f k ≡ g k + h k) → (count t : ℕ) → total f t count ≡ total g t count + total h t count
total_sum f g h is zero t = refl
total_sum f g h is (suc count) t = omega (arith, is t, total_sum f g h is count (t + 1))

total_none : (f : ℕ → ℕ) → (count t : ℕ) → ((k : ℕ) → t ≤ k → f k ≡ 0) → total f t count ≡ 0
total_none f zero t none = refl
total_none f (suc count) t none =
    omega (arith, none t (omega arith), total_none f count (t + 1) (λ k after. none k (omega (arith, after))))

-- a token stands once among those that are counted
total_token : (s count t : ℕ) → t ≤ s → s < t + count → total (λ k. occurs (token s) k) t count ≡ 1
total_token s zero t from within = absurd (omega (arith, from, within))
total_token s (suc count) t from within =
    go (nat_eq s t) refl (λ other. total_token s count (t + 1) (omega (arith, from, other)) (omega (arith, within)))
  where
    go : (b : Bool) → nat_eq s t ≡ b → ((s ≢ t) → total (λ k. occurs (token s) k) (t + 1) count ≡ 1)
        → total (λ k. occurs (token s) k) t (suc count) ≡ 1
    go true same rest =
        let is : s ≡ t = eqb-true s t same in
        let here : occurs (token s) t ≡ 1 = rw same refl in
        let none : total (λ k. occurs (token s) k) (t + 1) count ≡ 0
        = total_none (λ k. occurs (token s) k) count (t + 1)
        (λ k after. none_elsewhere s k (λ equal. omega (arith, equal, is, after))) in
        omega (arith, here, none)
    go false other rest =
        let here : occurs (token s) t ≡ 0 = rw other refl in
        let further : total (λ k. occurs (token s) k) (t + 1) count ≡ 1
        = rest (λ same. let yes : nat_eq s t ≡ true = eq-eqb s t same in absurd cc) in
        omega (arith, here, further)

put_total : (field step all : ℕ) → step < all
    → total (λ t. brings (put_in field (suc step)) t) 0 all ≡ length (tokens_of (put_in field (suc step)))
put_total field step all within = go (field == 2)
  where
    go : (b : Bool) → total (λ t. brings (cond b (Call.Set 1 (token (suc step - 1))) (Call.Set 0 (nat (suc step)))) t) 0 all
        ≡ length (tokens_of (cond b (Call.Set 1 (token (suc step - 1))) (Call.Set 0 (nat (suc step)))))
    go true = total_token (suc step - 1) all 0 (omega arith) (omega (arith, within))
    go false = total_none (λ t. 0) all 0 (λ k after. refl)

tokens_append : (a b : List Call) → tokens_in (a ++ b) ≡ tokens_in a + tokens_in b
tokens_append [] b = omega arith
tokens_append (x ∷ a) b = omega (arith, tokens_append a b)

change_tokens : (cell field : ℕ) (put : Call) → tokens_in (change cell field put) ≡ length (tokens_of put)
change_tokens cell field put = omega arith

steps_total : (count all : ℕ) → count ≤ all → total (λ t. brought (steps count) t) 0 all ≡ tokens_in (steps count)
steps_total zero all within = total_none (λ t. 0) all 0 (λ k after. refl)
steps_total (suc count) all within =
    let split : total (λ t. brought (steps (suc count)) t) 0 all
    ≡ total (λ t. brought (steps count) t) 0 all + total (λ t. brings (put_in (field_of (suc count)) (suc count)) t) 0 all
    = total_sum (λ t. brought (steps (suc count)) t) (λ t. brought (steps count) t)
    (λ t. brings (put_in (field_of (suc count)) (suc count)) t) (λ t. step_brings count t) all 0 in
    let before : total (λ t. brought (steps count) t) 0 all ≡ tokens_in (steps count) = steps_total count all (omega (arith, within)) in
    let here : total (λ t. brings (put_in (field_of (suc count)) (suc count)) t) 0 all
    ≡ length (tokens_of (put_in (field_of (suc count)) (suc count)))
    = put_total (field_of (suc count)) count all (omega (arith, within)) in
    omega (
      arith,
      split,
      before,
      here,
      tokens_append (steps count) (step_calls (suc count)),
      change_tokens (cell_of (suc count)) (field_of (suc count)) (put_in (field_of (suc count)) (suc count)),
    )

-- all tokens of the script are released but the eight that the value holds
pub generated_released : (count : ℕ)
    → length (released_from (brought (generated count)) (occurs (grid_value count)) 0 (count + 8)) ≡ tokens_in (generated count) - 8
generated_released count =
    let all : length (released_from (brought (generated count)) (occurs (grid_value count)) 0 (count + 8))
    ≡ total (λ t. brought (steps count) t) 0 (count + 8)
    = released_total (brought (generated count)) (occurs (grid_value count)) (λ t. brought (steps count) t)
    (λ t. omega (arith, generated_brings count t, value_holds count t)) (λ t. steps_once count t) (count + 8) 0 in
    let outer : tokens_in (steps count ++ (last_changes count 8 ++ Call.FinishDeferred ∷ []))
    ≡ tokens_in (steps count) + tokens_in (last_changes count 8 ++ Call.FinishDeferred ∷ [])
    = tokens_append (steps count) (last_changes count 8 ++ Call.FinishDeferred ∷ []) in
    let eight : tokens_in (last_changes count 8 ++ Call.FinishDeferred ∷ []) ≡ 8 = refl in
    omega (arith, all, steps_total count (count + 8) (omega arith), outer, eight)
