-- Runs of numbers that rise by the order of values.
use Rattle.std.proofs.Common.{◌≡◌, ℕ, zero, suc, ◌+◌, ◌-◌, ◌<◌, ◌≤◌, Bool, true, false, ◌||◌, true≢false, List, [], ◌∷◌, ◌++◌, length, map, take, drop, get_or, nat_eq, Option, Some, None, is_some, IfSome, IfNone, refl, sym, ap, subst, ◌∙◌, ⊎_elim, arith}
use Rattle.std.proofs.lemmas.List.{drop_more, map_more, append_assoc, length-map, length-append, length-take-le, get_or-map, get_or-take, get_or_append_left, get_or_at, take-append-drop}
use Rattle.std.proofs.lemmas.List.Folds.{list_any_at, list_any_more, list_any-append}
use Rattle.std.proofs.lemmas.List.Sorted.{list_any-IsPermutation, sorted_far, ranks_by, IsPermutation-map, All-permutation}
use Rattle.std.proofs.lemmas.List.Elements.{All-nil, All-cons}
use Rattle.std.proofs.lemmas.Bool.{cases_Bool, cases_lt, or_cases, or_left, or_right}
use Rattle.std.proofs.lemmas.Map.Views.{exact_unsigned_eq}
use Rattle.std.specs.Cmp.{IsTotalOrder, IsStrictWeakOrder, nat_eq_equiv, nat_cmp_total, on_total, then_total}
use Rattle.fr_values.specs.Common.{All, ByContents, Greater, IsPermutation, IsRun, Less, Val, Value, compare, has_number, is_held, is_there, joined, numbers_from, same, same_tied, unit, val_at, vals_view, view}
use Rattle.std.specs.List.Sorted.{IsSortedBy}
use Rattle.std.specs.declared.cmp.Ordering.{Ordering}
use Rattle.std.specs.declared.cmp.Ordering.TheVariants.{Equal}
use Rattle.std.specs.Ordering.{is_lt, is_eq, ordering_reverse, ordering_then, nat_cmp}
use Rattle.fr_shape.specs.CompareLaws.{compare_total}
use Rattle.fr_values.specs.Indexing.{AreRuns}

-- Numbers

pub number_at : (ns : List ℕ) (k : ℕ) → k < length ns → has_number ns (get_or ns k 0) ≡ true
number_at ns k h = list_any_at (nat_eq (get_or ns k 0)) ns k 0 h (nat_eq_equiv.refl (get_or ns k 0))

pub index_of : (ns : List ℕ) (n : ℕ) → has_number ns n ≡ true → (k : ℕ) × (k < length ns) × (get_or ns k 0 ≡ n)
index_of [] n has = absurd (cc has)
index_of (m ∷ ns) n has = by (nat_eq n m) refl (index_of ns n) has
  where
    by : (b : Bool) → nat_eq n m ≡ b → (has_number ns n ≡ true → (k : ℕ) × (k < length ns) × (get_or ns k 0 ≡ n)) → b || has_number ns n ≡ true → (k : ℕ) × (k < length (m ∷ ns)) × (get_or (m ∷ ns) k 0 ≡ n)
    by true is more has = (0, omega arith, sym (exact_unsigned_eq n m is))
    by false is more has = let found = more has in (suc found.0, omega (arith, found.1), found.2)

pub number_joined : (runs : List (List ℕ)) (n : ℕ) → has_number (joined runs) n ≡ is_held runs n
number_joined [] n = refl
number_joined (run ∷ runs) n = list_any-append (nat_eq n) run (joined runs) ∙ ap (λ b. has_number run n || b) (number_joined runs n)

-- Values

pub val_is : (values : List Value) (n : ℕ) (x : Value) → n < length values → x ≡ get_or values n x → val_at (map view values) n ≡ view x
val_is values n x h is = get_or-map view values n x unit h ∙ ap view (sym is)

pub there_at : (values : List Value) (n : ℕ) (v : Val) → n < length values → same (val_at (map view values) n) v ≡ true → is_there v (vals_view values) ≡ true
there_at [] n v h is = absurd (omega (arith, h))
there_at (x ∷ values) zero v h is = or_left (same (view x) v) (is_there v (vals_view values)) is
there_at (x ∷ values) (suc n) v h is = or_right (same (view x) v) (is_there v (vals_view values))
    (there_at values n v (omega (arith, h)) is)

pub there_none : (values : List Value) (v : Val) → ((n : ℕ) → n < length values → same (val_at (map view values) n) v ≡ false) → is_there v (vals_view values) ≡ false
there_none [] v none = refl
there_none (x ∷ values) v none = (λ j. none 0 (omega arith) j || there_none values v (λ n h. none (suc n) (omega (arith, h))) j)

-- Order

not_less : (r : Ordering) → r ≡ Less → is_lt r ≡ false → {A : Type 0} → A
not_less r is not = absurd (true≢false (sym (ap is_lt is) ∙ not))

module _ {R : Val → Val → Ordering} (total : IsTotalOrder R) where
  -- what is not behind a lesser value is less
  less_before : (k m v : Val) → is_lt (R m k) ≡ false → R m v ≡ Less → R k v ≡ Less
  less_before k m v up less = by (R m k) refl
    where
      by : (r : Ordering) → R m k ≡ r → R k v ≡ Less
      by Less is = not_less (R m k) is up
      by Equal is = sym (total.congr m k v is) ∙ less
      by Greater is = total.trans k m v (total.antisymm k m ∙ ap ordering_reverse is) less

  -- what is not before a greater one is greater
  greater_behind : (k m v : Val) → is_lt (R k m) ≡ false → R m v ≡ Greater → R k v ≡ Greater
  greater_behind k m v up greater = by (R k m) refl
    where
      by : (r : Ordering) → R k m ≡ r → R k v ≡ Greater
      by Less is = not_less (R k m) is up
      by Equal is = total.congr k m v is ∙ greater
      by Greater is =
          total.antisymm k v
          ∙ ap ordering_reverse (total.trans v m k (total.antisymm v m ∙ ap ordering_reverse greater) (total.antisymm m k ∙ ap ordering_reverse is))

module _ {vs : List Val} {run : List ℕ} (is_run : IsRun vs run) where
  pub below_at : (k : ℕ) → k < length run → get_or run k 0 < length vs
  below_at k h = is_run.below (get_or run k 0) (number_at run k h)

  pub run_before : (m : ℕ) (v : Val) → m < length run → compare (val_at vs (get_or run m 0)) v ≡ Less → (k : ℕ) → k < m + 1 → compare (val_at vs (get_or run k 0)) v ≡ Less
  run_before m v h less k before =
      less_before compare_total (val_at vs (get_or run k 0)) (val_at vs (get_or run m 0)) v (is_run.rising k m (omega arith) h) less

  pub run_behind : (m : ℕ) (v : Val) → compare (val_at vs (get_or run m 0)) v ≡ Greater → (k : ℕ) → m ≤ k → k < length run → compare (val_at vs (get_or run k 0)) v ≡ Greater
  run_behind m v greater k behind h =
      greater_behind compare_total (val_at vs (get_or run k 0)) (val_at vs (get_or run m 0)) v (is_run.rising m k behind h) greater

-- a run has no value that is equal by the order to none of its own
pub run_lacks : (vs : List Val) (run : List ℕ) (v : Val) → ((k : ℕ) → k < length run → is_eq (compare (val_at vs (get_or run k 0)) v) ≡ false) → (n : ℕ) → has_number run n ≡ true → same (val_at vs n) v ≡ false
run_lacks vs run v apart n has =
    let at = index_of run n has in
    ap (λ m. same (val_at vs m) v) (sym at.2) ∙ same_tied (val_at vs (get_or run at.0 0)) v ∙ apart at.0 at.1

-- Runs

-- numbers of the first values are numbers of all of them
pub run_grows : (vs : List Val) (m : ℕ) (run : List ℕ) → m ≤ length vs → IsRun (take m vs) run → IsRun vs run
run_grows vs m run within is_run = record {
  below = λ n has. omega (arith, is_run.below n has, length-take-le m vs within);
  rising = λ j k up h. (λ i. is_lt (compare (sym (first k h) i) (sym (first j (omega arith)) i))) ∙ is_run.rising j k up h;
}
  where
    first : (k : ℕ) → k < length run → val_at (take m vs) (get_or run k 0) ≡ val_at vs (get_or run k 0)
    first k h = get_or-take m vs (get_or run k 0) unit (omega (arith, below_at is_run k h, length-take-le m vs within))

-- what stands in runs of numbers of some values is one of these
in_runs : {vs : List Val} (runs : List (List ℕ)) → ((j : ℕ) → j < length runs → IsRun vs (get_or runs j [])) → (n : ℕ) → is_held runs n ≡ true → n < length vs
in_runs [] are n held = absurd (cc held)
in_runs {vs = vs} (run ∷ runs) are n held =
    ⊎_elim (λ has. (are 0 (omega arith)).below n has) (in_runs {vs = vs} runs (λ j h. are (suc j) (omega (arith, h))) n)
    (or_cases (has_number run n) (is_held runs n) held)

held_before : (runs : List (List ℕ)) (from n : ℕ) → is_held runs n ≡ is_held (take from runs) n || is_held (drop from runs) n
held_before runs from n =
    ap (λ l. is_held l n) (sym (take-append-drop from runs)) ∙ list_any-append (λ r. has_number r n) (take from runs) (drop from runs)

-- numbers in a row
in_row : (m k n : ℕ) → has_number (numbers_from m k) n ≡ true → n < m + k
in_row m zero n has = absurd (cc has)
in_row m (suc k) n has = ⊎_elim (λ is. omega (arith, exact_unsigned_eq n m is)) (λ later. omega (arith, in_row (suc m) k n later))
    (or_cases (nat_eq n m) (has_number (numbers_from (suc m) k) n) has)

not_in_row : (m k n : ℕ) → has_number (numbers_from m k) n ≡ false → n < m + k → n < m
not_in_row m zero n has h = omega (arith, h)
not_in_row m (suc k) n has h = by (nat_eq n m) refl has (λ lacks. not_in_row (suc m) k n lacks (omega (arith, h)))
  where
    by : (b : Bool) → nat_eq n m ≡ b → (b || has_number (numbers_from (suc m) k) n) ≡ false
        → (has_number (numbers_from (suc m) k) n ≡ false → n < suc m) → n < m
    by true is lacks before = absurd (true≢false lacks)
    by false is lacks before = omega (arith, before lacks, other)
      where
        other : n ≡ m → ⊥
        other e = true≢false (sym (ap (λ j. nat_eq j m) e ∙ nat_eq_equiv.refl m) ∙ is)

row_next : (m k : ℕ) → numbers_from m k ++ (m + k) ∷ [] ≡ numbers_from m (suc k)
row_next m zero = let same : m + 0 ≡ m = omega arith in ap (λ n. n ∷ []) same
row_next m (suc k) =
    let same : m + suc k ≡ suc m + k = omega arith in
    ap (λ n. m ∷ (numbers_from (suc m) k ++ n ∷ [])) same ∙ ap (λ (l : List ℕ). m ∷ l) (row_next (suc m) k)

-- and the next one
pub row_more : (m n : ℕ) (done new : List ℕ) → m ≤ n → new ≡ done ++ n ∷ [] → done ≡ numbers_from m (n - m) → new ≡ numbers_from m (n + 1 - m)
row_more m n done new h pushed so =
    let last : n ≡ m + (n - m) = omega (arith, h) in
    let count : suc (n - m) ≡ n + 1 - m = omega (arith, h) in
    pushed ∙ (λ j. so j ++ last j ∷ []) ∙ row_next m (n - m) ∙ ap (numbers_from m) count

-- the next numbers and those of runs of the first values are numbers of the values
pub numbers_after : (vs : List Val) (m k : ℕ) (runs : List (List ℕ)) (from : ℕ) → length vs ≡ m + k → AreRuns (take m vs) runs
    → (n : ℕ) → has_number (numbers_from m k ++ joined (drop from runs)) n ≡ true → n < length vs
numbers_after vs m k runs from more were n has = ⊎_elim here there (or_cases (has_number (numbers_from m k) n)
    (has_number (joined (drop from runs)) n) (sym (list_any-append (nat_eq n) (numbers_from m k) (joined (drop from runs))) ∙ has))
  where
    here : has_number (numbers_from m k) n ≡ true → n < length vs
    here is = omega (arith, more, in_row m k n is)

    there : has_number (joined (drop from runs)) n ≡ true → n < length vs
    there is =
        let held : is_held runs n ≡ true =
        held_before runs from n ∙ or_right (is_held (take from runs) n) (is_held (drop from runs) n)
        (sym (number_joined (drop from runs) n) ∙ is) in
        let below : n < length (take m vs) = in_runs runs were.sorted n held in
        omega (arith, length-take-le m vs (omega arith))

-- the numbers of a run in place of those from one on
module _ (vs : List Val) (m k : ℕ) (runs : List (List ℕ)) (from : ℕ) (run : List ℕ) (more : length vs ≡ m + k)
    (were : AreRuns (take m vs) runs) (moved : IsPermutation (numbers_from m k ++ joined (drop from runs)) run) where
  short : length (take m vs) ≡ m
  short = length-take-le m vs (omega arith)

  held_after : (n : ℕ) → is_held (take from runs ++ run ∷ []) n
      ≡ is_held (take from runs) n || (has_number (numbers_from m k) n || is_held (drop from runs) n)
  held_after n =
      list_any-append (λ r. has_number r n) (take from runs) (run ∷ []) ∙ ap (λ b. is_held (take from runs) n || b)
      (or_false (has_number run n) ∙ sym (list_any-IsPermutation (nat_eq n) (numbers_from m k ++ joined (drop from runs)) run moved)
      ∙ list_any-append (nat_eq n) (numbers_from m k) (joined (drop from runs))
      ∙ ap (λ b. has_number (numbers_from m k) n || b) (number_joined (drop from runs) n))
    where
      or_false : (b : Bool) → b || false ≡ b
      or_false true = refl
      or_false false = refl

  each_held : (n : ℕ) → n < length vs → is_held (take from runs ++ run ∷ []) n ≡ true
  each_held n h = held_after n ∙ ⊎_elim (λ is. or_right before (new || behind) (or_left new behind is)) older (cases_Bool new)
    where
      before : Bool
      before = is_held (take from runs) n

      new : Bool
      new = has_number (numbers_from m k) n

      behind : Bool
      behind = is_held (drop from runs) n

      older : new ≡ false → (before || (new || behind)) ≡ true
      older is = ⊎_elim (λ a. or_left before (new || behind) a) (λ b. or_right before (new || behind) (or_right new behind b))
          (or_cases before behind (sym (held_before runs from n)
          ∙ were.each n (omega (arith, short, not_in_row m k n is (omega (arith, h, more))))))

  pub runs_after : from ≤ length runs → IsRun vs run → AreRuns vs (take from runs ++ run ∷ [])
  runs_after within is_run = record { sorted = λ j h. at j h; each = each_held }
    where
      front : length (take from runs) ≡ from
      front = length-take-le from runs within

      at : (j : ℕ) → j < length (take from runs ++ run ∷ []) → IsRun vs (get_or (take from runs ++ run ∷ []) j [])
      at j h = ⊎_elim early last (cases_lt j from)
        where
          early : j < from → IsRun vs (get_or (take from runs ++ run ∷ []) j [])
          early before =
              subst (IsRun vs)
              (sym (get_or_append_left (take from runs) (run ∷ []) [] j (omega (arith, front, before)) ∙ get_or-take from runs j [] before))
              (run_grows vs m (get_or runs j []) (omega arith) (were.sorted j (omega (arith, before, within))))

          last : from ≤ j → IsRun vs (get_or (take from runs ++ run ∷ []) j [])
          last behind =
              subst (IsRun vs)
              (sym (get_or_at (take from runs) run [] [] j (omega (arith, front, behind, h, length-append (take from runs) (run ∷ [])))))
              is_run

-- Sorting

-- a number with its value
abbrev pub with_value : List Val → ℕ → Val × ℕ
with_value vs n = (val_at vs n, n)

abbrev pub keyed_of : ByContents × ℕ → Val × ℕ
keyed_of e = (view e.0.0.now, e.1)

seconds_of : (vs : List Val) (es : List (ByContents × ℕ)) (ns : List ℕ) → map keyed_of es ≡ map (with_value vs) ns → (All (λ e. view e.0.0.now ≡ val_at vs e.1) es) × (map (λ (e : ByContents × ℕ). e.1) es ≡ ns)
seconds_of vs [] [] same = (All-nil (λ (e : ByContents × ℕ). view e.0.0.now ≡ val_at vs e.1), refl)
seconds_of vs [] (n ∷ ns) same = absurd (omega (arith, ap length same))
seconds_of vs (e ∷ es) [] same = absurd (omega (arith, ap length same))
seconds_of vs (e ∷ es) (n ∷ ns) same =
    let here : keyed_of e ≡ with_value vs n = ap (λ (l : List (Val × ℕ)). get_or l 0 (unit, 0)) same in
    let rest = seconds_of vs es ns (ap (λ (l : List (Val × ℕ)). drop 1 l) same) in (
      All-cons (λ (e : ByContents × ℕ). view e.0.0.now ≡ val_at vs e.1) e es
          (ap (λ (p : Val × ℕ). p.0) here ∙ ap (λ (p : Val × ℕ). val_at vs p.1) (sym here)) rest.0,
      λ j. (here j).1 ∷ rest.1 j,
    )

-- values by their order, and equal ones by their numbers
abbrev pub keyed_order : ByContents × ℕ → ByContents × ℕ → Ordering
keyed_order a b = ordering_then (compare (view a.0.0.now) (view b.0.0.now)) (nat_cmp a.1 b.1)

keyed_weak : IsStrictWeakOrder (λ a b. is_lt (keyed_order a b))
keyed_weak = ranks_by (then_total (on_total (λ (p : Val × ℕ). p.0) compare_total) (on_total (λ (p : Val × ℕ). p.1) nat_cmp_total)) keyed_of

first_not_less : (r s : Ordering) → is_lt (ordering_then r s) ≡ false → is_lt r ≡ false
first_not_less Less s not = not
first_not_less Equal s not = refl
first_not_less Greater s not = refl

-- what was sorted by the values is a run
pub sorted_run : (vs : List Val) (numbers : List ℕ) (keyed entries : List (ByContents × ℕ)) → ((n : ℕ) → has_number numbers n ≡ true → n < length vs) → map keyed_of keyed ≡ map (with_value vs) numbers → IsPermutation keyed entries → IsSortedBy (λ a b. is_lt (keyed_order a b)) entries → (IsPermutation numbers (map (λ (e : ByContents × ℕ). e.1) entries)) × (IsRun vs (map (λ (e : ByContents × ℕ). e.1) entries))
sorted_run vs numbers keyed entries below same moved sorted = (permuted, record { below = λ n has. below n (list_any-IsPermutation (nat_eq n) numbers (map (λ (e : ByContents × ℕ). e.1) entries) permuted ∙ has); rising = rises entries sorted told })
  where
    parts : (All (λ e. view e.0.0.now ≡ val_at vs e.1) keyed) × (map (λ (e : ByContents × ℕ). e.1) keyed ≡ numbers)
    parts = seconds_of vs keyed numbers same

    permuted : IsPermutation numbers (map (λ (e : ByContents × ℕ). e.1) entries)
    permuted = subst (λ ns. IsPermutation ns (map (λ (e : ByContents × ℕ). e.1) entries)) parts.1 (IsPermutation-map (λ (e : ByContents × ℕ). e.1) keyed entries moved)

    told : All (λ e. view e.0.0.now ≡ val_at vs e.1) entries
    told = All-permutation (λ (e : ByContents × ℕ). view e.0.0.now ≡ val_at vs e.1) keyed entries moved parts.0

    rises : (es : List (ByContents × ℕ)) → IsSortedBy (λ a b. is_lt (keyed_order a b)) es → All (λ e. view e.0.0.now ≡ val_at vs e.1) es → (j k : ℕ) → j ≤ k → k < length (map (λ (e : ByContents × ℕ). e.1) es) → is_lt (compare (val_at vs (get_or (map (λ (e : ByContents × ℕ). e.1) es) k 0)) (val_at vs (get_or (map (λ (e : ByContents × ℕ). e.1) es) j 0))) ≡ false
    rises [] up all j k before h = absurd (omega (arith, h))
    rises (e ∷ es) up all j k before h =
        let within : k < length (e ∷ es) = omega (arith, h, length-map (e ∷ es) (λ (e : ByContents × ℕ). e.1)) in
        let sooner : j < length (e ∷ es) = omega arith in
        let far = sorted_far (λ a b. is_lt (keyed_order a b)) keyed_weak (e ∷ es) up j k e before within in
        (λ i. is_lt (compare (at k within i) (at j sooner i))) ∙ first_not_less _ _ far
      where
        at : (k : ℕ) → k < length (e ∷ es) → val_at vs (get_or (map (λ (e : ByContents × ℕ). e.1) (e ∷ es)) k 0) ≡ view (get_or (e ∷ es) k e).0.0.now
        at k h = ap (val_at vs) (get_or-map (λ (e : ByContents × ℕ). e.1) (e ∷ es) k e 0 h) ∙ sym (all k e h)

-- one more number with its value
pub keyed_more : (values : List Value) (numbers : List ℕ) (i : ℕ) (x : Value) (done new : List (Val × ℕ)) → i < length numbers → get_or numbers i 0 < length values → x ≡ get_or values (get_or numbers i 0) x → new ≡ done ++ (view x, get_or numbers i 0) ∷ [] → done ≡ map (with_value (map view values)) (take i numbers) → new ≡ map (with_value (map view values)) (take (i + 1) numbers)
keyed_more values numbers i x done new h within is pushed so =
    pushed ∙ (λ j. so j ++ (sym (val_is values (get_or numbers i 0) x within is) j, get_or numbers i 0) ∷ [])
    ∙ sym (map_more (with_value (map view values)) numbers i 0 h)

-- Reading

-- what a function makes of an element that was read
pub read_map : {X Y : Type 0} (f : X → Y) (xs : List X) (i : ℕ) (x : X) (d : Y) → i < length xs → x ≡ get_or xs i x → f x ≡ get_or (map f xs) i d
read_map f xs i x d h is = ap f is ∙ sym (get_or-map f xs i x d h)

-- one more run's numbers
pub joined_more : (runs : List (List ℕ)) (i : ℕ) (run done new all : List ℕ) → i < length runs → run ≡ get_or runs i [] → new ≡ done ++ run → done ++ joined (drop i runs) ≡ all → new ++ joined (drop (i + 1) runs) ≡ all
joined_more runs i run done new all h is pushed so =
    ap (λ l. l ++ joined (drop (i + 1) runs)) pushed ∙ append_assoc done run (joined (drop (i + 1) runs))
    ∙ (λ j. done ++ (is j ++ joined (drop (i + 1) runs))) ∙ ap (λ l. done ++ joined l) (sym (drop_more runs i [] h)) ∙ so

-- what was found in a run is there
pub there_found : (values : List Value) (v : Val) (o : Option ℕ) → is_some o ≡ true → IfSome o (λ n. n < length values) → IfSome o (λ n. same (val_at (map view values) n) v ≡ true) → is_some o ≡ is_there v (vals_view values)
there_found values v None some within is = absurd (true≢false (sym some))
there_found values v (Some n) some within is = sym (there_at values n v within is)

pub of_none : {P : Type 0} (o : Option ℕ) → is_some o ≡ false → IfNone o P → P
of_none None none p = p
of_none (Some n) none p = absurd (true≢false none)

-- one more run without the value
pub lacks_more : {P : ℕ → Type 0} (runs : List (List ℕ)) (i : ℕ) → i < length runs → ((n : ℕ) → is_held (take i runs) n ≡ true → P n) → ((n : ℕ) → has_number (get_or runs i []) n ≡ true → P n) → (n : ℕ) → is_held (take (i + 1) runs) n ≡ true → P n
lacks_more runs i h before here n held =
    ⊎_elim (before n) (here n)
    (or_cases (is_held (take i runs) n) (has_number (get_or runs i []) n)
    (sym (list_any_more (λ r. has_number r n) runs i [] h) ∙ held))
