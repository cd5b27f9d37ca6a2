-- Which shapes have a name that an earlier one has.
use Rattle.std.proofs.Common.{◌≡◌, ℕ, ◌<◌, ◌≤◌, Bool, true, false, not, List, [], ◌∷◌, length, take, get_or, map, Option, None, Some, MatchOption, sym, ap, ◌∙◌, arith}
use Rattle.std.specs.List.{list_any, slice_get}
use Rattle.std.specs.Option.{IfSome}
use Rattle.std.specs.Str.{bytes_eq}
use Rattle.std.specs.Cmp.Lexicographic.{nat_list_eq_equiv}
use Rattle.std.proofs.lemmas.List.{get_or-map, take-map, take_all, length-map, length-take-le, get_or-take, take-take}
use Rattle.std.proofs.lemmas.Option.{get_or_from_slice_get, slice_get-get_or, slice_get_within}
use Rattle.fr_shape.specs.declared.shape.Shape.{Shape}
use Rattle.fr_shape.specs.Look.{Table}
use Rattle.fr_shape.specs.Distinct.{distinct, IsFirstRepeated}
use Rattle.fr_shape.specs.Checked.{name_is_new, EachKeeps}
use Rattle.fr_shape.specs.Faults.{keeps, IsBrokenAt, EarlierEntriesKeep}
use Rattle.fr_shape.proofs.NoneTwice.{list_any_map, new_at, Found}

abbrev pub names : Table → List (List ℕ)
names table = map (λ (shape : Shape). shape.name) table

list_any_alike : {X : Type 0} (p q : X → Bool) → ((x : X) → p x ≡ q x) → (xs : List X) → list_any p xs ≡ list_any q xs
list_any_alike p q same xs = λ j. list_any (λ x. same x j) xs

by_name : (table : Table) (i : ℕ) (shape : Shape) → get_or table i shape ≡ shape → i < length table → name_is_new table i shape ≡ not (list_any (bytes_eq (get_or (names table) i [])) (take i (names table)))
by_name table i shape is within =
    let name : get_or (names table) i [] ≡ shape.name =
    get_or-map (λ (s : Shape). s.name) table i shape [] within ∙ ap (λ (s : Shape). s.name) is in
    ap not (list_any_alike (λ (e : Shape). bytes_eq e.name shape.name) (λ (e : Shape). bytes_eq shape.name e.name) (λ e. nat_list_eq_equiv.symm e.name shape.name) (take i table)
    ∙ list_any_map (λ (s : Shape). s.name) (bytes_eq shape.name) (take i table)
    ∙ (λ j. list_any (bytes_eq (sym name j)) (sym (take-map (λ (s : Shape). s.name) i table) j)))

broken : (table : Table) (n : ℕ) → IsFirstRepeated bytes_eq (names table) n → IsBrokenAt table 2 n
broken [] n first = absurd (omega (arith, first.within))
broken (s ∷ table) n first =
    let within : n < length (s ∷ table) = omega (arith, first.within, length-map (s ∷ table) (λ (shape : Shape). shape.name)) in
    let shape = get_or (s ∷ table) n s in
    let is : slice_get (s ∷ table) n ≡ Some shape = slice_get-get_or (s ∷ table) n s within in
    (shape, is, by_name (s ∷ table) n shape (get_or_from_slice_get (s ∷ table) n shape shape is) within ∙ ap not (first.repeated []))

-- the entries before have names of their own
names_before : (table : Table) (n : ℕ) → n ≤ length table → distinct bytes_eq (take n (names table)) ≡ true → EarlierEntriesKeep table 2 n
names_before table n few apart i shape before is =
    let within : i < length table = omega arith in
    let inside : i < length (take n (names table)) = omega (arith, length-take-le n (names table), length-map table (λ (s : Shape). s.name)) in
    let new : list_any (bytes_eq (get_or (take n (names table)) i [])) (take i (take n (names table))) ≡ false = new_at nat_list_eq_equiv (take n (names table)) i [] inside apart in
    by_name table i shape (get_or_from_slice_get table i shape shape is) within
    ∙ ap not ((λ j. list_any (bytes_eq (sym (get_or-take n (names table) i [] before) j)) (sym (take-take i n (names table) (omega arith)) j)) ∙ new)

names_new : (table : Table) → distinct bytes_eq (names table) ≡ true → EachKeeps table (keeps table 2)
names_new table apart i shape is =
    let all : take (length table) (names table) ≡ names table = take_all (length table) (names table) (omega (arith, length-map table (λ (s : Shape). s.name))) in
    names_before table (length table) (omega arith) (ap (distinct bytes_eq) all ∙ apart) i shape (slice_get_within table i shape is) is

pub taken_name : (table : Table) (found : Option ℕ) → Found bytes_eq (names table) found → MatchOption found (EachKeeps table (keeps table 2)) (λ entry. IsBrokenAt table 2 entry)
taken_name table None apart = names_new table apart
taken_name table (Some n) first = broken table n first

pub none_before : (table : Table) (found : Option ℕ) → Found bytes_eq (names table) found → IfSome found (λ entry. EarlierEntriesKeep table 2 entry)
none_before table None apart = tt
none_before table (Some n) first = names_before table n (omega (arith, first.within, length-map table (λ (s : Shape). s.name))) first.distinct_before
