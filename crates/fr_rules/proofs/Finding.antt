-- The first entry of a name is among the entries with the name's prefix.
use Rattle.std.proofs.Common.{◌≡◌, ◌≢◌, ℕ, ◌+◌, ◌<◌, ◌≤◌, Bool, true, false, cond, List, [], ◌∷◌, length, get_or, Some, refl, ap, ◌∙◌, inl, inr, arith}
use Rattle.std.specs.List.{filter, find, All, Contains}
use Rattle.std.specs.List.Sorted.{IsNonDecreasingBy, IsSortedByKey, IsPartitionPoint}
use Rattle.std.specs.Ordering.{nat_cmp, ordering_index, is_lt}
use Rattle.std.specs.declared.cmp.Ordering.TheVariants.{Less, Equal, Greater}
use Rattle.std.specs.Option.{option_map}
use Rattle.std.specs.Cmp.Lexicographic.{bytes_decides}
use Rattle.std.proofs.lemmas.Bool.{eq-eqb, ne_eqb, cases_lt}
use Rattle.std.proofs.lemmas.Bool.Decides.{nat_tests}
use Rattle.std.proofs.lemmas.Cmp.{nat_cmp_total}
use Rattle.std.proofs.lemmas.List.{get_or-map, length-map}
use Rattle.std.proofs.lemmas.List.Elements.{All-map, All-weaker, All-contains}
use Rattle.std.proofs.lemmas.List.Sorted.{searchable_from_sorted}
use Rattle.fr_rules.specs.declared.entries.FieldLookupEntry.{FieldLookupEntry}
use Rattle.fr_rules.specs.declared.buckets.PrefixBucket.{PrefixBucket}
use Rattle.fr_rules.specs.Entries.{is_named, first_named}
use Rattle.fr_rules.specs.Prefixes.{prefix_of, prefix_in, has_prefix}
use Rattle.fr_rules.specs.Buckets.{run_of, prefixes_of, IsBucketed}
use Rattle.fr_rules.proofs.Sorting.{keeps_none}

module _ {X : Type 0} (test kept : X → Bool) (keeps : (x : X) → test x ≡ true → kept x ≡ true) where
  -- a filter that keeps what passes a test keeps the first that passes
  pub find-filter : (xs : List X) → find test (filter kept xs) ≡ find test xs
  find-filter [] = refl
  find-filter (x ∷ xs) =
      elim (kept x) as (λ b. kept x ≡ b → find test (cond b (x ∷ filter kept xs) (filter kept xs)) ≡ cond (test x) (Some x) (find test xs)) [
        | true ↦ λ _. ap (λ o. cond (test x) (Some x) o) (find-filter xs)
        | false ↦ λ dropped.
            elim (test x) as (λ t. test x ≡ t → find test (filter kept xs) ≡ cond t (Some x) (find test xs)) [
              | true ↦ λ passes. let stays = keeps x passes in absurd cc
              | false ↦ λ _. find-filter xs
            ] refl
      ] refl

named : (name : List ℕ) (entry : FieldLookupEntry) → is_named name entry ≡ true → entry.name ≡ name
named name entry = (bytes_decides entry.name name).0

-- an entry of a name has the name's prefix
pub first_in_run : (prefix_len : ℕ) (name : List ℕ) (entries : List FieldLookupEntry)
    → first_named name (filter (has_prefix prefix_len (prefix_of prefix_len name)) entries) ≡ first_named name entries
first_in_run prefix_len name entries =
    ap (option_map (λ (entry : FieldLookupEntry). entry.index))
    (find-filter (is_named name) (has_prefix prefix_len (prefix_of prefix_len name))
    (λ entry same. eq-eqb _ _ (ap (prefix_of prefix_len) (named name entry same))) entries)

tied : (x y : ℕ) → nat_cmp x y ≡ Equal → x ≡ y
tied x y = grind (arith, nat_tests)

less : (x y : ℕ) → nat_cmp x y ≡ Less → x ≢ y
less x y = grind (arith, nat_tests)

greater : (x y : ℕ) → nat_cmp x y ≡ Greater → x ≢ y
greater x y = grind (arith, nat_tests)

not_less : (x y : ℕ) → y ≤ x → is_lt (nat_cmp x y) ≡ false
not_less x y = grind (arith, nat_tests)

module _ (prefix_len prefix : ℕ) (entries stored : List FieldLookupEntry) (buckets : List PrefixBucket) (described : IsBucketed prefix_len entries stored buckets) where
  -- the run of the bucket that a search found
  pub run_found : (place : ℕ) (blank : PrefixBucket) → place < length buckets → nat_cmp (get_or buckets place blank).prefix prefix ≡ Equal
      → run_of stored (get_or buckets place blank) ≡ filter (has_prefix prefix_len prefix) entries
  run_found place blank within ties =
      described.runs place blank within ∙ ap (λ p. filter (has_prefix prefix_len p) entries) (tied _ _ ties)

  abbrev prefix_in_bucket : PrefixBucket → ℕ
  prefix_in_bucket bucket = bucket.prefix

  sorted : IsSortedByKey prefix_in_bucket nat_cmp buckets
  sorted place blank low high =
      let here : get_or (prefixes_of buckets) place 0 ≡ (get_or buckets place blank).prefix = get_or-map prefix_in_bucket buckets place blank 0 (omega arith) in
      let next : get_or (prefixes_of buckets) (place + 1) 0 ≡ (get_or buckets (place + 1) blank).prefix = get_or-map prefix_in_bucket buckets (place + 1) blank 0 high in
      let inside : place + 1 < length (prefixes_of buckets) = rw length-map high in
      let up = described.ascending place inside in
      let above : (get_or buckets place blank).prefix ≤ (get_or buckets (place + 1) blank).prefix = omega arith in
      not_less (get_or buckets (place + 1) blank).prefix (get_or buckets place blank).prefix above

  -- where a search finds no bucket, no entry has the prefix
  pub none_found : (place : ℕ)
      → (IsNonDecreasingBy (λ (bucket : PrefixBucket). ordering_index (nat_cmp bucket.prefix prefix)) buckets
      → IsPartitionPoint (λ (bucket : PrefixBucket). nat_cmp bucket.prefix prefix ≡ Less) (λ (bucket : PrefixBucket). nat_cmp bucket.prefix prefix ≡ Greater) buckets place)
      → filter (has_prefix prefix_len prefix) entries ≡ []
  none_found place search =
      let point = search (searchable_from_sorted nat_cmp_total prefix_in_bucket buckets prefix sorted) in
      let differ : All (λ (bucket : PrefixBucket). bucket.prefix ≢ prefix) buckets = λ i blank within.
      elim (cases_lt i place) [
        | inl before ↦ less _ _ (point.0 i blank (omega arith) before)
        | inr after ↦ greater _ _ (point.1 i blank after within)
      ] in
      keeps_none (has_prefix prefix_len prefix) entries
      (All-weaker (λ entry. Contains (prefixes_of buckets) (prefix_in prefix_len entry)) (λ entry. has_prefix prefix_len prefix entry ≡ false)
      (λ entry there. ne_eqb _ _ (All-contains (λ p. p ≢ prefix) (prefixes_of buckets) (prefix_in prefix_len entry) (All-map (λ p. p ≢ prefix) prefix_in_bucket buckets differ) there))
      entries described.complete)
