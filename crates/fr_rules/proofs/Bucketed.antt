-- Buckets of the front of a sorted list, and one bucket more.
use Rattle.std.proofs.Common.{◌≡◌, ℕ, ◌+◌, ◌-◌, ◌<◌, ◌≤◌, true, false, List, [], ◌∷◌, ◌++◌, length, get_or, take, drop, sym, ap, ◌∙◌, subst, arith}
use Rattle.std.specs.List.{filter, All, Contains}
use Rattle.std.specs.List.Sorted.{IsPermutation, IsStrictlyIncreasing}
use Rattle.std.proofs.lemmas.Bool.{eqb-true, eq-eqb, ne_eqb}
use Rattle.std.proofs.lemmas.List.{append-nil, length-append, length-take, length-drop, take_all, drop-drop, map_push}
use Rattle.std.proofs.lemmas.List.Elements.{All-nil, All-append, All-push, All-map, All-weaker, All-same, All-take, All-drop, Contains-append_left, Contains-push, filter-append, filter_passes}
use Rattle.std.proofs.lemmas.List.Sorted.{All-permutation, IsPermutation-sym}
use Rattle.fr_rules.specs.declared.entries.FieldLookupEntry.{FieldLookupEntry}
use Rattle.fr_rules.specs.declared.buckets.PrefixBucket.{PrefixBucket}
use Rattle.fr_rules.specs.Prefixes.{prefix_in, has_prefix}
use Rattle.fr_rules.specs.Buckets.{run_of, prefixes_of, IsInside, IsBucketed}
use Rattle.fr_rules.proofs.Sorting.{keeps_none, keeps_all}
use Rattle.fr_rules.proofs.Parts.{from_some, part_of_front, part_behind, take_add, increasing_push}

module _ (prefix_len : ℕ) where
  abbrev key : FieldLookupEntry → ℕ
  key = prefix_in prefix_len

  abbrev IsRun : (entries stored : List FieldLookupEntry) → PrefixBucket → Type 0
  IsRun entries stored bucket = run_of stored bucket ≡ filter (has_prefix prefix_len bucket.prefix) entries

  -- a bucket's prefix is that of an entry
  below_next : (done : List FieldLookupEntry) (bucket : PrefixBucket) (next : ℕ) → IsInside done bucket → IsRun done done bucket
      → All (λ entry. key entry < next) done → bucket.prefix < next
  below_next done bucket next inside run below =
      let some : 0 < length (run_of done bucket) = omega (arith, length-take (bucket.start + bucket.len - bucket.start) (drop bucket.start done), length-drop bucket.start done) in
      let same : All (λ entry. key entry ≡ bucket.prefix) (run_of done bucket) =
      All-same (λ entry. key entry ≡ bucket.prefix) _ _ run
      (All-weaker (λ entry. has_prefix prefix_len bucket.prefix entry ≡ true) (λ entry. key entry ≡ bucket.prefix) (λ entry passes. eqb-true _ _ passes) _
      (filter_passes (has_prefix prefix_len bucket.prefix) done)) in
      from_some (λ entry. key entry ≡ bucket.prefix) (λ entry. key entry < next) (bucket.prefix < next) (λ entry e less. subst (λ n. n < next) e less)
      (run_of done bucket) some same
      (All-take (λ entry. key entry < next) _ _ (All-drop (λ entry. key entry < next) _ _ below))

  module _ (done run : List FieldLookupEntry) (buckets : List PrefixBucket) (bucket : PrefixBucket)
      (described : IsBucketed prefix_len done done buckets)
      (starts : bucket.start ≡ length done) (long : bucket.len ≡ length run) (some : 0 < bucket.len)
      (below : All (λ entry. key entry < bucket.prefix) done) (same : All (λ entry. key entry ≡ bucket.prefix) run) where
    all_below : All (λ (b : PrefixBucket). b.prefix < bucket.prefix) buckets
    all_below i d within = below_next done (get_or buckets i d) bucket.prefix (described.inside i d within) (described.runs i d within) below

    old_run : (b : PrefixBucket) → IsInside done b → IsRun done done b → b.prefix < bucket.prefix → IsRun (done ++ run) (done ++ run) b
    old_run b inside is less =
        let none : filter (has_prefix prefix_len b.prefix) run ≡ [] =
        keeps_none _ run (All-weaker (λ entry. key entry ≡ bucket.prefix) (λ entry. has_prefix prefix_len b.prefix entry ≡ false)
        (λ entry e. ne_eqb _ _ (λ other. absurd (omega arith))) run same) in
        part_of_front done run b.start b.len inside.1 ∙ is
        ∙ sym (filter-append (has_prefix prefix_len b.prefix) done run ∙ ap (λ l. filter (has_prefix prefix_len b.prefix) done ++ l) none ∙ append-nil _)

    new_run : IsRun (done ++ run) (done ++ run) bucket
    new_run =
        let none : filter (has_prefix prefix_len bucket.prefix) done ≡ [] =
        keeps_none _ done (All-weaker (λ entry. key entry < bucket.prefix) (λ entry. has_prefix prefix_len bucket.prefix entry ≡ false)
        (λ entry less. ne_eqb _ _ (λ other. absurd (omega arith))) done below) in
        let all : filter (has_prefix prefix_len bucket.prefix) run ≡ run =
        keeps_all _ run (All-weaker (λ entry. key entry ≡ bucket.prefix) (λ entry. has_prefix prefix_len bucket.prefix entry ≡ true)
        (λ entry e. eq-eqb _ _ e) run same) in
        part_behind done run bucket.start bucket.len starts long
        ∙ sym (filter-append (has_prefix prefix_len bucket.prefix) done run ∙ ap (λ l. l ++ filter (has_prefix prefix_len bucket.prefix) run) none ∙ all)

    abbrev more : List PrefixBucket
    more = buckets ++ bucket ∷ []

    with_prefix : prefixes_of more ≡ prefixes_of buckets ++ bucket.prefix ∷ []
    with_prefix = map_push (λ (b : PrefixBucket). b.prefix) buckets bucket

    pub bucket_added : IsBucketed prefix_len (done ++ run) (done ++ run) more
    bucket_added = record {
      ascending =
          subst IsStrictlyIncreasing (sym with_prefix)
          (increasing_push _ bucket.prefix described.ascending (All-map (λ n. n < bucket.prefix) (λ (b : PrefixBucket). b.prefix) buckets all_below));
      inside = All-push (IsInside (done ++ run)) buckets bucket
          (All-weaker (IsInside done) (IsInside (done ++ run)) (λ b inside. (inside.0, omega (arith, inside.1, length-append done run))) buckets described.inside)
          (some, omega (arith, length-append done run));
      runs = All-push (IsRun (done ++ run) (done ++ run)) buckets bucket
          (λ i d within. old_run (get_or buckets i d) (described.inside i d within) (described.runs i d within) (all_below i d within))
          new_run;
      complete =
          subst (λ prefixes. All (λ entry. Contains prefixes (key entry)) (done ++ run)) (sym with_prefix)
          (All-append (λ entry. Contains (prefixes_of buckets ++ bucket.prefix ∷ []) (key entry)) done run
          (All-weaker (λ entry. Contains (prefixes_of buckets) (key entry)) (λ entry. Contains (prefixes_of buckets ++ bucket.prefix ∷ []) (key entry))
          (λ entry there. Contains-append_left _ _ _ there) done described.complete)
          (All-weaker (λ entry. key entry ≡ bucket.prefix) (λ entry. Contains (prefixes_of buckets ++ bucket.prefix ∷ []) (key entry))
          (λ entry e. subst (Contains (prefixes_of buckets ++ bucket.prefix ∷ [])) (sym e) (Contains-push _ _)) run same));
    }

  -- the buckets describe the sorted entries before `start`, whose prefixes are all below those of the others
  pub record DescribesFront (sorted : List FieldLookupEntry) (start : ℕ) (buckets : List PrefixBucket) : Type 0 where
    pub within : start ≤ length sorted
    pub described : IsBucketed prefix_len (take start sorted) (take start sorted) buckets
    pub below : All (λ entry. All (λ other. key entry < key other) (drop start sorted)) (take start sorted)

  module _ (sorted : List FieldLookupEntry) (start : ℕ) (buckets : List PrefixBucket) (bucket : PrefixBucket)
      (front : DescribesFront sorted start buckets)
      (starts : bucket.start ≡ start) (some : 0 < bucket.len) (within : start + bucket.len ≤ length sorted)
      (same : All (λ entry. key entry ≡ bucket.prefix) (take bucket.len (drop start sorted)))
      (others : All (λ entry. bucket.prefix < key entry) (drop (start + bucket.len) sorted)) where
    abbrev next_run : List FieldLookupEntry
    next_run = take bucket.len (drop start sorted)

    long_front : length (take start sorted) ≡ start
    long_front = omega (arith, length-take start sorted, front.within)

    long_run : length next_run ≡ bucket.len
    long_run = omega (arith, length-take bucket.len (drop start sorted), length-drop start sorted)

    -- what stands before the next start
    both : take start sorted ++ next_run ≡ take (start + bucket.len) sorted
    both = sym (take_add start bucket.len sorted)

    -- each entry before the run is below it
    below_run : All (λ entry. key entry < bucket.prefix) (take start sorted)
    below_run = All-weaker (λ entry. All (λ other. key entry < key other) (drop start sorted)) (λ entry. key entry < bucket.prefix)
        (λ entry less. from_some (λ other. key entry < key other) (λ other. key other ≡ bucket.prefix) (key entry < bucket.prefix)
        (λ other above e. subst (λ n. key entry < n) e above) next_run (omega (arith, long_run)) (All-take (λ other. key entry < key other) bucket.len _ less) same)
        (take start sorted) front.below

    pub describes_more : DescribesFront sorted (start + bucket.len) (buckets ++ bucket ∷ [])
    describes_more = record {
      within = within;
      described =
          subst (λ done. IsBucketed prefix_len done done (buckets ++ bucket ∷ [])) both
          (bucket_added (take start sorted) next_run buckets bucket front.described (starts ∙ sym long_front) (sym long_run) some below_run same);
      below =
          subst (All (λ entry. All (λ other. key entry < key other) (drop (start + bucket.len) sorted))) both
          (All-append (λ entry. All (λ other. key entry < key other) (drop (start + bucket.len) sorted)) (take start sorted) next_run
          (All-weaker (λ entry. All (λ other. key entry < key other) (drop start sorted)) (λ entry. All (λ other. key entry < key other) (drop (start + bucket.len) sorted))
          (λ entry less. subst (All (λ other. key entry < key other)) (drop-drop bucket.len start sorted) (All-drop (λ other. key entry < key other) bucket.len (drop start sorted) less))
          (take start sorted) front.below)
          (All-weaker (λ entry. key entry ≡ bucket.prefix) (λ entry. All (λ other. key entry < key other) (drop (start + bucket.len) sorted))
          (λ entry e. All-weaker (λ other. bucket.prefix < key other) (λ other. key entry < key other)
          (λ other above. subst (λ n. n < key other) (sym e) above) (drop (start + bucket.len) sorted) others)
          next_run same));
    }

  -- the same buckets describe the entries as they stood before a stable sort
  pub bucketed_before : (entries stored : List FieldLookupEntry) (buckets : List PrefixBucket) → IsPermutation entries stored
      → ((prefix : ℕ) → filter (has_prefix prefix_len prefix) stored ≡ filter (has_prefix prefix_len prefix) entries)
      → IsBucketed prefix_len stored stored buckets → IsBucketed prefix_len entries stored buckets
  bucketed_before entries stored buckets moved stable described = record {
    ascending = described.ascending;
    inside = described.inside;
    runs = All-weaker (IsRun stored stored) (IsRun entries stored) (λ b run. run ∙ stable b.prefix) buckets described.runs;
    complete = All-permutation (λ entry. Contains (prefixes_of buckets) (key entry)) stored entries (IsPermutation-sym entries stored moved) described.complete;
  }
