-- The number of a variant, from the entries of the variants.
use Rattle.std.proofs.Common.{◌≡◌, ℕ, zero, suc, ◌+◌, ◌<◌, ◌≤◌, Bool, true, false, cond, not, ◌&&◌, ◌||◌, List, [], ◌∷◌, length, get_or, map, Option, Some, None, refl, sym, ap, ◌∙◌, subst, inl, inr, arith}
use Rattle.std.specs.List.{find, list_any, position_from, All, Contains}
use Rattle.std.specs.List.Sorted.{IsPermutation, IsNonDecreasingBy, IsPartitionedBy, IsPartitionPoint}
use Rattle.std.specs.Ordering.{nat_cmp, ordering_index, ordering_reverse, is_lt}
use Rattle.std.specs.declared.cmp.Ordering.{Ordering}
use Rattle.std.specs.declared.cmp.Ordering.TheVariants.{Less, Equal, Greater}
use Rattle.std.specs.Option.{option_map}
use Rattle.std.specs.Str.{bytes_eq}
use Rattle.std.specs.Cmp.Lexicographic.{slice_cmp, bytes_decides, nat_list_cmp_total}
use Rattle.std.proofs.lemmas.Bool.{cases_lt, and_parts}
use Rattle.std.proofs.lemmas.Iterator.Adapters.{position_from-zero}
use Rattle.std.proofs.lemmas.List.{get_or_read}
use Rattle.std.proofs.lemmas.List.Elements.{All-nil, All-cons, All-head, All-tail}
use Rattle.std.proofs.lemmas.List.Recursion.{or_at}
use Rattle.std.proofs.lemmas.List.Sorted.{All-permutation, Contains-permutation, IsPermutation-sym, searchable_from_sorted}
use Rattle.std.proofs.lemmas.Map.Lookups.{exact_bytes}
use Rattle.fr_shape.specs.declared.shape.VariantDef.{VariantDef}
use Rattle.fr_shape.specs.Checked.{names_apart}
use Rattle.fr_shape.specs.Named.{name_of}
use Rattle.fr_rules.specs.VariantLookups.{VariantEntry, variant_entries, variant_entries_from, first_numbered, is_found_by, variant_named, HaveDistinctNames, IsSortedByName}

abbrev name_in : VariantEntry → List ℕ
name_in entry = entry.0

-- ---- the entries stand for the variants

numbered_from : (name : List ℕ) (i : ℕ) (variants : List VariantDef)
    → first_numbered name (variant_entries_from i variants) ≡ position_from (is_found_by name) i variants
numbered_from name i [] = refl
numbered_from name i (variant ∷ variants) =
    elim variant.other as (λ b. first_numbered name (cond b (variant_entries_from (i + 1) variants) ((name_of variant, i) ∷ variant_entries_from (i + 1) variants))
    ≡ cond (not b && bytes_eq (name_of variant) name) (Some i) (position_from (is_found_by name) (i + 1) variants)) [
      | true ↦ numbered_from name (i + 1) variants
      | false ↦
          elim (bytes_eq (name_of variant) name) as (λ b. option_map (λ (entry : VariantEntry). entry.1)
          (cond b (Some (name_of variant, i)) (find (λ (entry : VariantEntry). bytes_eq entry.0 name) (variant_entries_from (i + 1) variants)))
          ≡ cond b (Some i) (position_from (is_found_by name) (i + 1) variants)) [
            | true ↦ refl
            | false ↦ numbered_from name (i + 1) variants
          ]
    ]

pub numbered : (name : List ℕ) (variants : List VariantDef) → first_numbered name (variant_entries variants) ≡ variant_named name variants
numbered name variants = numbered_from name 0 variants ∙ sym (position_from-zero (is_found_by name) variants)

-- ---- the entries' names are distinct where the variants' are

neither : (x y : Bool) → (x || y) ≡ false → (x ≡ false) × (y ≡ false)
neither true y none = absurd cc
neither false y none = (refl, none)

is_not : (x : Bool) → not x ≡ true → x ≡ false
is_not true fails = absurd cc
is_not false fails = refl

lacks_name : (name : List ℕ) (i : ℕ) (variants : List VariantDef) → list_any (bytes_eq name) (map name_of variants) ≡ false
    → list_any (bytes_eq name) (map name_in (variant_entries_from i variants)) ≡ false
lacks_name name i [] none = refl
lacks_name name i (variant ∷ variants) none =
    let parts = neither (bytes_eq name (name_of variant)) (list_any (bytes_eq name) (map name_of variants)) none in
    let others = lacks_name name (i + 1) variants parts.1 in
    elim variant.other as (λ b. list_any (bytes_eq name) (map name_in (cond b (variant_entries_from (i + 1) variants) ((name_of variant, i) ∷ variant_entries_from (i + 1) variants))) ≡ false) [
      | true ↦ others
      | false ↦ λ t. parts.0 t || others t
    ]

entries_apart : (i : ℕ) (variants : List VariantDef) → names_apart (map name_of variants) ≡ true
    → names_apart (map name_in (variant_entries_from i variants)) ≡ true
entries_apart i [] apart = refl
entries_apart i (variant ∷ variants) apart =
    let parts = and_parts (not (list_any (bytes_eq (name_of variant)) (map name_of variants))) (names_apart (map name_of variants)) apart in
    let others = entries_apart (i + 1) variants parts.1 in
    let lacks = lacks_name (name_of variant) (i + 1) variants (is_not _ parts.0) in
    elim variant.other as (λ b. names_apart (map name_in (cond b (variant_entries_from (i + 1) variants) ((name_of variant, i) ∷ variant_entries_from (i + 1) variants))) ≡ true) [
      | true ↦ others
      | false ↦ λ t. not (lacks t) && others t
    ]

-- ---- an entry of a name is the first where names are distinct

numbered_at_front : (name : List ℕ) (entry : VariantEntry) (entries : List VariantEntry) (b : Bool) → bytes_eq entry.0 name ≡ b
    → first_numbered name (entry ∷ entries) ≡ cond b (Some entry.1) (first_numbered name entries)
numbered_at_front name entry entries true is = ap (λ b. option_map (λ (e : VariantEntry). e.1) (cond b (Some entry) (find (λ (e : VariantEntry). bytes_eq e.0 name) entries))) is
numbered_at_front name entry entries false is = ap (λ b. option_map (λ (e : VariantEntry). e.1) (cond b (Some entry) (find (λ (e : VariantEntry). bytes_eq e.0 name) entries))) is

found_at : (name : List ℕ) (entries : List VariantEntry) (entry : VariantEntry) (k : ℕ) → names_apart (map name_in entries) ≡ true
    → k < length entries → get_or entries k entry ≡ entry → entry.0 ≡ name → first_numbered name entries ≡ Some entry.1
found_at name [] entry k apart within at same = absurd (omega arith)
found_at name (first ∷ entries) entry zero apart within at same =
    let named : bytes_eq first.0 name ≡ true = (bytes_decides first.0 name).1 (ap name_in at ∙ same) in
    numbered_at_front name first entries true named ∙ ap (λ (e : VariantEntry). Some e.1) at
found_at name (first ∷ entries) entry (suc k) apart within at same =
    let parts = and_parts (not (list_any (bytes_eq first.0) (map name_in entries))) (names_apart (map name_in entries)) apart in
    let inside : k < length entries = omega arith in
    let once : list_any (bytes_eq first.0) (map name_in entries) ≡ false = is_not _ parts.0 in
    let differs : bytes_eq first.0 name ≡ false =
    elim (bytes_eq first.0 name) as (λ b. bytes_eq first.0 name ≡ b → b ≡ false) [
      | true ↦ λ equal.
          let twice : bytes_eq first.0 (get_or entries k entry).0 ≡ true =
          (bytes_decides first.0 (get_or entries k entry).0).1 ((bytes_decides first.0 name).0 equal ∙ sym same ∙ sym (ap name_in at)) in
          let again : list_any (bytes_eq first.0) (map name_in entries) ≡ true =
          or_at (λ l. list_any (bytes_eq first.0) (map name_in l)) (λ (e : VariantEntry). bytes_eq first.0 e.0) refl (λ _ _. refl) entries k entry inside twice in
          sym again ∙ once
      | false ↦ λ _. refl
    ] refl in
    numbered_at_front name first entries false differs ∙ found_at name entries entry k parts.1 inside at same

-- the first of a name, though others have it too
found_first : (name : List ℕ) (entries : List VariantEntry) (place : ℕ) (blank : VariantEntry) → place < length entries
    → ((k : ℕ) (d : VariantEntry) → k < place → bytes_eq (get_or entries k d).0 name ≡ false) → (get_or entries place blank).0 ≡ name
    → first_numbered name entries ≡ Some (get_or entries place blank).1
found_first name [] place blank within before same = absurd (omega arith)
found_first name (entry ∷ entries) zero blank within before same =
    numbered_at_front name entry entries true ((bytes_decides entry.0 name).1 same)
found_first name (entry ∷ entries) (suc place) blank within before same =
    let inside : place < length entries = omega arith in
    numbered_at_front name entry entries false (before 0 blank (omega arith))
    ∙ found_first name entries place blank inside (λ k d earlier. before (suc k) d (omega arith)) same

absent : (name : List ℕ) (entries : List VariantEntry) → All (λ (entry : VariantEntry). bytes_eq entry.0 name ≡ false) entries → first_numbered name entries ≡ None
absent name [] none = refl
absent name (entry ∷ entries) none =
    numbered_at_front name entry entries false (All-head (λ (e : VariantEntry). bytes_eq e.0 name ≡ false) entry entries none)
    ∙ absent name entries (All-tail (λ (e : VariantEntry). bytes_eq e.0 name ≡ false) entry entries none)

-- ---- what a search among sorted entries says

abbrev pub order : List ℕ → List ℕ → Ordering
order = slice_cmp nat_cmp

-- a text is not below or above itself
level : (xs : List ℕ) → (order xs xs ≡ Less → ⊥) × (order xs xs ≡ Greater → ⊥)
level xs =
    let turned = nat_list_cmp_total.antisymm xs xs in
    (λ less. let other = ap ordering_reverse less in cc, λ greater. let other = ap ordering_reverse greater in cc)

lowest_is : (o : Ordering) → is_lt o ≡ true → ordering_index o ≡ 0
lowest_is Less below = refl
lowest_is Equal below = absurd cc
lowest_is Greater below = absurd cc

is_lowest : (o : Ordering) → ordering_index o ≡ 0 → is_lt o ≡ true
is_lowest Less lowest = refl
is_lowest Equal lowest = absurd (omega arith)
is_lowest Greater lowest = absurd (omega arith)

is_less : (o : Ordering) → is_lt o ≡ true → o ≡ Less
is_less Less below = refl
is_less Equal below = absurd cc
is_less Greater below = absurd cc

is_greater : (o : Ordering) → 1 < ordering_index o → o ≡ Greater
is_greater Less above = absurd (omega arith)
is_greater Equal above = absurd (omega arith)
is_greater Greater above = refl

differ : (xs ys : List ℕ) → (xs ≡ ys → ⊥) → bytes_eq xs ys ≡ false
differ xs ys apart =
    elim (bytes_eq xs ys) as (λ b. bytes_eq xs ys ≡ b → b ≡ false) [
      | true ↦ λ equal. absurd (apart ((bytes_decides xs ys).0 equal))
      | false ↦ λ _. refl
    ] refl

abbrev pub is_below : List ℕ → VariantEntry → Bool
is_below name entry = is_lt (order entry.0 name)

module _ (name : List ℕ) (sorted : List VariantEntry) (up : IsSortedByName sorted) where
  abbrev rank : VariantEntry → ℕ
  rank entry = ordering_index (order entry.0 name)

  ranks_up : IsNonDecreasingBy rank sorted
  ranks_up = searchable_from_sorted nat_list_cmp_total name_in sorted name up

  pub is_partitioned : IsPartitionedBy (is_below name) sorted
  is_partitioned i j blank before within below =
      is_lowest (order (get_or sorted i blank).0 name)
      (let lower : rank (get_or sorted i blank) ≤ rank (get_or sorted j blank) = ranks_up i j blank before within in
      let lowest : rank (get_or sorted j blank) ≡ 0 = lowest_is (order (get_or sorted j blank).0 name) below in
      omega arith)

  module _ (place : ℕ) (point : IsPartitionPoint (λ entry. is_below name entry ≡ true) (λ entry. is_below name entry ≡ false) sorted place) where
    before_differ : (k : ℕ) (blank : VariantEntry) → k < place → bytes_eq (get_or sorted k blank).0 name ≡ false
    before_differ k blank before =
        differ _ _ (λ same. (level name).0 (subst (λ xs. order xs name ≡ Less) same (is_less _ (point.0 k blank (omega arith) before))))

    module _ (entry : VariantEntry) (within : place < length sorted) (read : entry ≡ get_or sorted place entry) where
      -- the first entry that isn't below the name has it
      pub found_sorted : entry.0 ≡ name → Some entry.1 ≡ first_numbered name sorted
      found_sorted same =
          ap (λ (e : VariantEntry). Some e.1) read
          ∙ sym (found_first name sorted place entry within (λ k d before. before_differ k d before) (sym (ap name_in read) ∙ same))

      is_above : is_below name entry ≡ false → (entry.0 ≡ name → ⊥) → 1 < rank entry
      is_above above apart =
          elim (order entry.0 name) as (λ o. order entry.0 name ≡ o → is_lt o ≡ false → 1 < ordering_index o) [
            | Less ↦ λ _ no. absurd cc
            | Equal ↦ λ ties _. absurd (apart (exact_bytes _ _ ties))
            | Greater ↦ λ _ _. omega arith
          ] refl above

      -- it has another, and so has each behind it
      pub absent_sorted : (entry.0 ≡ name → ⊥) → None ≡ first_numbered name sorted
      absent_sorted apart =
          let above : is_below name entry ≡ false = ap (is_below name) read ∙ point.1 place entry (omega arith) within in
          let high : 1 < rank entry = is_above above apart in
          sym (absent name sorted (λ k d inside.
          elim (cases_lt k place) [
            | inl before ↦ before_differ k d before
            | inr after ↦
                let here : entry ≡ get_or sorted place d = get_or_read sorted place entry within read d in
                let further : rank entry ≤ rank (get_or sorted k d) = subst (λ (e : VariantEntry). rank e ≤ rank (get_or sorted k d)) (sym here) (ranks_up place k d after inside) in
                differ _ _ (λ same. (level name).1 (subst (λ xs. order xs name ≡ Greater) same (is_greater _ (omega arith))))
          ]))

    -- there is none that isn't below it
    pub absent_past : length sorted ≤ place → None ≡ first_numbered name sorted
    absent_past past = sym (absent name sorted (λ k blank inside. before_differ k blank (omega arith)))

-- ---- the order of entries whose names are distinct is of no account

lacked : (name : List ℕ) (entries : List VariantEntry) → first_numbered name entries ≡ None → All (λ (entry : VariantEntry). bytes_eq entry.0 name ≡ false) entries
lacked name [] none = All-nil (λ (entry : VariantEntry). bytes_eq entry.0 name ≡ false)
lacked name (entry ∷ entries) none =
    elim (bytes_eq entry.0 name) as (λ b. bytes_eq entry.0 name ≡ b → All (λ (e : VariantEntry). bytes_eq e.0 name ≡ false) (entry ∷ entries)) [
      | true ↦ λ same. let found = numbered_at_front name entry entries true same in absurd cc
      | false ↦ λ differs.
          All-cons (λ (e : VariantEntry). bytes_eq e.0 name ≡ false) entry entries differs
          (lacked name entries (sym (numbered_at_front name entry entries false differs) ∙ none))
    ] refl

-- where an entry is found
pub record IsFoundAs (name : List ℕ) (entries : List VariantEntry) (number : ℕ) (entry : VariantEntry) : Type 0 where
  pub among : Contains entries entry
  pub named : entry.0 ≡ name
  pub numbered : entry.1 ≡ number

held : (name : List ℕ) (entries : List VariantEntry) (number : ℕ) → first_numbered name entries ≡ Some number
    → (entry : VariantEntry) × IsFoundAs name entries number entry
held name [] number some = absurd cc
held name (entry ∷ entries) number some =
    elim (bytes_eq entry.0 name) as (λ b. bytes_eq entry.0 name ≡ b → (found : VariantEntry) × IsFoundAs name (entry ∷ entries) number found) [
      | true ↦ λ same.
          let here = numbered_at_front name entry entries true same in (
            entry,
            record {
              among = (0, omega arith, refl);
              named = (bytes_decides entry.0 name).0 same;
              numbered = cc;
            },
          )
      | false ↦ λ differs.
          let later = held name entries number (sym (numbered_at_front name entry entries false differs) ∙ some) in (
            later.0,
            record {
              among = (suc later.1.among.0, omega (arith, later.1.among.1), later.1.among.2);
              named = later.1.named;
              numbered = later.1.numbered;
            },
          )
    ] refl

pub moved_same : (name : List ℕ) (entries moved : List VariantEntry) → names_apart (map name_in entries) ≡ true → IsPermutation entries moved
    → first_numbered name moved ≡ first_numbered name entries
moved_same name entries moved apart permuted = go (first_numbered name moved) refl
  where
    back : IsPermutation moved entries
    back = IsPermutation-sym entries moved permuted

    go : (found : Option ℕ) → first_numbered name moved ≡ found → first_numbered name moved ≡ first_numbered name entries
    go None none =
        none ∙ sym (absent name entries (All-permutation (λ (entry : VariantEntry). bytes_eq entry.0 name ≡ false) moved entries back (lacked name moved none)))
    go (Some number) some =
        let it = held name moved number some in
        let there = Contains-permutation moved entries it.0 back it.1.among in
        some ∙ ap Some (sym it.1.numbered) ∙ sym (found_at name entries it.0 there.0 apart there.1 there.2 it.1.named)

-- what a lookup of the variants finds is the variant of the name
pub numbered_apart : (name : List ℕ) (variants : List VariantDef) (moved : List VariantEntry) → HaveDistinctNames variants
    → IsPermutation (variant_entries variants) moved → first_numbered name moved ≡ variant_named name variants
numbered_apart name variants moved distinct permuted =
    moved_same name (variant_entries variants) moved (entries_apart 0 variants distinct) permuted ∙ numbered name variants
