-- Finding a key by the index of the names.
use Rattle.std.proofs.Common.{◌≡◌, ℕ, zero, suc, ◌<◌, ◌≤◌, Bool, true, false, not, ◌||◌, true≢false, List, [], ◌∷◌, length, map, Option, Some, None, is_some, IfSome, slice_get, refl, sym, ap, subst, ◌∙◌, arith}
use Rattle.fr_values.specs.Common.{Val, Value, entry_found, is_there, keys_apart, names_of, option_map, same, val_at, vals_view, view}
use Rattle.std.specs.Str.{bytes_eq}
use Rattle.std.proofs.lemmas.Bool.{and_parts}
use Rattle.std.proofs.lemmas.List.{length-map}
use Rattle.std.proofs.lemmas.Slice.Eq.{bytes_eq-Decides}
use Rattle.fr_shape.specs.Val.{text}
use Rattle.fr_shape.specs.View.{vals_of}
use Rattle.fr_model.specs.Dynamics.{key_nth, lacks}
use Rattle.fr_values.specs.KeyNames.{name_of}

bytes_are : (xs ys : List ℕ) → bytes_eq xs ys ≡ true → xs ≡ ys
bytes_are xs ys e = (bytes_eq-Decides xs ys).0 e

bytes_same : (xs ys : List ℕ) → xs ≡ ys → bytes_eq xs ys ≡ true
bytes_same xs ys e = (bytes_eq-Decides xs ys).1 e

-- a key that is lacked isn't at any place
lacked : (key : List ℕ) (keys : List (List ℕ)) (n : ℕ) → lacks key keys ≡ true → n < length keys
    → same (val_at (map text keys) n) (text key) ≡ true → ⊥
lacked key [] n e h is = absurd (omega (arith, h))
lacked key (other ∷ keys) zero e h is =
    let both = and_parts (not (bytes_eq key other)) (lacks key keys) e in
    let same_one : bytes_eq key other ≡ true = bytes_same key other (sym (bytes_are other key is)) in
    true≢false (sym both.0 ∙ ap not same_one)
lacked key (other ∷ keys) (suc n) e h is =
    let both = and_parts (not (bytes_eq key other)) (lacks key keys) e in
    lacked key keys n both.1 (omega (arith, h)) is

at_key : (key : List ℕ) (keys : List (List ℕ)) (n : ℕ) → keys_apart keys ≡ true → n < length keys
    → same (val_at (map text keys) n) (text key) ≡ true → Some n ≡ entry_found key keys
at_key key [] n e h is = absurd (omega (arith, h))
at_key key (other ∷ keys) zero e h is =
    let same_one : bytes_eq key other ≡ true = bytes_same key other (sym (bytes_are other key is)) in
    rw same_one refl
at_key key (other ∷ keys) (suc n) e h is =
    let both = and_parts (lacks other keys) (keys_apart keys) e in
    let rest : Some n ≡ entry_found key keys = at_key key keys n both.1 (omega (arith, h)) is in
    go (bytes_eq key other) refl both.0 rest
  where
    go : (b : Bool) → bytes_eq key other ≡ b → lacks other keys ≡ true → Some n ≡ entry_found key keys
        → Some (suc n) ≡ entry_found key (other ∷ keys)
    go true same_one away rest =
        let so : key ≡ other = bytes_are key other same_one in
        absurd (lacked other keys n away (omega (arith, h)) (ap (λ (k : List ℕ). same (val_at (map text keys) n) (text k)) (sym so) ∙ is))
    go false apart away rest = rw apart (ap (option_map suc) rest)

not_there : (key : List ℕ) (keys : List (List ℕ)) → false ≡ is_there (text key) (vals_of (map text keys)) → None ≡ entry_found key keys
not_there key [] e = refl
not_there key (other ∷ keys) e = go (bytes_eq other key) refl (bytes_eq key other) refl e (not_there key keys)
  where
    go : (a : Bool) → bytes_eq other key ≡ a → (b : Bool) → bytes_eq key other ≡ b → false ≡ (a || is_there (text key) (vals_of (map text keys)))
        → (false ≡ is_there (text key) (vals_of (map text keys)) → None ≡ entry_found key keys) → None ≡ entry_found key (other ∷ keys)
    go true here b back e rest = absurd (cc e)
    go false here true back e rest = absurd (true≢false (sym (bytes_same other key (sym (bytes_are key other back))) ∙ here))
    go false here false back e rest = rw back (ap (option_map suc) (rest e))

-- what the index finds is the entry of the key
pub found_is : (key : List ℕ) (keys : List (List ℕ)) (o : Option ℕ) → keys_apart keys ≡ true
    → is_some o ≡ is_there (text key) (vals_of (map text keys)) → IfSome o (λ n. n < length keys)
    → IfSome o (λ n. same (val_at (map text keys) n) (text key) ≡ true) → o ≡ entry_found key keys
found_is key keys (Some n) apart there within is = at_key key keys n apart within is
found_is key keys None apart there within is = not_there key keys there

-- what the index finds in the names is the entry of the key
pub found_in : (key : List ℕ) (keys : List (List ℕ)) (names slice : List Value) (v : Val) (o : Option ℕ)
    → is_some o ≡ is_there v (vals_view slice) → IfSome o (λ n. n < length slice)
    → IfSome o (λ n. same (val_at (map view slice) n) v ≡ true) → v ≡ text key → slice ≡ names → map view names ≡ map text (names_of names)
    → names_of names ≡ keys → keys_apart keys ≡ true → o ≡ entry_found key keys
found_in key keys names slice v o there within is shown sliced texts named apart =
    let so : map view slice ≡ map text keys = ap (map view) sliced ∙ texts ∙ ap (map text) named in
    let long : length slice ≡ length keys = sym (length-map slice view) ∙ ap length so ∙ length-map keys text in
    found_is key keys o apart (there ∙ (λ j. is_there (shown j) (vals_of (so j))))
    (subst (λ (count : ℕ). IfSome o (λ n. n < count)) long within)
    (subst (λ (vs : List Val). IfSome o (λ n. same (val_at vs n) (text key) ≡ true)) so
    (subst (λ (u : Val). IfSome o (λ n. same (val_at (map view slice) n) u ≡ true)) shown is))

-- The name of a number, if there is one.

pub name_nth : (names : List Value) (i : ℕ) (name : Value) → slice_get names i ≡ Some name → name_of (view name) ≡ key_nth (names_of names) i
name_nth [] i name e = cc
name_nth (other ∷ names) zero name e = let same : other ≡ name = cc in ap (λ (v : Value). name_of (view v)) (sym same)
name_nth (other ∷ names) (suc i) name e = name_nth names i name e

pub no_name_nth : (names : List Value) (i : ℕ) → length names ≤ i → [] ≡ key_nth (names_of names) i
no_name_nth [] i h = refl
no_name_nth (other ∷ names) zero h = absurd (omega (arith, h))
no_name_nth (other ∷ names) (suc i) h = no_name_nth names i (omega (arith, h))
