-- The keys of an object that stand apart.
use Rattle.std.proofs.Common.{◌≡◌, ◌<◌, ◌&&◌, if◌then◌else◌, ◌∷◌, ◌++◌}
use Rattle.fr_model.proofs.Common.{ℕ, suc, Bool, true, false, not, List, [], length, Option, Some, None, refl, sym, ◌∙◌, ap, arith, option_map, bytes_eq, lacks_key, members_keys_once, Members, no_members, member, entry_found, member_keys, lacks, keys_apart, key_nth}
use Rattle.std.proofs.lemmas.Slice.Eq.{bytes_eq-Decides}
use Rattle.fr_model.proofs.Templates.{both_true}
use Rattle.fr_model.proofs.Wholes.{both_hold}

pub bytes_are : (xs ys : List ℕ) → bytes_eq xs ys ≡ true → xs ≡ ys
bytes_are xs ys e = (bytes_eq-Decides xs ys).0 e

bytes_same : (xs ys : List ℕ) → xs ≡ ys → bytes_eq xs ys ≡ true
bytes_same xs ys e = (bytes_eq-Decides xs ys).1 e

apart_swapped : (xs ys : List ℕ) → bytes_eq xs ys ≡ false → bytes_eq ys xs ≡ false
apart_swapped xs ys e = go _ refl
  where
    go : (b : Bool) → bytes_eq ys xs ≡ b → b ≡ false
    go true is = let same = bytes_same xs ys (sym (bytes_are ys xs is)) in cc
    go false is = refl

-- a key that isn't found comes behind the others

missing_rest : (key other : List ℕ) (keys : List (List ℕ)) → entry_found key (other ∷ keys) ≡ None
    → (bytes_eq key other ≡ false) × (entry_found key keys ≡ None)
missing_rest key other keys e = go _ _ refl refl e
  where
    go : (b : Bool) (found : Option ℕ) → bytes_eq key other ≡ b → entry_found key keys ≡ found
        → (if b then Some 0 else option_map suc found) ≡ None → (bytes_eq key other ≡ false) × (entry_found key keys ≡ None)
    go true found is there e = cc
    go false (Some i) is there e = cc
    go false None is there e = (is, there)

lacks_last : (key other : List ℕ) (keys : List (List ℕ)) → lacks key keys ≡ true → bytes_eq key other ≡ false
    → lacks key (keys ++ other ∷ []) ≡ true
lacks_last key other [] e apart = both_hold _ true (ap not apart) refl
lacks_last key other (next ∷ keys) e apart =
    let both = both_true _ _ e in both_hold _ _ both.0 (lacks_last key other keys both.1 apart)

pub apart_last : (key : List ℕ) (keys : List (List ℕ)) → entry_found key keys ≡ None → keys_apart keys ≡ true
    → keys_apart (keys ++ key ∷ []) ≡ true
apart_last key [] none apart = refl
apart_last key (other ∷ keys) none apart =
    let both = both_true _ _ apart in
    let missing = missing_rest key other keys none in
    both_hold _ _ (lacks_last other key keys both.0 (apart_swapped key other missing.0)) (apart_last key keys missing.1 both.1)

-- one that is found is there

pub record FoundAt (key : List ℕ) (keys : List (List ℕ)) (i : ℕ) : Type 0 where
  pub below : i < length keys
  pub is : key_nth keys i ≡ key

pub found_at : (key : List ℕ) (keys : List (List ℕ)) (i : ℕ) → entry_found key keys ≡ Some i → FoundAt key keys i
found_at key [] i e = cc
found_at key (other ∷ keys) i e = go _ _ refl refl e (λ k later. found_at key keys k later)
  where
    go : (b : Bool) (found : Option ℕ) → bytes_eq key other ≡ b → entry_found key keys ≡ found
        → (if b then Some 0 else option_map suc found) ≡ Some i
        → ((k : ℕ) → entry_found key keys ≡ Some k → FoundAt key keys k) → FoundAt key (other ∷ keys) i
    go true found is there e rest =
        let first : 0 ≡ i = cc in rw (← first) (record { below = omega arith; is = sym (bytes_are key other is) })
    go false (Some k) is there e rest =
        let later : suc k ≡ i = cc in
        let at = rest k there in
        rw (← later) (record { below = omega (arith, at.below); is = at.is })
    go false None is there e rest = cc

pub key_last : (key : List ℕ) (keys : List (List ℕ)) → key_nth (keys ++ key ∷ []) (length keys) ≡ key
key_last key [] = refl
key_last key (other ∷ keys) = key_last key keys

-- the keys of a whole object

lacks_members : (key : List ℕ) (ms : Members) → lacks_key key ms ≡ lacks key (member_keys ms)
lacks_members key no_members = refl
lacks_members key (member other d ms) = ap (λ (b : Bool). not (bytes_eq key other) && b) (lacks_members key ms)

pub member_keys_apart : (ms : Members) → members_keys_once ms ≡ true → keys_apart (member_keys ms) ≡ true
member_keys_apart no_members e = refl
member_keys_apart (member key d ms) e =
    let first = both_true _ _ e in
    let second = both_true _ _ first.0 in
    both_hold _ _ (sym (lacks_members key ms) ∙ second.0) (member_keys_apart ms first.1)
