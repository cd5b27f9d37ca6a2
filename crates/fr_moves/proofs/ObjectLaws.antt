-- Entries of a dynamic object: which one is entered, what that means, and what it is refused for.
use Rattle.std.proofs.Common.{◌≡◌, ℕ, zero, suc, Bool, true, false, List, [], ◌∷◌, ◌++◌, length, Option, Some, None, refl, sym, ap}
use Rattle.fr_moves.specs.Common.{Def, EntriesKind, Operation, Suits, Table, Tree, Trees, and_last, as_entries, begun, branch, count_below, count_trees, def_of, enter, entry_refusal, fresh, hole, no_trees}
use Rattle.fr_model.specs.DynamicPlaces.{entry_found, entry_number, is_begun_object, keys_here, number_or_last, with_entry}
use Rattle.fr_model.specs.Dynamics.{keys_apart}
use Rattle.fr_model.specs.Tree.{change_nth}
use Rattle.fr_model.specs.Well.{AreTouched, HasEntries, IsTouched}
use Rattle.fr_store.specs.StackMoves.{with_entry_of}

-- Where there is an entry it stays as it is.

touched : (def : Def) (t : Tree) → IsTouched t → enter def t ≡ t
touched def hole h = absurd h
touched def _ h = refl

touched_nth : (i : ℕ) (def : Def) (ts : Trees) → AreTouched ts → change_nth i (enter def) ts ≡ ts
touched_nth i def no_trees all = refl
touched_nth zero def (branch t ts) all = ap (λ (x : Tree). branch x ts) (touched def t all.0)
touched_nth (suc i) def (branch t ts) all = ap (branch t) (touched_nth i def ts all.1)

-- An object.

-- what holds of each holds of what is begun as one
by_object : (So : Tree → Type 0) → ((keys : List (List ℕ)) (ts : Trees) → So (begun (as_entries (EntriesKind.Object keys)) ts)) → (tree : Tree)
    → is_begun_object tree ≡ true → So tree
by_object So each (begun (as_entries (EntriesKind.Object keys)) ts) h = each keys ts
by_object So each _ h = cc

-- it has one child for each key
counted_keys : (def : Def) (keys : List (List ℕ)) (count : ℕ) → HasEntries def (EntriesKind.Object keys) count → count ≡ length keys
counted_keys Def.Dynamic keys count has = has
counted_keys _ keys count has = absurd has

module _ (table : Table) (s : ℕ) where
  entry_so : (keys : List (List ℕ)) (ts : Trees) → Suits table s (begun (as_entries (EntriesKind.Object keys)) ts) → (key : List ℕ) (def : Def)
      → def ≡ def_of table s
      → with_entry_of def key (begun (as_entries (EntriesKind.Object keys)) ts) ≡ with_entry table s key (begun (as_entries (EntriesKind.Object keys)) ts)
  entry_so keys ts suits key def is = go (entry_found key keys) refl
    where
      go : (found : Option ℕ) → entry_found key keys ≡ found
          → with_entry_of def key (begun (as_entries (EntriesKind.Object keys)) ts) ≡ with_entry table s key (begun (as_entries (EntriesKind.Object keys)) ts)
      go (Some i) e = rw e (ap (begun (as_entries (EntriesKind.Object keys))) (touched_nth i def ts suits.2.0))
      go None e = rw e (ap (λ (d : Def). begun (as_entries (EntriesKind.Object (keys ++ key ∷ []))) (and_last ts (fresh d))) is)

  -- no key twice
  pub apart_here : (tree : Tree) → is_begun_object tree ≡ true → Suits table s tree → keys_apart (keys_here tree) ≡ true
  apart_here = by_object (λ tree. Suits table s tree → keys_apart (keys_here tree) ≡ true) (λ keys ts suits. suits.2.1)

  pub counted_here : (tree : Tree) → is_begun_object tree ≡ true → Suits table s tree → length (keys_here tree) ≡ count_below tree
  counted_here =
      by_object (λ tree. Suits table s tree → length (keys_here tree) ≡ count_below tree)
      (λ keys ts suits. sym (counted_keys (def_of table s) keys (count_trees ts) suits.0.0))

  -- the entry that is entered, a value of the same definition
  pub entered_so : (tree : Tree) → is_begun_object tree ≡ true → Suits table s tree → (key : List ℕ) (def : Def)
      → def ≡ def_of table s → with_entry_of def key tree ≡ with_entry table s key tree
  entered_so =
      by_object (λ tree. Suits table s tree → (key : List ℕ) (def : Def) → def ≡ def_of table s
      → with_entry_of def key tree ≡ with_entry table s key tree) entry_so

  -- and its number
  pub number_so : (tree : Tree) → is_begun_object tree ≡ true → Suits table s tree → (key : List ℕ)
      → number_or_last (entry_found key (keys_here tree)) (count_below tree) ≡ entry_number key tree
  number_so tree object suits key = ap (number_or_last (entry_found key (keys_here tree))) (sym (counted_here tree object suits))

-- What it means.

pub entry_object : (def : Def) (tree : Tree) → entry_refusal def tree ≡ None → is_begun_object tree ≡ true
entry_object Def.Dynamic tree e = go (is_begun_object tree) refl
  where
    go : (b : Bool) → is_begun_object tree ≡ b → is_begun_object tree ≡ true
    go true h = h
    go false h = let no : Some Operation.EntryBeforeInitMap ≡ None = rw h at e in cc
entry_object _ tree e = cc
