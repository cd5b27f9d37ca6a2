-- Worked examples of orderly runs and of such as aren't, computed from the definitions.
use Rattle.std.specs.Prelude.{◌≡◌, ◌∷◌, ◌++◌}
use Rattle.fr_model.specs.Common.{ℕ, zero, suc, true, false, list_all, List, [], Some, None, Ok, codes, Def, DefaultSource, no_hooks, Table, plain_field, plain_shape, Val, Vals, nat, product, list_of, ptr, token, no_vals, first}
use Rattle.fr_model.specs.Basis.{Call, missing_field, Set, SetNthFieldToDefault}
use Rattle.fr_laws.specs.ContentExamples.{id, u32, struct_of, with_preset, one, two, put_in, in_field, refused, Runs, foo_bar, bar}
use Rattle.fr_laws.specs.ListExamples.{two_items, sequences}
use Rattle.fr_laws.specs.Passage.{is_direct_shape, is_orderly, between_mode_calls}

-- the table has no proxy, no conversion and nothing dynamic, and both runs of the script are orderly and give the value
pub record AreTied (table : Table) (root : ℕ) (script : List Call) (v : Val) : Type 0 where
  pub direct : list_all is_direct_shape table ≡ true
  pub strictly : Runs table root script (Ok v)
  pub orderly : is_orderly no_hooks table root script ≡ true
  pub deferred : Runs table root (between_mode_calls script) (Ok v)
  pub deferred_orderly : is_orderly no_hooks table root (between_mode_calls script) ≡ true

abbrev pub IsNotOrderly : Table → (root : ℕ) → List Call → Type 0
IsNotOrderly table root script = is_orderly no_hooks table root script ≡ false

-- a number, and an array of 64 of them
abbrev pub array_of_64 : Table
array_of_64 = u32 ∷ plain_shape (codes "A64") (Def.Array (id 0) 64) ∷ []

-- each element before number n is set to its number, the last first
abbrev pub set_down : (n : ℕ) → List Call
set_down zero = []
set_down (suc n) = put_in n 0 (nat n) ++ set_down n

-- so many numbers, number i first
abbrev pub numbers_from : (i count : ℕ) → Vals
numbers_from i zero = no_vals
numbers_from i (suc count) = first (nat i) (numbers_from (suc i) count)

-- a number with a default, a struct of two of them with a default, one whose field has a default of its own, and one that holds both
abbrev pub defaults : Table
defaults =
    with_preset u32 (nat 0)
    ∷ with_preset (plain_shape (codes "Ss") (struct_of (plain_field (codes "x") 0 ∷ plain_field (codes "y") 0 ∷ []))) (product (two (nat 1) (nat 2)))
    ∷ plain_shape (codes "Dd") (struct_of (record (plain_field (codes "a") 0) { default = Some (DefaultSource.Custom (nat 5)) } ∷ []))
    ∷ plain_shape (codes "Holder") (struct_of (plain_field (codes "d") 2 ∷ plain_field (codes "s") 1 ∷ [])) ∷ []

pub record PassageExamples : Type 0 where
  -- items of a slice behind a pointer, and elements of an array
  pub slice : AreTied sequences 8 two_items (ptr (list_of (two (nat 1) (nat 2))))
  pub array : AreTied array_of_64 1 (set_down 64) (product (numbers_from 0 64))
  -- a default of the whole, which isn't filled, and defaults of fields that are set
  pub whole_default : AreTied defaults 1 [] (product (two (nat 1) (nat 2)))
  pub set_to_defaults : AreTied defaults 2 (SetNthFieldToDefault 0 ∷ []) (product (one (nat 5)))
  -- a field that is filled: in strict mode by one rule, in deferred mode by none, or by one that gives the same
  pub filled : Runs defaults 1 (put_in 0 0 (nat 9)) (Ok (product (two (nat 9) (nat 0))))
  pub filled_not : IsNotOrderly defaults 1 (put_in 0 0 (nat 9))
  pub filled_deferred : Runs defaults 1 (between_mode_calls (put_in 0 0 (nat 9))) (refused 4 (missing_field 1 None 1) [])
  pub fields_filled : IsNotOrderly defaults 2 []
  pub fields_filled_deferred : IsNotOrderly defaults 2 (between_mode_calls [])
  pub filled_beneath_deferred : IsNotOrderly defaults 3 (between_mode_calls (in_field 0 [] ++ in_field 1 []))
  -- a field that is entered again, or set again
  pub entered_again : IsNotOrderly defaults 2 (put_in 0 0 (nat 1) ++ put_in 0 0 (nat 2))
  pub set_again : IsNotOrderly defaults 0 (Set 0 (nat 1) ∷ Set 0 (nat 2) ∷ [])
  pub selected_again : IsNotOrderly foo_bar 2 (bar ∷ bar ∷ put_in 0 0 (nat 1) ++ put_in 1 1 (token 0))
