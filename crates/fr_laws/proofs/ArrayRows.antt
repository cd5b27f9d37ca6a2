-- Worked scripts over arrays, by the machine and by the journal.
use Rattle.std.proofs.Common.{rules, ◌≡◌, ◌∷◌}
use Rattle.fr_model.proofs.Common.{plain_shape, List, [], None, Ok, codes, Def, ScalarKind, Operation, no_hooks, Table, Val, nat, product, no_vals, first, PathStep, Call, journal_run, full_run}
use Rattle.fr_laws.specs.ContentExamples.{id, refused}
use Rattle.fr_laws.proofs.WorkedScripts.{Makes, set, begin, end, lacks_value, failed}

abbrev arrays : Table
arrays =
    plain_shape (codes "u32") (Def.Scalar ScalarKind.U32)
    ∷ plain_shape (codes "Three") (Def.Array (id 0) 3)
    ∷ plain_shape (codes "Long") (Def.Array (id 0) 4097)
    ∷ plain_shape (codes "None") (Def.Array (id 0) 0)
    ∷ []

abbrev three : Val
three = product (first (nat 1) (first (nat 2) (first (nat 3) no_vals)))

abbrev descending : List Call
descending = begin 2 ∷ set 0 (nat 3) ∷ end ∷ begin 1 ∷ set 0 (nat 2) ∷ end ∷ begin 0 ∷ set 0 (nat 1) ∷ end ∷ []

abbrev one_missing : List Call
one_missing = begin 2 ∷ set 0 (nat 3) ∷ end ∷ begin 0 ∷ set 0 (nat 1) ∷ end ∷ []

-- what is made of arrays
record ArrayRows : Type 0 where
  descends : Makes arrays 1 descending three
  machine_misses_one : full_run no_hooks arrays 1 one_missing ≡ refused 6 (lacks_value 1) []
  journal_misses_one : journal_run arrays 1 one_missing ≡ None
  -- an array of no elements isn't whole before it is set
  none_is_missing : full_run no_hooks arrays 3 [] ≡ refused 0 (lacks_value 3) []
  machine_sets_none : full_run no_hooks arrays 3 (set 3 (product no_vals) ∷ []) ≡ Ok (product no_vals)
  -- in an array the path goes by elements
  an_element_is_missing : full_run no_hooks arrays 1 (begin 2 ∷ end ∷ []) ≡ refused 1 (lacks_value 0) (PathStep.Index 2 ∷ [])
  -- which elements may be entered: of several refusals the first

  no_fourth_element : full_run no_hooks arrays 1 (begin 3 ∷ []) ≡ refused 0 (failed 1 Operation.ArrayIndexOutOfBounds) []
  none_of_a_long_array : full_run no_hooks arrays 2 (begin 0 ∷ []) ≡ refused 0 (failed 2 Operation.ArrayTooLarge) []
  none_of_a_whole_array :
      full_run no_hooks arrays 1 (set 1 three ∷ begin 0 ∷ []) ≡ refused 1 (failed 1 Operation.ElementOfWholeArray) []
  past_a_whole_array :
      full_run no_hooks arrays 1 (set 1 three ∷ begin 3 ∷ []) ≡ refused 1 (failed 1 Operation.ArrayIndexOutOfBounds) []
  journal_enters_no_whole_array : journal_run arrays 1 (set 1 three ∷ begin 0 ∷ end ∷ []) ≡ None

array_rows : ArrayRows
array_rows = search rules
