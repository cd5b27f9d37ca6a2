-- Worked examples of lists, arrays and pointers to slices, computed from the definitions.
use Rattle.std.specs.Prelude.{◌∷◌, ◌++◌}
use Rattle.fr_model.specs.Common.{ℕ, true, List, [], Some, None, Ok, codes, Def, KnownPointer, InitCall, Invariant, Operation, ReflectErrorKind, TrackerKind, Table, plain_field, plain_shape, Val, nat, token, product, some, list_of, ptr, no_vals, PathStep}
use Rattle.fr_model.specs.Basis.{Call, missing_field, as_items, ItemsKind, Tree, whole, begun, no_trees, branch, strict, deferred, BeginDeferred, BeginListItem, BeginNthField, BeginSmartPtr, BeginSome, End, FinishDeferred, InitArray, InitList, InitListWithCapacity, Set, SetEmptySharedSlice}
use Rattle.fr_laws.specs.ContentExamples.{fails, lacks, id, u32, resource, struct_of, pointer_to, one, two, put_in, in_deferred, refused, Runs, Drops, foo_bar, foo, options, point, results, put_err, boxed_shapes, in_field}
use Rattle.fr_model.specs.Step.{violates}

-- lists, slices behind pointers and arrays, of numbers, opaque shapes and structs
abbrev pub sequences : Table
sequences =
    u32 ∷ resource
    ∷ plain_shape (codes "Point") (struct_of (plain_field (codes "x") 0 ∷ plain_field (codes "y") 0 ∷ []))
    ∷ plain_shape (codes "Numbers") (Def.List (id 0))
    ∷ plain_shape (codes "Ress") (Def.List (id 1))
    ∷ plain_shape (codes "Points") (Def.List (id 2))
    ∷ plain_shape (codes "Named") (struct_of (plain_field (codes "n") 0 ∷ plain_field (codes "points") 5 ∷ []))
    ∷ plain_shape (codes "[u32]") (Def.Slice (id 0))
    ∷ plain_shape (codes "ArcSlice") (pointer_to (Some KnownPointer.Arc) 7)
    ∷ plain_shape (codes "Holder") (struct_of (plain_field (codes "s") 8 ∷ plain_field (codes "n") 0 ∷ []))
    ∷ plain_shape (codes "[Res]") (Def.Slice (id 1))
    ∷ plain_shape (codes "BoxRess") (pointer_to (Some KnownPointer.Box) 10)
    ∷ plain_shape (codes "RefSlice") (pointer_to (Some KnownPointer.SharedReference) 7)
    ∷ plain_shape (codes "RefU32") (pointer_to (Some KnownPointer.SharedReference) 0)
    ∷ plain_shape (codes "Ref") (Def.Pointer (record { known = Some KnownPointer.SharedReference; pointee = None; constructible = true }))
    ∷ plain_shape (codes "A2") (Def.Array (id 0) 2)
    ∷ plain_shape (codes "A4097") (Def.Array (id 0) 4097)
    ∷ plain_shape (codes "A0") (Def.Array (id 0) 0) ∷ []

-- an item is entered and left, with what is done at it
abbrev pub item : List Call → List Call
item script = BeginListItem ∷ script ++ End ∷ []

abbrev pub put_item : (shape : ℕ) → Val → List Call
put_item shape v = item (Set shape v ∷ [])

abbrev pub number_item : ℕ → List Call
number_item n = put_item 0 (nat n)

-- a list of one number, or of two
abbrev pub one_number : ℕ → Val
one_number n = list_of (one (nat n))

abbrev pub two_numbers : (m n : ℕ) → Val
two_numbers m n = list_of (two (nat m) (nat n))

abbrev pub unexpected : InitCall → TrackerKind → ReflectErrorKind
unexpected call current = ReflectErrorKind.UnexpectedTracker call current

pub record ListExamples : Type 0 where
  pub empty : Runs sequences 3 (InitList ∷ []) (Ok (list_of no_vals))
  pub items : Runs sequences 3 (InitList ∷ number_item 1 ++ number_item 2) (Ok (two_numbers 1 2))
  pub with_capacity : Runs sequences 3 (InitListWithCapacity 9 ∷ number_item 1) (Ok (one_number 1))
  pub only_entered : Runs sequences 3 [] (lacks 0 3 [])
  -- what a list has stays in front of its items, however often it is begun
  pub base_stays : Runs sequences 3 (Set 3 (one_number 1) ∷ InitList ∷ number_item 2) (Ok (two_numbers 1 2))
  pub begun_twice : Runs sequences 3 (InitList ∷ number_item 1 ++ InitList ∷ number_item 2) (Ok (two_numbers 1 2))
  pub begun_twice_deferred : Runs sequences 3 (in_deferred (InitList ∷ number_item 1 ++ InitList ∷ number_item 2)) (Ok (two_numbers 1 2))
  pub in_an_option :
      Runs options 5 (Set 5 (some (one_number 1)) ∷ BeginSome ∷ InitList ∷ number_item 2 ++ End ∷ []) (Ok (some (two_numbers 1 2)))
  -- items that are left half done are completed in their order at the end of deferred mode
  pub left_half_done :
      Runs sequences 5 (in_deferred (InitList ∷ item (put_in 1 0 (nat 2) ++ put_in 0 0 (nat 1)) ++ put_item 2 (point 3 4)))
      (Ok (list_of (two (point 1 2) (point 3 4))))
  pub left_missing : Runs sequences 5 (in_deferred (InitList ∷ item (put_in 0 0 (nat 1)))) (refused 7 (missing_field 2 None 1) [])
  pub in_a_struct :
      Runs sequences 6 (in_deferred (in_field 1 (InitList ∷ put_item 2 (point 1 2)) ++ put_in 0 0 (nat 7)
      ++ in_field 1 (InitList ∷ put_item 2 (point 3 4)))) (Ok (product (two (nat 7) (list_of (two (point 1 2) (point 3 4))))))
  -- the path to an item counts all that stands in front
  pub path : Runs sequences 3 (InitList ∷ item []) (lacks 2 0 (PathStep.Index 0 ∷ []))
  pub path_behind_base :
      Runs sequences 3 (Set 3 (two_numbers 1 2) ∷ InitList ∷ number_item 3 ++ item []) (lacks 6 0 (PathStep.Index 3 ∷ []))
  pub path_inside :
      Runs sequences 6 (BeginNthField 1 ∷ InitList ∷ BeginListItem ∷ in_field 1 [])
      (lacks 4 0 (PathStep.Field 1 ∷ PathStep.Index 0 ∷ PathStep.Field 1 ∷ []))
  pub finished_inside :
      Runs sequences 3 (BeginDeferred ∷ InitList ∷ BeginListItem ∷ FinishDeferred ∷ []) (lacks 3 0 (PathStep.Index 0 ∷ []))
  pub finished_at_a_list :
      Runs sequences 3 (BeginDeferred ∷ InitList ∷ number_item 1 ++ FinishDeferred ∷ number_item 2) (Ok (two_numbers 1 2))
  -- refusals
  pub no_list : Runs sequences 0 (InitList ∷ []) (fails 0 0 Operation.InitListOfOther)
  pub no_list_with_capacity : Runs sequences 15 (InitListWithCapacity 1 ∷ []) (fails 0 15 Operation.InitListOfOther)
  pub no_whole_list : Runs sequences 0 (Set 0 (nat 1) ∷ InitList ∷ []) (fails 1 0 Operation.InitListOfWholeOther)
  pub begun_as_struct : Runs sequences 2 (put_in 0 0 (nat 1) ++ InitList ∷ []) (refused 3 (unexpected InitCall.List TrackerKind.Struct) [])
  pub begun_as_pointer :
      Runs boxed_shapes 11 (BeginSmartPtr ∷ Set 0 (nat 1) ∷ End ∷ InitList ∷ []) (refused 3 (unexpected InitCall.List TrackerKind.SmartPointer) [])
  pub begun_as_option :
      Runs options 4 (BeginSome ∷ Set 0 (nat 1) ∷ End ∷ InitList ∷ []) (refused 3 (unexpected InitCall.List TrackerKind.Option) [])
  pub begun_as_result : Runs results 2 (put_err 1 ++ InitList ∷ []) (refused 3 (unexpected InitCall.List TrackerKind.Result) [])
  pub begun_as_variant : Runs foo_bar 2 (foo ∷ InitList ∷ []) (refused 1 (unexpected InitCall.List TrackerKind.Enum) [])
  pub begun_as_array : Runs sequences 15 (InitArray ∷ InitList ∷ []) (refused 1 (unexpected InitCall.List TrackerKind.Array) [])
  pub item_of_entered : Runs sequences 3 (BeginListItem ∷ []) (fails 0 3 Operation.ItemBeforeInitList)
  pub item_of_whole : Runs sequences 3 (Set 3 (one_number 1) ∷ BeginListItem ∷ []) (fails 1 3 Operation.ItemBeforeInitList)
  pub item_of_other : Runs sequences 0 (BeginListItem ∷ []) (fails 0 0 Operation.ItemOfOther)
  pub no_field_of_list : Runs sequences 3 (InitList ∷ BeginNthField 0 ∷ []) (fails 1 3 Operation.FieldOfOther)
  -- a value that is set drops the items, and beginning drops none
  pub set_drops :
      Drops sequences 4 strict (begun (as_items ItemsKind.List) (branch (whole (token 0)) no_trees)) (Set 4 (list_of no_vals)) 0 1
  pub begin_drops_none : Drops sequences 4 strict (whole (list_of (one (token 0)))) InitList 0 0
  pub item_drops_none : Drops sequences 4 strict (begun (as_items ItemsKind.List) (branch (whole (token 0)) no_trees)) BeginListItem 0 0

pub record ArrayExamples : Type 0 where
  pub begun : Runs sequences 15 (InitArray ∷ put_in 1 0 (nat 2) ++ put_in 0 0 (nat 1)) (Ok (product (two (nat 1) (nat 2))))
  pub begun_twice :
      Runs sequences 15 (InitArray ∷ put_in 1 0 (nat 2) ++ InitArray ∷ put_in 0 0 (nat 1)) (Ok (product (two (nat 1) (nat 2))))
  pub of_no_elements : Runs sequences 17 (InitArray ∷ []) (Ok (product no_vals))
  pub only_entered : Runs sequences 17 [] (lacks 0 17 [])
  pub missing : Runs sequences 15 (InitArray ∷ put_in 1 0 (nat 2)) (lacks 4 15 [])
  -- of several refusals the first
  pub no_array : Runs sequences 3 (InitArray ∷ []) (fails 0 3 Operation.InitArrayOfOther)
  pub too_large : Runs sequences 16 (InitArray ∷ []) (fails 0 16 Operation.ArrayTooLarge)
  pub whole_already : Runs sequences 15 (Set 15 (product (two (nat 1) (nat 2))) ∷ InitArray ∷ []) (fails 1 15 Operation.InitArrayOfBegun)

-- two items are put into the slice behind a pointer
abbrev pub two_items : List Call
two_items = BeginSmartPtr ∷ InitList ∷ number_item 1 ++ number_item 2 ++ End ∷ []

-- a pointer to a slice with a token in it, open or closed
abbrev pub open_with_token : Tree
open_with_token = begun (as_items ItemsKind.Slice) (branch (whole (token 0)) no_trees)

abbrev pub closed_with_token : Tree
closed_with_token = begun (as_items ItemsKind.ClosedSlice) (branch (whole (token 0)) no_trees)

pub record SliceExamples : Type 0 where
  pub items : Runs sequences 8 two_items (Ok (ptr (two_numbers 1 2)))
  pub items_deferred : Runs sequences 8 (in_deferred two_items) (Ok (ptr (two_numbers 1 2)))
  pub empty : Runs sequences 8 (BeginSmartPtr ∷ End ∷ []) (Ok (ptr (list_of no_vals)))
  pub open_at_build : Runs sequences 8 (BeginSmartPtr ∷ number_item 1) (Ok (ptr (one_number 1)))
  pub path : Runs sequences 8 (BeginSmartPtr ∷ number_item 1 ++ item []) (lacks 5 0 (PathStep.Index 1 ∷ []))
  -- its end is the end of its items, and then it is left
  pub in_a_struct : Runs sequences 9 (in_field 0 two_items ++ put_in 1 0 (nat 7)) (Ok (product (two (ptr (two_numbers 1 2)) (nat 7))))
  pub in_a_struct_deferred :
      Runs sequences 9 (in_deferred (in_field 0 two_items ++ put_in 1 0 (nat 7))) (Ok (product (two (ptr (two_numbers 1 2)) (nat 7))))
  pub end_at_root : Runs sequences 8 (BeginSmartPtr ∷ End ∷ End ∷ []) (refused 2 (violates Invariant.EndAtRoot) [])
  pub end_at_start :
      Runs sequences 9 (BeginNthField 0 ∷ BeginDeferred ∷ BeginSmartPtr ∷ End ∷ End ∷ [])
      (refused 4 (violates Invariant.EndAtStart) (PathStep.Field 0 ∷ []))
  -- in deferred mode it is closed then, and is open again with its items where it is begun again; in strict mode it starts anew
  pub closed_takes_none : Runs sequences 8 (BeginDeferred ∷ BeginSmartPtr ∷ End ∷ BeginListItem ∷ []) (fails 3 8 Operation.ItemStillOpen)
  pub closed_is_left : Runs sequences 8 (in_deferred (BeginSmartPtr ∷ number_item 1 ++ End ∷ InitList ∷ [])) (Ok (ptr (one_number 1)))
  pub open_again :
      Runs sequences 8 (in_deferred (BeginSmartPtr ∷ number_item 1 ++ End ∷ BeginSmartPtr ∷ number_item 2 ++ End ∷ []))
      (Ok (ptr (two_numbers 1 2)))
  pub path_again :
      Runs sequences 8 (BeginDeferred ∷ BeginSmartPtr ∷ number_item 1 ++ number_item 2 ++ End ∷ BeginSmartPtr ∷ BeginListItem
      ∷ FinishDeferred ∷ []) (lacks 11 0 (PathStep.Index 2 ∷ []))
  pub begun_anew : Runs sequences 8 (BeginSmartPtr ∷ number_item 1 ++ BeginSmartPtr ∷ number_item 2) (Ok (ptr (one_number 2)))
  pub whole_anew : Runs sequences 8 (in_deferred (Set 8 (ptr (one_number 1)) ∷ BeginSmartPtr ∷ number_item 2)) (Ok (ptr (one_number 2)))
  pub whole_takes_none : Runs sequences 8 (BeginSmartPtr ∷ End ∷ BeginListItem ∷ []) (fails 2 8 Operation.ItemOfOther)
  -- the end of deferred mode leaves it open, but where it is closed it becomes whole
  pub finished_open :
      Runs sequences 8 (BeginDeferred ∷ BeginSmartPtr ∷ number_item 1 ++ FinishDeferred ∷ number_item 2) (Ok (ptr (two_numbers 1 2)))
  pub finished_closed :
      Runs sequences 8 (BeginDeferred ∷ BeginSmartPtr ∷ End ∷ FinishDeferred ∷ BeginListItem ∷ []) (fails 4 8 Operation.ItemOfOther)
  pub left_missing : Runs sequences 8 (in_deferred (BeginSmartPtr ∷ item [] ++ End ∷ [])) (lacks 5 0 [])
  pub borrowed : Runs sequences 12 (BeginSmartPtr ∷ []) (fails 0 12 Operation.SlicePointerNotBuildable)
  -- what starts anew drops its items, what is open again drops none
  pub anew_drops : Drops sequences 11 strict open_with_token BeginSmartPtr 0 1
  pub open_drops_none : Drops sequences 11 (deferred 0) open_with_token BeginSmartPtr 0 0
  pub closed_drops_none : Drops sequences 11 (deferred 0) closed_with_token BeginSmartPtr 0 0
  pub end_drops_none : Drops sequences 11 strict open_with_token End 0 0
  -- a borrowed slice without items
  pub shared : Runs sequences 12 (SetEmptySharedSlice ∷ []) (Ok (ptr (list_of no_vals)))
  pub shared_of_number : Runs sequences 0 (SetEmptySharedSlice ∷ []) (fails 0 0 Operation.NotSharedReference)
  pub shared_of_owner : Runs sequences 8 (SetEmptySharedSlice ∷ []) (fails 0 8 Operation.NotSharedReference)
  pub shared_of_unknown : Runs sequences 14 (SetEmptySharedSlice ∷ []) (fails 0 14 Operation.SharedReferenceWithoutPointee)
  pub shared_of_other : Runs sequences 13 (SetEmptySharedSlice ∷ []) (fails 0 13 Operation.PointeeNotSlice)
