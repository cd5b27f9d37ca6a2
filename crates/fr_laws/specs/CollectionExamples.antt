-- Worked examples of sets and maps, computed from the definitions.
use Rattle.std.specs.Prelude.{◌≡◌, ◌+◌, ◌∷◌, ◌++◌}
use Rattle.fr_model.specs.Common.{ℕ, zero, suc, List, [], length, Some, None, Result, Ok, Err, codes, Def, KnownPointer, InitCall, Invariant, Operation, ReflectErrorKind, TrackerKind, Meanings, no_hooks, Table, plain_field, plain_shape, Val, Entries, nat, text, token, product, some, map_of, set_of, ptr, no_vals, first, no_entries, entry, PathStep}
use Rattle.fr_model.specs.Basis.{Call, missing_field, brought, as_fields, as_items, ItemsKind, as_entries, EntriesKind, Tree, hole, whole, begun, no_trees, branch, strict, deferred, State, initial, BeginDeferred, BeginField, BeginKey, BeginListItem, BeginSetItem, BeginSmartPtr, BeginSome, BeginValue, End, FinishDeferred, InitList, InitMap, InitSet, Set}
use Rattle.fr_laws.specs.ContentExamples.{fails, lacks, id, u32, string, resource, struct_of, pointer_to, one, two, put_in, in_deferred, refused, Runs, Drops, in_field}
use Rattle.fr_laws.specs.ListExamples.{number_item, one_number, unexpected}
use Rattle.fr_model.specs.Removed.{removed, removed_at_build}
use Rattle.fr_model.specs.Step.{violates, step}

-- Tokens that a whole run drops

abbrev pub dropped_after : Result State ReflectErrorKind → (rest : State → ℕ) → (not_run : ℕ) → ℕ
dropped_after (Ok next) rest not_run = rest next
dropped_after (Err kind) rest not_run = not_run

-- how often a token is dropped from a state on: by these commands and by `build`, or with the commands that aren't run any more
abbrev pub dropped_from : Meanings → Table → (root : ℕ) → State → List Call → ℕ → ℕ
dropped_from hooks table root state [] t = removed_at_build hooks table root state t
dropped_from hooks table root state (command ∷ commands) t =
    removed hooks table root state command t
    + dropped_after (step hooks table root state command) (λ next. dropped_from hooks table root next commands t) (brought commands t)

-- how often each of so many tokens is dropped by a script, from this one on
abbrev pub drops_from : Meanings → Table → (root : ℕ) → List Call → (count t : ℕ) → List ℕ
drops_from hooks table root script zero t = []
drops_from hooks table root script (suc count) t =
    dropped_from hooks table root (initial table root) script t ∷ drops_from hooks table root script count (suc t)

-- a script drops token 0 as often as the first of these numbers says, token 1 as the second does, and so on
abbrev pub ReleasesBy : Meanings → Table → (root : ℕ) → List Call → (times : List ℕ) → Type 0
ReleasesBy hooks table root script times = drops_from hooks table root script (length times) 0 ≡ times

abbrev pub Releases : Table → (root : ℕ) → List Call → (times : List ℕ) → Type 0
Releases table root script times = ReleasesBy no_hooks table root script times

-- To write sets, maps and scripts

-- sets and maps of numbers, opaque shapes, structs and pointers to slices
abbrev pub collections : Table
collections =
    u32 ∷ resource
    ∷ plain_shape (codes "Item") (struct_of (plain_field (codes "id") 0 ∷ plain_field (codes "r") 1 ∷ []))
    ∷ plain_shape (codes "Items") (Def.Set (id 2))
    ∷ plain_shape (codes "ItemRes") (Def.Map (id 2) (id 1))
    ∷ plain_shape (codes "Numbers") (Def.Set (id 0))
    ∷ plain_shape (codes "Pairs") (Def.Map (id 0) (id 0))
    ∷ plain_shape (codes "Holder") (struct_of (plain_field (codes "n") 0 ∷ plain_field (codes "m") 6 ∷ []))
    ∷ plain_shape (codes "NumberRes") (Def.Map (id 0) (id 1))
    ∷ plain_shape (codes "Deep") (struct_of (plain_field (codes "n") 0 ∷ plain_field (codes "i") 2 ∷ []))
    ∷ plain_shape (codes "Deeps") (Def.Set (id 9))
    ∷ plain_shape (codes "OptNumbers") (Def.Option (id 5))
    ∷ plain_shape (codes "OptPairs") (Def.Option (id 6))
    ∷ plain_shape (codes "[u32]") (Def.Slice (id 0))
    ∷ plain_shape (codes "BoxSlice") (pointer_to (Some KnownPointer.Box) 13)
    ∷ plain_shape (codes "BoxSlices") (Def.Set (id 14))
    ∷ plain_shape (codes "MapHolder") (struct_of (plain_field (codes "m") 4 ∷ []))
    ∷ plain_shape (codes "Maps") (Def.Set (id 4)) ∷ []

-- an item of a set, a key or a value is entered and left, with what is done at it

abbrev pub set_item : List Call → List Call
set_item script = BeginSetItem ∷ script ++ End ∷ []

abbrev pub in_key : List Call → List Call
in_key script = BeginKey ∷ script ++ End ∷ []

abbrev pub in_value : List Call → List Call
in_value script = BeginValue ∷ script ++ End ∷ []

abbrev pub put_set_item : (shape : ℕ) → Val → List Call
put_set_item shape v = set_item (Set shape v ∷ [])

abbrev pub put_key : (shape : ℕ) → Val → List Call
put_key shape v = in_key (Set shape v ∷ [])

abbrev pub put_value : (shape : ℕ) → Val → List Call
put_value shape v = in_value (Set shape v ∷ [])

abbrev pub put_number : ℕ → List Call
put_number n = put_set_item 0 (nat n)

abbrev pub put_pair : (key value : ℕ) → List Call
put_pair key value = put_key 0 (nat key) ++ put_value 0 (nat value)

-- a number beside a token: any two with the same number are `same`
abbrev pub marked_number : (number mark : ℕ) → Val
marked_number number mark = product (two (nat number) (token mark))

abbrev pub pair_in : (key value : ℕ) → Entries → Entries
pair_in key value es = entry (nat key) (nat value) es

abbrev pub one_pair : (key value : ℕ) → Val
one_pair key value = map_of (pair_in key value no_entries)

abbrev pub two_pairs : (key value next other : ℕ) → Val
two_pairs key value next other = map_of (pair_in key value (pair_in next other no_entries))

-- Sets

-- of five items the third is the first's like, and the fifth the second's
abbrev pub five_items : List Call
five_items =
    InitSet ∷ put_set_item 2 (marked_number 1 0) ++ put_set_item 2 (marked_number 2 1) ++ put_set_item 2 (marked_number 1 2)
    ++ put_set_item 2 (marked_number 3 3) ++ put_set_item 2 (marked_number 2 4)

abbrev pub three_items : Val
three_items = set_of (first (marked_number 1 0) (two (marked_number 2 1) (marked_number 3 3)))

-- an item that is a pointer to a slice: its first end closes it
abbrev pub slice_item : List Call
slice_item = InitSet ∷ set_item (BeginSmartPtr ∷ number_item 1 ++ End ∷ [])

pub record SetExamples : Type 0 where
  pub empty : Runs collections 5 (InitSet ∷ []) (Ok (set_of no_vals))
  pub only_entered : Runs collections 5 [] (lacks 0 5 [])
  -- an item that is there already is left out and dropped, as it ends
  pub twice : Runs collections 3 five_items (Ok three_items)
  pub twice_deferred : Runs collections 3 (in_deferred five_items) (Ok three_items)
  pub twice_drops : Releases collections 3 five_items (0 ∷ 0 ∷ 1 ∷ 0 ∷ 1 ∷ [])
  pub twice_drops_deferred : Releases collections 3 (in_deferred five_items) (0 ∷ 0 ∷ 1 ∷ 0 ∷ 1 ∷ [])
  -- what a set has stays in front, however often it is begun
  pub base_stays :
      Runs collections 5 (Set 5 (set_of (two (nat 1) (nat 2))) ∷ InitSet ∷ put_number 2 ++ put_number 3)
      (Ok (set_of (first (nat 1) (two (nat 2) (nat 3)))))
  pub begun_twice : Runs collections 5 (InitSet ∷ put_number 1 ++ InitSet ∷ put_number 2) (Ok (set_of (two (nat 1) (nat 2))))
  pub begun_twice_deferred :
      Runs collections 5 (in_deferred (InitSet ∷ put_number 1 ++ InitSet ∷ put_number 2)) (Ok (set_of (two (nat 1) (nat 2))))
  pub in_an_option :
      Runs collections 11 (Set 11 (some (set_of (one (nat 1)))) ∷ BeginSome ∷ InitSet ∷ put_number 2 ++ End ∷ [])
      (Ok (some (set_of (two (nat 1) (nat 2)))))
  -- an item is completed as it ends in deferred mode too, and of what fails in it the deepest place is told
  pub half_done : Runs collections 3 (InitSet ∷ set_item (put_in 0 0 (nat 1))) (refused 5 (missing_field 2 None 1) (PathStep.SetItem ∷ []))
  pub half_done_deferred :
      Runs collections 3 (in_deferred (InitSet ∷ set_item (put_in 0 0 (nat 1))))
      (refused 6 (missing_field 2 None 1) (PathStep.SetItem ∷ []))
  pub deepest_is_told :
      Runs collections 10 (in_deferred (InitSet ∷ set_item (in_field 0 [] ++ in_field 1 (in_field 1 []))))
      (lacks 9 1 (PathStep.SetItem ∷ []))
  pub field_by_field :
      Runs collections 3 (in_deferred (InitSet ∷ set_item (put_in 1 1 (token 0) ++ put_in 0 0 (nat 1)))) (Ok (set_of (one (marked_number 1 0))))
  pub slice : Runs collections 15 slice_item (Ok (set_of (one (ptr (one_number 1)))))
  pub slice_deferred : Runs collections 15 (in_deferred slice_item) (Ok (set_of (one (ptr (one_number 1)))))
  -- every item has the same path
  pub path : Runs collections 5 (InitSet ∷ put_number 1 ++ set_item []) (lacks 5 0 (PathStep.SetItem ∷ []))
  -- deferred mode ends inside an item, which is left in strict mode
  pub finished_inside :
      Runs collections 5 (BeginDeferred ∷ InitSet ∷ put_number 1 ++ BeginSetItem ∷ Set 0 (nat 1) ∷ FinishDeferred
      ∷ End ∷ []) (Ok (set_of (one (nat 1))))
  pub finished_too_early :
      Runs collections 5 (BeginDeferred ∷ InitSet ∷ BeginSetItem ∷ FinishDeferred ∷ []) (lacks 3 0 (PathStep.SetItem ∷ []))
  pub end_at_start :
      Runs collections 5 (InitSet ∷ BeginSetItem ∷ BeginDeferred ∷ End ∷ [])
      (refused 3 (violates Invariant.EndAtStart) (PathStep.SetItem ∷ []))
  -- refusals
  pub no_set : Runs collections 0 (InitSet ∷ []) (fails 0 0 Operation.InitSetOfOther)
  pub no_whole_set : Runs collections 0 (Set 0 (nat 1) ∷ InitSet ∷ []) (fails 1 0 Operation.InitSetOfOther)
  pub begun_as_map : Runs collections 6 (InitMap ∷ InitSet ∷ []) (refused 1 (unexpected InitCall.Set TrackerKind.Map) [])
  pub begun_as_struct : Runs collections 2 (put_in 0 0 (nat 1) ++ InitSet ∷ []) (refused 3 (unexpected InitCall.Set TrackerKind.Struct) [])
  pub no_list : Runs collections 5 (InitSet ∷ InitList ∷ []) (refused 1 (unexpected InitCall.List TrackerKind.Set) [])
  pub no_list_item : Runs collections 5 (InitSet ∷ BeginListItem ∷ []) (fails 1 5 Operation.ItemOfOther)
  pub item_of_other : Runs collections 6 (InitMap ∷ BeginSetItem ∷ []) (fails 1 6 Operation.SetItemOfOther)
  pub item_of_entered : Runs collections 5 (BeginSetItem ∷ []) (fails 0 5 Operation.SetItemBeforeInitSet)
  pub item_of_whole : Runs collections 5 (Set 5 (set_of no_vals) ∷ BeginSetItem ∷ []) (fails 1 5 Operation.SetItemBeforeInitSet)
  -- a value that is set drops the items, and beginning drops none
  pub set_drops :
      Drops collections 3 strict (begun (as_items ItemsKind.Set) (branch (whole (marked_number 1 0)) no_trees)) (Set 3 (set_of no_vals)) 0 1
  pub begin_drops_none : Drops collections 3 strict (whole (set_of (one (marked_number 1 0)))) InitSet 0 0
  pub item_drops_none : Drops collections 3 strict (begun (as_items ItemsKind.Set) (branch (whole (marked_number 1 0)) no_trees)) BeginSetItem 0 0

-- Maps

-- the second key is the first's like
abbrev pub repeated_key : List Call
repeated_key = InitMap ∷ put_key 2 (marked_number 1 0) ++ put_value 1 (token 1) ++ put_key 2 (marked_number 1 2) ++ put_value 1 (token 3)

-- the same, begun, with all of it still there
abbrev pub two_of_one_key : Tree
two_of_one_key =
    begun (as_entries (EntriesKind.Map 0))
    (branch (whole (marked_number 1 0)) (branch (whole (token 1)) (branch (whole (marked_number 1 2)) (branch (whole (token 3)) no_trees))))

abbrev pub old_key_new_value : Val
old_key_new_value = map_of (entry (marked_number 1 0) (token 3) no_entries)

-- rules for numbers by their keys, in a struct
abbrev pub rules : Table
rules =
    string ∷ resource ∷ plain_shape (codes "RuleValue") (struct_of (plain_field (codes "required") 0 ∷ []))
    ∷ plain_shape (codes "Key") (struct_of (plain_field (codes "name") 0 ∷ plain_field (codes "r") 1 ∷ []))
    ∷ plain_shape (codes "Rules") (Def.Map (id 3) (id 2))
    ∷ plain_shape (codes "Container") (struct_of (plain_field (codes "rules") 4 ∷ [])) ∷ []

-- a rule whose value is begun and left
abbrev pub half_done_rule : List Call
half_done_rule =
    BeginField (codes "rules") ∷ InitMap ∷ put_key 3 (product (two (text (codes "ZeroOperand")) (token 0))) ++ in_value [] ++ End ∷ []

-- of two entries the first's value and the second's key are left half done
abbrev pub half_done_entries : List Call
half_done_entries = InitMap ∷ put_key 0 (nat 1) ++ in_value [] ++ in_key [] ++ put_value 1 (token 0)

pub record MapExamples : Type 0 where
  pub empty : Runs collections 6 (InitMap ∷ []) (Ok (map_of no_entries))
  pub only_entered : Runs collections 6 [] (lacks 0 6 [])
  pub entries : Runs collections 6 (InitMap ∷ put_pair 1 2 ++ put_pair 3 4) (Ok (two_pairs 1 2 3 4))
  pub entries_deferred : Runs collections 6 (in_deferred (InitMap ∷ put_pair 1 2 ++ put_pair 3 4)) (Ok (two_pairs 1 2 3 4))
  -- under a repeated key the old key stays and takes the new value; the new key and the old value are dropped
  pub repeated : Runs collections 4 repeated_key (Ok old_key_new_value)
  pub repeated_deferred : Runs collections 4 (in_deferred repeated_key) (Ok old_key_new_value)
  pub repeated_drops : Releases collections 4 repeated_key (0 ∷ 1 ∷ 1 ∷ 0 ∷ [])
  pub repeated_drops_deferred : Releases collections 4 (in_deferred repeated_key) (0 ∷ 1 ∷ 1 ∷ 0 ∷ [])
  -- as the map completes: where it ends, at the end of deferred mode, or as an item ends
  pub ended_drops : Releases collections 16 (in_field 0 repeated_key) (0 ∷ 1 ∷ 1 ∷ 0 ∷ [])
  pub finished_drops : Releases collections 16 (in_deferred (in_field 0 repeated_key)) (0 ∷ 1 ∷ 1 ∷ 0 ∷ [])
  pub map_in_a_set : Runs collections 17 (in_deferred (InitSet ∷ set_item repeated_key)) (Ok (set_of (one old_key_new_value)))
  pub item_drops : Releases collections 17 (in_deferred (InitSet ∷ set_item repeated_key)) (0 ∷ 1 ∷ 1 ∷ 0 ∷ [])
  pub end_drops : Drops collections 16 (deferred 0) (begun (as_fields None) (branch two_of_one_key no_trees)) FinishDeferred 1 1
  pub repeated_in_front : Runs collections 6 (InitMap ∷ put_pair 1 2 ++ put_pair 3 4 ++ put_pair 1 5) (Ok (two_pairs 1 5 3 4))
  -- what a map has stays in front, however often it is begun
  pub base_stays : Runs collections 6 (Set 6 (one_pair 1 2) ∷ InitMap ∷ put_pair 3 4 ++ put_pair 1 5) (Ok (two_pairs 1 5 3 4))
  pub begun_twice : Runs collections 6 (InitMap ∷ put_pair 1 2 ++ InitMap ∷ put_pair 3 4) (Ok (two_pairs 1 2 3 4))
  pub begun_twice_deferred : Runs collections 6 (in_deferred (InitMap ∷ put_pair 1 2 ++ InitMap ∷ put_pair 3 4)) (Ok (two_pairs 1 2 3 4))
  pub in_an_option :
      Runs collections 12 (Set 12 (some (one_pair 1 2)) ∷ BeginSome ∷ InitMap ∷ put_pair 3 4 ++ End ∷ []) (Ok (some (two_pairs 1 2 3 4)))
  -- an entry without a value fails its map, and may get it later in deferred mode
  pub half_entry : Runs collections 6 (InitMap ∷ put_key 0 (nat 1)) (lacks 4 6 [])
  pub half_entry_finished : Runs collections 6 (in_deferred (InitMap ∷ put_key 0 (nat 1))) (lacks 5 6 [])
  pub half_entry_ended : Runs collections 7 (in_field 1 (InitMap ∷ put_key 0 (nat 1))) (lacks 5 6 (PathStep.Field 1 ∷ []))
  pub half_entry_left : Runs collections 7 (in_deferred (put_in 0 0 (nat 7) ++ in_field 1 (InitMap ∷ put_key 0 (nat 1)))) (lacks 10 6 [])
  pub value_later :
      Runs collections 7 (in_deferred (in_field 1 (InitMap ∷ put_key 0 (nat 1)) ++ put_in 0 0 (nat 7) ++ in_field 1 (put_value 0 (nat 2))))
      (Ok (product (two (nat 7) (one_pair 1 2))))
  -- keys and values that are left half done are completed at the end, and of those that fail all keys come before all values
  pub value_left_missing : Runs rules 5 (in_deferred half_done_rule) (refused 9 (missing_field 2 None 0) [])
  pub value_left_missing_drops : Releases rules 5 (in_deferred half_done_rule) (1 ∷ [])
  pub key_left_missing :
      Runs collections 4 (in_deferred (InitMap ∷ in_key (put_in 0 0 (nat 1)) ++ put_value 1 (token 0)))
      (refused 10 (missing_field 2 None 1) [])
  pub keys_before_values : Runs collections 8 (in_deferred half_done_entries) (lacks 12 0 [])
  pub key_left_half_done :
      Runs collections 4 (in_deferred (InitMap ∷ in_key (put_in 1 1 (token 0) ++ put_in 0 0 (nat 1)) ++ put_value 1 (token 1)))
      (Ok (map_of (entry (marked_number 1 0) (token 1) no_entries)))
  -- paths, which count the entries begun here and not those that were there before
  pub path_to_key : Runs collections 6 (InitMap ∷ put_pair 1 2 ++ in_key []) (lacks 8 0 (PathStep.MapKey 1 ∷ []))
  pub path_to_value :
      Runs collections 6 (InitMap ∷ put_pair 1 2 ++ put_key 0 (nat 3) ++ in_value []) (lacks 11 0 (PathStep.MapValue 1 ∷ []))
  pub path_behind_base :
      Runs collections 6 (Set 6 (one_pair 1 2) ∷ InitMap ∷ put_pair 3 4 ++ in_key []) (lacks 9 0 (PathStep.MapKey 1 ∷ []))
  pub path_to_value_behind_base :
      Runs collections 6 (Set 6 (one_pair 1 2) ∷ InitMap ∷ put_key 0 (nat 3) ++ in_value []) (lacks 6 0 (PathStep.MapValue 0 ∷ []))
  pub path_inside : Runs rules 5 half_done_rule (refused 6 (missing_field 2 None 0) (PathStep.Field 0 ∷ PathStep.MapValue 0 ∷ []))
  -- deferred mode ends inside a key, which doesn't ask for its value yet
  pub finished_inside :
      Runs collections 6 (BeginDeferred ∷ InitMap ∷ BeginKey ∷ Set 0 (nat 1) ∷ FinishDeferred ∷ End
      ∷ put_value 0 (nat 2)) (Ok (one_pair 1 2))
  pub finished_too_early :
      Runs collections 6 (BeginDeferred ∷ InitMap ∷ BeginKey ∷ FinishDeferred ∷ []) (lacks 3 0 (PathStep.MapKey 0 ∷ []))
  -- refusals
  pub no_map : Runs collections 0 (InitMap ∷ []) (fails 0 0 Operation.InitMapOfOther)
  pub no_whole_map : Runs collections 0 (Set 0 (nat 1) ∷ InitMap ∷ []) (fails 1 0 Operation.InitMapOfOther)
  pub begun_as_set : Runs collections 5 (InitSet ∷ InitMap ∷ []) (refused 1 (unexpected InitCall.Map TrackerKind.Set) [])
  pub no_list : Runs collections 6 (InitMap ∷ InitList ∷ []) (refused 1 (unexpected InitCall.List TrackerKind.Map) [])
  pub key_of_other : Runs collections 5 (InitSet ∷ BeginKey ∷ []) (fails 1 5 Operation.KeyBeforeInitMap)
  pub key_of_entered : Runs collections 6 (BeginKey ∷ []) (fails 0 6 Operation.KeyBeforeInitMap)
  pub key_of_whole : Runs collections 6 (Set 6 (one_pair 1 2) ∷ BeginKey ∷ []) (fails 1 6 Operation.KeyBeforeInitMap)
  pub key_before_value : Runs collections 6 (InitMap ∷ put_key 0 (nat 1) ++ BeginKey ∷ []) (fails 4 6 Operation.KeyBeforeValue)
  pub value_of_entered : Runs collections 6 (BeginValue ∷ []) (fails 0 6 Operation.ValueBeforeKey)
  pub value_without_key : Runs collections 6 (InitMap ∷ BeginValue ∷ []) (fails 1 6 Operation.ValueBeforeKey)
  pub second_value : Runs collections 6 (InitMap ∷ put_pair 1 2 ++ BeginValue ∷ []) (fails 7 6 Operation.ValueBeforeKey)
  -- a value that is set drops keys and values, and beginning drops none
  pub set_drops :
      Drops collections 4 strict (begun (as_entries (EntriesKind.Map 0)) (branch (whole (marked_number 1 0)) (branch hole no_trees)))
      (Set 4 (map_of no_entries)) 0 1
  pub begin_drops_none : Drops collections 4 strict (whole (map_of (entry (marked_number 1 0) (token 1) no_entries))) InitMap 0 0
  pub key_drops_none :
      Drops collections 4 strict (begun (as_entries (EntriesKind.Map 0)) (branch (whole (marked_number 1 0)) (branch (whole (token 1)) no_trees)))
      BeginKey 0 0
