-- The names of places, trees and values that later definitions use, passed on from one place. Declares nothing.
pub use Rattle.fr_model.specs.Collections.{leaves_item_out, number_in, has_same, unless_map, unless_set, is_map_like, is_set_tracker, with_key, is_set, key_refusal, value_refusal, last_of, set_item_refusal, with_ended_item}
pub use Rattle.fr_model.specs.Commands.{Call, IsFieldCall, IsFieldScript, BeginCustomDeserialization, BeginCustomDeserializationFromShape, BeginCustomDeserializationFromShapeWithFormat, BeginCustomDeserializationWithFormat, BeginDeferred, BeginErr, BeginField, BeginInner, BeginKey, BeginListItem, BeginNthField, BeginObjectEntry, BeginOk, BeginSetItem, BeginSmartPtr, BeginSome, BeginValue, End, FinishDeferred, InitArray, InitList, InitListWithCapacity, InitMap, InitSet, ParseFromBytes, ParseFromStr, SelectNthVariant, SelectVariant, SelectVariantNamed, Set, SetEmptySharedSlice, SetNthFieldToDefault}
pub use Rattle.fr_model.specs.Complete.{missing_value, missing_field, complete, invalid_field, complete_all, value_as, lack}
pub use Rattle.fr_model.specs.Contents.{points_to_slice, content_anew, is_result, pointer_refusal, variant_anew, slice_anew, kept_so, kept_in, kept_slice, kept_option, is_slice}
pub use Rattle.fr_model.specs.Conversions.{by_proxy, by_wrapper, convert_in, proxy_at, proxy_of_field, source_in}
pub use Rattle.fr_model.specs.DynamicPlaces.{kept_array, kept_object, entry_number, with_entry, is_begun_dynamic, array_anew, object_anew, entry_refusal, is_begun_object}
pub use Rattle.fr_model.specs.Failing.{Failure, failures, first_by_walk, own_lack, failures_among, failing_path}
pub use Rattle.fr_model.specs.Gathering.{is_there, items_in, items_left_out, entries_in, entries_left_out, left_out}
pub use Rattle.fr_model.specs.Journal.{Held, in_parts, written, just_entered, untouched, held, Progress, Note, entered_at, wrote_at, Journal, place_of, completes, finish_notes, initial_progress, rule, journal_run}
pub use Rattle.fr_model.specs.Paths.{steps_in, step_as, path_of, step_below}
pub use Rattle.fr_model.specs.Places.{up, Column, strict_column, deferred_column, in_turn, Place, array_limit, count_children, parts_of, items_of, set_items_of, entries_of, shape_at, part_at, is_root, part, content_shape, child_count, fill_at}
pub use Rattle.fr_model.specs.Scripts.{brought, brings, IsFitting, AllFitting}
pub use Rattle.fr_model.specs.Trackers.{as_fields, as_items, ItemsKind, as_entries, EntriesKind, as_content, ContentKind, Conversion, Through, is_conversion, hook_of_tracker, source_of_tracker, Tracker, as_elements, base_of_tracker, keys_of_tracker, tracker_number, tracker_kind}
pub use Rattle.fr_model.specs.Tree.{Tree, hole, whole, begun, no_trees, branch, strict, deferred, State, initial, child_tree, tree_at, Mode, cursor_shape, cursor_tree, cursor_field, is_begun_conversion, without_source, tree_occurs, selected, wholes, entered, Trees, change_at, shape_below, shape_in, for_hole, child_as, tracker_of, tracker_at, over_base, holes, fresh, count_below, change_child, one_more_call, count_trees, tree_nth, and_last}
pub use Rattle.fr_model.specs.Variants.{variant_numbered, variant_named, variant_told_by, variant_fields, is_enum, field_found, selection_refusal}
pub use Rattle.fr_model.specs.Well.{ConversionsSuit, IsInOrder, AtCursor, Leads, IsFullAs, Suits, RestsAround, AreDistinct, IsWell}
