-- The names that most proofs cite, passed on from one place. Declares nothing.
pub use Rattle.std.proofs.Common.{ltb-true, ◌∙◌, ap, subst, arith, sym, ap₂, eq-eqb, eqb-true, le-ltb, lt-ltb, leb-true, append-nil, length-append, append_assoc, inl, inr, ⊎_elim, option_to_list}
pub use Rattle.std.proofs.lemmas.List.Elements.{Contains-append_left, Contains-append_right, Contains-append_cases, Contains-get_or}
pub use Rattle.std.specs.List.{flat_map}
pub use Rattle.std.proofs.Common.{◌≡◌, ◌+◌, ◌<◌, ◌==◌, if◌then◌else◌, ◌≤◌, ◌∷◌, ◌++◌, ◌&&◌, ◌-◌, ◌≢◌, ◌||◌, ◌⊎◌}
pub use Rattle.fr_model.specs.Common.{plain_shape, plain_field, ℕ, nat_lt, Bool, true, false, List, [], length, Option, Some, None, unwrap_or, Result, Ok, Err, refl, ReflectErrorKind, Invariant, Operation, Field, VariantDef, IsChecked, preset_of, is_option, Meanings, Table, IsIn, def_of, field_in, variants_of, is_dynamic, Val, Dynamic, list_of, ptr, dyn, no_vals, zero, suc, option_or, Def, is_empty_struct, is_nil, product, codes, ScalarKind, no_hooks, nat, first, PathStep, slice_get, option_map, bytes_eq, ShapeId, fits, some, Vals, nat_le, first_declared, field_named, not, is_none, none_twice, keys, Entries, unit, set_of, map_of, no_entries, entry, is_some, none, occurs, encode_utf8, bool, char, int, text, dyn_bool, dyn_int, dyn_nat, dyn_text, dyn_bytes, list_any, option_map_or, Shape, DefaultSource, same, Dynamics, Members, dyn_array, dyn_object, no_dynamics, first_dynamic, no_members, member, DeferredRule, filled, marked_without_default, missing, Contains, map, Ordering, walk_order, KnownPointer, list_all, first_refusal, IsPlain, StructKind, token, is_sized, tokens}
pub use Rattle.fr_shape.specs.Checked.{fields_of, contents_of, is_template, default_is_template, is_none_val}
pub use Rattle.fr_shape.specs.Fills.{by_deferred_rule, preset_in, strict_by_mark, by_strict_rule, deferred_by_mark}
pub use Rattle.fr_shape.specs.Fits.{all_fit, entries_fit, count_vals, keys_once, lacks_key, all_keys_once, members_keys_once, points_at, fields_fit, fields_of_variant}
pub use Rattle.fr_shape.specs.Look.{field_of_variant, settled, def_or_other}
pub use Rattle.fr_shape.specs.Plannable.{Reached, at_root, further, children_of, own_sources, leads_to, is_plain_field, is_plain_shape, made_of, field_sources, IsPlannable, Walk, field_parts, parts_by, parts_before, own_refusal, each_in_turn, visit_shape, visit}
pub use Rattle.fr_shape.specs.Same.{is_among}
pub use Rattle.fr_shape.specs.Tokens.{vals_occur, entries_occur, times}
pub use Rattle.fr_shape.specs.declared.error.AllocError.{AllocError}
pub use Rattle.fr_shape.specs.declared.error.PlanFault.{PlanFault}
pub use Rattle.fr_shape.specs.declared.shape.EnumDef.{EnumDef}
pub use Rattle.fr_shape.specs.declared.shape.StructDef.{StructDef}
pub use Rattle.fr_model.specs.Collections.{key_refusal, value_refusal, last_of, set_item_refusal, is_hole, ends_in_hole, with_key, has_same, is_set, without_nth, and_item, with_ended_item, leaves_item_out, number_in, is_set_tracker}
pub use Rattle.fr_model.specs.Basis.{Call, IsFieldCall, IsFieldScript, step_as, steps_in, step_below, path_of, brings, IsFitting, AllFitting}
pub use Rattle.fr_model.specs.Complete.{complete, complete_all, valid_child, hole_takes, made, made_by, made_of_entered, failing_child, missing_child, unless_there, unless_failing, made_of_fills, lack_of_hole, lack_of_holes, lack_by, lack, lack_among, value_as, first_failing, failing_field}
pub use Rattle.fr_model.specs.Contents.{is_result, pointer_refusal, points_to_slice, slice_anew, variant_anew, around, content_anew, kept_so, kept_in, reopened, kept_slice, content_of, kept_option, is_slice, pointee_refusal}
pub use Rattle.fr_model.specs.ScalarsAsDynamics.{converted, or_not_dynamic, from_bool, from_char, from_int, from_nat, from_text, byte_before, bytes_of, from_bytes, from_scalar}
pub use Rattle.fr_model.specs.Conversions.{by_proxy, by_wrapper, conversions_at, convert_in, failing_source, not_taken, proxy_at, proxy_of_field, refusal_through, source_in, taken, value_given}
pub use Rattle.fr_model.specs.DefaultLaws.{HasNoDefault, names_none, no_such_field, no_default, DefaultIsThreeCalls, and_step, three_calls, AreSameButCalls}
pub use Rattle.fr_model.specs.Dropping.{dropped_by_completing, not_taken_among, left_out_of, dropped_among, dropped_but, dropped_by_finishing}
pub use Rattle.fr_model.specs.DynamicPlaces.{array_anew, object_anew, kept_array, kept_object, entry_refusal, is_begun_object, array_of, object_of, entry_found, entry_number, number_or_last, and_entry, with_entry, is_begun_dynamic, is_dynamic_tracker}
pub use Rattle.fr_model.specs.Dynamics.{element_vals, member_vals, member_keys, elements_in, members_of_object, dynamic_in, dynamics_in, members_in, lacks, keys_apart, key_nth}
pub use Rattle.fr_model.specs.Entering.{Way, enters, opened, enter_child, enter, entered_on, number_on, opened_value, parts_as, opened_as}
pub use Rattle.fr_model.specs.Failing.{unmet_mark, first_unmet, first_missing, first_invalid, lack_of_begun, Failure, failing_path, failure_at, or_itself, failures, failures_among, unmet_by, unmet_mark_of, own_lack, first_by_walk, earlier_by, earlier}
pub use Rattle.fr_model.specs.FailingLaws.{IsHalfDone, turn_of, HasATurn, ChildrenAreOff, failures_beneath, LackingFails, NothingFailsOfDone, FinishOfDone, FailsAt, FailsOff, FailuresLieThere, EachFailureHasItsPlace, EachFailureOfATreeHasItsPlace, IsOrAfter}
pub use Rattle.fr_model.specs.Finish.{finished, closed, one_more_tree, closed_all, closed_but, begun_with, failures_but, failures_off, finished_here, failures_here, is_made_whole, is_closed_slice, kind_of}
pub use Rattle.fr_model.specs.DueNotes.{IsOffTheWay, IsAbove, IsLeft, IsHole, IsCursor, IsDue, StuckOrNoted, NotesWhatIsDue, AreDisjoint, LieApart, NotesLieApart}
pub use Rattle.fr_model.specs.Gathering.{left_out, is_there, and_last_val, items_in, items_left_out, with_entry_in, entry_leaves_out, entries_in, entries_left_out, with_item_in}
pub use Rattle.fr_model.specs.Items.{init_array_refusal, item_refusal, is_open_slice, closed_slice, shared_slice_refusal, whole_array_refusal, begun_item_refusal, with_item, shared_slice_by}
pub use Rattle.fr_model.specs.Journal.{Note, entered_at, wrote_at, Journal, Held, in_parts, written, just_entered, untouched, held, longest, entered_struct, by_entered, entered_value, by_held, by_parts, child_makes, completes_within, completes, journal_run, beside, standing, after_write, at_least_entered, after_entry, is_written, may_enter_children, Standing, covers, beneath, both_notes, each_notes, writing, closing_by, closing, closing_beside, closing_parts, closing_here_by, closing_here, finish_notes, place_of, Progress, initial_progress, rule, then_rules, rules, outcome_in, outcome, may_enter, goes_to_child, goes_to_found, writes, writes_and_leaves, goes_up, end_rule, begin_deferred_rule, finishes_with, finish_rule}
pub use Rattle.fr_model.specs.PathLaws.{EnteringAddsItsStep, HasBegun, HasBegunAs, IsAdmittedOn, IsKeptAs, KeptIsAdmitted, step_on, LeadAbove}
pub use Rattle.fr_model.specs.Places.{Column, strict_column, deferred_column, is_root, Place, count_children, child_count, one_more, product_of, each_child, child_shape, fill_of_field, fill_at, content_shape, part, part_at, array_limit, count_entries, is_key, in_turn, up, shape_at, vals_nth, shape_of_field, shape_of_child, shape_or_zero, pointee_shape, item_shape, fill_by, fill_in}
pub use Rattle.fr_model.specs.Relation.{HasParts, HasPlace, StandsFor, IsRelated, BothGoOn}
pub use Rattle.fr_model.specs.Removed.{replaced, dropped_with_source, kept_by_inner, dropped_by_proxy, leaves_source, dropped_unless, dropped_if, dropped_by_selecting, column_at_end, dropped_by_column, dropped_at_end, removed, removed_by, removed_at_build, removed_by_build, dropped_with_item}
pub use Rattle.fr_model.specs.Run.{full_run, Refusal, unsized_refusal, alloc_refusal, numbered, and_then, run_from, unless_alloc}
pub use Rattle.fr_model.specs.Step.{begins_array, above, source_kept, enters_source, inner_option_kept, begins_converted, begins_inner, begin_inner, begins_by_proxy, begins_if_proxied, is_source_place, ends_source, unless_refused, at_shape, named_refusal, takes_shape, field_default, puts_child, puts_child_default, defaults_field, option_kept, content_kept, begin_side, pointer_kept, begins_pointer, opens, becomes, init_list_refusal, init_map_refusal, init_set_refusal, begins_list, init_list, begins_map, set_refusal, puts_dynamic, set_dynamic, puts_made, closes_slice, leaves_place, selects, select_found, select, violates, puts, puts_default, puts_and_leaves, ended, leaves, is_set_item, takes_item, item_ended, is_dynamic_part, part_ended, leaves_deferred, end_in, begins_deferred, finishes, finish_in, step, field_refusal, put_child, cause, built, build_in, build, is_str, is_owned_string_kind, is_owned_string, variant_kept, begins_named, ends_item, default_or, default_by_mark, set}
pub use Rattle.fr_model.specs.Trackers.{Tracker, as_content, ContentKind, Conversion, Through, is_conversion, hook_of_tracker, source_of_tracker, as_fields, as_elements, as_items, ItemsKind, as_entries, EntriesKind, base_of_tracker, keys_of_tracker, same_keys, same_tracker, variant_of}
pub use Rattle.fr_model.specs.Tree.{selected, Tree, whole, count_below, Mode, strict, deferred, State, cursor_shape, cursor_tree, cursor_field, field_as, field_below, field_along, is_begun_conversion, without_source, tree_occurs, hole, entered, begun, Trees, no_trees, branch, tree_nth, change_nth, tree_at, change_at, shape_in, child_as, count_trees, shapes_from, fresh, for_hole, and_last, wholes, trees_occur, one_more_call, initial, tracker_of, tracker_at, over_base, child_tree, change_child, holes, shape_below}
pub use Rattle.fr_model.specs.Variants.{is_enum, variant_numbered, variant_named, variant_told_by, selection_refusal, fields_or_none, variant_fields, has_discriminant, field_found}
pub use Rattle.fr_model.specs.Well.{Suits, AtCursor, IsInOrder, IsBegunAs, IsTouched, OffBut, Leads, HasContent, HasFieldsOf, HasFields, TakesItemsAs, IsFullAs, MayBegin, MayWorkAt, ConversionSuits, ConversionsSuit, AllConversionsSuit, MayPoint, IsContent, IsBegunRightly, SuitAll, IsBehindBase, RestsAround, HasEntries, AreEntries, IsOff, AllOff, BeganAbove, AreTouched, AreDone, in_front, IsBase, Rests, AllRest, RestBut, AreDistinct, IsWell, PointsTo, AreValues, AreItems}
