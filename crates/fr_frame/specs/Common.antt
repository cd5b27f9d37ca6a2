-- The names that clauses and proofs cite most, passed on from one place. Declares nothing.
pub use Rattle.fr_arena.specs.Ropes.{Rope}
pub use Rattle.fr_values.specs.Bases.{AreApart}
pub use Rattle.fr_frame.specs.Bodies.{AreUnplaced, Body, HasAllChildren, HoldsNothingTwice, IsClosed, IsGrowing, IsSetBody, added, added_entry, begun_body, body_occurs, cell_at, count_cells, entered_body, is_conversion_body, keys_in, linked, opened, own_tree, reformed, restarted, takes_memory, trees_of, unlinked, value_of, whole_body, with_cell, with_ended, with_entry_for}
pub use Rattle.fr_frame.specs.Asking.{HasValidators, IsAnswer, IsPlanned, IsUnfilled, ask, ask_field, ask_holes, asked, cells_or_holes, defaulted_nth, question_of, refused_of, unmet_child}
pub use Rattle.fr_values.specs.Cells.{Cell, absent, and_item_cell, cell_occurs, cells_occur, cells_of_vals, given, placed, slot_of_cell, value_at, value_occurs, value_of_cell, values_of, without_cell}
pub use Rattle.fr_frame.specs.Changes.{Becomes, IfInUse, IsInUse, SameTokens, Shows}
pub use Rattle.fr_frame.specs.Closed.{IsClosedAt}
pub use Rattle.fr_frame.specs.Completing.{FillsAt, IsFilled, IsFull, IsPlanFor, MayComplete, WhyNot, shape_of, takes_template}
pub use Rattle.fr_frame.specs.Defaults.{KeepGiven, KeepsTracker, WhyNotDefault, defaulted, defaulted_by, defaulted_cell, defaulted_cells, defaulted_struct, first_asked, first_hole_left, invalid, unmet}
pub use Rattle.fr_frame.specs.Filling.{AreTold, IsCauseOf, IsNamed, IsTold, column_of, field_fill, first_refused, lack_of_child}
pub use Rattle.fr_frame.specs.Heap.{Heap, Node, as_tracker, body_of, depth_below, depth_limit, fields_of_tracker, gives, heap_of, held_by, links, node_in, node_of, slot_occurs, slots_occur, unlinks, with_body, with_entered, with_mark, with_slot, without}
pub use Rattle.fr_frame.specs.ListItems.{FreesItem, FreesItems, HeldItems, IsListedIn, IsPlain, IsPlainAt, IsReserved, IsUsedAt, KeepsReserved, children_with, held_items, is_list, is_used, item_cell, item_in, item_or, keeps_items, partial_with, place_with, slot_seen, slots_seen, value_held, with_items, with_placed}
pub use Rattle.fr_frame.specs.Outlines.{is_begun_body, is_list_body, outlined}
pub use Rattle.fr_frame.specs.RawItems.{HasRoomIn, IsSeenAs}
pub use Rattle.fr_frame.specs.RawSlots.{body_with}
pub use Rattle.fr_frame.specs.declared.field_plans.FillColumn.{FillColumn}
pub use Rattle.fr_frame.specs.declared.lacking.Question.{Question}
pub use Rattle.fr_frame.specs.declared.places.FrameOwner.{FrameOwner}
pub use Rattle.fr_frame.specs.declared.places.Item.{Item}
pub use Rattle.fr_frame.specs.declared.places.PartialValue.{PartialValue}
pub use Rattle.fr_frame.specs.declared.places.Place.{Place}
pub use Rattle.fr_frame.specs.declared.places.Slot.{Slot}
pub use Rattle.fr_frame.specs.declared.places.SlotId.{SlotId}
pub use Rattle.fr_model.specs.Complete.{complete, failing_child, hole_takes, lack, lack_among, lack_of_holes, made, missing_child, missing_value}
pub use Rattle.fr_model.specs.DynamicPlaces.{entry_found}
pub use Rattle.fr_model.specs.Dynamics.{dynamic_in, keys_apart, member_vals}
pub use Rattle.fr_model.specs.Failing.{first_invalid, first_unmet, unmet_mark}
pub use Rattle.fr_model.specs.Gathering.{entries_in, items_in}
pub use Rattle.fr_model.specs.Places.{Column, child_count, deferred_column, entries_of, fill_of_field, in_turn, one_more, parts_of, set_items_of, strict_column}
pub use Rattle.fr_model.specs.Trackers.{ContentKind, EntriesKind, ItemsKind, Tracker, as_content, as_elements, as_entries, as_fields, as_items, is_conversion}
pub use Rattle.fr_model.specs.Tree.{Trees, holes}
pub use Rattle.fr_model.specs.Well.{IsFullAs}
pub use Rattle.fr_plan.specs.Fields.{has_validators}
pub use Rattle.fr_plan.specs.TypePlan.{Plan}
pub use Rattle.fr_plan.specs.declared.nodes.NodeId.{NodeId}
pub use Rattle.fr_plan.specs.declared.nodes.TypePlanNode.{TypePlanNode}
pub use Rattle.fr_plan.specs.declared.plans.FieldPlan.{FieldPlan}
pub use Rattle.fr_rules.specs.FillRules.{fill_told}
pub use Rattle.fr_rules.specs.Pools.{part_of}
pub use Rattle.fr_shape.specs.Checked.{IsChecked}
pub use Rattle.fr_shape.specs.Fills.{preset_of}
pub use Rattle.fr_shape.specs.Hooks.{Meanings}
pub use Rattle.fr_shape.specs.Look.{Table, def_of, field_at, field_in, field_of_variant}
pub use Rattle.fr_shape.specs.Released.{Conserved, Room, RoseBy}
pub use Rattle.fr_shape.specs.TokenLaws.{Room_same}
pub use Rattle.fr_shape.specs.Tokens.{occurs, tokens, vals_occur}
pub use Rattle.fr_shape.specs.Val.{Entries, Val, Vals, entry, first, map_of, no_entries, no_vals, product}
pub use Rattle.fr_shape.specs.View.{entries_view, vals_view, view}
pub use Rattle.fr_shape.specs.declared.error.ReflectErrorKind.{ReflectErrorKind}
pub use Rattle.fr_shape.specs.declared.shape.Def.{Def}
pub use Rattle.fr_shape.specs.declared.shape.Field.{Field}
pub use Rattle.fr_shape.specs.declared.shape.FieldRef.{FieldRef}
pub use Rattle.fr_shape.specs.declared.shape.VariantDef.{VariantDef}
pub use Rattle.fr_shape.specs.declared.value.Value.{Value}
pub use Rattle.fr_shape.specs.declared.value.Value.TheFolds.{the_lemmas}
pub use Rattle.std.specs.Option.{option_and_then, option_copied, option_map, option_or}
pub use Rattle.std.specs.Prelude.{Err, IfErr, IfNone, IfOk, IfSome, IsOk, IsSome, List, None, Ok, OnErr, OnOk, Result, Some, [], false, is_some, length, slice_get, slice_set, true, unwrap_or, ℕ, ◌≡◌, ◌⊎◌}
pub use Rattle.std.specs.declared.alloc.Global.{Global}
pub use Rattle.std.specs.declared.boxed.Box.{Box}
