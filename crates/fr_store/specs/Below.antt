-- The names of the crates below that the specs of this one cite, passed on from one place. Declares nothing.
pub use Rattle.fr_frame.specs.Bodies.{AreUnplaced, Body, IsClosed, IsGrowing, IsMapBody, IsSetBody, IsUnplaced, TakesItems, added, added_entry, begun_body, body_occurs, can_make, cell_at, entered_body, fresh_body, is_conversion_body, linked, linked_by, opened, opened_by, own_tree, reformed, restarted, taken_over, trees_of, unlinked, unlinked_by, value_of, whole_body, with_cell, with_ended}
pub use Rattle.fr_values.specs.Cells.{and_item_cell, cells_of_vals}
pub use Rattle.fr_values.specs.Cells.{Cell, absent, cell_occurs, cells_occur, given, placed, slot_of_cell, values_of}
pub use Rattle.fr_frame.specs.Changes.{IfInUse, IsInUse, SameMarks, SameTokens, Shows}
pub use Rattle.fr_frame.specs.Completing.{FillsAt, IsFull, IsPlanFor, MayComplete, shape_of}
pub use Rattle.fr_frame.specs.Defaults.{WhyNotDefault}
pub use Rattle.fr_frame.specs.Heap.{Heap, IsItemOf, Node, as_tracker, body_of, depth_above, depth_below, depth_limit, entered_node, entry_owner, gives, heap_of, held_by, item_owner, links, marked, node_in, node_of, slot_occurs, slots_occur, stored_in, with_body, with_entered, with_mark, with_slot, without}
pub use Rattle.fr_frame.specs.Kids.{AreLeftAll, AreLeftIn, AreLeftRightly, Holds, HoldsAll, HoldsIn, IsLeftRightly, IsThere, Kid, Kids, MayHave, Plot, at, begun_plot, body_in, cell_of, cells_in, child_node, child_owner, entered_plot, gone, is_stored, kid, kid_from, kid_in, kid_occurs, kid_of, kids_in, kids_occur, no_kids, plot_in, plot_occurs, there, tree_in, tree_of, trees_in, whole_plot}
pub use Rattle.fr_frame.specs.declared.places.ChildWay.{ChildWay}
pub use Rattle.fr_frame.specs.declared.places.FrameOwner.{FrameOwner}
pub use Rattle.fr_frame.specs.declared.places.Slot.{Slot}
pub use Rattle.fr_frame.specs.declared.places.SlotId.{SlotId}
pub use Rattle.fr_frame.specs.declared.places.Taker.{Taker}
pub use Rattle.fr_model.specs.Collections.{and_item, is_map, is_map_tracker, is_set, is_set_tracker, number_in, with_ended_item}
pub use Rattle.fr_model.specs.Complete.{complete, made, value_as}
pub use Rattle.fr_model.specs.DynamicPlaces.{entry_found, is_begun_dynamic, is_begun_object, is_dynamic_tracker, is_object_tracker, keys_here, number_or_last}
pub use Rattle.fr_model.specs.Dynamics.{keys_apart}
pub use Rattle.fr_model.specs.Failing.{Failure, failure_at, failures, failures_among, first_by_walk, lack_of_begun, or_itself, own_lack}
pub use Rattle.fr_model.specs.FailingLaws.{EachFailureHasItsPlace, FinishesOrRefuses, FirstByWalkIs, HasATurn, IsHalfDone, LackingFails, turn_of}
pub use Rattle.fr_model.specs.Finish.{closed, failures_but, failures_off, finish_cause, finished, finished_here, is_closed_slice, kind_of}
pub use Rattle.fr_model.specs.FinishLaws.{Closes, ClosingKeepsCompletion, ClosingKeepsFailures, ClosingKeepsFailuresOff, ClosingKeepsFinish, closed_at}
pub use Rattle.fr_model.specs.DueNotes.{IsAbove, IsOffTheWay}
pub use Rattle.fr_model.specs.Paths.{step_as, steps_in}
pub use Rattle.fr_model.specs.Places.{Place, base_in, count_entries, deferred_column, entries_of, entry_of, in_turn, is_key, is_root, one_more, up}
pub use Rattle.fr_model.specs.Relation.{HasPlace}
pub use Rattle.fr_model.specs.Step.{cause_by, enter, opened_as, opened_value, or_missing, parts_as}
pub use Rattle.fr_model.specs.Trackers.{ContentKind, Conversion, EntriesKind, ItemsKind, Tracker, as_content, as_elements, as_entries, as_fields, as_items, base_of_tracker, is_conversion, keys_of_tracker}
pub use Rattle.fr_model.specs.Tree.{Tree, Trees, and_last, begun, branch, change_at, change_child, change_nth, child_as, child_tree, count_below, count_trees, entered, field_as, fresh, hole, holes, is_begun_conversion, no_trees, over_base, shape_below, shape_in, shapes_from, strict, tree_at, tree_nth, tree_occurs, trees_occur, whole, wholes}
pub use Rattle.fr_model.specs.Well.{AllConversionsSuit, AreEntries, AreTouched, AtCursor, ConversionSuits, ConversionsSuit, IsBegunAs, IsBegunRightly, IsContent, IsFullAs, IsTouched, SuitAll, Suits}
pub use Rattle.fr_path.specs.Order.{step_order, walk_order}
pub use Rattle.fr_path.specs.OrderLaws.{step_itself}
pub use Rattle.fr_path.specs.declared.path_steps.PathStep.{PathStep}
pub use Rattle.fr_plan.specs.LookupLaws.{LookupPathsAgree, LookupsAgree}
pub use Rattle.fr_plan.specs.ReachLaws.{NodesAreReached, ReachedHaveNodes}
pub use Rattle.fr_plan.specs.TypePlan.{Plan}
pub use Rattle.fr_plan.specs.declared.nodes.NodeId.{NodeId}
pub use Rattle.fr_plan.specs.declared.nodes.TypePlanNode.{TypePlanNode}
pub use Rattle.fr_shape.specs.Checked.{IsChecked}
pub use Rattle.fr_shape.specs.Fills.{is_empty_struct}
pub use Rattle.fr_shape.specs.Fits.{count_vals}
pub use Rattle.fr_shape.specs.Hooks.{IsLawful, Meanings}
pub use Rattle.fr_shape.specs.Look.{Table, def_of}
pub use Rattle.fr_shape.specs.Released.{Conserved, Room, RoseBy}
pub use Rattle.fr_shape.specs.TokenLaws.{Room_fewer, Room_risen, Room_same, RoseBy_both, RoseBy_same, both}
pub use Rattle.fr_shape.specs.Tokens.{occurs}
pub use Rattle.fr_shape.specs.Val.{Entries, Val, Vals, entry, first, map_of, no_entries, no_vals, product, some}
pub use Rattle.fr_shape.specs.declared.error.ReflectErrorKind.{ReflectErrorKind}
pub use Rattle.fr_shape.specs.declared.shape.Def.{Def}
