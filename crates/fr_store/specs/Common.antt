-- The names that clauses and proofs cite most, passed on from one place. Declares nothing.
pub use Rattle.fr_store.specs.Below.{AreLeftAll, AreLeftIn, AreLeftRightly, AreUnplaced, AtCursor, Body, Cell, ChildWay, Conserved, ContentKind, Conversion, Def, EachFailureHasItsPlace, Entries, EntriesKind, Failure, FillsAt, FinishesOrRefuses, FirstByWalkIs, FrameOwner, HasATurn, HasPlace, Heap, Holds, HoldsAll, HoldsIn, IfInUse, IsChecked, IsClosed, IsGrowing, IsHalfDone, IsInUse, IsItemOf, IsLawful, IsLeftRightly, IsMapBody, IsSetBody, IsThere, IsUnplaced, ItemsKind, Kid, Kids, LackingFails, MayHave, Meanings, Node, NodeId, PathStep, Place, Plan, Plot, ReflectErrorKind, Room, Room_fewer, Room_risen, Room_same, RoseBy, RoseBy_both, RoseBy_same, SameMarks, SameTokens, Shows, Slot, SlotId, Suits, Table, Taker, TakesItems, Tracker, Tree, Trees, Val, Vals, absent, added, added_entry, and_item, and_item_cell, and_last, as_content, as_entries, as_fields, as_items, as_tracker, at, base_in, base_of_tracker, begun, begun_body, begun_plot, body_in, body_occurs, body_of, both, branch, cause_by, cell_at, cell_of, cells_in, cells_of_vals, change_at, change_child, child_as, child_node, child_owner, child_tree, closed, closed_at, complete, count_below, count_entries, count_trees, count_vals, def_of, deferred_column, depth_above, depth_below, depth_limit, enter, entered, entered_node, entered_plot, entries_of, entry, entry_found, entry_of, entry_owner, failure_at, failures, failures_among, failures_but, failures_off, finished, first, first_by_walk, fresh, given, gone, heap_of, held_by, hole, holes, in_turn, is_begun_conversion, is_begun_object, is_conversion, is_conversion_body, is_empty_struct, is_key, is_map, is_map_tracker, is_object_tracker, is_root, is_set, is_stored, item_owner, keys_apart, keys_here, keys_of_tracker, kid, kid_occurs, kids_occur, kind_of, lack_of_begun, linked, linked_by, links, map_of, marked, no_entries, no_kids, no_trees, no_vals, node_of, number_in, number_or_last, opened, opened_as, opened_by, opened_value, or_itself, or_missing, over_base, own_lack, parts_as, placed, plot_occurs, product, reformed, restarted, shape_in, shape_of, slot_of_cell, slots_occur, some, step_as, step_itself, step_order, steps_in, stored_in, strict, taken_over, there, tree_at, tree_in, tree_nth, tree_occurs, tree_of, trees_in, turn_of, unlinked, up, value_of, walk_order, whole, whole_body, whole_plot, wholes, with_body, with_cell, with_ended, with_ended_item, with_entered, with_mark, with_slot, without}
pub use Rattle.fr_store.specs.Beneath.{IsHeldUpHere, from_last, is_map_found, kid_on_top, slotted}
pub use Rattle.fr_store.specs.EnterLaws.{fresh_closed, fresh_plot, fresh_same, fresh_tree}
pub use Rattle.fr_store.specs.HoldLaws.{AgreeBeside, Replaces, holds_at, holds_frame, holds_frame_in, holds_nth, holds_put_nth, may_have_all, may_have_at, replaces_at}
pub use Rattle.fr_store.specs.LeaveLaws.{above_append, below_root, cell_of_child, cells_nth, kid_at_append, may_have_put, owner_append, put_append, unlinked_child, up_append, with_child, within_put}
pub use Rattle.fr_store.specs.LeftLaws.{at_for_at, at_for_itself, closed_plain, entry_next, left_as, left_at, left_gone, left_nth, left_put_at, left_put_nth, left_value, no_base}
pub use Rattle.fr_store.specs.MoveLaws.{open_at_from, open_reach, open_top, same_front, same_last, slots_tokens, so_top, top_changed, top_found, top_in_use, top_slot, top_so, top_stands, top_stands_in}
pub use Rattle.fr_store.specs.StackMoves.{AtTop, HasChild, HasOwner, HasTracker, IsBegunSlice, IsLeftBy, IsOpenAt, IsSlice, MayEnter, MayHandOver, begun_as, changed_here, child_number, count_here, cursor_in, entered_by, node_by, node_here, place_then, takes_at_end, takes_at_end_as, tokens_here, tokens_in, tracker_in, tree_here, tree_in_slots, tree_then, with_entry_of, with_entry_unless, with_item_of, with_key_of}
pub use Rattle.fr_store.specs.Numbers.{IsLast, numbers, slot_of, slots_of}
pub use Rattle.fr_store.specs.PlaceOrder.{AreAllStored, AreOnce, BelongsTo, ComesEarlier, IsHere, IsKeyOf, IsNarrow, IsNoted, IsPlaced, IsSpread, IsStoredChildOf, IsStoredHere, Pairs, counts_in, first_key, is_between, key_of, order_as, order_below, slot_at, slot_here, slots_between, stored_here}
pub use Rattle.fr_store.specs.Prunes.{IsPruned, IsRooted, beneath, cells_found, cells_in_body, pruned, slotted_occur}
pub use Rattle.fr_store.specs.StandLaws.{AllServe, all_kept, kid_is, stands_change, all_changed, all_kept_but, stands_reach}
pub use Rattle.fr_store.specs.Stands.{IsOpen, IsOpened, Stands, cursor_shown, kid_here, kid_shown}
pub use Rattle.fr_store.specs.StayPut.{AllStayPut, StayPutBut, StayPutButBeneath, StayPutAs, StaysPut}
pub use Rattle.fr_store.specs.Stored.{IsKept, IsStoredChild, NothingStored, StoresNoMore, IsStoredBy, child_slot}
pub use Rattle.fr_store.specs.TopLaws.{KeepsChildren, LosesNone, MayHaveIts, Top, body_here, body_other, cells_count, closed_marked, closed_uses, keeps_closed, keeps_same, marked_body, slot_other, top_held, top_of, top_uses, used_mapped, free_unused, marked_entered, not_beneath, top_replaced}
pub use Rattle.fr_store.specs.Suited.{IsSuited}
pub use Rattle.fr_store.specs.Turning.{HasTurned, IsLackingAt, KeepsTheRest, LacksHere, MayTurn, StoppedByTurns, Walked, OpenStayPut, kid_done, made_whole}
pub use Rattle.fr_store.specs.Turns.{IsHeldUp, done_at, root_shape}
pub use Rattle.fr_store.specs.Walks.{AreInWalkOrder, AreStoredAt, ComesBefore, IsStoredAt, IsWalk}
pub use Rattle.fr_store.specs.WayLaws.{along_at, along_put_at, count_in, count_put, counts_other, counts_own, counts_same, kid_put_at, leads_at, leads_put_at, leads_reach, marked_at, marked_nth, nth_put, put_at_twice, put_nth_twice, same_or_other, stored_but, tree_change_at, tree_of_at, tree_of_nth, tree_put_at, tree_put_nth, tree_tokens, uses_at, uses_nth, uses_put_at, uses_put_nth}
pub use Rattle.fr_store.specs.Ways.{AllMarked, AllMarkedAmong, AllMarkedIn, LeadsUnstored, NoneStored, Reaches, StoredBut, count_kids, counts_if, kid_at, kid_below, kid_in_plot, kid_nth, node_along, owner_along, owner_below, put_at, put_below, put_nth, slots_above, slots_along, uses, uses_among, uses_in}
pub use Rattle.fr_store.specs.declared.turning.StoredPlace.{StoredPlace}
pub use Rattle.std.specs.Cmp.Lexicographic.{slice_cmp}
pub use Rattle.std.specs.List.{All, Contains, filter}
pub use Rattle.std.specs.List.Sorted.{IsNonDecreasingBy}
pub use Rattle.std.specs.Option.{option_and_then, option_map}
pub use Rattle.std.specs.Ordering.{ordering_then}
pub use Rattle.std.specs.Prelude.{IsSome, IsSomeAnd, OnErr, OnOk, Some, [], false, is_some, length, true, ℕ}
pub use Rattle.std.specs.declared.cmp.Ordering.{Ordering}
pub use Rattle.std.specs.declared.cmp.Ordering.TheVariants.{Less}
