-- The names that clauses and proofs cite most, passed on from one place. Declares nothing.
pub use Rattle.fr_frame.specs.Bodies.{Body, HoldsNothingTwice, MayOpen, begun_body, entered_body, is_around, own_tree, takes_memory, trees_of, value_of, whole_body}
pub use Rattle.fr_values.specs.Cells.{Cell, absent, given, placed}
pub use Rattle.fr_frame.specs.Changes.{SameMarks, SameTokens, Shows}
pub use Rattle.fr_frame.specs.Completing.{shape_of}
pub use Rattle.fr_frame.specs.Defaults.{KeepsTracker}
pub use Rattle.fr_frame.specs.Heap.{Node, as_tracker, body_of, heap_of}
pub use Rattle.fr_frame.specs.Kids.{Kid, MayHave, Plot, at, begun_plot, body_in, child_node, entered_plot, gone, tree_in, tree_of, trees_in, whole_plot}
pub use Rattle.fr_frame.specs.declared.places.FrameOwner.{FrameOwner}
pub use Rattle.fr_frame.specs.declared.places.Slot.{Slot}
pub use Rattle.fr_model.specs.Collections.{is_map, is_map_tracker, is_set, lacks_value, value_refusal}
pub use Rattle.fr_model.specs.Commands.{Call}
pub use Rattle.fr_model.specs.Complete.{complete}
pub use Rattle.fr_model.specs.Contents.{kept_slice, kept_so, slice_anew, variant_anew}
pub use Rattle.fr_model.specs.ScalarsAsDynamics.{converted}
pub use Rattle.fr_model.specs.DynamicPlaces.{entry_refusal}
pub use Rattle.fr_model.specs.Items.{closed_slice, is_open_slice}
pub use Rattle.fr_model.specs.Paths.{path_of, step_as}
pub use Rattle.fr_model.specs.Places.{Place, is_root, strict_column, up}
pub use Rattle.fr_model.specs.Step.{enter, field_refusal, opened, opened_as, opened_value, parts_as, put_child, step, takes_shape, unless_refused}
pub use Rattle.fr_model.specs.Trackers.{ContentKind, EntriesKind, ItemsKind, Tracker, as_content, as_elements, as_entries, as_fields, as_items, base_of_tracker}
pub use Rattle.fr_model.specs.Tree.{Mode, State, Tree, Trees, and_last, begun, branch, change_at, change_child, child_as, child_tree, count_below, count_trees, cursor_tree, deferred, entered, fresh, hole, holes, is_begun_conversion, no_trees, one_more_call, selected, shape_in, strict, tracker_at, tracker_of, tree_at, tree_nth, tree_occurs, whole, without_source}
pub use Rattle.fr_model.specs.Variants.{variant_fields}
pub use Rattle.fr_model.specs.Well.{ConversionsSuit, IsFullAs, IsInOrder, Leads, OffBut, RestsAround, Suits}
pub use Rattle.fr_refusals.specs.Beginnings.{beginning_so, begun_by}
pub use Rattle.fr_moves.specs.MayBeginAs.{IsWholeWith}
pub use Rattle.fr_refusals.specs.DynamicBeginnings.{anew_as, kept_as}
pub use Rattle.fr_moves.specs.CompletedPlaces.{HoldsItsValue, MayReceive, WhyNot, needs_none_by}
pub use Rattle.fr_frame.specs.Admitting.{Describes}
pub use Rattle.fr_moves.specs.WithoutMemory.{takes_no_memory}
pub use Rattle.fr_moves.specs.HeldPlan.{plan_in}
pub use Rattle.fr_refusals.specs.Looks.{LooksLike, ends_absent, lacks_last}
pub use Rattle.fr_moves.specs.Making.{IsMade}
pub use Rattle.fr_refusals.specs.Modes.{mode_of}
pub use Rattle.fr_moves.specs.Moving.{IsMeant, MayGo, MayStay, carried, carried_by, changed, meant_by, number_told, onward}
pub use Rattle.fr_refusals.specs.Openings.{HasItems, MayOpenAs, is_begun}
pub use Rattle.fr_refusals.specs.SettingDynamic.{converts_at}
pub use Rattle.fr_moves.specs.Sites.{Site, held_at, shape_at}
pub use Rattle.fr_moves.specs.Underway.{AreOpen, AreOpened, Became, Changed, IsAtWork, StoresNothing, held_in, top_place, top_shape, top_tree, whole_tree}
pub use Rattle.fr_moves.specs.Works.{IsSound, site}
pub use Rattle.fr_frame.specs.declared.admitting.Opening.{Opening}
pub use Rattle.fr_refusals.specs.declared.beginning.Beginning.{Beginning}
pub use Rattle.fr_moves.specs.declared.moves.Change.{Change}
pub use Rattle.fr_moves.specs.declared.moves.Move.{Move}
pub use Rattle.fr_moves.specs.declared.moves.Rules.{Rules}
pub use Rattle.fr_moves.specs.declared.moves.Way.{Way}
pub use Rattle.fr_moves.specs.declared.parts.Frames.{Frames}
pub use Rattle.fr_moves.specs.declared.parts.Parts.{Parts}
pub use Rattle.fr_path.specs.declared.path_steps.PathStep.{PathStep}
pub use Rattle.fr_plan.specs.LookupLaws.{LookupPathsAgree, LookupsAgree}
pub use Rattle.fr_plan.specs.TypePlan.{IsPlanOf, Plan}
pub use Rattle.fr_plan.specs.declared.nodes.NodeId.{NodeId}
pub use Rattle.fr_plan.specs.declared.nodes.TypePlanNode.{TypePlanNode}
pub use Rattle.fr_shape.specs.Checked.{IsChecked}
pub use Rattle.fr_shape.specs.Fills.{preset_of}
pub use Rattle.fr_shape.specs.Fits.{fits}
pub use Rattle.fr_shape.specs.Hooks.{Meanings, no_hooks}
pub use Rattle.fr_shape.specs.Look.{IsIn, Table, def_of, field_in, settled}
pub use Rattle.fr_shape.specs.Plannable.{is_dynamic}
pub use Rattle.fr_shape.specs.Released.{Conserved, Room, RoseBy}
pub use Rattle.fr_shape.specs.TokenLaws.{Conserved_same, Room_conserved, Room_same, RoseBy_same}
pub use Rattle.fr_shape.specs.Tokens.{occurs, tokens}
pub use Rattle.fr_shape.specs.Val.{Val, Vals, no_vals, unit}
pub use Rattle.fr_shape.specs.View.{view}
pub use Rattle.fr_shape.specs.declared.error.Operation.{Operation}
pub use Rattle.fr_shape.specs.declared.error.ReflectErrorKind.{ReflectErrorKind}
pub use Rattle.fr_shape.specs.declared.shape.Def.{Def}
pub use Rattle.fr_shape.specs.declared.shape.EnumDef.{EnumDef}
pub use Rattle.fr_shape.specs.declared.shape.Field.{Field}
pub use Rattle.fr_shape.specs.declared.shape.ShapeId.{ShapeId}
pub use Rattle.fr_shape.specs.declared.shape.VariantDef.{VariantDef}
pub use Rattle.fr_store.specs.MoveLaws.{open_top, slots_tokens}
pub use Rattle.fr_store.specs.StackMoves.{AtTop, HasChild, IsOpenAt, begun_as, cursor_in, node_here, takes_at_end, tree_here}
pub use Rattle.fr_store.specs.Numbers.{IsLast}
pub use Rattle.fr_store.specs.ShapeLaws.{Along, IsOfShape, PointsRightly}
pub use Rattle.fr_store.specs.Stands.{IsOpen, kid_shown}
pub use Rattle.fr_store.specs.Stored.{IsKept, NothingStored}
pub use Rattle.fr_store.specs.Suited.{IsSuited}
pub use Rattle.fr_store.specs.TopLaws.{MayHaveIts}
pub use Rattle.fr_store.specs.Ways.{node_along}
pub use Rattle.std.specs.Option.{option_or}
pub use Rattle.std.specs.Prelude.{IfErr, IfOk, IsErr, IsOk, IsSome, IsSomeAnd, List, None, Ok, OnErr, OnOk, Some, [], false, is_some, length, true, unwrap_or, ℕ}
