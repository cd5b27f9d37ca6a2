-- The names that clauses and proofs cite most, passed on from one place. Declares nothing.
pub use Rattle.fr_frame.specs.Bodies.{Body, HoldsNothingTwice, begun_body, entered_body, is_around, own_tree, trees_of, whole_body}
pub use Rattle.fr_values.specs.Cells.{Cell, absent, given, placed}
pub use Rattle.fr_frame.specs.Changes.{Shows}
pub use Rattle.fr_frame.specs.Completing.{shape_of}
pub use Rattle.fr_frame.specs.Heap.{Node, as_tracker, body_of, heap_of}
pub use Rattle.fr_frame.specs.Kids.{Kid, Plot, at, begun_plot, body_in, child_node, entered_plot, gone, tree_in, tree_of, trees_in, whole_plot}
pub use Rattle.fr_frame.specs.declared.places.FrameOwner.{FrameOwner}
pub use Rattle.fr_frame.specs.declared.places.Slot.{Slot}
pub use Rattle.fr_model.specs.Collections.{is_map, is_set, lacks_value, set_item_refusal, value_refusal}
pub use Rattle.fr_model.specs.Commands.{Call}
pub use Rattle.fr_model.specs.Complete.{complete}
pub use Rattle.fr_model.specs.Contents.{is_result, kept_so, pointer_refusal, points_to_slice}
pub use Rattle.fr_model.specs.ScalarsAsDynamics.{converted}
pub use Rattle.fr_model.specs.DynamicPlaces.{entry_refusal, is_begun_dynamic}
pub use Rattle.fr_model.specs.Items.{init_array_refusal, is_open_slice, item_refusal}
pub use Rattle.fr_model.specs.Paths.{path_of, step_as}
pub use Rattle.fr_model.specs.Places.{Place, content_shape, is_root, strict_column, up}
pub use Rattle.fr_model.specs.Run.{unsized_refusal}
pub use Rattle.fr_model.specs.Step.{at_shape, field_default, field_refusal, init_list_refusal, init_map_refusal, init_set_refusal, named_refusal, opened, operation_failed, parts_as, step, takes_shape, unless_refused}
pub use Rattle.fr_model.specs.Trackers.{ContentKind, EntriesKind, ItemsKind, Tracker, as_content, as_elements, as_entries, as_fields, as_items}
pub use Rattle.fr_model.specs.Tree.{Mode, State, Tree, Trees, begun, branch, change_at, child_as, child_tree, count_below, count_trees, cursor_tree, deferred, entered, fresh, hole, holes, is_begun_conversion, no_trees, one_more_call, selected, shape_in, strict, tracker_of, tree_at, tree_nth, whole}
pub use Rattle.fr_model.specs.Variants.{field_found, variant_fields, variant_named, variant_told_by}
pub use Rattle.fr_model.specs.Well.{ConversionsSuit, IsFullAs, IsInOrder, Leads, OffBut, RestsAround, Suits}
pub use Rattle.fr_refusals.specs.Beginnings.{beginning_in, beginning_of_inner, beginning_of_some, beginning_so}
pub use Rattle.fr_work.specs.Sides.{side_call}
pub use Rattle.fr_work.specs.Making.{IsNotOutOfMemory}
pub use Rattle.fr_values.specs.ConversionNeeds.{IsUnconverted, copies_to_convert}
pub use Rattle.fr_moves.specs.CompletedPlaces.{WhyNot}
pub use Rattle.fr_frame.specs.Admitting.{Describes}
pub use Rattle.fr_moves.specs.WithoutMemory.{takes_no_memory}
pub use Rattle.fr_moves.specs.HeldPlan.{plan_in}
pub use Rattle.fr_refusals.specs.Looks.{LooksLike, lacks_last}
pub use Rattle.fr_work.specs.LooksHere.{Sees}
pub use Rattle.fr_refusals.specs.Modes.{mode_of}
pub use Rattle.fr_moves.specs.Moving.{ComesTo, IsMeant, MayGo, MayStay, carried, carried_by, meant_by}
pub use Rattle.fr_work.specs.Deciding.{Decides, IsRefused, NeedsNone}
pub use Rattle.fr_refusals.specs.Openings.{HasItems, MayOpenAs, is_begun}
pub use Rattle.fr_refusals.specs.SettingDynamic.{converts_at}
pub use Rattle.fr_moves.specs.Sites.{Site, held_at, shape_at}
pub use Rattle.fr_moves.specs.Underway.{IsAtWork, held_in, top_place, top_shape, top_tree, whole_tree}
pub use Rattle.fr_moves.specs.Works.{IsSound, site}
pub use Rattle.fr_frame.specs.declared.admitting.Opening.{Opening}
pub use Rattle.fr_refusals.specs.declared.beginning.Beginning.{Beginning}
pub use Rattle.fr_moves.specs.declared.moves.Change.{Change}
pub use Rattle.fr_moves.specs.declared.moves.Move.{Move}
pub use Rattle.fr_moves.specs.declared.moves.Way.{Way}
pub use Rattle.fr_moves.specs.declared.parts.Parts.{Parts}
pub use Rattle.fr_plan.specs.LookupLaws.{LookupPathsAgree, LookupsAgree}
pub use Rattle.fr_plan.specs.TypePlan.{IsPlanOf, Plan}
pub use Rattle.fr_plan.specs.declared.nodes.NodeId.{NodeId}
pub use Rattle.fr_plan.specs.declared.nodes.TypePlanNode.{TypePlanNode}
pub use Rattle.fr_shape.specs.Checked.{IsChecked}
pub use Rattle.fr_shape.specs.Fills.{is_option, preset_of}
pub use Rattle.fr_shape.specs.Fits.{fits}
pub use Rattle.fr_shape.specs.Hooks.{Meanings}
pub use Rattle.fr_shape.specs.Look.{IsIn, Table, def_of, field_in, settled, variants_of}
pub use Rattle.fr_shape.specs.Numbered.{IsNumbered}
pub use Rattle.fr_shape.specs.Plannable.{is_dynamic}
pub use Rattle.fr_shape.specs.Released.{Conserved, Room, RoseBy}
pub use Rattle.fr_shape.specs.TokenLaws.{Conserved_same, Room_conserved, Room_same, RoseBy_same}
pub use Rattle.fr_shape.specs.Tokens.{occurs, tokens}
pub use Rattle.fr_shape.specs.Val.{Val, list_of, no_vals, unit}
pub use Rattle.fr_shape.specs.View.{dyn_view, view}
pub use Rattle.fr_shape.specs.declared.error.Expected.{Expected}
pub use Rattle.fr_shape.specs.declared.error.Operation.{Operation}
pub use Rattle.fr_shape.specs.declared.error.ReflectErrorKind.{ReflectErrorKind}
pub use Rattle.fr_shape.specs.declared.shape.Def.{Def}
pub use Rattle.fr_shape.specs.declared.shape.EnumDef.{EnumDef}
pub use Rattle.fr_shape.specs.declared.shape.Field.{Field}
pub use Rattle.fr_shape.specs.declared.shape.ScalarKind.{ScalarKind}
pub use Rattle.fr_shape.specs.declared.shape.ShapeId.{ShapeId}
pub use Rattle.fr_shape.specs.declared.shape.VariantDef.{VariantDef}
pub use Rattle.fr_shape.specs.declared.value.Value.{Value}
pub use Rattle.fr_store.specs.StackMoves.{HasChild, IsOpenAt, cursor_in, node_here, tree_here}
pub use Rattle.fr_store.specs.Numbers.{IsLast}
pub use Rattle.fr_store.specs.ShapeLaws.{Along, IsOfShape}
pub use Rattle.fr_store.specs.Stands.{IsOpen, kid_shown}
pub use Rattle.fr_store.specs.Stored.{NothingStored}
pub use Rattle.fr_store.specs.TopLaws.{MayHaveIts}
pub use Rattle.fr_store.specs.Ways.{node_along}
pub use Rattle.std.specs.Option.{option_or}
pub use Rattle.std.specs.Prelude.{IfErr, IfOk, IsErr, IsSome, List, None, OnErr, OnOk, [], false, length, true, ℕ}
pub use Rattle.fr_path.specs.declared.path_steps.PathStep.{PathStep}
pub use Rattle.fr_store.specs.MoveLaws.{open_top}
