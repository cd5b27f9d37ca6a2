-- The names that clauses and proofs cite most, passed on from one place. Declares nothing.
pub use Rattle.fr_frame.specs.Bodies.{Body, begun_body, is_around, own_tree}
pub use Rattle.fr_values.specs.Cells.{Cell}
pub use Rattle.fr_frame.specs.Heap.{as_tracker, body_of}
pub use Rattle.fr_model.specs.Commands.{Call}
pub use Rattle.fr_model.specs.Paths.{path_of}
pub use Rattle.fr_model.specs.Run.{unsized_refusal}
pub use Rattle.fr_model.specs.Trackers.{ContentKind, Tracker, as_content, as_elements, as_entries, as_fields, as_items}
pub use Rattle.fr_model.specs.Tree.{State, Tree, Trees, begun, branch, child_as, count_trees, cursor_tree, entered, hole, is_begun_conversion, no_trees, selected, strict, whole}
pub use Rattle.fr_model.specs.Variants.{variant_named}
pub use Rattle.fr_model.specs.Well.{ConversionsSuit, IsFullAs, IsInOrder, RestsAround, Suits}
pub use Rattle.fr_partial.specs.Builder.{Builder, IsCall, holds}
pub use Rattle.fr_work.specs.Making.{IsNotOutOfMemory}
pub use Rattle.fr_moves.specs.WithoutMemory.{takes_no_memory}
pub use Rattle.fr_moves.specs.HeldPlan.{plan_in}
pub use Rattle.fr_moves.specs.Moving.{IsMeant}
pub use Rattle.fr_work.specs.Deciding.{Decides, NeedsNone}
pub use Rattle.fr_refusals.specs.Openings.{is_begun}
pub use Rattle.fr_moves.specs.Sites.{Site, shape_at}
pub use Rattle.fr_work.specs.Starting.{IsPlanFrom}
pub use Rattle.fr_moves.specs.declared.moves.Move.{Move}
pub use Rattle.fr_plan.specs.TypePlan.{IsPlanOf, Plan}
pub use Rattle.fr_plan.specs.declared.nodes.TypePlanNode.{TypePlanNode}
pub use Rattle.fr_shape.specs.Checked.{IsChecked}
pub use Rattle.fr_shape.specs.Fits.{fits}
pub use Rattle.fr_shape.specs.Hooks.{Meanings}
pub use Rattle.fr_shape.specs.Look.{IsIn, Table, def_of, variants_of}
pub use Rattle.fr_shape.specs.Numbered.{IsNumbered}
pub use Rattle.fr_shape.specs.Released.{Room, RoseBy}
pub use Rattle.fr_shape.specs.TokenLaws.{Room_same}
pub use Rattle.fr_shape.specs.Tokens.{occurs, tokens}
pub use Rattle.fr_shape.specs.Val.{Val, no_vals}
pub use Rattle.fr_shape.specs.View.{view}
pub use Rattle.fr_shape.specs.declared.error.ReflectErrorKind.{ReflectErrorKind}
pub use Rattle.fr_shape.specs.declared.shape.ShapeId.{ShapeId}
pub use Rattle.fr_shape.specs.declared.value.Value.{Value}
pub use Rattle.std.specs.Option.{option_or}
pub use Rattle.std.specs.Prelude.{IfErr, IfOk, IfSome, List, None, OnErr, OnOk, Some, [], false, length, true, ℕ}
