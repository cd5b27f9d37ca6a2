-- The names that clauses and proofs cite most, passed on from one place. Declares nothing.
pub use Rattle.fr_arena.specs.BitSets.{BitSet}
pub use Rattle.fr_model.specs.ScalarsAsDynamics.{bytes_of, converted, from_bytes, is_byte, or_not_dynamic}
pub use Rattle.fr_model.specs.DynamicPlaces.{entry_found}
pub use Rattle.fr_model.specs.Dynamics.{dynamic_in, element_vals, keys_apart, member_keys, member_vals}
pub use Rattle.fr_model.specs.Gathering.{entries_in, is_there, items_in, with_entry_in, with_item_in}
pub use Rattle.fr_model.specs.Places.{one_more}
pub use Rattle.fr_model.specs.Step.{operation_failed}
pub use Rattle.fr_shape.specs.Compare.{compare}
pub use Rattle.fr_shape.specs.CompareSame.{same_tied}
pub use Rattle.fr_shape.specs.Fits.{fits}
pub use Rattle.fr_shape.specs.Look.{Table, def_of, settled}
pub use Rattle.fr_shape.specs.Released.{Conserved, Room, RoseBy}
pub use Rattle.fr_shape.specs.Same.{keys, none_twice, same}
pub use Rattle.fr_shape.specs.TokenLaws.{Room_fewer, Room_risen, Room_same, RoseBy_same, both}
pub use Rattle.fr_shape.specs.Tokens.{entries_occur, occurs, tokens, vals_occur}
pub use Rattle.fr_shape.specs.Val.{Entries, Val, Vals, dyn, entry, first, list_of, nat, no_entries, no_vals, unit}
pub use Rattle.fr_shape.specs.View.{dyn_view, entries_view, vals_view, view}
pub use Rattle.fr_shape.specs.declared.contents.ByContents.{ByContents}
pub use Rattle.fr_shape.specs.declared.error.Operation.{Operation}
pub use Rattle.fr_shape.specs.declared.error.ReflectErrorKind.{ReflectErrorKind}
pub use Rattle.fr_shape.specs.declared.shape.Def.{Def}
pub use Rattle.fr_shape.specs.declared.shape.ScalarKind.{ScalarKind}
pub use Rattle.fr_shape.specs.declared.shape.ShapeId.{ShapeId}
pub use Rattle.fr_shape.specs.declared.value.Dyn.{Dyn}
pub use Rattle.fr_shape.specs.declared.value.Value.{Value}
pub use Rattle.fr_shape.specs.declared.value.Value.TheFolds.{the_lemmas}
pub use Rattle.fr_values.specs.Bases.{AreApart, count_in_base}
pub use Rattle.fr_values.specs.Cells.{Cell, absent, and_item_cell, cell, cell_occurs, cells_occur, cells_of, cells_of_vals, given, has_same_cell, in_slot, is_same_cell, placed, slot_in_cells, slot_of_cell, value_at, value_occurs, value_of_cell, values_of, without_cell}
pub use Rattle.fr_values.specs.ChildIndex.{IndexesChildren}
pub use Rattle.fr_values.specs.ConversionNeeds.{IsUnconverted, are_octets, copies_to_convert}
pub use Rattle.fr_values.specs.Indexing.{Indexes, IsRun, has_number, is_held, joined, numbers_from, runs_of, val_at}
pub use Rattle.fr_values.specs.KeyNames.{names_of}
pub use Rattle.fr_values.specs.KeyPlaces.{HasKeys, Knows, entry_place, entry_places, first_keys, item_place, item_places, keys_among, place, place_known, places_of, turn_keys, with_new_key}
pub use Rattle.fr_values.specs.EntryParts.{HasRoom, parts_of_entries}
pub use Rattle.fr_values.specs.declared.bases.Base.{Base}
pub use Rattle.std.specs.List.{All}
pub use Rattle.std.specs.List.Sorted.{IsPermutation}
pub use Rattle.std.specs.Option.{option_and_then, option_copied, option_map, option_or}
pub use Rattle.std.specs.Prelude.{IfErr, IfNone, IfOk, IfSome, IsSome, List, OnErr, OnOk, Some, [], false, is_some, length, slice_get, slice_set, true, ℕ}
pub use Rattle.std.specs.Vec.Iter.{into_iter_items, into_iter_len}
pub use Rattle.std.specs.declared.cmp.Ordering.TheVariants.{Greater, Less}
