-- The lemmas that many proofs cite, passed on from one place. Declares nothing.
pub use Rattle.fr_model.proofs.Agreement.{hole_makes, completes_tree, leads_child, IsWhole, by_value, by_entry, Agrees, AgreeAll, agree_nth, child_as_is, leads_within, agree_along, completes_at, under_entered, under_wrote, follow, agree_same, begun_count, begun_takes, in_child, under, down_same, down_other}
pub use Rattle.fr_model.proofs.JournalBelow.{down, held_down, along, held_along, completes_along, longest_along}
pub use Rattle.fr_model.proofs.CompletedFits.{Made, completing_makes, no_made, made_or_lacks, none_valid, some_or, dropped_below, LawfulIn, AllLawfulIn, lawful_in, Children, all_completing_make}
pub use Rattle.fr_model.proofs.Cursor.{started, MayGoUp, may_go_up, may_go_deferred, changed_in_order, moved_in_order, made_at, start_in_order, left_in_order, deferred_in_order, defers, at_cursor, suits_at, begun_in_order, up_long, began_up, began_strict, entry_at, PartsAlong, suits_changed, off_change, leads_left, leads_deferred, parts_along, plain_at, same_shape, put_in_order, completed_in_order}
pub use Rattle.fr_model.proofs.FinishNotes.{touched_makes, notes_what_is_due}
pub use Rattle.fr_model.proofs.Keys.{apart_last, found_at, key_last, member_keys_apart, bytes_are}
pub use Rattle.fr_model.proofs.Opening.{entry, without_source_is, without_source_suits, without_source_at, without_source_apart, fresh_apart, fresh_agrees, IsOpen, Enterable, a_field, an_element, a_variant_field, enter_touched, fresh_suits, fresh_at_cursor, wholes_touched, wholes_off, all_deferred, Opening, opening, holes_off, a_value, hole_off, enterable_apart, rightly_changed, whole_off, may_work}
pub use Rattle.fr_model.proofs.Plain.{AllPlain, not_dynamic, plain_child, valid_same}
pub use Rattle.fr_model.proofs.Resting.{rests_here, fresh_rests, rest_on, rest_up, rest_put_up, rest_took, rest_converted, wholes_rest, rest_but, last_rests, count_last, holes_rest, opened_rests, put_among, enter_child_rests, item_rests, key_rests, closed_rests}
pub use Rattle.fr_model.proofs.Structs.{suit_alike, odd_next, suit_nth, SuitFrom, settled_as, has_pointee, count_holes, holes_suit, count_change, suit_change, one_more_is, right_kept, taken_as, ChildrenFit, sound_as, value_fits, value_holds}
pub use Rattle.fr_model.proofs.Templates.{both_true, preset_template, template_holds, field_default_template, all_of_both}
pub use Rattle.fr_model.proofs.TokensInTrees.{fresh_holds, change_holds, wholes_hold, holes_hold, nth_holds, opened_holds, enter_child_holds}
pub use Rattle.fr_model.proofs.Wholes.{done_but, done_none, without_last, done_put}
