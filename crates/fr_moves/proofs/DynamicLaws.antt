-- A dynamic place that is begun as an array or as an object: what of it is kept, and what that means.
use Rattle.std.proofs.Common.{◌≡◌, is_some, unwrap_or, refl}
use Rattle.fr_moves.specs.Common.{Beginning, EntriesKind, IsWholeWith, ItemsKind, LooksLike, MayHave, Tracker, Tree, Trees, anew_as, as_entries, as_items, base_of_tracker, begun, begun_by, count_trees, holes, kept_as, whole}
use Rattle.fr_shape.specs.Val.{dyn, dyn_array, dyn_object}
use Rattle.fr_refusals.specs.declared.dynamic_places.DynamicParts.{DynamicParts}
use Rattle.fr_refusals.specs.DynamicBeginnings.{beginning_as, tracker_with}
use Rattle.fr_moves.specs.LookLaws.{alike_by}

-- begun so, it keeps what is kept of it
pub begins_so : (parts : DynamicParts) (tree : Tree)
    → begun_by (beginning_as parts tree) (tracker_with parts) 0 tree ≡ unwrap_or (kept_as parts tree) (anew_as parts)
begins_so DynamicParts.Elements (whole (dyn (dyn_array ds))) = refl
begins_so DynamicParts.Elements (begun (as_items ItemsKind.Array) ts) = refl
begins_so DynamicParts.Elements _ = refl
begins_so DynamicParts.Entries (whole (dyn (dyn_object ms))) = refl
begins_so DynamicParts.Entries (begun (as_entries (EntriesKind.Object keys)) ts) = refl
begins_so DynamicParts.Entries _ = refl

-- in place only a whole value is begun that has such parts
pub in_place : (parts : DynamicParts) (tree : Tree) → beginning_as parts tree ≡ Beginning.InPlace → IsWholeWith (tracker_with parts) tree
in_place DynamicParts.Elements (whole (dyn (dyn_array ds))) e = (refl, tt)
in_place DynamicParts.Elements (begun (as_items ItemsKind.Array) ts) e = cc
in_place DynamicParts.Elements _ e = cc
in_place DynamicParts.Entries (whole (dyn (dyn_object ms))) e = (refl, tt)
in_place DynamicParts.Entries (begun (as_entries (EntriesKind.Object keys)) ts) e = cc
in_place DynamicParts.Entries _ e = cc

pub none_may : (parts : DynamicParts) → MayHave (tracker_with parts) 0
none_may DynamicParts.Elements = tt
none_may DynamicParts.Entries = tt

pub no_base : (parts : DynamicParts) → base_of_tracker (tracker_with parts) ≡ 0
no_base DynamicParts.Elements = refl
no_base DynamicParts.Entries = refl

-- By the looks of the place.

parts_told : (parts : DynamicParts) (tracker : Tracker) (one other : Trees)
    → is_some (kept_as parts (begun tracker one)) ≡ is_some (kept_as parts (begun tracker other))
parts_told DynamicParts.Elements (as_items ItemsKind.Array) one other = refl
parts_told DynamicParts.Elements _ one other = refl
parts_told DynamicParts.Entries (as_entries (EntriesKind.Object keys)) one other = refl
parts_told DynamicParts.Entries _ one other = refl

pub as_alike : (one other : Tree) → LooksLike one other → (parts : DynamicParts) → beginning_as parts one ≡ beginning_as parts other
as_alike one other alike parts =
    alike_by (beginning_as parts) (λ tracker ts. rw (parts_told parts tracker ts (holes (count_trees ts))) refl) one other alike
