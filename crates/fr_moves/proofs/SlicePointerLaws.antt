-- Pointers to slices: opened for items, and closed again.
use Rattle.std.proofs.Common.{◌≡◌, true, false, Option, Some, None, is_some, unwrap_or, refl}
use Rattle.fr_moves.specs.Common.{ItemsKind, Mode, Tree, as_items, begun, begun_as, closed_slice, deferred, hole, is_open_slice, kept_slice, slice_anew, strict}
use Rattle.fr_store.specs.StackMoves.{IsBegunSlice}

-- What of it is kept.

-- what is kept is the place, open
pub slice_kept : (mode : Mode) (tree : Tree) → is_some (kept_slice mode tree) ≡ true
    → begun_as (as_items ItemsKind.Slice) tree ≡ unwrap_or (kept_slice mode tree) slice_anew
slice_kept strict tree is = cc
slice_kept (deferred start) (begun (as_items ItemsKind.Slice) ts) is = refl
slice_kept (deferred start) (begun (as_items ItemsKind.ClosedSlice) ts) is = refl
slice_kept (deferred start) _ is = cc

pub slice_there : (mode : Mode) (tree : Tree) → is_some (kept_slice mode tree) ≡ true → IsBegunSlice tree
slice_there strict tree is = cc
slice_there (deferred start) (begun (as_items ItemsKind.Slice) ts) is = tt
slice_there (deferred start) (begun (as_items ItemsKind.ClosedSlice) ts) is = tt
slice_there (deferred start) _ is = cc

-- or it starts anew
pub starts_anew : (kept : Option Tree) (anew : Tree) → is_some kept ≡ false → anew ≡ unwrap_or kept anew
starts_anew (Some tree) anew none = cc
starts_anew None anew none = refl

-- Closing one.

pub open_there : (tree : Tree) → is_open_slice tree ≡ true → IsBegunSlice tree
open_there (begun (as_items ItemsKind.Slice) ts) is = tt
open_there _ is = cc

pub closed_alike : (tree : Tree) → begun_as (as_items ItemsKind.ClosedSlice) tree ≡ closed_slice tree
closed_alike hole = refl
closed_alike _ = refl
