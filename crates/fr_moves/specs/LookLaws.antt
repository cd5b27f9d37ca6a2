-- What is known of a place by its looks: what of it is kept, and what it is begun as.
use Rattle.std.proofs.Common.{◌≡◌, is_some, refl, sym, ◌∙◌, ap}
use Rattle.fr_moves.specs.Common.{ItemsKind, LooksLike, Mode, Tracker, Tree, Trees, as_items, beginning_so, begun, count_trees, deferred, holes, is_begun, kept_slice, strict, is_begun_conversion}
use Rattle.fr_refusals.specs.Looks.{bare}

-- of a place that is begun it tells the same whatever the children are
abbrev pub AsBegun : {A : Type 0} → (Tree → A) → Type 0
AsBegun f = (tracker : Tracker) (ts : Trees) → f (begun tracker ts) ≡ f (begun tracker (holes (count_trees ts)))

by_bare : {A : Type 0} (f : Tree → A) → AsBegun f → (tree : Tree) → f tree ≡ f (bare tree)
by_bare f same (begun tracker ts) = same tracker ts
by_bare f same _ = refl

-- so it tells the same of any two that look alike
pub alike_by : {A : Type 0} (f : Tree → A) → AsBegun f → (one other : Tree) → LooksLike one other → f one ≡ f other
alike_by f same one other alike = by_bare f same one ∙ ap f alike ∙ sym (by_bare f same other)

begun_slice : (mode : Mode) → AsBegun (λ tree. is_some (kept_slice mode tree))
begun_slice strict tracker ts = refl
begun_slice (deferred start) (as_items ItemsKind.Slice) ts = refl
begun_slice (deferred start) _ ts = refl

module _ (one other : Tree) (alike : LooksLike one other) where
  pub so_alike : (tracker : Tracker) → beginning_so tracker one ≡ beginning_so tracker other
  so_alike tracker = alike_by (beginning_so tracker) (λ made ts. refl) one other alike

  pub converts_alike : is_begun_conversion one ≡ is_begun_conversion other
  converts_alike = alike_by is_begun_conversion (λ tracker ts. refl) one other alike

  pub begun_alike : is_begun one ≡ is_begun other
  begun_alike = alike_by is_begun (λ tracker ts. refl) one other alike

  pub slice_alike : (mode : Mode) → is_some (kept_slice mode one) ≡ is_some (kept_slice mode other)
  slice_alike mode = alike_by (λ (t : Tree). is_some (kept_slice mode t)) (begun_slice mode) one other alike
