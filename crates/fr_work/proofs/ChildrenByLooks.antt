-- What is known of a place by its looks: which of its children may be entered, how many it has, and what of it is kept.
use Rattle.std.proofs.Common.{◌≡◌, ℕ, zero, suc, refl, sym, ◌∙◌, ap, subst}
use Rattle.fr_work.specs.Common.{Def, HasItems, LooksLike, Mode, Tracker, Tree, beginning_in, beginning_of_some, begun, count_trees, deferred, field_refusal, holes, init_array_refusal, named_refusal, set_item_refusal, strict, beginning_of_inner}
use Rattle.fr_refusals.specs.Looks.{bare}
use Rattle.fr_moves.specs.LookLaws.{AsBegun}

pub begun_refusal : (i : ℕ) (def : Def) → AsBegun (λ tree. field_refusal def tree i)
begun_refusal i (Def.Struct struct) tracker ts = refl
begun_refusal i _ tracker ts = refl

pub begun_named : (def : Def) → AsBegun (named_refusal def)
begun_named (Def.Struct struct) tracker ts = refl
begun_named _ tracker ts = refl

pub begun_array : (def : Def) → AsBegun (init_array_refusal def)
begun_array (Def.Array item n) tracker ts = refl
begun_array _ tracker ts = refl

pub begun_set_item : (def : Def) → AsBegun (set_item_refusal def)
begun_set_item (Def.Set t) tracker ts = refl
begun_set_item _ tracker ts = refl

pub begun_in : (mode : Mode) (tracker : Tracker) → AsBegun (beginning_in mode tracker)
begun_in strict tracker made ts = refl
begun_in (deferred start) tracker made ts = refl

pub begun_some : (mode : Mode) (content : Def) → AsBegun (beginning_of_some mode content)
begun_some strict content made ts = refl
begun_some (deferred start) content made ts = refl

pub begun_inner : (mode : Mode) (content : Def) → AsBegun (beginning_of_inner mode content)
begun_inner strict content made ts = refl
begun_inner (deferred start) content made ts = refl

count_holes : (n : ℕ) → count_trees (holes n) ≡ n
count_holes zero = refl
count_holes (suc n) = ap suc (count_holes n)

items_told : (tracker : Tracker) (count : ℕ) (tree : Tree) → HasItems tracker count tree → HasItems tracker count (bare tree)
items_told tracker count (begun made ts) has = (has.0, count_holes (count_trees ts) ∙ has.1)
items_told tracker count _ has = has

items_there : (tracker : Tracker) (count : ℕ) (tree : Tree) → HasItems tracker count (bare tree) → HasItems tracker count tree
items_there tracker count (begun made ts) has = (has.0, sym (count_holes (count_trees ts)) ∙ has.1)
items_there tracker count _ has = has

module _ (one other : Tree) (alike : LooksLike one other) where
  pub items_alike : (tracker : Tracker) (count : ℕ) → HasItems tracker count one → HasItems tracker count other
  items_alike tracker count has =
      items_there tracker count other (subst (HasItems tracker count) alike (items_told tracker count one has))
