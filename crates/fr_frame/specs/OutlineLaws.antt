-- What an outline keeps: how many children there are, and all that isn't a list's children.
use Rattle.std.specs.Prelude.{◌≡◌, Bool, true, false, List, length, replicate, Option, Some, None, if◌then◌else◌}
use Rattle.std.specs.Option.{option_map}
use Rattle.std.proofs.Common.{refl, sym, ◌∙◌, ap}
use Rattle.std.proofs.lemmas.List.{length-replicate}
use Rattle.fr_frame.specs.Bodies.{Body, entered_body, whole_body, begun_body, count_cells}
use Rattle.fr_values.specs.Cells.{Cell, absent}
use Rattle.fr_frame.specs.Heap.{Node}
use Rattle.fr_frame.specs.Outlines.{has_items, is_list_body, outline, outlined}

-- Bodies.

counted : (items : Bool) (cells : List Cell) → length (if items then replicate (length cells) absent else cells) ≡ length cells
counted true cells = length-replicate (length cells) absent
counted false cells = refl

pub outline_count : (body : Body) → count_cells (outline body) ≡ count_cells body
outline_count entered_body = refl
outline_count (whole_body v) = refl
outline_count (begun_body tracker cells) = counted (has_items tracker) cells

pub outline_list : (body : Body) → is_list_body (outline body) ≡ is_list_body body
outline_list entered_body = refl
outline_list (whole_body v) = refl
outline_list (begun_body tracker cells) = refl

-- what is no list is its own outline
pub outline_plain : (body : Body) → is_list_body body ≡ false → outline body ≡ body
outline_plain entered_body plain = refl
outline_plain (whole_body v) plain = refl
outline_plain (begun_body tracker cells) plain =
    ap (λ (items : Bool). begun_body tracker (if items then replicate (length cells) absent else cells)) plain

-- Two places with one outline.

module _ (one other : Body) (same : outline one ≡ outline other) where
  pub same_list : is_list_body one ≡ is_list_body other
  same_list = sym (outline_list one) ∙ ap is_list_body same ∙ outline_list other

  -- where either is no list, they are one body
  pub same_plain : is_list_body other ≡ false → one ≡ other
  same_plain plain = sym (outline_plain one (same_list ∙ plain)) ∙ same ∙ outline_plain other plain

pub found_outline : (one : Node) (found : Option Node) (at : Node) → Some (outlined one) ≡ option_map outlined found → found ≡ Some at
    → outlined one ≡ outlined at
found_outline one found at e is = cc

-- A place was found just where one is.

pub none_found : (found : Option Node) → None ≡ option_map outlined found → found ≡ None
none_found None e = refl
none_found (Some at) e = cc
