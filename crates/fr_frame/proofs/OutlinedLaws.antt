-- What is so of a place whose outline is known.
use Rattle.std.specs.Prelude.{◌≡◌, false, Option, Some, None, is_some, IsSomeAnd}
use Rattle.std.specs.Borrow.{Bor}
use Rattle.std.specs.Option.{option_copied, option_map}
use Rattle.std.proofs.Common.{refl, sym, ◌∙◌, ap}
use Rattle.fr_frame.specs.declared.places.Place.{Place}
use Rattle.fr_frame.specs.Bodies.{Body, entered_body, whole_body, begun_body, count_cells}
use Rattle.fr_frame.specs.Heap.{Node, node_of}
use Rattle.fr_frame.specs.Outlines.{is_begun_body, is_list_body, outline, outlined}
use Rattle.fr_frame.specs.OutlineLaws.{found_outline, none_found, outline_count, same_list, same_plain}

-- Two places with one outline.

pub outline_begun : (body : Body) → is_begun_body (outline body) ≡ is_begun_body body
outline_begun entered_body = refl
outline_begun (whole_body v) = refl
outline_begun (begun_body tracker cells) = refl

module _ (one other : Body) (same : outline one ≡ outline other) where
  pub same_count : count_cells one ≡ count_cells other
  same_count = sym (outline_count one) ∙ ap count_cells same ∙ outline_count other

  pub same_begun : is_begun_body one ≡ is_begun_body other
  same_begun = sym (outline_begun one) ∙ ap is_begun_body same ∙ outline_begun other

module _ (one other : Node) (same : outlined one ≡ outlined other) where
  pub same_body : outline one.body ≡ outline other.body
  same_body = ap (λ (at : Node). at.body) same

-- where either is no list, they are one node
pub same_at : (one other : Node) → outlined one ≡ outlined other → is_list_body other.body ≡ false → one ≡ other
same_at one other same plain =
    ap (λ (at : Node). record at { body = one.body }) same
    ∙ ap (λ (body : Body). record other { body = body }) (same_plain one.body other.body (same_body one other same) plain)

-- What is so of each node with the outline that was found is so of the node that is there.
pub of_outline : (one : Node) (found : Option Node) (So : Node → Type 0) → Some (outlined one) ≡ option_map outlined found
    → ((at : Node) → found ≡ Some at → outlined one ≡ outlined at → So at) → IsSomeAnd found So
of_outline one None So e so = cc
of_outline one (Some at) So e so = so at refl (ap (given_or one) e)
  where
    given_or : Node → Option Node → Node
    given_or one (Some found) = found
    given_or one None = one

-- where it is no list, it is known whole
pub found_same : (one : Node) (found : Option Node) → Some (outlined one) ≡ option_map outlined found → is_list_body one.body ≡ false
    → found ≡ Some one
found_same one None e plain = cc
found_same one (Some at) e plain =
    let same : outlined one ≡ outlined at = found_outline one (Some at) at e refl in
    let no_list : is_list_body at.body ≡ false = sym (same_list one.body at.body (same_body one at same)) ∙ plain in
    ap (λ (x : Node). Some x) (sym (same_at one at same no_list))

-- No place was found, just where none is.
module _ (seen : Option (Bor Place)) (found : Option Node)
    (told : option_map outlined (option_map node_of (option_copied seen)) ≡ option_map outlined found) where
  pub place_missing : is_some seen ≡ false → found ≡ None
  place_missing none = go seen found told none
    where
      go : (s : Option (Bor Place)) (f : Option Node) → option_map outlined (option_map node_of (option_copied s)) ≡ option_map outlined f
          → is_some s ≡ false → f ≡ None
      go (Some place) f e none = cc
      go None f e none = none_found f e
