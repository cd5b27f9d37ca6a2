-- How many children a place has is told without what the children of a list are.
use Rattle.std.proofs.Common.{◌≡◌, length, Option, Some, None, option_map, refl, sym, ◌∙◌, ap}
use Rattle.fr_store.specs.Common.{Body, Node, begun_body, cells_found, cells_in_body}
use Rattle.fr_frame.specs.OutlineLaws.{outline_count}
use Rattle.fr_frame.specs.Outlines.{outline, outlined}

count_outlined : (body : Body) → length (cells_in_body (outline body)) ≡ length (cells_in_body body)
count_outlined (begun_body tracker cells) = outline_count (begun_body tracker cells)
count_outlined _ = refl

by_outline : (found : Option Node) → length (cells_found (option_map outlined found)) ≡ length (cells_found found)
by_outline (Some at) = count_outlined at.body
by_outline None = refl

pub count_told : (seen found : Option Node) → option_map outlined seen ≡ option_map outlined found
    → length (cells_found seen) ≡ length (cells_found found)
count_told seen found same =
    sym (by_outline seen) ∙ ap (λ (told : Option Node). length (cells_found told)) same ∙ by_outline found
