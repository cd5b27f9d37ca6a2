use Rattle.std.proofs.Common.{◌≡◌, ℕ, List, map, take, ap, ◌∙◌, arith}
use Rattle.std.specs.Borrow.{Bor}
use Rattle.std.specs.Str.{bytes_eq}
use Rattle.std.proofs.lemmas.List.{take_all}
use Rattle.std.proofs.lemmas.Result.{IfOk-weaker}
use Rattle.fr_shape.specs.declared.shape.Shape.{Shape}
use Rattle.fr_shape.proofs.NoneTwice.{Found, found_map}
use Rattle.fr_shape.proofs.names.first_repeated_name.Goals as goal

pub returns : goal.returns
returns c =
    let names = c.as_slice.result.now in
    let shapes = c.args.shapes.now in
    let all : take c.loop-shape.shape-index c.as_slice-shape-items.result.now ≡ shapes =
    take_all c.loop-shape.shape-index c.as_slice-shape-items.result.now (omega arith) ∙ c.as_slice-shape-items.ensures.items in
    let same : map (λ (name : Bor (List ℕ)). name.now) names ≡ map (λ (shape : Shape). shape.name) shapes =
    ap (map (λ (name : Bor (List ℕ)). name.now)) c.as_slice.ensures.value ∙ c.loop-shape.invariant ∙ ap (map (λ (shape : Shape). shape.name)) all in
    IfOk-weaker c.first_repeated.result _ (Found bytes_eq (map (λ (shape : Shape). shape.name) shapes))
    (found_map (λ (name : Bor (List ℕ)). name.now) bytes_eq names (map (λ (shape : Shape). shape.name) shapes) same)
    c.first_repeated.ensures
