use Rattle.std.proofs.Common.{◌≡◌, ℕ, List, map, take, sym, ap, ◌∙◌, arith}
use Rattle.std.specs.Borrow.{Bor}
use Rattle.std.specs.Str.{bytes_eq}
use Rattle.std.proofs.lemmas.List.{take_all}
use Rattle.std.proofs.lemmas.Result.{IfOk-weaker}
use Rattle.fr_shape.specs.Distinct.{distinct}
use Rattle.fr_shape.specs.Named.{name_of}
use Rattle.fr_shape.proofs.NoneTwice.{distinct_map, names_distinct}
use Rattle.fr_shape.proofs.names.many_names_apart.Goals as goal

pub returns : goal.returns
returns c =
    let names = c.as_slice.result.now in
    let variants = c.args.variants.now in
    let all : take c.loop-variant.variant-index c.as_slice-variant-items.result.now ≡ variants =
    take_all c.loop-variant.variant-index c.as_slice-variant-items.result.now (omega arith) ∙ c.as_slice-variant-items.ensures.items in
    let same : map (λ (name : Bor (List ℕ)). name.now) names ≡ map name_of variants =
    ap (map (λ (name : Bor (List ℕ)). name.now)) c.as_slice.ensures.value ∙ c.loop-variant.invariant ∙ ap (map name_of) all in
    IfOk-weaker c.are_distinct.result _ _
    (λ apart is. is ∙ distinct_map (λ (name : Bor (List ℕ)). name.now) bytes_eq names ∙ ap (distinct bytes_eq) same ∙ sym (names_distinct (map name_of variants)))
    c.are_distinct.ensures
