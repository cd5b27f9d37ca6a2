use Rattle.std.proofs.Common.{◌≡◌, map, take, sym, ap, ◌∙◌, arith}
use Rattle.std.proofs.lemmas.List.{take_all}
use Rattle.std.proofs.lemmas.Result.{IfOk-weaker}
use Rattle.fr_shape.specs.declared.contents.ByContents.{ByContents}
use Rattle.fr_shape.specs.View.{view}
use Rattle.fr_shape.specs.Same.{same}
use Rattle.fr_shape.proofs.NoneTwice.{distinct_of}
use Rattle.fr_shape.proofs.KeysApart.{none_twice_is}
use Rattle.fr_shape.proofs.distinct.many_apart.Goals as goal

pub returns : goal.returns
returns c =
    let keys = c.as_slice.result.now in
    let values = c.args.values.now in
    let held = λ (key : ByContents). view key.0.now in
    let all : take c.loop-value.value-index c.as_slice-value-items.result.now ≡ values =
    take_all c.loop-value.value-index c.as_slice-value-items.result.now (omega arith) ∙ c.as_slice-value-items.ensures.items in
    let are : map held keys ≡ map view values =
    ap (map held) c.as_slice.ensures.value ∙ c.loop-value.invariant ∙ ap (map view) all in
    IfOk-weaker c.are_distinct.result _ _
    (λ apart is. is ∙ distinct_of held same keys (map view values) are ∙ sym (none_twice_is (map view values)))
    c.are_distinct.ensures
