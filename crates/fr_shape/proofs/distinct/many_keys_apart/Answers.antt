use Rattle.std.proofs.Common.{◌≡◌, map, take, sym, ap, ◌∙◌, arith}
use Rattle.std.proofs.lemmas.List.{take_all}
use Rattle.std.proofs.lemmas.Result.{IfOk-weaker}
use Rattle.fr_shape.specs.declared.contents.ByContents.{ByContents}
use Rattle.fr_shape.specs.declared.value.Value.{Value}
use Rattle.fr_shape.specs.View.{view}
use Rattle.fr_shape.specs.Same.{same, none_twice}
use Rattle.fr_shape.proofs.NoneTwice.{distinct_of}
use Rattle.fr_shape.proofs.KeysApart.{none_twice_is, keys_are}
use Rattle.fr_shape.proofs.distinct.many_keys_apart.Goals as goal

pub returns : goal.returns
returns c =
    let keys = c.as_slice.result.now in
    let entries = c.args.entries.now in
    let held = λ (key : ByContents). view key.0.now in
    let key_of = λ (e : Value × Value). view e.0 in
    let all : take c.loop-entry.entry-index c.as_slice-entry-items.result.now ≡ entries =
    take_all c.loop-entry.entry-index c.as_slice-entry-items.result.now (omega arith) ∙ c.as_slice-entry-items.ensures.items in
    let are : map held keys ≡ map key_of entries =
    ap (map held) c.as_slice.ensures.value ∙ c.loop-entry.invariant ∙ ap (map key_of) all in
    IfOk-weaker c.are_distinct.result _ _
    (λ apart is. is ∙ distinct_of held same keys (map key_of entries) are
    ∙ sym (ap none_twice (keys_are entries) ∙ none_twice_is (map key_of entries)))
    c.are_distinct.ensures
