use Rattle.std.proofs.Common.{◌≡◌, ℕ, List, map, take, ap, ◌∙◌, arith}
use Rattle.std.specs.Borrow.{Bor}
use Rattle.std.specs.Str.{bytes_eq}
use Rattle.std.proofs.lemmas.List.{take_all}
use Rattle.std.proofs.lemmas.Result.{IfOk-weaker}
use Rattle.fr_shape.specs.declared.value.Dyn.{Dyn}
use Rattle.fr_shape.proofs.NoneTwice.{distinct_of}
use Rattle.fr_shape.proofs.distinct.many_names_apart.Goals as goal

pub returns : goal.returns
returns c =
    let names = c.as_slice.result.now in
    let members = c.args.members.now in
    let name = λ (m : List ℕ × Dyn). m.0 in
    let all : take c.loop-member.member-index c.as_slice-member-items.result.now ≡ members =
    take_all c.loop-member.member-index c.as_slice-member-items.result.now (omega arith) ∙ c.as_slice-member-items.ensures.items in
    let same : map (λ (name : Bor (List ℕ)). name.now) names ≡ map name members =
    ap (map (λ (name : Bor (List ℕ)). name.now)) c.as_slice.ensures.value ∙ c.loop-member.invariant ∙ ap (map name) all in
    IfOk-weaker c.are_distinct.result _ _
    (λ apart is. is ∙ distinct_of (λ (name : Bor (List ℕ)). name.now) bytes_eq names (map name members) same)
    c.are_distinct.ensures
