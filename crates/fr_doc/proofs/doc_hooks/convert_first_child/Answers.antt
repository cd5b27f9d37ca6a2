use Rattle.std.proofs.Common.{◌≡◌, ap, sym, subst, ◌∙◌, rules}
use Rattle.fr_shape.specs.declared.value.Value
use Rattle.fr_shape.specs.declared.value.Value.TheFolds.{the_lemmas}
use Rattle.fr_shape.specs.Val.{product, first}
use Rattle.fr_shape.specs.View.{view, vals_view}
use Rattle.fr_shape.specs.Tokens.{occurs}
use Rattle.fr_shape.specs.Released.{Room, RoseBy}
use Rattle.fr_doc.proofs.ProductChildren.{first_and_others, others_have_room, child_has_room}
use Rattle.fr_doc.proofs.doc_hooks.convert_first_child.Goals as goal

pub release-requires : goal.release-requires
release-requires c =
    let whole = c.into_vec-others.result in
    let child = view c.remove-first.result in
    let others = c.from_vec.result in
    let left = c.from_vec.ensures.items ∙ c.remove-first.ensures.items in
    let source : view c.args.value ≡ product (vals_view whole.items) = search (rules, the_lemmas) in
    let split : vals_view whole.items ≡ first child (vals_view others) =
    first_and_others whole.items others c.remove-first.result whole.len whole.ok.0 c.if-is_empty.ensures
    c.remove-first.ensures.value left in
    let shown : view (Value.Product others) ≡ product (vals_view others) = search (rules, the_lemmas) in
    record {
      room =
          subst (λ v. Room (occurs v) c.args.ledger.now) (sym shown)
          (others_have_room (view c.args.value) child (vals_view others) (source ∙ ap product split) c.args.ledger.now
          c.requires.room);
    }

pub convert_same-requires : goal.convert_same-requires
convert_same-requires c =
    let whole = c.into_vec-others.result in
    let child = view c.remove-first.result in
    let others = c.from_vec.result in
    let left = c.from_vec.ensures.items ∙ c.remove-first.ensures.items in
    let source : view c.args.value ≡ product (vals_view whole.items) = search (rules, the_lemmas) in
    let split : vals_view whole.items ≡ first child (vals_view others) =
    first_and_others whole.items others c.remove-first.result whole.len whole.ok.0 c.if-is_empty.ensures
    c.remove-first.ensures.value left in
    let shown : view (Value.Product others) ≡ product (vals_view others) = search (rules, the_lemmas) in
    let rose = subst (λ v. RoseBy (occurs v) c.args.ledger.now c.release.new.ledger) shown c.release.ensures.released in
    record {
      room =
          child_has_room (view c.args.value) child (vals_view others) (source ∙ ap product split) c.args.ledger.now
          c.release.new.ledger rose c.requires.room;
    }
