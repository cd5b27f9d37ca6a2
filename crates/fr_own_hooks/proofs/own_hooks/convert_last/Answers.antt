use Rattle.std.proofs.Common.{◌≡◌, List, [], ◌∷◌, ◌++◌, ap, sym, subst, ◌∙◌, rules}
use Rattle.fr_shape.specs.declared.value.Value
use Rattle.fr_shape.specs.declared.value.Value.TheFolds.{the_lemmas}
use Rattle.fr_shape.specs.Released.{Room, RoseBy}
use Rattle.fr_shape.specs.Tokens.{occurs}
use Rattle.fr_shape.specs.Val.{product}
use Rattle.fr_shape.specs.View.{view, vals_view}
use Rattle.fr_own_hooks.proofs.LastChild.{all_rose, last_has_room, last_is_left, meant_elsewhere, meant_where_it_fits, others_have_room}
use Rattle.fr_own_hooks.proofs.own_hooks.convert_last.Goals as goal

pub release-requires-2 : goal.release-requires-2
release-requires-2 c =
    let others = c.from_vec.result in
    let source : view c.args.value ≡ product (vals_view c.into_vec-others.result.items) = search (rules, the_lemmas) in
    let split : c.into_vec-others.result.items ≡ others ++ c.in-Some.last ∷ [] =
    c.in-Some.ensures.items ∙ ap (λ (xs : List Value.Value). xs ++ c.in-Some.last ∷ []) (sym c.from_vec.ensures.items) in
    let shown : view (Value.Product others) ≡ product (vals_view others) = search (rules, the_lemmas) in
    record {
      room =
          subst (λ v. Room (occurs v) c.args.ledger.now) (sym shown)
          (others_have_room (view c.args.value) others c.in-Some.last
          (source ∙ ap (λ (xs : List Value.Value). product (vals_view xs)) split) c.args.ledger.now c.requires.room);
    }

pub release-requires-else-fits : goal.release-requires-else-fits
release-requires-else-fits c =
    let others = c.from_vec.result in
    let source : view c.args.value ≡ product (vals_view c.into_vec-others.result.items) = search (rules, the_lemmas) in
    let split : c.into_vec-others.result.items ≡ others ++ c.in-Some.last ∷ [] =
    c.in-Some.ensures.items ∙ ap (λ (xs : List Value.Value). xs ++ c.in-Some.last ∷ []) (sym c.from_vec.ensures.items) in
    let shown : view (Value.Product others) ≡ product (vals_view others) = search (rules, the_lemmas) in
    record {
      room =
          last_has_room (view c.args.value) others c.in-Some.last
          (source ∙ ap (λ (xs : List Value.Value). product (vals_view xs)) split) c.args.ledger.now c.release-2.new.ledger
          (subst (λ v. RoseBy (occurs v) c.args.ledger.now c.release-2.new.ledger) shown c.release-2.ensures.released)
          c.requires.room;
    }

pub returns-then-fits-clause-meaning : goal.returns-then-fits-clause-meaning
returns-then-fits-clause-meaning c =
    let others = c.from_vec.result in
    let source : view c.args.value ≡ product (vals_view c.into_vec-others.result.items) = search (rules, the_lemmas) in
    let split : c.into_vec-others.result.items ≡ others ++ c.in-Some.last ∷ [] =
    c.in-Some.ensures.items ∙ ap (λ (xs : List Value.Value). xs ++ c.in-Some.last ∷ []) (sym c.from_vec.ensures.items) in
    meant_where_it_fits (view c.args.value) others c.in-Some.last
    (source ∙ ap (λ (xs : List Value.Value). product (vals_view xs)) split) c.args.table.now c.args.target.0
    (sym c.if-fits.ensures.fits)

pub returns-then-fits-clause-kept_or_released : goal.returns-then-fits-clause-kept_or_released
returns-then-fits-clause-kept_or_released c =
    let others = c.from_vec.result in
    let source : view c.args.value ≡ product (vals_view c.into_vec-others.result.items) = search (rules, the_lemmas) in
    let split : c.into_vec-others.result.items ≡ others ++ c.in-Some.last ∷ [] =
    c.in-Some.ensures.items ∙ ap (λ (xs : List Value.Value). xs ++ c.in-Some.last ∷ []) (sym c.from_vec.ensures.items) in
    let shown : view (Value.Product others) ≡ product (vals_view others) = search (rules, the_lemmas) in
    last_is_left (view c.args.value) others c.in-Some.last
    (source ∙ ap (λ (xs : List Value.Value). product (vals_view xs)) split) c.args.ledger.now c.release-2.new.ledger
    (subst (λ v. RoseBy (occurs v) c.args.ledger.now c.release-2.new.ledger) shown c.release-2.ensures.released)

pub returns-else-fits-clause-meaning : goal.returns-else-fits-clause-meaning
returns-else-fits-clause-meaning c =
    let others = c.from_vec.result in
    let source : view c.args.value ≡ product (vals_view c.into_vec-others.result.items) = search (rules, the_lemmas) in
    let split : c.into_vec-others.result.items ≡ others ++ c.in-Some.last ∷ [] =
    c.in-Some.ensures.items ∙ ap (λ (xs : List Value.Value). xs ++ c.in-Some.last ∷ []) (sym c.from_vec.ensures.items) in
    meant_elsewhere (view c.args.value) others c.in-Some.last
    (source ∙ ap (λ (xs : List Value.Value). product (vals_view xs)) split) c.args.table.now c.args.target.0
    (sym c.if-fits.ensures.fits)

pub returns-else-fits-clause-released : goal.returns-else-fits-clause-released
returns-else-fits-clause-released c =
    let others = c.from_vec.result in
    let source : view c.args.value ≡ product (vals_view c.into_vec-others.result.items) = search (rules, the_lemmas) in
    let split : c.into_vec-others.result.items ≡ others ++ c.in-Some.last ∷ [] =
    c.in-Some.ensures.items ∙ ap (λ (xs : List Value.Value). xs ++ c.in-Some.last ∷ []) (sym c.from_vec.ensures.items) in
    let shown : view (Value.Product others) ≡ product (vals_view others) = search (rules, the_lemmas) in
    all_rose (view c.args.value) others c.in-Some.last
    (source ∙ ap (λ (xs : List Value.Value). product (vals_view xs)) split) c.args.ledger.now c.release-2.new.ledger
    (subst (λ v. RoseBy (occurs v) c.args.ledger.now c.release-2.new.ledger) shown c.release-2.ensures.released)
    c.release-else-fits.new.ledger c.release-else-fits.ensures.released
