use Rattle.std.proofs.Common.{◌+◌, ◌∙◌, ℕ, List, ap, subst, sym}
use Rattle.fr_shape.specs.Look.{Table}
use Rattle.fr_shape.specs.Released.{Room, RoseBy}
use Rattle.fr_shape.specs.TokenLaws.{Room_conserved}
use Rattle.fr_shape.specs.Tokens.{occurs}
use Rattle.fr_shape.specs.Val.{Val}
use Rattle.fr_partial.specs.Builder.{holds}
use Rattle.fr_partial.specs.Spots.{begin_call, set_at}
use Rattle.fr_partial.specs.Typed.{own_number}
use Rattle.fr_partial.proofs.SeveralLaws.{as_made}
use Rattle.fr_partial.proofs.SpotLaws.{all_made, refused_there, room_beside, room_then, unmade, unset}
use Rattle.fr_partial.proofs.partial.Partial.put_at.Goals as goal

pub returns-in-Err : goal.returns-in-Err
returns-in-Err g c = record {
  calls =
      unmade g.H.Hooks.means c.args.self c.args.spot _ _ c.refuse.result _ _ _ c.refuse.ensures.kind c.refuse.ensures.path c.in-Err.ensures.released c.refuse.ensures.released;
}

pub release-requires : goal.release-requires
release-requires g c = record {
  room =
      subst (λ (v : Val). Room (occurs v) c.begin_at.new.ledger) (sym (c.into_value.ensures.value ∙ c.in-Ok.ensures.value))
      (room_then g.H.Hooks.means c.args.self c.args.spot 0 (g.U.Facet.shown c.args.value) c.begin_at.result c.shaped.new.ledger
      c.begin_at.new.ledger c.begin_at.ensures.call
      (subst (λ (ledger : List ℕ). Room (λ t. holds c.args.self t + occurs (g.U.Facet.shown c.args.value) t) ledger)
      (sym c.in-Ok.ensures.unreleased) c.requires.room));
}

pub returns-in-Err-begin_at : goal.returns-in-Err-begin_at
returns-in-Err-begin_at g c = record {
  calls =
      as_made (g.H.Hooks.means c.args.self.hooks) c.args.self (set_at (begin_call c.args.spot)) c.in-Ok.value _ _ _ _ _ _
      (c.in-Ok.ensures.shape ∙ ap (λ (shapes : Table). own_number g.U.Facet.is_own shapes) c.table.ensures.table) c.in-Ok.ensures.value
      c.in-Ok.ensures.unreleased
      (refused_there g.H.Hooks.means c.args.self c.args.spot _ _ c.in-Err-begin_at.refused _ _ _ c.in-Err-begin_at.ensures.call
      (subst (λ (v : Val). RoseBy (occurs v) c.begin_at.new.ledger c.release.new.ledger) c.into_value.ensures.value c.release.ensures.released));
}

pub returns-in-Ok-set_shape : goal.returns-in-Ok-set_shape
returns-in-Ok-set_shape g c = record {
  calls =
      as_made (g.H.Hooks.means c.args.self.hooks) c.args.self (set_at (begin_call c.args.spot)) c.in-Ok.value _ _ _ _ _ _
      (c.in-Ok.ensures.shape ∙ ap (λ (shapes : Table). own_number g.U.Facet.is_own shapes) c.table.ensures.table) c.in-Ok.ensures.value
      c.in-Ok.ensures.unreleased
      (all_made g.H.Hooks.means c.args.self c.args.spot _ _ c.in-Ok-begin_at.begun _ _ c.in-Ok-begin_at.ensures.call c.in-Ok-set_shape.set
      c.end.result _ _ c.in-Ok-set_shape.ensures.call c.end.ensures.call);
}

pub returns-in-Err-set_shape : goal.returns-in-Err-set_shape
returns-in-Err-set_shape g c = record {
  calls =
      as_made (g.H.Hooks.means c.args.self.hooks) c.args.self (set_at (begin_call c.args.spot)) c.in-Ok.value _ _ _ _ _ _
      (c.in-Ok.ensures.shape ∙ ap (λ (shapes : Table). own_number g.U.Facet.is_own shapes) c.table.ensures.table) c.in-Ok.ensures.value
      c.in-Ok.ensures.unreleased
      (unset g.H.Hooks.means c.args.self c.args.spot _ _ c.in-Ok-begin_at.begun _ _ c.in-Ok-begin_at.ensures.call c.in-Err-set_shape.refused _
      c.in-Err-set_shape.ensures.call);
}

pub set_shape-requires-clause-room : goal.set_shape-requires-clause-room
set_shape-requires-clause-room g c =
    subst (λ (v : Val). Room (λ t. holds c.in-Ok-begin_at.begun t + occurs v t) c.begin_at.new.ledger) (sym c.in-Ok.ensures.value)
    (room_beside g.H.Hooks.means c.args.self c.args.spot 0 (g.U.Facet.shown c.args.value) c.in-Ok-begin_at.begun c.shaped.new.ledger
    c.begin_at.new.ledger c.in-Ok-begin_at.ensures.call
    (subst (λ (ledger : List ℕ). Room (λ t. holds c.args.self t + occurs (g.U.Facet.shown c.args.value) t) ledger)
    (sym c.in-Ok.ensures.unreleased) c.requires.room))

pub end-requires : goal.end-requires
end-requires g c = record {
  room =
      Room_conserved _ _ _ _ c.in-Ok-set_shape.ensures.call.tokens
      (subst (λ (v : Val). Room (λ t. holds c.in-Ok-begin_at.begun t + occurs v t) c.begin_at.new.ledger) (sym c.in-Ok.ensures.value)
      (room_beside g.H.Hooks.means c.args.self c.args.spot 0 (g.U.Facet.shown c.args.value) c.in-Ok-begin_at.begun c.shaped.new.ledger
      c.begin_at.new.ledger c.in-Ok-begin_at.ensures.call
      (subst (λ (ledger : List ℕ). Room (λ t. holds c.args.self t + occurs (g.U.Facet.shown c.args.value) t) ledger)
      (sym c.in-Ok.ensures.unreleased) c.requires.room)));
}
