use Rattle.std.proofs.Common.{◌+◌, refl, arith}
use Rattle.fr_shape.specs.TokenLaws.{Room_conserved}
use Rattle.fr_shape.specs.View.{view}
use Rattle.fr_builder_tests.proofs.OneTokenItems.{fewer, room_after, at_most_one, room_with_one, few_left, room_left}
use Rattle.fr_builder_tests.proofs.builder_tests.sets.add_item.Goals as goal

pub set_shape-requires-clause-room : goal.set_shape-requires-clause-room
set_shape-requires-clause-room g c =
    room_with_one c.shaped-value.result.value (view c.item.result) c.args.token c.shaped-value.ensures.value c.item.ensures _ _
    c.check_unused.ensures.small c.check_unused.ensures.known c.check_unused.ensures.unused
    (λ t. omega (arith, fewer _ _ _ _ _ c.in_ok-begun.ensures.call.tokens (λ n. refl) t, c.requires.few t))
    (room_after _ _ _ _ _ c.in_ok-begun.ensures.call.tokens (λ n. refl) c.requires.room)

pub end-requires : goal.end-requires
end-requires g c = record {
  room =
      Room_conserved _ _ _ _ c.in_ok-set_shape.ensures.call.tokens
      (room_with_one c.shaped-value.result.value (view c.item.result) c.args.token c.shaped-value.ensures.value c.item.ensures _ _
      c.check_unused.ensures.small c.check_unused.ensures.known c.check_unused.ensures.unused
      (λ t. omega (arith, fewer _ _ _ _ _ c.in_ok-begun.ensures.call.tokens (λ n. refl) t, c.requires.few t))
      (room_after _ _ _ _ _ c.in_ok-begun.ensures.call.tokens (λ n. refl) c.requires.room));
}

pub returns-clause-room : goal.returns-clause-room
returns-clause-room g c =
    room_left c.end.result _ _ _ _ c.end.ensures.call.tokens (λ n. refl)
    (Room_conserved _ _ _ _ c.in_ok-set_shape.ensures.call.tokens
    (room_with_one c.shaped-value.result.value (view c.item.result) c.args.token c.shaped-value.ensures.value c.item.ensures _ _
    c.check_unused.ensures.small c.check_unused.ensures.known c.check_unused.ensures.unused
    (λ t. omega (arith, fewer _ _ _ _ _ c.in_ok-begun.ensures.call.tokens (λ n. refl) t, c.requires.few t))
    (room_after _ _ _ _ _ c.in_ok-begun.ensures.call.tokens (λ n. refl) c.requires.room)))

pub returns-clause-few : goal.returns-clause-few
returns-clause-few g c =
    few_left c.end.result (c.args.token + 1)
    (λ t.
    omega
    (arith, fewer _ _ _ _ _ c.end.ensures.call.tokens (λ n. refl) t, c.in_ok-set_shape.ensures.call.tokens.kept_or_released t, c.in_ok-set_shape.ensures.call.tokens.none_falls t, fewer _ _ _ _ _ c.in_ok-begun.ensures.call.tokens (λ n. refl) t, at_most_one c.shaped-value.result.value (view c.item.result) c.args.token c.shaped-value.ensures.value c.item.ensures t, c.requires.few t))
