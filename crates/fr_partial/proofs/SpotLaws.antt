-- A shorthand makes its three calls, or stops at one of them.
use Rattle.std.proofs.Common.{◌≡◌, ◌∷◌, ◌+◌, ◌<◌, ℕ, List, [], Result, Ok, Err, refl, arith}
use Rattle.fr_shape.specs.Hooks.{Meanings}
use Rattle.fr_shape.specs.Released.{Room, RoseBy}
use Rattle.fr_shape.specs.TokenLaws.{RoseBy_nothing, RoseBy_same}
use Rattle.fr_shape.specs.Tokens.{occurs}
use Rattle.fr_shape.specs.Val.{Val}
use Rattle.fr_shape.specs.declared.error.ReflectErrorKind.{ReflectErrorKind}
use Rattle.fr_model.specs.Commands.{Call}
use Rattle.fr_model.specs.Paths.{path_of}
use Rattle.fr_model.specs.Scripts.{brings, brought}
use Rattle.fr_partial.specs.Builder.{Builder, IsCall, holds}
use Rattle.fr_partial.specs.Several.{AreCalls}
use Rattle.fr_partial.specs.Spots.{begin_call, set_at}
use Rattle.fr_work.specs.declared.reflect_error.ReflectError.{ReflectError}
use Rattle.fr_partial.specs.declared.shorthands.Spot.{Spot}
use Rattle.fr_partial.proofs.SeveralLaws.{last, stopped, then, without_memory}

-- the call that enters the child brings nothing
begins_alone : (spot : Spot) (t : ℕ) → brings (begin_call spot) t ≡ 0
begins_alone (Spot.NthField i) t = refl
begins_alone (Spot.Field name) t = refl
begins_alone Spot.Key t = refl
begins_alone Spot.Value t = refl
begins_alone Spot.ListItem t = refl
begins_alone Spot.SetItem t = refl

brought_at : (spot : Spot) (shape : ℕ) (v : Val) (t : ℕ) → occurs v t ≡ brought (set_at (begin_call spot) shape v) t
brought_at spot shape v t = let none = begins_alone spot t in omega (arith, none)

module _ {H : Type 0} (means : H → Meanings) (before : Builder H) (spot : Spot) (shape : ℕ) (v : Val) where
  -- there was no memory to make the value
  pub unmade : (error : ReflectError) (old mid new : List ℕ) → error.kind ≡ ReflectErrorKind.OutOfMemory → error.path ≡ path_of before.state
      → RoseBy (occurs v) old mid → RoseBy (holds before) mid new
      → AreCalls (means before.hooks) before (set_at (begin_call spot) shape v) (Err error) old new
  unmade error old mid new kind path rose held =
      without_memory (means before.hooks) before (begin_call spot) (Call.Set shape v ∷ Call.End ∷ []) error old mid new kind path
      (RoseBy_same (occurs v) (brought (set_at (begin_call spot) shape v)) old mid (brought_at spot shape v) rose) held

  -- the value has room still when the call that enters the child was made
  pub room_then : (result : Result (Builder H) ReflectError) (old mid : List ℕ)
      → IsCall (means before.hooks) before (begin_call spot) result old mid → Room (λ t. holds before t + occurs v t) old → Room (occurs v) mid
  room_then result old mid is room t h =
      let was : 0 < holds before t + occurs v t = omega (arith, h) in
      let none = begins_alone spot t in (
        omega (arith, (room t was).0, is.tokens.same_length),
        omega (arith, (room t was).1, is.tokens.kept_or_released t, none),
      )

  -- so have what the builder holds then and the value together
  pub room_beside : (begun : Builder H) (old mid : List ℕ) → IsCall (means before.hooks) before (begin_call spot) (Ok begun) old mid
      → Room (λ t. holds before t + occurs v t) old → Room (λ t. holds begun t + occurs v t) mid
  room_beside begun old mid is room t h =
      let none = begins_alone spot t in
      let kept = is.tokens.kept_or_released t in
      let was : 0 < holds before t + occurs v t = omega (arith, h, kept, is.tokens.none_falls t, none) in (
        omega (arith, (room t was).0, is.tokens.same_length),
        omega (arith, (room t was).1, kept, none),
      )

  -- that call was refused
  pub refused_there : (error : ReflectError) (old mid new : List ℕ)
      → IsCall (means before.hooks) before (begin_call spot) (Err error) old mid → RoseBy (occurs v) mid new
      → AreCalls (means before.hooks) before (set_at (begin_call spot) shape v) (Err error) old new
  refused_there error old mid new is rose =
      stopped (means before.hooks) before (begin_call spot) (Call.Set shape v ∷ Call.End ∷ []) error old mid new is
      (RoseBy_same (occurs v) (brought (Call.Set shape v ∷ Call.End ∷ [])) mid new (λ t. omega arith) rose)

  module _ (begun : Builder H) (old mid : List ℕ) (entered : IsCall (means before.hooks) before (begin_call spot) (Ok begun) old mid) where
    -- the value was refused
    pub unset : (error : ReflectError) (new : List ℕ) → IsCall (means begun.hooks) begun (Call.Set shape v) (Err error) mid new
        → AreCalls (means before.hooks) before (set_at (begin_call spot) shape v) (Err error) old new
    unset error new is =
        then means before begun (begin_call spot) (Call.Set shape v ∷ Call.End ∷ []) (Err error) old mid new entered
        (stopped (means begun.hooks) begun (Call.Set shape v) (Call.End ∷ []) error mid new new is
        (RoseBy_same (λ t. 0) (brought (Call.End ∷ [])) new new (λ t. refl) (RoseBy_nothing new)))

    -- all three were made
    pub all_made : (put : Builder H) (result : Result (Builder H) ReflectError) (later new : List ℕ)
        → IsCall (means begun.hooks) begun (Call.Set shape v) (Ok put) mid later → IsCall (means put.hooks) put Call.End result later new
        → AreCalls (means before.hooks) before (set_at (begin_call spot) shape v) result old new
    all_made put result later new set ended =
        then means before begun (begin_call spot) (Call.Set shape v ∷ Call.End ∷ []) result old mid new entered
        (then means begun put (Call.Set shape v) (Call.End ∷ []) result mid later new set (last (means put.hooks) put Call.End result later new ended))
