-- A builder of a server that stands for a known state, while nothing was released, and what it comes to.
use Rattle.std.proofs.Common.{◌≡◌, ℕ, ◌+◌, Bool, List, Result, Ok, Err, sym, ◌∙◌, ap, subst, arith}
use Rattle.fr_shape.specs.Hooks.{Meanings}
use Rattle.fr_shape.specs.Look.{Table}
use Rattle.fr_shape.specs.Released.{Room}
use Rattle.fr_shape.specs.Tokens.{occurs}
use Rattle.fr_shape.specs.Val.{Val}
use Rattle.fr_shape.specs.declared.error.ReflectErrorKind.{ReflectErrorKind}
use Rattle.fr_shape.specs.declared.shape.Def.{Def}
use Rattle.fr_model.specs.Commands.{Call}
use Rattle.fr_model.specs.Scripts.{brings, brought}
use Rattle.fr_model.specs.Step.{step}
use Rattle.fr_model.specs.Sequences.{AllLeadTo}
use Rattle.fr_model.specs.Tree.{State, tree_occurs}
use Rattle.fr_partial.specs.Builder.{Builder, IsCall, holds}
use Rattle.fr_partial.specs.Several.{AreCalls, AreSteps}
use Rattle.fr_partial.specs.Spots.{set_at}
use Rattle.fr_partial.specs.Typed.{HasShape, own_number}
use Rattle.fr_work.specs.declared.reflect_error.ReflectError.{ReflectError}
use Rattle.fr_example.specs.Servers.{server_table}
use Rattle.fr_example.proofs.StandingAt.{IsAt, GoesTo, called, all_called, none_at}
use Rattle.fr_example.proofs.TextsWithoutTokens.{stays, no_room}

-- it stands for this state, and the ledger is now as it was
pub record Stands {H : Type 0} (at : State) (builder : Builder H) (old now : List ℕ) : Type 0 where
  pub is : IsAt server_table 3 at builder
  pub ledger : now ≡ old

-- it goes on to this state, or memory ran out; and the ledger is as it was
abbrev pub GoesOn : {H : Type 0} → State → Result (Builder H) ReflectError → (old new : List ℕ) → Type 0
GoesOn next (Ok after) old new = Stands next after old new
GoesOn next (Err error) old new = (error.kind ≡ ReflectErrorKind.OutOfMemory) × (new ≡ old)

goes_on : {H : Type 0} (next : State) (result : Result (Builder H) ReflectError) (old new : List ℕ)
    → GoesTo server_table 3 next result → new ≡ old → GoesOn next result old new
goes_on next (Ok after) old new is same = record { is = is; ledger = same }
goes_on next (Err error) old new is same = (is, same)

-- no token is in this state
abbrev pub HoldsNone : State → Type 0
HoldsNone at = (t : ℕ) → tree_occurs at.tree t ≡ 0

module _ {H : Type 0} {before : Builder H} {at : State} {old now : List ℕ} (none : HoldsNone at) (stands : Stands at before old now) where
  pub none_held : (t : ℕ) → holds before t ≡ 0
  none_held = none_at server_table 3 at before stands.is none

  -- so no room is needed, not even with a value that holds none either
  pub room : Room (holds before) now
  room = no_room _ _ none_held

  pub room_with : (v : Val) → ((t : ℕ) → occurs v t ≡ 0) → Room (λ t. holds before t + occurs v t) now
  room_with v none_in =
      no_room _ _ (λ t. omega (arith, none_held t, none_in t))

  -- a call that is admitted there, and brings no token
  pub by_call : (hooks : Meanings) (next : State) (call : Call) (result : Result (Builder H) ReflectError) (new : List ℕ)
      → step hooks server_table 3 at call ≡ Ok next → ((t : ℕ) → brings call t ≡ 0)
      → IsCall hooks before call result now new → GoesOn next result old new
  by_call hooks next call result new admitted nothing owed =
      goes_on next result old new (called hooks server_table 3 at next before call result admitted stands.is owed.step)
      (stays _ _ _ _ owed.tokens (λ t. omega (arith, none_held t, nothing t)) ∙ stands.ledger)

  -- a value of a type, put at a child
  pub by_calls : (own : Table → Def → Bool) (number : ℕ) (hooks : Meanings) (next : State) (begin : Call) (v : Val)
      (result : Result (Builder H) ReflectError) (new : List ℕ)
      → own_number own server_table ≡ number
      → AllLeadTo hooks server_table 3 at (set_at begin number v) next
      → ((n t : ℕ) → brought (set_at begin n v) t ≡ 0)
      → AreCalls hooks before (set_at begin (own_number own before.shapes) v) result now new → GoesOn next result old new
  by_calls own number hooks next begin v result new numbered admitted nothing owed =
      goes_on next result old new
      (all_called hooks server_table 3 at next before (set_at begin number v) result admitted stands.is
      (subst (λ (n : ℕ). AreSteps hooks before (set_at begin n v) result)
      (ap (λ (t : Table). own_number own t) stands.is.shapes ∙ numbered) owed.steps))
      (stays _ _ _ _ owed.tokens (λ t. omega (arith, none_held t, nothing (own_number own before.shapes) t)) ∙ stands.ledger)

-- a type has a shape in its table
pub has_shape : {H : Type 0} {before : Builder H} {at : State} {old now : List ℕ} (own : Table → Def → Bool)
    → Stands at before old now → HasShape own server_table → HasShape own before.shapes
has_shape own stands there = subst (λ (t : Table). HasShape own t) (sym stands.is.shapes) there
