-- The calls for one field of a form: where they fail, and that they hold no token.
use Rattle.std.proofs.Common.{◌≡◌, inr, IfErr, IfOk, ℕ, Bool, true, false, List, Result, Ok, Err, if◌then◌else◌, refl, ◌∙◌, ap, arith}
use Rattle.std.proofs.lemmas.List.{ext_get_or}
use Rattle.fr_shape.specs.Fills.{is_empty_struct}
use Rattle.fr_shape.specs.Hooks.{Meanings}
use Rattle.fr_shape.specs.Look.{Table, def_of}
use Rattle.fr_shape.specs.Released.{RoseBy}
use Rattle.fr_shape.specs.Val.{product, no_vals}
use Rattle.fr_model.specs.Commands.{Call}
use Rattle.fr_model.specs.Tree.{State, entered, whole, initial, tree_occurs}
use Rattle.fr_work.specs.declared.reflect_error.ReflectError.{ReflectError}
use Rattle.fr_partial.specs.Builder.{Builder, IsCall, holds, left}
use Rattle.fr_example.specs.declared.record.Pair.{Pair}
use Rattle.fr_example.specs.Forms.{parses_field, FailsParsing, FailsFilling}
use Rattle.fr_example.specs.Putting.{enters_field}
use Rattle.fr_example.proofs.Placing.{fails_after}

module _ {H : Type 0} (hooks own : Meanings) (table : Table) (root : ℕ) (state : State) (pair : Pair) (before : Builder H) (result : Result (Builder H) ReflectError) (old new : List ℕ) (means : own ≡ hooks) (same : before.shapes ≡ table) (at : before.root ≡ root) where
  -- the second call, done or not
  pub parses_so : (call : Call) → call ≡ Call.ParseFromStr pair.text → enters_field hooks table root state pair ≡ Ok before.state
      → IsCall own before call result old new → IfErr result (FailsParsing hooks table root state pair)
  parses_so call so is owed = go result owed
    where
      go : (r : Result (Builder H) ReflectError) → IsCall own before call r old new → IfErr r (FailsParsing hooks table root state pair)
      go (Ok after) done = tt
      go (Err error) failed =
          inr (
          fails_after hooks own table root (enters_field hooks table root state pair) before call (Call.ParseFromStr pair.text) old new means same
          at is so error failed
          )

  -- and the third
  pub leaves_so : parses_field hooks table root state pair ≡ Ok before.state → IsCall own before Call.End result old new
      → IfErr result (FailsFilling hooks table root state pair)
  leaves_so is owed = go result owed
    where
      go : (r : Result (Builder H) ReflectError) → IsCall own before Call.End r old new → IfErr r (FailsFilling hooks table root state pair)
      go (Ok after) done = tt
      go (Err error) failed =
          inr (
          fails_after hooks own table root (parses_field hooks table root state pair) before Call.End Call.End old new means same at is refl
          error failed
          )

-- Tokens

pub if_ok_none : {H : Type 0} (result : Result (Builder H) ReflectError) → ((t : ℕ) → left result t ≡ 0)
    → IfOk result (λ after. (t : ℕ) → holds after t ≡ 0)
if_ok_none (Ok after) none = none
if_ok_none (Err error) none = tt

none_in_fresh : (empty : Bool) (t : ℕ) → tree_occurs (if empty then whole (product no_vals) else entered) t ≡ 0
none_in_fresh true t = refl
none_in_fresh false t = refl

-- a builder at which nothing was put holds no token
pub nothing_held : (table : Table) (root : ℕ) (here : State) → here ≡ initial table root → (t : ℕ) → tree_occurs here.tree t ≡ 0
nothing_held table root here is t =
    ap (λ (s : State). tree_occurs s.tree t) is ∙ none_in_fresh (is_empty_struct (def_of table root)) t

-- to give up what holds no token releases none
pub given_up : (held : ℕ → ℕ) (before after : List ℕ) → RoseBy held before after → ((t : ℕ) → held t ≡ 0) → after ≡ before
given_up held before after rose none = ext_get_or 0 after before rose.same_length (λ t _. omega (arith, rose.each t, none t))
