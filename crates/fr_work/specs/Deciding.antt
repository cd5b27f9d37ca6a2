-- What is decided of a call: which move it comes to, or why it is refused.
use Rattle.std.specs.Prelude.{◌≡◌, ◌≢◌, ◌⊎◌, ℕ, true, List, Result, Ok, Err, IsOk}
use Rattle.fr_shape.specs.declared.error.ReflectErrorKind.{ReflectErrorKind}
use Rattle.fr_shape.specs.Hooks.{Meanings}
use Rattle.fr_shape.specs.Released.{RoseBy}
use Rattle.fr_model.specs.Commands.{Call}
use Rattle.fr_model.specs.Scripts.{brings}
use Rattle.fr_model.specs.Step.{step}
use Rattle.fr_model.specs.Tree.{Tree}
use Rattle.fr_moves.specs.declared.moves.Move.{Move}
use Rattle.fr_moves.specs.CompletedPlaces.{completes_late}
use Rattle.fr_work.specs.ParseHooks.{parses_by_hook}
use Rattle.fr_moves.specs.Sites.{Site, shape_at}
use Rattle.fr_moves.specs.Moving.{ComesTo, carried, is_late, meant_by, needs_message_alone, needs_none}

-- As these hooks mean, a call comes to a move.
pub record ComesToBy (hooks : Meanings) (site : Site) (call : Call) (move : Move) : Type 0 where
  -- the move carries the tokens that the call brings
  pub same_tokens : (t : ℕ) → brings call t ≡ carried move t
  -- only one that completes what was left beneath a place comes to a late move
  pub late : is_late move ≡ true → completes_late site.state call ≡ true
  -- and means what the call means
  pub means : step hooks site.shapes site.root site.state call ≡ meant_by hooks site move

-- As these hooks mean, a call is refused so; or it isn't refused, and to decide it there was no memory; or there was none for a hook that
-- it asks.
abbrev pub IsRefusedBy : Meanings → Site → Call → ReflectErrorKind → Type 0
IsRefusedBy hooks site call kind =
    ((kind ≢ ReflectErrorKind.OutOfMemory) × (step hooks site.shapes site.root site.state call ≡ Err kind))
    ⊎ ((kind ≡ ReflectErrorKind.OutOfMemory)
    × (IsOk (step hooks site.shapes site.root site.state call) ⊎ (parses_by_hook site.shapes (shape_at site) call ≡ true)))

-- A call is refused so, whatever the hooks mean; or it isn't refused, and to decide it there was no memory.
abbrev pub IsRefused : Site → Call → ReflectErrorKind → Type 0
IsRefused site call kind =
    ((kind ≢ ReflectErrorKind.OutOfMemory) × ((hooks : Meanings) → step hooks site.shapes site.root site.state call ≡ Err kind))
    ⊎ ((kind ≡ ReflectErrorKind.OutOfMemory) × ((hooks : Meanings) → IsOk (step hooks site.shapes site.root site.state call)))

-- what a call means, as these hooks mean, was decided: which move it comes to, or why it is refused, or there was no memory to decide it
abbrev pub DecidesBy : Meanings → Site → Call → Result Move ReflectErrorKind → Type 0
DecidesBy hooks site call (Ok move) = ComesToBy hooks site call move
DecidesBy hooks site call (Err kind) = IsRefusedBy hooks site call kind

-- so it was, whatever the hooks mean
abbrev pub Decides : Site → Call → Result Move ReflectErrorKind → Type 0
Decides site call (Ok move) = ComesTo site call move
Decides site call (Err kind) = IsRefused site call kind

-- what was decided takes no memory at a place at which this stands, or its refusal isn't want of memory
abbrev pub NeedsNone : Tree → Result Move ReflectErrorKind → Type 0
NeedsNone tree (Ok move) = needs_none move tree ≡ true
NeedsNone tree (Err kind) = kind ≢ ReflectErrorKind.OutOfMemory

-- the same, but for a validator's message
abbrev pub NeedsMessageAlone : Tree → Result Move ReflectErrorKind → Type 0
NeedsMessageAlone tree (Ok move) = needs_message_alone move tree ≡ true
NeedsMessageAlone tree (Err kind) = kind ≢ ReflectErrorKind.OutOfMemory

-- how often what was decided carries a token
abbrev pub carries : Result Move ReflectErrorKind → ℕ → ℕ
carries (Ok move) t = carried move t
carries (Err kind) t = 0

-- what deciding a call has released: the tokens that it brings, where it is refused or there is no memory
abbrev pub WasDecided : Call → Result Move ReflectErrorKind → (old now : List ℕ) → Type 0
WasDecided call (Ok move) old now = now ≡ old
WasDecided call (Err kind) old now = RoseBy (brings call) old now
