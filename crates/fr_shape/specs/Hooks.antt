-- What a user's hooks mean: functions of what they are called with, which know neither memory nor the ledger.
use Rattle.std.specs.Prelude.{◌≡◌, ℕ, ◌≤◌, Bool, true, List, [], Result, Ok, Err, ⊤}
use Rattle.fr_shape.specs.declared.value.Value.{Value}
use Rattle.fr_shape.specs.declared.hooks.HookFault.{HookFault}
use Rattle.fr_shape.specs.Val.{Val}
use Rattle.fr_shape.specs.View.{view}
use Rattle.fr_shape.specs.Look.{Table, IsIn}
use Rattle.fr_shape.specs.Checked.{IsChecked}
use Rattle.fr_shape.specs.Fits.{fits}
use Rattle.fr_shape.specs.Tokens.{tokens, occurs}

-- what a conversion or a parse comes to: a value, a refusal with its text, or that the hook doesn't do this
pub data Meaning : Type 0 where
  gives : Val → Meaning
  refuses : List ℕ → Meaning
  unsupported : Meaning

-- What each hook means, by its number. The target is the number of the shape that a value is made for.
pub record Meanings : Type 0 where
  pub check : (hook : ℕ) → Val → Bool
  pub convert : Table → (hook target : ℕ) → (source : Val) → Meaning
  pub parse : Table → (hook target : ℕ) → (text : List ℕ) → Meaning
  pub parse_bytes : Table → (hook target : ℕ) → (bytes : List ℕ) → Meaning

-- a call returns what its hook means, or is out of memory
abbrev pub Answers : Meaning → Result Value HookFault → Type 0
Answers meaning (Ok v) = meaning ≡ gives (view v)
Answers meaning (Err (HookFault.Refused message)) = meaning ≡ refuses message
Answers meaning (Err HookFault.Unsupported) = meaning ≡ unsupported
Answers meaning (Err HookFault.OutOfMemory) = ⊤

-- so it is of a value that is given
abbrev pub IfGives : Meaning → (Val → Type 0) → Type 0
IfGives (gives v) So = So v
IfGives (refuses message) So = ⊤
IfGives unsupported So = ⊤

-- Each of these is asked wherever the table is checked and the target in its range.

-- fits the target
abbrev pub FitsTarget : Table → (target : ℕ) → Val → Type 0
FitsTarget table target v = IsChecked table → IsIn table target → fits table target v ≡ true

-- holds each token at most as often as the source does
abbrev pub HoldsTokensOf : (source : Val) → Table → (target : ℕ) → Val → Type 0
HoldsTokensOf source table target v = IsChecked table → IsIn table target → (t : ℕ) → occurs v t ≤ occurs source t

abbrev pub HoldsNoToken : Table → (target : ℕ) → Val → Type 0
HoldsNoToken table target v = IsChecked table → IsIn table target → tokens v ≡ []

-- What is given fits its target. Conversions make up no token, and parses give none.
pub record IsLawful (hooks : Meanings) : Type 0 where
  pub converted_fits : (table : Table) (hook target : ℕ) (source : Val) → IfGives (hooks.convert table hook target source) (FitsTarget table target)
  pub converted_tokens : (table : Table) (hook target : ℕ) (source : Val) → IfGives (hooks.convert table hook target source) (HoldsTokensOf source table target)
  pub parsed_fits : (table : Table) (hook target : ℕ) (text : List ℕ) → IfGives (hooks.parse table hook target text) (FitsTarget table target)
  pub parsed_tokens : (table : Table) (hook target : ℕ) (text : List ℕ) → IfGives (hooks.parse table hook target text) (HoldsNoToken table target)
  pub parsed_bytes_fits : (table : Table) (hook target : ℕ) (bytes : List ℕ) → IfGives (hooks.parse_bytes table hook target bytes) (FitsTarget table target)
  pub parsed_bytes_tokens : (table : Table) (hook target : ℕ) (bytes : List ℕ) → IfGives (hooks.parse_bytes table hook target bytes) (HoldsNoToken table target)

-- no hooks: every check passes, and nothing is converted or parsed
abbrev pub no_hooks : Meanings
no_hooks = record {
  check = λ hook v. true;
  convert = λ table hook target source. unsupported;
  parse = λ table hook target text. unsupported;
  parse_bytes = λ table hook target bytes. unsupported;
}
