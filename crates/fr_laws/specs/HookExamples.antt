-- Worked examples of parsing, and of invariants at `build`, computed from the definitions.
use Rattle.std.specs.Prelude.{◌≡◌, ◌∷◌, ◌++◌}
use Rattle.fr_model.specs.Common.{ℕ, zero, suc, not, List, [], Some, Result, Ok, codes, Def, Invariant, Operation, ReflectErrorKind, Shape, Meanings, no_hooks, Table, plain_field, plain_shape, same, Val, nat, product}
use Rattle.fr_model.specs.Basis.{Call, BeginNthField, End, ParseFromBytes, ParseFromStr, Set}
use Rattle.fr_laws.specs.ContentExamples.{fails, id, u32, struct_of, one, put_in, refused, refused_first}
use Rattle.fr_model.specs.Run.{Refusal, full_run}
use Rattle.fr_model.specs.Step.{violates}
use Rattle.fr_shape.specs.Hooks.{Meaning, gives, refuses, unsupported}

-- hook 0 gives 7, hook 1 refuses, and any other parses nothing
abbrev pub meaning_of_hook : (hook : ℕ) → Meaning
meaning_of_hook zero = gives (nat 7)
meaning_of_hook (suc zero) = refuses (codes "no")
meaning_of_hook _ = unsupported

-- what a struct of a single 5 doesn't pass
abbrev pub hooks : Meanings
hooks = record no_hooks {
  check = λ hook v. not (same v (product (one (nat 5))));
  parse = λ table hook target text. meaning_of_hook hook;
  parse_bytes = λ table hook target bytes. meaning_of_hook hook;
}

abbrev pub parsed_by : Shape → ℕ → Shape
parsed_by shape n = record shape { parse = Some (record { 0 = n }); parse_bytes = Some (record { 0 = n }) }

-- a number, a list, and numbers that each of the hooks parses
abbrev pub parses : Table
parses =
    u32 ∷ plain_shape (codes "List") (Def.List (id 0))
    ∷ parsed_by u32 0 ∷ parsed_by u32 1 ∷ parsed_by u32 2 ∷ []

abbrev pub Parses : (root : ℕ) → Call → Result Val Refusal → Type 0
Parses root command outcome = full_run hooks parses root (command ∷ []) ≡ outcome

abbrev pub not_parsed : ℕ → Result Val Refusal
not_parsed s = refused_first (ReflectErrorKind.ParseFailed (id s))

pub record ParsingExamples : Type 0 where
  pub with_plus : Parses 0 (ParseFromStr (codes "+5")) (Ok (nat 5))
  pub with_minus : Parses 0 (ParseFromStr (codes "-1")) (not_parsed 0)
  pub no_list : Parses 1 (ParseFromStr (codes "5")) (fails 0 1 Operation.NoParsing)
  pub no_bytes : Parses 0 (ParseFromBytes (codes "5")) (fails 0 0 Operation.NoParsingOfBytes)
  -- a hook alone parses where there is one
  pub by_hook : Parses 2 (ParseFromStr (codes "5")) (Ok (nat 7))
  pub by_hook_refused : Parses 3 (ParseFromStr (codes "5")) (not_parsed 3)
  pub by_hook_unsupported : Parses 4 (ParseFromStr (codes "5")) (fails 0 4 Operation.NoParsing)
  pub bytes_by_hook : Parses 2 (ParseFromBytes (codes "5")) (Ok (nat 7))
  pub bytes_by_hook_refused : Parses 3 (ParseFromBytes (codes "5")) (fails 0 3 Operation.BytesNotParsed)
  pub bytes_by_hook_unsupported : Parses 4 (ParseFromBytes (codes "5")) (fails 0 4 Operation.NoParsingOfBytes)

-- a struct with an invariant, inside another
abbrev pub invariants : Table
invariants =
    u32
    ∷ record (plain_shape (codes "Inner") (struct_of (plain_field (codes "n") 0 ∷ []))) { invariant = Some (record { 0 = 0 }) }
    ∷ plain_shape (codes "Outer") (struct_of (plain_field (codes "inner") 1 ∷ [])) ∷ []

-- the inner one is made of this number
abbrev pub made_of : ℕ → List Call
made_of n = BeginNthField 0 ∷ put_in 0 0 (nat n) ++ End ∷ []

abbrev pub holding : ℕ → Val
holding n = product (one (product (one (nat n))))

pub record InvariantExamples : Type 0 where
  pub kept : full_run hooks invariants 2 (made_of 4) ≡ Ok (holding 4)
  -- no call but `build` asks it
  pub broken : full_run hooks invariants 2 (made_of 5) ≡ refused 5 (violates Invariant.TypeInvariant) []
  pub broken_in_whole : full_run hooks invariants 2 (Set 2 (holding 5) ∷ []) ≡ refused 1 (violates Invariant.TypeInvariant) []
