-- What a text, or bytes, mean at a place of a shape.
use Rattle.fr_model.specs.Common.{ℕ, List, Option, Some, None, option_map_or, Shape, Meanings, Table, def_of, slice_get}
use Rattle.fr_shape.specs.Hooks.{Meaning, unsupported}
use Rattle.fr_shape.specs.Parsing.{parsed}
use Rattle.fr_shape.specs.declared.shape.HookId.{HookId}

-- the hook that parses texts for a shape
abbrev pub parse_of : Option Shape → Option HookId
parse_of (Some shape) = shape.parse
parse_of None = None

-- the hook that parses bytes for it
abbrev pub parse_bytes_of : Option Shape → Option HookId
parse_bytes_of (Some shape) = shape.parse_bytes
parse_bytes_of None = None

-- a text means what the shape's hook makes of it, and without a hook what is written so
abbrev pub text_meant : Meanings → Table → ℕ → (text : List ℕ) → Meaning
text_meant hooks table s text =
    option_map_or (λ (hook : HookId). hooks.parse table hook.0 s text) (parse_of (slice_get table s)) (parsed (def_of table s) text)

-- bytes mean what the shape's hook makes of them
abbrev pub bytes_meant : Meanings → Table → ℕ → (bytes : List ℕ) → Meaning
bytes_meant hooks table s bytes =
    option_map_or (λ (hook : HookId). hooks.parse_bytes table hook.0 s bytes) (parse_bytes_of (slice_get table s)) unsupported
