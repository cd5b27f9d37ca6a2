-- What is parsed at a place, and which calls ask a hook of the user's for a value.
use Rattle.std.specs.Prelude.{◌||◌, ℕ, Bool, false, slice_get, is_some}
use Rattle.fr_shape.specs.Fits.{takes_text}
use Rattle.fr_shape.specs.Hooks.{Meaning, Meanings}
use Rattle.fr_shape.specs.Look.{Table, def_of}
use Rattle.fr_shape.specs.declared.error.Operation.{Operation}
use Rattle.fr_shape.specs.declared.error.ReflectErrorKind.{ReflectErrorKind}
use Rattle.fr_model.specs.Commands.{Call}
use Rattle.fr_model.specs.Parses.{parse_of, parse_bytes_of, text_meant, bytes_meant}
use Rattle.fr_model.specs.Refusals.{operation_failed}
use Rattle.fr_work.specs.declared.parse_moves.ParseInput.{ParseInput}

-- a text or bytes are parsed at a place whose shape has a hook for it
abbrev pub parses_by_hook : Table → ℕ → Call → Bool
parses_by_hook table s (Call.ParseFromStr text) = is_some (parse_of (slice_get table s))
parses_by_hook table s (Call.ParseFromBytes bytes) = is_some (parse_bytes_of (slice_get table s))
parses_by_hook table s _ = false

-- the call by which it is parsed
abbrev pub parse_call : ParseInput → Call
parse_call (ParseInput.Text text) = Call.ParseFromStr text.now
parse_call (ParseInput.Bytes bytes) = Call.ParseFromBytes bytes.now

-- what it means at a place of shape s
abbrev pub input_meant : Meanings → Table → ℕ → ParseInput → Meaning
input_meant hooks table s (ParseInput.Text text) = text_meant hooks table s text.now
input_meant hooks table s (ParseInput.Bytes bytes) = bytes_meant hooks table s bytes.now

-- the refusal where its meaning there is one
abbrev pub input_refusal : ℕ → ParseInput → ReflectErrorKind
input_refusal s (ParseInput.Text text) = ReflectErrorKind.ParseFailed (record { 0 = s })
input_refusal s (ParseInput.Bytes bytes) = operation_failed s Operation.BytesNotParsed

-- and where it isn't supported there
abbrev pub input_unparsed : ℕ → ParseInput → ReflectErrorKind
input_unparsed s (ParseInput.Text text) = operation_failed s Operation.NoParsing
input_unparsed s (ParseInput.Bytes bytes) = operation_failed s Operation.NoParsingOfBytes

-- a text is parsed at a place that takes texts
abbrev pub copies_text : Table → ℕ → ParseInput → Bool
copies_text table s (ParseInput.Text text) = takes_text (def_of table s)
copies_text table s (ParseInput.Bytes bytes) = false

-- to parse it there may want memory: by a hook, or for the text
abbrev pub may_want_memory : Table → ℕ → ParseInput → Bool
may_want_memory table s input = parses_by_hook table s (parse_call input) || copies_text table s input
