-- What the hooks mean that documents name by number.
use Rattle.std.specs.Prelude.{ℕ, nat_eq, ℤ, pos, Bool, true, false, List, codes, if◌then◌else◌}
use Rattle.std.specs.Str.{is_utf8}
use Rattle.fr_shape.specs.Val.{Val, int, nat, text, product, first}
use Rattle.fr_shape.specs.Look.{Table}
use Rattle.fr_shape.specs.Fits.{fits}
use Rattle.fr_shape.specs.Hooks.{Meaning, gives, refuses, unsupported, Meanings}
use Rattle.fr_doc.specs.Integers.{integers, is_zero, none_is_zero, are_in_order, none_is_negative}

-- whether the value passes the check of this number
abbrev pub passes_check : (hook : ℕ) → Val → Bool
passes_check hook v =
    if nat_eq hook 0 then none_is_zero (integers v) else
    if nat_eq hook 1 then are_in_order (integers v) else
    if nat_eq hook 2 then false else
    if nat_eq hook 3 then none_is_negative (integers v) else true

-- a refusal that tells no reason
abbrev pub refused : Meaning
refused = refuses (codes "refused")

-- the value, if it fits the target
abbrev pub if_it_fits : Table → (target : ℕ) → Val → Meaning
if_it_fits table target v = if fits table target v then gives v else unsupported

-- the first child of a product, if there is one and it fits the target
abbrev pub first_child : Table → (target : ℕ) → (source : Val) → Meaning
first_child table target (product (first child others)) = if_it_fits table target child
first_child table target _ = unsupported

-- a refusal where the integer is 0
abbrev pub unless_zero : ℤ → Meaning → Meaning
unless_zero z otherwise = if is_zero z then refuses (codes "must not be zero") else otherwise

-- an integer that isn't 0, if it fits the target
abbrev pub not_zero : Table → (target : ℕ) → (source : Val) → Meaning
not_zero table target (int z) = unless_zero z (if_it_fits table target (int z))
not_zero table target (nat n) = unless_zero (pos n) (if_it_fits table target (nat n))
not_zero table target _ = unsupported

-- what the conversion of this number makes of a source
abbrev pub hook_converted : Table → (hook target : ℕ) → (source : Val) → Meaning
hook_converted table hook target source =
    if nat_eq hook 0 then first_child table target source else
    if nat_eq hook 1 then if_it_fits table target source else
    if nat_eq hook 2 then refused else
    if nat_eq hook 3 then not_zero table target source else unsupported

-- a text, if it fits the target
abbrev pub text_parsed : Table → (target : ℕ) → List ℕ → Meaning
text_parsed table target t = if fits table target (text t) then gives (text t) else refused

-- what the parsing hook of this number makes of a text
abbrev pub hook_parsed : Table → (hook target : ℕ) → List ℕ → Meaning
hook_parsed table hook target t = if nat_eq hook 0 then text_parsed table target t else unsupported

-- bytes as a text, if they are UTF-8 and it fits the target
abbrev pub utf8_parsed : Table → (target : ℕ) → (bytes : List ℕ) → Meaning
utf8_parsed table target bytes = if is_utf8 bytes then text_parsed table target bytes else refused

-- what the hook of this number that parses bytes makes of bytes
abbrev pub hook_parsed_bytes : Table → (hook target : ℕ) → (bytes : List ℕ) → Meaning
hook_parsed_bytes table hook target bytes = if nat_eq hook 0 then utf8_parsed table target bytes else unsupported

-- the hooks that documents name by number
abbrev pub doc_hooks : Meanings
doc_hooks = record {
  check = passes_check;
  convert = hook_converted;
  parse = hook_parsed;
  parse_bytes = hook_parsed_bytes;
}
