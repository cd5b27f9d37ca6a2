-- What the hooks mean, by their numbers.
use Rattle.std.specs.Prelude.{ℕ, nat_eq, nat_le, Bool, true, false, [], Option, Some, None, if◌then◌else◌}
use Rattle.std.specs.Option.{option_or}
use Rattle.fr_shape.specs.Val.{Val, Vals, nat, product, none, no_vals, first}
use Rattle.fr_shape.specs.Look.{Table}
use Rattle.fr_shape.specs.Fits.{fits}
use Rattle.fr_shape.specs.Hooks.{Meaning, Meanings, gives, refuses, unsupported}

-- every value but a number above 9
abbrev pub is_small : Val → Bool
is_small (nat n) = nat_le n 9
is_small _ = true

-- the check 1 passes nothing, the check 2 small values, any other everything
abbrev pub own_check : (hook : ℕ) → Val → Bool
own_check hook v = if nat_eq hook 1 then false else if nat_eq hook 2 then is_small v else true

-- the last of some children, if there is one
abbrev pub last_in : Vals → Option Val
last_in no_vals = None
last_in (first v vs) = option_or (last_in vs) (Some v)

-- the last child of a product
abbrev pub last_child_in : (source : Val) → Option Val
last_child_in (product vs) = last_in vs
last_child_in _ = None

-- a child, if there is one and it fits the target
abbrev pub child_if_it_fits : Table → (target : ℕ) → Option Val → Meaning
child_if_it_fits table target (Some v) = if fits table target v then gives v else unsupported
child_if_it_fits table target None = unsupported

-- the last child of a product, if there is one and it fits the target
abbrev pub last_child : Table → (target : ℕ) → (source : Val) → Meaning
last_child table target source = child_if_it_fits table target (last_child_in source)

-- whatever is converted, hook 0 gives the last child, hook 1 refuses, and no other converts
abbrev pub own_converted : Table → (hook target : ℕ) → (source : Val) → Meaning
own_converted table hook target source =
    if nat_eq hook 0 then last_child table target source else if nat_eq hook 1 then refuses [] else unsupported

-- an empty option, where it fits the target
abbrev pub empty_if_it_fits : Table → (target : ℕ) → Meaning
empty_if_it_fits table target = if fits table target none then gives none else unsupported

-- whatever is parsed, hook 0 gives an empty option, hook 1 refuses, and no other parses
abbrev pub own_parsed : Table → (hook target : ℕ) → Meaning
own_parsed table hook target =
    if nat_eq hook 0 then empty_if_it_fits table target else if nat_eq hook 1 then refuses [] else unsupported

-- what all of them mean
abbrev pub own_hooks : Meanings
own_hooks = record {
  check = own_check;
  convert = own_converted;
  parse = λ table hook target text. own_parsed table hook target;
  parse_bytes = λ table hook target bytes. own_parsed table hook target;
}
