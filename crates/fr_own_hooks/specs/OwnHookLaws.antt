-- The hooks are lawful: what they give fits, and they make up no token.
use Rattle.std.specs.Option.{option_or}
use Rattle.std.specs.Prelude.{⊤}
use Rattle.std.proofs.Common.{◌≡◌, ℕ, ◌+◌, ◌≤◌, nat_eq, Bool, true, false, [], Option, Some, None, if◌then◌else◌, refl, arith}
use Rattle.fr_shape.specs.Val.{Val, Vals, unit, bool, char, int, nat, text, token, product, variant, none, some, ok, err, list_of, map_of, set_of, ptr, dyn, no_vals, first}
use Rattle.fr_shape.specs.Look.{Table}
use Rattle.fr_shape.specs.Fits.{fits}
use Rattle.fr_shape.specs.Hooks.{Meaning, FitsTarget, HoldsNoToken, HoldsTokensOf, IfGives, IsLawful, gives, refuses, unsupported}
use Rattle.fr_shape.specs.Tokens.{occurs, vals_occur}
use Rattle.fr_own_hooks.specs.OwnHooks.{child_if_it_fits, empty_if_it_fits, last_child, last_in, last_child_in, own_converted, own_hooks, own_parsed}

-- what holds of the one meaning where the test is true, and of the other, holds of what the test picks
either : (test : Bool) (here otherwise : Meaning) (So : Val → Type 0) → (test ≡ true → IfGives here So) → IfGives otherwise So → IfGives (if test then here else otherwise) So
either true here otherwise So holds_here holds_otherwise = holds_here refl
either false here otherwise So holds_here holds_otherwise = holds_otherwise

-- what holds of an empty option that fits holds of what is given
empty_where_it_fits : (table : Table) (hook target : ℕ) (So : Val → Type 0) → (fits table target none ≡ true → So none) → IfGives (own_parsed table hook target) So
empty_where_it_fits table hook target So holds =
    either (nat_eq hook 0) (empty_if_it_fits table target) _ So
    (λ e. either (fits table target none) (gives none) unsupported So holds tt)
    (either (nat_eq hook 1) (refuses []) unsupported So (λ e. tt) tt)

-- so it is of a child, if there is one
abbrev IfThere : Option Val → (Val → Type 0) → Type 0
IfThere (Some v) So = So v
IfThere None So = ⊤

-- the last of some children holds each token at most as often as all of them do
last_holds : (vs : Vals) (t : ℕ) → IfThere (last_in vs) (λ v. occurs v t ≤ vals_occur vs t)
last_holds no_vals t = tt
last_holds (first v vs) t = go (last_in vs) (last_holds vs t)
  where
    go : (last : Option Val) → IfThere last (λ w. occurs w t ≤ vals_occur vs t)
        → IfThere (option_or last (Some v)) (λ w. occurs w t ≤ occurs v t + vals_occur vs t)
    go (Some w) fewer = omega (arith, fewer)
    go None fewer = omega arith

-- and as often as the product does
last_child_holds : (source : Val) (t : ℕ) → IfThere (last_child_in source) (λ v. occurs v t ≤ occurs source t)
last_child_holds unit t = tt
last_child_holds (bool b) t = tt
last_child_holds (char c) t = tt
last_child_holds (int z) t = tt
last_child_holds (nat n) t = tt
last_child_holds (text s) t = tt
last_child_holds (token s) t = tt
last_child_holds (product vs) t = last_holds vs t
last_child_holds (variant i vs) t = tt
last_child_holds none t = tt
last_child_holds (some v) t = tt
last_child_holds (ok v) t = tt
last_child_holds (err v) t = tt
last_child_holds (list_of vs) t = tt
last_child_holds (map_of es) t = tt
last_child_holds (set_of vs) t = tt
last_child_holds (ptr v) t = tt
last_child_holds (dyn d) t = tt

-- each token, of a child that is given
each_token : (child : Option Val) (source : Val) → ((t : ℕ) → IfThere child (λ v. occurs v t ≤ occurs source t))
    → IfThere child (λ v. (t : ℕ) → occurs v t ≤ occurs source t)
each_token (Some v) source holds = holds
each_token None source holds = tt

module _ (table : Table) (target : ℕ) where
  -- what holds of a child that is there and fits holds of what is given
  child_where_it_fits : (child : Option Val) (So : Val → Type 0) → IfThere child (λ v. fits table target v ≡ true → So v)
      → IfGives (child_if_it_fits table target child) So
  child_where_it_fits (Some v) So holds = either (fits table target v) (gives v) unsupported So holds tt
  child_where_it_fits None So holds = tt

  -- of the last child so of whatever is converted
  converted_where_it_fits : (hook : ℕ) (source : Val) (So : Val → Type 0)
      → IfThere (last_child_in source) (λ v. fits table target v ≡ true → So v) → IfGives (own_converted table hook target source) So
  converted_where_it_fits hook source So holds =
      either (nat_eq hook 0) (last_child table target source) _ So
      (λ e. child_where_it_fits (last_child_in source) So holds)
      (either (nat_eq hook 1) (refuses []) unsupported So (λ e. tt) tt)

  -- a child that is there and fits fits, and holds no token that the source doesn't
  there_fits : (child : Option Val) → IfThere child (λ v. fits table target v ≡ true → FitsTarget table target v)
  there_fits (Some v) = λ e checked known. e
  there_fits None = tt

  there_holds : (child : Option Val) (source : Val) → IfThere child (λ v. (t : ℕ) → occurs v t ≤ occurs source t)
      → IfThere child (λ v. fits table target v ≡ true → HoldsTokensOf source table target v)
  there_holds (Some v) source holds = λ e checked known. holds
  there_holds None source holds = tt

pub own_hooks_are_lawful : IsLawful own_hooks
own_hooks_are_lawful = record {
  converted_fits = λ table hook target source.
      converted_where_it_fits table target hook source (FitsTarget table target) (there_fits table target (last_child_in source));
  converted_tokens = λ table hook target source.
      converted_where_it_fits table target hook source (HoldsTokensOf source table target)
      (there_holds table target (last_child_in source) source
      (each_token (last_child_in source) source (last_child_holds source)));
  parsed_fits = λ table hook target text. empty_where_it_fits table hook target (FitsTarget table target) (λ e checked known. e);
  parsed_tokens = λ table hook target text. empty_where_it_fits table hook target (HoldsNoToken table target) (λ e checked known. refl);
  parsed_bytes_fits = λ table hook target bytes. empty_where_it_fits table hook target (FitsTarget table target) (λ e checked known. e);
  parsed_bytes_tokens = λ table hook target bytes. empty_where_it_fits table hook target (HoldsNoToken table target) (λ e checked known. refl);
}
