-- The hooks of documents are lawful.
use Rattle.std.proofs.Common.{◌≡◌, ℕ, ◌≤◌, pos, Bool, true, false, List, codes, nat_eq, if◌then◌else◌, refl, arith}
use Rattle.std.specs.Str.{is_utf8}
use Rattle.fr_shape.specs.Val.{Val, Vals, unit, bool, char, int, nat, text, token, product, variant, none, some, ok, err, list_of, map_of, set_of, ptr, dyn, no_vals, first}
use Rattle.fr_shape.specs.Look.{Table}
use Rattle.fr_shape.specs.Fits.{fits}
use Rattle.fr_shape.specs.Tokens.{occurs}
use Rattle.fr_shape.specs.Hooks.{Meaning, gives, refuses, unsupported, IfGives, FitsTarget, HoldsTokensOf, HoldsNoToken, IsLawful}
use Rattle.fr_doc.specs.Integers.{is_zero}
use Rattle.fr_doc.specs.DocHooks.{doc_hooks, if_it_fits, first_child, not_zero, refused, hook_converted, text_parsed, hook_parsed, utf8_parsed, hook_parsed_bytes}

-- what holds of the one meaning where the test is true, and of the other, holds of what the test picks
either : (test : Bool) (here otherwise : Meaning) (So : Val → Type 0) → (test ≡ true → IfGives here So) → IfGives otherwise So → IfGives (if test then here else otherwise) So
either true here otherwise So holds_here holds_otherwise = holds_here refl
either false here otherwise So holds_here holds_otherwise = holds_otherwise

module _ (table : Table) (target : ℕ) where
  -- what holds of a value that fits holds of what is given: of the value itself,
  value_where_it_fits : (v : Val) (So : Val → Type 0) → (fits table target v ≡ true → So v) → IfGives (if_it_fits table target v) So
  value_where_it_fits v So holds = either (fits table target v) (gives v) unsupported So holds tt

  -- of the first child
  child_where_it_fits : (source : Val) (So : Val → Type 0)
      → ((child : Val) (others : Vals) → source ≡ product (first child others) → fits table target child ≡ true → So child)
      → IfGives (first_child table target source) So
  child_where_it_fits unit So holds = tt
  child_where_it_fits (bool b) So holds = tt
  child_where_it_fits (char c) So holds = tt
  child_where_it_fits (int z) So holds = tt
  child_where_it_fits (nat n) So holds = tt
  child_where_it_fits (text t) So holds = tt
  child_where_it_fits (token t) So holds = tt
  child_where_it_fits (product no_vals) So holds = tt
  child_where_it_fits (product (first child others)) So holds = value_where_it_fits child So (holds child others refl)
  child_where_it_fits (variant i vs) So holds = tt
  child_where_it_fits none So holds = tt
  child_where_it_fits (some v) So holds = tt
  child_where_it_fits (ok v) So holds = tt
  child_where_it_fits (err v) So holds = tt
  child_where_it_fits (list_of vs) So holds = tt
  child_where_it_fits (map_of es) So holds = tt
  child_where_it_fits (set_of vs) So holds = tt
  child_where_it_fits (ptr v) So holds = tt
  child_where_it_fits (dyn d) So holds = tt

  -- of an integer
  integer_where_it_fits : (source : Val) (So : Val → Type 0) → (fits table target source ≡ true → So source) → IfGives (not_zero table target source) So
  integer_where_it_fits unit So holds = tt
  integer_where_it_fits (bool b) So holds = tt
  integer_where_it_fits (char c) So holds = tt
  integer_where_it_fits (int z) So holds =
      either (is_zero z) (refuses (codes "must not be zero")) (if_it_fits table target (int z)) So (λ e. tt)
      (value_where_it_fits (int z) So holds)
  integer_where_it_fits (nat n) So holds =
      either (is_zero (pos n)) (refuses (codes "must not be zero")) (if_it_fits table target (nat n)) So (λ e. tt)
      (value_where_it_fits (nat n) So holds)
  integer_where_it_fits (text t) So holds = tt
  integer_where_it_fits (token t) So holds = tt
  integer_where_it_fits (product vs) So holds = tt
  integer_where_it_fits (variant i vs) So holds = tt
  integer_where_it_fits none So holds = tt
  integer_where_it_fits (some v) So holds = tt
  integer_where_it_fits (ok v) So holds = tt
  integer_where_it_fits (err v) So holds = tt
  integer_where_it_fits (list_of vs) So holds = tt
  integer_where_it_fits (map_of es) So holds = tt
  integer_where_it_fits (set_of vs) So holds = tt
  integer_where_it_fits (ptr v) So holds = tt
  integer_where_it_fits (dyn d) So holds = tt

  -- of whatever is converted: it is the source or its first child
  converted_where_it_fits : (hook : ℕ) (source : Val) (So : Val → Type 0) → (fits table target source ≡ true → So source)
      → ((child : Val) (others : Vals) → source ≡ product (first child others) → fits table target child ≡ true → So child)
      → IfGives (hook_converted table hook target source) So
  converted_where_it_fits hook source So whole part =
      either (nat_eq hook 0) (first_child table target source) _ So
      (λ e. child_where_it_fits source So part)
      (either (nat_eq hook 1) (if_it_fits table target source) _ So
      (λ e. value_where_it_fits source So whole)
      (either (nat_eq hook 2) refused _ So (λ e. tt)
      (either (nat_eq hook 3) (not_zero table target source) unsupported So
      (λ e. integer_where_it_fits source So whole) tt)))

  -- of a text
  text_where_it_fits : (t : List ℕ) (So : Val → Type 0) → (fits table target (text t) ≡ true → So (text t)) → IfGives (text_parsed table target t) So
  text_where_it_fits t So holds = either (fits table target (text t)) (gives (text t)) refused So holds tt

  parsed_where_it_fits : (hook : ℕ) (t : List ℕ) (So : Val → Type 0) → (fits table target (text t) ≡ true → So (text t)) → IfGives (hook_parsed table hook target t) So
  parsed_where_it_fits hook t So holds =
      either (nat_eq hook 0) (text_parsed table target t) unsupported So (λ e. text_where_it_fits t So holds) tt

  bytes_parsed_where_it_fits : (hook : ℕ) (bytes : List ℕ) (So : Val → Type 0) → (fits table target (text bytes) ≡ true → So (text bytes)) → IfGives (hook_parsed_bytes table hook target bytes) So
  bytes_parsed_where_it_fits hook bytes So holds =
      either (nat_eq hook 0) (utf8_parsed table target bytes) unsupported So
      (λ e. either (is_utf8 bytes) (text_parsed table target bytes) refused So (λ e'. text_where_it_fits bytes So holds) tt)
      tt

-- a first child holds each token at most as often as the product does
child_holds : (source child : Val) (others : Vals) → source ≡ product (first child others) → (t : ℕ) → occurs child t ≤ occurs source t
child_holds source child others is t = rw is (omega arith)

pub doc_hooks_are_lawful : IsLawful doc_hooks
doc_hooks_are_lawful = record {
  converted_fits = λ table hook target source.
      converted_where_it_fits table target hook source (FitsTarget table target) (λ e checked known. e)
      (λ child others is e checked known. e);
  converted_tokens = λ table hook target source.
      converted_where_it_fits table target hook source (HoldsTokensOf source table target) (λ e checked known t. omega arith)
      (λ child others is e checked known t. child_holds source child others is t);
  parsed_fits = λ table hook target t.
      parsed_where_it_fits table target hook t (FitsTarget table target) (λ e checked known. e);
  parsed_tokens = λ table hook target t.
      parsed_where_it_fits table target hook t (HoldsNoToken table target) (λ e checked known. refl);
  parsed_bytes_fits = λ table hook target bytes.
      bytes_parsed_where_it_fits table target hook bytes (FitsTarget table target) (λ e checked known. e);
  parsed_bytes_tokens = λ table hook target bytes.
      bytes_parsed_where_it_fits table target hook bytes (HoldsNoToken table target) (λ e checked known. refl);
}
