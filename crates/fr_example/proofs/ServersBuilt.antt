-- What the builder of a server begins with and comes to, and what is told where it comes to no server.
use Rattle.std.proofs.Common.{◌≡◌, ◌⊎◌, inl, inr, ℕ, Bool, true, false, List, [], ◌∷◌, Option, Some, None, Result, Ok, Err, IsSome, IsNone, IfErr, refl, sym, ◌∙◌, ap, arith}
use Rattle.std.proofs.lemmas.List.{ext_get_or}
use Rattle.std.proofs.lemmas.Result.{err_from_is_err_and}
use Rattle.std.specs.Option.{option_map}
use Rattle.std.specs.Result.{IsErrAnd}
use Rattle.fr_shape.specs.Fits.{fits}
use Rattle.fr_shape.specs.Hooks.{Meanings}
use Rattle.fr_shape.specs.Look.{Table}
use Rattle.fr_shape.specs.Released.{RoseBy}
use Rattle.fr_shape.specs.Tokens.{occurs}
use Rattle.fr_shape.specs.Val.{Val, nat, text, product, list_of, first, no_vals}
use Rattle.fr_shape.specs.declared.error.PlanError.{PlanError}
use Rattle.fr_shape.specs.declared.error.ReflectErrorKind.{ReflectErrorKind}
use Rattle.fr_shape.specs.declared.shape.ScalarKind.{ScalarKind}
use Rattle.fr_facet.specs.Elements.{list_takes, scalar_takes, vals_shown}
use Rattle.fr_facet.specs.Facets.{IsReadIf}
use Rattle.fr_facet.specs.Structs.{first_takes, none_left, product_takes}
use Rattle.fr_facet.specs.declared.facet.FacetFault.{FacetFault}
use Rattle.fr_model.specs.Paths.{path_of}
use Rattle.fr_model.specs.Run.{alloc_refusal}
use Rattle.fr_model.specs.Step.{build}
use Rattle.fr_model.specs.Tree.{State, initial}
use Rattle.fr_partial.specs.Builder.{Builder, IsBuild, meaning_of_build}
use Rattle.fr_partial.specs.Typed.{own_number}
use Rattle.fr_work.specs.BuiltValue.{BuiltValue}
use Rattle.fr_work.specs.Starting.{RefusedWith}
use Rattle.fr_work.specs.declared.reflect_error.ReflectError.{ReflectError}
use Rattle.fr_example.specs.Servers.{server_table}
use Rattle.fr_example.specs.Unbuilt.{host_field, MissesHost, refused_for, refused, without_plan, not_read}
use Rattle.fr_example.specs.declared.lead.Unbuilt.{Unbuilt}
use Rattle.fr_example.proofs.BuildingServers.{HoldsNone, Stands, none_held}
use Rattle.fr_example.proofs.ServerSteps.{ports_value, listed, hosted, planned, builds, misses_host}
use Rattle.fr_example.proofs.ServerTable.{server_own, server_number}
use Rattle.fr_example.proofs.TextsWithoutTokens.{stays}

-- The beginning

pub starts : {H : Type 0} (builder : Builder H) (table : Table) (old : List ℕ) → table ≡ server_table → builder.shapes ≡ table
    → builder.root ≡ own_number server_own table → builder.state ≡ initial table (own_number server_own table)
    → Stands (initial server_table 3) builder old old
starts builder table old is shapes root state = record {
  is = record {
    shapes = shapes ∙ is;
    root_is = root ∙ number;
    state = state ∙ ap (λ (n : ℕ). initial table n) number ∙ ap (λ (t : Table). initial t 3) is;
  };
  ledger = refl;
}
  where
    number : own_number server_own table ≡ 3
    number = ap (λ (t : Table). own_number server_own t) is ∙ server_number

-- there is a plan, so that only memory lacks
pub plan_lacks_memory : (table : Table) (error : PlanError) → table ≡ server_table
    → RefusedWith {A = ℕ} (alloc_refusal table (own_number server_own table)) (Err error) → without_plan error ≡ Unbuilt.OutOfMemory
plan_lacks_memory table PlanError.OutOfMemory is told = refl
plan_lacks_memory table (PlanError.Alloc error) is told =
    let none : alloc_refusal table (own_number server_own table) ≡ None
    = ap (λ (t : Table). alloc_refusal t (own_number server_own t)) is
    ∙ ap (λ (n : ℕ). alloc_refusal server_table n) server_number ∙ planned in
    let never : None ≡ Some error = sym none ∙ told in cc

-- The end

-- the state in which the server is built, with its host or without
abbrev pub with_host : (host : Option (List ℕ)) → (port other : ℕ) → State
with_host None port other = listed port other
with_host (Some host) port other = hosted host port other

pub none_with_host : (host : Option (List ℕ)) (port other : ℕ) → HoldsNone (with_host host port other)
none_with_host None port other t = refl
none_with_host (Some host) port other t = refl

abbrev pub server_value : (host : List ℕ) → (port other : ℕ) → Val
server_value host port other = product (first (text host) (first (ports_value port other) no_vals))

-- it is this server, whose host is there
abbrev pub IsServer : (host : Option (List ℕ)) → (port other : ℕ) → Val → Type 0
IsServer (Some host) port other v = v ≡ server_value host port other
IsServer None port other v = ⊥

-- memory ran out, or the host is missed at the root
abbrev pub IsNoServer : (host : Option (List ℕ)) → ReflectError → Type 0
IsNoServer (Some host) error = error.kind ≡ ReflectErrorKind.OutOfMemory
IsNoServer None error =
    (error.kind ≡ ReflectErrorKind.OutOfMemory)
    ⊎ ((error.kind ≡ ReflectErrorKind.UninitializedField host_field) × (error.path ≡ []))

one_value : (outcome : Result Val ReflectErrorKind) (v w : Val) → outcome ≡ Ok v → outcome ≡ Ok w → v ≡ w
one_value outcome v w one other = cc

one_kind : (outcome : Result Val ReflectErrorKind) (k l : ReflectErrorKind) → outcome ≡ Err k → outcome ≡ Err l → k ≡ l
one_kind outcome k l one other = cc

not_both : (outcome : Result Val ReflectErrorKind) (v : Val) (kind : ReflectErrorKind) → outcome ≡ Ok v → outcome ≡ Err kind → ⊥
not_both outcome v kind one other = cc

-- what `build` means is what it means at the known state
means_at : {H : Type 0} (hooks : Meanings) (before : Builder H) (at : State) (old now : List ℕ) → Stands at before old now
    → meaning_of_build hooks before ≡ build hooks server_table 3 at
means_at hooks before at old now stands =
    ap (λ (t : Table). build hooks t before.root before.state) stands.is.shapes
    ∙ ap (λ (r : ℕ). build hooks server_table r before.state) stands.is.root_is
    ∙ ap (λ (s : State). build hooks server_table 3 s) stands.is.state

module _ {H : Type 0} {hooks : Meanings} {before : Builder H} {old now new : List ℕ} (port other : ℕ) where
  pub is_server : (host : Option (List ℕ)) (built : BuiltValue) → Stands (with_host host port other) before old now
      → IsBuild hooks before (Ok built) now new → IsServer host port other built.value
  is_server (Some host) built stands owed =
      one_value _ built.value (server_value host port other) owed.built.0 (means_at hooks before _ old now stands ∙ builds hooks host port other)
  is_server None built stands owed =
      not_both _ built.value (ReflectErrorKind.UninitializedField host_field) owed.built.0 (means_at hooks before _ old now stands ∙ misses_host hooks port other)

  pub is_no_server : (host : Option (List ℕ)) (error : ReflectError) → Stands (with_host host port other) before old now
      → IsBuild hooks before (Err error) now new → IsNoServer host error
  is_no_server (Some host) error stands owed = go owed.built
    where
      go : (error.kind ≡ ReflectErrorKind.OutOfMemory) ⊎ (meaning_of_build hooks before ≡ Err error.kind)
          → error.kind ≡ ReflectErrorKind.OutOfMemory
      go (inl memory) = memory
      go (inr is) = absurd (not_both _ (server_value host port other) error.kind (means_at hooks before _ old now stands ∙ builds hooks host port other) is)
  is_no_server None error stands owed = go owed.built
    where
      go : (error.kind ≡ ReflectErrorKind.OutOfMemory) ⊎ (meaning_of_build hooks before ≡ Err error.kind) → IsNoServer None error
      go (inl memory) = inl memory
      go (inr is) =
          inr (
            one_kind _ error.kind (ReflectErrorKind.UninitializedField host_field) is (means_at hooks before _ old now stands ∙ misses_host hooks port other),
            owed.path ∙ ap path_of stands.is.state,
          )

  pub build_releases_none : (host : Option (List ℕ)) (result : Result BuiltValue ReflectError) → Stands (with_host host port other) before old now
      → IsBuild hooks before result now new → new ≡ old
  build_releases_none host result stands owed =
      stays _ _ _ _ owed.tokens (none_held (none_with_host host port other) stands) ∙ stands.ledger

-- no token is in a server
pub server_without_tokens : (host : Option (List ℕ)) (port other : ℕ) (v w : Val) → IsServer host port other v → w ≡ v → (t : ℕ) → occurs w t ≡ 0
server_without_tokens (Some host) port other v w is same t = ap (λ (u : Val). occurs u t) (same ∙ is)
server_without_tokens None port other v w is same t = absurd is

pub nothing_rose : (held : ℕ → ℕ) (before after : List ℕ) → RoseBy held before after → ((t : ℕ) → held t ≡ 0) → after ≡ before
nothing_rose held before after rose none = ext_get_or 0 after before rose.same_length (λ t _. omega (arith, rose.each t, none t))

-- The server read back

two_ports : (ports : List ℕ) (port other : ℕ) → vals_shown nat ports ≡ first (nat port) (first (nat other) no_vals) → ports ≡ port ∷ other ∷ []
two_ports [] port other e = cc
two_ports (x ∷ []) port other e = cc
two_ports (x ∷ y ∷ []) port other e = cc
two_ports (x ∷ y ∷ z ∷ more) port other e = cc

-- its host and its ports are those that were given
pub told : (host : Option (List ℕ)) (port other : ℕ) (v w : Val) (own_host : List ℕ) (ports : List ℕ) → IsServer host port other v → w ≡ v
    → product (first (text own_host) (first (list_of (vals_shown nat ports)) no_vals)) ≡ w
    → (host ≡ Some own_host) × (ports ≡ port ∷ other ∷ [])
told (Some host) port other v w own_host ports is same shown =
    let all : product (first (text own_host) (first (list_of (vals_shown nat ports)) no_vals)) ≡ server_value host port other = shown ∙ same ∙ is in
    (cc, two_ports ports port other cc)
told None port other v w own_host ports is same shown = absurd is

-- what fits the server's shape is a server
abbrev pub server_takes : Val → Bool
server_takes =
    product_takes (first_takes (scalar_takes ScalarKind.String) (first_takes (list_takes (scalar_takes ScalarKind.U16)) none_left))

taken : (host : List ℕ) (port other : ℕ) → fits server_table 3 (server_value host port other) ≡ server_takes (server_value host port other)
taken host port other = refl

-- so that only memory lacks where it isn't read back
pub reading_lacks_memory : {H : Type 0} (before : Builder H) (at : State) (old now : List ℕ) (host : Option (List ℕ)) (port other : ℕ) (v w : Val) (fault : FacetFault)
    → Stands at before old now → fits before.shapes before.root v ≡ true
    → IsServer host port other v → w ≡ v → IsReadIf {A = ℕ} (server_takes w) (Err fault) → not_read fault ≡ Unbuilt.OutOfMemory
reading_lacks_memory before at old now host port other v w FacetFault.OutOfMemory stands fit is same read = refl
reading_lacks_memory before at old now (Some host) port other v w FacetFault.Mismatch stands fit is same read =
    let takes : server_takes w ≡ true
    = ap server_takes (same ∙ is) ∙ sym (taken host port other) ∙ ap (λ (u : Val). fits server_table 3 u) (sym is)
    ∙ ap (λ (r : ℕ). fits server_table r v) (sym stands.is.root_is) ∙ ap (λ (t : Table). fits t before.root v) (sym stands.is.shapes) ∙ fit in
    let never : true ≡ false = sym takes ∙ read in cc
reading_lacks_memory before at old now None port other v w FacetFault.Mismatch stands fit is same read = absurd is

-- Errors

-- the error is this one
error_is : {A : Type 0} (result : Result A Unbuilt) (unbuilt : Unbuilt) → IsErrAnd result (λ other. other ≡ unbuilt) → result ≡ Err unbuilt
error_is result unbuilt is = let error = err_from_is_err_and result is in error.1 ∙ ap (λ (u : Unbuilt). Err u) error.2

-- there was no memory for what would come of another error
pub lacks_memory : {A : Type 0} (result : Result A Unbuilt) (unbuilt : Unbuilt) → IsErrAnd result (λ other. other ≡ unbuilt)
    → unbuilt ≡ Unbuilt.OutOfMemory → result ≡ Err Unbuilt.OutOfMemory
lacks_memory result unbuilt is memory = error_is result unbuilt is ∙ ap (λ (u : Unbuilt). Err u) memory

refused_memory : (error : ReflectError) → error.kind ≡ ReflectErrorKind.OutOfMemory → refused error ≡ Unbuilt.OutOfMemory
refused_memory error memory = ap (λ (kind : ReflectErrorKind). refused_for kind error) memory

-- none for a call of the builder
pub call_lacks_memory : {A : Type 0} (result : Result A Unbuilt) (error : ReflectError) → IsErrAnd result (λ other. other ≡ refused error)
    → error.kind ≡ ReflectErrorKind.OutOfMemory → result ≡ Err Unbuilt.OutOfMemory
call_lacks_memory result error is memory = lacks_memory result (refused error) is (refused_memory error memory)

module _ {A S : Type 0} (host : Option S) (bytes : S → List ℕ) (error : ReflectError) (result : Result A Unbuilt) (is : IsErrAnd result (λ other. other ≡ refused error)) (no_server : IsNoServer (option_map bytes host) error) where
  -- a server with a host lacks memory alone
  pub host_there : IsSome host → result ≡ Err Unbuilt.OutOfMemory
  host_there there = call_lacks_memory result error is (memory host there no_server)
    where
      memory : (given : Option S) → IsSome given → IsNoServer (option_map bytes given) error → error.kind ≡ ReflectErrorKind.OutOfMemory
      memory (Some host) there no_server = no_server
      memory None there no_server = cc

  -- and of one without it is told that the host is missed
  pub host_missed : IsNone host → IfErr result MissesHost
  host_missed none = missed host none no_server
    where
      told_so : (error.kind ≡ ReflectErrorKind.OutOfMemory)
          ⊎ ((error.kind ≡ ReflectErrorKind.UninitializedField host_field) × (error.path ≡ []))
          → IfErr result MissesHost
      told_so (inl memory) = rw (call_lacks_memory result error is memory) tt
      told_so (inr missed) =
          let other : refused error ≡ Unbuilt.Refused error = ap (λ (kind : ReflectErrorKind). refused_for kind error) missed.0 in
          rw (error_is result (refused error) is, other) missed

      missed : (given : Option S) → IsNone given → IsNoServer (option_map bytes given) error → IfErr result MissesHost
      missed (Some host) none no_server = cc
      missed None none no_server = told_so no_server
