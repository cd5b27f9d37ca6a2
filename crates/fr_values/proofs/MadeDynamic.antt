-- Values that fit their shape, as they are converted: numbers are in their kind's range, and lists of bytes have octets.
use Rattle.std.proofs.Common.{◌≡◌, ℕ, ◌≤◌, true, List, [], ◌∷◌, ◌++◌, length, drop, Option, Some, refl, sym, ◌∙◌, ap, subst}
use Rattle.std.proofs.lemmas.List.{at_drop_all, append-nil}
use Rattle.fr_values.specs.Common.{Def, IsUnconverted, ReflectErrorKind, RoseBy, RoseBy_same, ScalarKind, ShapeId, Table, Val, Vals, Value, are_octets, bytes_of, def_of, fits, from_bytes, is_byte, list_of, nat, no_vals, occurs, or_not_dynamic, settled, tokens, unit, vals_view, view}
use Rattle.fr_shape.specs.declared.value.Value
use Rattle.fr_shape.specs.declared.value.Value.{fold-roll-Value}
use Rattle.fr_shape.specs.declared.value.Value.TheVariants.{rolls-List}
use Rattle.fr_shape.specs.declared.value.Value.TheOpen.{Value-F}
use Rattle.fr_shape.specs.Fits.{all_fit}
use Rattle.fr_shape.specs.Look.{behind}
use Rattle.fr_shape.specs.TokenLaws.{nothing, RoseBy_nothing, occurs_times}
use Rattle.fr_shape.specs.Tokens.{times}
use Rattle.fr_shape.specs.Val.{int, first}
use Rattle.fr_shape.specs.View.{view_step}
use Rattle.std.proofs.lemmas.Bool.{and_parts}
use Rattle.fr_values.specs.ConversionNeeds.{has_octets, in_range, is_octet}

-- past the end nothing follows the bytes so far
pub bytes_at_end : (items whole : List Value) (i : ℕ) (bytes : List ℕ) → length items ≤ i
    → ((rest : List ℕ) → bytes_of (vals_view (drop i items)) ≡ Some rest → bytes_of (vals_view whole) ≡ Some (bytes ++ rest))
    → bytes_of (vals_view whole) ≡ Some bytes
bytes_at_end items whole i bytes past follows =
    follows [] (at_drop_all (λ (left : List Value). bytes_of (vals_view left)) items i past) ∙ ap Some (append-nil bytes)

-- octets are bytes
octets_read : (vs : Vals) → are_octets vs ≡ true → (bytes : List ℕ) × (bytes_of vs ≡ Some bytes)
octets_read no_vals e = ([], refl)
octets_read (first (nat n) vs) e =
    let others = octets_read vs (and_parts (is_octet (nat n)) (are_octets vs) e).1 in
    (n ∷ others.0, rw others.1 refl)
octets_read (first _ vs) e = cc

-- the value of a list
list_value : (items : List Value) → view (Value.List items) ≡ list_of (vals_view items)
list_value items = ap view (sym (rolls-List items)) ∙ fold-roll-Value Val view_step (Value-F.List items)

-- so a copy of them can only want memory
pub octets_want_memory : (value : Value) (items : List Value) (given : ℕ) → value ≡ Value.List items
    → has_octets (view value) ≡ true → IsUnconverted (or_not_dynamic (from_bytes (view value))) given ReflectErrorKind.OutOfMemory
octets_want_memory value items given is octets =
    let shown : view value ≡ list_of (vals_view items) = ap view is ∙ list_value items in
    let known = octets_read (vals_view items) (subst (λ (v : Val). has_octets v ≡ true) shown octets) in
    rw shown (rw known.1 refl)

-- Definitions that stand for themselves

behind_plain : (def : Def) (inner : Option ShapeId) (rest : ℕ → Def) → (def ≡ Def.Other → ⊥) → behind def inner rest ≡ def
behind_plain Def.Other inner rest plain = absurd (plain refl)
behind_plain _ inner rest plain = refl

pub settled_plain : (table : Table) (s : ℕ) (def : Def) → def_of table s ≡ def → (def ≡ Def.Other → ⊥) → settled table s ≡ def
settled_plain [] s def e plain = absurd (plain (sym e))
settled_plain (shape ∷ shapes) s def e plain = behind_plain (def_of (shape ∷ shapes) s) _ _ (λ other. plain (sym e ∙ other)) ∙ e

-- a number that fits a kind is in its range
pub fits_in_range : (table : Table) (s : ℕ) (kind : ScalarKind) (v : Val) → def_of table s ≡ Def.Scalar kind
    → fits table s v ≡ true → in_range kind v ≡ true
fits_in_range table s kind (int z) e fit = rw (settled_plain table s (Def.Scalar kind) e (λ other. cc)) at fit
fits_in_range table s kind (nat n) e fit = rw (settled_plain table s (Def.Scalar kind) e (λ other. cc)) at fit
fits_in_range table s kind _ e fit = refl

byte_is : (def : Def) → is_byte def ≡ true → def ≡ Def.Scalar ScalarKind.U8
byte_is (Def.Scalar ScalarKind.U8) e = refl
byte_is _ e = cc

fits_octet : (table : Table) (s : ℕ) (v : Val) → settled table s ≡ Def.Scalar ScalarKind.U8 → fits table s v ≡ true
    → is_octet v ≡ true
fits_octet table s (nat n) e fit = rw e at fit
fits_octet table s unit e fit = cc
fits_octet table s _ e fit =
    let never = rw e at fit in cc

fit_octets : (table : Table) (s : ℕ) (vs : Vals) → settled table s ≡ Def.Scalar ScalarKind.U8
    → all_fit table s vs ≡ true → are_octets vs ≡ true
fit_octets table s no_vals e fit = refl
fit_octets table s (first v vs) e fit =
    let parts = and_parts (fits table s v) (all_fit table s vs) fit in
    rw (fits_octet table s v e parts.0) (fit_octets table s vs e parts.1)

-- a list that fits has octets where its item's shape is a byte
pub fits_octets : (table : Table) (s : ℕ) (item : ShapeId) (v : Val) → def_of table s ≡ Def.List item
    → fits table s v ≡ true → is_byte (def_of table item.0) ≡ true → has_octets v ≡ true
fits_octets table s item (list_of vs) e fit byte =
    let items : all_fit table item.0 vs ≡ true = rw (settled_plain table s (Def.List item) e (λ other. cc)) at fit in
    fit_octets table item.0 vs (settled_plain table item.0 (Def.Scalar ScalarKind.U8) (byte_is (def_of table item.0) byte) (λ other. cc)) items
fits_octets table s item _ e fit byte = refl

-- where no token is held, a ledger that stays has risen by all
pub none_released : (v : Val) (ledger : List ℕ) → tokens v ≡ [] → RoseBy (occurs v) ledger ledger
none_released v ledger none =
    RoseBy_same nothing (occurs v) ledger ledger
    (λ t. sym (occurs_times v t ∙ ap (λ (ts : List ℕ). times ts t) none)) (RoseBy_nothing ledger)
