use Rattle.std.proofs.Common.{◌≡◌, ℕ, ◌+◌, ◌<◌, Bool, true, false, List, ◌∷◌, length, get_or, drop, Option, Some, None, sym, ◌∙◌, ap, add-one}
use Rattle.std.specs.Prelude.{slice_get, if◌then◌else◌}
use Rattle.std.specs.Option.{option_map, option_and_then}
use Rattle.std.specs.Str.{bytes_eq}
use Rattle.std.proofs.lemmas.List.{at_drop_all, at_drop_more}
use Rattle.std.proofs.lemmas.Option.{slice_get-get_or}
use Rattle.fr_shape.specs.declared.shape.Def.{Def}
use Rattle.fr_shape.specs.declared.shape.Field.{Field}
use Rattle.fr_shape.specs.declared.shape.Shape.{Shape}
use Rattle.fr_shape.specs.declared.shape.StructDef.{StructDef}
use Rattle.fr_shape.specs.Look.{Table, def_or_other, field_in}
use Rattle.fr_shape.specs.Named.{field_named, first_declared}
use Rattle.fr_example.specs.Missing.{shape_below}
use Rattle.fr_example.proofs.missing.shape_below.Goals as goal

-- the field that was found is the one below
below_is : (table : Table) (shape : ℕ) (name : List ℕ) (found : Shape) (struct : StructDef) (o : Option ℕ) → Some found ≡ slice_get table shape
    → found.def ≡ Def.Struct struct → first_declared name 0 struct.fields ≡ o
    → shape_below table shape name ≡ option_map (λ (field : Field). field.shape.0) (option_and_then (field_in (Def.Struct struct) None) o)
below_is table shape name found struct o is def_is declared =
    ap (λ (d : Def). option_map (λ (field : Field). field.shape.0) (option_and_then (field_in d None) (field_named name d)))
    (ap def_or_other (sym is) ∙ def_is)
    ∙ ap (λ (p : Option ℕ). option_map (λ (field : Field). field.shape.0) (option_and_then (field_in (Def.Struct struct) None) p)) declared

-- one field more was looked at
declared_more : (name : List ℕ) (fields : List Field) (i : ℕ) (field : Field) (same : Bool) → i < length fields → field ≡ get_or fields i field
    → bytes_eq field.name name ≡ same → first_declared name 0 fields ≡ first_declared name i (drop i fields)
    → first_declared name 0 fields ≡ (if same then Some i else first_declared name (i + 1) (drop (i + 1) fields))
declared_more name fields i field same within is same_is so =
    so ∙ at_drop_more (first_declared name i) fields i field within
    ∙ ap (λ (f : Field). first_declared name i (f ∷ drop (i + 1) fields)) (sym is)
    ∙ ap (λ (n : ℕ). if bytes_eq field.name name then Some i else first_declared name n (drop (i + 1) fields)) (sym (add-one i))
    ∙ ap (λ (b : Bool). if b then Some i else first_declared name (i + 1) (drop (i + 1) fields)) same_is

pub returns-then-eq : goal.returns-then-eq
returns-then-eq c =
    let fields = c.as_slice-field-items.result.now in
    let field = c.field-item.result in
    let i = c.loop-field.field-index in
    let same : bytes_eq field.name c.args.name.now ≡ true
    = ap (λ (text : List ℕ). bytes_eq text c.args.name.now) (sym c.as_str.ensures.bytes) ∙ sym c.eq.ensures ∙ c.if-eq.true in
    let declared : first_declared c.args.name.now 0 fields ≡ Some i
    = declared_more c.args.name.now fields i field true c.loop-field-test.true c.field-item.is same c.loop-field.invariant in
    let here : slice_get fields i ≡ Some field
    = slice_get-get_or fields i field c.loop-field-test.true ∙ ap (λ (f : Field). Some f) (sym c.field-item.is) in
    sym (
    below_is c.args.table.now c.args.shape.0 c.args.name.now c.in_ok-described.field-0.now c.in-Struct.described (Some i)
    c.in_ok-described.ensures.value c.in-Struct.is
    (ap (first_declared c.args.name.now 0) (sym c.as_slice-field-items.ensures.items) ∙ declared)
    ∙ ap (λ (fs : List Field). option_map (λ (f : Field). f.shape.0) (slice_get fs i)) (sym c.as_slice-field-items.ensures.items)
    ∙ ap (option_map (λ (f : Field). f.shape.0)) here
    )

pub loop-field-preserved : goal.loop-field-preserved
loop-field-preserved c =
    let field = c.field-item.result in
    declared_more c.args.name.now c.as_slice-field-items.result.now c.loop-field.field-index field false c.loop-field-test.true
    c.field-item.is
    (ap (λ (text : List ℕ). bytes_eq text c.args.name.now) (sym c.as_str.ensures.bytes) ∙ sym c.eq.ensures ∙ c.if-eq.false)
    c.loop-field.invariant

pub returns : goal.returns
returns c =
    let fields = c.as_slice-field-items.result.now in
    sym (
    below_is c.args.table.now c.args.shape.0 c.args.name.now c.in_ok-described.field-0.now c.in-Struct.described None
    c.in_ok-described.ensures.value c.in-Struct.is
    (ap (first_declared c.args.name.now 0) (sym c.as_slice-field-items.ensures.items)
    ∙ c.loop-field.invariant
    ∙ at_drop_all (first_declared c.args.name.now c.loop-field.field-index) fields c.loop-field.field-index c.loop-field-test.false)
    )
