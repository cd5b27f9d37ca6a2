-- Setting a field to its default: what it means, and what it is refused for.
use Rattle.std.proofs.Common.{◌≡◌, ◌≢◌, ℕ, true, [], length, Option, Some, None, Result, Ok, Err, nat_lt, slice_get, inl, inr, refl, sym, ◌∙◌, ap}
use Rattle.std.proofs.lemmas.Bool.{lt-ltb}
use Rattle.fr_work.specs.Common.{Call, Change, ComesTo, Def, Describes, Field, IsChecked, IsRefused, Meanings, Move, Opening, Operation, ReflectErrorKind, Sees, ShapeId, Site, State, Table, Tree, Val, Value, VariantDef, at_shape, begun, cursor_tree, def_of, field_default, field_in, field_refusal, named_refusal, operation_failed, preset_of, selected, shape_at, step, tokens, view}
use Rattle.fr_shape.specs.declared.shape.DefaultSource.{DefaultSource}
use Rattle.fr_shape.specs.Look.{field_of_variant}
use Rattle.fr_model.specs.Step.{default_by_mark, default_or, puts_child, puts_child_default, set_nth_field_to_default}
use Rattle.fr_refusals.specs.FieldDefaults.{default_in, default_of}
use Rattle.fr_model.proofs.Templates.{field_default_template}
use Rattle.fr_work.proofs.BeginLaws.{describes_here}
use Rattle.fr_work.proofs.DecidingLaws.{remains}
use Rattle.fr_moves.specs.FitLaws.{is_there}
use Rattle.fr_work.proofs.ChildrenByLooks.{begun_named}
use Rattle.fr_moves.specs.LookLaws.{AsBegun}
use Rattle.fr_work.proofs.PutLaws.{admits}
use Rattle.fr_work.proofs.SeenLaws.{seen_by}

-- the field has a default, and may be entered
pub record HasDefault (table : Table) (s : ℕ) (tree : Tree) (i : ℕ) (v : Val) : Type 0 where
  pub field : Field
  pub named : named_refusal (def_of table s) tree ≡ None
  pub there : field_in (def_of table s) (selected tree) i ≡ Some field
  pub default : field_default table field ≡ Ok v

pub has_default : (table : Table) (s : ℕ) (tree : Tree) (i : ℕ) (v : Val) → default_in table s tree i ≡ Ok v
    → HasDefault table s tree i v
has_default table s tree i v e = by_name (named_refusal (def_of table s) tree) refl
  where
    by_field : named_refusal (def_of table s) tree ≡ None → (found : Option Field)
        → field_in (def_of table s) (selected tree) i ≡ found → HasDefault table s tree i v
    by_field named (Some field) there = record { field = field; named = named; there = there; default = rw (named, there) at e }
    by_field named None there = let no : Err _ ≡ Ok v = rw (named, there) at e in cc

    by_name : (refused : Option Operation) → named_refusal (def_of table s) tree ≡ refused → HasDefault table s tree i v
    by_name (Some operation) named = let no : Err _ ≡ Ok v = rw named at e in cc
    by_name None named = by_field named (field_in (def_of table s) (selected tree) i) refl

-- such a field may be entered
enterable : (def : Def) (tree : Tree) (i : ℕ) (field : Field) (chosen : Option ℕ) → selected tree ≡ chosen
    → field_in def chosen i ≡ Some field → field_refusal def tree i ≡ None
enterable (Def.Struct struct) tree i field None is at =
    let test : nat_lt i (length struct.fields) ≡ true = lt-ltb i (length struct.fields) (is_there struct.fields i at) in
    rw test refl
enterable (Def.Struct struct) tree i field (Some k) is at = cc
enterable (Def.Enum enumeration) tree i field None is at = cc
enterable (Def.Enum enumeration) tree i field (Some k) is at = go (slice_get enumeration.variants k) refl at
  where
    go : (found : Option VariantDef) → slice_get enumeration.variants k ≡ found → field_of_variant found i ≡ Some field
        → field_refusal (Def.Enum enumeration) tree i ≡ None
    go (Some variant) there at =
        let test : nat_lt i (length variant.fields) ≡ true
        = lt-ltb i (length variant.fields) (is_there variant.fields i at) in
        rw (is, there, test) refl
    go None there at = cc
enterable _ tree i field chosen is at = cc

pub default_admitted : (table : Table) (s : ℕ) (tree : Tree) (i : ℕ) (v : Val) → default_in table s tree i ≡ Ok v
    → field_refusal (def_of table s) tree i ≡ None
default_admitted table s tree i v e =
    let has = has_default table s tree i v e in
    enterable (def_of table s) tree i has.field (selected tree) refl has.there

-- a default holds no token
pub default_empty : (table : Table) (s : ℕ) (tree : Tree) (i : ℕ) (v : Val) → IsChecked table → default_in table s tree i ≡ Ok v
    → tokens v ≡ []
default_empty table s tree i v checked e =
    let has = has_default table s tree i v e in
    (field_default_template table s (selected tree) i has.field v checked has.there has.default).no_tokens

-- the call puts the default, or is refused as there is none
pub default_means : (table : Table) (s : ℕ) (state : State) (i : ℕ)
    → set_nth_field_to_default table s state i ≡ puts_child_default table s state i (default_in table s (cursor_tree state) i)
default_means table s state i = by_name (named_refusal (def_of table s) (cursor_tree state)) refl
  where
    by_field : named_refusal (def_of table s) (cursor_tree state) ≡ None → (found : Option Field)
        → field_in (def_of table s) (selected (cursor_tree state)) i ≡ found
        → set_nth_field_to_default table s state i ≡ puts_child_default table s state i (default_in table s (cursor_tree state) i)
    by_field named (Some field) there = rw (named, there) refl
    by_field named None there = rw (named, there) refl

    by_name : (refused : Option Operation) → named_refusal (def_of table s) (cursor_tree state) ≡ refused
        → set_nth_field_to_default table s state i ≡ puts_child_default table s state i (default_in table s (cursor_tree state) i)
    by_name (Some operation) named = rw named refl
    by_name None named = by_field named (field_in (def_of table s) (selected (cursor_tree state)) i) refl

-- as the site sees it

begun_default : (i : ℕ) (table : Table) (s : ℕ) → AsBegun (λ tree. default_in table s tree i)
begun_default i table s tracker ts =
    ap (λ (refused : Option Operation). default_of table s (at_shape s refused)
    (field_in (def_of table s) (selected (begun tracker ts)) i)) (begun_named (def_of table s) tracker ts)

default_seen : {site : Site} {table : Table} {shape : ShapeId} {seen : Tree} → Sees site table shape seen → (i : ℕ)
    → default_in table shape.0 seen i ≡ default_in site.shapes (shape_at site) (cursor_tree site.state) i
default_seen at i = seen_by at (λ table s tree. default_in table s tree i) (begun_default i)

-- a refusal is named, and never that memory was wanting

or_named : (preset : Option Val) (other kind : ReflectErrorKind) → other ≢ ReflectErrorKind.OutOfMemory
    → default_or preset other ≡ Err kind → kind ≢ ReflectErrorKind.OutOfMemory
or_named (Some v) other kind named e out = cc
or_named None other kind named e out = let same : other ≡ kind = cc in named (same ∙ out)

mark_named : (table : Table) (shape : ShapeId) (mark : Option DefaultSource) (kind : ReflectErrorKind)
    → default_by_mark table shape mark ≡ Err kind → kind ≢ ReflectErrorKind.OutOfMemory
mark_named table shape (Some (DefaultSource.Custom v)) kind e out = cc
mark_named table shape (Some DefaultSource.FromTrait) kind e out =
    or_named (preset_of table shape.0) (operation_failed shape.0 Operation.NoDefault) kind (λ same. cc) e out
mark_named table shape None kind e out =
    or_named (preset_of table shape.0) (ReflectErrorKind.DefaultAttrButNoDefaultImpl shape) kind (λ same. cc) e out

default_named : (table : Table) (s : ℕ) (refused : Option Operation) (field : Option Field) (kind : ReflectErrorKind)
    → default_of table s (at_shape s refused) field ≡ Err kind → kind ≢ ReflectErrorKind.OutOfMemory
default_named table s (Some operation) field kind e out = cc
default_named table s None (Some field) kind e out = mark_named table field.shape field.default kind e out
default_named table s None None kind e out = cc

-- What the call comes to, by what the site sees.
module _ {site : Site} {table : Table} {shape : ShapeId} {seen : Tree} (at : Sees site table shape seen) (i : ℕ) where
  meant_so : (made : Result Val ReflectErrorKind) → default_in table shape.0 seen i ≡ made → (hooks : Meanings)
      → step hooks site.shapes site.root site.state (Call.SetNthFieldToDefault i)
      ≡ puts_child_default site.shapes (shape_at site) site.state i made
  meant_so made is hooks =
      default_means site.shapes (shape_at site) site.state i
      ∙ ap (puts_child_default site.shapes (shape_at site) site.state i) (sym (default_seen at i) ∙ is)

  pub default_refused : (kind : ReflectErrorKind) → default_in table shape.0 seen i ≡ Err kind
      → IsRefused site (Call.SetNthFieldToDefault i) kind
  default_refused kind is =
      inl (
        default_named table shape.0 (named_refusal (def_of table shape.0) seen)
            (field_in (def_of table shape.0) (selected seen) i) kind is,
        meant_so (Err kind) is,
      )

  module _ (checked : IsChecked site.shapes) (template : Val) (is : default_in table shape.0 seen i ≡ Ok template) where
    here : default_in site.shapes (shape_at site) (cursor_tree site.state) i ≡ Ok template
    here = sym (default_seen at i) ∙ is

    pub default_empty_here : tokens template ≡ []
    default_empty_here = default_empty site.shapes (shape_at site) (cursor_tree site.state) i template checked here

    pub default_put : (opening : Opening) → Describes table shape.0 seen opening → (value : Value) → view value ≡ template
        → ComesTo site (Call.SetNthFieldToDefault i) (Move.Stay (Change.PutChild i opening value))
    default_put opening says value same =
        remains site (Call.SetNthFieldToDefault i) (Change.PutChild i opening value) refl (λ t. refl) (
          describes_here at opening says,
          default_admitted site.shapes (shape_at site) (cursor_tree site.state) i template here,
          ap tokens same ∙ default_empty_here,
        ) (λ hooks.
        meant_so (Ok template) is hooks ∙ ap (λ (v : Val). Ok (puts_child site.shapes (shape_at site) site.state i v)) (sym same))

    -- where there is no memory for it
    pub default_wanted : IsRefused site (Call.SetNthFieldToDefault i) ReflectErrorKind.OutOfMemory
    default_wanted = inr (refl, λ hooks. admits (meant_so (Ok template) is hooks))
