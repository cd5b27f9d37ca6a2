-- Putting a value or a default at a place: what it comes to, and what it is refused for.
use Rattle.std.proofs.Common.{◌≡◌, ℕ, Bool, true, false, ◌&&◌, Option, Some, None, Result, Ok, Err, IsOk, inl, inr, nat_eq, refl, sym, ◌∙◌, ap}
use Rattle.std.proofs.lemmas.Bool.{eqb-true}
use Rattle.fr_work.specs.Common.{Call, Change, ComesTo, Def, IsChecked, IsRefused, IsUnconverted, Meanings, Move, Operation, ReflectErrorKind, ScalarKind, Sees, ShapeId, Site, Table, Tree, Val, Value, converted, converts_at, copies_to_convert, def_of, fits, is_dynamic, occurs, operation_failed, preset_of, settled, shape_at, step, takes_shape, unit, view}
use Rattle.fr_shape.specs.Fits.{keys_once}
use Rattle.fr_shape.specs.Val.{Dynamic, dyn, text}
use Rattle.fr_model.specs.Step.{is_str, is_owned_string, puts, puts_default, puts_dynamic}
use Rattle.fr_refusals.specs.SettingDynamic.{copies_at}
use Rattle.fr_values.proofs.MadeDynamic.{settled_plain}
use Rattle.fr_values.proofs.ConvertedLaws.{converted_once}
use Rattle.fr_model.proofs.Templates.{IsTemplate, preset_template, template_holds}
use Rattle.fr_work.proofs.DecidingLaws.{remains}
use Rattle.fr_moves.specs.FitLaws.{both_true, fits_in}
use Rattle.fr_work.proofs.SeenLaws.{seen_by, shape_of_number, shape_seen}
use Rattle.fr_moves.specs.SetLaws.{set_is}

-- what comes to a state is no refusal
pub admits : {A E : Type 0} {made : Result A E} {a : A} → made ≡ Ok a → IsOk made
admits {A} {E} {made} {a} e = rw e refl

-- one that it converts takes memory only where it is copied
pub only_copies : (table : Table) (s given : ℕ) → converts_at table s given ≡ true → copies_at table s given ≡ false
    → copies_to_convert (def_of table given) ≡ false
only_copies table s given as_other none = rw as_other at none

-- What a place takes fits it.

str_is : (def : Def) → is_str def ≡ true → def ≡ Def.Str
str_is Def.Str h = refl
str_is _ h = cc

string_is : (def : Def) → is_owned_string def ≡ true → def ≡ Def.Scalar ScalarKind.String
string_is (Def.Scalar ScalarKind.String) h = refl
string_is (Def.Scalar _) h = cc
string_is _ h = cc

-- an owned text fits a `str`
text_fits : (table : Table) (s given : ℕ) (v : Val) → settled table s ≡ Def.Str
    → settled table given ≡ Def.Scalar ScalarKind.String → fits table given v ≡ true → fits table s v ≡ true
text_fits table s given (text t) is from fit = rw is refl
text_fits table s given unit is from fit = cc
text_fits table s given _ is from fit = let no = rw from at fit in cc

taken_fits : (table : Table) (s given : ℕ) (v : Val) → takes_shape table s given ≡ true → fits table given v ≡ true
    → fits table s v ≡ true
taken_fits table s given v takes fit = go (nat_eq s given) refl
  where
    texts : is_str (def_of table s) && is_owned_string (def_of table given) ≡ true → fits table s v ≡ true
    texts both =
        let are = both_true (is_str (def_of table s)) (is_owned_string (def_of table given)) both in
        text_fits table s given v (settled_plain table s Def.Str (str_is (def_of table s) are.0) (λ other. cc))
        (settled_plain table given (Def.Scalar ScalarKind.String) (string_is (def_of table given) are.1) (λ other. cc)) fit

    go : (b : Bool) → nat_eq s given ≡ b → fits table s v ≡ true
    go true e = ap (λ (n : ℕ). fits table n v) (eqb-true s given e) ∙ fit
    go false e = texts (rw e at takes)

-- A dynamic value fits a dynamic place, where no object in it has a key twice.

dynamic_is : (def : Def) → is_dynamic def ≡ true → def ≡ Def.Dynamic
dynamic_is Def.Dynamic h = refl
dynamic_is _ h = cc

dynamic_fits : (table : Table) (s : ℕ) (d : Dynamic) → is_dynamic (def_of table s) ≡ true → keys_once d ≡ true
    → fits table s (dyn d) ≡ true
dynamic_fits table s d is once = rw (settled_plain table s Def.Dynamic (dynamic_is (def_of table s) is) (λ other. cc)) once

-- What `set` comes to, by what the site sees: its table, the place's shape, and that of a value.

module _ {site : Site} {table : Table} {shape : ShapeId} {seen : Tree} (at : Sees site table shape seen) (given n : ℕ)
    (given_is : given ≡ n) where
  pub converts_seen : converts_at table shape.0 given ≡ converts_at site.shapes (shape_at site) n
  converts_seen =
      seen_by at (λ table s tree. converts_at table s given) (λ table s tracker ts. refl)
      ∙ ap (converts_at site.shapes (shape_at site)) given_is

  pub takes_seen : takes_shape table shape.0 given ≡ takes_shape site.shapes (shape_at site) n
  takes_seen =
      seen_by at (λ table s tree. takes_shape table s given) (λ table s tracker ts. refl)
      ∙ ap (takes_shape site.shapes (shape_at site)) given_is

  pub converted_seen : (plain v : Val) → plain ≡ v → converted table shape.0 (def_of table given) plain
      ≡ converted site.shapes (shape_at site) (def_of site.shapes n) v
  converted_seen plain v value_is =
      seen_by at (λ table s tree. converted table s (def_of table given) plain) (λ table s tracker ts. refl)
      ∙ ap (λ (m : ℕ). converted site.shapes (shape_at site) (def_of site.shapes m) plain) given_is
      ∙ ap (converted site.shapes (shape_at site) (def_of site.shapes n)) value_is

module _ (site : Site) (n : ℕ) (v : Val) where
  module _ (as_it_is : converts_at site.shapes (shape_at site) n ≡ false) where
    -- the value is put as it is
    pub taken : (value : Value) → view value ≡ v → fits site.shapes n v ≡ true
        → takes_shape site.shapes (shape_at site) n ≡ true → ComesTo site (Call.Set n v) (Move.Stay (Change.Put value))
    taken value is fit takes = record {
      fitting = (fits_in site.shapes n v fit, fit);
      same_tokens = λ t. ap (λ (w : Val). occurs w t) (sym is);
      may = ap (fits site.shapes (shape_at site)) is ∙ taken_fits site.shapes (shape_at site) n v takes fit;
      late = λ late. cc;
      means = λ hooks. set_is site.shapes (shape_at site) n site.state v
          ∙ rw (as_it_is, takes) (ap (λ (w : Val). Ok (puts site.state w)) (sym is));
    }

    pub not_taken : (expected given : ShapeId) → expected.0 ≡ shape_at site → given.0 ≡ n
        → takes_shape site.shapes (shape_at site) n ≡ false
        → IsRefused site (Call.Set n v) (ReflectErrorKind.WrongShape expected given)
    not_taken expected given same of_given takes =
        inl (
          (λ out. cc),
          λ hooks. set_is site.shapes (shape_at site) n site.state v ∙ rw (as_it_is, takes)
              (ap (λ (s : ShapeId). Err (ReflectErrorKind.WrongShape s (record { 0 = n }))) (shape_of_number site expected same)
              ∙ ap (λ (m : ℕ). Err (ReflectErrorKind.WrongShape expected (record { 0 = m }))) (sym of_given)),
        )

  module _ (as_other : converts_at site.shapes (shape_at site) n ≡ true) where
    means_so : (hooks : Meanings) → step hooks site.shapes site.root site.state (Call.Set n v)
        ≡ puts_dynamic site.state n (converted site.shapes (shape_at site) (def_of site.shapes n) v)
    means_so hooks = set_is site.shapes (shape_at site) n site.state v ∙ rw as_other refl

    -- what the place makes of it is put
    pub converts_to : (value : Value) (d : Dynamic) → view value ≡ dyn d → fits site.shapes n v ≡ true
        → ((t : ℕ) → occurs v t ≡ 0) → converted site.shapes (shape_at site) (def_of site.shapes n) v ≡ Ok d
        → ComesTo site (Call.Set n v) (Move.Stay (Change.Put value))
    converts_to value d is fit none made = record {
      fitting = (fits_in site.shapes n v fit, fit);
      same_tokens = λ t. none t ∙ sym (ap (λ (w : Val). occurs w t) is);
      may =
          ap (fits site.shapes (shape_at site)) is
          ∙ dynamic_fits site.shapes (shape_at site) d (both_true (is_dynamic (def_of site.shapes (shape_at site))) _ as_other).0
          (converted_once site.shapes (shape_at site) (def_of site.shapes n) v d made);
      late = λ late. cc;
      means = λ hooks. means_so hooks ∙ ap (puts_dynamic site.state n) made ∙ ap (λ (w : Val). Ok (puts site.state w)) (sym is);
    }

    pub unconverted : (kind : ReflectErrorKind)
        → IsUnconverted (converted site.shapes (shape_at site) (def_of site.shapes n) v) n kind
        → IsRefused site (Call.Set n v) kind
    unconverted kind is = go (converted site.shapes (shape_at site) (def_of site.shapes n) v) refl is
      where
        go : (made : Result Dynamic Operation) → converted site.shapes (shape_at site) (def_of site.shapes n) v ≡ made
            → IsUnconverted made n kind → IsRefused site (Call.Set n v) kind
        go (Ok d) e out = inr (out, λ hooks. admits (means_so hooks ∙ ap (puts_dynamic site.state n) e))
        go (Err operation) e refused =
            inl (
              (λ out. let no : operation_failed n operation ≡ ReflectErrorKind.OutOfMemory = sym refused ∙ out in cc),
              λ hooks. means_so hooks ∙ ap (puts_dynamic site.state n) e ∙ ap (λ (k : ReflectErrorKind). Err k) (sym refused),
            )

-- What `set_default` comes to.
module _ {site : Site} {table : Table} {shape : ShapeId} {seen : Tree} (at : Sees site table shape seen) where
  preset_is : (preset : Option Val) → preset ≡ preset_of table shape.0 → preset_of site.shapes (shape_at site) ≡ preset
  preset_is preset is = sym (is ∙ seen_by at (λ table s tree. preset_of table s) (λ table s tracker ts. refl))

  pub default_missing : None ≡ preset_of table shape.0
      → IsRefused site Call.SetDefault (ReflectErrorKind.OperationFailed shape Operation.NoDefault)
  default_missing is =
      inl (
        (λ out. cc),
        λ hooks. ap (puts_default (shape_at site) site.state) (preset_is None is)
            ∙ ap (λ (s : ShapeId). Err (ReflectErrorKind.OperationFailed s Operation.NoDefault)) (shape_seen at),
      )

  module _ (checked : IsChecked site.shapes) (template : Val) (is : Some template ≡ preset_of table shape.0) where
    pub default_template : IsTemplate site.shapes (shape_at site) template
    default_template = preset_template site.shapes (shape_at site) template checked (preset_is (Some template) is)

    pub default_copied : (value : Value) → view value ≡ template → ComesTo site Call.SetDefault (Move.Stay (Change.Put value))
    default_copied value same =
        remains site Call.SetDefault (Change.Put value) refl
        (λ t. ap (λ (v : Val). occurs v t) same ∙ template_holds site.shapes (shape_at site) template t default_template)
        (ap (fits site.shapes (shape_at site)) same ∙ default_template.fit) (λ hooks.
        ap (puts_default (shape_at site) site.state) (preset_is (Some template) is)
        ∙ ap (λ (v : Val). Ok (puts site.state v)) (sym same))

    -- where there is no memory for the copy
    pub copy_wanted : IsRefused site Call.SetDefault ReflectErrorKind.OutOfMemory
    copy_wanted = inr (refl, λ hooks. admits (ap (puts_default (shape_at site) site.state) (preset_is (Some template) is)))
