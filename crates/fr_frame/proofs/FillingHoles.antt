-- Filling the children that aren't there, one after the other.
use Rattle.std.proofs.Common.{◌≡◌, ℕ, zero, suc, ◌+◌, ◌≤◌, Bool, true, false, List, [], ◌∷◌, length, replicate, Option, Some, None, IsSome, IfSome, slice_get, set, refl, sym, ◌∙◌, ap, subst, arith}
use Rattle.std.proofs.lemmas.Bool.{and_parts}
use Rattle.std.proofs.lemmas.List.{length-replicate}
use Rattle.std.proofs.lemmas.List.Folds.{list_all-append}
use Rattle.std.specs.List.{list_all, flat_map}
use Rattle.fr_frame.specs.Common.{AreUnplaced, Body, Cell, Column, Def, Field, IsChecked, IsClosed, IsFull, IsFullAs, KeepGiven, KeepsTracker, ReflectErrorKind, Table, Tracker, Val, Value, VariantDef, absent, as_fields, begun_body, body_occurs, cell_occurs, cells_occur, child_count, def_of, defaulted, defaulted_by, defaulted_cell, defaulted_cells, defaulted_nth, defaulted_struct, deferred_column, entered_body, field_in, field_of_variant, fields_of_tracker, fill_of_field, first_asked, given, hole_takes, is_conversion_body, is_some, occurs, option_copied, option_map, option_or, placed, preset_of, strict_column, tokens, value_at, value_of_cell, values_of, whole_body}
use Rattle.std.specs.Borrow.{Bor}
use Rattle.std.specs.Prelude.{option_to_list}
use Rattle.fr_shape.specs.declared.shape.Shape.{Shape}
use Rattle.fr_shape.specs.declared.shape.DefaultSource.{DefaultSource}
use Rattle.fr_shape.specs.Checked.{is_template, default_is_template, fields_of, templates_fit}
use Rattle.fr_shape.specs.Fills.{by_deferred_rule, by_strict_rule, deferred_by_mark, has_default, preset_in, strict_by_mark, takes_deferred_default, takes_shape_default}
use Rattle.fr_shape.specs.Fits.{fits}
use Rattle.fr_shape.specs.Lists.{is_nil}
use Rattle.fr_shape.specs.Look.{def_or_other}
use Rattle.fr_shape.specs.Tokens.{times}
use Rattle.fr_shape.specs.TokenLaws.{occurs_times}
use Rattle.fr_shape.specs.Val.{none}
use Rattle.fr_model.specs.Places.{count_children, fill_by}
use Rattle.fr_frame.specs.Asking.{defaulted_first}
use Rattle.fr_frame.specs.Bodies.{IsUnplaced}
use Rattle.fr_frame.specs.Defaults.{taken}
use Rattle.fr_frame.specs.Filling.{child_value}
use Rattle.fr_frame.proofs.AskLaws.{both_there}
use Rattle.fr_frame.proofs.RulesOnChildren.{others_take}

-- Templates of a checked table hold no token.

-- the default of a field, where it has its own, is a template
abbrev is_own_template : Table → Field → Bool
is_own_template table field = default_is_template table field.shape.0 field.default

-- the value, if it is there, holds no token
abbrev pub IsLight : Option Val → Type 0
IsLight (Some v) = tokens v ≡ []
IsLight None = Unit {0}

nil_is : {X : Type 0} (xs : List X) → is_nil xs ≡ true → xs ≡ []
nil_is [] h = refl
nil_is (x ∷ xs) h = absurd (cc)

light_occurs : (v : Val) (t : ℕ) → tokens v ≡ [] → occurs v t ≡ 0
light_occurs v t e = occurs_times v t ∙ ap (λ (ts : List ℕ). times ts t) e

template_light : (table : Table) (s : ℕ) (v : Val) → is_template table s v ≡ true → tokens v ≡ []
template_light table s v h = nil_is (tokens v) (and_parts (fits table s v) (is_nil (tokens v)) h).1

pub preset_light : (table : Table) (s : ℕ) → IsChecked table → IsLight (preset_of table s)
preset_light table s checked = go (slice_get table s) (checked.templates s)
  where
    of_preset : (preset : Option Val) → list_all (is_template table s) (option_to_list preset) ≡ true → IsLight preset
    of_preset None h = tt
    of_preset (Some v) h = template_light table s v (and_parts (is_template table s v) true h).0

    go : (found : Option Shape) → ((shape : Shape) → found ≡ Some shape → templates_fit table s shape ≡ true)
        → IsLight (preset_in found)
    go None fit = tt
    go (Some shape) fit =
        of_preset shape.preset
        (and_parts (list_all (is_template table s) (option_to_list shape.preset))
        (list_all (is_own_template table) (fields_of shape.def)) (fit shape refl)).0

module _ (table : Table) (field : Field) (checked : IsChecked table) where
  strict_light : (mark : Option DefaultSource) (takes : Bool) → default_is_template table field.shape.0 mark ≡ true
      → IsLight (by_strict_rule table field (strict_by_mark mark takes))
  strict_light (Some (DefaultSource.Custom v)) takes own = template_light table field.shape.0 v own
  strict_light (Some DefaultSource.FromTrait) takes own = preset_light table field.shape.0 checked
  strict_light None true own = preset_light table field.shape.0 checked
  strict_light None false own = tt

  deferred_light : (mark : Option DefaultSource) (has takes : Bool) → default_is_template table field.shape.0 mark ≡ true
      → IsLight (by_deferred_rule table field (deferred_by_mark mark has takes))
  deferred_light (Some (DefaultSource.Custom v)) has takes own = template_light table field.shape.0 v own
  deferred_light (Some DefaultSource.FromTrait) true takes own = preset_light table field.shape.0 checked
  deferred_light (Some DefaultSource.FromTrait) false takes own = tt
  deferred_light None has true own = preset_light table field.shape.0 checked
  deferred_light None has false own = tt

  field_light : (column : Column) (s : ℕ) (of_variant : Bool) → is_own_template table field ≡ true
      → IsLight (fill_by column table s of_variant field)
  field_light strict_column s of_variant own = strict_light field.default (takes_shape_default table s of_variant field) own
  field_light deferred_column s of_variant own =
      deferred_light field.default (has_default table field.shape.0) (takes_deferred_default table s field) own

-- every field of a struct, and of every variant of an enum, is asked

module _ (p : Field → Bool) where
  all_at : (fields : List Field) (i : ℕ) → list_all p fields ≡ true → IfSome (slice_get fields i) (λ field. p field ≡ true)
  all_at [] i h = tt
  all_at (field ∷ fields) zero h = (and_parts (p field) (list_all p fields) h).0
  all_at (field ∷ fields) (suc i) h = all_at fields i (and_parts (p field) (list_all p fields) h).1

  abbrev fields_of_all : List VariantDef → List Field
  fields_of_all variants = flat_map (λ (v : VariantDef). v.fields) variants

  first_and_rest : (v : VariantDef) (variants : List VariantDef) → list_all p (fields_of_all (v ∷ variants)) ≡ true
      → (list_all p v.fields ≡ true) × (list_all p (fields_of_all variants) ≡ true)
  first_and_rest v variants h =
      and_parts (list_all p v.fields) (list_all p (fields_of_all variants))
      (sym (list_all-append p v.fields (fields_of_all variants)) ∙ h)

  of_variants : (variants : List VariantDef) (k i : ℕ) → list_all p (fields_of_all variants) ≡ true
      → IfSome (field_of_variant (slice_get variants k) i) (λ field. p field ≡ true)
  of_variants [] k i h = tt
  of_variants (v ∷ variants) zero i h = all_at v.fields i (first_and_rest v variants h).0
  of_variants (v ∷ variants) (suc k) i h = of_variants variants k i (first_and_rest v variants h).1

  field_asked : (def : Def) (selected : Option ℕ) (i : ℕ) → list_all p (fields_of def) ≡ true
      → IfSome (field_in def selected i) (λ field. p field ≡ true)
  field_asked (Def.Struct struct) None i h = all_at struct.fields i h
  field_asked (Def.Enum enumeration) (Some k) i h = of_variants enumeration.variants k i h
  field_asked _ selected i h = tt

-- what a child takes where it is a hole
pub takes_light : (column : Column) (table : Table) (s : ℕ) (tracker : Tracker) (i : ℕ) → IsChecked table
    → IsLight (hole_takes column table s tracker i)
takes_light column table s (as_fields selected) i checked = go (slice_get table s) (checked.templates s)
  where
    at_field : (found : Option Field) → IfSome found (λ field. is_own_template table field ≡ true)
        → IsLight (fill_of_field column table s (is_some selected) found)
    at_field None own = tt
    at_field (Some field) own = field_light table field checked column s (is_some selected) own

    go : (found : Option Shape) → ((shape : Shape) → found ≡ Some shape → templates_fit table s shape ≡ true)
        → IsLight (fill_of_field column table s (is_some selected) (field_in (def_or_other found) selected i))
    go None fit = tt
    go (Some shape) fit =
        at_field (field_in shape.def selected i) (field_asked (is_own_template table) shape.def selected i
        (and_parts (list_all (is_template table s) (option_to_list shape.preset))
        (list_all (is_own_template table) (fields_of shape.def)) (fit shape refl)).1)
takes_light column table s _ i checked = tt

-- Putting fills there, one child after the other.

-- a child that is there stays
pub nth_there : (fill : Option Val) (i : ℕ) (cs : List Cell) → IsSome (value_at cs i) → defaulted_nth fill i cs ≡ cs
nth_there fill i [] h = refl
nth_there fill zero (given w ∷ cs) h = refl
nth_there fill zero (c ∷ cs) h = absurd (cc)
nth_there fill (suc i) (c ∷ cs) h = ap (λ (ds : List Cell). c ∷ ds) (nth_there fill i cs h)

cell_nothing : (c : Cell) → defaulted_cell None c ≡ c
cell_nothing absent = refl
cell_nothing _ = refl

-- one that isn't there and takes nothing too
pub nth_nothing : (i : ℕ) (cs : List Cell) → defaulted_nth None i cs ≡ cs
nth_nothing i [] = refl
nth_nothing zero (c ∷ cs) = ap (λ (d : Cell). d ∷ cs) (cell_nothing c)
nth_nothing (suc i) (c ∷ cs) = ap (λ (ds : List Cell). c ∷ ds) (nth_nothing i cs)

-- and one that takes something holds that
pub nth_fill : (v : Val) (i : ℕ) (cs : List Cell) → value_at cs i ≡ None → AreUnplaced cs
    → set cs i (given v) ≡ defaulted_nth (Some v) i cs
nth_fill v i [] e closed = refl
nth_fill v zero (absent ∷ cs) e closed = refl
nth_fill v zero (given x ∷ cs) e closed = absurd (cc)
nth_fill v zero (placed n ∷ cs) e closed = absurd closed.0
nth_fill v (suc i) (c ∷ cs) e closed = ap (λ (ds : List Cell). c ∷ ds) (nth_fill v i cs e closed.1)

-- Children that are the same but for the fills that some took.

pub record IsAlike (old new : List Cell) : Type 0 where
  pub count : length new ≡ length old
  pub closed : AreUnplaced old → AreUnplaced new
  pub same_tokens : (t : ℕ) → cells_occur new t ≡ cells_occur old t
  pub kept : KeepGiven old new

alike_same : (cs : List Cell) → IsAlike cs cs
alike_same cs = record { count = refl; closed = λ h. h; same_tokens = λ t. refl; kept = keep cs }
  where
    keep : (cs : List Cell) → KeepGiven cs cs
    keep [] = tt
    keep (given v ∷ cs) = (refl, keep cs)
    keep (c ∷ cs) = keep cs

module _ {cs ds : List Cell} (so : IsAlike cs ds) where
  and_one : (c d : Cell) → (IsUnplaced c → IsUnplaced d) → ((t : ℕ) → cell_occurs d t ≡ cell_occurs c t)
      → KeepGiven (c ∷ cs) (d ∷ ds) → IsAlike (c ∷ cs) (d ∷ ds)
  and_one c d closed same_tokens kept = record {
    count = ap suc so.count;
    closed = λ h. (closed h.0, so.closed h.1);
    same_tokens = λ t. omega (arith, same_tokens t, so.same_tokens t);
    kept = kept;
  }

  alike_more : (fill : Option Val) (c : Cell) → IsLight fill → IsAlike (c ∷ cs) (defaulted_cell fill c ∷ ds)
  alike_more (Some v) absent light = and_one absent (given v) (λ h. tt) (λ t. light_occurs v t light) so.kept
  alike_more None absent light = and_one absent absent (λ h. h) (λ t. refl) so.kept
  alike_more fill (given v) light = and_one (given v) (given v) (λ h. h) (λ t. refl) (refl, so.kept)
  alike_more fill (placed n) light = and_one (placed n) (placed n) (λ h. h) (λ t. refl) so.kept

module _ (column : Column) (table : Table) (s : ℕ) (tracker : Tracker) where
  abbrev takes : ℕ → Option Val
  takes i = hole_takes column table s tracker i

  abbrev first : ℕ → ℕ → List Cell → List Cell
  first i n cs = defaulted_first column table s tracker i n cs

  abbrev all : ℕ → List Cell → List Cell
  all i cs = defaulted_cells column table s tracker i cs

  first_step : (i n m : ℕ) (cs : List Cell) → m ≡ i + n → defaulted_nth (takes m) n (first i n cs) ≡ first i (suc n) cs
  first_step i zero m [] e = refl
  first_step i zero m (c ∷ cs) e =
      let here : m ≡ i = omega arith in
      ap (λ (k : ℕ). defaulted_cell (takes k) c ∷ cs) here
  first_step i (suc n) m [] e = refl
  first_step i (suc n) m (c ∷ cs) e = ap (λ (ds : List Cell). defaulted_cell (takes i) c ∷ ds)
      (first_step (suc i) n m cs (omega arith))

  pub first_more : (n : ℕ) (cs : List Cell) → defaulted_nth (takes n) n (first 0 n cs) ≡ first 0 (n + 1) cs
  first_more n cs =
      let next : suc n ≡ n + 1 = omega arith in
      first_step 0 n n cs (omega arith) ∙ ap (λ (k : ℕ). first 0 k cs) next

  pub first_all : (i n : ℕ) (cs : List Cell) → length cs ≤ n → first i n cs ≡ all i cs
  first_all i zero [] h = refl
  first_all i (suc n) [] h = refl
  first_all i zero (c ∷ cs) h = absurd (omega arith)
  first_all i (suc n) (c ∷ cs) h = ap (λ (ds : List Cell). defaulted_cell (takes i) c ∷ ds) (first_all (suc i) n cs (omega arith))

  first_alike : IsChecked table → (i n : ℕ) (cs : List Cell) → IsAlike cs (first i n cs)
  first_alike checked i zero cs = alike_same cs
  first_alike checked i (suc n) [] = alike_same []
  first_alike checked i (suc n) (c ∷ cs) =
      alike_more (first_alike checked (suc i) n cs) (takes i) c (takes_light column table s tracker i checked)

  pub alike_at : IsChecked table → (n : ℕ) {cs ds : List Cell} → ds ≡ first 0 n cs → IsAlike cs ds
  alike_at checked n {cs} e = subst (IsAlike cs) (sym e) (first_alike checked 0 n cs)

  pub all_alike : IsChecked table → (i : ℕ) (cs : List Cell) → IsAlike cs (all i cs)
  all_alike checked i cs = subst (IsAlike cs) (first_all i (length cs) cs (omega arith)) (first_alike checked i (length cs) cs)

  -- children that are all there stay
  pub all_there_stay : (i : ℕ) (cs : List Cell) → IsSome (values_of cs) → cs ≡ all i cs
  all_there_stay i [] h = refl
  all_there_stay i (given v ∷ cs) h =
      ap (λ (ds : List Cell). given v ∷ ds) (all_there_stay (suc i) cs (both_there (Some v) (values_of cs) h).1)
  all_there_stay i _ h = absurd (cc)

  -- and so do those that aren't fields
  pub others_stay : fields_of_tracker tracker ≡ None → (i : ℕ) (cs : List Cell) → cs ≡ all i cs
  others_stay others i [] = refl
  others_stay others i (c ∷ cs) =
      ap (λ (ds : List Cell). c ∷ ds) (others_stay others (suc i) cs) ∙ ap (λ (d : Cell). d ∷ all (suc i) cs)
      (sym (cell_nothing c) ∙ ap (λ (fill : Option Val). defaulted_cell fill c) (sym (others_take table s column tracker others i)))

  -- a child's value, with its fill
  pub value_then : (i : ℕ) (c : Cell) → IsUnplaced c
      → value_of_cell (defaulted_cell (takes i) c) ≡ child_value column table s tracker i (value_of_cell c)
  value_then i absent closed = go (takes i)
    where
      go : (fill : Option Val) → value_of_cell (taken fill) ≡ fill
      go (Some v) = refl
      go None = refl
  value_then i (given v) closed = refl
  value_then i (placed n) closed = absurd closed

  -- what is asked of children with their fills
  pub asked_then : (asks : ℕ → Option Val → Option ReflectErrorKind) (i : ℕ) (cs : List Cell) → AreUnplaced cs
      → first_asked asks i (all i cs) ≡ first_asked (λ k own. asks k (child_value column table s tracker k own)) i cs
  asked_then asks i [] closed = refl
  asked_then asks i (c ∷ cs) closed =
      ap (λ (v : Option Val). option_or (asks i v) (first_asked asks (suc i) (all (suc i) cs))) (value_then i c closed.0)
      ∙ ap (option_or (asks i (child_value column table s tracker i (value_of_cell c)))) (asked_then asks (suc i) cs closed.1)

-- Places.

pub none_placed : (n : ℕ) → AreUnplaced (replicate n absent)
none_placed zero = tt
none_placed (suc n) = (tt, none_placed n)

none_occur : (n t : ℕ) → cells_occur (replicate n absent) t ≡ 0
none_occur zero t = refl
none_occur (suc n) t = omega (arith, none_occur n t)

-- a place is still what it was, but for the fills that it took
pub record HasFilled (table : Table) (s : ℕ) (old new : Body) : Type 0 where
  pub closed : IsClosed old → IsClosed new
  pub same_tokens : (t : ℕ) → body_occurs new t ≡ body_occurs old t
  pub full : IsFull table s old → IsFull table s new
  pub unconverted : is_conversion_body old ≡ false → is_conversion_body new ≡ false
  pub keeps : KeepsTracker old new

module _ (column : Column) (table : Table) (s : ℕ) (checked : IsChecked table) where
  begun_filled : (tracker : Tracker) (cells : List Cell)
      → HasFilled table s (begun_body tracker cells) (begun_body tracker (defaulted_cells column table s tracker 0 cells))
  begun_filled tracker cells =
      let alike : IsAlike cells (defaulted_cells column table s tracker 0 cells) = all_alike column table s tracker checked 0 cells in
      record {
        closed = alike.closed;
        same_tokens = alike.same_tokens;
        full = subst (IsFullAs (def_of table s) tracker) (sym alike.count);
        unconverted = λ h. h;
        keeps = (refl, alike.count, alike.kept);
      }

  as_whole : (v : Val) → tokens v ≡ [] → HasFilled table s entered_body (whole_body v)
  as_whole v light = record {
    closed = λ h. tt;
    same_tokens = λ t. light_occurs v t light;
    full = λ h. tt;
    unconverted = λ h. refl;
    keeps = refl;
  }

  by_def : (def : Def) (preset : Option Val) → def_of table s ≡ def → IsLight preset
      → HasFilled table s entered_body (defaulted_by def preset (defaulted_struct column table s))
  by_def (Def.Struct struct) (Some v) is light = as_whole v light
  by_def (Def.Struct struct) None is light =
      let n : ℕ = child_count table s in
      let begun = begun_filled (as_fields None) (replicate n absent) in
      record {
        closed = λ h. begun.closed (none_placed n);
        same_tokens = λ t. begun.same_tokens t ∙ none_occur n t;
        full = λ h. begun.full (subst (λ (def : Def). IsFullAs def (as_fields None) (length (replicate n absent))) (sym is)
            (length-replicate n absent ∙ ap count_children is));
        unconverted = λ h. refl;
        keeps = refl;
      }
  by_def (Def.Option t) (Some v) is light = as_whole none refl
  by_def _ preset is light = record {
    closed = λ h. tt;
    same_tokens = λ t. refl;
    full = λ h. tt;
    unconverted = λ h. refl;
    keeps = refl;
  }

  pub has_filled : (body : Body) → HasFilled table s body (defaulted column table s body)
  has_filled entered_body = by_def (def_of table s) (preset_of table s) refl (preset_light table s checked)
  has_filled (whole_body v) = record {
    closed = λ h. h;
    same_tokens = λ t. refl;
    full = λ h. h;
    unconverted = λ h. h;
    keeps = refl;
  }
  has_filled (begun_body tracker cells) = begun_filled tracker cells

-- whether a child that is looked up has a value

pub copied_some : (f : Value → Val) (found : Option (Bor Value)) → is_some (option_map f (option_copied found)) ≡ is_some found
copied_some f (Some value) = refl
copied_some f None = refl

pub not_some : {X : Type 0} (o : Option X) → is_some o ≡ false → o ≡ None
not_some (Some x) h = absurd (cc)
not_some None h = refl
