-- Laws of conversions that are made, for proofs: what they make, and what they lack.
use Rattle.std.proofs.Common.{◌≡◌, ℕ, ◌<◌, ◌≤◌, Bool, true, false, [], ◌∷◌, Option, Some, None, refl, ◌∙◌, ap, arith}
use Rattle.std.specs.Prelude.{is_some}
use Rattle.fr_shape.specs.Hooks.{Meaning, gives}
use Rattle.fr_shape.specs.Look.{IsIn}
use Rattle.fr_store.specs.Below.{ContentKind, Conversion, Kids, Meanings, Plot, ReflectErrorKind, Suits, Table, Tracker, Tree, Val, as_content, at, begun, branch, cells_in, complete, deferred_column, hole, is_begun_conversion, is_conversion, kid, made, no_kids, no_trees, no_vals, one_more, own_lack, placed}
use Rattle.fr_frame.specs.Converting.{conversion_of}
use Rattle.fr_model.specs.Complete.{unless_failing}
use Rattle.fr_model.specs.Conversions.{failing_source, refusal_through, taken, value_given}
use Rattle.fr_model.specs.Well.{IsTouched}
use Rattle.fr_store.specs.Ways.{count_kids, kid_nth}
use Rattle.fr_store.proofs.FailTurns.{Converts, lack_is}

pub none_converted : (tracker : Tracker) → conversion_of tracker ≡ None → is_conversion tracker ≡ false
none_converted (as_content (ContentKind.Source conversion)) e = cc
none_converted _ e = refl

pub some_converted : (tracker : Tracker) → is_some (conversion_of tracker) ≡ true
    → (c : Conversion) × (tracker ≡ as_content (ContentKind.Source c))
some_converted (as_content (ContentKind.Source conversion)) e = (conversion, refl)
some_converted _ e = absurd (cc)

-- there is none
pub none_by : {X : Type 0} (x : Option X) → false ≡ is_some x → x ≡ None
none_by (Some x) e = cc
none_by None e = refl

-- an only child in a slot
pub one_cell : (ks : Kids) {n : ℕ} {stored : Bool} {plot : Plot} → count_kids ks ≤ 1 → 0 < count_kids ks → kid_nth 0 ks ≡ at n stored plot
    → cells_in ks ≡ placed n ∷ []
one_cell no_kids alone some e = absurd (omega (arith, some))
one_cell (kid (at m stored plot) no_kids) {n} alone some e =
    let same : m ≡ n = cc in
    ap (λ (x : ℕ). placed x ∷ []) same
one_cell (kid _ no_kids) alone some e = absurd (cc)
one_cell (kid x (kid y ks)) alone some e = absurd (omega (arith, alone))

-- a conversion is to a shape of the table
pub target_of : (table : Table) (s : ℕ) (t : Tree) → Suits table s t → is_begun_conversion t ≡ true → IsIn table s
target_of table s (begun (as_content (ContentKind.Source conversion)) ts) suits e = suits.2.1
target_of table s (begun _ ts) suits e = absurd (cc)
target_of table s _ suits e = absurd (cc)

module _ (means : Meanings) (table : Table) (s : ℕ) where
  -- what a conversion makes by what its source makes
  abbrev converted_by : Conversion → Option Val → Option Val
  converted_by c value =
      made (as_content (ContentKind.Source c)) (one_more
      (unless_failing (failing_source means table s c value) (taken means table s (as_content (ContentKind.Source c)) value)) (Some no_vals))

  made_so : (c : Conversion) (source : Tree) → IsTouched source
      → complete deferred_column means table s (begun (as_content (ContentKind.Source c)) (branch source no_trees))
      ≡ converted_by c (complete deferred_column means table c.source source)
  made_so c hole touched = absurd touched
  made_so c source touched = refl

  -- and by what its hook makes of that
  abbrev converted_as : Conversion → Meaning → Option Val
  converted_as c meaning =
      made (as_content (ContentKind.Source c))
      (one_more (unless_failing (refusal_through c.through c.source s meaning) (value_given meaning)) (Some no_vals))

  module _ {t : Tree} (converts : Converts t) {v : Val}
      (makes : complete deferred_column means table converts.conversion.source converts.source ≡ Some v) where
    abbrev c : Conversion
    c = converts.conversion

    complete_is : complete deferred_column means table s t ≡ converted_as c (means.convert table c.hook s v)
    complete_is =
        ap (complete deferred_column means table s) converts.is ∙ made_so c converts.source converts.touched ∙ ap (converted_by c) makes

    -- where its hook makes something of the source's value, that
    pub converted_makes : {w : Val} → means.convert table converts.conversion.hook s v ≡ gives w
        → complete deferred_column means table s t ≡ Some w
    converted_makes given = complete_is ∙ ap (converted_as c) given

    -- else nothing, and that is what it lacks
    pub unconverted_lacks : {kind : ReflectErrorKind} → refusal_through converts.conversion.through converts.conversion.source s
        (means.convert table converts.conversion.hook s v) ≡ Some kind
        → (complete deferred_column means table s t ≡ None) × (own_lack means table s t ≡ Some kind)
    unconverted_lacks refusal = (
      complete_is ∙ ap (λ (failing : Option ReflectErrorKind). made (as_content (ContentKind.Source c))
          (one_more (unless_failing failing (value_given (means.convert table c.hook s v))) (Some no_vals))) refusal,
      ap (own_lack means table s) converts.is ∙ lack_is means table s c converts.source converts.touched
          ∙ ap (failing_source means table s c) makes ∙ refusal,
    )
