-- One more row of what is told element by element.
use Rattle.std.proofs.Common.{◌≡◌, ◌∙◌, ap, sym, refl, ℕ, suc, zero, ◌+◌, ◌<◌, List, [], ◌∷◌, ◌++◌, length, take, drop, min, get_or, arith, add-one, Option}
use Rattle.std.proofs.lemmas.List.{drop-drop, length-drop, drop_min, get_or-drop, take_min}
use Rattle.fr_shape.specs.declared.shape.VariantDef.{VariantDef}
use Rattle.fr_plan.specs.declared.nodes.NodeId.{NodeId}
use Rattle.fr_plan.specs.Plans.{PlacedVariant, variants_from}
use Rattle.fr_plan.proofs.WalkSteps.{left_of}
use Rattle.std.specs.List.{AllZip}
use Rattle.std.proofs.Math.Seq.{take-suc}
use Rattle.fr_shape.specs.declared.shape.Field.{Field}
use Rattle.fr_shape.specs.declared.shape.ShapeId.{ShapeId}
use Rattle.fr_plan.specs.Build.{Placed, fields_from}

zip_push : {A B : Type 0} (R : A → B → Type 0) (xs : List A) (ys : List B) (x : A) (y : B) → AllZip R xs ys → R x y
    → AllZip R (xs ++ x ∷ []) (ys ++ y ∷ [])
zip_push R [] [] x y all one = (one, tt)
zip_push R [] (b ∷ ys) x y all one = absurd all
zip_push R (a ∷ xs) [] x y all one = absurd all
zip_push R (a ∷ xs) (b ∷ ys) x y all one = (all.0, zip_push R xs ys x y all.1 one)

-- what is told of the first i elements, and of the next
pub zip_more : {A B : Type 0} (R : A → B → Type 0) (xs : List A) (ys : List B) (i : ℕ) (x : A) (y : B) → i < length xs
    → get_or xs i x ≡ x → AllZip R (take i xs) ys → R x y → AllZip R (take (i + 1) xs) (ys ++ y ∷ [])
zip_more R xs ys i x y inside is all one =
    rw (add-one i, take-suc xs i x inside, is) (zip_push R (take i xs) ys x y all one)

-- what the head of the rest says of the whole
pub next_element : {A : Type 0} (xs : List A) (i : ℕ) (x : A) (ys : List A) → drop i xs ≡ x ∷ ys
    → (i < length xs) × (get_or xs i x ≡ x) × (drop (i + 1) xs ≡ ys)
next_element xs i x ys left = (
  omega (arith, length-drop i xs, ap length left),
  ap (λ (n : ℕ). get_or xs n x) (omega arith) ∙ sym (get_or-drop i xs 0 x) ∙ ap (λ (zs : List _). get_or zs 0 x) left,
  sym (drop-drop 1 i xs) ∙ ap (drop 1) left,
)

-- the variants that are left, one step on
pub variants_next : (variants : List VariantDef) (whole : List PlacedVariant) (rest : List NodeId) (i number long : ℕ) (variant : VariantDef)
    → drop i whole ≡ variants_from i rest (drop i variants) → i < length variants → variant ≡ get_or variants i variant
    → number ≡ i → long ≡ min (length variant.fields) (length rest)
    → drop i whole
    ≡ record { number = number; variant = variant; nodes = take long rest }
    ∷ variants_from (i + 1) (drop long rest) (drop (i + 1) variants)
variants_next variants whole rest i number long variant left inside is same cut =
    left ∙ ap (variants_from i rest) (left_of variants i variant inside is)
    ∙ ap (λ (n : ℕ). record { number = n; variant = variant; nodes = take (length variant.fields) rest }
    ∷ variants_from (i + 1) (drop (length variant.fields) rest) (drop (i + 1) variants)) (sym same)
    ∙ ap (λ (own : List NodeId). record { number = number; variant = variant; nodes = own }
    ∷ variants_from (i + 1) (drop (length variant.fields) rest) (drop (i + 1) variants))
    (sym (take_min (length variant.fields) rest) ∙ ap (λ (k : ℕ). take k rest) (sym cut))
    ∙ ap (λ (others : List NodeId). record { number = number; variant = variant; nodes = take long rest }
    ∷ variants_from (i + 1) others (drop (i + 1) variants))
    (sym (drop_min (length variant.fields) rest) ∙ ap (λ (k : ℕ). drop k rest) (sym cut))

pub length-variants_from : (k : ℕ) (nodes : List NodeId) (variants : List VariantDef)
    → length (variants_from k nodes variants) ≡ length variants
length-variants_from k nodes [] = refl
length-variants_from k nodes (variant ∷ variants) =
    ap suc (length-variants_from (k + 1) (drop (length variant.fields) nodes) variants)

module _ (id : ShapeId) (variant : Option ℕ) where
  pub length-fields_from : (k : ℕ) (fields : List Field) → length (fields_from id variant k fields) ≡ length fields
  length-fields_from k [] = refl
  length-fields_from k (field ∷ fields) = ap suc (length-fields_from (k + 1) fields)

  get_or-fields_from : (k : ℕ) (fields : List Field) (i : ℕ) (d : Placed) (e : Field) → i < length fields
      → get_or (fields_from id variant k fields) i d
      ≡ record { meant = record { shape = id; variant = variant; index = k + i }; field = get_or fields i e }
  get_or-fields_from k [] i d e inside = absurd (omega (arith, inside))
  get_or-fields_from k (field ∷ fields) zero d e inside =
      ap (λ (n : ℕ). record { meant = record { shape = id; variant = variant; index = n }; field = field }) (omega arith)
  get_or-fields_from k (field ∷ fields) (suc i) d e inside =
      get_or-fields_from (k + 1) fields i d e (omega (arith, inside))
      ∙ ap (λ (n : ℕ). record { meant = record { shape = id; variant = variant; index = n }; field = get_or fields i e }) (omega arith)

  -- the plan of one more field
  pub fields_more : {B : Type 0} (R : Placed → B → Type 0) (fields : List Field) (plans : List B) (i index : ℕ) (field : Field) (plan : B)
      → i < length fields → field ≡ get_or fields i field → index ≡ i
      → AllZip R (take i (fields_from id variant 0 fields)) plans
      → R (record { meant = record { shape = id; variant = variant; index = index }; field = field }) plan
      → AllZip R (take (i + 1) (fields_from id variant 0 fields)) (plans ++ plan ∷ [])
  fields_more R fields plans i index field plan inside is same all one =
      let placed : Placed = record { meant = record { shape = id; variant = variant; index = index }; field = field } in
      let there : get_or (fields_from id variant 0 fields) i placed ≡ placed =
      get_or-fields_from 0 fields i placed field inside
      ∙ ap (λ (n : ℕ). record { meant = record { shape = id; variant = variant; index = n }; field = get_or fields i field }) (omega (arith, same))
      ∙ ap (λ (f : Field). record { meant = record { shape = id; variant = variant; index = index }; field = f }) (sym is) in
      zip_more R (fields_from id variant 0 fields) plans i placed plan (omega (arith, inside, length-fields_from 0 fields)) there all one
