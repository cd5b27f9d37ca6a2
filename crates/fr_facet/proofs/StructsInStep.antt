-- The fields of a struct and those that are wanted, one after another.
use Rattle.std.proofs.Common.{◌≡◌, ℕ, ◌+◌, ◌<◌, ◌≢◌, ◌≤◌, Bool, true, false, ◌&&◌, List, [], ◌∷◌, length, drop, get_or, Option, refl, sym, ap, ◌∙◌, arith}
use Rattle.std.proofs.Math.ListN.{drop_of_length-le}
use Rattle.std.proofs.lemmas.List.{drop_more}
use Rattle.std.specs.Borrow.{Bor}
use Rattle.std.specs.Option.{option_map}
use Rattle.fr_shape.specs.declared.shape.Field.{Field}
use Rattle.fr_shape.specs.declared.shape.ShapeId.{ShapeId}
use Rattle.fr_facet.specs.Structs.{are_fields, is_field, names_of}

abbrev Wanted : Type 0
Wanted = Bor (List ℕ) × Option ShapeId

-- what is left of both from the i-th on decides whether they are the same
abbrev pub IsSoFar : List Wanted → List Field → ℕ → Type 0
IsSoFar wanted fields i = are_fields (names_of (drop i wanted)) (drop i fields) ≡ are_fields (names_of wanted) fields

-- so many of the one and of the other can't be the same
pub counts_apart : (wanted : List Wanted) (fields : List Field) → length fields ≢ length wanted → are_fields (names_of wanted) fields ≡ false
counts_apart [] [] apart = absurd (apart refl)
counts_apart [] (field ∷ fields) apart = refl
counts_apart (name ∷ names) [] apart = refl
counts_apart (name ∷ names) (field ∷ fields) apart =
    rest (is_field name.0.now (option_map (λ (id : ShapeId). id.0) name.1) field) (counts_apart names fields (λ same. apart (omega arith)))
  where
    rest : (is : Bool) → are_fields (names_of names) fields ≡ false → (is && are_fields (names_of names) fields) ≡ false
    rest true others = others
    rest false others = refl

module _ (wanted : List Wanted) (fields : List Field) (i : ℕ) (name : Wanted) (field : Field)
    (in_wanted : i < length wanted) (in_fields : i < length fields) (at : name ≡ get_or wanted i name) (field_at : field ≡ get_or fields i field) where
  here : are_fields (names_of (drop i wanted)) (drop i fields)
      ≡ (is_field name.0.now (option_map (λ (id : ShapeId). id.0) name.1) field && are_fields (names_of (drop (i + 1) wanted)) (drop (i + 1) fields))
  here =
      ap (λ (ws : List Wanted). are_fields (names_of ws) (drop i fields)) (drop_more wanted i name in_wanted ∙ ap (λ (w : Wanted). w ∷ drop (i + 1) wanted) (sym at))
      ∙ ap (λ (fs : List Field). are_fields (names_of (name ∷ drop (i + 1) wanted)) fs)
      (drop_more fields i field in_fields ∙ ap (λ (f : Field). f ∷ drop (i + 1) fields) (sym field_at))

  pub another : is_field name.0.now (option_map (λ (id : ShapeId). id.0) name.1) field ≡ false → IsSoFar wanted fields i
      → false ≡ are_fields (names_of wanted) fields
  another is so_far =
      sym (ap (λ (b : Bool). b && are_fields (names_of (drop (i + 1) wanted)) (drop (i + 1) fields)) is) ∙ sym here ∙ so_far

  pub one_more : is_field name.0.now (option_map (λ (id : ShapeId). id.0) name.1) field ≡ true → IsSoFar wanted fields i
      → IsSoFar wanted fields (i + 1)
  one_more is so_far =
      sym (ap (λ (b : Bool). b && are_fields (names_of (drop (i + 1) wanted)) (drop (i + 1) fields)) is) ∙ sym here ∙ so_far

-- all are the same
pub all_same : (wanted : List Wanted) (fields : List Field) (i : ℕ) → length fields ≤ i → length wanted ≤ i → IsSoFar wanted fields i
    → true ≡ are_fields (names_of wanted) fields
all_same wanted fields i in_fields in_wanted so_far =
    sym (ap (λ (ws : List Wanted). are_fields (names_of ws) (drop i fields)) (drop_of_length-le wanted in_wanted)
    ∙ ap (λ (fs : List Field). are_fields [] fs) (drop_of_length-le fields in_fields)) ∙ so_far
