-- When two elements are the same, and that an element is told by its value.
use Rattle.std.proofs.Common.{◌≡◌, ℕ, ℤ, Bool, List, [], ◌∷◌, Option, Some, None, Result, Ok, Err}
use Rattle.std.specs.List.{AllZip}
use Rattle.std.specs.Prelude.{⊤}
use Rattle.fr_shape.specs.Val.{Val, Vals, bool, char, first, int, list_of, nat, product, ptr, text, token}
use Rattle.fr_facet.specs.Elements.{option_shown, result_shown, vals_shown}

-- both are empty, or both hold the same
abbrev pub IsSameOption : {A : Type 0} → (IsSame : A → A → Type 0) → Option A → Option A → Type 0
IsSameOption IsSame None None = ⊤
IsSameOption IsSame (Some x) (Some y) = IsSame x y
IsSameOption IsSame None (Some y) = ⊥
IsSameOption IsSame (Some x) None = ⊥

-- both hold the same value, or the same error
abbrev pub IsSameResult : {A E : Type 0} → (IsSame : A → A → Type 0) → (IsSameError : E → E → Type 0) → Result A E → Result A E → Type 0
IsSameResult IsSame IsSameError (Ok x) (Ok y) = IsSame x y
IsSameResult IsSame IsSameError (Err x) (Err y) = IsSameError x y
IsSameResult IsSame IsSameError (Ok x) (Err y) = ⊥
IsSameResult IsSame IsSameError (Err x) (Ok y) = ⊥

pub bool_told : (x y : Bool) → bool x ≡ bool y → x ≡ y
bool_told x y e = cc

pub char_told : (x y : ℕ) → char x ≡ char y → x ≡ y
char_told x y e = cc

pub int_told : (x y : ℤ) → int x ≡ int y → x ≡ y
int_told x y e = cc

pub nat_told : (x y : ℕ) → nat x ≡ nat y → x ≡ y
nat_told x y e = cc

pub text_told : (s t : List ℕ) → text s ≡ text t → s ≡ t
text_told s t e = cc

pub token_told : (x y : ℕ) → token x ≡ token y → x ≡ y
token_told x y e = cc

module _ {A : Type 0} (shown : A → Val) (IsSame : A → A → Type 0) (told : (x y : A) → shown x ≡ shown y → IsSame x y) where
  vals_told : (xs ys : List A) → vals_shown shown xs ≡ vals_shown shown ys → AllZip IsSame xs ys
  vals_told [] [] e = tt
  vals_told [] (y ∷ ys) e = cc
  vals_told (x ∷ xs) [] e = cc
  vals_told (x ∷ xs) (y ∷ ys) e = (told x y cc, vals_told xs ys cc)

  pub list_told : (xs ys : List A) → list_of (vals_shown shown xs) ≡ list_of (vals_shown shown ys) → AllZip IsSame xs ys
  list_told xs ys e = vals_told xs ys cc

  pub option_told : (x y : Option A) → option_shown shown x ≡ option_shown shown y → IsSameOption IsSame x y
  option_told None None e = tt
  option_told None (Some y) e = cc
  option_told (Some x) None e = cc
  option_told (Some x) (Some y) e = told x y cc

  pub box_told : (x y : A) → ptr (shown x) ≡ ptr (shown y) → IsSame x y
  box_told x y e = told x y cc

  module _ {E : Type 0} (shown_error : E → Val) (IsSameError : E → E → Type 0) (told_error : (x y : E) → shown_error x ≡ shown_error y → IsSameError x y) where
    pub result_told : (x y : Result A E) → result_shown shown shown_error x ≡ result_shown shown shown_error y → IsSameResult IsSame IsSameError x y
    result_told (Ok x) (Ok y) e = told x y cc
    result_told (Ok x) (Err y) e = cc
    result_told (Err x) (Ok y) e = cc
    result_told (Err x) (Err y) e = told_error x y cc

-- a struct's parts are told by the product that it is
module _ {P : Type 0} (shown : P → Vals) (IsSame : P → P → Type 0) (told : (x y : P) → shown x ≡ shown y → IsSame x y) where
  pub struct_told : (x y : P) → product (shown x) ≡ product (shown y) → IsSame x y
  struct_told x y e = told x y cc

-- the first part is told by its value, and the others by theirs
module _ {A P : Type 0} (shown : A → Val) (IsSame : A → A → Type 0) (told : (x y : A) → shown x ≡ shown y → IsSame x y)
    (others_shown : P → Vals) (AreSame : P → P → Type 0) (others_told : (x y : P) → others_shown x ≡ others_shown y → AreSame x y) where
  pub parts_told : (x y : A) (others further : P) → first (shown x) (others_shown others) ≡ first (shown y) (others_shown further)
      → IsSame x y × AreSame others further
  parts_told x y others further e = (told x y cc, others_told others further cc)
